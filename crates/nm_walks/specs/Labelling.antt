-- The effect of a cut's label, and the pin of a call.
use Rattle.std.specs.Prelude.{◌≡◌, ℕ, false, Some}
use Rattle.nm_model.specs.declared.event.Op.{Op}
use Rattle.nm_order.specs.Facts.Fact.{KnowsSlot, CallIs}
use Rattle.nm_steps.specs.Rules.{knowledge}
use Rattle.nm_steps.specs.Steps.{PassView}
use Rattle.nm_epoch.specs.Resting.{epochs, search}
use Rattle.nm_walks.specs.Telling.{Tells}

-- the pin is one for a call of that operation on k, and the slots from which walks begin are known
pub record IsPinnedForCall (op : Op) (k : ℕ) (p : PassView) : Type 0 where
  pub root : Tells p (KnowsSlot 1)
  pub known : Tells p (KnowsSlot 2)
  pub call : Tells p (CallIs op k)

-- only the label of the cut and the epoch that was read have changed
pub record OnlyLabels (epoch : ℕ) (p q : PassView) : Type 0 where
  pub seen : (epochs q).seen ≡ Some epoch
  pub announcement : (epochs q).announcement ≡ (epochs p).announcement
  pub pin : (epochs q).pin ≡ (epochs p).pin
  pub labelled : (epochs q).unlabelled ≡ false
  pub private : (knowledge q.view).drafts ≡ (knowledge p.view).drafts
  pub known : (knowledge q.view).known ≡ (knowledge p.view).known
  pub search : search q ≡ search p
