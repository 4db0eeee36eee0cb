-- A look-up: what its pin tells, and which answers the log shows then.
use Rattle.std.proofs.Common.{◌≡◌, ◌≢◌, inr, ℕ, zero, suc, ◌==◌, Bool, true, false, List, [], ◌∷◌, ◌++◌, refl, sym, ap, subst}
use Rattle.std.specs.Prelude.{Some}
use Rattle.std.proofs.lemmas.Bool.{eqb-false, eqb-true}
use Rattle.nm_edge.specs.Layouts.{Layout}
use Rattle.nm_edge.specs.declared.edge.Side.{Side}
use Rattle.nm_model.specs.declared.event.Event.TheVariants.{Leave, SightFor}
use Rattle.nm_model.specs.declared.event.Op.{Op}
use Rattle.nm_model.specs.declared.event.Op.TheVariants.{Has}
use Rattle.nm_model.specs.declared.reply.Reply.TheVariants.{Departed}
use Rattle.nm_model.specs.Maps.{has}
use Rattle.nm_model.specs.Searches.{Search}
use Rattle.nm_model.specs.Walks.{Entry}
use Rattle.nm_order.specs.Facts.Since.{ThePin}
use Rattle.nm_order.specs.Facts.Fact.{KnowsSlot, CallIs, EndedAt}
use Rattle.nm_steps.specs.Steps.{PassView}
use Rattle.nm_epoch.specs.Resting.{IsPinnedAt}
use Rattle.nm_epoch.specs.Tries.{IsPinnedBy}
use Rattle.nm_calls.specs.Calls.{LostWalks, HasMissed}
use Rattle.nm_calls.specs.Leaving.{IsItsAnswer, ShowsAnswer}
use Rattle.nm_walks.specs.Telling.{Tells, IsPinnedSomewhere}

-- ---- what a pin for a call tells

module _ (p : PassView) (epoch : ℕ) (op : Op) (key : ℕ)
    (at : IsPinnedAt epoch (Some (record { op = op; key = key })) p) where
  pub is_pinned : IsPinnedSomewhere p
  is_pinned = (epoch, at.pin)

  pub knows_second : Tells p (KnowsSlot 2)
  knows_second = ap (λ m. has m 2) at.known

  pub call_is : Tells p (CallIs op key)
  call_is = ap (λ (s : Search). s.call) at.begun

-- ---- answers

pub shows_found : (p : PassView) (k v leaf parent : ℕ) (side : Side) (present : Bool) → Tells p (CallIs Has k)
    → Tells p (EndedAt ThePin k leaf parent side v) → present ≡ (v == k) → IsItsAnswer p present
shows_found p k v leaf parent side present call ended is = (Has, k, call, by present is)
  where
    by : (b : Bool) → b ≡ (v == k) → ShowsAnswer p Has k b
    by true is = (
      leaf,
      (
        parent,
        side,
        subst (λ (n : ℕ). Tells p (EndedAt ThePin k leaf parent side n))
            (eqb-true v k (sym is)) ended,
      ),
    )
    by false is = (leaf, v, eqb-false v k (sym is), (parent, side, ended))

-- ---- all walks broken off

pub missed : (L : Layout) (tries k : ℕ) (old a z new : List Entry) (epoch : ℕ) → tries ≢ 0
    → IsPinnedBy (SightFor Has k) tries old a epoch → LostWalks L k tries a z → new ≡ z ++ (Leave, Departed) ∷ []
    → HasMissed L tries k old new
missed L zero k old a z new epoch some pin lost leaves = absurd (some refl)
missed L (suc t) k old a z new epoch some pin lost leaves = inr (a, z, epoch, pin, lost, leaves)
