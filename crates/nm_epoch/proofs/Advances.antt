-- How an advance ends.
use Rattle.std.proofs.Common.{◌≡◌, ◌+◌, ◌<◌, ℕ, false, List, refl, sym, ap, subst, ◌∙◌}
use Rattle.std.specs.Prelude.{Option, Some, Result, Ok, Err}
use Rattle.std.proofs.lemmas.Bool.{eqb-false}
use Rattle.std.proofs.lemmas.Option.{same_Some}
use Rattle.nm_model.specs.declared.event.Event.TheVariants as event
use Rattle.nm_model.specs.declared.knowledge.Brief.{Brief}
use Rattle.nm_model.specs.Knowledge.{Knowledge}
use Rattle.nm_model.specs.Learning.{learn}
use Rattle.nm_model.specs.Searches.{searched}
use Rattle.nm_model.specs.Walks.{Entry}
use Rattle.nm_steps.specs.Rules.{knowledge}
use Rattle.nm_steps.specs.Steps.{PassView, Stepped, Continues, TakesStep, IsAdvanceFrom, advance_reply, IsSamePass}
use Rattle.nm_steps.proofs.Noting.{noted}
use Rattle.nm_steps.proofs.Seeing.{continues_then, continues_by}
use Rattle.nm_epoch.specs.declared.answers.Advance.TheVariants.{Moved, Held, Lost}
use Rattle.nm_epoch.specs.Resting.{Settles, KeepsHands, GoesOnSettled, epochs}
use Rattle.nm_epoch.specs.Scans.{LooksAt, SightThenScans, IsAdvance, lets_pass}
use Rattle.nm_epoch.proofs.Marks.{IsLooking}
use Rattle.nm_epoch.proofs.Entries.{epochs_after, search_is}
use Rattle.nm_epoch.proofs.KeptHands.{is_label, hands_kept, kept_on, look_keeps}
use Rattle.nm_epoch.proofs.Scanning.{look_epochs, settles_on}
use Rattle.nm_steps.proofs.Presence.{known_after_step}

-- ---- the last step

noted_advance : (b : Brief) (r : Result ℕ ℕ) → (e : ℕ)
    × (noted b event.Advance (advance_reply r) ≡ record b { seen = Some e })
noted_advance b (Ok e) = (e, refl)
noted_advance b (Err e) = (e, refl)

advance_known : (w : ℕ) (k : Knowledge) (r : Result ℕ ℕ) → (learn w k event.Advance (advance_reply r)).known ≡ k.known
unfolding learn
advance_known w k (Ok e) = refl
advance_known w k (Err e) = refl

advance_is_silent : (r : Result ℕ ℕ) → is_label (advance_reply r) ≡ false
advance_is_silent (Ok e) = refl
advance_is_silent (Err e) = refl

module _ (p q : PassView) (r : Result ℕ ℕ) (step : Stepped p q event.Advance (advance_reply r)) where
  after : (e : ℕ) × (epochs q ≡ record (epochs p) { seen = Some e })
  after = let n = noted_advance (epochs p) r in (n.0, epochs_after p q event.Advance (advance_reply r) step ∙ n.1)

  pin_stays : (epochs q).pin ≡ (epochs p).pin
  pin_stays = ap (λ (b : Brief). b.pin) after.1

  settles_advance : (o : PassView) → Settles o p → Settles o q
  unfolding searched
  settles_advance o s = record {
    labelled = ap (λ (b : Brief). b.unlabelled) after.1 ∙ s.labelled;
    stays = λ settled. let t = s.stays settled in record {
      announcement = ap (λ (b : Brief). b.announcement) after.1 ∙ t.announcement;
      pin = pin_stays ∙ t.pin;
      search = search_is p q event.Advance (advance_reply r) step ∙ t.search;
      known = ap (λ (k : Knowledge). k.known) (known_after_step p q event.Advance (advance_reply r) step)
          ∙ (advance_known p.view.number (knowledge p.view) r ∙ t.known);
    };
  }

  advance_keeps : (o : PassView) → KeepsHands o p → KeepsHands o q
  advance_keeps o h = kept_on o p q h (hands_kept p q event.Advance (advance_reply r) step refl
      (λ _. advance_is_silent r))

  all_scanned : (me e m n : ℕ) (old : List Entry) → n ≡ m → IsLooking me e n old p
      → SightThenScans me (epochs q).pin e m old p.view.log
  all_scanned me e m n old all h = subst (λ (o : Option ℕ). SightThenScans me o e m old p.view.log) (sym pin_stays)
      (subst (λ (k : ℕ). SightThenScans me (epochs p).pin e k old p.view.log) all h.part)

same_epoch : (o : Option ℕ) (s e : ℕ) → o ≡ Some s → o ≡ Some e → s ≡ e
same_epoch o s e is seen = same_Some s e (sym is ∙ seen)

pub is_moved : (p q : PassView) (next me e m n : ℕ) (old : List Entry)
    → Stepped p q event.Advance (advance_reply (Ok next)) → IsAdvanceFrom (epochs p).seen (Ok next) → n ≡ m
    → IsLooking me e n old p → IsAdvance m me (epochs q).pin old q.view.log (Moved next)
is_moved p q next me e m n old step from all h = (
  e,
  p.view.log,
  all_scanned p q (Ok next) step me e m n old all h,
  from.2
      ∙ ap (λ (s : ℕ). s + 1) (same_epoch (epochs p).seen from.0 e from.1 h.seen),
  ap (λ (x : PassView). x.view.log)
      step,
)

pub is_lost : (p q : PassView) (found me e m n : ℕ) (old : List Entry)
    → Stepped p q event.Advance (advance_reply (Err found)) → IsAdvanceFrom (epochs p).seen (Err found) → n ≡ m
    → IsLooking me e n old p → IsAdvance m me (epochs q).pin old q.view.log (Lost found)
is_lost p q found me e m n old step from all h = (
  e,
  p.view.log,
  all_scanned p q (Err found) step me e m n old all h,
  (λ is. from.2 (is ∙ sym (same_epoch (epochs p).seen from.0 e from.1 h.seen))),
  ap
      (λ (x : PassView). x.view.log) step,
)

-- ---- held back

pub is_held : (p q : PassView) (at me e m v : ℕ) (found : Option ℕ) (old : List Entry) → IsSamePass p q
    → LooksAt me (epochs p).pin v found p.view.log q.view.log → found ≡ Some at → lets_pass found e ≡ false → v < m
    → IsLooking me e v old p
    → IsAdvance m me (epochs q).pin old q.view.log (Held v at)
is_held p q at me e m v found old same look is other below h =
    let pin : (epochs p).pin ≡ (epochs q).pin = sym
    (ap (λ (b : Brief). b.pin) (look_epochs me v (epochs p).pin found p q same look)) in (
      e,
      p.view.log,
      subst (λ (o : Option ℕ). SightThenScans me o e v old p.view.log) pin h.part,
      below,
      λ same_epoch. eqb-false e at (subst (λ (o : Option ℕ). lets_pass o e ≡ false) is other) (sym same_epoch),
      subst (λ (o : Option ℕ). LooksAt me o v (Some at) p.view.log q.view.log) pin
          (subst (λ (o : Option ℕ). LooksAt me (epochs p).pin v o p.view.log q.view.log) is look),
    )

-- ---- what a look and a move leave

pub look_goes_on : (me v : ℕ) (found : Option ℕ) (o p q : PassView) → GoesOnSettled o p → Continues p q
    → LooksAt me (epochs p).pin v found p.view.log q.view.log → GoesOnSettled o q
look_goes_on me v found o p q was on look = record {
  on = continues_then o p q was.on on;
  settles = settles_on me v (epochs p).pin found p q on.same look o was.settles;
  hands = kept_on o p q was.hands (look_keeps me v (epochs p).pin found p q on.same look);
}

pub advance_goes_on : (o p q : PassView) (r : Result ℕ ℕ) → GoesOnSettled o p
    → TakesStep p q event.Advance (advance_reply r) → GoesOnSettled o q
advance_goes_on o p q r was took = record {
  on = continues_then o p q was.on (continues_by p q event.Advance (advance_reply r) took);
  settles = settles_advance p q r took.step o was.settles;
  hands = advance_keeps p q r took.step o was.hands;
}
