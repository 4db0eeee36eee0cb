-- A worker that has left rests, and a label is told once.
use Rattle.std.proofs.Common.{◌≡◌, ℕ, Bool, false, refl, inl, inr, ap, ◌∙◌}
use Rattle.std.specs.Prelude.{Option, Some, is_some}
use Rattle.nm_model.specs.declared.knowledge.Brief.{Brief}
use Rattle.nm_model.specs.declared.event.Event.TheVariants.{Sight, Leave, LeaveWith}
use Rattle.nm_model.specs.declared.reply.Reply.TheVariants.{Departed, Labelled}
use Rattle.nm_model.specs.Searches.{Search, searched}
use Rattle.nm_steps.specs.Steps.{PassView, Stepped, MayStep}
use Rattle.nm_epoch.specs.Resting.{IsResting, IsPinnedAt, Settles, KeepsHands, epochs}
use Rattle.nm_model.specs.declared.arrivals.Call.{Call}
use Rattle.nm_epoch.proofs.Allowed.{may_leave}
use Rattle.nm_epoch.proofs.Entries.{epochs_after, search_is}
use Rattle.nm_epoch.proofs.KeptHands.{hands_kept}

pub rests_after_leave : (p q : PassView) → Stepped p q Leave Departed → (epochs p).unlabelled ≡ false → IsResting q
unfolding searched
rests_after_leave p q step labelled =
    let after = epochs_after p q Leave Departed step in
    record {
      unpinned = ap (λ (b : Brief). b.pin) after;
      silent = ap (λ (b : Brief). b.announcement) after;
      labelled = ap (λ (b : Brief). b.unlabelled) after ∙ labelled;
      idle = search_is p q Leave Departed step;
    }

pub rests_after_answer : (p q : PassView) (answer : Bool) → Stepped p q (LeaveWith answer) Departed
    → (epochs p).unlabelled ≡ false → IsResting q
unfolding searched
rests_after_answer p q answer step labelled =
    let after = epochs_after p q (LeaveWith answer) Departed step in
    record {
      unpinned = ap (λ (b : Brief). b.pin) after;
      silent = ap (λ (b : Brief). b.announcement) after;
      labelled = ap (λ (b : Brief). b.unlabelled) after ∙ labelled;
      idle = search_is p q (LeaveWith answer) Departed step;
    }

pub labelled_after : (p q : PassView) (e : ℕ) → Stepped p q Sight (Labelled e) → (epochs q).unlabelled ≡ false
labelled_after p q e step = ap (λ (b : Brief). b.unlabelled) (epochs_after p q Sight (Labelled e) step)

-- what is in its hands stays
pub leave_keeps : (p q : PassView) → Stepped p q Leave Departed → KeepsHands p q
leave_keeps p q step = hands_kept p q Leave Departed step refl (λ _. refl)

pub answer_keeps : (p q : PassView) (answer : Bool) → Stepped p q (LeaveWith answer) Departed → KeepsHands p q
answer_keeps p q answer step = hands_kept p q (LeaveWith answer) Departed step refl (λ _. refl)

-- the epoch last read stays
pub seen_after_leave : (p q : PassView) (e : ℕ) → Stepped p q Leave Departed → (epochs p).seen ≡ Some e
    → (epochs q).seen ≡ Some e
seen_after_leave p q e step seen = ap (λ (b : Brief). b.seen) (epochs_after p q Leave Departed step) ∙ seen

-- ---- after a look at the epoch or at the others

-- a worker that rests still rests
pub rests_still : (p q : PassView) → IsResting p → Settles p q → IsResting q
rests_still p q r s =
    let t = s.stays (inr r.silent) in
    record {
      unpinned = t.pin ∙ r.unpinned;
      silent = t.announcement
          ∙ r.silent;
      labelled = s.labelled;
      idle = t.search ∙ r.idle;
    }

-- and one that is pinned for a call that has only begun may still leave
pub pinned_may_still_leave : (p q : PassView) (e : ℕ) (call : Option Call) → IsPinnedAt e call p → Settles p q
    → MayStep q Leave
pinned_may_still_leave p q e call at s =
    let t = s.stays (inl (ap is_some at.pin)) in
    may_leave q s.labelled (ap (λ (x : Search). x.linked) (t.search ∙ at.begun))
    (ap (λ (x : Search). x.swapped) (t.search ∙ at.begun)) (ap (λ (x : Search). x.flagged) (t.search ∙ at.begun))
