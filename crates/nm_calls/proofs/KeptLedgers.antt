-- What a call leaves of the ledgers that its worker holds.
use Rattle.std.proofs.Common.{◌≡◌, ℕ, false, List, [], ◌∷◌, ◌++◌, sym, ap, subst, ◌∙◌}
use Rattle.nm_model.specs.declared.event.Event.{Event}
use Rattle.nm_model.specs.declared.event.Event.TheVariants.{Leave, LeaveWith}
use Rattle.nm_model.specs.declared.reply.Reply.TheVariants.{Departed}
use Rattle.nm_model.specs.Ledgers.{labelled}
use Rattle.nm_steps.specs.Rules.{knowledge}
use Rattle.nm_model.specs.Walks.{Entry}
use Rattle.nm_limbo.specs.Queue.{BlockQueue}
use Rattle.nm_steps.specs.Steps.{PassView, TakesStep, IsSamePass}
use Rattle.nm_steps.proofs.Seeing.{same_by_step}
use Rattle.nm_epoch.specs.declared.collecting.Entry.{Entry as Waiting}
use Rattle.nm_epoch.specs.declared.collecting.HeldQueue.{HeldQueue}
use Rattle.nm_epoch.specs.Collecting.{IsQueueOf}
use Rattle.nm_epoch.specs.Resting.{KeepsHands, epochs}
use Rattle.nm_walks.specs.Cleanups.{HoldsCuts, KeepsLedgers, freed_of_origin}
use Rattle.nm_walks.proofs.Adding.{Adds, adds_these}
use Rattle.nm_walks.proofs.KeptLedgers.{holds_on}

-- ---- ledgers that stay

pub ledgers_then : (o p q : PassView) → IsSamePass o p → KeepsLedgers o p → KeepsLedgers p q → KeepsLedgers o q
ledgers_then o p q same a b =
    let number : p.view.number ≡ o.view.number = ap (λ (x : PassView). x.view.number) same in
    record {
      others = λ x other. b.others x (λ is. other (is ∙ number)) ∙ a.others x other;
      freed = subst (λ (n : ℕ). freed_of_origin (knowledge q.view) n ≡ freed_of_origin (knowledge p.view) n) number
          b.freed ∙ a.freed;
    }

-- and where the pin is left
abbrev pub IsLeave : Event → Type 0
IsLeave Leave = Unit {0}
IsLeave (LeaveWith answer) = Unit {0}
IsLeave _ = ⊥

left_adds : (e : Event) (old new : List Entry) → IsLeave e → new ≡ old ++ (e, Departed) ∷ [] → Adds 0 0 0 1 old new
left_adds Leave old new leaves is = adds_these _ old new is
left_adds (LeaveWith answer) old new leaves is = adds_these _ old new is
left_adds _ old new leaves is = absurd leaves

pub holds_left : (p q : PassView) (h : HeldQueue) (e : Event) → IsLeave e → TakesStep p q e Departed → KeepsHands p q
    → (epochs p).unlabelled ≡ false → HoldsCuts p h → HoldsCuts q h
holds_left p q h e leaves took hands labelled is = holds_on p q h (same_by_step p q e Departed took.step)
    (hands.ledgers labelled) (left_adds e p.view.log q.view.log leaves (ap (λ (s : PassView). s.view.log) took.step)) is

-- and where there is more room
pub holds_with_room : (p : PassView) (h : HeldQueue) (r : BlockQueue Waiting) → r.items ≡ h.queue.items
    → HoldsCuts p h → HoldsCuts p (record h { queue = r })
holds_with_room p h r same is = record {
  own = is.own;
  queue = subst
      (λ (es : List Waiting). IsQueueOf (knowledge p.view) p.view.number es) (sym same) is.queue;
  counted = is.counted;
  freed = is.freed;
}
