-- The end of a put: it leaves its pin.
use Rattle.std.proofs.Common.{◌≡◌, ℕ, true, false, ap, ◌∙◌}
use Rattle.std.specs.Prelude.{Err, None, Ok, Result, option_map}
use Rattle.nm_edge.specs.Layouts.{IsLayout}
use Rattle.nm_model.specs.declared.event.Event.{Event}
use Rattle.nm_model.specs.declared.event.Event.TheVariants.{LeaveWith}
use Rattle.nm_model.specs.declared.event.Op.TheVariants.{Insert}
use Rattle.nm_model.specs.declared.ledger.Ledger.{Ledger}
use Rattle.nm_model.specs.declared.reply.Reply.TheVariants.{Departed}
use Rattle.nm_model.specs.Ledgers.{held}
use Rattle.nm_model.specs.Maps.{get}
use Rattle.nm_order.specs.Facts.Fact.{CallIs}
use Rattle.nm_steps.specs.Steps.{Continues, HasSeen, IsInRun, IsSamePass, PassView, TakesStep}
use Rattle.nm_epoch.specs.declared.collecting.HeldQueue.{HeldQueue}
use Rattle.nm_epoch.specs.Resting.{KeepsHands, epochs}
use Rattle.nm_walks.specs.Cleanups.{HoldsCuts, KeepsLedgers}
use Rattle.nm_walks.specs.Growing.{HasNewNodes}
use Rattle.nm_walks.specs.Telling.{GoesOn, Tells}
use Rattle.nm_walks.proofs.ShortWalks.{key_of_call}
use Rattle.nm_calls.specs.declared.fault.CallFault.{CallFault}
use Rattle.nm_calls.specs.Leaving.{HasChangedNothing}
use Rattle.nm_calls.proofs.Forks.{none_left}
use Rattle.nm_calls.proofs.FoundValues.{found_was}
use Rattle.nm_calls.proofs.InsertedValues.{inserted_then}
use Rattle.nm_calls.proofs.KeptLedgers.{IsLeave, holds_left, ledgers_then}
use Rattle.nm_calls.proofs.MadeLeaves.{put_earlier, put_then}
use Rattle.nm_calls.proofs.MapMoments.{was_mapped}
use Rattle.nm_puts.specs.declared.putting.Attempt.TheVariants as attempt
use Rattle.nm_puts.specs.declared.putting.Condition.{Condition}
use Rattle.nm_puts.specs.declared.putting.PutOutcome.{PutOutcome}
use Rattle.nm_puts.specs.declared.putting.PutOutcome.TheVariants as put
use Rattle.nm_puts.specs.Puts.{Did, Does, HasPutNothing, IfDone, MayEndWith, OnlyPuts, ShowsTry, TryDoes, leave_of}
use Rattle.nm_puts.proofs.ReplacedValues.{replaced_since, replaced_then}

-- ---- it may leave

pub changed_nothing : (p q : PassView) → HasChangedNothing p → OnlyPuts p q → HasPutNothing p q → HasChangedNothing q
changed_nothing p q none' only still = record {
  labelled = only.labelled none'.labelled;
  unlinked = still.linked ∙ none'.unlinked;
  unswapped = still.swapped ∙ none'.unswapped;
  unflagged = only.flagged ∙ none'.unflagged;
}

pub may_end_with : (k : ℕ) (p q : PassView) (a : PutOutcome) → HasChangedNothing p → OnlyPuts p q → Tells q
    (CallIs Insert k)
    → ShowsTry k p q (attempt.Done a) → MayEndWith q a
may_end_with k p q put.Inserted none' only call shows = (Insert, k, call, shows)
may_end_with k p q (put.Replaced v) none' only call shows = (Insert, k, call, (shows.0, shows.1 ∙ none'.unlinked))
may_end_with k p q (put.Other v) none' only call shows = (Insert, k, call, (shows.0, shows.1 ∙ none'.unlinked))
may_end_with k p q put.Absent none' only call shows = changed_nothing p q none' only shows

pub is_leave : (a : PutOutcome) → IsLeave (leave_of a)
is_leave put.Inserted = tt
is_leave (put.Replaced v) = tt
is_leave (put.Other v) = tt
is_leave put.Absent = tt

-- ---- what it leaves

module _ (p q z : PassView) (e : Event) (leaves : IsLeave e) (was : HasChangedNothing p) (on : GoesOn p q)
    (only : OnlyPuts p q)
    (took : TakesStep q z e Departed) (hands : KeepsHands q z) where
  labelled : (epochs q).unlabelled ≡ false
  labelled = only.labelled was.labelled

  pub private_left : HasNewNodes p q None → HasNewNodes p z None
  private_left h = none_left p q z hands.private h

  pub kept_left : (h : HeldQueue) → HoldsCuts q h → HoldsCuts z h
  kept_left h kept = holds_left q z h e leaves took hands labelled kept

  pub ledgers_left : KeepsLedgers p z
  ledgers_left = ledgers_then p q z on.same only.ledgers (record {
    others = λ o other. ap (λ ls. held ls o) (hands.ledgers labelled);
    freed = ap (λ ls. option_map (λ (l : Ledger). l.freed) (held ls q.view.number)) (hands.ledgers labelled);
  })

-- what it did in the map
pub does_then : (when : Condition) (k v : ℕ) (p q z : PassView) (a : PutOutcome) → IsInRun p → Tells p
    (CallIs Insert k) → HasSeen q.view → GoesOn p q
    → TryDoes when k v p q (attempt.Done a) → TakesStep q z (leave_of a) Departed → Does when k v p z a
does_then when k v p q z put.Inserted run call seen on h took = (
  inserted_then q z true k v h.0 took,
  put_then p q z
      (LeaveWith true) Departed k v h.1 took,
)
does_then when k v p q z (put.Replaced old) run call seen on h took = (
  replaced_then p q z
      (LeaveWith false) Departed k old v h.0 took,
  h.1,
)
does_then when k v p q z (put.Other found) run call seen on h took = record {
  at = q;
  since = on;
  is_key = key_of_call p run Insert k call;
  read = h;
  leaves = took;
}
does_then when k v p q z put.Absent run call seen on h took = record {
  at = q;
  since = on;
  is_key = key_of_call p run Insert k call;
  seen = seen;
  ended = h;
  leaves = took;
}

-- ---- the whole call

-- what was so from the pin on was so in the call
pub if_did : (when : Condition) (k v : ℕ) (o a q : PassView) (r : Result PutOutcome CallFault) → HasSeen o.view
    → IsLayout o.view.layout
    → (epochs o).pin ≡ None → Continues o a → IfDone r (Does when k v a q) → IfDone r (Did when k v o q)
if_did when k v o a q (Err e) seen fits unpinned pinning h = tt
if_did when k v o a q (Ok put.Inserted) seen fits unpinned pinning h = (h.0, put_earlier o a q k v pinning.past h.1)
if_did when k v o a q (Ok (put.Replaced old)) seen fits unpinned pinning h =
    (replaced_since o a q k old v pinning.past h.0, h.1)
if_did when k v o a q (Ok
    (put.Other found)) seen fits unpinned pinning h = found_was o a q seen fits unpinned pinning k found h
if_did when k v o a q (Ok put.Absent) seen fits unpinned pinning h =
    was_mapped o a h.at seen fits unpinned pinning h.since k h.is_key q h.leaves h.seen 0 None h.ended

-- the private slots and the ledgers of the whole call
pub private_in_call : (o a q : PassView) → KeepsHands o a → HasNewNodes a q None → HasNewNodes o q None
private_in_call o a q hands h s = h s ∙ ap (λ m. get m s) hands.private

pub ledgers_in_call : (o a q : PassView) → IsSamePass o a → KeepsHands o a → (epochs o).unlabelled ≡ false
    → KeepsLedgers a q → KeepsLedgers o q
ledgers_in_call o a q same hands labelled kept = ledgers_then o a q same (record {
  others = λ x other. ap (λ ls. held ls x) (hands.ledgers labelled);
  freed = ap (λ ls. option_map (λ (l : Ledger). l.freed) (held ls o.view.number)) (hands.ledgers labelled);
}) kept
