-- Why an insert or a delete was busy: others moved the epoch past its pin, or its tries were lost.
use Rattle.std.proofs.Common.{◌≡◌, ◌≢◌, ℕ, zero, suc, ◌+◌, ◌-◌, ◌≤◌, inl, inr, ◌⊎◌, true, List, refl, sym, subst, ◌∙◌, arith}
use Rattle.std.specs.Prelude.{Err}
use Rattle.nm_edge.specs.declared.node.NodeId.{NodeId}
use Rattle.nm_model.specs.declared.event.Event.{Event}
use Rattle.nm_model.specs.declared.event.Event.TheVariants.{SightFor}
use Rattle.nm_model.specs.declared.event.Op.TheVariants.{Insert, Delete}
use Rattle.nm_model.specs.Walks.{Entry}
use Rattle.nm_order.specs.Logs.{IsLogOf}
use Rattle.nm_steps.specs.Steps.{PassView, IsSamePass, HasSeenAllOf, HasSeen}
use Rattle.nm_calls.specs.PlainWalks.{events_of}
use Rattle.nm_calls.proofs.PlainLooks.{as_events}
use Rattle.nm_epoch.specs.Tries.{IsMoved}
use Rattle.nm_calls.specs.declared.fault.CallFault.TheVariants as fault
use Rattle.nm_calls.specs.Inserts.{InsertDid}
use Rattle.nm_walks.specs.Cleanups.{CleanupLost}
use Rattle.nm_calls.specs.Deletes.{LostRemovals, DeleteDid, IsRemoving, leaf_of}
use Rattle.nm_progress.proofs.MoreTries.{log_prefix}
use Rattle.nm_progress.specs.Moves.{is_sight}
use Rattle.nm_progress.specs.Pins.{WasMovedPast}
use Rattle.nm_progress.specs.Lost.{Interference, ChangeWasBusy}
use Rattle.nm_progress.specs.Inserts.{BusyInsertsWereLost}
use Rattle.nm_progress.specs.Deletes.{BusyDeletesWereLost, UnfinishedDeletesWereLost, UnfinishedFinishesWereLost}
use Rattle.nm_progress.proofs.Interfered.{Interferes, interferes_then, was_interfered}
use Rattle.nm_progress.proofs.InterferedTries.{cleanup_steady, within, inserts_interfere, flags_interfere}
use Rattle.nm_progress.proofs.InterferedRemovals.{Flagging, flag_needs, removals_steady, removals_changed}
use Rattle.nm_progress.proofs.LostCleanups.{changed_interferes, changed_once, changed_then, was_changed}
use Rattle.nm_progress.proofs.Steady.{Steady, steady_call, pinned_for}
use Rattle.nm_progress.proofs.LostPins.{lost_pins_were_moved_past, part_seen}
use Rattle.nm_progress.proofs.Parts.{Longer, longer_these, longer_then, longer_none, seeks_longer, pin_longer, returns_longer}

module _ (p q : PassView) (seen_p : HasSeen p.view) (seen_q : HasSeen q.view) (enough : 5 ≤ p.view.layout.nodes)
    (same : IsSamePass p q) (on : HasSeenAllOf q p) where
  -- what q has seen is a run of the worker of p
  log_q : IsLogOf p.view.layout p.view.number q.view.log
  log_q = record {
    worker = seen_p.worker;
    turns = events_of q.view.past;
    keys = (as_events q.view seen_q).keys;
    is_part = part_seen p q seen_q same;
  }

  pub moved : (sight : Event) → is_sight sight ≡ true → (n : ℕ) → n ≢ 0 → IsMoved sight n p.view.log q.view.log
      → WasMovedPast p q n
  moved event is zero some m = absurd (some refl)
  moved event is (suc n) some m = lost_pins_were_moved_past p q seen_p seen_q enough same on event is n m

  -- tries that were lost behind a pin
  pub lost : (n : ℕ) (begun ended : List Entry) → Longer p.view.log begun
      → (IsLogOf p.view.layout p.view.number ended → Interferes p.view.layout enough p.view.number begun ended n)
      → Longer ended q.view.log → Interference p q n
  lost n begun ended a tries b = was_interfered p q n seen_p seen_q enough same on
      (within p.view.layout enough p.view.number n p.view.log begun ended q.view.log a
      (tries (log_prefix p.view.layout p.view.number ended b.entries
      (subst (IsLogOf p.view.layout p.view.number) b.are log_q))) b)

  -- fewer tries than were lost
  pub fewer : (m n : ℕ) → n ≤ m → Interference p q m → Interference p q n
  fewer m n few l = record {
    turns = l.turns;
    is = l.is;
    interfered =
        (let some = l.interfered in omega (arith, some, few));
    by_others =
        (let some = l.by_others in omega (arith, some, few));
    paid = (let some = l.paid in omega (arith, some, few));
  }

  -- the call that q shows has flagged its leaf since a log from which on no pin began and no flag was won
  flagging : (k : ℕ) (n : NodeId) (log : List Entry) → IsRemoving q k n → Steady log q.view.log → Flagging k n log
  flagging k n log removing s = let same = steady_call log q.view.log s in
      record { call = sym same.0 ∙ removing.call; flagged = sym same.1 ∙ removing.flagged }

pub busy_inserts_were_lost : BusyInsertsWereLost
busy_inserts_were_lost fit k tries p q seen_p seen_q enough crew same on did = by did
  where
    by : InsertDid fit p.view.layout tries k p.view.log q.view.log (Err fault.Busy) → ChangeWasBusy p q tries
    by (inl none) = inl none.0
    by (inr (inl m)) = inr (inl (moved p q seen_p seen_q enough same on (SightFor Insert k) refl tries m.0 m.1))
    by (inr (inr (pinned, epoch, pin, (f, mid, back, tried, returns, leaves)))) = inr
        (inr (lost p q seen_p seen_q enough same on tries pinned mid
        (pin_longer (SightFor Insert k) tries p.view.log pinned epoch pin)
        (inserts_interfere p.view.layout enough p.view.number k seen_p.worker crew fit tries f pinned mid
        (pinned_for Insert k tries p.view.log pinned epoch pin) tried)
        (longer_then mid back q.view.log (returns_longer f mid back returns)
        (longer_these _ back q.view.log leaves))))

pub busy_deletes_were_lost : BusyDeletesWereLost
busy_deletes_were_lost k tries p q seen_p seen_q enough crew same on did = by did
  where
    by : DeleteDid p.view.layout tries k p.view.log q.view.log (Err fault.Busy) → ChangeWasBusy p q tries
    by (inl none) = inl none.0
    by (inr (inl m)) = inr (inl (moved p q seen_p seen_q enough same on (SightFor Delete k) refl tries m.0 m.1))
    by (inr (inr (pinned, epoch, pin, (c, mid, tried, leaves)))) = inr
        (inr (lost p q seen_p seen_q enough same on tries pinned mid
        (pin_longer (SightFor Delete k) tries p.view.log pinned epoch pin)
        (flags_interfere p.view.layout enough p.view.number k seen_p.worker crew tries pinned mid
        (pinned_for Delete k tries p.view.log pinned epoch pin) tried) (longer_these _ mid q.view.log leaves)))

pub unfinished_finishes_were_lost : UnfinishedFinishesWereLost
unfinished_finishes_were_lost k tries n p q seen_p seen_q enough crew same on removing tried =
    was_changed p q tries seen_p seen_q enough same on
    (removals_changed p.view.layout enough p.view.number k seen_p.worker crew n tries p.view.log q.view.log
    (flagging p q seen_p seen_q enough same on k n p.view.log removing
    (removals_steady p.view.layout enough p.view.number k n tries p.view.log q.view.log tried)) tried
    (log_q p q seen_p seen_q enough same on))

pub unfinished_deletes_were_lost : UnfinishedDeletesWereLost
unfinished_deletes_were_lost k tries n p q seen_p seen_q enough crew same on removing
    (pinned, epoch, pin, (f, c, mid, leaf, (t, before, count, tried, won), after)) = by after
  where
    begun : Longer p.view.log pinned
    begun = pin_longer (SightFor Delete k) tries p.view.log pinned epoch pin

    -- behind the tries to flag
    flagged : Longer before mid
    flagged = longer_then before won.ended mid (seeks_longer p.view.layout k before won.ended c f.end won.walk)
        (longer_then won.ended _ mid (longer_these _ won.ended _ refl) (longer_these _ _ mid won.entries))

    by : ((f.left ≡ 0) × (q.view.log ≡ mid)) ⊎ ((m : ℕ) × (cleaned : List Entry) × (f.left ≡ m + 1)
        × CleanupLost f.end.seek_record c mid cleaned × LostRemovals p.view.layout k (leaf_of f.end f.birth) m cleaned
        q.view.log) → Interference p q (tries - 1)
    by (inl (none, is)) = fewer p q seen_p seen_q enough same on t (tries - 1) (omega (arith, none, count))
        (lost p q seen_p seen_q enough same on t pinned before begun
        (flags_interfere p.view.layout enough p.view.number k seen_p.worker crew t pinned before
        (pinned_for Delete k tries p.view.log pinned epoch pin) tried)
        (longer_then before mid q.view.log flagged (longer_none mid q.view.log is)))
    by (inr (m, cleaned, left, cleanup, removals)) = fewer p q seen_p seen_q enough same on (t + (1 + m)) (tries - 1)
        (omega (arith, left, count))
        (lost p q seen_p seen_q enough same on (t + (1 + m)) pinned q.view.log begun whole
        (longer_none q.view.log q.view.log refl))
      where
        own : LostRemovals p.view.layout k n m cleaned q.view.log
        own = subst (λ (l : NodeId). LostRemovals p.view.layout k l m cleaned q.view.log) (sym leaf) removals

        steady : Steady cleaned q.view.log
        steady = removals_steady p.view.layout enough p.view.number k n m cleaned q.view.log own

        onward : Steady mid cleaned
        onward = cleanup_steady p.view.layout enough p.view.number f.end.seek_record c mid cleaned cleanup

        whole : IsLogOf p.view.layout p.view.number q.view.log
            → Interferes p.view.layout enough p.view.number pinned q.view.log (t + (1 + m))
        whole l =
            let cleaned_log = log_prefix p.view.layout p.view.number cleaned steady.entries
            (subst (IsLogOf p.view.layout p.view.number) steady.are l) in
            let mid_log = log_prefix p.view.layout p.view.number mid onward.entries
            (subst (IsLogOf p.view.layout p.view.number) onward.are cleaned_log) in
            let before_log = log_prefix p.view.layout p.view.number before flagged.entries
            (subst (IsLogOf p.view.layout p.view.number) flagged.are mid_log) in
            interferes_then p.view.layout enough p.view.number pinned before q.view.log t (1 + m)
            (flags_interfere p.view.layout enough p.view.number k seen_p.worker crew t pinned before
            (pinned_for Delete k tries p.view.log pinned epoch pin) tried before_log)
            (changed_interferes p.view.layout enough p.view.number before q.view.log (1 + m)
            (changed_then p.view.layout enough p.view.number before cleaned q.view.log 1 m
            (changed_once p.view.layout enough p.view.number before cleaned
            (flag_needs p.view.layout enough p.view.number k f.end c f.birth (leaf_of f.end f.birth) before mid
            cleaned won cleanup mid_log cleaned_log))
            (removals_changed p.view.layout enough p.view.number k seen_p.worker crew n m cleaned q.view.log
            (flagging p q seen_p seen_q enough same on k n cleaned removing steady) own l)))
