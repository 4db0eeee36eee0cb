-- The ledgers that a worker holds, as its part of a run tells them.
use Rattle.std.proofs.Common.{◌≡◌, sym, ap, subst, ◌∙◌}
use Rattle.nm_model.specs.Knowledge.{Knowledge}
use Rattle.nm_model.specs.Runs.{State, start, after, of}
use Rattle.nm_model.specs.Ordered.{Configuration, ordered, after_in, trace_in}
use Rattle.nm_laws.proofs.Labels.{briefs_are_right}
use Rattle.nm_laws.proofs.Retired.{freed_then_queue}
use Rattle.nm_order.specs.Logs.{part_of, known_by}
use Rattle.nm_order.specs.Hands.{LedgersAreKept, HeldLedgersAreKept}
use Rattle.nm_order.proofs.LastEntries.{ToldBy, told_by_part}

pub held_ledgers_are_kept : HeldLedgersAreKept
held_ledgers_are_kept L enough w log l = go (told_by_part L enough w l.worker l.turns l.keys)
  where
    go : ToldBy L w (part_of w (trace_in (ordered L) l.turns)) (after_in (ordered L) l.turns)
        → LedgersAreKept w (known_by L w log)
    go told =
        let c : Configuration = after_in (ordered L) l.turns in
        let events = told.is_ordered.events in
        let there : LedgersAreKept w (of (after (start L) events) w) = record {
          split = λ o held is. freed_then_queue L events w o held is;
          labelled = λ o i e at none'. (briefs_are_right L enough events w).waiting o i e at none';
        } in
        let same : of (after (start L) events) w ≡ known_by L w log = ap (λ (s : State). of s w)
        (sym told.is_ordered.leads) ∙ (told.knows ∙ ap (known_by L w) l.is_part) in
        subst (λ (k : Knowledge). LedgersAreKept w k) same there
