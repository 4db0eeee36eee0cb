-- Each worker is told of.
use Rattle.std.proofs.Common.{◌≡◌, ℕ, Bool, ◌<◌, List, map, sym, ap, subst, ◌∙◌}
use Rattle.std.specs.Prelude.{IsSome}
use Rattle.nm_edge.specs.Layouts.{Layout}
use Rattle.nm_model.specs.declared.event.Event.{Event}
use Rattle.nm_model.specs.Runs.{State, start, after}
use Rattle.nm_model.specs.Ordered.{opening_of, after_in, trace_in, accepted, turn_of}
use Rattle.nm_model.specs.Reports.{ledger_of}
use Rattle.nm_laws.proofs.Configurations.{ordered_runs, opening_state}
use Rattle.nm_core.proofs.HeldLedgers.{each_has_a_ledger}

-- and in every run of a core that is ordered or not, since it is a run of the events that were
-- allowed
pub each_is_told : (L : Layout) (is_ordered : Bool) (turns : List (ℕ × Event)) (w : ℕ) → w < L.workers
    → IsSome (ledger_of (after_in (opening_of L is_ordered) turns).state w)
each_is_told L is_ordered turns w lt =
    let c = opening_of L is_ordered in
    let allowed = map turn_of (accepted (trace_in c turns)) in
    let same : (after_in c turns).state ≡ after (start L) allowed = (ordered_runs c turns).0
    ∙ ap (λ (s : State). after s allowed) (opening_state L is_ordered) in
    subst (λ (s : State). IsSome (ledger_of s w)) (sym same) (each_has_a_ledger L allowed w lt)
