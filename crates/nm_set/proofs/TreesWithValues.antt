-- The tree of a map has values, whatever its members do; and what a look-up under a pin says.
use Rattle.std.proofs.Common.{◌≡◌, ℕ, List, sym, subst}
use Rattle.std.specs.Prelude.{Option, Result, Ok, Err}
use Rattle.nm_edge.specs.Layouts.{Layout}
use Rattle.nm_calls.specs.declared.fault.CallFault.{CallFault}
use Rattle.nm_calls.specs.declared.many.Query.{Query}
use Rattle.nm_steps.specs.Steps.{TreeView}
use Rattle.nm_steps.specs.Values.{HasValues}
use Rattle.nm_tree.specs.Calls.{LeavesPinnedGet, LeavesPinnedGetMany}
use Rattle.nm_tree.specs.Workers.{WorkerView}
use Rattle.nm_set.specs.Maps.{SaysPinnedGet, SaysPinnedGetMany, of_pinned}

pub keeps_values : {b d : TreeView} → d ≡ b → HasValues b → HasValues d
keeps_values same has = subst HasValues (sym same) has

-- what a look-up under the caller's pin says, by the tree's call
pub pinned_said : (L : Layout) (k : ℕ) (w z : WorkerView) (r : Result (Option ℕ) CallFault)
    → LeavesPinnedGet L k w z r → SaysPinnedGet L k w z (of_pinned r)
pinned_said L k w z (Ok found) leaves = leaves
pinned_said L k w z (Err f) leaves = subst (λ (e : CallFault). LeavesPinnedGet L k w z (Err e)) leaves.gave.0 leaves

pub pinned_many_said : (L : Layout) (old new : List Query) (w z : WorkerView) (r : Result (Unit {0}) CallFault)
    → LeavesPinnedGetMany L old new w z r → SaysPinnedGetMany L old new w z (of_pinned r)
pinned_many_said L old new w z (Ok u) leaves = leaves
pinned_many_said L old new w z (Err f) leaves = subst (λ (e : CallFault). LeavesPinnedGetMany L old new w z (Err e))
    leaves.gave.0 leaves
