-- Workers that have no delete pending.
use Rattle.std.specs.Prelude.{◌≡◌, ◌∷◌, List, None, All, map}
use Rattle.nm_model.specs.declared.trace.Turn.{Turn}
use Rattle.nm_steps.specs.declared.view.Held.{Held}
use Rattle.nm_steps.specs.Rules.{answered_turn}
use Rattle.nm_progress.specs.Pending.{leaf_after}
use Rattle.nm_tree.specs.Resigning.{HasResigned}
use Rattle.nm_tree.specs.Running.{HasSeenTurns}
use Rattle.nm_tree.specs.Workers.{WorkerView}

-- by these logs, no call has flagged a leaf and has no answer
abbrev pub TellNoFlag : List Held → Type 0
TellNoFlag hs = All (λ (h : Held). leaf_after h.number None (map (λ e. answered_turn h.number e.0 e.1) h.log) ≡ None) hs

-- no delete of this worker is pending, nor of a worker that resigned to it
abbrev pub HasNothingPending : WorkerView → Type 0
HasNothingPending w =
    TellNoFlag (record { number = w.pass.view.number; log = w.pass.view.log } ∷ w.pass.view.others)

-- a worker with nothing pending that takes over from another one with nothing pending has nothing
-- pending
abbrev pub HeirsHaveNothingPending : Type 0
HeirsHaveNothingPending = (heir leaver z : WorkerView) → HasResigned heir leaver z
    → HasNothingPending heir → HasNothingPending leaver → HasNothingPending z

-- a worker has nothing pending if in what it has seen its call has flagged no leaf, and no worker
-- that resigned to it has anything pending
abbrev pub RestingWorkersHaveNothingPending : Type 0
RestingWorkersHaveNothingPending = (w : WorkerView) → HasSeenTurns w.pass.view
    → leaf_after w.pass.view.number None w.pass.view.past ≡ None → TellNoFlag w.pass.view.others
    → HasNothingPending w
