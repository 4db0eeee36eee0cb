-- The worker that holds memory back, as an insert reports it if its set has no free slot.
use Rattle.std.specs.Prelude.{◌≤◌, ◌⊎◌, ℕ, Option, Some, None}
use Rattle.nm_model.specs.Step.{last_number}
use Rattle.nm_progress.specs.Moves.{number_of, moves}
use Rattle.nm_tree.specs.Workers.{WorkerView}
use Rattle.nm_set.specs.Managed.{HasFoundElsewhere, HasSighted, Since}

-- a worker that is named is another one, which was found during the call announcing another epoch
-- than the one that was read; if none is named, the epoch was advanced twice during the call, or is
-- the last one
abbrev pub IsToBlame : WorkerView → WorkerView → Option ℕ → Type 0
IsToBlame w z (Some i) = Since w.pass z.pass (HasFoundElsewhere w.pass.view.number i)
IsToBlame w z None =
    Since w.pass z.pass (λ ts. HasSighted w.pass.view.number ts last_number ⊎ (2 ≤ number_of moves ts))
