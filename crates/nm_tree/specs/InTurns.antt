-- What a look-up of several keys leaves of its worker, by its answer.
use Rattle.std.specs.Prelude.{ℕ, List, length, map, Result}
use Rattle.nm_edge.specs.Layouts.{Layout}
use Rattle.nm_calls.specs.declared.many.Query.{Query}
use Rattle.nm_walks.specs.Bounds.{reach}
use Rattle.nm_calls.specs.InTurns.{GiveUp, key_of, most_looks}
use Rattle.nm_calls.specs.declared.fault.CallFault.{CallFault}
use Rattle.nm_tree.specs.Looked.{HasSeenMore}
use Rattle.nm_tree.specs.Workers.{WorkerView}

-- what a look-up of these queries leaves of its worker and its log, by its answer (Natarajan and
-- Mittal, section 3.2)
abbrev pub HasAnsweredMany : Layout → ℕ → List Query → WorkerView → WorkerView → Result (Unit {0}) CallFault → Type 0
HasAnsweredMany L tries queries =
    HasSeenMore (GiveUp L (map key_of queries)) tries (most_looks (reach L) (length queries))
