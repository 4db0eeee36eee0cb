use Rattle.std.proofs.Common.{◌+◌, ◌≤◌, length}
use Rattle.std.specs.Prelude.{vec_capacity}
use Rattle.nm_tree.specs.Ended.{IsEndOf, end_of}
use Rattle.nm_tree.specs.MapReports.{AreLeavesOf}
use Rattle.nm_tree.proofs.LeavesFound.{AreReached}
use Rattle.nm_tree.proofs.Parts.{IsWalk, steps}
use Rattle.nm_tree.proofs.reporting.walk.walk.Given as goal

-- the walk so far, the leaves that were found, and the parts that wait; no more parts wait than slots
-- were visited, and one; and there is room for all keys, leaves and parts
abbrev pub invariant-loop-part : goal.invariant-loop-part
invariant-loop-part l = record {
  walk : (e : IsEndOf l.layout l.words.core) → IsWalk l.layout.nodes (end_of l.layout l.words.core e).memory
      l.visited l.found.items l.waiting.items;
  leaves : (e : IsEndOf l.layout l.words.core) → AreLeavesOf l.layout (end_of l.layout l.words.core e).memory
      l.found.items l.leaves.items;
  parts : (e : IsEndOf l.layout l.words.core) → AreReached (end_of l.layout l.words.core e).memory l.waiting.items;
  stack : length l.waiting.items ≤ l.visited + 1;
  key_room : l.layout.nodes ≤ vec_capacity l.found;
  leaf_room : l.layout.nodes ≤ vec_capacity l.leaves;
  part_room : l.layout.nodes + 1 ≤ vec_capacity l.waiting;
}

abbrev pub decreases-loop-part : goal.decreases-loop-part
decreases-loop-part l = steps l.waiting.items
