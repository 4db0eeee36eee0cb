use Rattle.std.proofs.Common.{◌≡◌, ◌≤◌, take}
use Rattle.std.specs.Prelude.{count_by}
use Rattle.nm_tree.specs.Ended.{IsEndOf, end_of}
use Rattle.nm_tree.proofs.reporting.reading.count_free.Given as goal

-- the free slots so far, of which there are no more than slots
abbrev pub invariant-loop-slot : goal.invariant-loop-slot
invariant-loop-slot l = record {
  least : 6 ≤ l.slot;
  few : l.free ≤ l.slot;
  counted : (e : IsEndOf l.layout l.words.core) → l.free
      ≡ count_by (λ free. free) (take l.slot (end_of l.layout l.words.core e).memory.pool);
}
