use Rattle.std.proofs.Common.{◌+◌, ◌≤◌}
use Rattle.nm_walks.specs.Bounds.{reach}
use Rattle.nm_walks.specs.Places.{IsNarrowedBy}
use Rattle.nm_walks.specs.Walks.{IsWalking}
use Rattle.nm_walks.proofs.walking.seek.Given as goal

abbrev pub invariant-loop-below : goal.invariant-loop-below
invariant-loop-below l = record {
  inside : l._below + 1 ≤ reach l.shared.layout;
  walking : IsWalking l.shared.layout l.key l._below l.fn.pass l.pass l.seek_record l.chain.items;
  narrowed : IsNarrowedBy l.stop l.fn.pass l.pass l.key l.seek_record.parent l.seek_record.side;
}
