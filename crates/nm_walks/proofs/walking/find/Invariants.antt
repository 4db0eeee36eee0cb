use Rattle.std.proofs.Common.{◌+◌, ◌≤◌}
use Rattle.nm_walks.specs.Bounds.{reach}
use Rattle.nm_walks.specs.Telling.{GoesOn, OnlyLooks}
use Rattle.nm_walks.specs.Walks.{IsFinding}
use Rattle.nm_walks.proofs.walking.find.Given as goal

abbrev pub invariant-loop-below : goal.invariant-loop-below
invariant-loop-below l = record {
  inside : l._below + 1 ≤ reach l.shared.layout;
  finding : IsFinding l.key l._below l.fn.pass l.pass l.seek_record;
  on : GoesOn l.fn.pass l.pass;
  only : OnlyLooks l.fn.pass l.pass;
}
