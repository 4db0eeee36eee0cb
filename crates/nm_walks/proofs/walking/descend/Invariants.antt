use Rattle.std.proofs.Common.{◌≤◌, []}
use Rattle.nm_order.specs.Facts.Fact.{KnowsSlot}
use Rattle.nm_walks.specs.Places.{IsNarrowedBy}
use Rattle.nm_walks.specs.Telling.{Tells, GoesOn, OnlyLooks}
use Rattle.nm_walks.specs.Walks.{IsFinding, IsWalking}
use Rattle.nm_walks.proofs.walking.descend.Given as goal

abbrev pub invariant-loop-below : goal.invariant-loop-below
invariant-loop-below l = record {
  within : l.unmarked_seek.edge.slot ≤ l.shared.layout.nodes;
  finding : IsFinding l.key l.below l.fn.pass l.pass l.unmarked_seek;
  narrowed : IsNarrowedBy l.stop l.fn.pass l.pass l.key l.unmarked_seek.parent l.unmarked_seek.side;
  on : GoesOn l.fn.pass l.pass;
  only : OnlyLooks l.fn.pass l.pass;
  walking : Tells l.fn.pass (KnowsSlot 1) → IsWalking l.shared.layout l.key l.below l.fn.pass l.pass l.unmarked_seek [];
}
