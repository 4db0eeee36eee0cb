use Rattle.std.proofs.Common.{◌≡◌, ◌≤◌, length}
use Rattle.std.specs.Prelude.{vec_capacity}
use Rattle.std.specs.Arc.{arc_value}
use Rattle.nm_set.specs.Seats.{AreNewMembers}
use Rattle.nm_set.proofs.opening.members_of.Given as goal

abbrev pub invariant-loop-number : goal.invariant-loop-number
invariant-loop-number g l = record {
  made : AreNewMembers (arc_value l.fn.home).tree (arc_value l.fn.home).fit 0 l.members.items;
  count : length l.members.items ≡ l.number;
  within : l.number ≤ l.fn.workers;
  room : l.fn.workers ≤ vec_capacity l.members;
}
