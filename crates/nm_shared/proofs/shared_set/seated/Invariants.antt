use Rattle.std.proofs.Common.{◌≡◌, ◌≤◌, ◌+◌, length}
use Rattle.std.specs.Prelude.{vec_capacity}
use Rattle.nm_lending.specs.Visits.{AreSeated}
use Rattle.nm_set.specs.Seats.{AreNewMembers}
use Rattle.nm_shared.specs.Sharing.{SitsIn}
use Rattle.nm_shared.proofs.shared_set.seated.Given as goal

abbrev pub invariant-loop-member : goal.invariant-loop-member
invariant-loop-member g l = record {
  made : AreSeated SitsIn l.fn.set 0 l.on_seats.items;
  left : AreNewMembers l.fn.set.tree l.fn.set.fit (length l.on_seats.items) l.member-iterator.rest.items;
  all : length l.on_seats.items + length l.member-iterator.rest.items ≡ length l.fn.members.items;
  room : length l.fn.members.items ≤ vec_capacity l.on_seats;
}
