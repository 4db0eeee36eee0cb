use Rattle.std.proofs.Common.{◌≡◌, ◌+◌, ◌<◌, ◌≤◌, ℕ, [], length}
use Rattle.std.specs.Prelude.{vec_capacity}
use Rattle.nm_order.specs.Logs.{part_of}
use Rattle.nm_set.specs.Filling.{HaveWatched}
use Rattle.nm_set.specs.Seats.{AreNewMembers}
use Rattle.nm_set.proofs.filling.show.Given as goal

abbrev pub invariant-loop-other : goal.invariant-loop-other
invariant-loop-other l = record {
  same : l.filler ≡ l.fn.filler;
  watched : HaveWatched l.fn.filler.tree l.fn.filler.worker.fit l.fn.filler.worker.pass 0 l.shown.items;
  left : AreNewMembers l.fn.filler.tree l.fn.filler.worker.fit (length l.shown.items) l.other-iterator.rest.items;
  all : length l.shown.items + length l.other-iterator.rest.items ≡ length l.fn.others.items;
  room : length l.fn.others.items ≤ vec_capacity l.shown;
  rested : (i : ℕ) → i < length l.shown.items → part_of i l.fn.filler.worker.pass.view.past ≡ [];
}
