use Rattle.std.proofs.Common.{◌≡◌, ◌≤◌, ◌+◌, length}
use Rattle.std.specs.Prelude.{vec_capacity}
use Rattle.nm_tree.specs.Workers.{AreNew, HaveFit}
use Rattle.nm_set.specs.Seats.{AreOnSeats}
use Rattle.nm_set.proofs.home.seated.Given as goal

abbrev pub invariant-loop-worker : goal.invariant-loop-worker
invariant-loop-worker l = record {
  made : AreOnSeats l.fn.site 0 l.on_seats.items;
  left : AreNew l.fn.site.tree (length l.on_seats.items) l.worker-iterator.rest.items;
  fit : HaveFit l.fn.site.fit l.worker-iterator.rest.items;
  all : length l.on_seats.items + length l.worker-iterator.rest.items ≡ length l.fn.workers.items;
  room : length l.fn.workers.items ≤ vec_capacity l.on_seats;
}
