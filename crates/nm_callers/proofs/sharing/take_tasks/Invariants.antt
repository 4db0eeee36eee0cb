use Rattle.std.proofs.Common.{◌≡◌, ◌≤◌, length}
use Rattle.std.specs.Prelude.{vec_capacity}
use Rattle.nm_callers.specs.Queues.{HasWorked}
use Rattle.nm_callers.proofs.sharing.take_tasks.Given as goal

abbrev pub invariant-loop-turn : goal.invariant-loop-turn
invariant-loop-turn l = record {
  tree : l.member.tree ≡ l.fn.member.tree;
  did : HasWorked l.fn.member.worker l.member.worker 0 (length l.taken.items);
  few : length l.taken.items ≤ l._turn;
  room : l.fn.most ≤ vec_capacity l.taken;
}
