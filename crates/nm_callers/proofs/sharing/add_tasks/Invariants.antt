use Rattle.std.proofs.Common.{◌≡◌, ◌≤◌}
use Rattle.nm_callers.specs.Queues.{HasWorked}
use Rattle.nm_callers.proofs.sharing.add_tasks.Given as goal

abbrev pub invariant-loop-task : goal.invariant-loop-task
invariant-loop-task l = record {
  tree : l.member.tree ≡ l.fn.member.tree;
  did : HasWorked l.fn.member.worker l.member.worker l.added 0;
  few : l.added ≤ l.task-index;
}
