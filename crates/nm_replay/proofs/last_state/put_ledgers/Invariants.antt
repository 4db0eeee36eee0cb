use Rattle.std.proofs.Common.{◌≡◌, ◌++◌}
use Rattle.nm_replay.specs.LastState.{workers_lines}
use Rattle.nm_replay.proofs.last_state.put_ledgers.Given as goal

abbrev pub invariant-loop-worker : goal.invariant-loop-worker
invariant-loop-worker l = l.out.items ≡ l.fn.out.items ++ workers_lines l.core.state l.worker
