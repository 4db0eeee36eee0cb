use Rattle.std.proofs.Common.{◌≤◌}
use Rattle.nm_steps.specs.Steps.{IsOf}
use Rattle.nm_tests.proofs.passes.pools.work.Given as goal

abbrev pub invariant-loop-round : goal.invariant-loop-round
invariant-loop-round l = record { own : IsOf l.shared l.pass; few : l.claimed ≤ l.round }
