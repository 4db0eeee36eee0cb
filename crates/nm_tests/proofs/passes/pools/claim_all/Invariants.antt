use Rattle.nm_steps.specs.Steps.{IsOf}
use Rattle.nm_tests.proofs.passes.pools.claim_all.Given as goal

abbrev pub invariant-loop-slot : goal.invariant-loop-slot
invariant-loop-slot l = IsOf l.shared l.pass
