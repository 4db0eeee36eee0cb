use Rattle.nm_tests.specs.Plays.{IsAtRest}
use Rattle.nm_tests.proofs.passes.reports.inserted.Given as goal

abbrev pub invariant-loop-number : goal.invariant-loop-number
invariant-loop-number g l = IsAtRest l.fn.shared l.one.pass l.one.held
