use Rattle.nm_steps.proofs.AfterSteps.{run_of_seen}
use Rattle.nm_steps.proofs.pass.Pass.know_run.Goals as goal

pub returns-clause-run : goal.returns-clause-run
returns-clause-run c = rw (← c.self.view_is) (run_of_seen _ c.self.invariant.seen)

pub returns-clause-seen : goal.returns-clause-seen
returns-clause-seen c = rw (← c.self.view_is) c.self.invariant.seen

pub returns-clause-fits : goal.returns-clause-fits
returns-clause-fits c = rw (← c.self.view_is) c.self.invariant.fits
