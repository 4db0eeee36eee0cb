use Rattle.nm_tree.proofs.RunningTurns.{has_seen_turns}
use Rattle.nm_calls.proofs.Moments.{none_begun}
use Rattle.nm_tree.specs.Workers.{pending_in, held_in}
use Rattle.nm_tree.proofs.Staying.{no_call_open}
use Rattle.nm_tree.proofs.worker.Worker.know_run.Goals as goal

pub returns-clause-turns : goal.returns-clause-turns
returns-clause-turns c = rw (← c.self.view_is) (has_seen_turns c.self.inside.pass.view c.know_run.ensures.fits
    c.know_run.ensures.seen)

pub returns-clause-idle : goal.returns-clause-idle
returns-clause-idle c = rw (← c.self.view_is) (λ none'. none_begun c.self.inside.pass c.know_run.ensures.seen
    c.know_run.ensures.fits
    (no_call_open c.self.inside.pass (pending_in c.self.inside.standing) (held_in c.self.inside.standing)
    c.self.invariant.between.stands none'))
