use Rattle.std.proofs.Common.{◌<◌, subst}
use Rattle.nm_edge.specs.Layouts.{Layout}
use Rattle.nm_epoch.specs.Resting.{epochs}
use Rattle.nm_epoch.specs.Scans.{IsAdvance}
use Rattle.nm_epoch.proofs.Steps.{advance_steps}
use Rattle.nm_epoch.proofs.moving.advance.Goals as goal

pub move_on-requires-clause-there : goal.move_on-requires-clause-there
move_on-requires-clause-there c = subst (λ (L : Layout). c.number-me.result < L.workers) c.requires.layout
    c.number-me.ensures.below

pub returns-clause-part : goal.returns-clause-part
returns-clause-part c =
    subst (λ me. IsAdvance c.args.shared.now.layout.workers me (epochs c.move_on.new.pass).pin
    c.args.pass.now.view.log c.move_on.new.pass.view.log c.move_on.result) c.number-me.ensures.number
    c.move_on.ensures.part

pub returns-clause-steps : goal.returns-clause-steps
returns-clause-steps c =
    advance_steps c.number-me.result (epochs c.move_on.new.pass).pin c.args.shared.now.layout.workers
    c.args.pass.now.view.log c.move_on.new.pass.view.log c.move_on.result
    (subst (λ (L : Layout). c.number-me.result < L.workers) c.requires.layout c.number-me.ensures.below)
    c.move_on.ensures.part
