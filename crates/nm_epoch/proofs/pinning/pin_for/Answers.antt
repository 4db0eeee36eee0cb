use Rattle.nm_model.specs.declared.event.Event.TheVariants.{SightFor}
use Rattle.nm_epoch.proofs.Steps.{pin_steps}
use Rattle.nm_epoch.proofs.pinning.pin_for.Goals as goal

pub returns-clause-steps : goal.returns-clause-steps
returns-clause-steps c = pin_steps (SightFor c.args.op c.args.key) c.args.tries c.args.pass.now.view.log
    c.pin_by.new.pass.view.log c.pin_by.result c.pin_by.ensures.pinned c.pin_by.ensures.moved
