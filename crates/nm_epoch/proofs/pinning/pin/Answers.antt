use Rattle.nm_model.specs.declared.event.Event.TheVariants.{Sight}
use Rattle.nm_epoch.proofs.Steps.{pin_steps}
use Rattle.nm_epoch.proofs.pinning.pin.Goals as goal

pub returns-clause-steps : goal.returns-clause-steps
returns-clause-steps c = pin_steps Sight c.args.tries c.args.pass.now.view.log c.pin_by.new.pass.view.log
    c.pin_by.result c.pin_by.ensures.pinned c.pin_by.ensures.moved
