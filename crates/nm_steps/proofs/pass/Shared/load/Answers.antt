use Rattle.nm_steps.proofs.Keeping.{asked_plainly, is_done}
use Rattle.nm_steps.proofs.Noting.{ready_by_key}
use Rattle.nm_steps.proofs.pass.Shared.load.Goals as goal

pub load-requires : goal.load-requires
load-requires g c = asked_plainly _ _ _ _ _ _ _ c.requires.pick
    (ready_by_key _ _ _ _ _ _ c.self.invariant.laid (rw (← c.self.view_is) at c.requires.ready)) c.requires.changes

pub returns : goal.returns
returns g c = is_done c.args.seat.now c.load.new.seat _ c.args.event.now c.load.result c.requires.pick
    c.load.ensures.0 c.load.ensures.1 c.load.ensures.2
