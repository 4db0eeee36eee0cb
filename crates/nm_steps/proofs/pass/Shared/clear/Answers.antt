use Rattle.nm_steps.proofs.Keeping.{asked_plainly, is_done}
use Rattle.nm_steps.proofs.Noting.{ready_by_key}
use Rattle.nm_steps.proofs.pass.Shared.clear.Goals as goal

pub fetch_and-requires : goal.fetch_and-requires
fetch_and-requires g c = asked_plainly _ _ _ _ _ _ _ c.requires.pick
    (ready_by_key _ _ _ _ _ _ c.self.invariant.laid (rw (← c.self.view_is) at c.requires.ready)) c.requires.changes

pub returns : goal.returns
returns g c = is_done c.args.seat.now c.fetch_and.new.seat _ c.args.event.now c.fetch_and.result c.requires.pick
    c.fetch_and.ensures.0 c.fetch_and.ensures.1 c.fetch_and.ensures.2
