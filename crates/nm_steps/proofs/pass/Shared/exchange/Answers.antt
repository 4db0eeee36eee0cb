use Rattle.nm_steps.proofs.Keeping.{asked_plainly, is_done}
use Rattle.nm_steps.proofs.Noting.{ready_by_key}
use Rattle.nm_steps.proofs.pass.Shared.exchange.Goals as goal

pub compare_exchange-requires : goal.compare_exchange-requires
compare_exchange-requires g c = asked_plainly _ _ _ _ _ _ _ c.requires.pick
    (ready_by_key _ _ _ _ _ _ c.self.invariant.laid (rw (← c.self.view_is) at c.requires.ready)) c.requires.changes

pub returns : goal.returns
returns g c = is_done c.args.seat.now c.compare_exchange.new.seat _ c.args.event.now c.compare_exchange.result
    c.requires.pick c.compare_exchange.ensures.0 c.compare_exchange.ensures.1 c.compare_exchange.ensures.2
