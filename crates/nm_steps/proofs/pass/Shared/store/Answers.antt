use Rattle.nm_steps.proofs.Keeping.{asked_blind, is_done}
use Rattle.nm_steps.proofs.Noting.{ready_by_key}
use Rattle.nm_steps.proofs.pass.Shared.store.Goals as goal

pub store-requires : goal.store-requires
store-requires g c = asked_blind _ _ _ _ _ _ _ c.requires.pick
    (ready_by_key _ _ _ _ _ _ c.self.invariant.laid (rw (← c.self.view_is) at c.requires.ready)) c.requires.changes
    c.requires.blind

pub returns : goal.returns
returns g c = is_done c.args.seat.now c.store.new.seat _ c.args.event.now c.args.new c.requires.pick
    c.store.ensures.0 c.store.ensures.1 c.store.ensures.2
