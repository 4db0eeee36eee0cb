use Rattle.nm_steps.proofs.ValueSteps.{asked_to_store, can_by_key}
use Rattle.nm_steps.proofs.pass.Shared.store_value.Goals as goal

pub store-requires : goal.store-requires
store-requires g c = asked_to_store _ _ _ _ _ _ _ c.requires.pick
    (can_by_key _ _ _ _ _ _ c.self.invariant.laid (rw (← c.self.view_is) at c.requires.can)) c.requires.may
    c.requires.once
