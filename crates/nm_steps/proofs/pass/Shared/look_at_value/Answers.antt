use Rattle.nm_steps.proofs.ValueSteps.{asked_to_look, can_by_key}
use Rattle.nm_steps.proofs.pass.Shared.look_at_value.Goals as goal

pub load-requires : goal.load-requires
load-requires g c = asked_to_look _ _ _ _ _ _ c.requires.pick
    (can_by_key _ _ _ _ _ _ c.self.invariant.laid (rw (← c.self.view_is) at c.requires.can))
