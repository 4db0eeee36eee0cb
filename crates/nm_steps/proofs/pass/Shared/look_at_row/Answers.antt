use Rattle.nm_steps.proofs.Rows.{asked_to_pass, can_by_key}
use Rattle.nm_steps.proofs.pass.Shared.look_at_row.Goals as goal

pub load-requires : goal.load-requires
load-requires g c = asked_to_pass _ _ _ _ _ _ _ _ _ c.requires.first c.requires.many
    (can_by_key _ _ _ _ _ _ _ c.self.invariant.laid (rw (← c.self.view_is) at c.requires.can))
