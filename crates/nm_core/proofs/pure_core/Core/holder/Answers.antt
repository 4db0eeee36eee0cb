use Rattle.nm_laws.proofs.Configurations.{reached_state}
use Rattle.nm_laws.proofs.Shapes.{reachable_shaped}
use Rattle.nm_core.proofs.HeldLedgers.{holder_none}
use Rattle.nm_core.proofs.pure_core.Core.holder.Goals as goal

pub holder-requires : goal.holder-requires
holder-requires c = reachable_shaped _ (reached_state _ c.self.invariant)

pub returns-clause-none : goal.returns-clause-none
returns-clause-none c = rw c.holder.ensures (rw (← c.self.view_is)
    (holder_none _ (reached_state _ c.self.invariant) c.args.origin))
