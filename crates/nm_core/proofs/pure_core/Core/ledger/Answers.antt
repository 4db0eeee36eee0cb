use Rattle.nm_laws.proofs.Configurations.{reached_state}
use Rattle.nm_core.proofs.HeldLedgers.{ledger_none}
use Rattle.nm_core.proofs.pure_core.Core.ledger.Goals as goal

pub returns-clause-none : goal.returns-clause-none
returns-clause-none c = rw (← c.self.view_is) (ledger_none _ (reached_state _ c.self.invariant) c.args.worker)
