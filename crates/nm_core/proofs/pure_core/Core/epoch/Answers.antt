use Rattle.nm_laws.proofs.Configurations.{reached_state}
use Rattle.nm_laws.proofs.Pins.{reachable_pins_are_near}
use Rattle.nm_core.proofs.pure_core.Core.epoch.Goals as goal

pub returns-clause-near : goal.returns-clause-near
returns-clause-near c = rw (← c.self.view_is) (reachable_pins_are_near _ (reached_state _ c.self.invariant))
