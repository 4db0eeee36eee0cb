use Rattle.nm_laws.proofs.Pins.{pins_stay_near as every_run}
use Rattle.nm_laws.proofs.laws.pins_stay_near.Goals as goal

pub returns : goal.returns
returns c = every_run
