use Rattle.nm_laws.proofs.EachState.{each_read_stands, each_known_leaf}
use Rattle.nm_laws.proofs.KnownBirths.{each_birth_stands}
use Rattle.nm_laws.proofs.laws.what_was_read_stands.Goals as goal

pub returns-clause-marks : goal.returns-clause-marks
returns-clause-marks c = each_read_stands

pub returns-clause-leaves : goal.returns-clause-leaves
returns-clause-leaves c = each_known_leaf

pub returns-clause-births : goal.returns-clause-births
returns-clause-births c = each_birth_stands
