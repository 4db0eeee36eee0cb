use Rattle.nm_steps.proofs.PackedSizes.{each_state_in_range, words_below, words_stay_below}
use Rattle.nm_steps.proofs.MarkedEdges.{each_null_unmarked}
use Rattle.nm_steps.proofs.words.words_have_room.Goals as goal

pub returns-clause-range : goal.returns-clause-range
returns-clause-range c = each_state_in_range

pub returns-clause-below : goal.returns-clause-below
returns-clause-below c = words_below

pub returns-clause-runs : goal.returns-clause-runs
returns-clause-runs c = words_stay_below

pub returns-clause-marks : goal.returns-clause-marks
returns-clause-marks c = each_null_unmarked
