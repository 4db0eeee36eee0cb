use Rattle.nm_order.proofs.WalkAnswers.{walks_tell_of_their_pin}
use Rattle.nm_order.proofs.WalkTells.{any_walk_tells}
use Rattle.nm_order.proofs.paths.walks_tell_of_the_set.Goals as goal

pub returns-clause-pin : goal.returns-clause-pin
returns-clause-pin c = any_walk_tells

pub returns-clause-since : goal.returns-clause-since
returns-clause-since c = walks_tell_of_their_pin
