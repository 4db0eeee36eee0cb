use Rattle.nm_shared.proofs.Answered.{calls_of_one_caller_are_in_order as law}
use Rattle.nm_shared.proofs.laws.calls_of_one_caller_are_in_order.Goals as goal

pub returns : goal.returns
returns c = law
