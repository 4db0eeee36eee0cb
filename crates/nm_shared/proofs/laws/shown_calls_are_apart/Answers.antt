use Rattle.nm_shared.proofs.Answered.{shown_calls_are_apart as law}
use Rattle.nm_shared.proofs.laws.shown_calls_are_apart.Goals as goal

pub returns : goal.returns
returns c = law
