use Rattle.nm_callers.proofs.Tallied.{keys_are_the_acts as proof}
use Rattle.nm_callers.proofs.page.keys_are_the_acts.Goals as goal

pub returns : goal.returns
returns c = proof
