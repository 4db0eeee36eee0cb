use Rattle.nm_theorem.proofs.HistoriesOfRuns.{log_of_turns}
use Rattle.nm_theorem.proofs.headline.logs_are_parts_of_turns.Goals as goal

pub returns : goal.returns
returns c = log_of_turns
