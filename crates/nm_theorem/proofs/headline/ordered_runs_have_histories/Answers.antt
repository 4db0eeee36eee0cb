use Rattle.nm_theorem.proofs.HistoriesOfRuns.{history_of_run}
use Rattle.nm_theorem.proofs.headline.ordered_runs_have_histories.Goals as goal

pub returns : goal.returns
returns c = history_of_run
