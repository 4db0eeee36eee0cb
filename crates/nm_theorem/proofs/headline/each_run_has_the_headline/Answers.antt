use Rattle.nm_theorem.proofs.WrittenWords.{words_are_written}
use Rattle.nm_theorem.proofs.HeadlineOfRuns.{each_run_has_it}
use Rattle.nm_theorem.proofs.headline.each_run_has_the_headline.Goals as goal

pub returns : goal.returns
returns c = record { words = words_are_written; headline = each_run_has_it }
