use Rattle.nm_replay.proofs.PlainLemmas.{plain_files}
use Rattle.nm_replay.proofs.output.plain_files_are_runs.Goals as goal

pub returns : goal.returns
returns c = plain_files
