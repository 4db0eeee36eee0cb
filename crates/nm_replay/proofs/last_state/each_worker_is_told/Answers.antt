use Rattle.nm_replay.proofs.LedgerLemmas.{each_is_told}
use Rattle.nm_replay.proofs.last_state.each_worker_is_told.Goals as goal

pub returns : goal.returns
returns c = each_is_told
