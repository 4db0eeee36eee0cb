use Rattle.nm_steps.proofs.PackedWrites.{epoch_written, announcement_written, key_written, edge_written, birth_written, taking_clears_a_bit, giving_sets_a_bit}
use Rattle.nm_steps.proofs.words.writes_change_one_word.Goals as goal

pub returns-clause-epoch : goal.returns-clause-epoch
returns-clause-epoch c = epoch_written

pub returns-clause-announcement : goal.returns-clause-announcement
returns-clause-announcement c = announcement_written

pub returns-clause-key : goal.returns-clause-key
returns-clause-key c = key_written

pub returns-clause-edge : goal.returns-clause-edge
returns-clause-edge c = edge_written

pub returns-clause-birth : goal.returns-clause-birth
returns-clause-birth c = birth_written

pub returns-clause-taking : goal.returns-clause-taking
returns-clause-taking c = taking_clears_a_bit

pub returns-clause-giving : goal.returns-clause-giving
returns-clause-giving c = giving_sets_a_bit
