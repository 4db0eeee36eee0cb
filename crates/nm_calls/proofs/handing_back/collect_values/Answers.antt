use Rattle.nm_calls.proofs.HandedBack.{found_is_inner, read_is_cut}
use Rattle.nm_calls.proofs.handing_back.collect_values.Goals as goal

pub returns-clause-back : goal.returns-clause-back
returns-clause-back c = read_is_cut _ _

pub returns-clause-inner : goal.returns-clause-inner
returns-clause-inner c = found_is_inner _ _
