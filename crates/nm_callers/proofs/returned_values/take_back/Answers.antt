use Rattle.nm_callers.proofs.Returned.{values_are_back}
use Rattle.nm_callers.proofs.returned_values.take_back.Goals as goal

pub returns-clause-back : goal.returns-clause-back
returns-clause-back c = values_are_back c.args.worker.now c.collect_values.new.worker c.collect_values.ensures.leaves
