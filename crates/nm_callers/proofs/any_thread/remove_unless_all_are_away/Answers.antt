use Rattle.nm_callers.proofs.SharedCalls.{found_taken}
use Rattle.nm_callers.proofs.any_thread.remove_unless_all_are_away.Goals as goal

pub returns-clause-away : goal.returns-clause-away
returns-clause-away c = found_taken c.remove.result.1 c.args.set.now c.args.caller c.remove.result.0 c.args.number
    c.requires.within c.remove.ensures.refused
