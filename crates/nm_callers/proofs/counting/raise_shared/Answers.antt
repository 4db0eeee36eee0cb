use Rattle.std.proofs.Common.{rules}
use Rattle.nm_callers.proofs.Counters.{raised}
use Rattle.nm_callers.proofs.counting.raise_shared.Goals as goal

pub returns-in-Some-Ok-Replaced-clause-raised : goal.returns-in-Some-Ok-Replaced-clause-raised
returns-in-Some-Ok-Replaced-clause-raised c = raised c.args.map.now c.args.options.now c.args.caller
    c.number_of-caller.result.0 c.put-caller.result.0 c.args.key c.in-Some.number c.in-Some-checked_add.next
    c.in-Some-Ok-Replaced.old (search rules) (search rules) (search rules)
