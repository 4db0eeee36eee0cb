use Rattle.std.proofs.Common.{rules}
use Rattle.nm_set.proofs.member.Member.resign.Goals as goal

pub returns-in-Ok-resign_to-clause-done : goal.returns-in-Ok-resign_to-clause-done
returns-in-Ok-resign_to-clause-done g c = (search rules, c.in-Ok.taken.sealed.worker, search rules, search rules)
