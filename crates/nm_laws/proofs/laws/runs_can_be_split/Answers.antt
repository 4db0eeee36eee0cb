use Rattle.nm_laws.proofs.Reaches.{after-append, trace-append}
use Rattle.nm_laws.proofs.laws.runs_can_be_split.Goals as goal

pub returns-clause-state : goal.returns-clause-state
returns-clause-state c = after-append

pub returns-clause-trace : goal.returns-clause-trace
returns-clause-trace c = trace-append
