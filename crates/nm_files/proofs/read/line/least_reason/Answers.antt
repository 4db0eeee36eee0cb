use Rattle.nm_files.proofs.ReasonLemmas.{first_line_least, event_least, call_least}
use Rattle.nm_files.proofs.read.line.least_reason.Goals as goal

pub returns-clause-first_line : goal.returns-clause-first_line
returns-clause-first_line c = first_line_least

pub returns-clause-event : goal.returns-clause-event
returns-clause-event c = event_least

pub returns-clause-call : goal.returns-clause-call
returns-clause-call c = call_least
