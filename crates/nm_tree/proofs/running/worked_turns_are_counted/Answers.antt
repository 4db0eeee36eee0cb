use Rattle.nm_tree.proofs.WorkedPending.{pends_on_worked_turns, totals_want_that_none_pends}
use Rattle.nm_tree.proofs.running.worked_turns_are_counted.Goals as goal

pub returns : goal.returns
returns c = record { says = pends_on_worked_turns; wrong = totals_want_that_none_pends }
