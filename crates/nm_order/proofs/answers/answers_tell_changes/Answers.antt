use Rattle.nm_order.proofs.RunExchanges.{each_answer_tells_links, each_answer_tells_flags, each_silent_leave}
use Rattle.nm_order.proofs.answers.answers_tell_changes.Goals as goal

pub returns-clause-links : goal.returns-clause-links
returns-clause-links c = each_answer_tells_links

pub returns-clause-flags : goal.returns-clause-flags
returns-clause-flags c = each_answer_tells_flags

pub returns-clause-silent : goal.returns-clause-silent
returns-clause-silent c = each_silent_leave
