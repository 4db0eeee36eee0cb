use Rattle.nm_order.proofs.HistoryLaws.{each_run_has_a_history}
use Rattle.nm_order.proofs.RealTime.{histories_keep_real_time, histories_have_one_act_a_call}
use Rattle.nm_order.proofs.history.runs_are_histories.Goals as goal

pub returns-clause-history : goal.returns-clause-history
returns-clause-history c = each_run_has_a_history

pub returns-clause-real_time : goal.returns-clause-real_time
returns-clause-real_time c = histories_keep_real_time

pub returns-clause-one_act : goal.returns-clause-one_act
returns-clause-one_act c = histories_have_one_act_a_call
