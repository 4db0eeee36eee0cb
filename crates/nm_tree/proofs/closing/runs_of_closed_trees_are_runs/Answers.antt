use Rattle.nm_tree.proofs.OfClosed.{each_closed_log, each_closed_run_has_a_history, each_closed_total_agrees, each_report_is_a_cores}
use Rattle.nm_tree.proofs.closing.runs_of_closed_trees_are_runs.Goals as goal

pub returns : goal.returns
returns c = record {
  told = each_report_is_a_cores;
  history = each_closed_run_has_a_history;
  totals =
      each_closed_total_agrees;
  logs = each_closed_log;
}
