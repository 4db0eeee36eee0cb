use Rattle.std.proofs.Common.{rules}
use Rattle.nm_set_c.proofs.Owners.{other_report, told_report}
use Rattle.nm_set_c.proofs.map_reports.nm_map_report_returned.Goals as goal

pub returns : goal.returns
returns c = search (rules, told_report)

pub returns-in_default : goal.returns-in_default
returns-in_default c = search (rules, other_report)
