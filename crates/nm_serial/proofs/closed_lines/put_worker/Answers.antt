use Rattle.std.proofs.Common.{append_assoc, rules}
use Rattle.nm_serial.proofs.closed_lines.put_worker.Goals as goal

pub returns : goal.returns
unfolding Rattle.nm_serial.specs.ClosedLines.closed_worker_line
returns c = search (rules, append_assoc)
