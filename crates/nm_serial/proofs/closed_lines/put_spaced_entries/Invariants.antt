use Rattle.std.proofs.Common.{◌≡◌, ◌++◌, length}
use Rattle.nm_serial.specs.ClosedLines.{spaced_waiting}
use Rattle.nm_serial.proofs.closed_lines.put_spaced_entries.Given as goal

abbrev pub invariant-loop-entry : goal.invariant-loop-entry
invariant-loop-entry l = l.out.items ++ spaced_waiting l.queue.items ≡ l.fn.out.items ++ spaced_waiting l.fn.queue.items

abbrev pub decreases-loop-entry : goal.decreases-loop-entry
decreases-loop-entry l = length l.queue.items
