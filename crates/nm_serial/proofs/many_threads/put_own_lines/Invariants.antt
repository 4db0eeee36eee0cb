use Rattle.std.proofs.Common.{◌≡◌, ◌++◌, drop}
use Rattle.std.specs.Option.{option_copied}
use Rattle.nm_serial.specs.AnswerLines.{lines}
use Rattle.nm_files.specs.Lines.{parts, further}
use Rattle.nm_serial.specs.Threads.{own_rows}
use Rattle.nm_serial.proofs.many_threads.put_own_lines.Given as goal

abbrev pub invariant-loop-entry : goal.invariant-loop-entry
invariant-loop-entry l = l.out.items ++ lines (own_rows l.worker (further 10 (option_copied l.rest))
    (drop l.entry-index l.calls)) l.left ≡ l.fn.out.items ++ lines (own_rows l.worker (parts l.body) l.calls) l.answers
