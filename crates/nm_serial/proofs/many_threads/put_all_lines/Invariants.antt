use Rattle.std.proofs.Common.{◌≡◌, ◌++◌, drop}
use Rattle.nm_files.specs.Lines.{parts}
use Rattle.nm_serial.specs.Threads.{all_rows}
use Rattle.nm_serial.proofs.many_threads.put_all_lines.Given as goal

abbrev pub invariant-loop-part : goal.invariant-loop-part
invariant-loop-part l = l.out.items ++ all_rows (parts l.body) l.calls (drop l.part-index l.played)
    ≡ l.fn.out.items ++ all_rows (parts l.body) l.calls l.played
