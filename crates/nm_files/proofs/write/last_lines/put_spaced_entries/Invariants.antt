use Rattle.std.proofs.Common.{◌≡◌, ◌++◌, drop}
use Rattle.nm_files.specs.LastLines.{spaced_entries}
use Rattle.nm_files.proofs.write.last_lines.put_spaced_entries.Given as goal

abbrev pub invariant-loop-entry : goal.invariant-loop-entry
invariant-loop-entry l = l.out.items ++ spaced_entries (drop l.entry-index l.entries)
    ≡ l.fn.out.items ++ spaced_entries l.entries
