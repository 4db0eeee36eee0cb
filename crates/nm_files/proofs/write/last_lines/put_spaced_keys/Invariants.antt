use Rattle.std.proofs.Common.{◌≡◌, ◌++◌, drop}
use Rattle.nm_files.specs.LastLines.{spaced_numbers}
use Rattle.nm_files.proofs.write.last_lines.put_spaced_keys.Given as goal

abbrev pub invariant-loop-key : goal.invariant-loop-key
invariant-loop-key l = l.out.items ++ spaced_numbers (drop l.key-index l.keys) ≡ l.fn.out.items ++ spaced_numbers l.keys
