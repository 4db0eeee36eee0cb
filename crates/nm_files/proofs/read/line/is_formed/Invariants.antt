use Rattle.std.proofs.Common.{◌≡◌}
use Rattle.std.specs.List.{list_all}
use Rattle.std.specs.Option.{option_copied}
use Rattle.nm_files.specs.Lines.{is_field, fields, further}
use Rattle.nm_files.proofs.PieceLemmas.{left}
use Rattle.nm_files.proofs.read.line.is_formed.Given as goal

abbrev pub invariant-loop-rest : goal.invariant-loop-rest
invariant-loop-rest l = list_all is_field (further 32 (option_copied l.rest)) ≡ list_all is_field (fields l.line)

abbrev pub decreases-loop-rest : goal.decreases-loop-rest
decreases-loop-rest l = left (option_copied l.rest)
