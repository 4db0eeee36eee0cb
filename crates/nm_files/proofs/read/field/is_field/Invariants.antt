use Rattle.std.proofs.Common.{◌≡◌, take, true}
use Rattle.std.specs.List.{list_all}
use Rattle.nm_files.specs.Lines.{is_visible}
use Rattle.nm_files.proofs.read.field.is_field.Given as goal

abbrev pub invariant-loop-b : goal.invariant-loop-b
invariant-loop-b l = list_all is_visible (take l.b-index l.field) ≡ true
