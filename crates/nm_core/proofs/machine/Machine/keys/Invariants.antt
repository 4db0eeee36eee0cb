use Rattle.std.proofs.Common.{◌≡◌, ◌++◌}
use Rattle.nm_model.specs.Reports.{keys}
use Rattle.nm_model.proofs.SetKeys.{pending, work}
use Rattle.nm_core.proofs.machine.Machine.keys.Given as goal

-- the keys so far and those of the parts that wait are all
abbrev pub invariant-loop-part : goal.invariant-loop-part
invariant-loop-part l = l.found.items ++ pending l.self.memory l.waiting.items ≡ keys l.self

abbrev pub decreases-loop-part : goal.decreases-loop-part
decreases-loop-part l = work l.self.memory l.waiting.items
