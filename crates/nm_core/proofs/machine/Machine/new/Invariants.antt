use Rattle.std.proofs.Common.{◌≡◌, map}
use Rattle.std.specs.List.{range_with_len}
use Rattle.nm_model.specs.Knowledge.{newcomer}
use Rattle.nm_core.proofs.machine.Machine.new.Given as goal

-- the workers so far
abbrev pub invariant-loop-number : goal.invariant-loop-number
invariant-loop-number l = l.newcomers.items ≡ map (newcomer l.layout) (range_with_len 0 l.number)
