use Rattle.std.proofs.Common.{◌≡◌, map, take}
use Rattle.nm_model.specs.Memory.{named}
use Rattle.nm_core.proofs.machine.Machine.names.Given as goal

-- the nodes so far
abbrev pub invariant-loop-slot : goal.invariant-loop-slot
invariant-loop-slot l = l.nodes.items ≡ map (named l.self.memory) (take l.slot-index l.slots)
