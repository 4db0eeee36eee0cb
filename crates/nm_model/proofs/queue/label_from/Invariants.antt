use Rattle.std.proofs.Common.{◌≡◌, ◌++◌, map, take, drop}
use Rattle.nm_model.specs.Queues.{with_label}
use Rattle.nm_model.proofs.queue.label_from.Given as goal

-- the entries so far have a label
abbrev pub invariant-loop-index : goal.invariant-loop-index
invariant-loop-index l = l.entries.items ≡ map (with_label l.label) (take l.index l.initial.entries.items)
    ++ drop l.index l.initial.entries.items
