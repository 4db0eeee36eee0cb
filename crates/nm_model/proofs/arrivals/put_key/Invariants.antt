use Rattle.std.proofs.Common.{◌≡◌, ◌++◌, map, take, drop}
use Rattle.nm_model.specs.Searches.{keyed}
use Rattle.nm_model.proofs.arrivals.put_key.Given as goal

-- the arrivals so far are done
abbrev pub invariant-loop-index : goal.invariant-loop-index
invariant-loop-index l = l.arrivals.items ≡ map (keyed l.slot l.key) (take l.index l.initial.arrivals.items)
    ++ drop l.index l.initial.arrivals.items
