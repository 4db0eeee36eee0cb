use Rattle.std.proofs.Common.{◌≡◌, ◌-◌, ◌++◌, [], is_some, unwrap_or, true}
use Rattle.nm_model.specs.Knowledge.{way, cut_by}
use Rattle.nm_core.proofs.worker.WorkerState.cut.Given as goal

-- the slots so far and those of the way from here are all slots, and there is such a way
abbrev pub invariant-loop : goal.invariant-loop
invariant-loop l =
    record {
      slots : l.slots.items ++ cut_by l.self l.at (unwrap_or (way (l.fuel - l.counter) l.self l.at l.to) []) l.keep
          ≡ cut_by l.self l.from (unwrap_or (way l.fuel l.self l.from l.to) []) l.keep;
      leads : is_some (way (l.fuel - l.counter) l.self l.at l.to) ≡ true;
    }
