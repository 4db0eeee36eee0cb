use Rattle.std.proofs.Common.{◌≡◌, ◌-◌}
use Rattle.nm_core.specs.Chains.{leads_to}
use Rattle.nm_core.proofs.known.Known.has_way.Given as goal

-- the chain leads on from here exactly if it leads from the first node, and the same is known
abbrev pub invariant-loop : goal.invariant-loop
invariant-loop l =
    record {
      leads : leads_to (l.fuel - l.counter) l.self l.at.slot l.to ≡ leads_to l.fuel l.initial.self l.from l.to;
      same : l.self ≡ l.initial.self;
    }
