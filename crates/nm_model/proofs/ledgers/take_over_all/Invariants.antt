use Rattle.std.proofs.Common.{◌≡◌, ◌++◌, drop, take, length}
use Rattle.nm_model.specs.Ledgers.{taken_over}
use Rattle.nm_model.proofs.ledgers.take_over_all.Given as goal

-- the origins so far are taken over, and the others are as they were
abbrev pub invariant-loop-origin : goal.invariant-loop-origin
invariant-loop-origin l =
    record {
      ledgers : l.ledgers.items ≡ taken_over (take l.origin l.fn.ledgers.items) (take l.origin l.fn.passed.items)
          ++ drop l.origin l.fn.ledgers.items;
      passed : drop l.origin l.passed.items ≡ drop l.origin l.fn.passed.items;
      same : length l.passed.items ≡ length l.fn.passed.items;
    }
