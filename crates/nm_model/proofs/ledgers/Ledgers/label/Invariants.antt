use Rattle.std.proofs.Common.{◌≡◌, ◌++◌, map, take, drop, option_map}
use Rattle.nm_model.specs.Ledgers.{labelled}
use Rattle.nm_model.proofs.ledgers.Ledgers.label.Given as goal

-- the ledgers so far are labelled
abbrev pub invariant-loop-ledger : goal.invariant-loop-ledger
invariant-loop-ledger l = l.ledger-items ≡ map (option_map (labelled l.label))
    (take l.ledger-index l.initial.ledger-items) ++ drop l.ledger-index l.initial.ledger-items
