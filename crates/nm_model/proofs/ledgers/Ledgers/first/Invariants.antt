use Rattle.std.proofs.Common.{◌≡◌, drop}
use Rattle.nm_model.specs.Ledgers.{first_of}
use Rattle.nm_model.proofs.ledgers.Ledgers.first.Given as goal

-- no entry so far is of the slot
abbrev pub invariant-loop-ledger : goal.invariant-loop-ledger
invariant-loop-ledger l = first_of (drop l.ledger-index l.ledger-items) l.slot ≡ first_of l.ledger-items l.slot
