use Rattle.std.proofs.Common.{◌≡◌, drop}
use Rattle.nm_model.specs.Ledgers.{front_of}
use Rattle.nm_model.proofs.ledgers.Ledgers.front.Given as goal

-- no front so far is of the slot
abbrev pub invariant-loop-ledger : goal.invariant-loop-ledger
invariant-loop-ledger l = front_of (drop l.ledger-index l.ledger-items) l.slot ≡ front_of l.ledger-items l.slot
