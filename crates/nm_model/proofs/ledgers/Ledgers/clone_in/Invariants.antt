use Rattle.std.proofs.Common.{◌≡◌, take}
use Rattle.nm_model.proofs.ledgers.Ledgers.clone_in.Given as goal

-- the ledgers so far
abbrev pub invariant-loop-ledger : goal.invariant-loop-ledger
invariant-loop-ledger l = l.by_origin.items ≡ take l.ledger-index l.ledger-items
