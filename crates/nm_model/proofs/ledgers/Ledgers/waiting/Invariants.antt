use Rattle.std.proofs.Common.{◌≡◌, ◌+◌, drop}
use Rattle.nm_model.specs.Reports.{in_queues}
use Rattle.nm_model.proofs.ledgers.Ledgers.waiting.Given as goal

-- the entries so far and those of what is left are all
abbrev pub invariant-loop-ledger : goal.invariant-loop-ledger
invariant-loop-ledger l = l.entries + in_queues (drop l.ledger-index l.ledger-items) ≡ in_queues l.ledger-items
