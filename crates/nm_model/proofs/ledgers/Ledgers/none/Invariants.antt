use Rattle.std.proofs.Common.{◌≡◌, replicate, None}
use Rattle.nm_model.proofs.ledgers.Ledgers.none.Given as goal

abbrev pub invariant-loop : goal.invariant-loop
invariant-loop l = l.by_origin.items ≡ replicate l.counter None
