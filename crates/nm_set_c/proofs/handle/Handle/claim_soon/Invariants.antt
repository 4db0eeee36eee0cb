use Rattle.std.proofs.Common.{◌≡◌}
use Rattle.nm_set_c.specs.Handles.{held_by}
use Rattle.nm_set_c.proofs.handle.Handle.claim_soon.Given as goal

abbrev pub invariant-loop : goal.invariant-loop
invariant-loop l = held_by l.self ≡ held_by l.fn.self
