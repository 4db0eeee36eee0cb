use Rattle.std.proofs.Common.{◌≡◌, map, take}
use Rattle.nm_calls.specs.InTurns.{key_of}
use Rattle.nm_set_c.proofs.many.queries_of.Given as goal

abbrev pub invariant-loop-lookup : goal.invariant-loop-lookup
invariant-loop-lookup g l = map key_of l.queries.items ≡ map g.A.Asking.number (take l.lookup-index l.lookups)
