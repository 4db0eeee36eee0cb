use Rattle.std.proofs.Common.{◌≡◌, map}
use Rattle.std.specs.List.{AllWithin}
use Rattle.nm_calls.specs.InTurns.{HasBegun, key_of}
use Rattle.nm_calls.proofs.many.begin_each.Given as goal

abbrev pub invariant-loop-index : goal.invariant-loop-index
invariant-loop-index l = record {
  begun : AllWithin (HasBegun l.first) l.queries 0 l.index;
  keys : map key_of l.queries ≡ map key_of l.fn.queries;
}
