use Rattle.std.proofs.Common.{drop}
use Rattle.nm_set.specs.Filling.{RiseFrom}
use Rattle.nm_set.proofs.filling.ascend.Given as goal

abbrev pub invariant-loop-key : goal.invariant-loop-key
invariant-loop-key l = record {
  up : RiseFrom l.least (drop l.key-index l.keys) → RiseFrom 0 l.keys;
  down : RiseFrom 0 l.keys → RiseFrom l.least (drop l.key-index l.keys);
}
