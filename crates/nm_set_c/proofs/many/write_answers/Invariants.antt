use Rattle.std.proofs.Common.{◌≡◌, map, take, length}
use Rattle.nm_set_c.proofs.many.write_answers.Given as goal

abbrev pub invariant-loop-index : goal.invariant-loop-index
invariant-loop-index g l = record {
  written : take l.index l.lookups ≡ map g.A.Asking.written (take l.index l.queries);
  count : length l.lookups ≡ length l.fn.lookups;
}
