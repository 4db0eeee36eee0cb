use Rattle.std.proofs.Common.{◌≡◌}
use Rattle.nm_set.specs.MapPuts.{PutsWereBusy}
use Rattle.nm_set.proofs.map_putting.Member+Values.put_with_retries.Given as goal

abbrev pub invariant-loop-round : goal.invariant-loop-round
invariant-loop-round l = record {
  tree : l.self.tree ≡ l.fn.self.tree;
  busy : PutsWereBusy l.fn.self.tree l.options l._round l.fn.self.worker l.self.worker;
}
