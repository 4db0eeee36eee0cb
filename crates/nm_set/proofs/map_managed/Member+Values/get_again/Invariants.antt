use Rattle.std.proofs.Common.{◌≡◌}
use Rattle.nm_set.specs.MapRounds.{LooksWereBusy}
use Rattle.nm_set.proofs.map_managed.Member+Values.get_again.Given as goal

abbrev pub invariant-loop-round : goal.invariant-loop-round
invariant-loop-round l = record {
  tree : l.self.tree ≡ l.fn.self.tree;
  busy : LooksWereBusy l.fn.self.tree l.options l._round l.fn.self.worker l.self.worker;
}
