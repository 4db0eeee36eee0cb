use Rattle.std.proofs.Common.{◌≡◌}
use Rattle.nm_model.specs.declared.event.Op.TheVariants.{Delete}
use Rattle.nm_tree.specs.Answers.{FreesNone}
use Rattle.nm_set.specs.Rounds.{WereBusy}
use Rattle.nm_set.proofs.map_removing.Member+Values.remove_if_with_retries.Given as goal

abbrev pub invariant-loop-round : goal.invariant-loop-round
invariant-loop-round l = record {
  tree : l.self.tree ≡ l.fn.self.tree;
  busy : WereBusy l.fn.self.tree l.options Delete l._round l.fn.self.worker l.self.worker;
  frees : FreesNone l.fn.self.worker l.self.worker;
}
