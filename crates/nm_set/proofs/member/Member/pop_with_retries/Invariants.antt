use Rattle.std.proofs.Common.{◌≡◌, true}
use Rattle.nm_tree.specs.Answers.{FreesNone}
use Rattle.nm_set.specs.Popping.{pop_round_bound}
use Rattle.nm_set.proofs.PopRounds.{LostRounds}
use Rattle.nm_set.proofs.member.Member.pop_with_retries.Given as goal

abbrev pub invariant-loop-round : goal.invariant-loop-round
invariant-loop-round g l = record {
  tree : l.self.tree ≡ l.fn.self.tree;
  lost : LostRounds l.options (pop_round_bound l.options l.fn.self.tree.layout) l._round l.fn.self.worker l.self.worker;
  frees : l.fn.in_map ≡ true → FreesNone l.fn.self.worker l.self.worker;
}
