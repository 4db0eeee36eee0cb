use Rattle.std.proofs.Common.{◌≡◌}
use Rattle.nm_tree.specs.Answers.{FreesNone}
use Rattle.nm_set.specs.Rounds.{WereBusy}
use Rattle.nm_set.proofs.member.Member.ask_value_with_retries.Given as goal

abbrev pub invariant-loop-round : goal.invariant-loop-round
invariant-loop-round g l = record {
  tree : l.self.tree ≡ l.fn.self.tree;
  busy : WereBusy l.fn.self.tree l.options l.fn.op l._round l.fn.self.worker l.self.worker;
  frees : FreesNone l.fn.self.worker l.self.worker;
}
