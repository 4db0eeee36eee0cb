use Rattle.nm_tree.specs.Calls.{MayCall}
use Rattle.nm_tree.specs.Popping.{LosesRounds}
use Rattle.nm_tree.proofs.tree.Tree.pop_in_rounds.Given as goal

abbrev pub invariant-loop-round : goal.invariant-loop-round
invariant-loop-round l = record {
  may : MayCall l.self l.worker;
  lost : LosesRounds l.end l.self.layout l.tries l._round l.fn.worker l.worker;
}
