use Rattle.nm_walks.specs.Telling.{GoesOn, OnlyLooks}
use Rattle.nm_calls.specs.Calls.{LostWalks}
use Rattle.nm_calls.proofs.lookup.has.Given as goal

abbrev pub invariant-loop-walk : goal.invariant-loop-walk
invariant-loop-walk l = record {
  lost : LostWalks l.shared.layout l.key l._walk l.initial.pass.view.log l.pass.view.log;
  on : GoesOn l.initial.pass l.pass;
  only : OnlyLooks l.initial.pass l.pass;
}
