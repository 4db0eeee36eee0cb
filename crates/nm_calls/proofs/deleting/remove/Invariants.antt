use Rattle.std.proofs.Common.{◌≡◌}
use Rattle.nm_walks.specs.Rooms.{TakesRoom}
use Rattle.nm_walks.specs.Telling.{GoesOn}
use Rattle.nm_walks.specs.Cleanups.{OnlyCleans, HoldsCuts}
use Rattle.nm_calls.specs.Deletes.{IsRemoving, LostRemovals}
use Rattle.nm_calls.proofs.deleting.remove.Given as goal

abbrev pub invariant-loop-round : goal.invariant-loop-round
invariant-loop-round l = record {
  lost : LostRemovals l.shared.layout l.pending.key l.pending.leaf l._round l.fn.pass.view.log l.pass.view.log;
  removing : IsRemoving l.pass l.pending.key l.pending.leaf;
  on : GoesOn l.fn.pass l.pass;
  only : OnlyCleans l.fn.pass l.pass;
  blocks : TakesRoom l.fn.held.queue l.held.queue;
  kept : HoldsCuts l.pass l.held;
  fit : l.workspace.placement ≡ l.fn.workspace.placement;
}
