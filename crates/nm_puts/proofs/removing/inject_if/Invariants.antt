use Rattle.std.proofs.Common.{◌≡◌, ◌≤◌}
use Rattle.std.specs.Prelude.{None}
use Rattle.nm_epoch.specs.Resting.{search}
use Rattle.nm_walks.specs.Bounds.{cut_bound}
use Rattle.nm_walks.specs.Cleanups.{HoldsCuts}
use Rattle.nm_walks.specs.Rooms.{TakesRoom}
use Rattle.nm_walks.specs.Telling.{GoesOn}
use Rattle.nm_calls.specs.Deletes.{LostFlags, OnlyInjects}
use Rattle.nm_puts.proofs.removing.inject_if.Given as goal

abbrev pub invariant-loop-round : goal.invariant-loop-round
invariant-loop-round l = record {
  lost : LostFlags l.shared.layout l.key l.round l.fn.pass.view.log l.pass.view.log;
  on : GoesOn l.fn.pass l.pass;
  only : OnlyInjects l.fn.pass l.pass;
  unflagged : (search l.pass).flagged ≡ None;
  first : l.round ≡ 0 → cut_bound ≤ l.held.queue.spare;
  blocks : TakesRoom l.fn.held.queue l.held.queue;
  kept : HoldsCuts l.pass l.held;
  fit : l.workspace.placement ≡ l.fn.workspace.placement;
}
