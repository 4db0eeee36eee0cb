use Rattle.std.proofs.Common.{◌≡◌, ◌≤◌}
use Rattle.std.specs.Prelude.{None}
use Rattle.nm_walks.specs.Bounds.{cut_bound}
use Rattle.nm_walks.specs.Cleanups.{HoldsCuts}
use Rattle.nm_walks.specs.Growing.{HasNewNodes}
use Rattle.nm_walks.specs.Rooms.{TakesRoom}
use Rattle.nm_walks.specs.Telling.{GoesOn}
use Rattle.nm_puts.specs.Puts.{HasPutNothing, LostPuts, OnlyPuts}
use Rattle.nm_puts.proofs.putting.put_pinned.Given as goal

abbrev pub invariant-loop-round : goal.invariant-loop-round
invariant-loop-round l = record {
  lost : LostPuts l.fn.workspace.placement l.shared.layout l.condition l.key l.round l.fn.pass.view.log l.pass.view.log;
  on : GoesOn l.fn.pass l.pass;
  only : OnlyPuts l.fn.pass l.pass;
  nothing : HasPutNothing l.fn.pass l.pass;
  private : HasNewNodes l.fn.pass l.pass None;
  first : l.round ≡ 0 → cut_bound ≤ l.held.queue.spare;
  blocks : TakesRoom l.fn.held.queue l.held.queue;
  kept : HoldsCuts l.pass l.held;
  fit : l.workspace.placement ≡ l.fn.workspace.placement;
}
