use Rattle.std.proofs.Common.{◌≡◌, ◌≤◌, false}
use Rattle.nm_epoch.specs.Resting.{search}
use Rattle.nm_walks.specs.Bounds.{cut_bound}
use Rattle.nm_walks.specs.Rooms.{TakesRoom}
use Rattle.nm_walks.specs.Telling.{GoesOn}
use Rattle.nm_walks.specs.Growing.{HasNewNodes}
use Rattle.nm_calls.specs.Inserts.{LostInserts, OnlyTries}
use Rattle.nm_walks.specs.Cleanups.{HoldsCuts}
use Rattle.nm_calls.proofs.inserting.insert_pinned.Given as goal

abbrev pub invariant-loop-round : goal.invariant-loop-round
invariant-loop-round l = record {
  lost : LostInserts l.fn.workspace.placement l.shared.layout l.key l.round l.new_nodes l.fn.pass.view.log
      l.pass.view.log;
  on : GoesOn l.fn.pass l.pass;
  only : OnlyTries l.fn.pass l.pass;
  unlinked : (search l.pass).linked ≡ false;
  has : HasNewNodes l.fn.pass l.pass l.new_nodes;
  first : l.round ≡ 0 → cut_bound ≤ l.held.queue.spare;
  blocks : TakesRoom l.fn.held.queue l.held.queue;
  kept : HoldsCuts l.pass l.held;
  fit : l.workspace.placement ≡ l.fn.workspace.placement;
}
