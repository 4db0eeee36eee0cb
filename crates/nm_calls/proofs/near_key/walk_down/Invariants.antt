use Rattle.std.proofs.Common.{◌≡◌, ◌≤◌, ◌+◌, ◌*◌}
use Rattle.nm_walks.specs.Bounds.{reach}
use Rattle.nm_calls.specs.NearKeys.{IsDescent}
use Rattle.nm_walks.specs.AddedLooks.{AddsLooks}
use Rattle.nm_walks.specs.Telling.{GoesOn, OnlyLooks}
use Rattle.nm_calls.proofs.near_key.walk_down.Given as goal

abbrev pub invariant-loop-node : goal.invariant-loop-node
invariant-loop-node l = record {
  inside : l._node + 1 ≤ reach l.shared.layout;
  looks : AddsLooks (1 + l._node * (3 * 1)) l.fn.pass.view.log l.pass.view.log;
  under_way : IsDescent l.shared.layout l._node l.fn.pass l.pass l.walk;
  from : l.walk.from ≡ l.from;
  on : GoesOn l.fn.pass l.pass;
  only : OnlyLooks l.fn.pass l.pass;
}
