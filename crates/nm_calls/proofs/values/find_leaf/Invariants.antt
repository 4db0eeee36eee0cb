use Rattle.std.proofs.Common.{◌≢◌, ◌≤◌, ◌+◌, ◌*◌, length}
use Rattle.nm_order.specs.Facts.Fact.{KnowsSlot}
use Rattle.nm_walks.specs.AddedLooks.{AddsLooks}
use Rattle.nm_walks.specs.Bounds.{reach}
use Rattle.nm_walks.specs.Telling.{GoesOn, OnlyLooks, Tells}
use Rattle.nm_calls.specs.PlainWalks.{HasPassed, after_entries}
use Rattle.nm_calls.proofs.values.find_leaf.Given as goal

abbrev pub invariant-loop-node : goal.invariant-loop-node
invariant-loop-node l = record {
  inside : l._node + 1 ≤ reach l.shared.layout;
  some : l.node ≢ 0;
  looks : AddsLooks (1 + l._node * (3 * 1)) l.fn.pass.view.log l.pass.view.log;
  came : HasPassed l._node (after_entries (length l.fn.pass.view.log) l.pass).view.log l.key l.node;
  known : Tells l.pass (KnowsSlot l.node);
  within : l.node ≤ l.shared.layout.nodes;
  on : GoesOn l.fn.pass l.pass;
  only : OnlyLooks l.fn.pass l.pass;
}
