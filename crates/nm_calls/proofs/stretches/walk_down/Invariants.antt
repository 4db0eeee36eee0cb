use Rattle.std.proofs.Common.{◌≡◌, ◌≤◌, ◌+◌, ◌*◌}
use Rattle.std.specs.Prelude.{All}
use Rattle.nm_walks.specs.Bounds.{reach}
use Rattle.nm_walks.specs.AddedLooks.{AddsLooks}
use Rattle.nm_walks.specs.Telling.{GoesOn, OnlyLooks}
use Rattle.nm_calls.specs.declared.scan_plan.What.TheVariants.{Entries}
use Rattle.nm_calls.specs.MapScans.{EndsAt}
use Rattle.nm_calls.specs.Scans.{IsStretch, entry_of}
use Rattle.nm_calls.proofs.stretches.walk_down.Given as goal

abbrev pub invariant-loop-node : goal.invariant-loop-node
invariant-loop-node l = record {
  inside : l._node + 1 ≤ reach l.shared.layout;
  looks : AddsLooks (l._node * 4) l.fn.pass.view.log l.pass.view.log;
  walks : IsStretch l.plan.side l.plan.end l._node l.pass l.stretch;
  kept : All (IsStretch l.plan.side l.plan.end 0 l.pass) l.stretches.items;
  entry : entry_of l.plan.side l.stretch ≡ entry_of l.plan.side l.begun;
  hit : l.plan.what ≡ Entries → EndsAt l.pass l.stretch l.leaf;
  on : GoesOn l.fn.pass l.pass;
  only : OnlyLooks l.fn.pass l.pass;
}
