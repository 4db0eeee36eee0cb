use Rattle.std.proofs.Common.{◌≡◌, ◌≤◌, ◌+◌, ◌*◌, length, map}
use Rattle.std.specs.Prelude.{All}
use Rattle.nm_walks.specs.Bounds.{reach}
use Rattle.nm_calls.specs.InTurns.{AddsLooks, IsUnderWay, key_of}
use Rattle.nm_walks.specs.Telling.{GoesOn, OnlyLooks}
use Rattle.nm_calls.proofs.many.walk_all.Given as goal

abbrev pub invariant-loop-turn : goal.invariant-loop-turn
invariant-loop-turn l = record {
  inside : l._turn + 1 ≤ reach l.shared.layout;
  looks : AddsLooks (1 + l._turn * (3 * length l.fn.queries)) l.fn.pass.view.log l.pass.view.log;
  under_way : All (IsUnderWay l.what (length l.fn.pass.view.log) l._turn l.pass) l.queries;
  keys : map key_of l.queries ≡ map key_of l.fn.queries;
  on : GoesOn l.fn.pass l.pass;
  only : OnlyLooks l.fn.pass l.pass;
}
