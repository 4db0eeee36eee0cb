use Rattle.std.proofs.Common.{◌≡◌, ◌≤◌, ◌+◌, ◌*◌, ℕ, length, map}
use Rattle.std.specs.Prelude.{All}
use Rattle.std.specs.List.{AllWithin}
use Rattle.nm_calls.specs.InTurns.{AddsLooks, IsUnderWay, key_of}
use Rattle.nm_walks.specs.Telling.{GoesOn, OnlyLooks}
use Rattle.nm_calls.proofs.many.take_turns.Given as goal

abbrev pub invariant-loop-index : goal.invariant-loop-index
invariant-loop-index l = record {
  looks : AddsLooks (3 * l.index) l.fn.pass.view.log l.pass.view.log;
  under_way : All (IsUnderWay l.what 0 0 l.pass) l.queries;
  further : (from n : ℕ) → from ≤ length l.fn.pass.view.log → All (IsUnderWay l.what from n l.fn.pass) l.fn.queries
      → All (IsUnderWay l.what from n l.pass) l.queries
      × AllWithin (IsUnderWay l.what from (n + 1) l.pass) l.queries 0 l.index;
  keys : map key_of l.queries ≡ map key_of l.fn.queries;
  on : GoesOn l.fn.pass l.pass;
  only : OnlyLooks l.fn.pass l.pass;
}
