use Rattle.std.proofs.Common.{◌≡◌, ℕ, length, map}
use Rattle.std.specs.Prelude.{All}
use Rattle.std.specs.List.{AllWithin}
use Rattle.nm_walks.specs.Telling.{GoesOn, OnlyLooks}
use Rattle.nm_calls.specs.InTurns.{key_of}
use Rattle.nm_calls.specs.ValuesInTurns.{HasAnswer, HasWalked}
use Rattle.nm_calls.proofs.map_many.read_values.Given as goal

abbrev pub invariant-loop-index : goal.invariant-loop-index
invariant-loop-index l = record {
  walked : AllWithin (HasWalked 0 l.pass) l.queries l.index (length l.fn.queries);
  answers : (n : ℕ) → All (HasWalked n l.fn.pass) l.fn.queries → AllWithin (HasAnswer n l.pass) l.queries 0 l.index
      × AllWithin (HasWalked n l.pass) l.queries l.index (length l.fn.queries);
  keys : map key_of l.queries ≡ map key_of l.fn.queries;
  log : l.pass.view.log ≡ l.fn.pass.view.log;
  on : GoesOn l.fn.pass l.pass;
  only : OnlyLooks l.fn.pass l.pass;
}
