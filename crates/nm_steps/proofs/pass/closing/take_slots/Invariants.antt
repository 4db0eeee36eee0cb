use Rattle.std.proofs.Common.{◌≡◌, ◌<◌, ◌≤◌, ℕ, false, true}
use Rattle.std.specs.Prelude.{slice_index_or}
use Rattle.nm_steps.proofs.pass.closing.take_slots.Given as goal

abbrev pub invariant-loop-slot : goal.invariant-loop-slot
invariant-loop-slot l = record {
  end : l.slot-end ≡ l.closed.slots.len;
  taken : (k : ℕ) → k < l.slot → slice_index_or l.closed.slots.filled k false ≡ false;
  full : (k : ℕ) → l.slot ≤ k → k < l.closed.slots.len → slice_index_or l.closed.slots.filled k false ≡ true;
}
