use Rattle.std.proofs.Common.{◌≡◌, ◌+◌, ◌≤◌, ◌<◌, ◌++◌, ℕ, List, false, true, length, get_or}
use Rattle.std.specs.Prelude.{vec_capacity}
use Rattle.core.specs.Mem.Slots.{slots_items, slots_filled, slots_len}
use Rattle.core.specs.Mem.Slots.Ownership.{Filled}
use Rattle.atomic_table.specs.Table.{Final}
use Rattle.nm_lending.specs.Visits.{AreResident, Lent}
use Rattle.nm_lending.proofs.lending.Lending.gather.Given as goal

abbrev pub invariant-loop-seat : goal.invariant-loop-seat
invariant-loop-seat g l = record {
  words : (slots_len l.closed.words ≡ l.fn.self.table.words) × (slots_len l.closed.slots ≡ l.fn.self.table.words)
      × ((k : ℕ) → k < slots_len l.closed.words → get_or (slots_filled l.closed.words) k false ≡ true);
  left : Filled (slots_filled l.closed.slots) l.seat (slots_len l.closed.slots);
  gone : (k : ℕ) → k < l.seat → get_or (slots_filled l.closed.slots) k false ≡ false;
  within : l.seat ≤ slots_len l.closed.slots;
  final : Final (Lent g.P.LendRule.resident g.P.LendRule.goes l.fn.self.site) (slots_items l.closed.words)
      (slots_items l.closed.slots);
  rest : (rest : List g.row.T.Denot) × (l.values.items ≡ l.fn.values.items ++ rest)
      × AreResident g.P.LendRule.resident l.fn.self.site rest;
  room : length l.values.items + slots_len l.closed.slots ≤ vec_capacity l.values + l.seat;
}
