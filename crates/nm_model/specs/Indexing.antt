-- Queues as the code keeps them, with the indices of the entries of each slot. What the queues mean
-- is in Queues.
use Rattle.std.specs.Prelude.{◌≡◌, ℕ, ◌<◌, ◌≤◌, ◌⊎◌, max, nat_le, Bool, true, false, List, length, take, map, slice_index_or, Option, Some, None, unwrap_or}
use Rattle.nm_model.specs.declared.ledger.Queued.{Queued}
use Rattle.nm_model.specs.declared.indices.Indices.{Indices}
use Rattle.nm_model.specs.Maps.{get}
use Rattle.nm_model.specs.Queues.{with_label}

-- the indices of a slot, with one more entry after the others
abbrev pub with_index : Option Indices → ℕ → Indices
with_index None i = record { last = i; earlier = None }
with_index (Some x) i = record { last = i; earlier = Some (max x.last (unwrap_or x.earlier 0)) }

-- the number exists, and is at least this
abbrev pub is_at_least : Option ℕ → ℕ → Bool
is_at_least None i = false
is_at_least (Some n) i = nat_le i n

-- an entry of a slot is at an index that the slot's indices allow: it is the last one, or not after
-- the bound of the others
abbrev pub IsCovered : Option Indices → ℕ → Type 0
IsCovered None i = ⊥
IsCovered (Some x) i = (i ≡ x.last) ⊎ (is_at_least x.earlier i ≡ true)

-- the indices allow each of the first n entries
abbrev pub Covers : List (ℕ × Indices) → List Queued → ℕ → Type 0
Covers indices entries n = (i : ℕ) (d : Queued) → i < n
    → IsCovered (get indices (slice_index_or entries i d).node.slot) i

-- ---- queues

-- a queue is kept with the entries that have left: the first `departed` ones. The first `done`
-- entries have a label, which no further label changes. The indices have, for each slot, the index
-- of its last entry, and an upper bound for those of its others
pub record IsIndexedQueue (entries : List Queued) (departed done : ℕ)
    (indices : List (ℕ × Indices)) : Type 0 where
  pub departed_fits : departed ≤ length entries
  pub done_fits : done ≤ length entries
  pub stays : (label : ℕ) → map (with_label label) (take done entries) ≡ take done entries
  pub covered : Covers indices entries (length entries)
