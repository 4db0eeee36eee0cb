-- Ledgers by origin: what one worker's splices cut off, what of it was freed, and what waits.
use Rattle.std.specs.Prelude.{ℕ, List, [], ◌∷◌, ◌++◌, map, drop, if◌then◌else◌, slice_index_or, slice_set, Option, Some, None, is_some, option_map}
use Rattle.nm_edge.specs.declared.node.NodeId.{NodeId}
use Rattle.nm_model.specs.declared.ledger.Queued.{Queued}
use Rattle.nm_model.specs.declared.ledger.Ledger.{Ledger}
use Rattle.nm_model.specs.Maps.{or_else}
pub use Rattle.nm_model.specs.Queues.{front_at, entry_at, unlabelled, with_label}

-- nothing was cut yet
abbrev pub fresh_ledger : Ledger
fresh_ledger = record { retired = []; freed = []; queue = [] }

-- the ledger of an origin, if it is held; the origin is the worker whose splices cut the nodes
abbrev pub held : List (Option Ledger) → ℕ → Option Ledger
held ls origin = slice_index_or ls origin None

-- `queue_of`, `labelled`: the queue of a ledger; a ledger whose entries without a label get this
-- one
abbrev pub queue_of : Option Ledger → List Queued
queue_of None = []
queue_of (Some l) = l.queue

-- the first front of a held queue that is of this slot
abbrev pub front_of : List (Option Ledger) → ℕ → Option Queued
front_of [] s = None
front_of (l ∷ ls) s = or_else (front_at (queue_of l) s) (front_of ls s)

-- the first entry of a slot in a held queue
abbrev pub first_of : List (Option Ledger) → ℕ → Option Queued
first_of [] s = None
first_of (l ∷ ls) s = or_else (entry_at (queue_of l) s) (first_of ls s)

-- the entry of a slot: a front if there is one, else the first entry
abbrev pub queued_entry : List (Option Ledger) → ℕ → Option Queued
queued_entry ls s = or_else (front_of ls s) (first_of ls s)

-- nodes that were cut enter the queue without a label
abbrev pub with_cut : List NodeId → Ledger → Ledger
with_cut ns l = record {
  retired = l.retired ++ ns;
  freed = l.freed;
  queue = l.queue ++ map unlabelled ns;
}

-- cut nodes enter the queue without a label
abbrev pub retire : List (Option Ledger) → ℕ → List NodeId → List (Option Ledger)
retire ls origin ns = slice_set ls origin (option_map (with_cut ns) (held ls origin))

abbrev pub labelled : ℕ → Ledger → Ledger
labelled e l = record { retired = l.retired; freed = l.freed; queue = map (with_label e) l.queue }

-- entries without a label get this one
abbrev pub label : ℕ → List (Option Ledger) → List (Option Ledger)
label e ls = map (option_map (labelled e)) ls

-- the node at the front is freed
abbrev pub with_freed : NodeId → Ledger → Ledger
with_freed n l = record { retired = l.retired; freed = l.freed ++ n ∷ []; queue = drop 1 l.queue }

-- the node is freed from the first held queue that has the node's slot at its front
abbrev pub free : List (Option Ledger) → NodeId → List (Option Ledger)
free [] n = []
free (l ∷ ls) n = if is_some (front_at (queue_of l) n.slot) then option_map (with_freed n) l ∷ ls
    else l ∷ free ls n

-- each ledger of the second list, and that of the first list if the second has none: an heir holds
-- each ledger of the leaver under its origin
abbrev pub taken_over : List (Option Ledger) → List (Option Ledger) → List (Option Ledger)
taken_over [] ms = []
taken_over (l ∷ ls) [] = l ∷ ls
taken_over (l ∷ ls) (m ∷ ms) = or_else m l ∷ taken_over ls ms
