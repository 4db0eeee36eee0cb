-- The place of each slot.
use Rattle.std.specs.Prelude.{◌≡◌, ◌≢◌, ℕ, ◌≤◌, true, List, Some, option_map, slice_get}
use Rattle.nm_edge.specs.declared.edge.Side.{Side}
use Rattle.nm_model.specs.declared.ledger.Queued.{Queued}
use Rattle.nm_model.specs.Memory.{in_pool}
use Rattle.nm_model.specs.Ledgers.{held, queue_of}
use Rattle.nm_model.specs.Knowledge.{is_private}
use Rattle.nm_model.specs.Paths.{at}
use Rattle.nm_model.specs.Runs.{State, of}

-- the places of a slot: in the pool; private to a worker; at the end of a path from the root; or at
-- an index of the queue of an origin that a worker holds
pub data SlotPlace : Type 0 where
  InPool : SlotPlace
  PrivateTo : ℕ → SlotPlace
  OnPath : List Side → SlotPlace
  InQueue : ℕ → ℕ → ℕ → SlotPlace

abbrev pub slot_of : Queued → ℕ
slot_of e = e.node.slot

-- the slot is in that place
abbrev pub SlotStandsAt : State → ℕ → SlotPlace → Type 0
SlotStandsAt s x InPool = in_pool s.memory x ≡ true
SlotStandsAt s x (PrivateTo w) = is_private (of s w) x ≡ true
SlotStandsAt s x (OnPath path) = at s.memory path ≡ x
SlotStandsAt s x (InQueue w origin i) =
    option_map slot_of (slice_get (queue_of (held (of s w).ledgers origin)) i) ≡ Some x

-- a slot is in exactly one place: the pool, one worker's private slots, one path, or one index of
-- one queue that one worker holds
pub record OneSlotPlace (s : State) (x : ℕ) : Type 0 where
  pub place : SlotPlace
  pub here : SlotStandsAt s x place
  pub only : (other : SlotPlace) → SlotStandsAt s x other → other ≡ place

-- this holds for every slot
abbrev pub EachSlotInOnePlace : State → Type 0
EachSlotInOnePlace s = (x : ℕ) → x ≢ 0 → x ≤ s.layout.nodes → OneSlotPlace s x
