-- The arrivals that an ordered core keeps of a call are the walks of its log: those after the pin,
-- and those after the flag.
use Rattle.std.specs.Prelude.{◌≡◌, ◌↔◌, ℕ, ◌<◌, ◌≤◌, Bool, true, false, List, [], ◌∷◌, if◌then◌else◌, Some, All, Contains}
use Rattle.nm_edge.specs.Layouts.{Layout}
use Rattle.nm_edge.specs.declared.edge.Side.{Side}
use Rattle.nm_model.specs.declared.event.Event.{Event}
use Rattle.nm_model.specs.declared.event.Event.TheVariants.{Flag}
use Rattle.nm_model.specs.declared.reply.Reply.TheVariants.{Flagged}
use Rattle.nm_model.specs.declared.arrivals.Call.{Call}
use Rattle.nm_model.specs.declared.arrivals.Arrival.{Arrival}
use Rattle.nm_model.specs.Searches.{Search}
use Rattle.nm_model.specs.Ordered.{ordered, after_in, trace_in, search_of}
use Rattle.nm_model.specs.Walks.{Entry, log_of, since_pin, WalkComes, WalkReads, WalkEnds}
use Rattle.nm_order.specs.Intervals.{HasKey}

-- ---- the part of a log after its flag

-- an entry that is a won flag
abbrev pub is_won_flag : Entry → Bool
is_won_flag (Flag p side leaf, Flagged n) = true
is_won_flag _ = false

-- the part of a log after its first won flag; nothing, if there is none
abbrev pub since_flag : List Entry → List Entry
since_flag [] = []
since_flag (e ∷ es) = if is_won_flag e then es else since_flag es

-- ---- arrivals and walks

-- the list has an arrival at the slot by the parent's edge on the side, with property P
pub record HasArrival (arrivals : List Arrival) (slot parent : ℕ) (side : Side)
    (P : Arrival → Type 0) : Type 0 where
  pub arrival : Arrival
  pub there : Contains arrivals arrival
  pub at_slot : arrival.slot ≡ slot
  pub by_parent : arrival.parent ≡ parent
  pub on_side : arrival.side ≡ side
  pub holds : P arrival

-- a walk came to a slot by an edge exactly if there is an arrival by that edge (Natarajan and
-- Mittal, section 3.2, seek)
abbrev pub ComingsAreArrivals : ℕ → List Entry → List Arrival → Type 0
ComingsAreArrivals k log arrivals =
    (slot parent : ℕ) (side : Side) → WalkComes k log slot parent side
    ↔ HasArrival arrivals slot parent side (λ a. Unit {0})

-- a walk read a key at a slot exactly if the arrival there has that key (Natarajan and Mittal,
-- section 3.2, seek)
abbrev pub ReadingsAreArrivals : ℕ → List Entry → List Arrival → Type 0
ReadingsAreArrivals k log arrivals =
    (slot parent : ℕ) (side : Side) (key : ℕ) → WalkReads k log slot parent side key
    ↔ HasArrival arrivals slot parent side (λ a. a.key ≡ Some key)

-- a walk ended at a slot exactly if the arrival there, with its key, has ended (Natarajan and
-- Mittal, section 3.2, seek)
abbrev pub EndsAreArrivals : ℕ → List Entry → List Arrival → Type 0
EndsAreArrivals k log arrivals =
    (slot parent : ℕ) (side : Side) (key : ℕ) → WalkEnds k log slot parent side key
    ↔ HasArrival arrivals slot parent side (λ a. (a.key ≡ Some key) × (a.ended ≡ true))

-- holds in every ordered run of each worker's call: of its key, the worker's log after the pin, and
-- what the core keeps of the call
abbrev pub OfEachCall : (ℕ → List Entry → Search → Type 0) → Type 0
OfEachCall P = (L : Layout) → 5 ≤ L.nodes → (turns : List (ℕ × Event)) → All (λ t. HasKey t.1) turns
    → (w : ℕ) → w < L.workers
    → (searches : List Search) → (after_in (ordered L) turns).searches ≡ Some searches
    → (call : Call) → (search_of searches w).call ≡ Some call
    → P call.key (since_pin [] (log_of w (trace_in (ordered L) turns))) (search_of searches w)
