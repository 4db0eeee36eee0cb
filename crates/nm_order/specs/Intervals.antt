-- The interval of a node: the keys whose search from the root comes to it, and what ordered runs
-- preserve of it.
use Rattle.std.specs.Prelude.{◌≡◌, ◌⊎◌, ◌↔◌, ℕ, ◌<◌, ◌≤◌, true, false, Contains, AllPairs, Ok, List, [], ◌∷◌, slice_get, All, Some}
use Rattle.nm_edge.specs.Edges.{to}
use Rattle.nm_edge.specs.Layouts.{Layout}
use Rattle.nm_edge.specs.declared.edge.Side.{Side}
use Rattle.nm_model.specs.declared.event.Event.{Event}
use Rattle.nm_edge.specs.declared.node.NodeId.{NodeId}
use Rattle.nm_model.specs.declared.event.Op.{Op}
use Rattle.nm_model.specs.declared.event.Op.TheVariants.{Insert, Delete}
use Rattle.nm_model.specs.declared.event.Event.TheVariants.{Link, Flag}
use Rattle.nm_model.specs.declared.reply.Reply.TheVariants.{Linked, Flagged}
use Rattle.nm_model.specs.declared.arrivals.Call.{Call}
use Rattle.nm_model.specs.declared.arrivals.Arrival.{Arrival}
use Rattle.nm_model.specs.Memory.{Memory, node, edge, child, is_leaf, named, infinity_0}
use Rattle.nm_model.specs.Paths.{at, Reached}
use Rattle.nm_model.specs.Reports.{keys}
use Rattle.nm_model.specs.Searches.{Search, side_of}
use Rattle.nm_model.specs.Ordered.{Configuration, ordered, after_in, next_in, outcome_in, search_of}
pub use Rattle.nm_model.specs.Ordered.{HasKey}
use Rattle.nm_model.specs.Acts.{InSet}

-- a search for k goes along this path from a slot: at each node to the side of k (Natarajan and
-- Mittal, section 3.1)
abbrev pub GoesBy : (ℕ → Side → ℕ) → (ℕ → ℕ) → ℕ → ℕ → List Side → Type 0
GoesBy children keys k s [] = Unit {0}
GoesBy children keys k s (side ∷ sides) =
    (side_of k (keys s) ≡ side) × GoesBy children keys k (children s side) sides

abbrev pub key : Memory → ℕ → ℕ
key m x = (node m x).key

-- the interval of a slot: the keys, including sentinels, for which the search from the root comes
-- to it (Natarajan and Mittal, section 4)
pub record InInterval (m : Memory) (k x : ℕ) : Type 0 where
  pub path : List Side
  pub ends : at m path ≡ x
  pub goes : GoesBy (child m) (key m) k 1 path

-- holds of the configuration to which every run leads: the runs of an ordered core of at least 5
-- nodes from its opening, with calls for keys of the set
abbrev pub OfEachOrdered : (Configuration → Type 0) → Type 0
OfEachOrdered P = (L : Layout) → 5 ≤ L.nodes → (turns : List (ℕ × Event))
    → All (λ t. HasKey t.1) turns → P (after_in (ordered L) turns)

-- each reached node's key is in its interval
abbrev pub KeysLieInIntervals : Configuration → Type 0
KeysLieInIntervals c = (x : ℕ) → Reached c.state.memory x
    → InInterval c.state.memory (key c.state.memory x) x

-- no two reached leaves have the same key
abbrev pub LeavesHaveTheirOwnKeys : Configuration → Type 0
LeavesHaveTheirOwnKeys c = (x y : ℕ) → Reached c.state.memory x → Reached c.state.memory y
    → is_leaf (node c.state.memory x) ≡ true → is_leaf (node c.state.memory y) ≡ true
    → key c.state.memory x ≡ key c.state.memory y → x ≡ y

-- an arrival of a walk of the call under a worker's pin, for that key
pub record HasCome (c : Configuration) (u k : ℕ) (a : Arrival) : Type 0 where
  pub searches : List Search
  pub are : c.searches ≡ Some searches
  pub call : Call
  pub is_call : (search_of searches u).call ≡ Some call
  pub is_key : call.key ≡ k
  pub index : ℕ
  pub is : slice_get (search_of searches u).walks index ≡ Some a

-- in the shape of Natarajan and Mittal: if an internal node to which a walk came is reached now,
-- the walk's key is in its interval now
abbrev pub WalksStayInOrder : Configuration → Type 0
WalksStayInOrder c = c.state.layout.radix ≡ false → (u k : ℕ) (a : Arrival) → HasCome c u k a
    → Reached c.state.memory a.slot
    → is_leaf (node c.state.memory a.slot) ≡ false → InInterval c.state.memory k a.slot

-- the key that a walk read at a slot is that slot's key now
abbrev pub WalksReadKeys : Configuration → Type 0
WalksReadKeys c = (u k n : ℕ) (a : Arrival) → HasCome c u k a → a.key ≡ Some n
    → key c.state.memory a.slot ≡ n

-- ---- the set

-- the operation and the key of the call under a worker's pin
pub record IsCalled (c : Configuration) (u : ℕ) (op : Op) (k : ℕ) : Type 0 where
  pub searches : List Search
  pub are : c.searches ≡ Some searches
  pub is_call : (search_of searches u).call ≡ Some (record { op = op; key = k })

-- the set gains the key, which was not in it, and nothing else
pub record Gains (before after : Memory) (k : ℕ) : Type 0 where
  pub was_not : InSet before k → ⊥
  pub now : (j : ℕ) → InSet after j ↔ (InSet before j ⊎ (j ≡ k))

-- a link that is won is one of a call to insert, and the set gains that call's key
abbrev pub LinksInsert : Configuration → Type 0
LinksInsert c = (w p : ℕ) (side : Side) (leaf new : ℕ) (n : NodeId)
    → outcome_in c (w, Link p side leaf new) ≡ Ok (Linked n)
    → (k : ℕ) × IsCalled c w Insert k
    × Gains c.state.memory (next_in c (w, Link p side leaf new)).state.memory k

-- a flag was won on the edge from a reached parent to a reached leaf with key k; the edge was not
-- marked, and the answer names that leaf with its birth (Natarajan and Mittal, section 3.2,
-- injection)
pub record Marks (m : Memory) (parent : ℕ) (side : Side) (leaf : ℕ) (flagged : NodeId)
    (k : ℕ) : Type 0 where
  pub parent_reached : Reached m parent
  pub unmarked : edge m parent side ≡ to leaf
  pub reached : Reached m leaf
  pub childless : is_leaf (node m leaf) ≡ true
  pub has_key : key m leaf ≡ k
  pub names : flagged ≡ named m leaf

-- a flag that is won is one of a call to delete, and marks the leaf of that call's key
abbrev pub FlagsMarkLeaves : Configuration → Type 0
FlagsMarkLeaves c = (w p : ℕ) (side : Side) (leaf : ℕ) (n : NodeId)
    → outcome_in c (w, Flag p side leaf) ≡ Ok (Flagged n)
    → (k : ℕ) × IsCalled c w Delete k × Marks c.state.memory p side leaf n k

-- the keys that a core reports are those of the set, without the sentinels
abbrev pub KeysTellTheSet : Configuration → Type 0
KeysTellTheSet c = (k : ℕ) → Contains (keys c.state) k ↔ InSet c.state.memory k × (k < infinity_0)

-- the keys that a core reports ascend
abbrev pub KeysAscend : Configuration → Type 0
KeysAscend c = AllPairs (λ j k. j < k) (keys c.state)
