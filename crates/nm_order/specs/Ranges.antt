-- Radix trees: the keys that the nodes below a node represent, and the lengths of paths and walks.
use Rattle.std.specs.Prelude.{◌≡◌, ◌≢◌, ◌⊎◌, ℕ, ◌≤◌, ◌<◌, true, List, [], ◌∷◌, ◌++◌, length}
use Rattle.nm_edge.specs.Edges.{Edge}
use Rattle.nm_edge.specs.Layouts.{Layout}
use Rattle.nm_edge.specs.Ranges.{covers}
use Rattle.nm_edge.specs.declared.edge.Side.{Side}
use Rattle.nm_model.specs.declared.event.Event.{Event}
use Rattle.nm_model.specs.declared.event.Event.TheVariants.{Look}
use Rattle.nm_model.specs.declared.event.Field.TheVariants.{Key, Edge as EdgeOn}
use Rattle.nm_model.specs.declared.reply.Reply.TheVariants.{KeyIs, EdgeIs}
use Rattle.nm_model.specs.Memory.{child, infinity_1}
use Rattle.nm_model.specs.Paths.{at, Reached}
use Rattle.nm_model.specs.Searches.{side_of}
use Rattle.nm_model.specs.Walks.{Entry, since_pin, IsPart, Leads, WalkComes}
use Rattle.nm_model.specs.Ordered.{Configuration}
use Rattle.nm_order.specs.Intervals.{key}
use Rattle.nm_order.specs.Logs.{IsLogOf}
use Rattle.nm_order.specs.StalePaths.{log_under_pin}

-- a slot represents a key: a leaf its own, and an internal node each key in its range. A fixed
-- internal node represents every key
abbrev pub StandsFor : (ℕ → Side → ℕ) → (ℕ → ℕ) → ℕ → ℕ → Type 0
StandsFor children keys x k = (((side : Side) → children x side ≡ 0) × (keys x ≡ k))
    ⊎ (((side : Side) × (children x side ≢ 0)) × (6 ≤ x → covers (keys x) k ≡ true))

-- a slot that has a child has its own key in its range, and each key that a child represents is in
-- its range and on the child's side
pub record IsNested (children : ℕ → Side → ℕ) (keys : ℕ → ℕ) (x : ℕ) : Type 0 where
  pub own : (side : Side) → children x side ≢ 0 → covers (keys x) (keys x) ≡ true
  pub below : (side : Side) (k : ℕ) → children x side ≢ 0
      → StandsFor children keys (children x side) k
      → (covers (keys x) k ≡ true) × (side_of k (keys x) ≡ side)

-- in a radix tree each reached node above the fixed ones is nested
abbrev pub RangesNest : Configuration → Type 0
RangesNest c = c.state.layout.radix ≡ true → (x : ℕ) → 6 ≤ x → Reached c.state.memory x
    → IsNested (child c.state.memory) (key c.state.memory) x

-- no path of a radix tree has more than 66 edges, for any keys inserted in any order: two fixed
-- nodes, at most 64 internal ones, and a leaf
abbrev pub PathsAreShort : Configuration → Type 0
PathsAreShort c = c.state.layout.radix ≡ true → (path : List Side) → at c.state.memory path ≢ 0
    → length path ≤ 66

-- in a radix tree no walk has come to its slot by more than 129 looks: one at slot 2, and two at
-- each of at most 64 internal nodes. This includes edges that were read at different moments under
-- one pin
abbrev pub AnyWalkIsShort : Layout → List (ℕ × Event) → Type 0
AnyWalkIsShort L turns = L.radix ≡ true → (u k slot parent : ℕ) (side : Side) → k < infinity_1
    → (walk : WalkComes k (log_under_pin L turns u) slot parent side) → length walk.looks ≤ 129

-- a walk came to a slot, looked at its key, and went on by its edge on k's side
pub record WalkPasses (k : ℕ) (log : List Entry) (slot parent : ℕ) (side : Side)
    (key : ℕ) : Type 0 where
  pub looks : List Entry
  pub leads : Leads k looks slot parent side
  pub next : Edge
  pub there : next.slot ≢ 0
  pub is_part : IsPart (looks ++ (Look slot Key, KeyIs key)
      ∷ (Look slot (EdgeOn (side_of k key)), EdgeIs next) ∷ []) log

-- in a radix tree each slot from which a walk went on is above the fixed nodes, and the key that
-- was read there is a router: it has itself in its range
abbrev pub AnyWalkPassesRouters : Layout → List (ℕ × Event) → Type 0
AnyWalkPassesRouters L turns = L.radix ≡ true → (u k slot parent : ℕ) (side : Side) (v : ℕ)
    → k < infinity_1 → WalkPasses k (log_under_pin L turns u) slot parent side v
    → (6 ≤ slot) × (covers v v ≡ true)

-- ---- by the log of one worker

-- holds of each part of an ordered run of a radix tree, from the pin on
abbrev pub OfEachRadixLog : (List Entry → Type 0) → Type 0
OfEachRadixLog P = (L : Layout) → 5 ≤ L.nodes → L.radix ≡ true → (w : ℕ) (log : List Entry)
    → IsLogOf L w log → P (since_pin [] log)

-- each walk in the log has come to its slot by at most 129 looks
abbrev pub WalksAreShort : List Entry → Type 0
WalksAreShort log = (k slot parent : ℕ) (side : Side) → k < infinity_1
    → (walk : WalkComes k log slot parent side) → length walk.looks ≤ 129

-- each walk in the log goes on only from routers, none of which is fixed
abbrev pub WalksPassRouters : List Entry → Type 0
WalksPassRouters log = (k slot parent : ℕ) (side : Side) (v : ℕ) → k < infinity_1
    → WalkPasses k log slot parent side v → (6 ≤ slot) × (covers v v ≡ true)
