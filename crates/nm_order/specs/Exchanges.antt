-- Links and flags that a call won, by its worker's log after the pin, and the answers that follow
-- from them.
use Rattle.std.specs.Prelude.{◌≡◌, ℕ, Bool, true, false, List, [], ◌∷◌, ◌++◌, length, filter, Ok}
use Rattle.nm_edge.specs.Layouts.{Layout}
use Rattle.nm_edge.specs.declared.edge.Side.{Side}
use Rattle.nm_edge.specs.declared.node.NodeId.{NodeId}
use Rattle.nm_model.specs.declared.event.Op.{Op}
use Rattle.nm_model.specs.declared.event.Op.TheVariants.{Insert, Delete}
use Rattle.nm_model.specs.declared.event.Event.{Event}
use Rattle.nm_model.specs.declared.event.Event.TheVariants.{Leave, LeaveWith, Link, Flag}
use Rattle.nm_model.specs.declared.reply.Reply.TheVariants.{Departed, Linked, Flagged}
use Rattle.nm_model.specs.declared.trace.Turn.{Turn}
use Rattle.nm_model.specs.Walks.{Entry, log_of, since_pin}
use Rattle.nm_model.specs.Ordered.{Configuration, ordered, next_in, outcome_in, after_in, trace_in}
use Rattle.nm_order.specs.Intervals.{IsCalled, Gains, Marks}
use Rattle.nm_order.specs.Moments.{PinStands}
use Rattle.nm_order.specs.WalksToArrivals.{is_won_flag}

-- an entry that is a won link
abbrev pub is_won_link : Entry → Bool
is_won_link (Link parent side leaf new, Linked n) = true
is_won_link _ = false

-- the number of such entries in a worker's log after its pin was confirmed
abbrev pub how_many : (Entry → Bool) → ℕ → List Turn → ℕ
how_many is_such w turns = length (filter is_such (since_pin [] (log_of w turns)))

-- ---- answers

-- a worker's call is that operation on k, and it may leave with that answer
pub record MayAnswer (c : Configuration) (w : ℕ) (op : Op) (k : ℕ) (answer : Bool) : Type 0 where
  pub called : IsCalled c w op k
  pub leaves : outcome_in c (w, LeaveWith answer) ≡ Ok Departed

-- the number of links that a call with this answer has won: one for a true insert, none for any
-- other answer (from Natarajan and Mittal, section 3.2)
abbrev pub links_told : Op → Bool → ℕ
links_told Insert true = 1
links_told _ _ = 0

-- the number of flags that a call with this answer has won: one for a true delete, none for any
-- other answer (from Natarajan and Mittal, section 3.2)
abbrev pub flags_told : Op → Bool → ℕ
flags_told Delete true = 1
flags_told _ _ = 0

-- after its pin a worker won exactly the number of links that its answer implies
abbrev pub AnswersTellLinks : Layout → List (ℕ × Event) → Type 0
AnswersTellLinks L turns = (w : ℕ) (op : Op) (k : ℕ) (answer : Bool)
    → MayAnswer (after_in (ordered L) turns) w op k answer
    → how_many is_won_link w (trace_in (ordered L) turns) ≡ links_told op answer

-- after its pin a worker won exactly the number of flags that its answer implies
abbrev pub AnswersTellFlags : Layout → List (ℕ × Event) → Type 0
AnswersTellFlags L turns = (w : ℕ) (op : Op) (k : ℕ) (answer : Bool)
    → MayAnswer (after_in (ordered L) turns) w op k answer
    → how_many is_won_flag w (trace_in (ordered L) turns) ≡ flags_told op answer

-- a worker that may leave without an answer has won no link and no flag after its pin
abbrev pub SilentLeavesWonNothing : Layout → List (ℕ × Event) → Type 0
SilentLeavesWonNothing L turns =
    (w : ℕ) → outcome_in (after_in (ordered L) turns) (w, Leave) ≡ Ok Departed
    → (how_many is_won_link w (trace_in (ordered L) turns) ≡ 0)
    × (how_many is_won_flag w (trace_in (ordered L) turns) ≡ 0)

-- ---- the moment of an insert

-- under the pin that lasts from then on, the worker's call to insert k won a link. By it the set
-- gained k, which was not in it, and nothing else (Natarajan and Mittal, section 3.2, insert)
pub record HasWonInsert (L : Layout) (turns : List (ℕ × Event)) (w k : ℕ) : Type 0 where
  pub before : List (ℕ × Event)
  pub since : List (ℕ × Event)
  pub parent : ℕ
  pub side : Side
  pub leaf : ℕ
  pub new : ℕ
  pub linked : NodeId
  pub is_run : turns ≡ before ++ (w, Link parent side leaf new) ∷ since
  pub called : IsCalled (after_in (ordered L) before) w Insert k
  pub won : outcome_in (after_in (ordered L) before) (w, Link parent side leaf new)
      ≡ Ok (Linked linked)
  pub gains : Gains (after_in (ordered L) before).state.memory
      (next_in (after_in (ordered L) before) (w, Link parent side leaf new)).state.memory k
  pub stands : PinStands w (trace_in
      (next_in (after_in (ordered L) before) (w, Link parent side leaf new)) since)

-- a call that may answer its insert with true has inserted its key
abbrev pub TrueInsertsHaveInserted : Layout → List (ℕ × Event) → Type 0
TrueInsertsHaveInserted L turns =
    (w k : ℕ) → MayAnswer (after_in (ordered L) turns) w Insert k true → HasWonInsert L turns w k

-- ---- the moment of a delete's flag

-- under the pin that lasts from then on, the worker's call to delete k won a flag on the edge to
-- the leaf with key k (Natarajan and Mittal, section 3.2, injection)
pub record HasFlagged (L : Layout) (turns : List (ℕ × Event)) (w k : ℕ) : Type 0 where
  pub before : List (ℕ × Event)
  pub since : List (ℕ × Event)
  pub parent : ℕ
  pub side : Side
  pub leaf : ℕ
  pub flagged : NodeId
  pub is_run : turns ≡ before ++ (w, Flag parent side leaf) ∷ since
  pub called : IsCalled (after_in (ordered L) before) w Delete k
  pub won : outcome_in (after_in (ordered L) before) (w, Flag parent side leaf)
      ≡ Ok (Flagged flagged)
  pub marks : Marks (after_in (ordered L) before).state.memory parent side leaf flagged k
  pub stands : PinStands w (trace_in
      (next_in (after_in (ordered L) before) (w, Flag parent side leaf)) since)

-- a call that may answer its delete with true has flagged its leaf
abbrev pub TrueDeletesHaveFlagged : Layout → List (ℕ × Event) → Type 0
TrueDeletesHaveFlagged L turns =
    (w k : ℕ) → MayAnswer (after_in (ordered L) turns) w Delete k true → HasFlagged L turns w k
