-- The set's history: the calls of a run, in the order of their moments, as a history of one plain
-- set.
use Rattle.std.specs.Prelude.{Contains, ◌≡◌, ◌⊎◌, ℕ, ◌+◌, ◌<◌, ◌≤◌, Bool, true, false, not, List, [], ◌∷◌, ◌++◌, length, Ok, if◌then◌else◌}
use Rattle.std.specs.List.{list_any}
use Rattle.nm_edge.specs.Layouts.{Layout}
use Rattle.nm_model.specs.declared.event.Op.{Op}
use Rattle.nm_model.specs.declared.event.Op.TheVariants.{Has, Insert, Delete}
use Rattle.nm_model.specs.declared.event.Event.{Event}
use Rattle.nm_model.specs.declared.event.Event.TheVariants.{LeaveWith, Link}
use Rattle.nm_model.specs.declared.trace.Turn.{Turn}
use Rattle.nm_edge.specs.declared.node.NodeId.{NodeId}
use Rattle.nm_edge.specs.declared.edge.Side.{Side}
use Rattle.nm_model.specs.declared.reply.Reply.TheVariants.{Linked, Cut}
use Rattle.nm_model.specs.Laws.{slots_of}
use Rattle.nm_model.specs.Walks.{log_of, begins_anew}
use Rattle.nm_model.specs.Ordered.{ordered, outcome_in, after_in, trace_in}
use Rattle.nm_model.specs.Acts.{InSet, Act, Replays, nothing, IsAmong, leaf_keys, HasInARow}
use Rattle.nm_order.specs.Intervals.{IsCalled}
use Rattle.nm_order.specs.Exchanges.{MayAnswer, HasWonInsert, HasFlagged}
use Rattle.nm_order.specs.Removals.{is_splice, HasWonDelete}
use Rattle.nm_order.specs.Legal.{changes}

-- ---- lists of acts

-- an act may come next after one of that moment. It is later, or it is of the same moment; then it
-- is no change if the act before it changed nothing (was quiet)
abbrev pub ComesNext : ℕ → Bool → Act → Type 0
ComesNext m quiet a = (m < a.moment)
    ⊎ ((m ≡ a.moment) × (quiet ≡ true → changes a.op a.answer ≡ false))

-- acts in the order of their moments, at each moment changes before answers that change nothing
abbrev pub InOrderOfMoments : ℕ → Bool → List Act → Type 0
InOrderOfMoments m quiet [] = Unit {0}
InOrderOfMoments m quiet (a ∷ acts) =
    ComesNext m quiet a × InOrderOfMoments a.moment (not (changes a.op a.answer)) acts

-- both are of one call: of one worker, under one pin
abbrev pub SameCall : Act → Act → Type 0
SameCall a b = (a.worker ≡ b.worker) × (a.pin ≡ b.pin)

-- no two acts are of one call
abbrev pub EachOnce : List Act → Type 0
EachOnce [] = Unit {0}
EachOnce (a ∷ acts) = ((b : Act) → IsAmong acts b → SameCall a b → ⊥) × EachOnce acts

-- ---- calls of a run

-- the number of the last of these turns by which a worker confirmed or left a pin, if the first of
-- them is number n; so_far, if there is none
abbrev pub last_anew : ℕ → ℕ → ℕ → List Turn → ℕ
last_anew w so_far n [] = so_far
last_anew w so_far n (t ∷ turns) =
    last_anew w (if list_any begins_anew (log_of w (t ∷ [])) then n else so_far) (n + 1) turns

-- the number of the turn that confirmed a worker's current pin
abbrev pub pin_of : Layout → List (ℕ × Event) → ℕ → ℕ
pin_of L turns w = last_anew w 0 0 (trace_in (ordered L) turns)

-- the call of a worker's pin has made its change: an insert has linked, or the leaf that a delete
-- flagged is cut
abbrev pub HasChanged : Layout → List (ℕ × Event) → ℕ → Op → ℕ → Type 0
HasChanged L turns w Has k = ⊥
HasChanged L turns w Insert k = HasWonInsert L turns w k
HasChanged L turns w Delete k = HasWonDelete L turns w k

-- an act of a run: a call with its answer, or one that has made its change and is not answered yet.
-- Its moment is one of the call: later than its pin and no later than its answer (Herlihy and Wing,
-- completions of a history)
pub data IsActOfRun (L : Layout) (turns : List (ℕ × Event)) (a : Act) : Type 0 where
  IsAnswered : (before since : List (ℕ × Event))
      → turns ≡ before ++ (a.worker, LeaveWith a.answer) ∷ since
      → MayAnswer (after_in (ordered L) before) a.worker a.op a.key a.answer
      → a.pin ≡ pin_of L before a.worker → a.pin < a.moment → a.moment ≤ length before
      → IsActOfRun L turns a
  IsPending : IsCalled (after_in (ordered L) turns) a.worker a.op a.key
      → HasChanged L turns a.worker a.op a.key → a.answer ≡ true
      → a.pin ≡ pin_of L turns a.worker → a.pin < a.moment → a.moment ≤ length turns
      → IsActOfRun L turns a

-- an act of a call, by its worker, pin, operation, key and answer
pub record HasActOfCall (acts : List Act) (w pin : ℕ) (op : Op) (k : ℕ)
    (answer : Bool) : Type 0 where
  pub act : Act
  pub among : IsAmong acts act
  pub worker : act.worker ≡ w
  pub is_pin : act.pin ≡ pin
  pub is_op : act.op ≡ op
  pub is_key : act.key ≡ k
  pub is_answer : act.answer ≡ answer

-- an act is the true delete that flagged one of these nodes
abbrev pub IsDeleteOf : Layout → List (ℕ × Event) → List NodeId → Act → Type 0
IsDeleteOf L before ns a = (a.op ≡ Delete) × (a.answer ≡ true)
    × (f : HasFlagged L before a.worker a.key) × Contains ns f.flagged

-- the acts up to a moment lead a plain set, empty at first, to these keys
pub record LeadsTo (acts : List Act) (moment : ℕ) (keys : ℕ → Type 0) : Type 0 where
  pub first : List Act
  pub later : List Act
  pub are : acts ≡ first ++ later
  pub so_far : (a : Act) → IsAmong first a → a.moment ≤ moment
  pub beyond : (a : Act) → IsAmong later a → moment < a.moment
  pub replays : Replays nothing first keys

-- the history of a run. These acts are its answered calls and its unanswered calls that have made
-- their change, each once, in the order of their moments; those of one cut are in that cut's order.
-- One plain set, empty at first, gives each its answer, and at each moment and at the end it has
-- the keys of the tree (Herlihy and Wing, section 3, linearizability)
pub record IsRunHistory (L : Layout) (turns : List (ℕ × Event)) (acts : List Act) : Type 0 where
  pub replays : Replays nothing acts (InSet (after_in (ordered L) turns).state.memory)
  pub in_order : InOrderOfMoments 0 false acts
  pub once : EachOnce acts
  -- a link that is won is the moment of its own insert; a cut is the moment of the deletes whose
  -- leaves it cuts, in its order
  pub links : (before since : List (ℕ × Event)) (w parent : ℕ) (side : Side) (leaf new : ℕ)
      (n : NodeId) (k : ℕ) → turns ≡ before ++ (w, Link parent side leaf new) ∷ since
      → outcome_in (after_in (ordered L) before) (w, Link parent side leaf new) ≡ Ok (Linked n)
      → IsCalled (after_in (ordered L) before) w Insert k
      → HasInARow acts (k ∷ []) (length before + 1)
      (λ a. (a.worker ≡ w) × (a.op ≡ Insert) × (a.answer ≡ true))
  pub cuts : (before since : List (ℕ × Event)) (turn : ℕ × Event) (ns : List NodeId)
      → turns ≡ before ++ turn ∷ since → outcome_in (after_in (ordered L) before) turn ≡ Ok (Cut ns)
      → is_splice turn.1 ≡ true
      → HasInARow acts (leaf_keys (after_in (ordered L) before).state.memory (slots_of ns))
      (length before + 1) (IsDeleteOf L before ns)
  pub moments : (before since : List (ℕ × Event)) → turns ≡ before ++ since
      → LeadsTo acts (length before) (InSet (after_in (ordered L) before).state.memory)
  pub each : (a : Act) → IsAmong acts a → IsActOfRun L turns a
  pub answered : (before since : List (ℕ × Event)) (w : ℕ) (op : Op) (k : ℕ) (answer : Bool)
      → turns ≡ before ++ (w, LeaveWith answer) ∷ since
      → MayAnswer (after_in (ordered L) before) w op k answer
      → HasActOfCall acts w (pin_of L before w) op k answer
  pub pending : (w : ℕ) (op : Op) (k : ℕ) → IsCalled (after_in (ordered L) turns) w op k
      → HasChanged L turns w op k → HasActOfCall acts w (pin_of L turns w) op k true

-- the run has a history (Herlihy and Wing, section 3, linearizability)
abbrev pub RunHasHistory : Layout → List (ℕ × Event) → Type 0
RunHasHistory L turns = (acts : List Act) × IsRunHistory L turns acts
