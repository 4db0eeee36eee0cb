-- The moment (linearization point) of an answer, by the log of its worker alone, in any run of
-- which that log is a part.
use Rattle.std.specs.Prelude.{◌≡◌, ℕ, ◌≤◌, Bool, true, false, List, [], ◌∷◌, ◌++◌, Some}
use Rattle.nm_edge.specs.Layouts.{Layout}
use Rattle.nm_edge.specs.declared.node.NodeId.{NodeId}
use Rattle.nm_model.specs.declared.event.Op.{Op}
use Rattle.nm_model.specs.declared.event.Op.TheVariants.{Has, Insert, Delete}
use Rattle.nm_model.specs.declared.event.Event.{Event}
use Rattle.nm_model.specs.declared.event.Event.TheVariants.{LeaveWith}
use Rattle.nm_model.specs.declared.reply.Reply.TheVariants.{Departed}
use Rattle.nm_model.specs.Searches.{idle}
use Rattle.nm_model.specs.Walks.{Entry, search_after}
use Rattle.nm_model.specs.Ordered.{ordered, after_in}
use Rattle.nm_order.specs.Logs.{IsLogOf}
use Rattle.nm_order.specs.Exchanges.{MayAnswer, HasWonInsert, HasFlagged}
use Rattle.nm_order.specs.Removals.{HasWonDelete}
use Rattle.nm_order.specs.Legal.{WasLegal}

-- the moment of an answer, in the run up to it: the link of a true insert, the cut of a true
-- delete's leaf, and for any other answer a moment at which it was right
abbrev pub HasMoment : Layout → List (ℕ × Event) → ℕ → Op → ℕ → Bool → Type 0
HasMoment L before w Has k answer = WasLegal L before w Has k answer
HasMoment L before w Insert k true = HasWonInsert L before w k
HasMoment L before w Insert k false = WasLegal L before w Insert k false
HasMoment L before w Delete k true = HasWonDelete L before w k
HasMoment L before w Delete k false = WasLegal L before w Delete k false

-- the run contains the worker's answer, which has its moment in the turns before it
pub record IsAnsweredIn (L : Layout) (turns : List (ℕ × Event)) (w : ℕ) (op : Op) (k : ℕ)
    (answer : Bool) : Type 0 where
  pub before : List (ℕ × Event)
  pub since : List (ℕ × Event)
  pub is_run : turns ≡ before ++ (w, LeaveWith answer) ∷ since
  pub may : MayAnswer (after_in (ordered L) before) w op k answer
  pub moment : HasMoment L before w op k answer

-- for a log that ends with the answer of its call: in each ordered run of which it is the worker's
-- part, the answer has its moment
abbrev pub HasItsMoment : Layout → ℕ → List Entry → Op → ℕ → Bool → Type 0
HasItsMoment L w log op k answer = (l : IsLogOf L w log) → IsAnsweredIn L l.turns w op k answer

-- the answer that a log ends with, of a call whose pin the log confirmed last, has its moment
abbrev pub AnswersHaveMoments : Type 0
AnswersHaveMoments = (L : Layout) → 5 ≤ L.nodes
    → (w : ℕ) (log : List Entry) (op : Op) (k : ℕ) (answer : Bool)
    → (search_after idle log).call ≡ Some (record { op = op; key = k })
    → HasItsMoment L w (log ++ (LeaveWith answer, Departed) ∷ []) op k answer

-- ---- a delete that is not answered yet

-- in each ordered run of which a log is the worker's part, its call to delete k has flagged that
-- leaf, under the current pin
abbrev pub IsPendingIn : Layout → ℕ → List Entry → ℕ → NodeId → Type 0
IsPendingIn L w log k n = (l : IsLogOf L w log) → (f : HasFlagged L l.turns w k) × (f.flagged ≡ n)

-- a log that shows a flagged leaf is that of a pending delete
abbrev pub PendingDeletesHaveFlagged : Type 0
PendingDeletesHaveFlagged = (L : Layout) → 5 ≤ L.nodes
    → (w : ℕ) (log : List Entry) (k : ℕ) (n : NodeId)
    → (search_after idle log).call ≡ Some (record { op = Delete; key = k })
    → (search_after idle log).flagged ≡ Some n → IsPendingIn L w log k n
