-- The theorem for every run: of plain cores and of ordered ones, for all events in every order.
use Rattle.std.specs.Prelude.{◌≡◌, ◌≤◌, ℕ, Bool, true, length, List, [], ◌∷◌, ◌++◌, Some, None, All, Contains, false, Ok}
use Rattle.nm_edge.specs.Layouts.{Layout, IsLayout}
use Rattle.nm_edge.specs.declared.node.NodeId.{NodeId}
use Rattle.nm_model.specs.declared.event.Event.{Event}
use Rattle.nm_model.specs.declared.event.Op.{Op}
use Rattle.nm_model.specs.declared.event.Op.TheVariants.{Has, Insert, Delete}
use Rattle.nm_model.specs.declared.reply.Reply.{Reply}
use Rattle.nm_model.specs.declared.trace.Turn.{Turn}
use Rattle.nm_model.specs.Memory.{opening}
use Rattle.nm_model.specs.Ordered.{HasKey, ordered, opening_of, after_in, trace_in}
use Rattle.nm_model.specs.Walks.{Entry}
use Rattle.nm_model.specs.Acts.{Act, IsAmong}
use Rattle.nm_order.specs.Logs.{IsLogOf, part_of}
use Rattle.nm_model.specs.Headline.{Headline, words_after, nodes_cut_of, freed_by, IsPinned, HasLeft, has_after, touched, WasTold, IsStill}
use Rattle.nm_model.specs.Histories.{IsHistory, HasHistory, call_begun, answer_turn, AnswerStands}

-- it holds for the turns of every run from an opening, if calls are for keys of the set
abbrev pub OfEachRun : (Layout → List Turn → Type 0) → Type 0
OfEachRun P = (L : Layout) → IsLayout L → (is_ordered : Bool) (events : List (ℕ × Event))
    → All (λ t. HasKey t.1) events → P L (trace_in (opening_of L is_ordered) events)

-- if a node that was freed was cut by one of these turns, each worker that was pinned at the cut
-- has left after it (Fraser, section 5.2.3)
abbrev pub ReadersHaveLeft : List Turn → NodeId → Type 0
ReadersHaveLeft turns n = (before since : List Turn) (cut : Turn) → turns ≡ before ++ cut ∷ since
    → Contains (nodes_cut_of cut.outcome) n → (w : ℕ) → IsPinned w before → HasLeft w since

-- this holds for each node that was freed, if the headline holds
abbrev pub ReadersOfFreedNodesHaveLeft : Type 0
ReadersOfFreedNodesHaveLeft = (L : Layout) (turns : List Turn) → Headline L turns → (n : NodeId)
    → Contains (freed_by turns) n → ReadersHaveLeft turns n

-- the words at the end of a run are those that its turns have written
abbrev pub WordsAreWritten : Type 0
WordsAreWritten = (L : Layout) → IsLayout L → (is_ordered : Bool) (events : List (ℕ × Event))
    → All (λ t. HasKey t.1) events
    → (after_in (opening_of L is_ordered) events).state.memory
    ≡ words_after L (trace_in (opening_of L is_ordered) events)

-- each run of an ordered core has a history
abbrev pub OrderedRunsHaveHistories : Type 0
OrderedRunsHaveHistories = (L : Layout) → IsLayout L → (events : List (ℕ × Event))
    → All (λ t. HasKey t.1) events → HasHistory L (trace_in (ordered L) events)

-- a log is worker w's part of turns that have the headline and a history
pub record IsPartOfTurns (L : Layout) (w : ℕ) (log : List Entry) : Type 0 where
  pub turns : List Turn
  pub is_part : part_of w turns ≡ log
  pub headline : Headline L turns
  pub history : HasHistory L turns

-- each log of an ordered run is such a part
abbrev pub LogsArePartsOfTurns : Type 0
LogsArePartsOfTurns = (L : Layout) → IsLayout L → (w : ℕ) (log : List Entry) → IsLogOf L w log
    → IsPartOfTurns L w log

-- in each ordered run, if a worker was in no call after an earlier part of its turns and the last
-- turn answers a call of it, that call began after this part. Each history has its act with this
-- answer (`AnswerStands`)
abbrev pub AnswersStand : Type 0
AnswersStand = (L : Layout) → IsLayout L → (events : List (ℕ × Event))
    → All (λ t. HasKey t.1) events → (was since : List Turn) (w pin : ℕ) (op : Op) (k : ℕ)
    (answer : Bool) → trace_in (ordered L) events ≡ (was ++ since) ++ answer_turn w answer ∷ []
    → call_begun w was ≡ None
    → call_begun w (was ++ since) ≡ Some (record { pin = pin; op = op; key = k })
    → AnswerStands L was (trace_in (ordered L) events) w op k answer

-- an act that deletes the key
abbrev pub IsTrueDelete : ℕ → Act → Type 0
IsTrueDelete k a = (a.op ≡ Delete) × (a.key ≡ k) × (a.answer ≡ true)

-- for all turns in which an insert of a key was answered true, and a look-up of the key began after
-- all that the inserter had seen then. If the turns with both have a history without a true delete
-- of the key, the look-up was answered true
abbrev pub InsertsAreFound : Type 0
InsertsAreFound = (L : Layout) (start first second last : List Turn) (w u k : ℕ) (answer : Bool)
    → AnswerStands L start first w Insert k true → AnswerStands L second last u Has k answer
    → length first ≤ length second → (later : List Turn) → last ≡ first ++ later
    → (acts : List Act) → IsHistory L last acts
    → ((a : Act) → IsAmong acts a → IsTrueDelete k a → ⊥) → answer ≡ true

-- a worker has learned of a slot and is still pinned. At each moment after it learned of the slot,
-- the slot was neither in the pool nor in a worker's hands, and was the same node
pub record ReadsTheNodeThatItWasTold (L : Layout) (w x : ℕ) (before : List Turn) : Type 0 where
  pub told : WasTold L w x before
  pub pinned : IsPinned w before
  pub still : (some rest : List Turn) → told.since ≡ some ++ rest
      → IsStill L told.before (told.before ++ told.told ∷ some) x

-- this holds for each touch of a slot other than 1 and 2 by a worker that does not have it in its
-- hands, if the headline holds
abbrev pub NobodyReadsAnotherNode : Type 0
NobodyReadsAnotherNode = (L : Layout) (turns : List Turn) → Headline L turns
    → (before rest : List Turn) (t : Turn) (r : Reply) (x : ℕ) → turns ≡ before ++ t ∷ rest
    → t.outcome ≡ Ok r → Contains (touched t.event) x → 3 ≤ x
    → has_after (opening L) t.worker x false before ≡ false
    → ReadsTheNodeThatItWasTold L t.worker x before
