-- The part of each worker in a run, and what follows from it of that worker's knowledge.
use Rattle.std.specs.Prelude.{◌≡◌, ℕ, ◌<◌, ◌==◌, Bool, false, ◌||◌, List, [], ◌∷◌, ◌++◌, if◌then◌else◌, All}
use Rattle.nm_edge.specs.Layouts.{Layout}
use Rattle.nm_model.specs.declared.event.Event.{Event}
use Rattle.nm_model.specs.declared.event.Event.TheVariants.{Join}
use Rattle.nm_model.specs.declared.trace.Turn.{Turn}
use Rattle.nm_model.specs.Knowledge.{Knowledge, newcomer}
use Rattle.nm_model.specs.Learning.{learn}
use Rattle.nm_model.specs.Walks.{Entry, logged_by}
use Rattle.nm_model.specs.Runs.{of}
use Rattle.nm_model.specs.Ordered.{ordered, after_in, trace_in}
use Rattle.nm_order.specs.Intervals.{HasKey}

-- it is a join by which worker w resigns
abbrev pub is_leaver : ℕ → Event → Bool
is_leaver w (Join v) = v == w
is_leaver w _ = false

-- a worker takes part in its own events, and in a join by which it resigns
abbrev pub takes_part : ℕ → ℕ → Event → Bool
takes_part w u e = (u == w) || is_leaver w e

-- worker w's part of these turns, in their order: its own entries, and the join by which it
-- resigns. (`log_of` has only its own entries.)
abbrev pub part_of : ℕ → List Turn → List Entry
part_of w [] = []
part_of w (t ∷ ts) = (if takes_part w t.worker t.event then logged_by t else []) ++ part_of w ts

-- what worker w knows after a log, from what it knew before
abbrev pub known_after : ℕ → Knowledge → List Entry → Knowledge
known_after w k [] = k
known_after w k (e ∷ es) = known_after w (learn w k e.0 e.1) es

-- what the worker of a log knows after it, if it began with no knowledge
abbrev pub known_by : Layout → ℕ → List Entry → Knowledge
known_by L w log = known_after w (newcomer L w) log

-- a log is worker w's part of some ordered run, with calls for keys of the set
pub record IsLogOf (L : Layout) (w : ℕ) (log : List Entry) : Type 0 where
  pub worker : w < L.workers
  pub turns : List (ℕ × Event)
  pub keys : All (λ t. HasKey t.1) turns
  pub is_part : part_of w (trace_in (ordered L) turns) ≡ log

-- in every ordered run, what a worker knows follows from its part
abbrev pub LogsTellWhatIsKnown : Type 0
LogsTellWhatIsKnown = (L : Layout) (turns : List (ℕ × Event)) (w : ℕ) → w < L.workers
    → of (after_in (ordered L) turns).state w
    ≡ known_by L w (part_of w (trace_in (ordered L) turns))
