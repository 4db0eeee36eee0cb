-- The number of tries that a worker can lose, by its own log: at most the number of changes that
-- other workers make.
use Rattle.std.specs.Prelude.{◌≡◌, ℕ, suc, ◌+◌, ◌*◌, ◌<◌, ◌≤◌, ◌==◌, Bool, true, false, not, ◌&&◌, ◌||◌, if◌then◌else◌, List, [], ◌∷◌, ◌++◌, Result, All}
use Rattle.std.specs.List.{list_any}
use Rattle.nm_edge.specs.Edges.{Edge, to}
use Rattle.nm_edge.specs.Layouts.{Layout}
use Rattle.nm_edge.specs.declared.edge.Side.{Side}
use Rattle.nm_model.specs.declared.event.Field.TheVariants.{Edge as EdgeOn}
use Rattle.nm_model.specs.declared.event.Event.{Event}
use Rattle.nm_model.specs.declared.event.Event.TheVariants.{Look}
use Rattle.nm_model.specs.declared.reply.Reply.{Reply}
use Rattle.nm_model.specs.declared.reply.Reply.TheVariants.{EdgeIs, Lost}
use Rattle.nm_model.specs.declared.reply.Refused.{Refused}
use Rattle.nm_model.specs.declared.trace.Turn.{Turn}
use Rattle.nm_model.specs.Knowledge.{knows}
use Rattle.nm_model.specs.Walks.{Entry, begins_anew}
use Rattle.nm_model.specs.Ordered.{ordered, after_in, trace_in}
use Rattle.nm_order.specs.Intervals.{HasKey}
use Rattle.nm_order.specs.Logs.{part_of, known_by}
use Rattle.nm_progress.specs.Changes.{is_change, Expects}
use Rattle.nm_progress.specs.Moves.{number_of}
use Rattle.nm_progress.specs.Paid.{links_on, flags_on, cuts_on, tags_on, links_in, flags_in}

-- ---- changes by other workers

-- an event with its outcome changes an edge that had no mark
abbrev pub changes_edge : Event → Result Reply Refused → Bool
changes_edge e o = links_on e o || (flags_on e o || (cuts_on e o || tags_on e o))

-- a turn of another worker that changes an edge
abbrev pub changes_of_others : ℕ → Turn → Bool
changes_of_others w t = not (t.worker == w) && changes_edge t.event t.outcome

-- an event with its outcome links a node or cuts nodes off: it changes where an edge leads
abbrev pub reshapes : Event → Result Reply Refused → Bool
reshapes e o = links_on e o || cuts_on e o

-- a turn of another worker that links a node or cuts nodes off
abbrev pub reshapes_of_others : ℕ → Turn → Bool
reshapes_of_others w t = not (t.worker == w) && reshapes t.event t.outcome

-- a turn that interferes with worker w: another worker changes an edge, or w itself wins a splice. In
-- a try that is lost, such a splice ends a delete of another worker
abbrev pub interferes : ℕ → Turn → Bool
interferes w t = if t.worker == w then cuts_on t.event t.outcome else changes_edge t.event t.outcome

-- the number of flags that worker w wins in these turns
abbrev pub own_flags : ℕ → List Turn → ℕ
own_flags w turns = number_of (λ t. (t.worker == w) && flags_on t.event t.outcome) turns

-- ---- lost tries in a log

-- the entries that read an edge as one to s without a mark, and that lose an exchange
abbrev pub reading : ℕ → Side → ℕ → Entry
reading x d s = (Look x (EdgeOn d), EdgeIs (to s))

abbrev pub losing : Event → Edge → Entry
losing exchange found = (exchange, Lost found)

-- this many tries are lost in these entries of worker w's log, one after the other, after a first
-- part of the log. Each try is a look at an edge of a known node, which leads to s without a mark,
-- and then an exchange that expects this and is lost. Between the two the worker's pin lasts, and
-- the worker does not change that edge itself
pub data LosesTries (L : Layout) (w : ℕ) : List Entry → List Entry → ℕ → Type 0 where
  NoTry : {so_far entries : List Entry} → LosesTries L w so_far entries 0
  OneTry : {so_far : List Entry} (n x : ℕ) (d : Side) (s : ℕ) (first between rest : List Entry)
      (exchange : Event) (found : Edge)
      → knows (known_by L w (so_far ++ first)) x ≡ true → Expects x d s exchange
      → list_any begins_anew between ≡ false → list_any (is_change x d) between ≡ false
      → LosesTries L w
      (so_far ++ (first ++ reading x d s ∷ (between ++ losing exchange found ∷ []))) rest n
      → LosesTries L w so_far
      (first ++ reading x d s ∷ (between ++ losing exchange found ∷ rest)) (suc n)

-- ---- laws

-- the law holds from one moment of an ordered run to a later one: of a worker, of the tries that it
-- loses in the entries by which its part of the run grows, and of the turns between the two moments
abbrev pub OfEachPart : (Layout → ℕ → ℕ → List Turn → Type 0) → Type 0
OfEachPart P = (L : Layout) → 5 ≤ L.nodes → (w : ℕ) → w < L.workers
    → (past turns : List (ℕ × Event)) → All (λ t. HasKey t.1) (past ++ turns) → (n : ℕ)
    → LosesTries L w (part_of w (trace_in (ordered L) past))
    (part_of w (trace_in (after_in (ordered L) past) turns)) n
    → P L w n (trace_in (after_in (ordered L) past) turns)

abbrev pub TriesAreLostToChanges : Layout → ℕ → ℕ → List Turn → Type 0
TriesAreLostToChanges L w n turns = n ≤ number_of (changes_of_others w) turns

-- the worker loses at most as many tries as there are won links, three times the flags, and twice
-- the workers (for flags that were won before)
abbrev pub TriesArePaid : Layout → ℕ → ℕ → List Turn → Type 0
TriesArePaid L w n turns = n ≤ links_in turns + 3 * flags_in turns + 2 * L.workers

-- over a whole run a worker loses at most as many tries as there are won links and three times the
-- won flags
abbrev pub TriesArePaidEver : Type 0
TriesArePaidEver = (L : Layout) → 5 ≤ L.nodes → (w : ℕ) → w < L.workers → (turns : List (ℕ × Event))
    → All (λ t. HasKey t.1) turns → (n : ℕ)
    → LosesTries L w [] (part_of w (trace_in (ordered L) turns)) n
    → n ≤ links_in (trace_in (ordered L) turns) + 3 * flags_in (trace_in (ordered L) turns)

-- from one moment of an ordered run to a later one, at most as many turns interfere with a worker
-- as there are won links, three times the flags, and twice the workers
abbrev pub HindrancesArePaid : Type 0
HindrancesArePaid = (L : Layout) → 5 ≤ L.nodes → (w : ℕ) (past turns : List (ℕ × Event))
    → All (λ t. HasKey t.1) (past ++ turns)
    → number_of (interferes w) (trace_in (after_in (ordered L) past) turns)
    ≤ links_in (trace_in (after_in (ordered L) past) turns)
    + 3 * flags_in (trace_in (after_in (ordered L) past) turns) + 2 * L.workers

-- they are also at most twice the changes of edges by other workers, and the flags that the worker
-- wins itself, and one for each worker, whose delete may have been pending before
abbrev pub HindrancesAreByOthers : Type 0
HindrancesAreByOthers = (L : Layout) → 5 ≤ L.nodes → (w : ℕ) (past turns : List (ℕ × Event))
    → All (λ t. HasKey t.1) (past ++ turns)
    → number_of (interferes w) (trace_in (after_in (ordered L) past) turns)
    ≤ 2 * number_of (changes_of_others w) (trace_in (after_in (ordered L) past) turns)
    + own_flags w (trace_in (after_in (ordered L) past) turns) + L.workers
