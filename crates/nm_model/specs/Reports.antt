-- The report of a whole run: each event with its outcome, and at the end each worker's ledger, the
-- epoch and the number of slots above 5 in each place.
use Rattle.std.specs.Prelude.{ℕ, zero, suc, ◌+◌, ◌-◌, ◌==◌, nat_lt, ◌&&◌, true, false, List, [], ◌∷◌, ◌++◌, map, length, filter, sum_by, Option, Some, None, if◌then◌else◌, is_some}
use Rattle.std.specs.List.{range_with_len, filter_map}
use Rattle.nm_edge.specs.Layouts.{Layout}
use Rattle.nm_edge.specs.declared.edge.Side.TheVariants.{Left, Right}
use Rattle.nm_model.specs.declared.event.Event.{Event}
use Rattle.nm_model.specs.declared.trace.Turn.{Turn}
use Rattle.nm_model.specs.declared.ledger.Ledger.{Ledger}
use Rattle.nm_model.specs.declared.places.Places.{Places}
use Rattle.nm_model.specs.Maps.{or_else}
use Rattle.nm_model.specs.Memory.{Memory, node, child, is_leaf, infinity_0}
use Rattle.nm_model.specs.Ledgers.{held, queue_of}
use Rattle.nm_model.specs.Knowledge.{Knowledge}
use Rattle.nm_model.specs.Runs.{State, start, after, trace}
use Rattle.nm_model.specs.declared.memory.Node.{Node}
use Rattle.nm_model.specs.declared.keys.Subtree.{Subtree}
use Rattle.nm_model.specs.Ordered.{Configuration, ordered, after_in, trace_in}

-- ---- ledgers by origin

-- the first of these workers, numbered from w on, that holds the ledger of an origin
abbrev pub holder_from : ℕ → List Knowledge → ℕ → Option ℕ
holder_from w [] origin = None
holder_from w (k ∷ ks) origin =
    if is_some (held k.ledgers origin) then Some w else holder_from (w + 1) ks origin

-- `holder`, `ledger_of`: the worker that holds the ledger of an origin, and that ledger
abbrev pub holder : State → ℕ → Option ℕ
holder s origin = holder_from 0 s.workers origin

-- the ledger of an origin, whichever of these workers holds it
abbrev pub ledger_among : List Knowledge → ℕ → Option Ledger
ledger_among [] origin = None
ledger_among (k ∷ ks) origin = or_else (held k.ledgers origin) (ledger_among ks origin)

abbrev pub ledger_of : State → ℕ → Option Ledger
ledger_of s origin = ledger_among s.workers origin

-- ---- counts

-- the slots of the tree below a slot, that slot first, at most fuel deep
abbrev pub tree_slots : ℕ → Memory → ℕ → List ℕ
tree_slots zero m s = []
tree_slots (suc fuel) m s = elim (s == 0) [
  | true ↦ []
  | false ↦ s ∷ tree_slots fuel m (child m s Left)
      ++ tree_slots fuel m (child m s Right)
]

-- the number of slots that are private to these workers
abbrev pub all_private : List Knowledge → ℕ
all_private ks = sum_by (λ k. length k.drafts) ks

-- the number of entries that wait in these queues
abbrev pub in_queues : List (Option Ledger) → ℕ
in_queues ls = sum_by (λ l. length (queue_of l)) ls

-- the number of entries that wait in the queues that these workers hold
abbrev pub all_queued : List Knowledge → ℕ
all_queued ks = sum_by (λ k. in_queues k.ledgers) ks

-- the numbers of the slots above 5 that are in the pool, private, reached and queued
abbrev pub counts : State → Places
counts s = record {
  pool = length (filter (λ free. free) s.memory.pool);
  private = all_private s.workers;
  reached = length (tree_slots s.layout.nodes s.memory 1) - 5;
  queued = all_queued s.workers;
}

-- ---- the keys of the set

-- the key of a leaf, unless it is that of a fixed leaf
abbrev pub set_key : Node → Option ℕ
set_key n = if is_leaf n && nat_lt n.key infinity_0 then Some n.key else None

-- the keys in the tree below a slot from left to right, at most fuel deep
abbrev pub keys_below : ℕ → Memory → ℕ → List ℕ
keys_below fuel m s = filter_map (λ x. set_key (node m x)) (tree_slots fuel m s)

-- the parts of the tree below a slot, the right one first
abbrev pub below : Memory → ℕ → ℕ → List Subtree
below m s depth = record { slot = child m s Right; depth = depth }
    ∷ record { slot = child m s Left; depth = depth } ∷ []

-- the keys of the reached leaves, from left to right, without the fixed ones
abbrev pub keys : State → List ℕ
keys s = keys_below s.layout.nodes s.memory 1

-- ---- the report

-- `Report`, `report_of`: what is reported at the end of a run
pub record Report : Type 0 where
  pub trace : List Turn
  pub ledgers : List (Option Ledger)
  pub epoch : ℕ
  pub counts : Places

abbrev pub report_of : List Turn → State → Report
report_of turns s = record {
  trace = turns;
  ledgers = map (ledger_of s) (range_with_len 0 s.layout.workers);
  epoch = s.memory.epoch;
  counts = counts s;
}

-- the trace of a run, each origin's ledger, the epoch and the counts
unfoldable pub report : Layout → List (ℕ × Event) → Report
report L ts = report_of (trace (start L) ts) (after (start L) ts)

-- the report of an ordered core's run, with the keys at the end
pub record OrderedReport : Type 0 where
  pub report : Report
  pub keys : List ℕ

-- `ordered_report_of`, `ordered_report`: the report of an ordered run, with its keys
abbrev pub ordered_report_of : List Turn → Configuration → OrderedReport
ordered_report_of turns c = record { report = report_of turns c.state; keys = keys c.state }

unfoldable pub ordered_report : Layout → List (ℕ × Event) → OrderedReport
ordered_report L ts = ordered_report_of (trace_in (ordered L) ts) (after_in (ordered L) ts)
