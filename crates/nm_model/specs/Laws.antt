-- The laws of all runs, about the states that they reach. The laws of a list of turns alone are on
-- the page (`Headline`), and are taken from there.
use Rattle.std.specs.Prelude.{◌≡◌, ℕ, ◌+◌, ◌<◌, ◌≤◌, ◌⊎◌, List, [], ◌∷◌, ◌++◌, map, filter, slice_get, Contains, Some, IsSome, Ok}
use Rattle.nm_edge.specs.Layouts.{Layout}
use Rattle.nm_edge.specs.declared.edge.Side.{Side}
use Rattle.nm_edge.specs.declared.node.NodeId.{NodeId}
use Rattle.nm_model.specs.declared.event.Event.{Event}
use Rattle.nm_model.specs.declared.event.Event.TheVariants.{Splice, Swap}
use Rattle.nm_model.specs.declared.reply.Reply.TheVariants.{Cut, Freed}
use Rattle.nm_model.specs.declared.trace.Turn.{Turn}
use Rattle.nm_model.specs.declared.ledger.Queued.{Queued}
use Rattle.nm_model.specs.declared.ledger.Ledger.{Ledger}
use Rattle.nm_model.specs.Memory.{named}
use Rattle.nm_model.specs.Ledgers.{held}
use Rattle.nm_model.specs.Paths.{Reached}
pub use Rattle.nm_model.specs.Headline.{
  slots_of,
  nodes_cut_of,
  nodes_freed_of,
  cuts_of,
  freed_by,
  is_among,
  freed_of,
  CutsJust,
  HasLeft,
}
use Rattle.nm_model.specs.Runs.{State, of, start, after, trace, next, outcome}

-- it holds in every state of every run, if there are nodes for the fixed part of the tree
abbrev pub OfEachState : (State → Type 0) → Type 0
OfEachState P = (L : Layout) → 5 ≤ L.nodes → (turns : List (ℕ × Event)) → P (after (start L) turns)

-- ---- runs

-- `StatesJoin`, `TracesJoin`: a run of the first events, followed by a run of the others from the
-- state reached, gives the state, and the trace, of one run of all
abbrev pub StatesJoin : Type 0
StatesJoin = (s : State) (ts us : List (ℕ × Event)) → after s (ts ++ us) ≡ after (after s ts) us

abbrev pub TracesJoin : Type 0
TracesJoin = (s : State) (ts us : List (ℕ × Event))
    → trace s (ts ++ us) ≡ trace s ts ++ trace (after s ts) us

-- ---- epochs

-- while a worker is pinned at e, the epoch is e or e + 1
abbrev pub PinsAreNear : State → Type 0
PinsAreNear s = (w e : ℕ) → (of s w).brief.pin ≡ Some e
    → (s.memory.epoch ≡ e) ⊎ (s.memory.epoch ≡ e + 1)

-- this holds in every run, for all events of the workers in every order
abbrev pub PinsStayNear : Type 0
PinsStayNear = (L : Layout) (turns : List (ℕ × Event)) → PinsAreNear (after (start L) turns)

-- ---- cuts

-- each node has the birth that is in its slot
abbrev pub NamesBirths : State → List NodeId → Type 0
NamesBirths before ns = ns ≡ map (named before.memory) (slots_of ns)

-- it holds for every splice that is won in a state: for that state, its successor, the nodes of its
-- reply and the state after it
abbrev pub OfEachCut : (State → ℕ → List NodeId → State → Type 0) → State → Type 0
OfEachCut P s = (w a : ℕ) (side : Side) (successor parent : ℕ) (keep : Side) (ns : List NodeId)
    → outcome s (w, Splice a side successor parent keep) ≡ Ok (Cut ns)
    → P s successor ns (next s (w, Splice a side successor parent keep))

-- the same for every swap that is won, by its leaf
abbrev pub OfEachSwap : (State → ℕ → List NodeId → State → Type 0) → State → Type 0
OfEachSwap P s = (w p : ℕ) (side : Side) (leaf new : ℕ) (ns : List NodeId)
    → outcome s (w, Swap p side leaf new) ≡ Ok (Cut ns)
    → P s leaf ns (next s (w, Swap p side leaf new))

-- a turn whose reply is not a cut cuts nothing
abbrev pub NothingElseCuts : State → Type 0
NothingElseCuts s = (turn : ℕ × Event) → ((ns : List NodeId) → outcome s turn ≡ Ok (Cut ns) → ⊥)
    → (x : ℕ) → Reached s.memory x → Reached (next s turn).memory x

-- only a splice, or a swap, has a cut as its reply
abbrev pub OnlySplicesAnswerCuts : State → Type 0
OnlySplicesAnswerCuts s = (turn : ℕ × Event) (ns : List NodeId) → outcome s turn ≡ Ok (Cut ns)
    → ((a : ℕ) × (side : Side) × (successor : ℕ) × (parent : ℕ) × (keep : Side)
    × (turn.1 ≡ Splice a side successor parent keep))
    ⊎ ((p : ℕ) × (side : Side) × (leaf : ℕ) × (new : ℕ) × (turn.1 ≡ Swap p side leaf new))

-- ---- ledgers

-- exactly one worker holds the ledger of an origin
pub record OneHolder (s : State) (origin : ℕ) : Type 0 where
  pub holder : ℕ
  pub is_worker : holder < s.layout.workers
  pub holds : IsSome (held (of s holder).ledgers origin)
  pub only : (w : ℕ) → IsSome (held (of s w).ledgers origin) → w ≡ holder

-- this holds in every run, for every origin
abbrev pub EachLedgerHasOneHolder : Type 0
EachLedgerHasOneHolder = (L : Layout) (turns : List (ℕ × Event)) (origin : ℕ) → origin < L.workers
    → OneHolder (after (start L) turns) origin

-- it holds in every run, for the ledger of every origin, whichever worker holds it then
abbrev pub OfEachLedger : (ℕ → List Turn → Ledger → Type 0) → Type 0
OfEachLedger P = (L : Layout) (turns : List (ℕ × Event)) (w origin : ℕ) (l : Ledger)
    → held (of (after (start L) turns) w).ledgers origin ≡ Some l
    → P origin (trace (start L) turns) l

abbrev pub node_in : Queued → NodeId
node_in e = e.node

-- the retired nodes are the freed ones followed by those that wait, in this order
abbrev pub IsFreedThenQueue : Ledger → Type 0
IsFreedThenQueue l = l.retired ≡ l.freed ++ map node_in l.queue

-- the retired nodes are those that the origin's splices cut, in this order
abbrev pub IsTheCuts : ℕ → List Turn → Ledger → Type 0
IsTheCuts origin turns l = l.retired ≡ cuts_of origin turns

-- it holds in every run, for every ledger, if there are nodes for the fixed part of the tree
abbrev pub OfEachLedgerOfATree : (ℕ → List Turn → Ledger → Type 0) → Type 0
OfEachLedgerOfATree P = (L : Layout) → 5 ≤ L.nodes
    → (turns : List (ℕ × Event)) (w origin : ℕ) (l : Ledger)
    → held (of (after (start L) turns) w).ledgers origin ≡ Some l
    → P origin (trace (start L) turns) l

-- those of these nodes that gives freed, in the order of the gives
abbrev pub freed_among : List NodeId → List Turn → List NodeId
freed_among ns turns = filter (is_among ns) (freed_by turns)

-- the freed nodes are those of the origin's cuts that gives freed, in the order of the gives
abbrev pub IsTheFrees : ℕ → List Turn → Ledger → Type 0
IsTheFrees origin turns l = l.freed ≡ freed_of origin turns

-- the nodes that gives freed, followed by those in the queue, are the origin's cuts: a node leaves
-- a queue only by such a give
abbrev pub FreesThenQueueAreTheCuts : ℕ → List Turn → Ledger → Type 0
FreesThenQueueAreTheCuts origin turns l =
    freed_of origin turns ++ map node_in l.queue ≡ cuts_of origin turns

-- a node is freed from the front of a queue that the worker holds, and becomes the last freed node
-- of that ledger
pub record FreesAFront (s : State) (turn : ℕ × Event) (n : NodeId) : Type 0 where
  pub origin : ℕ
  pub before : Ledger
  pub after : Ledger
  pub front : Queued
  pub had : held (of s turn.0).ledgers origin ≡ Some before
  pub has : held (of (next s turn) turn.0).ledgers origin ≡ Some after
  pub is_node : front.node ≡ n
  pub leaves : before.queue ≡ front ∷ after.queue
  pub freed : after.freed ≡ before.freed ++ n ∷ []

-- each give that frees a node takes it from such a front
abbrev pub EachFreeTakesAFront : State → Type 0
EachFreeTakesAFront s = (turn : ℕ × Event) (n : NodeId) → outcome s turn ≡ Ok (Freed n)
    → FreesAFront s turn n

-- no node (a slot with its birth) is twice among the retired nodes of all ledgers
abbrev pub NoNodeTwice : State → Type 0
NoNodeTwice s = (w v origin other i j : ℕ) (l m : Ledger) (n : NodeId)
    → held (of s w).ledgers origin ≡ Some l → held (of s v).ledgers other ≡ Some m
    → slice_get l.retired i ≡ Some n → slice_get m.retired j ≡ Some n → (origin ≡ other) × (i ≡ j)

-- the retired nodes of an origin's ledger grew by those that its splices cut in these turns
abbrev pub GrewByTheCuts : ℕ → List Turn → Ledger → Ledger → Type 0
GrewByTheCuts origin turns before after = after.retired ≡ before.retired ++ cuts_of origin turns

-- this holds over each run, whichever worker holds the ledger
abbrev pub RetiredGrowsByTheCuts : State → Type 0
RetiredGrowsByTheCuts s = (turns : List (ℕ × Event)) (w v origin : ℕ) (l m : Ledger)
    → held (of s w).ledgers origin ≡ Some l → held (of (after s turns) v).ledgers origin ≡ Some m
    → GrewByTheCuts origin (trace s turns) l m

-- ---- grace

-- if a node is cut by one turn and freed by a later one, each worker that was pinned at the cut,
-- including the remover, left between the two
abbrev pub GraceHolds : State → Type 0
GraceHolds s = (cut : ℕ × Event) (between : List (ℕ × Event)) (free : ℕ × Event) (ns : List NodeId)
    (n : NodeId) (w e : ℕ)
    → outcome s cut ≡ Ok (Cut ns) → Contains ns n
    → outcome (after (next s cut) between) free ≡ Ok (Freed n)
    → (of s w).brief.pin ≡ Some e
    → HasLeft w (trace (next s cut) between)
