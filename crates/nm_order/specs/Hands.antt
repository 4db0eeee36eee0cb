-- What a worker holds, by its log: private slots, and the queues of the ledgers that it holds.
use Rattle.std.specs.Prelude.{◌≡◌, ℕ, ◌<◌, ◌≤◌, false, true, List, ◌++◌, map, Some, None, IsSome, slice_get}
use Rattle.nm_edge.specs.Layouts.{Layout}
use Rattle.nm_model.specs.declared.ledger.Ledger.{Ledger}
use Rattle.nm_model.specs.declared.ledger.Queued.{Queued}
use Rattle.nm_model.specs.Knowledge.{Knowledge, is_private}
use Rattle.nm_model.specs.Laws.{node_in}
use Rattle.nm_model.specs.Ledgers.{held, queue_of}
use Rattle.nm_model.specs.Walks.{Entry}
use Rattle.nm_order.specs.Logs.{known_by, IsLogOf}

-- the entry waits at that index of the queue of an origin, whose ledger the worker holds
abbrev pub WaitsAt : Knowledge → ℕ → ℕ → Queued → Type 0
WaitsAt k origin i e = slice_get (queue_of (held k.ledgers origin)) i ≡ Some e

-- one of the slots that are claimed and given to the pool
abbrev pub IsPooled : Layout → ℕ → Type 0
IsPooled L x = (6 ≤ x) × (x ≤ L.nodes)

-- private slots and slots that wait in a held queue are ones of 6 to nodes; no slot is both, none
-- waits twice, and each held ledger is a worker's
pub record AreApart (L : Layout) (k : Knowledge) : Type 0 where
  pub private : (x : ℕ) → is_private k x ≡ true → IsPooled L x
  pub waiting : (o i : ℕ) (e : Queued) → WaitsAt k o i e → IsPooled L e.node.slot
  pub shared : (o i : ℕ) (e : Queued) → WaitsAt k o i e → is_private k e.node.slot ≡ false
  pub once : (o p i j : ℕ) (e f : Queued) → WaitsAt k o i e → WaitsAt k p j f
      → e.node.slot ≡ f.node.slot → (o ≡ p) × (i ≡ j)
  pub origins : (o : ℕ) → IsSome (held k.ledgers o) → o < L.workers

-- for each worker, by its part of any ordered run
abbrev pub HandsAreApart : Type 0
HandsAreApart = (L : Layout) → 5 ≤ L.nodes → (w : ℕ) (log : List Entry) → IsLogOf L w log
    → AreApart L (known_by L w log)

-- ---- the ledgers that it holds

-- of each ledger that worker w holds, the retired nodes are the freed ones and then the waiting
-- ones, in this order. An entry without a label waits in the worker's own queue only, after a cut
-- that its brief shows as unlabelled
pub record LedgersAreKept (w : ℕ) (k : Knowledge) : Type 0 where
  pub split : (o : ℕ) (l : Ledger) → held k.ledgers o ≡ Some l
      → l.retired ≡ l.freed ++ map node_in l.queue
  pub labelled : (o i : ℕ) (e : Queued) → WaitsAt k o i e → e.label ≡ None
      → (o ≡ w) × (k.brief.unlabelled ≡ true)

-- for the ledgers that each worker holds, by its part of any ordered run
abbrev pub HeldLedgersAreKept : Type 0
HeldLedgersAreKept = (L : Layout) → 5 ≤ L.nodes → (w : ℕ) (log : List Entry) → IsLogOf L w log
    → LedgersAreKept w (known_by L w log)
