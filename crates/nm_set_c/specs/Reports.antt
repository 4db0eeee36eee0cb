-- What calls on a report return and leave: r is what is left of the set or the map before the call, q
-- what is left after it, and o the outcome.
use Rattle.std.specs.Prelude.{◌≡◌, ◌≢◌, ◌⊎◌, ℕ, length, [], ◌∷◌, Option, Some, None, slice_get}
use Rattle.nm_epoch.specs.declared.collecting.Entry.{Entry}
use Rattle.nm_epoch.specs.declared.collecting.HeldQueue.{HeldQueue}
use Rattle.nm_set_c.specs.declared.outcome.Outcome.{Outcome}
use Rattle.nm_set_c.specs.declared.outcome.Outcome.TheVariants as outcome
use Rattle.nm_set_c.specs.declared.remains.Remains.{Remains}
use Rattle.nm_set_c.specs.declared.reports.Waiting.{Waiting}

-- the numbers of free and of reached slots are written
pub record TellsSlots (free reached : ℕ) (r q : Remains) (o : Outcome) : Type 0 where
  pub told : o ≡ outcome.Done
  pub free_told : free ≡ r.report.free
  pub reached_told : reached ≡ r.report.reached
  pub same : q ≡ r

-- the number of keys is written
pub record TellsKeys (count : ℕ) (r q : Remains) (o : Outcome) : Type 0 where
  pub told : o ≡ outcome.Done
  pub count_told : count ≡ length r.report.keys.items
  pub same : q ≡ r

-- what is at an index is written; or there is nothing, and nothing is written
abbrev pub IsFoundAt : Option ℕ → ℕ → ℕ → Outcome → Type 0
IsFoundAt None old new o = (o ≡ outcome.Number) × (new ≡ old)
IsFoundAt (Some k) old new o = (o ≡ outcome.Done) × (new ≡ k)

-- `TellsKey`, `TellsQueue`: what the report has at an index is written, and the report is unchanged
pub record TellsKey (index old key : ℕ) (r q : Remains) (o : Outcome) : Type 0 where
  pub found : IsFoundAt (slice_get r.report.keys.items index) old key o
  pub same : q ≡ r

-- how many nodes wait in a queue is written
abbrev pub IsCounted : Option HeldQueue → ℕ → ℕ → Outcome → Type 0
IsCounted None old new o = (o ≡ outcome.Number) × (new ≡ old)
IsCounted (Some h) old new o = (o ≡ outcome.Done) × (new ≡ length h.queue.items)

pub record TellsQueue (worker old count : ℕ) (r q : Remains) (o : Outcome) : Type 0 where
  pub counted : IsCounted (slice_get r.report.queues.items worker) old count o
  pub same : q ≡ r

-- ---- a node taken out

-- what is written is this entry
pub record IsEntry (w : Waiting) (e : Entry) : Type 0 where
  pub slot : w.slot ≡ e.node.slot
  pub generation : w.generation ≡ e.node.birth
  pub label : w.label ≡ e.label

-- the report has this queue at that index, and is otherwise unchanged
pub record HasQueue (worker : ℕ) (h : HeldQueue) (r q : Remains) : Type 0 where
  pub here : slice_get q.report.queues.items worker ≡ Some h
  pub others : (i : ℕ) → i ≢ worker → slice_get q.report.queues.items i ≡ slice_get r.report.queues.items i
  pub keys : q.report.keys ≡ r.report.keys
  pub free : q.report.free ≡ r.report.free
  pub reached : q.report.reached ≡ r.report.reached
  pub values : q.values ≡ r.values

-- the oldest node of the queue is written, and the queue is left without it; or none waits, and the
-- outcome is `No`; or there is no such queue
abbrev pub IsTakenOut : Option HeldQueue → ℕ → Waiting → Waiting → Remains → Remains → Outcome
    → Type 0
IsTakenOut None worker old new r q o = (o ≡ outcome.Number) × (new ≡ old) × (q ≡ r)
IsTakenOut (Some h) worker old new r q o =
    ((o ≡ outcome.No) × (h.queue.items ≡ []) × (new ≡ old) × HasQueue worker h r q)
    ⊎ ((o ≡ outcome.Yes) × (e : Entry) × (g : HeldQueue) × (h.queue.items ≡ e ∷ g.queue.items)
    × (g.origin ≡ h.origin) × IsEntry new e × HasQueue worker g r q)

-- the oldest node of a queue is written and taken out; nothing else of the report changes
abbrev pub TakesOldest : ℕ → Waiting → Waiting → Remains → Remains → Outcome → Type 0
TakesOldest worker old new r q o = IsTakenOut (slice_get r.report.queues.items worker) worker old new r q o
