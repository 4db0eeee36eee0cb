-- What calls on the report of a closed map return and leave: r is what is left of the map before the
-- call, q what is left after it, and o the outcome.
use Rattle.std.specs.Prelude.{◌≡◌, ◌⊎◌, ℕ, true, false, List, [], ◌∷◌, ◌++◌, All, Option, Some, None, slice_get}
use Rattle.nm_epoch.specs.declared.collecting.Entry.{Entry}
use Rattle.nm_epoch.specs.declared.collecting.HeldQueue.{HeldQueue}
use Rattle.nm_tree.specs.MapReports.{MapValuesView, is_leaf_at, value_at_slot}
use Rattle.nm_set_c.specs.Reports.{HasQueue, IsFoundAt}
use Rattle.nm_set_c.specs.declared.outcome.Outcome.{Outcome}
use Rattle.nm_set_c.specs.declared.outcome.Outcome.TheVariants as outcome
use Rattle.nm_set_c.specs.declared.remains.Remains.{Remains}

-- the value under the key at an index is written; or there are not that many keys; or there are no
-- values, because the report is that of a set
abbrev pub IsValueAt : Option MapValuesView → ℕ → ℕ → ℕ → Outcome → Type 0
IsValueAt None index old new o = (o ≡ outcome.Kind) × (new ≡ old)
IsValueAt (Some v) index old new o = IsFoundAt (slice_get v.keyed index) old new o

-- that value is written, and the report is unchanged
pub record TellsValue (index old value : ℕ) (r q : Remains) (o : Outcome) : Type 0 where
  pub found : IsValueAt r.values index old value o
  pub same : q ≡ r

-- ---- a leaf taken out

-- none of these entries is a leaf
abbrev pub AreNoLeaves : MapValuesView → List Entry → Type 0
AreNoLeaves v es = All (λ e. is_leaf_at v e.node.slot ≡ false) es

-- h has lost its oldest leaf, this entry, and what was before it, in which there is no leaf; g is left
pub record LosesLeaf (v : MapValuesView) (h g : HeldQueue) (e : Entry) : Type 0 where
  pub before : List Entry
  pub parts : h.queue.items ≡ before ++ e ∷ g.queue.items
  pub inner : AreNoLeaves v before
  pub leaf : is_leaf_at v e.node.slot ≡ true
  pub origin : g.origin ≡ h.origin
  pub counts : g.counts ≡ h.counts

-- h has lost all its entries, in which there is no leaf; g is left
pub record LosesAll (v : MapValuesView) (h g : HeldQueue) : Type 0 where
  pub inner : AreNoLeaves v h.queue.items
  pub empty : g.queue.items ≡ []
  pub origin : g.origin ≡ h.origin
  pub counts : g.counts ≡ h.counts

-- the value of a slot, or the number that was there before, if there is no such slot. A closed map has
-- the slot of each leaf that waits (`Waits`)
abbrev pub slot_written : Option ℕ → ℕ → ℕ
slot_written (Some value) old = value
slot_written None old = old

-- the oldest leaf is taken out of the queue, and the value of its slot is written; or no leaf waits, the
-- outcome is `No`, and all nodes are taken out; or there is no such queue
abbrev pub IsReturned : MapValuesView → Option HeldQueue → ℕ → ℕ → ℕ → Remains → Remains → Outcome
    → Type 0
IsReturned v None worker old new r q o = (o ≡ outcome.Number) × (new ≡ old) × (q ≡ r)
IsReturned v (Some h) worker old new r q o =
    ((o ≡ outcome.No) × (g : HeldQueue) × LosesAll v h g × (new ≡ old) × HasQueue worker g r q)
    ⊎ ((o ≡ outcome.Yes) × (e : Entry) × (g : HeldQueue) × LosesLeaf v h g e
    × (new ≡ slot_written (value_at_slot v.slots e.node.slot) old) × HasQueue worker g r q)

-- the same for a report that has values; that of a set is refused
abbrev pub IsReturnedOf : Option MapValuesView → ℕ → ℕ → ℕ → Remains → Remains → Outcome → Type 0
IsReturnedOf None worker old new r q o = (o ≡ outcome.Kind) × (new ≡ old) × (q ≡ r)
IsReturnedOf (Some v) worker old new r q o =
    IsReturned v (slice_get r.report.queues.items worker) worker old new r q o

-- the oldest leaf of a worker's queue is taken out, and its value is written; nothing else of the
-- report changes
abbrev pub TakesReturned : ℕ → ℕ → ℕ → Remains → Remains → Outcome → Type 0
TakesReturned worker old new r q o = IsReturnedOf r.values worker old new r q o
