-- Look-ups of several keys under one pin, whose walks take turns.
use Rattle.std.specs.Prelude.{◌≡◌, ◌≢◌, ◌==◌, ◌+◌, ◌*◌, ◌≤◌, ℕ, suc, true, false, List, length, map, All, Contains, Result, IfOk, IfErr}
use Rattle.nm_edge.specs.Keys.{IsKey}
use Rattle.nm_edge.specs.Layouts.{Layout}
use Rattle.nm_model.specs.Walks.{Entry}
use Rattle.nm_order.specs.Facts.Fact.{KnowsSlot}
use Rattle.nm_steps.specs.Steps.{PassView, IsSamePass, HasSeenAllOf}
use Rattle.nm_epoch.specs.Resting.{IsResting, KeepsHands}
use Rattle.nm_calls.specs.declared.fault.CallFault.{CallFault}
use Rattle.nm_calls.specs.declared.fault.CallFault.TheVariants as fault
use Rattle.nm_walks.specs.declared.looking.Onward.{Onward}
use Rattle.nm_calls.specs.declared.many.Query.{Query}
use Rattle.nm_calls.specs.declared.scan_plan.What.{What}
use Rattle.nm_calls.specs.declared.scan_plan.What.TheVariants.{Keys, Entries}
use Rattle.nm_walks.specs.Bounds.{reach}
use Rattle.nm_walks.specs.Telling.{Tells}
pub use Rattle.nm_walks.specs.AddedLooks.{AddsLooks}
pub use Rattle.nm_calls.specs.PlainWalks.{
  LooksUnderPin,
  PlainMissed,
  HasPassed,
  HasEndedAt,
  HasEndedSo,
  WasSo,
  after_entries,
  most_looks,
}
use Rattle.nm_walks.specs.WonCounts.{won_splices}
use Rattle.nm_calls.specs.Won.{HasWon}

-- after at least n nodes the walk of the query has reached a known node, which it reads next; or it
-- has no node to read, and has ended with its answer. If values are looked up, the query has the leaf
-- with the key. All of its looks came after the first `from` entries of the log (Natarajan and
-- Mittal, section 3.2)
pub record IsUnderWay (what : What) (from n : ℕ) (p : PassView) (q : Query) : Type 0 where
  pub is_key : IsKey q.key
  pub comes : q.node ≢ 0 → HasPassed n (after_entries from p).view.log q.key q.node
  pub known : q.node ≢ 0 → Tells p (KnowsSlot q.node)
  pub ends : q.node ≡ 0 → HasEndedSo (after_entries from p) q.key q.found
  pub leaf : what ≡ Entries → q.node ≡ 0 → q.found ≡ true
      → HasEndedAt (after_entries from p) q.key q.value

-- the query is at the beginning of its walk, which reads this node first (Natarajan and Mittal,
-- section 3.2)
abbrev pub HasBegun : ℕ → Query → Type 0
HasBegun first q = IsKey q.key × (q.node ≡ first)

-- the slot that the query keeps when its walk reads its node: for a value, that of the node
abbrev pub slot_kept : What → Query → ℕ
slot_kept Keys q = q.value
slot_kept Entries q = q.node

-- the query after its walk has read its node (Natarajan and Mittal, section 3.2)
abbrev pub query_read : What → Query → Onward → Query
query_read what q on =
    record { key = q.key; found = on.found == q.key; value = slot_kept what q; node = on.next.slot }

abbrev pub key_of : Query → ℕ
key_of q = q.key

-- looks by which a walk for one of these keys was broken off, because it had looked at as many
-- nodes as there are; the tree is not a radix tree
abbrev pub GiveUp : Layout → List ℕ → List Entry → List Entry → Type 0
GiveUp L keys old new = AddsLooks (most_looks (reach L) (length keys)) old new × (L.radix ≡ false)
    × (k slot n : ℕ) × Contains keys k × HasPassed n new k slot × (suc n ≡ L.nodes)

-- what a look-up of the old queries, which are the new ones afterwards, leaves of its pass, by its
-- answer. It is as for a look-up of one key, but each answer was right at a moment (linearization
-- point) of the call, and the keys are unchanged
pub record AfterHasMany (L : Layout) (tries : ℕ) (old new : List Query) (p q : PassView)
    (r : Result (Unit {0}) CallFault) : Type 0 where
  pub same : IsSamePass p q
  pub past : HasSeenAllOf q p
  pub did : IfOk r
      (λ u. LooksUnderPin tries (most_looks (reach L) (length old)) p.view.log q.view.log)
  pub keys : map key_of new ≡ map key_of old
  pub moment : IfOk r (λ u. All (λ query. WasSo p q query.key query.found) new)
  pub busy : IfErr r (λ e. e ≡ fault.Busy)
  pub missed : IfErr r (λ e. PlainMissed (GiveUp L (map key_of old)) tries p.view.log q.view.log)
  pub won : HasWon p.view.log q.view.log 0 0
  pub uncut : won_splices q.view.log ≡ won_splices p.view.log
  pub steps : length q.view.log
      ≤ length p.view.log + 3 * tries + most_looks (reach L) (length old) + 2
  pub rests : IsResting q
  pub hands : KeepsHands p q
