-- The keys of a range, in a set that others change.
use Rattle.std.specs.Prelude.{◌≡◌, ◌≢◌, ◌⊎◌, ◌<◌, ◌≤◌, ◌==◌, ◌+◌, ◌*◌, ◌&&◌, nat_le, nat_lt, ℕ, suc, Bool, true, false, if◌then◌else◌, List, [], ◌∷◌, ◌++◌, length, take, Option, Some, None, Result, Ok, Err, IfOk, IfErr, IfSome}
use Rattle.nm_edge.specs.Edges.{Edge}
use Rattle.nm_edge.specs.Keys.{IsKey}
use Rattle.nm_edge.specs.Layouts.{Layout}
use Rattle.nm_edge.specs.declared.edge.Side.{Side}
use Rattle.nm_edge.specs.declared.edge.Side.TheVariants.{Left, Right}
use Rattle.nm_model.specs.Memory.{infinity_0, infinity_1}
use Rattle.nm_model.specs.Walks.{Entry, since_pin, WalkEnds}
use Rattle.nm_order.specs.Facts.Fact.{KnowsSlot}
use Rattle.nm_order.specs.Ranges.{WalkPasses}
use Rattle.nm_steps.specs.Steps.{PassView, IsSamePass, HasSeenAllOf}
use Rattle.nm_epoch.specs.Resting.{IsResting, KeepsHands}
use Rattle.nm_calls.specs.declared.fault.CallFault.{CallFault}
use Rattle.nm_calls.specs.declared.fault.CallFault.TheVariants as fault
use Rattle.nm_calls.specs.declared.scanning.Scanned.{Scanned}
use Rattle.nm_calls.specs.declared.stretches.Stretch.{Stretch}
use Rattle.nm_calls.specs.InTurns.{GiveUp as GiveUpInTurns}
use Rattle.nm_calls.specs.NearKeys.{IsPast, Lies, bound}
use Rattle.nm_calls.specs.PlainWalks.{GivesUpUnderPin, HasEndedSo, HasPassed, LooksUnderPin, PlainMissed, WasSo}
use Rattle.nm_walks.specs.AddedLooks.{AddsLooks}
use Rattle.nm_walks.specs.Bounds.{reach}
use Rattle.nm_walks.specs.Telling.{Tells}
use Rattle.nm_walks.specs.WonCounts.{won_splices}
use Rattle.nm_calls.specs.Won.{HasWon}

-- ---- ranges

-- j is between two bounds, of which the first one has the keys on that side before it
abbrev pub IsIn : Side → ℕ → ℕ → ℕ → Type 0
IsIn Left from to j = (to ≤ j) × (j < from)
IsIn Right from to j = (from ≤ j) × (j < to)

-- the bound after a key, to that side
abbrev pub beyond : Side → ℕ → ℕ
beyond Left k = k
beyond Right k = k + 1

-- `Was j answer` says of a key j, at a moment (linearization point) of its own, whether the set had
-- it: between two bounds the set had these keys, each of them nearer to the first bound than the
-- next one, and no others
abbrev pub IsRangeBy : Side → (ℕ → Bool → Type 0) → ℕ → ℕ → List ℕ → Type 0
IsRangeBy side Was from to [] = (j : ℕ) → IsKey j → IsIn side from to j → Was j false
IsRangeBy side Was from to (k ∷ ks) = IsIn side from to k × IsKey k × Was k true
    × ((j : ℕ) → IsKey j → IsIn side from (bound side k) j → Was j false)
    × IsRangeBy side Was (beyond side k) to ks

-- the bound up to which a scan has come, by the key at which it continues: the end of its range, if
-- there is none
abbrev pub end_of : Side → ℕ → Option ℕ → ℕ
end_of side to None = to
end_of side to (Some k) = bound side k

-- the number of keys that a scan has written
abbrev pub count_of : Result Scanned CallFault → ℕ
count_of (Ok s) = s.count
count_of (Err e) = 0

-- the largest number of keys that one scan returns
abbrev pub most_keys : ℕ
most_keys = 1024

-- the most looks of one walk of a scan: one, and four for each node (its key, both edges, and the
-- right edge again if the keys of the range part there)
abbrev pub leg_looks : ℕ → ℕ
leg_looks nodes = 1 + nodes * 4

-- ---- how a walk goes over a range

-- `entry_of`, `exit_of`: the bounds at which a scan to that side enters and leaves a stretch
abbrev pub entry_of : Side → Stretch → ℕ
entry_of Left d = d.high
entry_of Right d = d.low

abbrev pub exit_of : Side → Stretch → ℕ
exit_of Left d = d.low
exit_of Right d = d.high

-- the stretch of the keys from one bound to another, which reads the node at this edge first
abbrev pub stretch_over : Side → ℕ → ℕ → Edge → Stretch
stretch_over Left from to first = record { low = to; high = from; next = first; found = 0 }
stretch_over Right from to first = record { low = from; high = to; next = first; found = 0 }

-- in the log from the pin on, a walk has passed an internal node with this key (Natarajan and
-- Mittal, section 3.1)
abbrev pub HasRouter : List Entry → ℕ → Type 0
HasRouter log v = (k slot parent : ℕ) × (side : Side) × (k < infinity_1)
    × WalkPasses k (since_pin [] log) slot parent side v

-- after at least n nodes, a walk for each key of the stretch has reached a known node, which it
-- reads next; or it has none to read, and has ended at a leaf with the key that was found. The
-- stretch is not empty, and a scan to that side leaves it before its range ends. The bound at which
-- it leaves is the end of the range, or the key of an internal node that a walk has passed
pub record IsStretch (side : Side) (end n : ℕ) (p : PassView) (d : Stretch) : Type 0 where
  pub wide : d.low < d.high
  pub top : d.high ≤ infinity_0
  pub stops : Lies side (exit_of side d) end
  pub comes : d.next.slot ≢ 0 → (j : ℕ) → d.low ≤ j → j < d.high → HasPassed n p.view.log j d.next.slot
  pub known : d.next.slot ≢ 0 → Tells p (KnowsSlot d.next.slot)
  pub ends : d.next.slot ≡ 0 → (j : ℕ) → d.low ≤ j → j < d.high → HasEndedSo p j (d.found == j)
  pub parts : (exit_of side d ≡ end) ⊎ HasRouter p.view.log (exit_of side d)

-- a stretch is kept for later, with all others or alone
abbrev pub Keeps : List Stretch → List Stretch → Stretch → Type 0
Keeps old new d = (new ≡ old ++ d ∷ []) ⊎ (new ≡ d ∷ [])

-- of two stretches, the nearer one to that side's beginning is the result, and the other is kept
abbrev pub Chooses : Side → List Stretch → List Stretch → Stretch → Stretch → Stretch → Type 0
Chooses Left old new lower upper result = (result ≡ upper) × Keeps old new lower
Chooses Right old new lower upper result = (result ≡ lower) × Keeps old new upper

-- the key of the leaf at which a walk has ended, if it is one of its stretch
abbrev pub found_in : Stretch → List ℕ
found_in d = if nat_le d.low d.found && nat_lt d.found d.high then d.found ∷ [] else []

-- a walk for k has looked at as many nodes as there are; this cannot occur in a radix tree
abbrev pub IsTooFar : Layout → ℕ → List Entry → Type 0
IsTooFar L k log = (L.radix ≡ false) × (slot n : ℕ) × HasPassed n log k slot × (suc n ≡ L.nodes)

-- ---- why a scan ends early

-- the keys from `low` on and below `high` are those between two internal nodes that walks have
-- passed; and for each of them a walk has ended at a leaf with another key. In a tree of which no
-- node is linked or cut off meanwhile this cannot occur: there is a leaf between two such nodes
pub record HasFoundNone (log : List Entry) : Type 0 where
  pub low : ℕ
  pub high : ℕ
  pub wide : low < high
  pub top : high ≤ infinity_0
  pub lower : HasRouter log low
  pub upper : HasRouter log high
  pub none : (j : ℕ) → low ≤ j → j < high → (leaf parent v : ℕ) × (side : Side)
      × WalkEnds j (since_pin [] log) leaf parent side v × (false ≡ (v == j))

-- a walk has found no key between two internal nodes, or has looked at as many nodes as there are
abbrev pub HasStoppedShort : Layout → List Entry → Type 0
HasStoppedShort L log = HasFoundNone log ⊎ ((k : ℕ) × IsTooFar L k log)

-- looks alone were added, and then a walk had stopped short
abbrev pub StopsShort : Layout → List Entry → List Entry → Type 0
StopsShort L old new = (most : ℕ) × AddsLooks most old new × HasStoppedShort L new

-- a scan has written as many keys as it may into this many places
abbrev pub IsFull : ℕ → ℕ → Type 0
IsFull places count = (count ≡ places) ⊎ (count ≡ most_keys)

-- ---- the whole call

-- the first walk of a scan was broken off, because it had looked at as many nodes as there are; it
-- made no more looks than walks for two keys
abbrev pub GiveUp : Layout → ℕ → List Entry → List Entry → Type 0
GiveUp L from = GiveUpInTurns L (from ∷ from ∷ [])

-- what a scan from `from` on to that side, up to the bound `to`, leaves of its pass, by its answer.
-- It is as for a look-up, but what the keys in `out` say of the range was so at moments
-- (linearization points) of the call. The key at which to continue is one of the range, and it is
-- beyond `from` if there is room for a key. A scan that has two tries ends before its range and its
-- room only after a walk that has stopped short (`early`). After an error `out` is as it was
pub record AfterScan (side : Side) (L : Layout) (tries from to : ℕ) (old out : List ℕ) (p q : PassView)
    (r : Result Scanned CallFault) : Type 0 where
  pub same : IsSamePass p q
  pub past : HasSeenAllOf q p
  pub did : IfOk r (λ s. LooksUnderPin tries ((s.count + tries) * leg_looks (reach L)) p.view.log
      q.view.log)
  pub moment : IfOk r (λ s. IsRangeBy side (WasSo p q) (bound side from) (end_of side to s.next)
      (take s.count out))
  pub count : IfOk r (λ s. (s.count ≤ length out) × (s.count ≤ most_keys))
  pub next : IfOk r (λ s. IfSome s.next (λ k. IsKey k × IsIn side (bound side from) to k
      × (length out ≢ 0 → IsPast side from k)))
  pub early : IfOk r (λ s. IfSome s.next (λ k. IsFull (length out) s.count ⊎ (tries ≤ 1)
      ⊎ GivesUpUnderPin (StopsShort L) tries p.view.log q.view.log))
  pub busy : IfErr r (λ e. e ≡ fault.Busy)
  pub kept : IfErr r (λ e. out ≡ old)
  pub missed : IfErr r (λ e. PlainMissed (GiveUp L from) tries p.view.log q.view.log)
  pub won : HasWon p.view.log q.view.log 0 0
  pub uncut : won_splices q.view.log ≡ won_splices p.view.log
  pub steps : length q.view.log
      ≤ length p.view.log + 3 * tries + (count_of r + tries) * leg_looks (reach L) + 2
  pub rests : IsResting q
  pub hands : KeepsHands p q
