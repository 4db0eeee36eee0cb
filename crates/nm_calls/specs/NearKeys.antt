-- The key nearest to a given one on one side, in a set that others change.
use Rattle.std.specs.Prelude.{◌≡◌, ◌≢◌, ◌⊎◌, ◌<◌, ◌≤◌, ◌+◌, ◌*◌, ℕ, zero, suc, Bool, true, false, List, ◌++◌, Option, Some, None, length, Result, IfOk, IfErr}
use Rattle.nm_edge.specs.Keys.{IsKey}
use Rattle.nm_edge.specs.Layouts.{Layout}
use Rattle.nm_edge.specs.declared.edge.Side.{Side}
use Rattle.nm_edge.specs.declared.edge.Side.TheVariants.{Left, Right}
use Rattle.nm_model.specs.Memory.{infinity_0}
use Rattle.nm_model.specs.Walks.{Entry}
use Rattle.nm_order.specs.Facts.Fact.{KnowsSlot}
use Rattle.nm_steps.specs.Steps.{PassView, IsSamePass, HasSeenAllOf}
use Rattle.nm_epoch.specs.Resting.{IsResting, KeepsHands}
use Rattle.nm_calls.specs.declared.fault.CallFault.{CallFault}
use Rattle.nm_calls.specs.declared.fault.CallFault.TheVariants as fault
use Rattle.nm_walks.specs.declared.looking.Onward.{Onward}
use Rattle.nm_calls.specs.declared.near_key.KeysWalk.{KeysWalk}
use Rattle.nm_walks.specs.declared.seek_record.ChainEdge.{ChainEdge}
use Rattle.nm_walks.specs.declared.seek_record.SeekRecord.{SeekRecord}
use Rattle.nm_walks.specs.Bounds.{reach}
use Rattle.nm_calls.specs.PlainWalks.{WasSo, LooksUnderPin, PlainMissed, most_looks}
use Rattle.nm_walks.specs.Telling.{Tells}
use Rattle.nm_walks.specs.Walks.{Walks, Reads, EndsAtLeaf, IsTooLong}
use Rattle.nm_walks.specs.WonCounts.{won_splices}
use Rattle.nm_calls.specs.Won.{HasWon}

-- b is a, or is on that side of it
abbrev pub Lies : Side → ℕ → ℕ → Type 0
Lies Left a b = b ≤ a
Lies Right a b = a ≤ b

-- b is on that side of a
abbrev pub IsPast : Side → ℕ → ℕ → Type 0
IsPast Left a b = b < a
IsPast Right a b = a < b

-- the set had this key, which is `key` or on that side of it, and no key between them; or it had no
-- key from `key` on to that side; `Was j answer` says whether it had key j, at a moment
-- (linearization point) of its own
abbrev pub IsNearBy : Side → (ℕ → Bool → Type 0) → ℕ → Option ℕ → Type 0
IsNearBy side Was key (Some found) = Lies side key found × IsKey found × Was found true
    × ((j : ℕ) → Lies side key j → IsPast side j found → Was j false)
IsNearBy side Was key None = (j : ℕ) → Lies side key j → IsKey j → Was j false

-- so it was by the run that q has seen; each moment is later than all that p had seen
abbrev pub WasNear : Side → PassView → PassView → ℕ → Option ℕ → Type 0
WasNear side p q = IsNearBy side (WasSo p q)

-- ---- what such walks leave in the log

-- a walk for k passed an internal node with this key (Natarajan and Mittal, section 3.1)
abbrev pub ComesBy : ℕ → ℕ → List Entry → List Entry → Type 0
ComesBy k router old new = (n : ℕ) × (mid at rest : List Entry) × (s : SeekRecord) × (c : List ChainEdge)
    × (on : Onward) × Walks k n old mid s c × Reads k s.edge.slot mid at on × (on.next.slot ≢ 0)
    × (on.found ≡ router) × (new ≡ at ++ rest)

-- one walk that serves each key from `from` on and below `to`: for each of them the leaf at its end
-- has another key, and the walk passed an internal node with the key `router` (Natarajan and
-- Mittal, section 3.2)
abbrev pub HasNone : Layout → ℕ → ℕ → ℕ → List Entry → List Entry → Type 0
HasNone L from to router old new = (from < to) × ((j : ℕ) → from ≤ j → j < to
    → (s : SeekRecord) × (c : List ChainEdge) × (found : ℕ) × EndsAtLeaf L j old new s c found
    × (found ≢ j)) × ((j : ℕ) → from ≤ j → j < to → ComesBy j router old new)

-- the bound from which the keys `key` and on to that side are counted: those below it (`Left`), or
-- those that are not (`Right`)
abbrev pub bound : Side → ℕ → ℕ
bound Left key = key + 1
bound Right key = key

-- one walk that serves the keys between two bounds, and goes from the first to the second; the
-- second is the key of an internal node that it passed
abbrev pub HasNoneTo : Side → Layout → ℕ → ℕ → List Entry → List Entry → Type 0
HasNoneTo Left L from to = HasNone L to from to
HasNoneTo Right L from to = HasNone L from to to

-- n such walks, one after the other, which serve the keys from `key` on to the bound `to`: each
-- begins at the end of the previous one's keys
abbrev pub HaveNone : Side → Layout → ℕ → ℕ → ℕ → List Entry → List Entry → Type 0
HaveNone side L zero key to old new = (to ≡ bound side key) × (new ≡ old)
HaveNone side L (suc n) key to old new = (mid : List Entry) × (from : ℕ)
    × HaveNone side L n key from old mid × HasNoneTo side L from to mid new

-- `tries` such walks were made, and keys from `next` on are left; or fewer, and then one that was
-- broken off because it had looked at as many nodes as a walk may
abbrev pub GiveUp : Side → Layout → ℕ → ℕ → List Entry → List Entry → Type 0
GiveUp side L tries key old new = (next : ℕ) × IsKey key × IsKey next
    × (HaveNone side L tries key (bound side next) old new
    ⊎ ((n : ℕ) × (mid : List Entry) × (n < tries) × HaveNone side L n key (bound side next) old mid
    × IsTooLong L next mid new))

-- ---- how a walk proceeds that serves many keys

-- after n nodes, a walk for each key from `low` on and below `high` has reached a known node, which
-- it reads next; or it has none to read, and has ended at `leaf` with the key that was found. Each
-- of both bounds is the key of an internal node that it passed, or is its first one; or `low` is
-- the key of its leaf
pub record IsDescent (L : Layout) (n : ℕ) (o p : PassView) (d : KeysWalk) : Type 0 where
  pub least : d.low ≤ d.from
  pub most : d.from < d.high
  pub top : d.high ≤ infinity_0
  pub walks : d.node ≢ 0 → (s : SeekRecord) × (c : List ChainEdge) × (s.edge.slot ≡ d.node)
      × ((j : ℕ) → d.low ≤ j → j < d.high → Walks j n o.view.log p.view.log s c)
  pub known : d.node ≢ 0 → Tells p (KnowsSlot d.node)
  pub ends : d.node ≡ 0 → (j : ℕ) → d.low ≤ j → j < d.high
      → (s : SeekRecord) × (c : List ChainEdge) × EndsAtLeaf L j o.view.log p.view.log s c d.found
      × (s.edge.slot ≡ d.leaf)
  pub above : d.high ≢ infinity_0 → (j : ℕ) → d.low ≤ j → j < d.high
      → ComesBy j d.high o.view.log p.view.log
  pub below : d.low ≢ 0 → ((d.node ≡ 0) × (d.found ≡ d.low))
      ⊎ ((j : ℕ) → d.low ≤ j → j < d.high → ComesBy j d.low o.view.log p.view.log)

-- the walk after it has read its node, with these bounds
abbrev pub read_on : KeysWalk → ℕ → ℕ → Onward → KeysWalk
read_on d low high on = record {
  from = d.from;
  low = low;
  high = high;
  node = on.next.slot;
  leaf = d.node;
  found = on.found;
}

-- the keys from `from` on to that side that the walk serves
abbrev pub Serves : Side → KeysWalk → ℕ → Type 0
Serves Left d j = (d.low ≤ j) × (j ≤ d.from)
Serves Right d j = (d.from ≤ j) × (j < d.high)

-- their bound on that side, and the last one that a walk may have
abbrev pub border : Side → KeysWalk → ℕ
border Left d = d.low
border Right d = d.high

abbrev pub last_border : Side → ℕ
last_border Left = 0
last_border Right = infinity_0

-- ---- the whole call

-- what a call for the key nearest to k on that side leaves of its pass, by its answer. It is as for
-- a look-up, but what the answer says of keys was so at moments (linearization points) of the call
pub record AfterNear (side : Side) (L : Layout) (tries k : ℕ) (p q : PassView)
    (r : Result (Option ℕ) CallFault) : Type 0 where
  pub same : IsSamePass p q
  pub past : HasSeenAllOf q p
  pub did : IfOk r (λ f. LooksUnderPin tries (tries * most_looks (reach L) 1) p.view.log q.view.log)
  pub moment : IfOk r (WasNear side p q k)
  pub busy : IfErr r (λ e. e ≡ fault.Busy)
  pub missed : IfErr r (λ e. PlainMissed (GiveUp side L tries k) tries p.view.log q.view.log)
  pub won : HasWon p.view.log q.view.log 0 0
  pub uncut : won_splices q.view.log ≡ won_splices p.view.log
  pub steps : length q.view.log ≤ length p.view.log + 3 * tries + tries * most_looks (reach L) 1 + 2
  pub rests : IsResting q
  pub hands : KeepsHands p q
