-- A map: what was stored under a key and when, and what a call for the value of a key leaves.
use Rattle.std.specs.Prelude.{◌≡◌, ◌≢◌, ◌+◌, ◌*◌, ◌≤◌, ◌<◌, ℕ, nat_lt, Bool, true, false, List, [], ◌∷◌, ◌++◌, length, filter, All, AllPairs, Option, Some, None, Result, IfOk, IfErr, IfSome}
use Rattle.nm_edge.specs.Keys.{IsKey}
use Rattle.nm_edge.specs.Layouts.{Layout}
use Rattle.nm_edge.specs.declared.edge.Side.{Side}
use Rattle.nm_edge.specs.declared.node.NodeId.{NodeId}
use Rattle.nm_model.specs.declared.event.Event.TheVariants.{Flag, LeaveWith, Link, Swap}
use Rattle.nm_model.specs.declared.event.Op.TheVariants.{Delete, Insert}
use Rattle.nm_model.specs.declared.reply.Reply.TheVariants.{Cut, Departed, Flagged, Linked}
use Rattle.nm_model.specs.declared.trace.Turn.{Turn}
use Rattle.nm_model.specs.Headline.{HasLeft, IsPinned, has_after, words_after}
use Rattle.nm_model.specs.Histories.{call_begun}
use Rattle.nm_model.specs.Memory.{child, infinity_0, is_leaf, named, node, opening}
use Rattle.nm_model.specs.Paths.{Reached}
use Rattle.nm_model.specs.Walks.{Entry, WalkEnds, since_pin}
use Rattle.nm_steps.specs.declared.view.Stored.{Stored}
use Rattle.nm_order.specs.Logs.{part_of}
use Rattle.nm_steps.specs.Rules.{ComesBefore, Extends, ExtendsStores, IsStored, answered_turn, value_of}
use Rattle.nm_steps.specs.Steps.{Continues, HasSeenAllOf, IsSamePass, PassView, TakesStep}
use Rattle.nm_steps.specs.Values.{HasSeenStores}
use Rattle.nm_epoch.specs.Resting.{IsResting, KeepsHands, search}
use Rattle.nm_walks.specs.AddedLooks.{AddsLooks}
use Rattle.nm_walks.specs.Bounds.{reach}
use Rattle.nm_walks.specs.Making.{fills}
use Rattle.nm_walks.specs.Telling.{GoesOn, OnlyLooks}
use Rattle.nm_walks.specs.WonCounts.{won_splices}
use Rattle.nm_calls.specs.declared.fault.CallFault.{CallFault}
use Rattle.nm_calls.specs.declared.fault.CallFault.TheVariants as fault
use Rattle.nm_calls.specs.declared.values.Leaf.{Leaf}
use Rattle.nm_calls.specs.InTurns.{GiveUp}
use Rattle.nm_calls.specs.PlainWalks.{HasEndedSo, LooksUnderPin, PlainMissed, after_entries, most_looks}
use Rattle.nm_calls.specs.Won.{HasWon}

-- ---- what a map has

-- the value of a slot after n turns: the one that was stored last for it before that moment
abbrev pub value_at : ℕ → List Stored → ℕ → ℕ
value_at n stores s = value_of (filter (λ (x : Stored). nat_lt x.at n) stores) s

-- after these turns the map has the key with this value: a leaf with the key is reached, and the
-- slot of that leaf has the value
pub record IsInMap (L : Layout) (turns : List Turn) (stores : List Stored) (k v : ℕ) : Type 0 where
  pub slot : ℕ
  pub reached : Reached (words_after L turns) slot
  pub leaf : is_leaf (node (words_after L turns) slot) ≡ true
  pub has_key : (node (words_after L turns) slot).key ≡ k
  pub has_value : value_at (length turns) stores slot ≡ v

-- a plain map, given by what it has under a key, gives this answer to a look-up of the key
abbrev pub MapGives : (ℕ → Type 0) → Option ℕ → Type 0
MapGives has (Some v) = has v
MapGives has None = (v : ℕ) → has v → ⊥

-- when the value was stored, the slot was in the hands of the worker that stored it
pub record WasInHands (L : Layout) (turns : List Turn) (x : Stored) : Type 0 where
  pub before : List Turn
  pub since : List Turn
  pub are : turns ≡ before ++ since
  pub at : length before ≡ x.at
  pub own : length (part_of x.worker before) ≡ x.own
  pub held : has_after (opening L) x.worker x.slot false before ≡ true

-- each worker that won a link had stored a value for the new leaf after its last step before the
-- link. The new leaf is the child of the new internal node beside the node that was there
abbrev pub LinkedLeavesHaveValues : Layout → List Turn → List Stored → Type 0
LinkedLeavesHaveValues L turns stores =
    (before since : List Turn) (w p : ℕ) (side s : Side) (old new : ℕ) (n : NodeId)
    → turns ≡ before ++ answered_turn w (Link p side old new) (Linked n) ∷ since
    → child (words_after L before) new s ≢ old
    → IsStored stores w (length (part_of w before)) (child (words_after L before) new s)

-- each worker that won a swap had stored a value for the new leaf after its last step before the swap
abbrev pub SwappedLeavesHaveValues : List Turn → List Stored → Type 0
SwappedLeavesHaveValues turns stores =
    (before since : List Turn) (w p : ℕ) (side : Side) (old new : ℕ) (ns : List NodeId)
    → turns ≡ before ++ answered_turn w (Swap p side old new) (Cut ns) ∷ since
    → IsStored stores w (length (part_of w before)) new

-- the stores were made up to a moment (`until`) between the turns `was` and the turns `now`. They
-- are in their order, and each was made in a slot that was in its worker's hands. They have the
-- store of each leaf that was linked or swapped in up to that moment
pub record HoldsStores (L : Layout) (was now : List Turn) (stores : List Stored) : Type 0 where
  pub until : List Turn
  pub from : Extends until was
  pub ends : Extends now until
  pub held : All (WasInHands L until) stores
  pub linked : LinkedLeavesHaveValues L until stores
  pub swapped : SwappedLeavesHaveValues until stores
  pub order : AllPairs ComesBefore stores

-- at a moment after the turns `was`, at which the worker was pinned, a plain map of the reached
-- leaves and their values gives this answer to a look-up of the key (O'Hearn and others). A value
-- is by stores that have the store of each leaf that was linked before that moment (`stored`)
pub record WasMapped (L : Layout) (was now : List Turn) (stores : List Stored) (w k : ℕ)
    (answer : Option ℕ) : Type 0 where
  pub so_far : List Turn
  pub rest : List Turn
  pub are : now ≡ so_far ++ rest
  pub later : length was < length so_far
  pub pinned : IsPinned w so_far
  pub gives : MapGives (IsInMap L so_far stores k) answer
  pub stored : IfSome answer (λ v. HoldsStores L so_far now stores)

-- the same at a moment since which the worker is pinned without a break
pub record WasMappedUnderPin (L : Layout) (was now : List Turn) (stores : List Stored) (w k : ℕ)
    (answer : Option ℕ) : Type 0 where
  pub so_far : List Turn
  pub rest : List Turn
  pub are : now ≡ so_far ++ rest
  pub later : length was < length so_far
  pub pinned : IsPinned w so_far
  pub stays : HasLeft w rest → ⊥
  pub gives : MapGives (IsInMap L so_far stores k) answer
  pub stored : IfSome answer (λ v. HoldsStores L so_far now stores)

-- the turn is a link that the worker won
pub record IsWonLinkOf (w : ℕ) (link : Turn) : Type 0 where
  pub parent : ℕ
  pub side : Side
  pub old : ℕ
  pub new : ℕ
  pub node : NodeId
  pub is : link ≡ answered_turn w (Link parent side old new) (Linked node)

-- the worker put the key into the map with this value: its call to insert the key won a link after
-- the turns `was`, and right after the link the map has the key with the value. It stored a value
-- for the leaf after its last step before the link
pub record WasPut (L : Layout) (was now : List Turn) (stores : List Stored) (w k v : ℕ) : Type 0 where
  pub so_far : List Turn
  pub link : Turn
  pub rest : List Turn
  pub are : now ≡ (so_far ++ link ∷ []) ++ rest
  pub later : length was ≤ length so_far
  pub pin : ℕ
  pub call : call_begun w so_far ≡ Some (record { pin = pin; op = Insert; key = k })
  pub won : IsWonLinkOf w link
  pub is : IsInMap L (so_far ++ link ∷ []) stores k v
  pub stored : IsStored stores w (length (part_of w so_far)) is.slot

-- from what p had seen to what q has seen, the worker put the key into the map with this value
abbrev pub HasPut : PassView → PassView → ℕ → ℕ → Type 0
HasPut p q k v =
    WasPut q.view.layout p.view.past q.view.past q.view.stores q.view.number k v

-- the turn is the flag of this leaf, which the worker won
pub record IsWonFlagOf (w : ℕ) (leaf : NodeId) (flag : Turn) : Type 0 where
  pub parent : ℕ
  pub side : Side
  pub is : flag ≡ answered_turn w (Flag parent side leaf.slot) (Flagged leaf)

-- the worker took the key with this value: its call to delete the key, which began after the turns
-- `was`, won the flag of a leaf. Right before the flag the map had the key with the value in this
-- leaf, which is its slot with its birth. It had it by the first of these stores
pub record WasTaken (L : Layout) (was now : List Turn) (stores : List Stored) (w k v : ℕ) : Type 0 where
  pub so_far : List Turn
  pub flag : Turn
  pub rest : List Turn
  pub are : now ≡ so_far ++ flag ∷ rest
  pub pin : ℕ
  pub later : length was ≤ pin
  pub call : call_begun w so_far ≡ Some (record { pin = pin; op = Delete; key = k })
  pub first : List Stored
  pub extends : ExtendsStores stores first
  pub is : IsInMap L so_far first k v
  pub stored : HoldsStores L so_far now first
  pub won : IsWonFlagOf w (named (words_after L so_far) is.slot) flag

-- from what p had seen to what q has seen, the worker has so taken the key with this value
abbrev pub HasTaken : PassView → PassView → ℕ → ℕ → Type 0
HasTaken p q k v =
    WasTaken q.view.layout p.view.past q.view.past q.view.stores q.view.number k v

-- between p and q the map gave this answer to a look-up of the key
abbrev pub MapGave : PassView → PassView → ℕ → Option ℕ → Type 0
MapGave p q k answer =
    WasMapped q.view.layout p.view.past q.view.past q.view.stores q.view.number k answer

-- between p and q the map gave this answer to a look-up of the key, under the pin that q has
abbrev pub MapGaveUnderPin : PassView → PassView → ℕ → Option ℕ → Type 0
MapGaveUnderPin p q k answer =
    WasMappedUnderPin q.view.layout p.view.past q.view.past q.view.stores q.view.number k answer

-- the step by which a call leaves with an answer
abbrev pub answered : Bool → List Entry
answered answer = (LeaveWith answer, Departed) ∷ []

-- the worker filled a slot as a leaf with the key, stored this value in it as its last store, and
-- linked it by its next step. After that it took the steps `rest`
pub record HasInserted (rest : List Entry) (q : PassView) (k v : ℕ) : Type 0 where
  pub before : List Entry
  pub slot : ℕ
  pub parent : ℕ
  pub side : Side
  pub old : ℕ
  pub new : ℕ
  pub node : NodeId
  pub log : q.view.log
      ≡ (before ++ fills slot k 0 0) ++ (Link parent side old new, Linked node) ∷ rest
  pub earlier : List Stored
  pub at : ℕ
  pub stores : q.view.stores ≡ earlier ++ record {
    at = at;
    worker = q.view.number;
    own = length (before ++ fills slot k 0 0);
    slot = slot;
    value = v;
  } ∷ []
  pub early : at < length q.view.past

-- ---- what a look-up leaves

-- a walk for the key has ended at this leaf in the log from the pin on, and its looks came after the
-- first n entries of the log. If its key is below the sentinels, its slot is above 5 (Natarajan and
-- Mittal, section 3.2)
pub record IsLeafAt (n : ℕ) (p : PassView) (k : ℕ) (leaf : Leaf) : Type 0 where
  pub parent : ℕ
  pub side : Side
  pub walk : WalkEnds k (since_pin [] (after_entries n p).view.log) leaf.slot parent side leaf.key
  pub high : leaf.key < infinity_0 → 6 ≤ leaf.slot
  pub within : leaf.slot ≤ p.view.layout.nodes

-- a walk for the key has ended at a leaf with the key, whose value was read after it
pub record HasReadValue (p : PassView) (k v : ℕ) : Type 0 where
  pub slot : ℕ
  pub parent : ℕ
  pub side : Side
  pub walk : WalkEnds k (since_pin [] p.view.log) slot parent side k
  pub high : 6 ≤ slot
  pub within : slot ≤ p.view.layout.nodes
  pub seen : HasSeenStores p.view
  pub value : v ≡ value_of p.view.stores slot

-- and the looks of the walk came after the first n entries of the log
pub record HasReadLater (n : ℕ) (p : PassView) (k v : ℕ) : Type 0 where
  pub read : HasReadValue p k v
  pub walk : WalkEnds k (since_pin [] (after_entries n p).view.log) read.slot read.parent read.side k

-- the worker has seen that the slot has this value, by all the stores that it has seen
abbrev pub HasSeenValue : PassView → ℕ → ℕ → Type 0
HasSeenValue p slot v = HasSeenStores p.view × (v ≡ value_of p.view.stores slot)

-- after p the worker has read the value of the leaf that its call to delete the key had flagged
pub record HasReadFlagged (p q : PassView) (k v : ℕ) : Type 0 where
  pub at : PassView
  pub since : Continues p at
  pub until : Continues at q
  pub is_key : IsKey k
  pub leaf : NodeId
  pub call : (search at).call ≡ Some (record { op = Delete; key = k })
  pub flagged : (search at).flagged ≡ Some leaf
  pub high : 6 ≤ leaf.slot
  pub within : leaf.slot ≤ at.view.layout.nodes
  pub seen : HasSeenStores at.view
  pub value : v ≡ value_of at.view.stores leaf.slot

-- after p a walk of an insert has ended at a leaf with the key, and its value was read under the
-- same pin. The next step was the leave with the answer that the key was there
pub record HasReadFound (p q : PassView) (k v : ℕ) : Type 0 where
  pub at : PassView
  pub since : GoesOn p at
  pub is_key : IsKey k
  pub read : HasReadValue at k v
  pub leaves : TakesStep at q (LeaveWith false) Departed

-- a walk has ended with this answer, and its looks came after the first n entries of the log
abbrev pub HasLookedUp : ℕ → PassView → ℕ → Option ℕ → Type 0
HasLookedUp n p k None = HasEndedSo (after_entries n p) k false
HasLookedUp n p k (Some v) = HasReadLater n p k v

-- what a look-up of a value leaves of its pass, by its answer. It is the same pass, which has seen
-- all turns and stores that it had seen. An answer was right at a moment (linearization point) of
-- the call. No exchange was won. The worker rests, and holds what it held
pub record AfterGet (L : Layout) (tries k : ℕ) (p q : PassView) (r : Result (Option ℕ) CallFault) : Type 0 where
  pub same : IsSamePass p q
  pub past : HasSeenAllOf q p
  pub stores : ExtendsStores q.view.stores p.view.stores
  pub did : IfOk r
      (λ found. LooksUnderPin tries (most_looks (reach L) 1) p.view.log q.view.log)
  pub moment : IfOk r (MapGave p q k)
  pub busy : IfErr r (λ e. e ≡ fault.Busy)
  pub missed : IfErr r
      (λ e. PlainMissed (GiveUp L (k ∷ [])) tries p.view.log q.view.log)
  pub won : HasWon p.view.log q.view.log 0 0
  pub steps : length q.view.log ≤ length p.view.log + 3 * tries + most_looks (reach L) 1 + 2
  pub uncut : won_splices q.view.log ≡ won_splices p.view.log
  pub rests : IsResting q
  pub hands : KeepsHands p q

-- what a look-up of a value by a pinned worker leaves of its pass, by its answer: looks alone. An
-- answer was right at a moment (linearization point) of the call
pub record AfterPinnedGet (L : Layout) (k : ℕ) (p q : PassView) (r : Result (Option ℕ) CallFault) : Type 0 where
  pub on : GoesOn p q
  pub only : OnlyLooks p q
  pub looks : AddsLooks (most_looks (reach L) 1) p.view.log q.view.log
  pub moment : IfOk r (MapGaveUnderPin p q k)
  pub busy : IfErr r (λ e. e ≡ fault.Busy)
  pub missed : IfErr r (λ e. GiveUp L (k ∷ []) p.view.log q.view.log)
