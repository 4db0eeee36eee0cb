-- The theorem, on one page. It speaks only of the words of the tree at each moment and of the turns
-- that were made. A turn (transition) is an event of a worker with its outcome. The words at a
-- moment are those of the empty tree, changed by the turns so far as their replies say.
use Rattle.std.specs.Prelude.{◌≡◌, ◌↔◌, ◌⊎◌, ℕ, ◌+◌, ◌<◌, ◌≤◌, ◌==◌, Bool, true, false, not, ◌&&◌, ◌||◌, List, [], ◌∷◌, ◌++◌, map, filter, slice_get, slice_set, Contains, Option, Some, None, option_map, Result, Ok, if◌then◌else◌}
use Rattle.std.specs.List.{list_any}
use Rattle.nm_edge.specs.Edges.{to, tagged, untagged, other}
use Rattle.nm_edge.specs.Layouts.{Layout}
use Rattle.nm_edge.specs.declared.edge.Side.{Side}
use Rattle.nm_edge.specs.declared.edge.Side.TheVariants.{Left, Right}
use Rattle.nm_edge.specs.declared.node.NodeId.{NodeId}
use Rattle.nm_model.specs.declared.event.Field.{Field}
use Rattle.nm_model.specs.declared.event.Event.{Event}
use Rattle.nm_model.specs.declared.event.Event.TheVariants.{Sight, SightFor, Announce, Leave, LeaveWith, Scan, Advance, Claim, Give, Look, Fill, Link, Flag, Tag, Splice, Swap}
use Rattle.nm_model.specs.declared.event.Field.TheVariants.{Key, Edge as EdgeOn, Birth}
use Rattle.nm_model.specs.declared.reply.Reply.{Reply}
use Rattle.nm_model.specs.declared.reply.Reply.TheVariants.{Saw, Labelled, Pinned, Missed, Announced, Departed, Idle, In, Moved, Behind, Claimed, Taken, Returned, Freed, KeyIs, BirthIs, EdgeIs, Filled, Linked, Flagged, Was, Cut, Lost}
use Rattle.nm_model.specs.declared.reply.Refused.{Refused}
use Rattle.nm_model.specs.declared.trace.Turn.{Turn}
use Rattle.nm_model.specs.Memory.{is_leaf, Memory, node, edge, announcement, child, named, in_pool, put_node, put_edge, opening}
use Rattle.nm_model.specs.Paths.{at, Reached, IsCut}

-- ---- the words

-- the words after an event with its outcome: one word is written, or none; if it was refused, none
abbrev pub written : Memory → ℕ → Event → Result Reply Refused → Memory
written m w Announce (Ok (Announced e)) = record m { announcements = slice_set m.announcements w (Some e) }
written m w Leave (Ok Departed) = record m { announcements = slice_set m.announcements w None }
written m w (LeaveWith answer) (Ok Departed) = record m { announcements = slice_set m.announcements w None }
written m w Advance (Ok (Moved e)) = record m { epoch = e }
written m w (Claim s) (Ok (Claimed t)) = record m { pool = slice_set m.pool s false }
written m w (Give s) (Ok (Returned t)) = record m { pool = slice_set m.pool s true }
written m w (Give s) (Ok (Freed n)) = record m { pool = slice_set m.pool s true }
written m w (Fill s Key v) (Ok Filled) = put_node m s (record (node m s) { key = v })
written m w (Fill s (EdgeOn side) v) (Ok Filled) = put_edge m s side (to v)
written m w (Fill s Birth v) (Ok Filled) = put_node m s (record (node m s) { birth = v })
written m w (Link p side leaf new) (Ok (Linked n)) = put_edge m p side (to new)
written m w (Flag p side leaf) (Ok (Flagged n)) = put_edge m p side (record { slot = leaf; flag = true; tag = false })
written m w (Tag p side) (Ok (Was e)) = put_edge m p side (tagged e)
written m w (Splice a side s p keep) (Ok (Cut ns)) = put_edge m a side (untagged (edge m p keep))
written m w (Swap p side leaf new) (Ok (Cut ns)) = put_edge m p side (to new)
written m w _ _ = m

-- `after_turn`, `words_from`: the words after a turn; the words after these turns, from given words
-- on
abbrev pub after_turn : Memory → Turn → Memory
after_turn m t = written m t.worker t.event t.outcome

abbrev pub words_from : Memory → List Turn → Memory
words_from m [] = m
words_from m (t ∷ ts) = words_from (after_turn m t) ts

-- the words after these turns, from the empty tree on
abbrev pub words_after : Layout → List Turn → Memory
words_after L turns = words_from (opening L) turns

-- ---- reads

-- the reply to a sight (epoch read) names the epoch in memory. If it confirms a pin, the worker
-- announces that epoch, and if it fails to, the worker does not (Fraser, section 5.2.3)
abbrev pub TellsTheEpoch : Memory → ℕ → Reply → Type 0
TellsTheEpoch m w (Saw e) = e ≡ m.epoch
TellsTheEpoch m w (Labelled e) = e ≡ m.epoch
TellsTheEpoch m w (Pinned e) = (e ≡ m.epoch) × (announcement m w ≡ Some e)
TellsTheEpoch m w (Missed e) = (e ≡ m.epoch) × (announcement m w ≡ Some e → ⊥)
TellsTheEpoch m w _ = ⊥

-- the reply to a look is the word in memory, that to a scan is the announcement, and that to a
-- sight names the epoch. A won advance moves the epoch on by one, and a lost one returns it. A claim
-- is won exactly if the slot is in the pool. A lost exchange, and a tag, return the edge in memory.
-- A won link or flag has found the unmarked edge that it names, and returns the node named with the
-- birth in memory. A birth that is stored is one more than the one before it
abbrev pub TellsWhatStands : Memory → ℕ → Event → Reply → Type 0
TellsWhatStands m w Sight r = TellsTheEpoch m w r
TellsWhatStands m w (SightFor op key) r = TellsTheEpoch m w r
TellsWhatStands m w (Scan u) r = (r ≡ Idle) × (announcement m u ≡ None) ⊎ (e : ℕ) × (r ≡ In e)
    × (announcement m u ≡ Some e)
TellsWhatStands m w Advance (Moved e) = e ≡ m.epoch + 1
TellsWhatStands m w Advance (Behind e) = e ≡ m.epoch
TellsWhatStands m w (Claim s) (Claimed t) = (t ≡ s) × (in_pool m s ≡ true)
TellsWhatStands m w (Claim s) Taken = in_pool m s ≡ false
TellsWhatStands m w (Give s) (Returned t) = t ≡ s
TellsWhatStands m w (Look s Key) r = r ≡ KeyIs (node m s).key
TellsWhatStands m w (Look s (EdgeOn side)) r = r ≡ EdgeIs (edge m s side)
TellsWhatStands m w (Look s Birth) r = r ≡ BirthIs (node m s).birth
TellsWhatStands m w (Fill s Birth v) r = v ≡ (node m s).birth + 1
TellsWhatStands m w (Link p side leaf new) (Linked n) = (edge m p side ≡ to leaf) × (n ≡ named m new)
TellsWhatStands m w (Link p side leaf new) (Lost e) = e ≡ edge m p side
TellsWhatStands m w (Flag p side leaf) (Flagged n) = (edge m p side ≡ to leaf) × (n ≡ named m leaf)
TellsWhatStands m w (Flag p side leaf) (Lost e) = e ≡ edge m p side
TellsWhatStands m w (Tag p side) (Was e) = e ≡ edge m p side
TellsWhatStands m w (Splice a side s p keep) (Lost e) = e ≡ edge m a side
TellsWhatStands m w (Swap p side leaf new) (Lost e) = e ≡ edge m p side
TellsWhatStands m w _ r = Unit {0}

-- ---- cuts

-- `nodes_cut_of`, `nodes_freed_of`: the nodes that a turn's reply names as cut, and the one that it
-- names as freed (Natarajan and Mittal, section 3.2, cleanup)
abbrev pub nodes_cut_of : Result Reply Refused → List NodeId
nodes_cut_of (Ok (Cut ns)) = ns
nodes_cut_of _ = []

abbrev pub nodes_freed_of : Result Reply Refused → List NodeId
nodes_freed_of (Ok (Freed n)) = n ∷ []
nodes_freed_of _ = []

-- a node's edge on a side is tagged, and the one beside it is flagged and leads to the leaf
-- (Natarajan and Mittal, section 3.2, cleanup; for whole chains ours)
abbrev pub IsFrozenOver : Memory → ℕ → Side → ℕ → Type 0
IsFrozenOver m x side leaf = ((edge m x side).tag ≡ true) × ((edge m x (other side)).flag ≡ true)
    × (child m x (other side) ≡ leaf)

-- a chain from a slot down to a parent: each internal node is followed by its flagged leaf, and
-- then by the node to which its tagged edge leads. The last internal node is the parent, and its
-- tagged edge is the one to keep (Natarajan and Mittal, section 3.2, cleanup; for whole chains
-- ours)
abbrev pub IsFrozenChainTo : Memory → ℕ → Side → ℕ → List ℕ → Type 0
IsFrozenChainTo m parent keep s (x ∷ leaf ∷ []) = (x ≡ s) × (x ≡ parent) × IsFrozenOver m x keep leaf
IsFrozenChainTo m parent keep s (x ∷ leaf ∷ y ∷ rest) = (x ≡ s) × (side : Side) × IsFrozenOver m x side leaf
    × IsFrozenChainTo m parent keep (child m x side) (y ∷ rest)
IsFrozenChainTo m parent keep s _ = ⊥

-- the slots of these nodes (Natarajan and Mittal, section 3.2, cleanup)
abbrev pub slots_of : List NodeId → List ℕ
slots_of ns = map (λ n. n.slot) ns

-- the nodes that a won splice names as cut are a chain from its successor down to its parent, each
-- with the birth in its word
pub record IsWonSplice (m : Memory) (e : Event) (ns : List NodeId) : Type 0 where
  pub ancestor : ℕ
  pub side : Side
  pub successor : ℕ
  pub parent : ℕ
  pub keep : Side
  pub is_splice : e ≡ Splice ancestor side successor parent keep
  pub led : edge m ancestor side ≡ to successor
  pub chain : IsFrozenChainTo m parent keep successor (slots_of ns)
  pub births : ns ≡ map (named m) (slots_of ns)

-- a won swap names the leaf to which the edge led, with its birth
pub record IsWonSwap (m : Memory) (e : Event) (ns : List NodeId) : Type 0 where
  pub parent : ℕ
  pub side : Side
  pub old : ℕ
  pub new : ℕ
  pub is_swap : e ≡ Swap parent side old new
  pub led : edge m parent side ≡ to old
  pub leaf : is_leaf (node m old) ≡ true
  pub nodes : ns ≡ named m old ∷ []

-- from one moment to the next exactly these nodes were cut off: paths from the root reached them
-- before, and none does after (Natarajan and Mittal, section 3.2, cleanup)
abbrev pub CutsJust : Memory → List NodeId → Memory → Type 0
CutsJust before ns after = (x : ℕ) → IsCut before after x ↔ Contains (slots_of ns) x

-- a turn cuts exactly the nodes that its reply names as cut, and only the reply of a won splice
-- or swap names any (Natarajan and Mittal, section 3.2, cleanup)
pub record CutsItsNodes (m : Memory) (t : Turn) : Type 0 where
  pub just : CutsJust m (nodes_cut_of t.outcome) (after_turn m t)
  pub splices : (ns : List NodeId) → t.outcome ≡ Ok (Cut ns) → IsWonSplice m t.event ns ⊎ IsWonSwap m t.event ns

-- ---- what becomes of them

-- the nodes that a worker cut, in the order of its cuts
abbrev pub cuts_of : ℕ → List Turn → List NodeId
cuts_of w [] = []
cuts_of w (t ∷ ts) = (if t.worker == w then nodes_cut_of t.outcome else []) ++ cuts_of w ts

-- the nodes that were freed, by any worker, in the order of the turns
abbrev pub freed_by : List Turn → List NodeId
freed_by [] = []
freed_by (t ∷ ts) = nodes_freed_of t.outcome ++ freed_by ts

-- a node (a slot with its birth) is one of these
abbrev pub is_among : List NodeId → NodeId → Bool
is_among ns n = list_any (λ m. (n.slot == m.slot) && (n.birth == m.birth)) ns

-- `freed_of`, `waits_of`: those of a worker's cuts that were freed, in the order of the frees; and
-- those that wait, in the order of the cuts
abbrev pub freed_of : ℕ → List Turn → List NodeId
freed_of w turns = filter (is_among (cuts_of w turns)) (freed_by turns)

abbrev pub waits_of : ℕ → List Turn → List NodeId
waits_of w turns = filter (λ n. not (is_among (freed_by turns) n)) (cuts_of w turns)

-- for each worker, its freed nodes followed by those that wait are its cuts, in their order. Only
-- nodes that were cut are freed, and no node (a slot with its birth) is cut twice
pub record AreFreedInTurn (turns : List Turn) : Type 0 where
  pub queues : (w : ℕ) → freed_of w turns ++ waits_of w turns ≡ cuts_of w turns
  pub only : (n : NodeId) → Contains (freed_by turns) n → (w : ℕ) × Contains (cuts_of w turns) n
  pub once : (w v i j : ℕ) (n : NodeId) → slice_get (cuts_of w turns) i ≡ Some n
      → slice_get (cuts_of v turns) j ≡ Some n → (w ≡ v) × (i ≡ j)

-- ---- grace

-- a sight (epoch read), for a call or for none, that was answered `pinned`
abbrev pub confirms : Event → Result Reply Refused → Bool
confirms Sight (Ok (Pinned e)) = true
confirms (SightFor op key) (Ok (Pinned e)) = true
confirms _ _ = false

-- a leave (unpin), with an answer or without
abbrev pub departs : Event → Result Reply Refused → Bool
departs Leave (Ok Departed) = true
departs (LeaveWith answer) (Ok Departed) = true
departs _ _ = false

-- a turn by which the worker leaves
abbrev pub leaves : ℕ → Turn → Bool
leaves w t = (t.worker == w) && departs t.event t.outcome

-- a worker has left in these turns (Fraser, section 5.2.3)
abbrev pub HasLeft : ℕ → List Turn → Type 0
HasLeft w turns = list_any (leaves w) turns ≡ true

-- after these turns a worker is pinned: it has confirmed a pin, and has not left after that
-- (Fraser, section 5.2.3)
pub record IsPinned (w : ℕ) (turns : List Turn) : Type 0 where
  pub before : List Turn
  pub sight : Turn
  pub since : List Turn
  pub are : turns ≡ before ++ sight ∷ since
  pub own : sight.worker ≡ w
  pub pins : confirms sight.event sight.outcome ≡ true
  pub stays : HasLeft w since → ⊥

-- while a worker is pinned at an epoch, the epoch in memory is that one or the next (Fraser, section
-- 5.2.3)
abbrev pub EpochStaysNear : Layout → List Turn → Type 0
EpochStaysNear L turns = (w e : ℕ) (pin : IsPinned w turns) → pin.sight.outcome ≡ Ok (Pinned e)
    → ((words_after L turns).epoch ≡ e) ⊎ ((words_after L turns).epoch ≡ e + 1)

-- if a node is cut by one turn and freed by a later one, each worker that was pinned at the cut,
-- including the remover, has left between the two (Fraser, section 5.2.3)
abbrev pub Grace : List Turn → Type 0
Grace turns = (before between rest : List Turn) (cut free : Turn) (n : NodeId)
    → turns ≡ before ++ cut ∷ (between ++ free ∷ rest)
    → Contains (nodes_cut_of cut.outcome) n → Contains (nodes_freed_of free.outcome) n
    → (w : ℕ) → IsPinned w before → HasLeft w between

-- ---- places

-- by a won claim a worker takes a slot into its hands
abbrev pub takes : Event → Result Reply Refused → ℕ → Bool
takes (Claim s) (Ok (Claimed t)) x = x == s
takes _ _ x = false

-- a worker lets go of a slot if it gives the slot back, or links or swaps it in. A won link lets go
-- of the new node, and of both slots to which the new node's edges lead: the new leaf is one of them
abbrev pub lets_go : Memory → Event → Result Reply Refused → ℕ → Bool
lets_go m (Give s) (Ok (Returned t)) x = x == s
lets_go m (Link p side leaf new) (Ok (Linked n)) x = (x == new) || ((x == child m new Left) || (x == child m new Right))
lets_go m (Swap p side leaf new) (Ok (Cut ns)) x = x == new
lets_go m _ _ x = false

-- whether a worker has a slot in its hands after these turns, by the words and by whether it had
-- the slot before them
abbrev pub has_after : Memory → ℕ → ℕ → Bool → List Turn → Bool
has_after m w x had [] = had
has_after m w x had (t ∷ ts) = has_after (after_turn m t) w x
    (if t.worker == w then takes t.event t.outcome x || (had && not (lets_go m t.event t.outcome x)) else had) ts

-- the places of a slot: in the pool, in a worker's hands, at the end of a path from the root, or at
-- an index of those of a worker's cuts that wait
pub data Place : Type 0 where
  InPool : Place
  InHands : ℕ → Place
  OnPath : List Side → Place
  Waits : ℕ → ℕ → Place

-- after these turns the slot is in that place
abbrev pub StandsAt : Layout → List Turn → ℕ → Place → Type 0
StandsAt L turns x InPool = in_pool (words_after L turns) x ≡ true
StandsAt L turns x (InHands w) = has_after (opening L) w x false turns ≡ true
StandsAt L turns x (OnPath path) = at (words_after L turns) path ≡ x
StandsAt L turns x (Waits w i) = option_map (λ (n : NodeId). n.slot) (slice_get (waits_of w turns) i) ≡ Some x

-- the slot is in exactly one place
pub record OnePlace (L : Layout) (turns : List Turn) (x : ℕ) : Type 0 where
  pub place : Place
  pub here : StandsAt L turns x place
  pub only : (there : Place) → StandsAt L turns x there → there ≡ place

-- only the worker that has a slot in its hands stores in the slot's fields
abbrev pub OnlyHoldersStore : Layout → List Turn → Type 0
OnlyHoldersStore L turns = (before rest : List Turn) (t : Turn) (s v : ℕ) (f : Field) → turns ≡ before ++ t ∷ rest
    → t.event ≡ Fill s f v → t.outcome ≡ Ok Filled
    → has_after (opening L) t.worker s false before ≡ true

-- a slot that a path from the root reaches has a greater birth than each node in that slot that was
-- cut (the birth is the node's generation)
abbrev pub WhatIsReachedIsYounger : Layout → List Turn → Type 0
WhatIsReachedIsYounger L turns = (w : ℕ) (n : NodeId) → Contains (cuts_of w turns) n
    → Reached (words_after L turns) n.slot → n.birth < (node (words_after L turns) n.slot).birth

-- ---- what workers touch

-- the slots with a word that an event reads or exchanges, and the nodes that a link, a flag, a
-- splice or a swap names
abbrev pub touched : Event → List ℕ
touched (Look s f) = s ∷ []
touched (Link p side leaf new) = p ∷ leaf ∷ new ∷ []
touched (Flag p side leaf) = p ∷ leaf ∷ []
touched (Tag p side) = p ∷ []
touched (Splice a side s p keep) = a ∷ s ∷ p ∷ []
touched (Swap p side leaf new) = p ∷ leaf ∷ new ∷ []
touched _ = []

-- the node whose edge a reply returns, and the slot to which this edge leads. It is the edge that
-- was looked at or tagged, or the one that an exchange found in place of the expected one. After a
-- won link or swap it is the edge to the new node
abbrev pub edge_told : Event → Result Reply Refused → Option (ℕ × ℕ)
edge_told (Look s (EdgeOn side)) (Ok (EdgeIs e)) = Some (s, e.slot)
edge_told (Link p side leaf new) (Ok (Linked n)) = Some (p, new)
edge_told (Link p side leaf new) (Ok (Lost e)) = Some (p, e.slot)
edge_told (Flag p side leaf) (Ok (Lost e)) = Some (p, e.slot)
edge_told (Tag p side) (Ok (Was e)) = Some (p, e.slot)
edge_told (Splice a side s p keep) (Ok (Lost e)) = Some (a, e.slot)
edge_told (Swap p side leaf new) (Ok (Cut ns)) = Some (p, new)
edge_told (Swap p side leaf new) (Ok (Lost e)) = Some (p, e.slot)
edge_told _ _ = None

-- a worker has learned of a slot, and has not left after that: it was pinned, and a reply returned
-- an edge to that slot, of a node that was not in its hands
pub record WasTold (L : Layout) (w x : ℕ) (turns : List Turn) : Type 0 where
  pub before : List Turn
  pub told : Turn
  pub since : List Turn
  pub are : turns ≡ before ++ told ∷ since
  pub own : told.worker ≡ w
  pub pinned : IsPinned w before
  pub from : ℕ
  pub edge : edge_told told.event told.outcome ≡ Some (from, x)
  pub free : has_after (opening L) w from false before ≡ false
  pub stays : HasLeft w since → ⊥

-- a worker touches a slot other than 1 and 2, which it does not have in its hands, only after it
-- has learned of the slot under its present pin. Each walk begins with slots 1 and 2
abbrev pub OnlyWhatWasToldIsTouched : Layout → List Turn → Type 0
OnlyWhatWasToldIsTouched L turns = (before rest : List Turn) (t : Turn) (r : Reply) (x : ℕ)
    → turns ≡ before ++ t ∷ rest → t.outcome ≡ Ok r → Contains (touched t.event) x → 3 ≤ x
    → has_after (opening L) t.worker x false before ≡ false → WasTold L t.worker x before

-- a slot is neither in the pool nor in a worker's hands, and has the birth that it had
pub record IsStill (L : Layout) (was now : List Turn) (x : ℕ) : Type 0 where
  pub pooled : in_pool (words_after L now) x ≡ false
  pub in_hands : (w : ℕ) → has_after (opening L) w x false now ≡ false
  pub birth : (node (words_after L now) x).birth ≡ (node (words_after L was) x).birth

-- until a worker leaves, a slot that it has learned of is the same node as then, and neither in the
-- pool nor in a worker's hands
abbrev pub WhatWasToldStays : Layout → List Turn → Type 0
WhatWasToldStays L turns = (w x : ℕ) (o : WasTold L w x turns) → IsStill L o.before turns x

-- ---- the theorem, for the turns of a run from the empty tree on

-- the theorem, for the turns of a run
pub record Headline (L : Layout) (turns : List Turn) : Type 0 where
  -- what is read is what the turns have written
  pub reads : (before rest : List Turn) (t : Turn) (r : Reply) → turns ≡ before ++ t ∷ rest → t.outcome ≡ Ok r
      → TellsWhatStands (words_after L before) t.worker t.event r
  -- each turn cuts exactly the nodes that its reply names as cut
  pub cuts : (before rest : List Turn) (t : Turn) → turns ≡ before ++ t ∷ rest → CutsItsNodes (words_after L before) t
  -- at each moment each worker's freed nodes followed by those that wait are its cuts, in their
  -- order, and no node is cut twice
  pub queues : (so_far rest : List Turn) → turns ≡ so_far ++ rest → AreFreedInTurn so_far
  -- at each moment the epoch is that of each pin, or the next one
  pub near : (so_far rest : List Turn) → turns ≡ so_far ++ rest → EpochStaysNear L so_far
  -- no node is freed before each worker that was pinned at its cut has left
  pub grace : Grace turns
  -- a worker touches only slots that it has learned of under its pin, apart from slots 1 and 2 and
  -- those in its hands
  pub told : OnlyWhatWasToldIsTouched L turns
  -- at each moment such a slot is the same node as when the worker learned of it, until the worker
  -- leaves
  pub stays : (so_far rest : List Turn) → turns ≡ so_far ++ rest → WhatWasToldStays L so_far
  -- at each moment the five fixed slots are neither in the pool nor in a worker's hands, and have
  -- the births that they had at first
  pub fixed : (so_far rest : List Turn) → turns ≡ so_far ++ rest → (x : ℕ) → x ≤ 5 → IsStill L [] so_far x
  -- only the worker that has a slot in its hands stores in the slot's fields
  pub stores : OnlyHoldersStore L turns
  -- at each moment a slot in the tree has a greater birth than each node in it that was cut
  pub younger : (so_far rest : List Turn) → turns ≡ so_far ++ rest → WhatIsReachedIsYounger L so_far
  -- at each moment each slot above the five fixed ones is in exactly one place
  pub places : (so_far rest : List Turn) → turns ≡ so_far ++ rest → (x : ℕ) → 6 ≤ x → x ≤ L.nodes → OnePlace L so_far x
