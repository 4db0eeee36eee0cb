-- Puts: what each part of one leaves in the log and of the pass, and what its answer says.
use Rattle.std.specs.Prelude.{◌≡◌, ◌≢◌, ◌⊎◌, ◌≤◌, ◌<◌, ◌+◌, ◌*◌, ℕ, zero, suc, Bool, true, false, List, [], ◌∷◌, ◌++◌, length, Option, Some, None, Result, Ok, Err}
use Rattle.nm_edge.specs.Edges.{Edge}
use Rattle.nm_edge.specs.Keys.{IsKey}
use Rattle.nm_edge.specs.Layouts.{Layout}
use Rattle.nm_edge.specs.declared.node.NodeId.{NodeId}
use Rattle.nm_edge.specs.declared.placement.Fit.{Fit}
use Rattle.nm_model.specs.declared.event.Event.{Event}
use Rattle.nm_model.specs.declared.event.Event.TheVariants.{Give, Leave, LeaveWith, SightFor}
use Rattle.nm_model.specs.declared.event.Op.TheVariants.{Insert}
use Rattle.nm_model.specs.declared.reply.Reply.TheVariants.{Departed, Linked, Lost, Returned}
use Rattle.nm_model.specs.Walks.{Entry}
use Rattle.nm_order.specs.Facts.Since.{ThePin}
use Rattle.nm_order.specs.Facts.Fact.{CallIs, EndedAt}
use Rattle.nm_steps.specs.Steps.{HasSeen, HasSeenAllOf, IsInRun, IsSamePass, PassView, TakesStep}
use Rattle.nm_pool.specs.Claims.{IsClaimBy}
use Rattle.nm_epoch.specs.Resting.{IsResting, epochs, search}
use Rattle.nm_epoch.specs.Tries.{IsMoved, IsPinnedBy}
use Rattle.nm_walks.specs.declared.making.NewNodes.{NewNodes}
use Rattle.nm_walks.specs.declared.seek_record.ChainEdge.{ChainEdge}
use Rattle.nm_walks.specs.declared.seek_record.WalkEnd.{WalkEnd}
use Rattle.nm_walks.specs.Bounds.{chain_bound, reach}
use Rattle.nm_walks.specs.Cleanups.{KeepsLedgers}
use Rattle.nm_walks.specs.Growing.{ClaimsNewNodes, Grows, HasNewNodes, Returns}
use Rattle.nm_walks.specs.Places.{Stops}
use Rattle.nm_walks.specs.Telling.{GoesOn, Tells}
use Rattle.nm_walks.specs.Walks.{IsAt, Seeks}
use Rattle.nm_calls.specs.declared.fault.CallFault.{CallFault}
use Rattle.nm_calls.specs.declared.fault.CallFault.TheVariants as fault
use Rattle.nm_calls.specs.Inserts.{Helps}
use Rattle.nm_calls.specs.Leaving.{EndedWith, HasChangedNothing, IsItsAnswer}
use Rattle.nm_calls.specs.Maps.{HasInserted, HasPut, HasReadFound, HasReadValue, MapGave, answered}
use Rattle.nm_calls.specs.Moments.{AnswerHasMoment}
use Rattle.nm_calls.specs.PlainWalks.{HasEndedSo}
use Rattle.nm_calls.specs.Won.{HasWon}
use Rattle.nm_puts.specs.declared.putting.Attempt.{Attempt}
use Rattle.nm_puts.specs.declared.putting.Attempt.TheVariants as attempt
use Rattle.nm_puts.specs.declared.putting.Condition.{Condition}
use Rattle.nm_puts.specs.declared.putting.Condition.TheVariants as condition
use Rattle.nm_puts.specs.declared.putting.PutOutcome.{PutOutcome}
use Rattle.nm_puts.specs.declared.putting.PutOutcome.TheVariants as put
use Rattle.nm_puts.specs.Replaced.{HasReplaced}
use Rattle.nm_puts.specs.Swaps.{Swaps, SwapsOut}

-- ---- one try

-- the walk of a put: one that may insert the key stops where an insert does, and any other at a leaf
abbrev pub WalksFor : Condition → Layout → ℕ → List Entry → List Entry → List ChainEdge → Option WalkEnd
    → Type 0
WalksFor condition.Always = Stops
WalksFor _ = Seeks

-- a new leaf is given back
abbrev pub GivesBack : NodeId → List Entry → List Entry → Type 0
GivesBack n old new = new ≡ old ++ (Give n.slot, Returned n.slot) ∷ []

-- a try at a leaf with the key, by its result: one new leaf was claimed, and a swap of it for the leaf
-- was won; or no slot was free; or the swap was lost, the new leaf was given back, and the try helped
-- if the edge that was found asks for help
abbrev pub ReplacesAt : Fit → Layout → ℕ → WalkEnd → List ChainEdge → List Entry → List Entry → Attempt
    → Type 0
ReplacesAt fit L k r c old new (attempt.Done (put.Replaced value)) =
    (n : NodeId) × (b epoch : ℕ) × (claimed : List Entry) × IsClaimBy fit L.nodes old claimed (Some n)
    × SwapsOut k r n b epoch claimed new
ReplacesAt fit L k r c old new attempt.Full = IsClaimBy fit L.nodes old new None
ReplacesAt fit L k r c old new attempt.Lost =
    (n : NodeId) × (b : ℕ) × (e : Edge) × (claimed lost back : List Entry)
    × IsClaimBy fit L.nodes old claimed (Some n) × Swaps k r n b (Lost e) claimed lost
    × GivesBack n lost back × Helps r c e back new
ReplacesAt fit L k r c old new _ = ⊥

-- a try at a place for the key, by its result: two new nodes were claimed, and a link of them was won;
-- or too few slots were free; or the link was lost, both nodes were given back, and the try helped if
-- the edge that was found asks for help
abbrev pub InsertsAt : Fit → Layout → ℕ → WalkEnd → List ChainEdge → List Entry → List Entry → Attempt
    → Type 0
InsertsAt fit L k r c old new (attempt.Done put.Inserted) =
    (made : NewNodes) × (claimed : List Entry) × ClaimsNewNodes fit L.nodes old claimed (Some made)
    × Grows L.radix k r made (Linked made.internal) claimed new
InsertsAt fit L k r c old new attempt.Full = ClaimsNewNodes fit L.nodes old new None
InsertsAt fit L k r c old new attempt.Lost =
    (made : NewNodes) × (e : Edge) × (claimed lost back : List Entry)
    × ClaimsNewNodes fit L.nodes old claimed (Some made) × Grows L.radix k r made (Lost e) claimed lost
    × Returns (Some made) lost back × Helps r c e back new
InsertsAt fit L k r c old new _ = ⊥

-- another value is expected than the one that the try returns
abbrev pub IsOther : Condition → Attempt → Type 0
IsOther when a = (expected found : ℕ) × (when ≡ condition.IfItIs expected) × (found ≢ expected)
    × (a ≡ attempt.Done (put.Other found))

-- what a try does where its walk has ended, by the key there and by the condition. The last two of
-- these four make no step
abbrev pub TriesAt : Fit → Layout → Condition → ℕ → WalkEnd → List ChainEdge → List Entry → List Entry
    → Attempt → Type 0
TriesAt fit L when k r c old new a = ((r.key ≡ k) × ReplacesAt fit L k r c old new a)
    ⊎ ((r.key ≢ k) × (when ≡ condition.Always) × InsertsAt fit L k r c old new a)
    ⊎ ((r.key ≡ k) × IsOther when a × (new ≡ old))
    ⊎ ((r.key ≢ k) × (when ≢ condition.Always) × (a ≡ attempt.Done put.Absent) × (new ≡ old))

-- a try of a put, by its result: its walk was broken off at a bound, or it ended, and this followed
abbrev pub IsPutTry : Fit → Layout → Condition → ℕ → List Entry → List Entry → Attempt → Type 0
IsPutTry fit L when k old new a =
    ((a ≡ attempt.Lost) × ((c : List ChainEdge) × WalksFor when L k old new c None))
    ⊎ ((r : WalkEnd) × (c : List ChainEdge) × (ended : List Entry) × (length c < chain_bound)
    × WalksFor when L k old ended c (Some r) × TriesAt fit L when k r c ended new a)

-- a walk of a call to insert the key has ended at a leaf with the key, with this chain. The call has
-- neither linked nor swapped yet
pub record MayReplace (p : PassView) (k : ℕ) (r : WalkEnd) (c : List ChainEdge) : Type 0 where
  pub is_key : IsKey k
  pub call : Tells p (CallIs Insert k)
  pub unlinked : (search p).linked ≡ false
  pub unswapped : (search p).swapped ≡ false
  pub at : IsAt (Tells p) r.seek_record c
  pub few : length c < chain_bound
  pub ended : Tells p (EndedAt ThePin k r.seek_record.edge.slot r.seek_record.parent r.seek_record.side k)

-- unchanged are the pin, the call and what it flagged, and the ledgers except for the nodes that were
-- cut off
pub record OnlyPuts (p q : PassView) : Type 0 where
  pub announcement : (epochs q).announcement ≡ (epochs p).announcement
  pub pin : (epochs q).pin ≡ (epochs p).pin
  pub labelled : (epochs p).unlabelled ≡ false → (epochs q).unlabelled ≡ false
  pub call : (search q).call ≡ (search p).call
  pub flagged : (search q).flagged ≡ (search p).flagged
  pub ledgers : KeepsLedgers p q

-- the call has neither linked nor swapped since p
pub record HasPutNothing (p q : PassView) : Type 0 where
  pub linked : (search q).linked ≡ (search p).linked
  pub swapped : (search q).swapped ≡ (search p).swapped

-- what the log shows after a try
abbrev pub ShowsPut : ℕ → PassView → PassView → PutOutcome → Type 0
ShowsPut k p q put.Inserted = (search q).linked ≡ true
ShowsPut k p q (put.Replaced value) =
    ((leaf : ℕ) × EndedWith q ThePin k leaf k) × ((search q).linked ≡ (search p).linked)
ShowsPut k p q (put.Other value) =
    ((leaf : ℕ) × EndedWith q ThePin k leaf k) × ((search q).linked ≡ (search p).linked)
ShowsPut k p q put.Absent = HasPutNothing p q

abbrev pub ShowsTry : ℕ → PassView → PassView → Attempt → Type 0
ShowsTry k p q (attempt.Done put) = ShowsPut k p q put
ShowsTry k p q _ = HasPutNothing p q

-- the value that was replaced is the expected one, if one is expected
abbrev pub IsExpected : Condition → ℕ → Type 0
IsExpected when old = (expected : ℕ) → when ≡ condition.IfItIs expected → old ≡ expected

-- what a try has found and done in the map: it inserted the key with the value; or it replaced a value
-- of the key; or the leaf with the key has the value that it returns; or its walk ended at a leaf with
-- another key
abbrev pub TryDoes : Condition → ℕ → ℕ → PassView → PassView → Attempt → Type 0
TryDoes when k v p q (attempt.Done put.Inserted) = HasInserted [] q k v × HasPut p q k v
TryDoes when k v p q (attempt.Done (put.Replaced old)) = HasReplaced p q k old v × IsExpected when old
TryDoes when k v p q (attempt.Done (put.Other found)) = HasReadValue q k found
TryDoes when k v p q (attempt.Done put.Absent) = HasEndedSo q k false
TryDoes when k v p q _ = Unit {0}

-- if the try has replaced a value, this holds of it
abbrev pub IfReplaced : Attempt → (ℕ → Type 0) → Type 0
IfReplaced (attempt.Done (put.Replaced old)) P = P old
IfReplaced _ P = Unit {0}

-- ---- the end of the call

-- the event by which a put leaves its pin
abbrev pub leave_of : PutOutcome → Event
leave_of put.Inserted = LeaveWith true
leave_of (put.Replaced value) = LeaveWith false
leave_of (put.Other value) = LeaveWith false
leave_of put.Absent = Leave

-- if the put leaves with an answer, this holds of the answer
abbrev pub IfAnswered : PutOutcome → (Bool → Type 0) → Type 0
IfAnswered put.Inserted P = P true
IfAnswered (put.Replaced value) P = P false
IfAnswered (put.Other value) P = P false
IfAnswered put.Absent P = Unit {0}

-- the log shows the answer with which the put leaves; without one, it shows that nothing was changed
abbrev pub MayEndWith : PassView → PutOutcome → Type 0
MayEndWith p put.Inserted = IsItsAnswer p true
MayEndWith p (put.Replaced value) = IsItsAnswer p false
MayEndWith p (put.Other value) = IsItsAnswer p false
MayEndWith p put.Absent = HasChangedNothing p

-- ---- the map

-- after p a walk of the call for k has ended under the same pin at a leaf with another key, and the
-- next step was a leave
pub record HasMissed (p q : PassView) (k : ℕ) : Type 0 where
  pub at : PassView
  pub since : GoesOn p at
  pub is_key : IsKey k
  pub seen : HasSeen at.view
  pub ended : HasEndedSo at k false
  pub leaves : TakesStep at q Leave Departed

-- what a put says of the map, from its pin on. It inserted the key with the value; or it replaced
-- the value that it returns, which is the expected one if one is expected; or it found the key with
-- the value that it returns; or it found the key absent
abbrev pub Does : Condition → ℕ → ℕ → PassView → PassView → PutOutcome → Type 0
Does when k v p q put.Inserted = HasInserted (answered true) q k v × HasPut p q k v
Does when k v p q (put.Replaced old) = HasReplaced p q k old v × IsExpected when old
Does when k v p q (put.Other found) = HasReadFound p q k found
Does when k v p q put.Absent = HasMissed p q k

-- the same of the whole call, in the words of a map alone. What it found was so at a moment
-- (linearization point) of the call
abbrev pub Did : Condition → ℕ → ℕ → PassView → PassView → PutOutcome → Type 0
Did when k v p q put.Inserted = HasInserted (answered true) q k v × HasPut p q k v
Did when k v p q (put.Replaced old) = HasReplaced p q k old v × IsExpected when old
Did when k v p q (put.Other found) = MapGave p q k (Some found)
Did when k v p q put.Absent = MapGave p q k None

-- ---- the whole call

-- this many tries were lost, one after the other
abbrev pub LostPuts : Fit → Layout → Condition → ℕ → ℕ → List Entry → List Entry → Type 0
LostPuts fit L when k zero old new = new ≡ old
LostPuts fit L when k (suc n) old new =
    (mid : List Entry) × LostPuts fit L when k n old mid
    × IsPutTry fit L when k mid new attempt.Lost

-- fewer than `tries` lost tries, and then one with this result
abbrev pub EndsBy : Fit → Layout → ℕ → Condition → ℕ → Attempt → List Entry → List Entry → Type 0
EndsBy fit L tries when k a old new =
    (n : ℕ) × (mid : List Entry) × (n < tries)
    × LostPuts fit L when k n old mid × IsPutTry fit L when k mid new a

-- a put from its pin on, by its result. `NoMemory`: the room of a try after the first was refused,
-- because that of the first one was made before the pin
abbrev pub Finishes : Fit → Layout → ℕ → Condition → ℕ → List Entry → List Entry → Result PutOutcome CallFault
    → Type 0
Finishes fit L tries when k old new (Ok p) =
    (mid : List Entry) × EndsBy fit L tries when k (attempt.Done p) old mid
    × (new ≡ mid ++ (leave_of p, Departed) ∷ [])
Finishes fit L tries when k old new (Err fault.Full) =
    (mid : List Entry) × EndsBy fit L tries when k attempt.Full old mid
    × (new ≡ mid ++ (Leave, Departed) ∷ [])
Finishes fit L tries when k old new (Err fault.Busy) =
    (mid : List Entry) × LostPuts fit L when k tries old mid × (new ≡ mid ++ (Leave, Departed) ∷ [])
Finishes fit L tries when k old new (Err fault.NoMemory) =
    (n : ℕ) × (mid : List Entry) × (0 < n) × (n < tries) × LostPuts fit L when k n old mid
    × (new ≡ mid ++ (Leave, Departed) ∷ [])
Finishes fit L tries when k old new (Err _) = ⊥

-- a pin for an insert, and then the rest of it
abbrev pub PinsThen : Fit → Layout → ℕ → Condition → ℕ → List Entry → List Entry → Result PutOutcome CallFault
    → Type 0
PinsThen fit L tries when k old new r =
    (pinned : List Entry) × (epoch : ℕ) × IsPinnedBy (SightFor Insert k) tries old pinned epoch
    × Finishes fit L tries when k pinned new r

-- a whole put, by its result. `Busy`: the call had no try, and there was no step; or each try of the
-- pin was lost; or each try of the call was lost. `NoMemory`: the room of the first try was refused,
-- and there was no step; or the room of a later one was refused
abbrev pub PutDid : Fit → Layout → ℕ → Condition → ℕ → List Entry → List Entry → Result PutOutcome CallFault
    → Type 0
PutDid fit L tries when k old new (Err fault.Busy) =
    ((tries ≡ 0) × (new ≡ old)) ⊎ ((tries ≢ 0) × IsMoved (SightFor Insert k) tries old new)
    ⊎ PinsThen fit L tries when k old new (Err fault.Busy)
PutDid fit L tries when k old new (Err fault.NoMemory) =
    ((tries ≢ 0) × (new ≡ old)) ⊎ PinsThen fit L tries when k old new (Err fault.NoMemory)
PutDid fit L tries when k old new r = PinsThen fit L tries when k old new r

-- the links that a put has won, by its result: one if it inserted, else none
abbrev pub links_of : Result PutOutcome CallFault → ℕ
links_of (Ok put.Inserted) = 1
links_of _ = 0

-- the bound of a put in steps: a walk, two claims and a cleanup in each of `tries` tries, and ten more
abbrev pub IsWithinPuts : Layout → ℕ → List Entry → List Entry → Type 0
IsWithinPuts L tries old new =
    length new ≤ length old + tries * (4 * reach L + 6 * L.nodes + 8 * chain_bound) + 10

-- if there is a result, this holds of it, or of its answer if it leaves with one
abbrev pub IfDone : Result PutOutcome CallFault → (PutOutcome → Type 0) → Type 0
IfDone (Ok p) P = P p
IfDone (Err e) P = Unit {0}

-- what a put leaves of its pass, by its result. It is the same pass, which has seen all that it had
-- seen. The record says what was done. What it found, and its answer, were right at a moment
-- (linearization point) of the call. The link that was won is counted, and the log has a bound. If the
-- call made a step, the pass is in a run. The worker rests, with the private slots that it had, and its
-- ledgers are unchanged except for the nodes that it cut off
pub record AfterPut (fit : Fit) (L : Layout) (tries : ℕ) (when : Condition) (k v : ℕ) (p q : PassView)
    (r : Result PutOutcome CallFault) : Type 0 where
  pub same : IsSamePass p q
  pub past : HasSeenAllOf q p
  pub did : PutDid fit L tries when k p.view.log q.view.log r
  pub map : IfDone r (Did when k v p q)
  pub moment : IfDone r (λ put. IfAnswered put (λ answer. AnswerHasMoment p q Insert k answer))
  pub won : HasWon p.view.log q.view.log (links_of r) 0
  pub steps : IsWithinPuts L tries p.view.log q.view.log
  pub run : (q ≡ p) ⊎ IsInRun q
  pub rests : IsResting q
  pub private : HasNewNodes p q None
  pub ledgers : KeepsLedgers p q
