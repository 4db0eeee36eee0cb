-- Inserts: the two new nodes that a call keeps over its tries, and what each part of it leaves in
-- the log, and of the pass.
use Rattle.std.specs.Prelude.{◌≡◌, ◌≢◌, ◌⊎◌, ℕ, zero, suc, ◌<◌, ◌==◌, Bool, true, false, ◌&&◌, ◌||◌, List, [], ◌∷◌, ◌++◌, Option, Some, None, Result, Ok, Err, IfOk}
use Rattle.nm_edge.specs.Edges.{Edge}
use Rattle.nm_edge.specs.Layouts.{Layout}
use Rattle.nm_edge.specs.declared.node.NodeId.{NodeId}
use Rattle.nm_model.specs.declared.event.Event.TheVariants.{SightFor, Leave, LeaveWith}
use Rattle.nm_model.specs.declared.event.Op.TheVariants.{Insert}
use Rattle.nm_model.specs.declared.reply.Reply.{Reply}
use Rattle.nm_model.specs.declared.reply.Reply.TheVariants.{Departed, Linked, Lost}
use Rattle.nm_model.specs.Walks.{Entry}
use Rattle.nm_order.specs.Facts.Since.{ThePin}
use Rattle.nm_edge.specs.declared.placement.Fit.{Fit}
use Rattle.nm_steps.specs.Steps.{PassView, IsSamePass, HasSeenAllOf, IsInRun}
use Rattle.nm_epoch.specs.Resting.{epochs, search, IsResting}
use Rattle.nm_walks.specs.declared.making.NewNodes.{NewNodes}
use Rattle.nm_epoch.specs.Tries.{IsPinnedBy, IsMoved}
use Rattle.nm_calls.specs.declared.fault.CallFault.{CallFault}
use Rattle.nm_calls.specs.declared.fault.CallFault.TheVariants as fault
use Rattle.nm_calls.specs.declared.inserting.Attempt.{Attempt}
use Rattle.nm_calls.specs.declared.inserting.Attempt.TheVariants as attempt
use Rattle.nm_walks.specs.declared.seek_record.ChainEdge.{ChainEdge}
use Rattle.nm_walks.specs.declared.seek_record.WalkEnd.{WalkEnd}
use Rattle.nm_walks.specs.Places.{Stops}
use Rattle.nm_calls.specs.Leaving.{EndedWith}
use Rattle.nm_walks.specs.Cleanups.{CleanupWon, CleanupLost, KeepsLedgers}
use Rattle.nm_calls.specs.Bounds.{IsWithinClaims}
use Rattle.nm_calls.specs.Moments.{AnswerHasMoment}
use Rattle.nm_calls.specs.Won.{HasWon, links_of_insert}
use Rattle.nm_walks.specs.Growing.{ClaimsNewNodes, Grows, HasNewNodes, Returns}

-- ---- one try

-- the edge that a lost exchange found leads to the same leaf, and is marked
abbrev pub asks_help : WalkEnd → Edge → Bool
asks_help r e = (e.slot == r.seek_record.edge.slot) && (e.flag || e.tag)

-- a cleanup with that walk, won or lost, if the edge asks for help; otherwise no step (Natarajan
-- and Mittal, section 3.2, insert)
abbrev pub Helps : WalkEnd → List ChainEdge → Edge → List Entry → List Entry → Type 0
Helps r c e old new = ((asks_help r e ≡ true)
    × (((ns : List NodeId) × (epoch : ℕ) × CleanupWon r.seek_record c ns epoch old new)
    ⊎ CleanupLost r.seek_record c old new)) ⊎ ((asks_help r e ≡ false) × (new ≡ old))

-- the new nodes that were there are taken, or two are claimed
abbrev pub Readies : Fit → ℕ → Option NewNodes → NewNodes → List Entry → List Entry → Type 0
Readies fit nodes None g old new = ClaimsNewNodes fit nodes old new (Some g)
Readies fit nodes (Some f) g old new = (g ≡ f) × (new ≡ old)

-- there are new nodes, the same as before or just claimed; or there were none, and no slots were
-- free for two
abbrev pub IsReadied : Fit → ℕ → Option NewNodes → Option NewNodes → Option NewNodes → List Entry → List Entry
    → Type 0
IsReadied fit nodes f g (Some h) old new = (g ≡ Some h) × Readies fit nodes f h old new
IsReadied fit nodes f g None old new = (f ≡ None) × (g ≡ None) × ClaimsNewNodes fit nodes old new None

-- a walk that ended at a leaf with another key, and a link of two new nodes there, which got this
-- reply
pub record TriesLink (fit : Fit) (L : Layout) (k : ℕ) (f : Option NewNodes) (made : NewNodes) (r : WalkEnd)
    (c : List ChainEdge) (reply : Reply) (old new : List Entry) : Type 0 where
  pub ended : List Entry
  pub walk : Stops L k old ended c (Some r)
  pub other : r.key ≢ k
  pub claimed : List Entry
  pub readies : Readies fit L.nodes f made ended claimed
  pub grows : Grows L.radix k r made reply claimed new

-- a try of an insert of k, by its result, with the new nodes f before it and g after it (Natarajan
-- and Mittal, section 3.2, insert)
abbrev pub IsTry : Fit → Layout → ℕ → Option NewNodes → Option NewNodes → List Entry → List Entry → Attempt
    → Type 0
IsTry fit L k f g old new (attempt.Found leaf) =
    (r : WalkEnd) × (c : List ChainEdge) × Stops L k old new c (Some r) × (r.key ≡ k)
    × (r.seek_record.edge.slot ≡ leaf) × (g ≡ f)
IsTry fit L k f g old new attempt.Linked =
    (made : NewNodes) × (r : WalkEnd) × (c : List ChainEdge)
    × TriesLink fit L k f made r c (Linked made.internal) old new × (g ≡ None)
IsTry fit L k f g old new attempt.Full =
    (r : WalkEnd) × (c : List ChainEdge) × (mid : List Entry) × Stops L k old mid c (Some r)
    × (r.key ≢ k) × (f ≡ None) × (g ≡ None) × ClaimsNewNodes fit L.nodes mid new None
IsTry fit L k f g old new attempt.Lost = ((c : List ChainEdge) × Stops L k old new c None × (g ≡ f))
    ⊎ ((made : NewNodes) × (r : WalkEnd) × (c : List ChainEdge) × (e : Edge) × (mid : List Entry)
    × TriesLink fit L k f made r c (Lost e) old mid × (g ≡ Some made) × Helps r c e mid new)

-- unchanged are the pin, the call with what it swapped and flagged, and the ledgers except for the
-- nodes that were cut off
pub record OnlyTries (p q : PassView) : Type 0 where
  pub announcement : (epochs q).announcement ≡ (epochs p).announcement
  pub pin : (epochs q).pin ≡ (epochs p).pin
  pub labelled : (epochs p).unlabelled ≡ false → (epochs q).unlabelled ≡ false
  pub call : (search q).call ≡ (search p).call
  pub swapped : (search q).swapped ≡ (search p).swapped
  pub flagged : (search q).flagged ≡ (search p).flagged
  pub ledgers : KeepsLedgers p q

-- what the log shows after a try
abbrev pub ShowsTry : ℕ → PassView → PassView → Attempt → Type 0
ShowsTry k p q (attempt.Found leaf) =
    EndedWith q ThePin k leaf k × ((search q).linked ≡ (search p).linked)
ShowsTry k p q attempt.Linked = (search q).linked ≡ true
ShowsTry k p q _ = (search q).linked ≡ (search p).linked

-- ---- the whole call

-- this many tries were lost, one after the other, with the new nodes f after them (Natarajan and
-- Mittal, section 3.2, insert)
abbrev pub LostInserts : Fit → Layout → ℕ → ℕ → Option NewNodes → List Entry → List Entry → Type 0
LostInserts fit L k zero f old new = (f ≡ None) × (new ≡ old)
LostInserts fit L k (suc n) g old new =
    (f : Option NewNodes) × (mid : List Entry) × LostInserts fit L k n f old mid
    × IsTry fit L k f g mid new attempt.Lost

-- fewer than `tries` lost tries, and then one with this result
abbrev pub EndsBy : Fit → Layout → ℕ → ℕ → Option NewNodes → Attempt → List Entry → List Entry → Type 0
EndsBy fit L tries k g a old new =
    (n : ℕ) × (f : Option NewNodes) × (mid : List Entry) × (n < tries)
    × LostInserts fit L k n f old mid × IsTry fit L k f g mid new a

-- an insert from its pin on, by its answer. `NoMemory`: the room of a try after the first was
-- refused, because that of the first one was made before the pin
abbrev pub Finishes : Fit → Layout → ℕ → ℕ → List Entry → List Entry → Result Bool CallFault → Type 0
Finishes fit L tries k old new (Ok true) =
    (mid : List Entry) × EndsBy fit L tries k None attempt.Linked old mid
    × (new ≡ mid ++ (LeaveWith true, Departed) ∷ [])
Finishes fit L tries k old new (Ok false) =
    (f : Option NewNodes) × (mid back : List Entry) × (leaf : ℕ)
    × EndsBy fit L tries k f (attempt.Found leaf) old mid × Returns f mid back
    × (new ≡ back ++ (LeaveWith false, Departed) ∷ [])
Finishes fit L tries k old new (Err fault.Full) =
    (mid : List Entry) × EndsBy fit L tries k None attempt.Full old mid
    × (new ≡ mid ++ (Leave, Departed) ∷ [])
Finishes fit L tries k old new (Err fault.Busy) =
    (f : Option NewNodes) × (mid back : List Entry) × LostInserts fit L k tries f old mid
    × Returns f mid back × (new ≡ back ++ (Leave, Departed) ∷ [])
Finishes fit L tries k old new (Err fault.NoMemory) =
    (n : ℕ) × (f : Option NewNodes) × (mid back : List Entry) × (0 < n) × (n < tries)
    × LostInserts fit L k n f old mid × Returns f mid back
    × (new ≡ back ++ (Leave, Departed) ∷ [])
Finishes fit L tries k old new (Err _) = ⊥

-- a pin for the insert, and then the rest of it
abbrev pub PinsThen : Fit → Layout → ℕ → ℕ → List Entry → List Entry → Result Bool CallFault → Type 0
PinsThen fit L tries k old new r =
    (pinned : List Entry) × (epoch : ℕ) × IsPinnedBy (SightFor Insert k) tries old pinned epoch
    × Finishes fit L tries k pinned new r

-- a whole insert, by its answer. `Busy`: the call had no try, and there was no step; or each try of
-- the pin was lost; or each try of the call was lost. `NoMemory`: the room of the first try was
-- refused, and there was no step; or the room of a later one was refused (Natarajan and Mittal,
-- section 3.2, insert)
abbrev pub InsertDid : Fit → Layout → ℕ → ℕ → List Entry → List Entry → Result Bool CallFault → Type 0
InsertDid fit L tries k old new (Err fault.Busy) =
    ((tries ≡ 0) × (new ≡ old)) ⊎ ((tries ≢ 0) × IsMoved (SightFor Insert k) tries old new)
    ⊎ PinsThen fit L tries k old new (Err fault.Busy)
InsertDid fit L tries k old new (Err fault.NoMemory) =
    ((tries ≢ 0) × (new ≡ old)) ⊎ PinsThen fit L tries k old new (Err fault.NoMemory)
InsertDid fit L tries k old new r = PinsThen fit L tries k old new r

-- what an insert leaves of its pass, by its answer. It is the same pass, which has seen all that it
-- had seen. The record says what was done. An answer was right at a moment (linearization point) of
-- the call. The link that was won is counted, and the log has a bound. If the call made a step, the
-- pass is in a run. The worker rests, with the private slots that it had, and its ledgers are
-- unchanged except for the nodes that it cut off
pub record AfterInsert (fit : Fit) (L : Layout) (tries k : ℕ) (p q : PassView)
    (r : Result Bool CallFault) : Type 0 where
  pub same : IsSamePass p q
  pub past : HasSeenAllOf q p
  pub did : InsertDid fit L tries k p.view.log q.view.log r
  pub moment : IfOk r (AnswerHasMoment p q Insert k)
  pub won : HasWon p.view.log q.view.log (links_of_insert r) 0
  pub steps : IsWithinClaims L tries p.view.log q.view.log
  pub run : (q ≡ p) ⊎ IsInRun q
  pub rests : IsResting q
  pub private : HasNewNodes p q None
  pub ledgers : KeepsLedgers p q
