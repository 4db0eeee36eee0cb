-- Deletes: what each part of them leaves in the log, and of the pass.
use Rattle.std.specs.Prelude.{◌≡◌, ◌≢◌, ◌⊎◌, ℕ, zero, suc, ◌+◌, ◌<◌, List, [], ◌∷◌, ◌++◌, ◌≤◌, length, false, true, Bool, Some, None, Result, Ok, Err}
use Rattle.nm_edge.specs.Layouts.{Layout}
use Rattle.nm_edge.specs.Edges.{Edge}
use Rattle.nm_edge.specs.declared.node.NodeId.{NodeId}
use Rattle.nm_model.specs.declared.event.Event.TheVariants.{SightFor, Leave, LeaveWith, Look, Flag}
use Rattle.nm_model.specs.declared.event.Field.TheVariants.{Birth}
use Rattle.nm_model.specs.declared.event.Op.TheVariants.{Delete}
use Rattle.nm_model.specs.declared.reply.Reply.{Reply}
use Rattle.nm_model.specs.declared.reply.Reply.TheVariants.{Departed, BirthIs, Flagged, Lost}
use Rattle.nm_model.specs.Walks.{Entry}
use Rattle.nm_order.specs.Facts.Since.{ThePin}
use Rattle.nm_order.specs.Facts.Fact.{KnowsSlot, KnowsLeaf, IsFlagged, IsBorn, CallIs, EndedAt}
use Rattle.nm_steps.specs.Rules.{knowledge}
use Rattle.nm_steps.specs.Steps.{PassView, IsSamePass, HasSeenAllOf}
use Rattle.nm_epoch.specs.Resting.{IsResting, epochs, search}
use Rattle.nm_epoch.specs.Tries.{IsPinnedBy, IsMoved}
use Rattle.nm_calls.specs.declared.deleting.FlaggedLeaf.{FlaggedLeaf}
use Rattle.nm_calls.specs.declared.deleting.Injected.{Injected}
use Rattle.nm_calls.specs.declared.deleting.Injected.TheVariants as injected
use Rattle.nm_calls.specs.declared.deleting.Injection.{Injection}
use Rattle.nm_calls.specs.declared.deleting.Injection.TheVariants as injection
use Rattle.nm_calls.specs.declared.deleting.Deletion.{Deletion}
use Rattle.nm_calls.specs.declared.deleting.Deletion.TheVariants as deletion
use Rattle.nm_calls.specs.declared.fault.CallFault.{CallFault}
use Rattle.nm_calls.specs.declared.fault.CallFault.TheVariants as fault
use Rattle.nm_calls.specs.declared.deleting.Removal.{Removal}
use Rattle.nm_calls.specs.declared.deleting.Removal.TheVariants as removal
use Rattle.nm_walks.specs.declared.seek_record.ChainEdge.{ChainEdge}
use Rattle.nm_walks.specs.declared.seek_record.WalkEnd.{WalkEnd}
use Rattle.nm_walks.specs.Bounds.{chain_bound, cut_bound}
use Rattle.nm_calls.specs.Bounds.{IsWithinBound}
use Rattle.nm_walks.specs.Telling.{Tells, IsInRun, IsPinnedSomewhere}
use Rattle.nm_walks.specs.Walks.{Seeks, IsBroken, IsAt}
use Rattle.nm_calls.specs.Leaving.{ShowsAnswer}
use Rattle.nm_walks.specs.Cleanups.{CleanupWon, CleanupLost, IsOneOfNodes, KeepsLedgers}
use Rattle.nm_calls.specs.Inserts.{Helps}
use Rattle.nm_calls.specs.Moments.{AnswerHasMoment, HadNoCall}
use Rattle.nm_calls.specs.Won.{HasWon, flags_of_delete}

-- ---- a try to flag

-- a walk that ended at a leaf with key k, a look at the leaf's generation (birth), and a flag of
-- the edge that led there, which got this reply
pub record TriesFlag (L : Layout) (k : ℕ) (r : WalkEnd) (c : List ChainEdge) (birth : ℕ) (reply : Reply)
    (old new : List Entry) : Type 0 where
  pub ended : List Entry
  pub walk : Seeks L k old ended c (Some r)
  pub same : r.key ≡ k
  pub entries : new ≡ (ended ++ (Look r.seek_record.edge.slot Birth, BirthIs birth) ∷ [])
      ++ (Flag r.seek_record.parent r.seek_record.side r.seek_record.edge.slot, reply) ∷ []

abbrev pub leaf_of : WalkEnd → ℕ → NodeId
leaf_of r b = record { slot = r.seek_record.edge.slot; birth = b }

-- one try to flag, by its result, with the chain of the walk (Natarajan and Mittal, section 3.2,
-- delete)
abbrev pub IsFlagTry : Layout → ℕ → List ChainEdge → List Entry → List Entry → Injected → Type 0
IsFlagTry L k c old new injected.Absent =
    (r : WalkEnd) × Seeks L k old new c (Some r) × (r.key ≢ k)
IsFlagTry L k c old new (injected.Flagged r b) =
    TriesFlag L k r c b (Flagged (leaf_of r b)) old new
IsFlagTry L k c old new injected.Lost = IsBroken L k old new
    ⊎ ((r : WalkEnd) × (b : ℕ) × (e : Edge) × (mid : List Entry)
    × TriesFlag L k r c b (Lost e) old mid × Helps r c e mid new)

-- ---- cleanup mode

-- the call has flagged the leaf, and may go on to remove it (Natarajan and Mittal, section 3.2,
-- delete)
pub record IsRemoving (p : PassView) (k : ℕ) (n : NodeId) : Type 0 where
  pub run : IsInRun p
  pub pinned : IsPinnedSomewhere p
  pub root : Tells p (KnowsSlot 1)
  pub known : Tells p (KnowsSlot 2)
  pub call : Tells p (CallIs Delete k)
  pub flagged : (search p).flagged ≡ Some n
  pub born : Tells p (IsBorn n.slot n.birth)
  pub labelled : (epochs p).unlabelled ≡ false

-- a walk to another leaf, or a won cleanup by a walk that ended at the flagged leaf, whose splice
-- cut off that leaf (Natarajan and Mittal, section 3.2, delete)
abbrev pub Removes : Layout → ℕ → NodeId → List Entry → List Entry → Type 0
Removes L k n old new = (r : WalkEnd) × (c : List ChainEdge)
    × ((Seeks L k old new c (Some r) × (r.seek_record.edge.slot ≢ n.slot))
    ⊎ ((mid : List Entry) × (ns : List NodeId) × (epoch : ℕ) × Seeks L k old mid c (Some r)
    × (r.seek_record.edge.slot ≡ n.slot) × CleanupWon r.seek_record c ns epoch mid new × IsOneOfNodes n ns))

-- a walk that was broken off, or a lost cleanup by a walk that ended at the flagged leaf
abbrev pub RemovesNothing : Layout → ℕ → NodeId → List Entry → List Entry → Type 0
RemovesNothing L k n old new = IsBroken L k old new
    ⊎ ((r : WalkEnd) × (c : List ChainEdge) × (mid : List Entry) × Seeks L k old mid c (Some r)
    × (r.seek_record.edge.slot ≡ n.slot) × CleanupLost r.seek_record c mid new)

-- this many such tries were lost, one after the other
abbrev pub LostRemovals : Layout → ℕ → NodeId → ℕ → List Entry → List Entry → Type 0
LostRemovals L k n zero old new = new ≡ old
LostRemovals L k n (suc t) old new =
    (mid : List Entry) × LostRemovals L k n t old mid × RemovesNothing L k n mid new

-- at most `tries` tries to remove, by their result
abbrev pub IsRemoval : Layout → ℕ → NodeId → ℕ → List Entry → List Entry → Removal → Type 0
IsRemoval L k n tries old new removal.Removed =
    (t : ℕ) × (mid : List Entry) × (t < tries) × LostRemovals L k n t old mid
    × Removes L k n mid new
IsRemoval L k n tries old new removal.Refused =
    (t : ℕ) × (t < tries) × LostRemovals L k n t old new
IsRemoval L k n tries old new removal.Spent = LostRemovals L k n tries old new

-- the property holds if the leaf was removed
abbrev pub IfRemoved : Removal → Type 0 → Type 0
IfRemoved removal.Removed P = P
IfRemoved _ P = Unit {0}

-- ---- what a flag leaves

-- the call may flag the leaf at which its walk ended
pub record MayFlag (p : PassView) (k : ℕ) (r : WalkEnd) : Type 0 where
  pub parent : Tells p (KnowsSlot r.seek_record.parent)
  pub known : Tells p (KnowsSlot r.seek_record.edge.slot)
  pub leaf : Tells p (KnowsLeaf r.seek_record.edge.slot)
  pub high : 6 ≤ r.seek_record.edge.slot
  pub within : r.seek_record.edge.slot ≤ p.view.layout.nodes
  pub call : Tells p (CallIs Delete k)
  pub ended : Tells p (EndedAt ThePin k r.seek_record.edge.slot r.seek_record.parent r.seek_record.side k)
  pub unflagged : (search p).flagged ≡ None

abbrev pub looks_and_flags : WalkEnd → ℕ → Reply → List Entry → List Entry
looks_and_flags r b reply old =
    (old ++ (Look r.seek_record.edge.slot Birth, BirthIs b) ∷ [])
    ++ (Flag r.seek_record.parent r.seek_record.side r.seek_record.edge.slot, reply) ∷ []

-- the flag is won: the leaf is the one that the call has flagged, and the edge to it is known to be
-- flagged
pub record HasWonItsFlag (p q : PassView) (r : WalkEnd) (b : ℕ) : Type 0 where
  pub part : q.view.log ≡ looks_and_flags r b (Flagged (leaf_of r b)) p.view.log
  pub flagged : (search q).flagged ≡ Some (leaf_of r b)
  pub edge : Tells q (IsFlagged r.seek_record.parent r.seek_record.side r.seek_record.edge.slot)
  pub born : Tells q (IsBorn r.seek_record.edge.slot b)

-- the flag was lost: what the call has flagged is unchanged
pub record HasNotFlagged (p q : PassView) (r : WalkEnd) (e : Edge) : Type 0 where
  pub birth : ℕ
  pub part : q.view.log ≡ looks_and_flags r birth (Lost e) p.view.log
  pub flagged : (search q).flagged ≡ (search p).flagged

-- unchanged are the pin, the private slots, the call with what it linked, and the ledgers except
-- for the nodes that were cut off
pub record OnlyInjects (p q : PassView) : Type 0 where
  pub announcement : (epochs q).announcement ≡ (epochs p).announcement
  pub pin : (epochs q).pin ≡ (epochs p).pin
  pub labelled : (epochs p).unlabelled ≡ false → (epochs q).unlabelled ≡ false
  pub private : (knowledge q.view).drafts ≡ (knowledge p.view).drafts
  pub call : (search q).call ≡ (search p).call
  pub linked : (search q).linked ≡ (search p).linked
  pub swapped : (search q).swapped ≡ (search p).swapped
  pub ledgers : KeepsLedgers p q

-- what the log shows after a try to flag; if it has flagged, also what a cleanup with that seek
-- record needs
abbrev pub ShowsFlag : ℕ → List ChainEdge → PassView → PassView → Injected → Type 0
ShowsFlag k c p q injected.Absent = ShowsAnswer q Delete k false
ShowsFlag k c p q (injected.Flagged r b) =
    ((search q).flagged ≡ Some (leaf_of r b))
    × Tells q (IsFlagged r.seek_record.parent r.seek_record.side r.seek_record.edge.slot)
    × Tells q (IsBorn r.seek_record.edge.slot b) × IsAt (Tells q) r.seek_record c × (length c < chain_bound)
ShowsFlag k c p q injected.Lost = (search q).flagged ≡ (search p).flagged

-- `IfFlagged`, `IfInjected`, `IfTaken`: the property holds if a leaf was flagged, by the result of a
-- try, of all tries, and of the call
abbrev pub IfFlagged : Injected → Type 0 → Type 0
IfFlagged (injected.Flagged r b) P = P
IfFlagged _ P = Unit {0}

abbrev pub IfInjected : Injection → Type 0 → Type 0
IfInjected (injection.Flagged f) P = P
IfInjected _ P = Unit {0}

abbrev pub IfTaken : Result Deletion CallFault → Type 0 → Type 0
IfTaken (Ok (deletion.Done true)) P = P
IfTaken (Ok (deletion.Pending n)) P = P
IfTaken _ P = Unit {0}

-- the property holds of the answer, if the delete has one
abbrev pub IfDone : Result Deletion CallFault → (Bool → Type 0) → Type 0
IfDone (Ok (deletion.Done answer)) P = P answer
IfDone _ P = Unit {0}

-- ---- the tries to flag

-- this many tries to flag were lost
abbrev pub LostFlags : Layout → ℕ → ℕ → List Entry → List Entry → Type 0
LostFlags L k zero old new = new ≡ old
LostFlags L k (suc t) old new =
    (c : List ChainEdge) × (mid : List Entry) × LostFlags L k t old mid
    × IsFlagTry L k c mid new injected.Lost

-- at most `tries` tries to flag, by their result: after a won flag, `left` tries are left;
-- `Refused` is about the room of a try after the first
abbrev pub IsInjection : Layout → ℕ → ℕ → List ChainEdge → List Entry → List Entry → Injection → Type 0
IsInjection L k tries c old new injection.Absent =
    (t : ℕ) × (mid : List Entry) × (t < tries) × LostFlags L k t old mid
    × IsFlagTry L k c mid new injected.Absent
IsInjection L k tries c old new (injection.Flagged f) =
    (t : ℕ) × (mid : List Entry) × (t + (f.left + 1) ≡ tries) × LostFlags L k t old mid
    × IsFlagTry L k c mid new (injected.Flagged f.end f.birth)
IsInjection L k tries c old new injection.Refused =
    (t : ℕ) × (0 < t) × (t < tries) × LostFlags L k t old new
IsInjection L k tries c old new injection.Spent = LostFlags L k tries old new

-- what the log shows after the tries to flag, by their result
abbrev pub ShowsInjection : ℕ → List ChainEdge → PassView → Injection → Type 0
ShowsInjection k c q injection.Absent = ShowsAnswer q Delete k false
ShowsInjection k c q (injection.Flagged f) =
    ((search q).flagged ≡ Some (leaf_of f.end f.birth))
    × Tells q (IsFlagged f.end.seek_record.parent f.end.seek_record.side f.end.seek_record.edge.slot)
    × Tells q (IsBorn f.end.seek_record.edge.slot f.birth) × IsAt (Tells q) f.end.seek_record c
    × (length c < chain_bound)
ShowsInjection k c q _ = (search q).flagged ≡ None

-- ---- the tries to remove; the first is a cleanup with the walk of the flag

-- the tries to remove the leaf, beginning with a cleanup with that walk, by their result (Natarajan
-- and Mittal, section 3.2, delete)
abbrev pub RemovalAfter : Layout → ℕ → FlaggedLeaf → List ChainEdge → List Entry → List Entry → Removal
    → Type 0
RemovalAfter L k f c old new removal.Removed =
    ((f.left ≢ 0) × (ns : List NodeId) × (epoch : ℕ) × CleanupWon f.end.seek_record c ns epoch old new
    × IsOneOfNodes (leaf_of f.end f.birth) ns)
    ⊎ ((t : ℕ) × (mid : List Entry) × (f.left ≡ t + 1) × CleanupLost f.end.seek_record c old mid
    × IsRemoval L k (leaf_of f.end f.birth) t mid new removal.Removed)
RemovalAfter L k f c old new removal.Refused =
    ((f.left ≢ 0) × (new ≡ old))
    ⊎ ((t : ℕ) × (mid : List Entry) × (f.left ≡ t + 1) × CleanupLost f.end.seek_record c old mid
    × IsRemoval L k (leaf_of f.end f.birth) t mid new removal.Refused)
RemovalAfter L k f c old new removal.Spent =
    ((f.left ≡ 0) × (new ≡ old))
    ⊎ ((t : ℕ) × (mid : List Entry) × (f.left ≡ t + 1) × CleanupLost f.end.seek_record c old mid
    × IsRemoval L k (leaf_of f.end f.birth) t mid new removal.Spent)

-- ---- the whole call

-- a won flag, and what followed it
abbrev pub FlagsThen : Layout → ℕ → ℕ → NodeId → List Entry → List Entry → Removal → Type 0
FlagsThen L tries k n old new m =
    (f : FlaggedLeaf) × (c : List ChainEdge) × (mid : List Entry) × (n ≡ leaf_of f.end f.birth)
    × IsInjection L k tries c old mid (injection.Flagged f) × RemovalAfter L k f c mid new m

-- a delete from its pin on, by its answer
abbrev pub DeleteFinishes : Layout → ℕ → ℕ → List Entry → List Entry → Result Deletion CallFault → Type 0
DeleteFinishes L tries k old new (Ok (deletion.Done true)) =
    (n : NodeId) × (mid : List Entry) × FlagsThen L tries k n old mid removal.Removed
    × (new ≡ mid ++ (LeaveWith true, Departed) ∷ [])
DeleteFinishes L tries k old new (Ok (deletion.Done false)) =
    (c : List ChainEdge) × (mid : List Entry) × IsInjection L k tries c old mid injection.Absent
    × (new ≡ mid ++ (LeaveWith false, Departed) ∷ [])
DeleteFinishes L tries k old new (Err fault.Busy) =
    (c : List ChainEdge) × (mid : List Entry) × IsInjection L k tries c old mid injection.Spent
    × (new ≡ mid ++ (Leave, Departed) ∷ [])
DeleteFinishes L tries k old new (Err fault.NoMemory) =
    (c : List ChainEdge) × (mid : List Entry)
    × IsInjection L k tries c old mid injection.Refused × (new ≡ mid ++ (Leave, Departed) ∷ [])
DeleteFinishes L tries k old new (Ok (deletion.Pending n)) =
    FlagsThen L tries k n old new removal.Refused
    ⊎ FlagsThen L tries k n old new removal.Spent
DeleteFinishes L tries k old new (Err _) = ⊥

-- a pin for the delete, and then the rest of it
abbrev pub PinsForDelete : Layout → ℕ → ℕ → List Entry → List Entry → Result Deletion CallFault → Type 0
PinsForDelete L tries k old new r =
    (pinned : List Entry) × (epoch : ℕ) × IsPinnedBy (SightFor Delete k) tries old pinned epoch
    × DeleteFinishes L tries k pinned new r

-- a whole delete, by its answer (Natarajan and Mittal, section 3.2, delete)
abbrev pub DeleteDid : Layout → ℕ → ℕ → List Entry → List Entry → Result Deletion CallFault → Type 0
DeleteDid L tries k old new (Err fault.Busy) =
    ((tries ≡ 0) × (new ≡ old)) ⊎ ((tries ≢ 0) × IsMoved (SightFor Delete k) tries old new)
    ⊎ PinsForDelete L tries k old new (Err fault.Busy)
DeleteDid L tries k old new (Err fault.NoMemory) =
    ((tries ≢ 0) × (new ≡ old)) ⊎ PinsForDelete L tries k old new (Err fault.NoMemory)
DeleteDid L tries k old new r = PinsForDelete L tries k old new r

-- the worker rests; after `Pending` it stays pinned for the leaf that it has flagged
abbrev pub RestsOrRemoves : ℕ → PassView → Result Deletion CallFault → Type 0
RestsOrRemoves k q (Ok (deletion.Pending n)) = IsRemoving q k n
RestsOrRemoves k q _ = IsResting q

-- each try to remove the leaf was lost
abbrev pub LosesEachTry : Layout → ℕ → NodeId → ℕ → List Entry → List Entry → Type 0
LosesEachTry L k n tries old new = IsRemoval L k n tries old new removal.Spent

-- the log has a pin and a won flag, and each try after the flag was lost
abbrev pub LosesAfterFlag : Layout → ℕ → ℕ → List Entry → List Entry → NodeId → Type 0
LosesAfterFlag L tries k old new n =
    (pinned : List Entry) × (epoch : ℕ) × IsPinnedBy (SightFor Delete k) tries old pinned epoch
    × FlagsThen L tries k n pinned new removal.Spent

-- why a delete gave up: after `NoMemory` the queue has less room than a try needs; after `Pending`
-- it has less, or each try after the flag was lost
abbrev pub LacksRoomOr : (NodeId → Type 0) → ℕ → Result Deletion CallFault → Type 0
LacksRoomOr lost spare (Err fault.NoMemory) = spare < cut_bound
LacksRoomOr lost spare (Ok (deletion.Pending n)) = (spare < cut_bound) ⊎ lost n
LacksRoomOr lost spare _ = Unit {0}

-- tries to remove, and a leave with the answer true; or each try was lost, or the room of one was
-- refused (Natarajan and Mittal, section 3.2, delete)
abbrev pub FinishDid : Layout → ℕ → NodeId → ℕ → List Entry → List Entry → Bool → Type 0
FinishDid L k n tries old new true =
    (mid : List Entry) × IsRemoval L k n tries old mid removal.Removed
    × (new ≡ mid ++ (LeaveWith true, Departed) ∷ [])
FinishDid L k n tries old new false =
    IsRemoval L k n tries old new removal.Refused
    ⊎ IsRemoval L k n tries old new removal.Spent

-- what a delete leaves of its pass, by its answer. It is as for an insert, except that it counts
-- the flag that was won, and that the worker rests or stays pinned for the leaf
pub record AfterDelete (L : Layout) (tries k : ℕ) (p q : PassView) (r : Result Deletion CallFault) : Type 0 where
  pub same : IsSamePass p q
  pub past : HasSeenAllOf q p
  pub did : DeleteDid L tries k p.view.log q.view.log r
  pub moment : IfDone r (AnswerHasMoment p q Delete k)
  pub won : HasWon p.view.log q.view.log 0 (flags_of_delete r)
  pub steps : IsWithinBound L tries p.view.log q.view.log
  pub run : (q ≡ p) ⊎ IsInRun q
  pub stands : RestsOrRemoves k q r
  pub private : (knowledge q.view).drafts ≡ (knowledge p.view).drafts
  pub ledgers : KeepsLedgers p q

-- what a call that goes on with a delete leaves of its pass: the answer true was right at a moment
-- (linearization point) of its call, and then the worker rests; otherwise it stays pinned for the
-- leaf
pub record AfterFinish (L : Layout) (k : ℕ) (n : NodeId) (tries : ℕ) (p q : PassView)
    (r : Bool) : Type 0 where
  pub same : IsSamePass p q
  pub past : HasSeenAllOf q p
  pub did : FinishDid L k n tries p.view.log q.view.log r
  pub moment : r ≡ true → (o : PassView) → HadNoCall o p → AnswerHasMoment o q Delete k true
  pub won : HasWon p.view.log q.view.log 0 0
  pub steps : IsWithinBound L tries p.view.log q.view.log
  pub run : IsInRun q
  pub rests : r ≡ true → IsResting q
  pub removing : r ≡ false → IsRemoving q k n
  pub private : (knowledge q.view).drafts ≡ (knowledge p.view).drafts
  pub ledgers : KeepsLedgers p q
