-- A flagged leaf is cut off: by a cleanup that names it, or since a walk behind the flag ended
-- elsewhere.
use Rattle.std.proofs.Common.{◌≡◌, ◌≢◌, ◌<◌, ◌≤◌, inl, inr, ℕ, ◌+◌, true, false, List, [], ◌∷◌, ◌++◌, sym, ap, subst, ◌∙◌}
use Rattle.std.specs.Prelude.{Option, Some, None, is_some, Result, Ok, Err}
use Rattle.nm_edge.specs.Layouts.{Layout}
use Rattle.nm_edge.specs.declared.edge.Side.{Side}
use Rattle.nm_edge.specs.declared.node.NodeId.{NodeId}
use Rattle.nm_model.specs.declared.event.Event.TheVariants.{Look, Flag, SightFor}
use Rattle.nm_model.specs.declared.event.Field.TheVariants.{Birth}
use Rattle.nm_model.specs.declared.event.Op.TheVariants.{Delete}
use Rattle.nm_model.specs.declared.reply.Reply.TheVariants.{BirthIs, Flagged}
use Rattle.nm_model.specs.Memory.{infinity_0}
use Rattle.nm_model.specs.Walks.{Entry}
use Rattle.nm_model.specs.Searches.{is_flagged_in}
use Rattle.nm_order.specs.Facts.Since.{ThePin, TheFlag}
use Rattle.nm_order.specs.Facts.Fact.{KnowsSlot, KnowsLeaf, IsFlagged, IsBorn, CallIs, Came, EndedAt}
use Rattle.nm_order.proofs.LaterFlagLaws.{later_walks_find}
use Rattle.nm_steps.specs.Steps.{PassView, IsSamePass}
use Rattle.nm_epoch.specs.Resting.{epochs, search}
use Rattle.nm_epoch.specs.Tries.{IsPinnedBy}
use Rattle.nm_epoch.specs.declared.collecting.Entry.{Entry as Waiting}
use Rattle.nm_calls.specs.declared.deleting.FlaggedLeaf.{FlaggedLeaf}
use Rattle.nm_calls.specs.declared.deleting.Injected.{Injected}
use Rattle.nm_calls.specs.declared.deleting.Injected.TheVariants as injected
use Rattle.nm_calls.specs.declared.deleting.Deletion.{Deletion}
use Rattle.nm_calls.specs.declared.deleting.Deletion.TheVariants as deletion
use Rattle.nm_calls.specs.declared.fault.CallFault.{CallFault}
use Rattle.nm_calls.specs.declared.fault.CallFault.TheVariants as fault
use Rattle.nm_calls.specs.declared.deleting.Removal.{Removal}
use Rattle.nm_calls.specs.declared.deleting.Removal.TheVariants as removal
use Rattle.nm_walks.specs.declared.seek_record.ChainEdge.{ChainEdge}
use Rattle.nm_walks.specs.declared.seek_record.WalkEnd.{WalkEnd}
use Rattle.nm_walks.specs.declared.seek_record.SeekRecord.{SeekRecord}
use Rattle.nm_walks.specs.Telling.{Tells, IsInRun, GoesOn, OnlyLooks, IsPinnedSomewhere}
use Rattle.nm_walks.specs.Walks.{HasEnded, HasFound}
use Rattle.nm_walks.specs.Marking.{IsToBeFlagged, FlagWon}
use Rattle.nm_walks.specs.Labelling.{IsPinnedForCall}
use Rattle.nm_calls.specs.Leaving.{ShowsAnswer}
use Rattle.nm_walks.specs.Cleanups.{HasCleaned, OnlyCleans, CleanupLost}
use Rattle.nm_calls.specs.Deletes.{IsRemoving, MayFlag, HasWonItsFlag, leaf_of, OnlyInjects, IsRemoval, RemovalAfter, LosesAfterFlag, LacksRoomOr, FlagsThen, PinsForDelete, DeleteDid, ShowsFlag}
use Rattle.nm_walks.proofs.GoingOn.{pinned_still}
use Rattle.nm_calls.proofs.KeptLedgers.{ledgers_then}
use Rattle.nm_walks.proofs.Looks.{enough}
use Rattle.nm_walks.proofs.WholeCleanups.{right_true}

-- a walk behind the flag ended at another leaf
pub elsewhere_shows : (p q : PassView) (k : ℕ) (n : NodeId) (leaf parent v : ℕ) (side : Side) → IsRemoving p k n
    → (search q).flagged ≡ (search p).flagged → HasFound p q k leaf parent side v → leaf ≢ n.slot
    → ShowsAnswer q Delete k true
elsewhere_shows p q k n leaf parent v side r flagged found other =
    (n, flagged ∙ r.flagged, inr (leaf, v, other, (parent, side, found TheFlag (Delete, r.call, ap is_some r.flagged))))

-- a walk behind the flag that ends at the flagged leaf came there by a flagged edge
pub found_flagged : (p q : PassView) (k : ℕ) (n : NodeId) (leaf parent v : ℕ) (side : Side) → IsRemoving p k n
    → IsInRun q → (search q).flagged ≡ (search p).flagged → HasFound p q k leaf parent side v → leaf ≡ n.slot
    → Tells q (IsFlagged parent side n.slot)
found_flagged p q k n leaf parent v side r run flagged found is =
    let ended = found TheFlag (Delete, r.call, ap is_some r.flagged) in
    later_walks_find q.view.layout (enough q.view.layout run.fits) q.view.number q.view.log run.run.is_part n k
    parent side (flagged ∙ r.flagged) (subst (λ (x : ℕ). Tells q (Came TheFlag k x parent side)) is ended.0)

-- a cleanup at the flagged edge cut the leaf off
pub cleanup_shows : (p q : PassView) (s : SeekRecord) (c : List ChainEdge) (es fs : List Waiting) (k : ℕ)
    (n : NodeId) → HasCleaned s c p q es fs → (search p).flagged ≡ Some n → (search q).flagged ≡ (search p).flagged
    → Tells p (IsFlagged s.parent s.side n.slot) → Tells p (IsBorn n.slot n.birth) → ShowsAnswer q Delete k true
cleanup_shows p q s c es fs k n cleaned flagged same edge born = (
  n,
  same ∙ flagged,
  inl (cleaned.cut ∙ right_true (search p).cut (is_flagged_in (search p).flagged cleaned.nodes)
      (ap (λ (o : Option NodeId). is_flagged_in o cleaned.nodes) flagged ∙ cleaned.leaf n.slot n.birth edge born)),
)

-- ---- from try to try

pub cleans_then : (o p q : PassView) → IsSamePass o p → OnlyCleans o p → OnlyCleans p q → OnlyCleans o q
cleans_then o p q same a b = record {
  announcement = b.announcement ∙ a.announcement;
  pin = b.pin ∙ a.pin;
  labelled = λ none'. b.labelled (a.labelled none');
  private = b.private ∙ a.private;
  call = b.call ∙ a.call;
  linked = b.linked ∙ a.linked;
  swapped = b.swapped ∙ a.swapped;
  flagged = b.flagged ∙ a.flagged;
  ledgers = ledgers_then o p q same a.ledgers b.ledgers;
}

pub injects_then : (o p q : PassView) → IsSamePass o p → OnlyInjects o p → OnlyInjects p q → OnlyInjects o q
injects_then o p q same a b = record {
  announcement = b.announcement ∙ a.announcement;
  pin = b.pin ∙ a.pin;
  labelled = λ none'. b.labelled (a.labelled none');
  private = b.private ∙ a.private;
  call = b.call ∙ a.call;
  linked = b.linked ∙ a.linked;
  swapped = b.swapped ∙ a.swapped;
  ledgers = ledgers_then o p q same a.ledgers b.ledgers;
}

pub removing_on : (p q : PassView) (k : ℕ) (n : NodeId) → IsRemoving p k n → GoesOn p q → OnlyCleans p q
    → IsRemoving q k n
removing_on p q k n r on only = record {
  run = on.run;
  pinned = pinned_still p q on r.pinned;
  root = on.keeps (KnowsSlot 1) r.root;
  known = on.keeps (KnowsSlot 2) r.known;
  call = on.keeps (CallIs Delete k) r.call;
  flagged = only.flagged ∙ r.flagged;
  born = on.keeps (IsBorn n.slot n.birth) r.born;
  labelled = only.labelled r.labelled;
}

-- ---- a flag

pub to_be_flagged : (p q : PassView) (k : ℕ) (r : WalkEnd) (b : ℕ) → MayFlag p k r → GoesOn p q → OnlyLooks p q
    → Tells q (IsBorn r.seek_record.edge.slot b) → IsToBeFlagged q r.seek_record.parent r.seek_record.side
    r.seek_record.edge.slot
to_be_flagged p q k r b may on only born = record {
  knows_parent = on.keeps (KnowsSlot r.seek_record.parent) may.parent;
  knows_leaf = on.keeps (KnowsSlot r.seek_record.edge.slot) may.known;
  is_leaf = on.keeps (KnowsLeaf r.seek_record.edge.slot) may.leaf;
  high = may.high;
  born = (b, born);
  key = k;
  call = on.keeps (CallIs Delete k) may.call;
  ended = on.keeps (EndedAt ThePin k r.seek_record.edge.slot r.seek_record.parent r.seek_record.side k) may.ended;
  unflagged = only.flagged ∙ may.unflagged;
}

pub has_flagged : (o p q : PassView) (r : WalkEnd) (b : ℕ)
    → p.view.log ≡ o.view.log ++ (Look r.seek_record.edge.slot Birth, BirthIs b) ∷ []
    → Tells p (IsBorn r.seek_record.edge.slot b) → GoesOn p q
    → FlagWon p q r.seek_record.parent r.seek_record.side (leaf_of r b) → HasWonItsFlag o q r b
has_flagged o p q r b looked born on won = record {
  part = ap (λ (x : PassView). x.view.log) won.step
      ∙ ap (λ (log : List Entry). log ++ (
        Flag r.seek_record.parent r.seek_record.side r.seek_record.edge.slot,
        Flagged
            (leaf_of r b),
      ) ∷ []) looked;
  flagged = won.flagged;
  edge = won.known;
  born = on.keeps (IsBorn r.seek_record.edge.slot b) born;
}

-- the same after a look at a value
pub flagged_by_value : (o p q : PassView) (r : WalkEnd) (b : ℕ)
    → q ≡ record p { view = record p.view { past = q.view.past; stores = q.view.stores } } → GoesOn p q
    → HasWonItsFlag o p r b → HasWonItsFlag o q r b
flagged_by_value o p q r b same on won = record {
  part = ap (λ (x : PassView). x.view.log) same ∙ won.part;
  flagged = ap (λ (x : PassView). (search x).flagged) same ∙ won.flagged;
  edge = on.keeps (IsFlagged r.seek_record.parent r.seek_record.side r.seek_record.edge.slot) won.edge;
  born = on.keeps (IsBorn r.seek_record.edge.slot b) won.born;
}

pub may_flag_there : (p q : PassView) (k : ℕ) (L : Layout) (r : WalkEnd) (c : List ChainEdge) → q.view.layout ≡ L
    → Tells p (CallIs Delete k) → (search p).flagged ≡ None → k < infinity_0 → GoesOn p q → OnlyLooks p q
    → HasEnded (Tells q) L r.seek_record c
    → (r.key < infinity_0 → 6 ≤ r.seek_record.edge.slot)
    → HasFound p q k r.seek_record.edge.slot r.seek_record.parent r.seek_record.side r.key → r.key ≡ k → MayFlag q k r
may_flag_there p q k L r c layout call unflagged low on only ended high found is = record {
  parent = ended.at.parent;
  known = ended.at.node;
  leaf = ended.leaf;
  high = high (subst (λ (n : ℕ). n < infinity_0) (sym is) low);
  within = subst (λ (l : Layout). r.seek_record.edge.slot ≤ l.nodes) (sym layout) ended.within;
  call = on.keeps (CallIs Delete k) call;
  ended = subst (λ (n : ℕ). Tells q (EndedAt ThePin k r.seek_record.edge.slot r.seek_record.parent r.seek_record.side
      n)) is (found ThePin (Delete, call));
  unflagged = only.flagged ∙ unflagged;
}

-- what the log shows after a try, from an earlier pass on
pub shows_since : (k : ℕ) (c : List ChainEdge) (o p q : PassView) (i : Injected)
    → (search p).flagged ≡ (search o).flagged → ShowsFlag k c p q i → ShowsFlag k c o q i
shows_since k c o p q injected.Absent same h = h
shows_since k c o p q (injected.Flagged r b) same h = h
shows_since k c o p q injected.Lost same h = h ∙ same

-- ---- a flag that was won

pub removing_there : (p : PassView) (k : ℕ) (n : NodeId) → IsInRun p → IsPinnedSomewhere p
    → IsPinnedForCall Delete k p → (epochs p).unlabelled ≡ false → (search p).flagged ≡ Some n
    → Tells p (IsBorn n.slot n.birth) → IsRemoving p k n
removing_there p k n run pin call labelled flagged born = record {
  run = run;
  pinned = pin;
  root = call.root;
  known = call.known;
  call = call.call;
  flagged = flagged;
  born = born;
  labelled = labelled;
}

pub removal_after : (L : Layout) (k : ℕ) (f : FlaggedLeaf) (c : List ChainEdge) (t : ℕ) (old mid new : List Entry)
    (m : Removal) → f.left ≡ t + 1 → CleanupLost f.end.seek_record c old mid
    → IsRemoval L k (leaf_of f.end f.birth) t mid new m → RemovalAfter L k f c old new m
removal_after L k f c t old mid new removal.Removed is lost h = inr (t, mid, is, lost, h)
removal_after L k f c t old mid new removal.Refused is lost h = inr (t, mid, is, lost, h)
removal_after L k f c t old mid new removal.Spent is lost h = inr (t, mid, is, lost, h)

pub delete_did : (L : Layout) (tries k : ℕ) (old new : List Entry) (r : Result Deletion CallFault)
    → PinsForDelete L tries k old new r → DeleteDid L tries k old new r
delete_did L tries k old new (Ok d) h = h
delete_did L tries k old new (Err fault.Busy) h = inr (inr h)
delete_did L tries k old new (Err fault.NoMemory) h = inr h
delete_did L tries k old new (Err fault.Full) h = h
delete_did L tries k old new (Err fault.Unfinished) h = h
delete_did L tries k old new (Err fault.Pending) h = h
delete_did L tries k old new (Err fault.Pinned) h = h

-- why it gave up, seen from before its pin
pub lacks_room : (L : Layout) (tries k : ℕ) (old pinned new : List Entry) (epoch spare : ℕ)
    (r : Result Deletion CallFault) → IsPinnedBy (SightFor Delete k) tries old pinned epoch
    → LacksRoomOr (λ n. FlagsThen L tries k n pinned new removal.Spent) spare r
    → LacksRoomOr (LosesAfterFlag L tries k old new) spare r
lacks_room L tries k old pinned new epoch spare (Ok (deletion.Done answer)) pin why = why
lacks_room L tries k old pinned new epoch spare (Ok (deletion.Pending n)) pin (inl less) = inl less
lacks_room L tries k old pinned new epoch spare (Ok (deletion.Pending n)) pin (inr lost) = inr
    (pinned, epoch, pin, lost)
lacks_room L tries k old pinned new epoch spare (Err fault.Busy) pin why = why
lacks_room L tries k old pinned new epoch spare (Err fault.NoMemory) pin why = why
lacks_room L tries k old pinned new epoch spare (Err fault.Full) pin why = why
lacks_room L tries k old pinned new epoch spare (Err fault.Unfinished) pin why = why
lacks_room L tries k old pinned new epoch spare (Err fault.Pending) pin why = why
lacks_room L tries k old pinned new epoch spare (Err fault.Pinned) pin why = why
