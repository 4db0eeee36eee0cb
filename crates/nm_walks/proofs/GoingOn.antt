-- Looks go on from one to the next.
use Rattle.std.proofs.Common.{◌≡◌, ◌≢◌, ℕ, refl, ap, ◌∙◌}
use Rattle.nm_edge.specs.Edges.{Edge}
use Rattle.nm_edge.specs.declared.edge.Side.{Side}
use Rattle.nm_edge.specs.declared.edge.Side.TheVariants.{Left, Right}
use Rattle.nm_model.specs.Searches.{side_of}
use Rattle.nm_model.specs.declared.event.Op.{Op}
use Rattle.nm_order.specs.Facts.Fact.{KnowsSlot, KnowsLeaf, IsTagged, IsFlagged, IsPinned, CallIs, Came, ReadKey, EndedAt}
use Rattle.nm_order.specs.Taught.{EdgeLearned}
use Rattle.nm_steps.specs.Steps.{TreeView, PassView, IsOf, IsSamePass}
use Rattle.nm_steps.proofs.Seeing.{same_then, seen_through, stores_through}
use Rattle.nm_walks.specs.declared.seek_record.SeekRecord.{SeekRecord}
use Rattle.nm_walks.specs.Labelling.{IsPinnedForCall}
use Rattle.nm_walks.specs.Telling.{Tells, GoesOn, OnlyLooks, IsPinnedSomewhere, IsPinnedIn, KeyTold, EdgeTold, OnwardTold}
use Rattle.nm_walks.specs.Walks.{begin, onto, edge_on, EachWalkHasCome, HasFound}
use Rattle.nm_walks.proofs.Standing.{onto-edge, onto-parent}

pub goes_then : (o p q : PassView) → GoesOn o p → GoesOn p q → GoesOn o q
goes_then o p q a b = record {
  same = same_then o p q a.same b.same;
  past = seen_through o p q a.past b.past;
  run = b.run;
  stores = stores_through o.view.stores p.view.stores q.view.stores a.stores b.stores;
  keeps = λ fact holds. b.keeps fact (a.keeps fact holds);
}

-- a pass of this table that goes on is one
pub own_still : (b : TreeView) (p q : PassView) → IsOf b p → IsSamePass p q → IsOf b q
own_still b p q own same = record {
  table = ap (λ (z : PassView). z.table) same
      ∙ own.table;
  layout = ap (λ (z : PassView). z.view.layout) same ∙ own.layout;
}

pub only_then : (o p q : PassView) → OnlyLooks o p → OnlyLooks p q → OnlyLooks o q
only_then o p q a b = record {
  epochs = b.epochs ∙ a.epochs;
  private = b.private ∙ a.private;
  ledgers = b.ledgers ∙ a.ledgers;
  call = b.call ∙ a.call;
  linked = b.linked ∙ a.linked;
  swapped = b.swapped ∙ a.swapped;
  flagged = b.flagged ∙ a.flagged;
  cut = b.cut ∙ a.cut;
}

-- the pin stands
pub pinned_still : (p q : PassView) → GoesOn p q → IsPinnedSomewhere p → IsPinnedSomewhere q
pinned_still p q on pin = (pin.0, on.keeps (IsPinned pin.0) pin.1)

pub pinned_in_still : (b : TreeView) (p q : PassView) → GoesOn p q → IsPinnedIn b p → IsPinnedIn b q
pinned_in_still b p q on at = record {
  own = own_still b p q at.own on.same;
  run = on.run;
  pin = pinned_still p q on
      at.pin;
}

-- and it is in its call still
pub call_still : (op : Op) (k : ℕ) (p q : PassView) → GoesOn p q → IsPinnedForCall op k p → IsPinnedForCall op k q
call_still op k p q on call = record {
  root = on.keeps (KnowsSlot 1) call.root;
  known = on.keeps (KnowsSlot 2)
      call.known;
  call = on.keeps (CallIs op k) call.call;
}

-- ---- walks

pub come_first : (p q : PassView) (k : ℕ) (e : Edge) (s : SeekRecord) → EdgeTold p q 2 (begin e).side e → s ≡ begin e
    → EachWalkHasCome p q k s
come_first p q k e s told is since walks = rw is (told.begins since k walks refl refl)

-- what is read stays so
learned_still : (p q : PassView) (x : ℕ) (side : Side) (e : Edge) → GoesOn p q → EdgeLearned (Tells p) x side e
    → EdgeLearned (Tells q) x side e
learned_still p q x side e on t = record {
  leads = λ some. on.keeps (KnowsSlot e.slot) (t.leads some);
  leaf = λ null. on.keeps (KnowsLeaf x) (t.leaf null);
  tagged = λ tag. on.keeps (IsTagged x side e.slot) (t.tagged tag);
  flagged = λ flag. on.keeps (IsFlagged x side e.slot) (t.flagged flag);
}

-- a look at the key of a node, at its left edge and at its right edge: by the one on the key's side
-- walks go on
pub told_onward : (p r s q : PassView) (k x key : ℕ) (left right : Edge) → KeyTold p r x key
    → EdgeTold r s x Left left → EdgeTold s q x Right right → GoesOn r s → GoesOn s q
    → (side : Side) → side ≡ side_of k key → OnwardTold p q k x key side (edge_on side left right)
told_onward p r s q k x key left right read at_left at_right on then Left is = record {
  high = read.high;
  reads = λ since parent up came. then.keeps (ReadKey since k x parent up key)
      (on.keeps (ReadKey since k x parent up key) (read.reads since k parent up came));
  learned = learned_still s q x Left left then at_left.learned;
  goes = λ since parent up came some. then.keeps (Came since k left.slot x Left)
      (at_left.goes since k parent key up (read.reads since k parent up came) is some);
  ends = λ since parent up came null. then.keeps (EndedAt since k x parent up key)
      (at_left.ends since k parent key up (read.reads since k parent up came) is null);
}
told_onward p r s q k x key left right read at_left at_right on then Right is = record {
  high = read.high;
  reads = λ since parent up came. then.keeps (ReadKey since k x parent up key)
      (on.keeps (ReadKey since k x parent up key) (read.reads since k parent up came));
  learned = at_right.learned;
  goes = λ since parent up came some. at_right.goes since k parent key up
      (on.keeps (ReadKey since k x parent up key) (read.reads since k parent up came)) is some;
  ends = λ since parent up came null. at_right.ends since k parent key up
      (on.keeps (ReadKey since k x parent up key) (read.reads since k parent up came)) is null;
}

-- the walk comes to the next node
pub come_on : (o p q : PassView) (k key : ℕ) (t s : SeekRecord) (side : Side) (e : Edge) → EachWalkHasCome o p k t
    → OnwardTold p q k t.edge.slot key side e → e.slot ≢ 0 → s ≡ onto t side e → EachWalkHasCome o q k s
come_on o p q k key t s side e come told some is since walks =
    let here : Tells q (Came since k e.slot t.edge.slot side) = told.goes since t.parent t.side (come since walks)
    some in
    let place = onto-parent t side e in
    rw (is, onto-edge t side e, place.0, place.1) here

pub found_so : (o p q : PassView) (k key : ℕ) (t : SeekRecord) (side : Side) (e : Edge) → EachWalkHasCome o p k t
    → OnwardTold p q k t.edge.slot key side e → e.slot ≡ 0 → HasFound o q k t.edge.slot t.parent t.side key
found_so o p q k key t side e come told null since walks = told.ends since t.parent t.side (come since walks) null
