-- The walk of an insert: where it stands in a radix tree, and where it stops.
use Rattle.std.proofs.Common.{◌≡◌, ◌≢◌, ◌≤◌, ◌+◌, ◌*◌, ◌⊎◌, inl, inr, ℕ, Bool, true, false, List, arith, length, refl, sym, ap, subst, ◌∙◌, true≢false}
use Rattle.std.specs.Prelude.{Some, None}
use native.Mathlib.Decide.{ℕ_discrete}
use Rattle.nm_edge.specs.Edges.{Edge}
use Rattle.nm_edge.specs.Keys.{IsKey}
use Rattle.nm_edge.specs.Layouts.{Layout}
use Rattle.nm_edge.specs.Ranges.{covers}
use Rattle.nm_edge.specs.declared.edge.Side.{Side}
use Rattle.nm_model.specs.Walks.{Entry}
use Rattle.nm_order.specs.Facts.Fact.{ReadKey}
use Rattle.nm_steps.specs.Steps.{TreeView, PassView}
use Rattle.nm_walks.specs.declared.looking.Onward.{Onward}
use Rattle.nm_walks.specs.declared.seek_record.ChainEdge.{ChainEdge}
use Rattle.nm_walks.specs.declared.seek_record.WalkEnd.{WalkEnd}
use Rattle.nm_walks.specs.declared.seek_record.SeekRecord.{SeekRecord}
use Rattle.nm_walks.specs.Bounds.{reach}
use Rattle.nm_walks.specs.Telling.{Tells, GoesOn, OnlyLooks, OnwardTold, IsPinnedIn}
use Rattle.nm_walks.specs.declared.walking.Stop.{Stop}
use Rattle.nm_walks.specs.declared.walking.Stop.TheVariants.{Leaf, Place}
use Rattle.nm_walks.specs.Walks.{begin, onto, EachWalkHasCome, Reads, IsBroken, IsWalking, HasFound}
use Rattle.nm_walks.specs.Places.{GoesBy, HasCome, IsStop, IsStopOf, HasStopped, HasNarrowed, IsNarrowed, IsNarrowedBy, IsOver, SeeksTo, StopsAt}
use Rattle.nm_walks.proofs.GoingOn.{found_so}
use Rattle.nm_walks.proofs.ShortWalks.{passes_router}
use Rattle.nm_walks.proofs.Adding.{end_adds, reads_add, walk_adds}
use Rattle.nm_walks.proofs.Standing.{at_kept, onto-parent}
use Rattle.nm_walks.proofs.Walked.{walks_out}

-- ---- a walk that ended at a leaf

at_leaf : (radix : Bool) (k : ℕ) (on : Onward) → on.next.slot ≡ 0 → IsStop radix k on
at_leaf false k on null = null
at_leaf true k on null = inl null

-- ---- ranges on the way

pub narrowed_first : (stop : Stop) (o p : PassView) (k : ℕ) (e : Edge) (s : SeekRecord) → s ≡ begin e
    → IsNarrowedBy stop o p k s.parent s.side
narrowed_first Leaf o p k e s is = tt
narrowed_first Place o p k e s is = rw is (inl (refl, refl))

pub narrowed_still : (o p q : PassView) (k parent : ℕ) (side : Side) → GoesOn p q → IsNarrowed o p k parent side
    → IsNarrowed o q k parent side
narrowed_still o p q k parent side on (inl first) = inl first
narrowed_still o p q k parent side on (inr w) = inr
    (w.0, w.1, w.2, w.3, w.4, λ since walks. on.keeps (ReadKey since k parent w.1 w.2 w.0) (w.5 since walks))

-- to the next node, in whose parent's range the key is
pub narrowed_on : (stop : Stop) (k : ℕ) (o p q : PassView) (t : SeekRecord) (on : Onward) → EachWalkHasCome o p k t
    → Reads k t.edge.slot p.view.log q.view.log on → OnwardTold p q k t.edge.slot on.found on.side on.next
    → GoesBy stop on.found k → (s : SeekRecord) → s ≡ onto t on.side on.next → IsNarrowedBy stop o q k s.parent s.side
narrowed_on Leaf k o p q t on come read told goes s is = tt
narrowed_on Place k o p q t on come read told goes s is =
    let place = onto-parent t on.side on.next in
    rw (is, place.0, place.1) (inr (
      on.found,
      t.parent,
      t.side,
      goes,
      sym read.3,
      λ since walks. told.reads since
          t.parent t.side (come since walks),
    ))

-- where it stops: at a leaf, or at a node above the fixed ones with another key
module _ (b : TreeView) (radix : b.layout.radix ≡ true) (k : ℕ) (key : IsKey k) (n : ℕ) (o p q : PassView)
    (t : SeekRecord) (c : List ChainEdge) (on : Onward) (w : IsWalking b.layout k n o p t c)
    (read : Reads k t.edge.slot p.view.log q.view.log on)
    (goes : GoesOn p q) (told : OnwardTold p q k t.edge.slot on.found on.side on.next) (pinned : IsPinnedIn b q) where
  -- a node that is no leaf, and has not the key in its range
  record IsApart : Type 0 where
    high : 6 ≤ t.edge.slot
    other : on.found ≡ k → ⊥
    outside : covers on.found k ≡ false

  leaf_or_apart : IsStop true k on → (on.next.slot ≡ 0) ⊎ IsApart
  leaf_or_apart (inl null) = inl null
  leaf_or_apart (inr outside) = elim (ℕ_discrete on.next.slot 0) [ yes null ↦ inl null | no some ↦ inr (apart some) ]
    where
      apart : on.next.slot ≢ 0 → IsApart
      apart some =
          let router = passes_router q pinned.run (ap (λ (L : Layout). L.radix) pinned.own.layout ∙ radix) k key n
          o.view.log p.view.log t c on w.walk read some in
          record {
            high = router.0;
            other = λ same. true≢false
                (sym router.1 ∙ (ap (covers on.found) same ∙ outside));
            outside = outside;
          }

  found_of : (on.next.slot ≡ 0) ⊎ IsApart → on.found ≡ k → HasFound o q k t.edge.slot t.parent t.side on.found
  found_of (inl null) same = found_so o p q k on.found t on.side on.next w.come told null
  found_of (inr apart) same = absurd (apart.other same)

  over_of : (on.next.slot ≡ 0) ⊎ IsApart → IsOver q k t.edge.slot on.found
  over_of (inl null) = inl (told.learned.leaf null)
  over_of (inr apart) = inr (apart.high, apart.outside)

  stops_here : IsStop true k on → n + 2 ≤ reach b.layout → IsNarrowed o p k t.parent t.side → (r : WalkEnd)
      → r.seek_record ≡ t → r.key ≡ on.found → HasStopped b.layout k o q c r × HasNarrowed o q k r
  stops_here stop few narrowed r seek_record is = rw (seek_record, is) (
    record {
      walk = (n, p.view.log, on, few, w.walk, subst (λ (radix : Bool). IsStop radix k on) (sym radix) stop, read, refl);
      at = at_kept (Tells p) (Tells q) goes.keeps t c w.at;
      within = w.within;
      few = w.short;
      found = found_of (leaf_or_apart stop);
    },
    record {
      read = λ since walks. told.reads since t.parent t.side (w.come since walks);
      narrowed = narrowed_still o p q k t.parent t.side goes narrowed;
      over = over_of (leaf_or_apart stop);
    },
  )

-- ---- a walk by what it stops at

-- it was broken off
pub broken_off : (stop : Stop) (L : Layout) (k : ℕ) (old new : List Entry) (c : List ChainEdge)
    → IsBroken L k old new → SeeksTo stop L k old new c None
broken_off Leaf L k old new c broken = broken
broken_off Place L k old new c broken = broken

-- it has come to its end
pub comes_out : (stop : Stop) (b : TreeView) → (stop ≡ Place → b.layout.radix ≡ true) → (k : ℕ) → IsKey k
    → (n : ℕ) (o p q : PassView) (t : SeekRecord) (c : List ChainEdge) (on : Onward) → IsWalking b.layout k n o p t c
    → Reads k t.edge.slot p.view.log q.view.log on
    → GoesOn p q → OnlyLooks p q → OnwardTold p q k t.edge.slot on.found on.side on.next → IsPinnedIn b q
    → IsStopOf stop k on → n + 2 ≤ reach b.layout → IsNarrowedBy stop o p k t.parent t.side → (r : WalkEnd)
    → r.seek_record ≡ t → r.key ≡ on.found
    → HasCome stop b.layout k o q c r
comes_out Leaf b radix k key n o p q t c on w read goes only told pinned null few narrowed r seek_record is =
    walks_out b.layout k n o p q t c on w read goes only told null few r seek_record is
comes_out Place b radix k key n o p q t c on w read goes only told pinned stop few narrowed r seek_record is =
    stops_here b (radix refl) k key n o p q t c on w read goes told pinned stop few narrowed r seek_record is

-- and has the result of such a walk
pub come_result : (stop : Stop) (L : Layout) (k : ℕ) (o q : PassView) (c : List ChainEdge) (r : WalkEnd)
    → HasCome stop L k o q c r → SeeksTo stop L k o.view.log q.view.log c (Some r)
come_result Leaf L k o q c r come = (come.walk, come.few)
come_result Place L k o q c r come = (come.0.walk, come.0.few)

-- whose steps are within its reach
pub come_steps : (stop : Stop) (L : Layout) (k : ℕ) (o q : PassView) (c : List ChainEdge) (r : WalkEnd)
    → HasCome stop L k o q c r → length q.view.log ≤ length o.view.log + 3 * reach L
come_steps Leaf L k o q c r come = (end_adds L k o.view.log q.view.log r.seek_record c r.key come.walk).steps
come_steps Place L k o q c r come = by come.0.walk
  where
    by : StopsAt L k o.view.log q.view.log r.seek_record c r.key → length q.view.log ≤ length o.view.log + 3 * reach L
    by (n, mid, on, few, walk, stop, reads, is) =
        let above = (walk_adds k n o.view.log mid r.seek_record c walk).steps in
        let last = (reads_add k r.seek_record.edge.slot mid q.view.log on reads).steps in
        omega (arith, above, last, few)
