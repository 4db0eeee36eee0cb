-- Two new nodes, filled and linked.
use Rattle.std.proofs.Common.{◌≡◌, ◌≢◌, ◌<◌, ◌⊎◌, inl, inr, ℕ, Bool, true, false, cond, refl, sym, ap, subst, ◌∙◌, arith}
use Rattle.std.specs.Prelude.{Some, nat_lt}
use Rattle.std.proofs.lemmas.Bool.{ltb-true, ltb-false}
use Rattle.nm_edge.specs.declared.edge.Side.{Side}
use Rattle.nm_walks.specs.Places.{IsOver}
use Rattle.nm_model.specs.declared.event.Op.TheVariants.{Insert}
use Rattle.nm_model.specs.declared.knowledge.Draft.{Draft}
use Rattle.nm_model.specs.Maps.{get}
use Rattle.nm_model.specs.Searches.{Search}
use Rattle.nm_order.specs.Facts.Since.{ThePin}
use Rattle.nm_order.specs.Facts.Fact.{KnowsLeaf, CallIs, ReadKey, EndedAt}
use Rattle.nm_steps.specs.Rules.{knowledge}
use Rattle.nm_steps.specs.Steps.{PassView}
use Rattle.nm_walks.specs.declared.making.Contents.{Contents}
use Rattle.nm_walks.specs.declared.making.NewNodes.{NewNodes}
use Rattle.nm_walks.specs.declared.seek_record.WalkEnd.{WalkEnd}
use Rattle.nm_walks.specs.Telling.{GoesOn}
use Rattle.nm_walks.specs.Making.{draft, with_node, IsFilled, IsInserting, IsPlace, IsRouter, IsWithin, KeepsOtherSlots, OnlyMakes}
use Rattle.nm_walks.specs.Growing.{inner_of, MayGrow}
use Rattle.nm_walks.proofs.Makes.{is_filled, same_draft, is_filled_still}

-- the internal node that a new_nodes asks for
as_fork : (q : PassView) (key other router leaf new fresh birth : ℕ) (i : Contents)
    → i ≡ inner_of key other router leaf fresh → other ≢ key → IsFilled q new birth i.key i.left i.right
    → ((key < other) × IsFilled q new birth router fresh leaf)
    ⊎ ((other < key) × IsFilled q new birth router leaf fresh)
as_fork q key other router leaf new fresh birth i is ne f = go (nat_lt key other) refl
  where
    node : Bool → Contents
    node b = cond {A = Contents} b (record { key = router; left = fresh; right = leaf })
        (record { key = router; left = leaf; right = fresh })

    go : (b : Bool) → nat_lt key other ≡ b → ((key < other) × IsFilled q new birth router fresh leaf)
        ⊎ ((other < key) × IsFilled q new birth router leaf fresh)
    go true less = let at : i ≡ node true = is ∙ ap node less in
        inl (ltb-true key other less, subst (λ (j : Contents). IsFilled q new birth j.key j.left j.right) at f)
    go false more = let at : i ≡ node false = is ∙ ap node more in let least = ltb-false key other more in
        inr (omega (arith, ne, least), subst (λ (j : Contents). IsFilled q new birth j.key j.left j.right) at f)

-- where the call may put its key stays so
over_kept : (p q : PassView) (k x key : ℕ) → GoesOn p q → IsOver p k x key → IsOver q k x key
over_kept p q k x key on (inl leaf) = inl (on.keeps (KnowsLeaf x) leaf)
over_kept p q k x key on (inr out) = inr out

within_kept : (p q : PassView) (k parent : ℕ) (side : Side) → GoesOn p q → IsWithin p k parent side
    → IsWithin q k parent side
within_kept p q k parent side on (inl first) = inl first
within_kept p q k parent side on (inr w) = inr (
  w.0,
  w.1,
  w.2,
  w.3,
  w.4,
  on.keeps
      (ReadKey ThePin k parent w.1 w.2 w.0) w.5,
)

pub place_kept : (b : Bool) (p q : PassView) (k x parent : ℕ) (side : Side) (key : ℕ) → GoesOn p q
    → IsPlace b p k x parent side key → IsPlace b q k x parent side key
place_kept false p q k x parent side key on h = (
  on.keeps (KnowsLeaf x) h.0,
  on.keeps
      (EndedAt ThePin k x parent side key) h.1,
)
place_kept true p q k x parent side key on h = (
  over_kept p q k x key on h.0,
  on.keeps
      (ReadKey ThePin k x parent side key) h.1,
  within_kept p q k parent side on h.2,
)

same_radix : (p q : PassView) → GoesOn p q → q.view.layout.radix ≡ p.view.layout.radix
same_radix p q on = ap (λ (x : PassView). x.view.layout.radix) on.same

place_later : (p q : PassView) (k x parent : ℕ) (side : Side) (key : ℕ) → GoesOn p q
    → IsPlace p.view.layout.radix p k x parent side key → IsPlace q.view.layout.radix q k x parent side key
place_later p q k x parent side key on h = subst (λ (b : Bool). IsPlace b q k x parent side key)
    (sym (same_radix p q on)) (place_kept p.view.layout.radix p q k x parent side key on h)

pub inserting : (p r q : PassView) (key : ℕ) (e : WalkEnd) (f : NewNodes) (i : Contents) → MayGrow p key e f
    → IsRouter p.view.layout.radix key e.key i.key → i ≡ inner_of key e.key i.key e.seek_record.edge.slot f.leaf.slot
    → GoesOn p r → OnlyMakes p r → get (knowledge r.view).drafts f.internal.slot
    ≡ Some (with_node (draft p f.internal.slot) i.key i.left i.right) → KeepsOtherSlots f.internal.slot p r
    → GoesOn r q → OnlyMakes r q → get (knowledge q.view).drafts f.leaf.slot
    ≡ Some (with_node (draft r f.leaf.slot) key 0 0) → KeepsOtherSlots f.leaf.slot r q
    → IsInserting q e.seek_record.parent e.seek_record.side e.seek_record.edge.slot f.internal.slot f.leaf.slot
inserting p r q key e f i may between is on only new others on' only' fresh others' = record {
  key = key;
  other = e.key;
  call = on'.keeps (CallIs Insert key) (on.keeps (CallIs Insert key) may.call);
  not_linked = ap (λ (s : Search). s.linked) only'.search ∙ (ap (λ (s : Search). s.linked) only.search ∙ may.unlinked);
  not_swapped = ap (λ (s : Search). s.swapped) only'.search
      ∙ (ap (λ (s : Search). s.swapped) only.search ∙ may.unswapped);
  place = place_later r q key e.seek_record.edge.slot e.seek_record.parent e.seek_record.side e.key on'
      (place_later p r key e.seek_record.edge.slot e.seek_record.parent e.seek_record.side e.key on may.place);
  apart = may.other;
  new_nodes = record {
    router = i.key;
    between = subst (λ (b : Bool). IsRouter b key e.key i.key) (sym (same_radix r q on' ∙ same_radix p r on)) between;
    new_birth = f.internal.birth;
    fresh_birth = f.leaf.birth;
    apart = may.ready.apart;
    as_leaf = is_filled r q f.leaf.slot f.leaf.birth key 0 0
        (ap (λ (d : Draft). d.birth) (same_draft p r f.leaf.slot
        (others f.leaf.slot (λ same. may.ready.apart (sym same)))) ∙ may.ready.fresh_birth) fresh;
    as_fork = as_fork q key e.key i.key e.seek_record.edge.slot f.internal.slot f.leaf.slot f.internal.birth i is
        may.other
        (is_filled_still r q f.internal.slot f.internal.birth i.key i.left i.right
        (others' f.internal.slot may.ready.apart) (is_filled p r f.internal.slot f.internal.birth i.key i.left
        i.right may.ready.new_birth new));
  };
}
