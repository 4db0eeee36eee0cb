-- The laws of the tree are kept by a link.
use Rattle.std.proofs.Common.{◌≡◌, ℕ, ◌+◌, ◌≢◌, ◌<◌, ◌⊎◌, inl, inr, eqb, Bool, true, false, cond, ◌||◌, ◌&&◌, [], ◌∷◌, length, refl, sym, ap, subst, ◌∙◌, arith, true≢false}
use Rattle.std.specs.Prelude.{Option, Some, None, unwrap_or, is_some, nat_le, ◌≤◌}
use mathlib.Core.Path.{fun_ext}
use Rattle.std.proofs.lemmas.Bool.{leb-true, and_left, cond-true, cond-false, eq-eqb, ne_eqb, and_parts, or_cases}
use Rattle.nm_edge.specs.Edges.{Edge, to, other, is_to}
use Rattle.nm_edge.specs.Layouts.{Layout}
use Rattle.nm_edge.specs.declared.edge.Side.{Side}
use Rattle.nm_edge.specs.declared.edge.Side.TheVariants.{Left, Right}
use Rattle.nm_edge.specs.declared.node.NodeId.{NodeId}
use Rattle.nm_model.specs.declared.event.Event.TheVariants.{Link}
use Rattle.nm_model.specs.declared.reply.Reply.TheVariants.{Linked, Lost}
use Rattle.nm_model.specs.declared.knowledge.Seen.{Seen}
use Rattle.nm_model.specs.Maps.{get, without, has, is_number}
use Rattle.nm_model.specs.Memory.{Memory, edge, put_edge}
use Rattle.nm_model.specs.Knowledge.{Knowledge, unfilled, knows, is_private, draft_of, read, read_on, knows_leaf, beside}
use Rattle.nm_model.specs.Learning.{learn, linked_in}
use Rattle.nm_model.specs.Step.{exchanged, is_fork_over, is_linkable, is_leaf_draft, may_be_over}
use Rattle.nm_model.proofs.Numbers.{number_is}
use Rattle.nm_model.proofs.Tables.{get-without, Ascends, ascends-without}
use Rattle.nm_laws.proofs.Learned.{learn_linked, learn_link_lost}
use Rattle.nm_laws.proofs.Pictures.{InReach, TreeLaw}
use Rattle.nm_laws.proofs.Slots.{hand, hand-others, with_edge-same}
use Rattle.nm_laws.proofs.Links.{picture_linked, IsLink, link_keeps}
use Rattle.nm_laws.proofs.Views.{view, law_of, with_worker, row, same_row, late_rows, queue_rows, learn_view, edge_put, held_queue, drafted_on, seen_met, has_met, has_met_there}
use Rattle.nm_laws.proofs.TreeSlots.{is_to-true, leaf_known, known_live, lost_view}

-- what a linkable draft shows
pub record Linkable (k : Knowledge) (new leaf : ℕ) : Type 0 where
  pub far : ℕ
  pub side : Side
  pub is_far : unwrap_or (beside (draft_of k new) leaf) 0 ≡ far
  pub over_leaf : drafted_on (draft_of k new) side ≡ Some leaf
  pub over_far : (far ≡ 0) ⊎ (drafted_on (draft_of k new) (other side) ≡ Some far)
  pub far_own : is_private k far ≡ true
  pub far_null : (f : Side) → drafted_on (draft_of k far) f ≡ Some 0

pub linkable : (k : Knowledge) (new leaf : ℕ) → is_linkable k new leaf ≡ true → Linkable k new leaf
linkable k new leaf h = go (is_number (draft_of k new).left leaf) refl
    (or_cases (is_number (draft_of k new).left leaf) (is_number (draft_of k new).right leaf) over)
  where
    one : (is_fork_over (draft_of k new) leaf ≡ true)
        × (is_leaf_draft k (unwrap_or (beside (draft_of k new) leaf) 0) ≡ true)
    one = and_parts (is_fork_over (draft_of k new) leaf) _ h

    over : (is_number (draft_of k new).left leaf || is_number (draft_of k new).right leaf) ≡ true
    over = (and_parts (is_some (draft_of k new).key) _ one.0).1

    far : ℕ
    far = unwrap_or (beside (draft_of k new) leaf) 0

    three : (is_private k (unwrap_or (beside (draft_of k new) leaf) 0) ≡ true)
        × ((is_some (draft_of k (unwrap_or (beside (draft_of k new) leaf) 0)).key
        && (is_number (draft_of k (unwrap_or (beside (draft_of k new) leaf) 0)).left 0
        && is_number (draft_of k (unwrap_or (beside (draft_of k new) leaf) 0)).right 0)) ≡ true)
    three = and_parts (is_private k (unwrap_or (beside (draft_of k new) leaf) 0)) _ one.1

    four : (is_number (draft_of k (unwrap_or (beside (draft_of k new) leaf) 0)).left 0 ≡ true)
        × (is_number (draft_of k (unwrap_or (beside (draft_of k new) leaf) 0)).right 0 ≡ true)
    four = and_parts (is_number (draft_of k (unwrap_or (beside (draft_of k new) leaf) 0)).left 0) _
        (and_parts (is_some (draft_of k (unwrap_or (beside (draft_of k new) leaf) 0)).key) _ three.1).1

    null : (f : Side) → drafted_on (draft_of k (unwrap_or (beside (draft_of k new) leaf) 0)) f ≡ Some 0
    null Left = number_is _ 0 four.0
    null Right = number_is _ 0 four.1

    chosen : (o : Option ℕ) → unwrap_or o 0 ≡ unwrap_or (beside (draft_of k new) leaf) 0
        → (unwrap_or (beside (draft_of k new) leaf) 0 ≡ 0) ⊎ (o ≡ Some (unwrap_or (beside (draft_of k new) leaf) 0))
    chosen None h = inl (sym h)
    chosen (Some x) h = inr (ap Some h)

    go : (b : Bool) → is_number (draft_of k new).left leaf ≡ b
        → (is_number (draft_of k new).left leaf ≡ true) ⊎ (is_number (draft_of k new).right leaf ≡ true)
        → Linkable k new leaf
    go true i c = record {
      far = unwrap_or (beside (draft_of k new) leaf) 0;
      side = Left;
      is_far = refl;
      over_leaf = number_is _ leaf i;
      over_far = chosen (draft_of k new).right (ap (λ (b : Bool). unwrap_or
          (cond b (draft_of k new).right (draft_of k new).left) 0) (sym i));
      far_own = three.0;
      far_null = null;
    }
    go false i (inl c) = absurd (true≢false (sym c ∙ i))
    go false i (inr c) = record {
      far = unwrap_or (beside (draft_of k new) leaf) 0;
      side = Right;
      is_far = refl;
      over_leaf = number_is _ leaf c;
      over_far = chosen (draft_of k new).left (ap (λ (b : Bool). unwrap_or
          (cond b (draft_of k new).right (draft_of k new).left) 0) (sym i));
      far_own = three.0;
      far_null = null;
    }

-- the slot is known as a leaf, or it is a slot above 5 of a radix tree
over_it : (L : Layout) (k : Knowledge) (x : ℕ) → may_be_over L k x ≡ true
    → (knows_leaf k x ≡ true) ⊎ ((L.radix ≡ true) × (6 ≤ x))
over_it L k x h = elim (or_cases (knows_leaf k x) (L.radix && nat_le 6 x) h) [
  | inl leafy ↦ inl leafy
  | inr high ↦ let two = and_parts L.radix (nat_le 6 x) high in inr (two.0, leb-true 6 x two.1)
]

pub link_shown : (L : Layout) (N : ℕ) (m : Memory) (kn : ℕ → Knowledge) (hold : ℕ → ℕ) (w p : ℕ) (d : Side)
    (leaf new : ℕ) → knows (kn w) p ≡ true → knows (kn w) leaf ≡ true → may_be_over L (kn w) leaf ≡ true
    → is_private (kn w) new ≡ true
    → (l : Linkable (kn w) new leaf) → edge m p d ≡ to leaf → TreeLaw N (view m kn hold)
    → IsLink L.radix N (view m kn hold) w p d leaf new l.far l.side
link_shown L N m kn hold w p d leaf new known held leafy own l is law = record {
  live = known_live N m kn hold w p law known;
  is_slot = λ z. let r = law.known w p known in omega arith;
  inside = (law.known w p known).1;
  unmarked = is;
  leaf_slot = leaf_slot;
  is_leaf = λ search. shown_leaf search (over_it L (kn w) leaf leafy);
  over = either (over_it L (kn w) leaf leafy);
  own = own;
  far_own = l.far_own;
  apart = λ e. leaf_slot (ap (λ (y : Edge). y.slot)
      (sym over ∙ (ap (λ (y : ℕ). edge m y l.side) e ∙ (law.drafts w l.far l.side 0 (l.far_null l.side)).1)));
  over_leaf = over;
  over_far = beside_it l.over_far;
  far_leaf = λ f. (law.drafts w l.far f 0 (l.far_null f)).1;
}
  where
    leaf_slot : leaf ≢ 0
    leaf_slot z = let r = law.known w leaf held in omega arith

    null : knows_leaf (kn w) leaf ≡ true → (f : Side) → (edge m leaf f).slot ≡ 0
    null is = leaf_known N m kn hold w leaf law (known_live N m kn hold w leaf law held) is

    shown_leaf : L.radix ≡ false → (knows_leaf (kn w) leaf ≡ true) ⊎ ((L.radix ≡ true) × (6 ≤ leaf)) → (f : Side)
        → (edge m leaf f).slot ≡ 0
    shown_leaf search (inl is) = null is
    shown_leaf search (inr high) = absurd (true≢false (sym high.0 ∙ search))

    either : (knows_leaf (kn w) leaf ≡ true) ⊎ ((L.radix ≡ true) × (6 ≤ leaf))
        → ((f : Side) → (edge m leaf f).slot ≡ 0) ⊎ (6 ≤ leaf)
    either (inl is) = inl (null is)
    either (inr high) = inr high.1

    over : edge m new l.side ≡ to leaf
    over = (law.drafts w new l.side leaf l.over_leaf).1

    beside_it : (l.far ≡ 0) ⊎ (drafted_on (draft_of (kn w) new) (other l.side) ≡ Some l.far)
        → edge m new (other l.side) ≡ to l.far
    beside_it (inl z) = let r = law.privates w l.far l.far_own in absurd (omega arith)
    beside_it (inr h) = (law.drafts w new (other l.side) l.far h).1

link_won : (r : Bool) (N : ℕ) (m : Memory) (kn : ℕ → Knowledge) (hold : ℕ → ℕ) (w p : ℕ) (d : Side) (leaf new : ℕ)
    (n : NodeId) → p < length m.nodes → knows (kn w) p ≡ true → (l : Linkable (kn w) new leaf)
    → IsLink r N (view m kn hold) w p d leaf new l.far l.side → Ascends (kn w).drafts → TreeLaw N (view m kn hold)
    → TreeLaw N (view (put_edge m p d (to new)) (with_worker kn w (linked_in (kn w) leaf new)) hold)
link_won r N m kn hold w p d leaf new n inside known l shown keys law = subst
    (λ (f : ℕ → Knowledge). TreeLaw N (view (put_edge m p d (to new)) f hold)) twice
    (learn_view N (put_edge m p d (to new)) kn1 hold w (linked_in (kn w) leaf new) (record {
      pin = sym (ap (λ (y : Knowledge). y.brief.pin) mine);
      queue = λ o. sym (ap (λ (y : Knowledge). held_queue y o) mine);
      private = λ x. sym (ap (λ (y : Knowledge). is_private y x) mine);
      drafted = λ x g. sym (ap (λ (y : Knowledge). drafted_on (draft_of y x) g) mine);
      met = λ x h. inl (met_now x (has_met (kn w).known new x h));
      heard = λ x g e h. let old = sym (read_same x g) ∙ h in
          (too x (law.reads w x g e old), inl (ap (λ (y : Knowledge). read y x g) mine ∙ old));
    }) first)
  where
    k1 : Knowledge
    k1 = record (kn w) {
      drafts = without (without (kn w).drafts new)
          (unwrap_or (beside (draft_of (kn w) new) leaf) 0);
    }

    kn1 : ℕ → Knowledge
    kn1 = with_worker kn w k1

    mine : kn1 w ≡ k1
    mine = cond-true (eqb w w) k1 (kn w) (eq-eqb w w refl)

    twice : with_worker kn1 w (linked_in (kn w) leaf new) ≡ with_worker kn w (linked_in (kn w) leaf new)
    twice = fun_ext (λ u. go u (eqb u w))
      where
        go : (u : ℕ) (b : Bool) → cond b (linked_in (kn w) leaf new) (cond b k1 (kn u))
            ≡ cond b (linked_in (kn w) leaf new) (kn u)
        go u true = refl
        go u false = refl

    draft_gone : (x : ℕ) → get k1.drafts x ≡ cond (eqb x l.far) None (cond (eqb x new) None (get (kn w).drafts x))
    draft_gone x = get-without (without (kn w).drafts new) (unwrap_or (beside (draft_of (kn w) new) leaf) 0) x
        (ascends-without (kn w).drafts new keys)
        ∙ (ap (λ (y : ℕ). cond (eqb x y) None (get (without (kn w).drafts new) x)) l.is_far
        ∙ ap (cond (eqb x l.far) None) (get-without (kn w).drafts new x keys))

    gone : (u x : ℕ) → u ≡ w → is_private k1 x ≡ hand (hand (λ v. is_private (kn v)) w new false) w l.far false u x
    gone u x e = ap is_some (draft_gone x) ∙ go (eqb x l.far) (eqb x new)
      where
        go : (a b : Bool) → is_some (cond a None (cond b None (get (kn w).drafts x)))
            ≡ cond (eqb u w && a) false (cond (eqb u w && b) false (is_private (kn u) x))
        go a b = rw (eq-eqb u w e) (by a b)
          where
            by : (a b : Bool) → is_some (cond a None (cond b None (get (kn w).drafts x)))
                ≡ cond a false (cond b false (is_private (kn u) x))
            by true b = refl
            by false true = refl
            by false false = ap (λ (v : ℕ). is_private (kn v) x) (sym e)

    draft_is : (u x : ℕ) (g : Side) → u ≡ w → drafted_on (draft_of k1 x) g
        ≡ cond (eqb u w && eqb x l.far) None (cond (eqb u w && eqb x new) None (drafted_on (draft_of (kn u) x) g))
    draft_is u x g e = ap (λ o. drafted_on (unwrap_or o unfilled) g) (draft_gone x) ∙ go (eqb x l.far) (eqb x new)
      where
        go : (a b : Bool) → drafted_on (unwrap_or (cond a None (cond b None (get (kn w).drafts x))) unfilled) g
            ≡ cond (eqb u w && a) None (cond (eqb u w && b) None (drafted_on (draft_of (kn u) x) g))
        go a b = rw (eq-eqb u w e) (by a b g)
          where
            by : (a b : Bool) (g : Side) → drafted_on (unwrap_or (cond a None (cond b None (get (kn w).drafts x)))
                unfilled) g ≡ cond a None (cond b None (drafted_on (draft_of (kn u) x) g))
            by true b Left = refl
            by true b Right = refl
            by false true Left = refl
            by false true Right = refl
            by false false g = ap (λ (v : ℕ). drafted_on (draft_of (kn v) x) g) (sym e)

    first : TreeLaw N (view (put_edge m p d (to new)) kn1 hold)
    first = law_of N (picture_linked (view m kn hold) w p d new l.far) (view (put_edge m p d (to new)) kn1 hold)
        (link_keeps r N (view m kn hold) w p d leaf new l.far l.side law shown) (record {
          edges = λ x g. sym (edge_put m p d (to new) inside x g);
          pool = λ x. refl;
          private = λ u x. sym (row (λ y. is_private y x) kn w k1 u
              (hand (hand (λ v. is_private (kn v)) w new false) w l.far false u x) (λ e. gone u x e)
              (λ ne. sym (hand-others (hand (λ v. is_private (kn v)) w new false) w l.far false u x ne
              ∙ hand-others (λ v. is_private (kn v)) w new false u x ne)));
          queue = queue_rows kn hold w k1 (λ o. refl);
          knows = λ u x. same_row (λ y. knows y x) kn w k1 refl u;
          read = λ u x g. same_row (λ y. read y x g) kn w k1 refl u;
          drafted = λ u x g. sym (row (λ y. drafted_on (draft_of y x) g) kn w k1 u
              (cond (eqb u w && eqb x l.far) None (cond (eqb u w && eqb x new) None (drafted_on (draft_of (kn u) x) g)))
              (λ e. draft_is u x g e)
              (λ ne. sym (cond-false (eqb u w && eqb x l.far) None _ (and_left (eqb u w) (eqb x l.far) (ne_eqb u w ne))
              ∙ cond-false (eqb u w && eqb x new) None _ (and_left (eqb u w) (eqb x new) (ne_eqb u w ne)))));
          late = late_rows kn hold w k1 refl (λ o. refl);
        })

    known_now : knows (kn1 w) p ≡ true
    known_now = ap (λ (y : Knowledge). knows y p) mine ∙ known

    met_now : (x : ℕ) → ((x ≡ new) × (new ≢ 0)) ⊎ (has (kn w).known x ≡ true)
        → InReach (view (put_edge m p d (to new)) kn1 hold) w x
    met_now x (inl e) = record {
      from = p;
      known = known_now;
      path = d
          ∷ [];
      ends = ap (λ (y : Edge). y.slot) (edge_put m p d (to new) inside p d
          ∙ with_edge-same (edge m) p d (to new)) ∙ sym e.0;
      is_slot = λ z. let r = law.privates w new shown.own in
          omega arith;
    }
    met_now x (inr h) = record {
      from = x;
      known = ap (λ (y : Knowledge). knows y x) mine
          ∙ h;
      path = [];
      ends = refl;
      is_slot = λ z. let r = law.known w x h in omega arith;
    }

    read_same : (x : ℕ) (g : Side) → read (linked_in (kn w) leaf new) x g ≡ read (kn w) x g
    read_same x g = ap (λ (y : Seen). read_on y g) (seen_met (kn w).known new x)

    too : (x : ℕ) → knows (kn w) x ≡ true → knows (linked_in (kn w) leaf new) x ≡ true
    too x h = has_met_there (kn w).known new x h

pub link_view : (L : Layout) (N : ℕ) (m : Memory) (kn : ℕ → Knowledge) (hold : ℕ → ℕ) (w p : ℕ) (d : Side)
    (leaf new : ℕ) (n : NodeId) → length m.nodes ≡ N + 1 → knows (kn w) p ≡ true → knows (kn w) leaf ≡ true
    → may_be_over L (kn w) leaf ≡ true → is_private (kn w) new ≡ true → is_linkable (kn w) new leaf ≡ true
    → Ascends (kn w).drafts → TreeLaw N (view m kn hold)
    → TreeLaw N (view (exchanged m p d leaf (to new))
    (with_worker kn w (learn w (kn w) (Link p d leaf new)
    (cond (is_to (edge m p d) leaf) (Linked n) (Lost (edge m p d))))) hold)
link_view L N m kn hold w p d leaf new n size known held leafy own ready keys law = go (is_to (edge m p d) leaf) refl
  where
    inside : p < length m.nodes
    inside = let r = law.known w p known in omega arith

    l : Linkable (kn w) new leaf
    l = linkable (kn w) new leaf ready

    go : (b : Bool) → is_to (edge m p d) leaf ≡ b → TreeLaw N
        (view (cond b (put_edge m p d (to new)) m) (with_worker kn w
        (learn w (kn w) (Link p d leaf new) (cond b (Linked n) (Lost (edge m p d))))) hold)
    go false h = rw (learn_link_lost w (kn w) p d leaf new (edge m p d)) (lost_view N m kn hold w p d known law)
    go true h = rw (learn_linked w (kn w) p d leaf new n)
        (link_won L.radix N m kn hold w p d leaf new n inside known l
        (link_shown L N m kn hold w p d leaf new known held leafy own l (is_to-true (edge m p d) leaf h) law) keys law)
