-- The laws of the tree are kept by a swap.
use Rattle.std.proofs.Common.{◌≡◌, ℕ, ◌+◌, ◌≢◌, ◌<◌, ◌≤◌, ◌⊎◌, inl, inr, eqb, ltb, Bool, true, false, cond, ◌&&◌, List, [], ◌∷◌, ◌++◌, ◌-◌, length, refl, sym, ap, ◌∙◌, arith, subst}
use Rattle.std.specs.Prelude.{Some, None, option_map, slice_get, unwrap_or, is_some, map}
use native.Mathlib.Decide.{ℕ_discrete}
use mathlib.Core.Path.{fun_ext}
use Rattle.std.proofs.lemmas.Bool.{cond-true, cond-false, eq-eqb, ne_eqb, and_parts, and_left}
use Rattle.std.proofs.lemmas.Option.{slice_get_past}
use Rattle.nm_edge.specs.Edges.{Edge, to, is_to}
use Rattle.nm_edge.specs.declared.edge.Side.{Side}
use Rattle.nm_edge.specs.declared.edge.Side.TheVariants.{Left, Right}
use Rattle.nm_edge.specs.declared.node.NodeId.{NodeId}
use Rattle.nm_model.specs.declared.event.Event.TheVariants.{Swap}
use Rattle.nm_model.specs.declared.reply.Reply.TheVariants.{Cut, Lost}
use Rattle.nm_model.specs.declared.knowledge.Seen.{Seen}
use Rattle.nm_model.specs.declared.ledger.Queued.{Queued}
use Rattle.nm_model.specs.Maps.{get, without, has, is_number}
use Rattle.nm_model.specs.Memory.{Memory, edge, put_edge, named}
use Rattle.nm_model.specs.Ledgers.{queue_of, unlabelled, with_cut}
use Rattle.nm_model.specs.Knowledge.{Knowledge, unfilled, knows, is_private, draft_of, read, read_on, knows_leaf}
use Rattle.nm_model.specs.Learning.{learn, cutting, swapped_in}
use Rattle.nm_model.specs.Places.{slot_of}
use Rattle.nm_model.specs.Step.{exchanged, is_leaf_draft}
use Rattle.nm_model.proofs.Numbers.{number_is}
use Rattle.nm_model.proofs.Tables.{get-without, Ascends}
use Rattle.nm_laws.proofs.Held.{held-retire_same, held-retire_other}
use Rattle.nm_laws.proofs.Learned.{learn_swapped, learn_swap_lost}
use Rattle.nm_laws.proofs.Pictures.{InReach, TreeLaw}
use Rattle.nm_laws.proofs.Slots.{hand, hand-others, with_edge-same}
use Rattle.nm_laws.proofs.Swaps.{picture_swapped, IsSwap, swap_keeps}
use Rattle.nm_laws.proofs.Views.{view, law_of, with_worker, row, same_row, learn_view, edge_put, held_queue, queued_at, is_late, drafted_on, seen_met, has_met, has_met_there}
use Rattle.nm_laws.proofs.TreeSlots.{is_to-true, leaf_known, known_live, lost_view}
use Rattle.nm_laws.proofs.TreeSplice.{Owns, queue_append, late_append}

-- a leaf that is filled has no edge
pub draft_is_leaf : (k : Knowledge) (x : ℕ) → is_leaf_draft k x ≡ true → (f : Side)
    → drafted_on (draft_of k x) f ≡ Some 0
draft_is_leaf k x h = on
  where
    two : (is_number (draft_of k x).left 0 ≡ true) × (is_number (draft_of k x).right 0 ≡ true)
    two = and_parts (is_number (draft_of k x).left 0) _
        (and_parts (is_some (draft_of k x).key) _ (and_parts (is_private k x) _ h).1).1

    on : (f : Side) → drafted_on (draft_of k x) f ≡ Some 0
    on Left = number_is _ 0 two.0
    on Right = number_is _ 0 two.1

pub swap_shown : (N : ℕ) (m : Memory) (kn : ℕ → Knowledge) (hold : ℕ → ℕ) (w p : ℕ) (d : Side) (leaf new : ℕ)
    → 6 ≤ leaf → knows (kn w) p ≡ true → knows (kn w) leaf ≡ true → knows_leaf (kn w) leaf ≡ true
    → is_private (kn w) new ≡ true
    → is_leaf_draft (kn w) new ≡ true → edge m p d ≡ to leaf → TreeLaw N (view m kn hold)
    → IsSwap N (view m kn hold) w (length (held_queue (kn (hold w)) w)) p d leaf new
swap_shown N m kn hold w p d leaf new high known held leafy own ready is law = record {
  live = known_live N m kn hold w p law known;
  is_slot = λ z. let r = law.known w p known in omega arith;
  inside = (law.known w p known).1;
  unmarked = is;
  high = high;
  is_leaf = leaf_known N m kn hold w leaf law (known_live N m kn hold w leaf law held) leafy;
  own = own;
  new_leaf = λ f. (law.drafts w new f 0 (draft_is_leaf (kn w) new ready f)).1;
  full = λ i past. ap (option_map slot_of) (slice_get_past (held_queue (kn (hold w)) w) i past);
}

swap_won : (N : ℕ) (m : Memory) (kn : ℕ → Knowledge) (hold : ℕ → ℕ) (w p : ℕ) (d : Side) (leaf new : ℕ)
    → p < length m.nodes → knows (kn w) p ≡ true → Owns kn hold w
    → IsSwap N (view m kn hold) w (length (held_queue (kn (hold w)) w)) p d leaf new → Ascends (kn w).drafts
    → TreeLaw N (view m kn hold)
    → TreeLaw N (view (put_edge m p d (to new))
    (with_worker kn w (cutting w (swapped_in (kn w) new) (named m leaf ∷ []))) hold)
swap_won N m kn hold w p d leaf new inside known owns shown keys law =
    subst (λ (f : ℕ → Knowledge). TreeLaw N (view (put_edge m p d (to new)) f hold)) twice
    (learn_view N (put_edge m p d (to new)) kn1 hold w k2 (record {
      pin = sym (ap (λ (y : Knowledge). y.brief.pin) mine);
      queue = λ o. sym (ap (λ (y : Knowledge). held_queue y o) mine);
      private = λ x. sym (ap (λ (y : Knowledge). is_private y x) mine);
      drafted = λ x g. sym (ap (λ (y : Knowledge). drafted_on (draft_of y x) g) mine);
      met = λ x h. inl (met_now x (has_met (kn w).known new x h));
      heard = λ x g e h. let old = sym (read_same x g)
          ∙ h in (too x (law.reads w x g e old), inl (ap (λ (y : Knowledge). read y x g) mine ∙ old));
    }) first)
  where
    ns : List NodeId
    ns = named m leaf ∷ []

    k1 : Knowledge
    k1 = cutting w (record (kn w) { drafts = without (kn w).drafts new }) (named m leaf ∷ [])

    k2 : Knowledge
    k2 = cutting w (swapped_in (kn w) new) (named m leaf ∷ [])

    kn1 : ℕ → Knowledge
    kn1 = with_worker kn w k1

    mine : kn1 w ≡ k1
    mine = cond-true (eqb w w) k1 (kn w) (eq-eqb w w refl)

    twice : with_worker kn1 w k2 ≡ with_worker kn w k2
    twice = fun_ext (λ u. go u (eqb u w))
      where
        go : (u : ℕ) (b : Bool) → cond b k2 (cond b k1 (kn u)) ≡ cond b k2 (kn u)
        go u true = refl
        go u false = refl

    draft_gone : (x : ℕ) → get k1.drafts x ≡ cond (eqb x new) None (get (kn w).drafts x)
    draft_gone x = get-without (kn w).drafts new x keys

    gone : (u x : ℕ) → u ≡ w → is_private k1 x ≡ hand (λ v. is_private (kn v)) w new false u x
    gone u x e = ap is_some (draft_gone x) ∙ go (eqb x new)
      where
        go : (b : Bool) → is_some (cond b None (get (kn w).drafts x)) ≡ cond (eqb u w && b) false (is_private (kn u) x)
        go b = rw (eq-eqb u w e) (by b)
          where
            by : (b : Bool) → is_some (cond b None (get (kn w).drafts x)) ≡ cond b false (is_private (kn u) x)
            by true = refl
            by false = ap (λ (v : ℕ). is_private (kn v) x) (sym e)

    draft_is : (u x : ℕ) (g : Side) → u ≡ w
        → drafted_on (draft_of k1 x) g ≡ cond (eqb u w && eqb x new) None (drafted_on (draft_of (kn u) x) g)
    draft_is u x g e = ap (λ o. drafted_on (unwrap_or o unfilled) g) (draft_gone x) ∙ go (eqb x new)
      where
        go : (b : Bool) → drafted_on (unwrap_or (cond b None (get (kn w).drafts x)) unfilled) g ≡ cond
            (eqb u w && b) None (drafted_on (draft_of (kn u) x) g)
        go b = rw (eq-eqb u w e) (by b g)
          where
            by : (b : Bool) (g : Side)
                → drafted_on (unwrap_or (cond b None (get (kn w).drafts x)) unfilled) g ≡ cond b None
                (drafted_on (draft_of (kn u) x) g)
            by true Left = refl
            by true Right = refl
            by false g = ap (λ (v : ℕ). drafted_on (draft_of (kn v) x) g) (sym e)

    -- the own queue is longer by the leaf
    own_before : held_queue (kn (hold w)) w ≡ owns.ledger.queue
    own_before = ap (λ (y : ℕ). held_queue (kn y) w) owns.holder ∙ ap queue_of owns.is_held

    own_now : held_queue k1 w ≡ held_queue (kn (hold w)) w ++ map unlabelled ns
    own_now = ap queue_of (held-retire_same (kn w).ledgers w ns owns.inside
        ∙ ap (option_map (with_cut ns)) owns.is_held)
        ∙ ap (λ (q : List Queued). q ++ map unlabelled ns) (sym own_before)

    queue_now : (o : ℕ) → held_queue (with_worker kn w k1 (hold o)) o ≡ cond (eqb o w)
        (held_queue (kn (hold w)) w ++ map unlabelled ns) (held_queue (kn (hold o)) o)
    queue_now o = elim (ℕ_discrete o w) [
      | yes same ↦ rw same (row (λ y. held_queue y w) kn w k1 (hold w)
          (cond (eqb w w) (held_queue (kn (hold w)) w ++ map unlabelled ns) (held_queue (kn (hold w)) w))
          (λ _. own_now ∙ sym (cond-true (eqb w w) (held_queue (kn (hold w)) w ++ map unlabelled ns)
          (held_queue (kn (hold w)) w) (eq-eqb w w refl)))
          (λ ne. absurd (ne owns.holder)))
      | no ne ↦ row (λ y. held_queue y o) kn w k1 (hold o)
          (cond (eqb o w) (held_queue (kn (hold w)) w ++ map unlabelled ns) (held_queue (kn (hold o)) o))
          (λ own. ap queue_of (held-retire_other (kn w).ledgers w ns o ne)
          ∙ (ap (λ (y : ℕ). held_queue (kn y) o) (sym own)
          ∙ sym (cond-false (eqb o w) (held_queue (kn (hold w)) w ++ map unlabelled ns)
          (held_queue (kn (hold o)) o) (ne_eqb o w ne))))
          (λ _. sym (cond-false (eqb o w) (held_queue (kn (hold w)) w ++ map unlabelled ns)
          (held_queue (kn (hold o)) o) (ne_eqb o w ne)))
    ]

    queue_at : (o i : ℕ) (b : Bool) → eqb o w ≡ b
        → queued_at (cond b (held_queue (kn (hold w)) w ++ map unlabelled ns) (held_queue (kn (hold o)) o)) i
        ≡ cond b (cond (ltb i (length (held_queue (kn (hold w)) w))) (queued_at (held_queue (kn (hold w)) w) i)
        (slice_get (leaf ∷ []) (i - length (held_queue (kn (hold w)) w))))
        (queued_at (held_queue (kn (hold o)) o) i)
    queue_at o i true at = queue_append (held_queue (kn (hold w)) w) ns i
    queue_at o i false at = refl

    late_at : (u o i : ℕ) (b : Bool) → eqb o w ≡ b
        → is_late (kn u).brief.pin
        (slice_get (cond b (held_queue (kn (hold w)) w ++ map unlabelled ns) (held_queue (kn (hold o)) o)) i)
        ≡ cond b (cond (ltb i (length (held_queue (kn (hold w)) w)))
        (is_late (kn u).brief.pin (slice_get (held_queue (kn (hold w)) w) i)) false)
        (is_late (kn u).brief.pin (slice_get (held_queue (kn (hold o)) o) i))
    late_at u o i true at = late_append (kn u).brief.pin (held_queue (kn (hold w)) w) ns i
    late_at u o i false at = refl

    first : TreeLaw N (view (put_edge m p d (to new)) kn1 hold)
    first = law_of N (picture_swapped (view m kn hold) w (length (held_queue (kn (hold w)) w)) p d leaf new)
        (view (put_edge m p d (to new)) kn1 hold)
        (swap_keeps N (view m kn hold) w (length (held_queue (kn (hold w)) w)) p d leaf new law shown) (record {
          edges = λ x g. sym (edge_put m p d (to new) inside x g);
          pool = λ x. refl;
          private = λ u x. sym (row (λ y. is_private y x) kn w k1 u (hand (λ v. is_private (kn v)) w new false u x)
              (λ e. gone u x e) (λ ne. sym (hand-others (λ v. is_private (kn v)) w new false u x ne)));
          queue = λ o i. sym (ap (λ q. queued_at q i) (queue_now o) ∙ queue_at o i (eqb o w) refl);
          knows = λ u x. same_row (λ y. knows y x) kn w k1 refl u;
          read = λ u x g. same_row (λ y. read y x g) kn w k1 refl u;
          drafted = λ u x g. sym
              (row (λ y. drafted_on (draft_of y x) g) kn w k1 u
              (cond (eqb u w && eqb x new) None (drafted_on (draft_of (kn u) x) g)) (λ e. draft_is u x g e)
              (λ ne. sym (cond-false (eqb u w && eqb x new) None _ (and_left (eqb u w) (eqb x new) (ne_eqb u w ne)))));
          late = λ u o i. sym (ap (λ q. is_late q (slice_get (held_queue (with_worker kn w k1 (hold o)) o) i))
              (sym (same_row (λ y. y.brief.pin) kn w k1 refl u))
              ∙ (ap (λ q. is_late (kn u).brief.pin (slice_get q i)) (queue_now o) ∙ late_at u o i (eqb o w) refl));
        })

    known_now : knows (kn1 w) p ≡ true
    known_now = ap (λ (y : Knowledge). knows y p) mine ∙ known

    met_now : (x : ℕ) → ((x ≡ new) × (new ≢ 0)) ⊎ (has (kn w).known x ≡ true)
        → InReach (view (put_edge m p d (to new)) kn1 hold) w x
    met_now x (inl e) = record {
      from = p;
      known = known_now;
      path = d ∷ [];
      ends =
          ap (λ (y : Edge). y.slot) (edge_put m p d (to new) inside p d ∙ with_edge-same (edge m) p d (to new))
          ∙ sym e.0;
      is_slot = λ z. let r = law.privates w new shown.own in omega arith;
    }
    met_now x (inr h) = record {
      from = x;
      known = ap (λ (y : Knowledge). knows y x) mine
          ∙ h;
      path = [];
      ends = refl;
      is_slot = λ z. let r = law.known w x h in omega arith;
    }

    read_same : (x : ℕ) (g : Side) → read k2 x g ≡ read (kn w) x g
    read_same x g = ap (λ (y : Seen). read_on y g) (seen_met (kn w).known new x)

    too : (x : ℕ) → knows (kn w) x ≡ true → knows k2 x ≡ true
    too x h = has_met_there (kn w).known new x h

pub swap_view : (N : ℕ) (m : Memory) (kn : ℕ → Knowledge) (hold : ℕ → ℕ) (w p : ℕ) (d : Side) (leaf new : ℕ)
    → length m.nodes ≡ N + 1 → Owns kn hold w → 6 ≤ leaf → knows (kn w) p ≡ true → knows (kn w) leaf ≡ true
    → knows_leaf (kn w) leaf ≡ true → is_private (kn w) new ≡ true → is_leaf_draft (kn w) new ≡ true
    → Ascends (kn w).drafts → TreeLaw N (view m kn hold)
    → TreeLaw N (view (exchanged m p d leaf (to new))
    (with_worker kn w (learn w (kn w) (Swap p d leaf new)
    (cond (is_to (edge m p d) leaf) (Cut (named m leaf ∷ [])) (Lost (edge m p d))))) hold)
swap_view N m kn hold w p d leaf new size owns high known held leafy own ready keys law =
    go (is_to (edge m p d) leaf) refl
  where
    inside : p < length m.nodes
    inside = let r = law.known w p known in omega arith

    go : (b : Bool) → is_to (edge m p d) leaf ≡ b
        → TreeLaw N (view (cond b (put_edge m p d (to new)) m)
        (with_worker kn w (learn w (kn w) (Swap p d leaf new)
        (cond b (Cut (named m leaf ∷ [])) (Lost (edge m p d))))) hold)
    go false h = rw (learn_swap_lost w (kn w) p d leaf new (edge m p d)) (lost_view N m kn hold w p d known law)
    go true h = rw (learn_swapped w (kn w) p d leaf new (named m leaf ∷ []))
        (swap_won N m kn hold w p d leaf new inside known owns
        (swap_shown N m kn hold w p d leaf new high known held leafy own ready
        (is_to-true (edge m p d) leaf h) law) keys law)
