-- What an event that is allowed and in order leaves of a radix tree; and what a link that is in order
-- has shown of its keys.
use Rattle.std.proofs.Common.{◌≡◌, ℕ, ◌≤◌, inl, inr, ◌⊎◌, ◌==◌, Bool, true, false, cond, not, ◌&&◌, ◌||◌, List, [], ◌∷◌, ◌++◌, refl, sym, ap, subst, ◌∙◌, arith, true≢false}
use Rattle.std.specs.Prelude.{Option, Some, None, nat_lt, nat_le, slice_get, ◌/◌}
use Rattle.std.specs.List.{list_any}
use mathlib.Core.Path.{fun_ext}
use Rattle.std.proofs.lemmas.Bool.{ltb-true, ltb-false, leb-true, eqb-true, and_parts, or_cases, not-true}
use Rattle.nm_edge.specs.Edges.{Edge, to, other}
use Rattle.nm_edge.specs.Keys.{IsKey}
use Rattle.nm_edge.specs.Ranges.{covers}
use Rattle.nm_edge.specs.declared.edge.Side.{Side}
use Rattle.nm_edge.specs.declared.edge.Side.TheVariants.{Left, Right}
use Rattle.nm_model.specs.declared.event.Event.{Event}
use Rattle.nm_model.specs.declared.event.Event.TheVariants.{Link}
use Rattle.nm_model.specs.declared.knowledge.Draft.{Draft}
use Rattle.nm_model.specs.declared.arrivals.Arrival.{Arrival}
use Rattle.nm_model.specs.Maps.{is_number}
use Rattle.nm_model.specs.Memory.{Memory, edge, child, infinity_1, infinity_2}
use Rattle.nm_model.specs.Knowledge.{knows, knows_leaf, draft_of}
use Rattle.nm_model.specs.Paths.{follow}
use Rattle.nm_model.specs.Runs.{State, of}
use Rattle.nm_model.specs.Lawful.{BirthsStand}
use Rattle.nm_model.specs.Searches.{side_of, is_side, is_by, is_first, goes_on, turns}
use Rattle.nm_model.specs.Ordered.{new_leaf, is_covered, narrows, parts, parts_from, may_link_between}
use Rattle.nm_model.proofs.Lists.{any_at}
use Rattle.nm_model.proofs.Numbers.{number_is}
use Rattle.nm_order.specs.Intervals.{key}
use Rattle.nm_laws.proofs.Trees.{Children, Exchanged, follow-append}
use Rattle.nm_laws.proofs.Pictures.{IsLive, IsOnPath, reached_live}
use Rattle.nm_laws.proofs.Views.{picture}
use Rattle.nm_laws.proofs.Links.{IsLink}
use Rattle.nm_laws.proofs.TreeSlots.{leaf_known}
use Rattle.nm_laws.proofs.TreeLink.{Linkable}
use Rattle.nm_laws.proofs.TreeSteps.{Lawful}
use Rattle.nm_order.proofs.Searching.{Keys}
use Rattle.nm_order.proofs.TreeChanges.{TreeChange}
use Rattle.nm_order.proofs.TreeChanges.TreeChange.{Kept, Filled, Linked, Swapped, Spliced}
use Rattle.nm_order.proofs.OrderedTrees.{InOrder, Linking}
use Rattle.nm_order.proofs.OrderedWalks.{WalkLaw, is_side-true}
use Rattle.nm_order.proofs.OrderedChanges.{FixedKeys, AsksKey, swapping, left_of, off_root}
use Rattle.nm_order.proofs.OrderedLinks.{right_of, far_key, leaf_on, grafted, above}
use Rattle.nm_order.proofs.RadixTrees.{RadixLaw, Parting, Placed, which, radix_spliced, radix_swapped, radix_apart, radix_links, radix_linked}

-- ---- a link's slots

module _ (s : State) (h : ℕ → ℕ) (law : Lawful s h) (w : ℕ) (fixed : FixedKeys s.memory) (p : ℕ) (d : Side)
    (leaf new far : ℕ) (dl : Side) (link : IsLink s.layout.radix s.layout.nodes (picture s h) w p d leaf new far
    dl) where
  pub placed : (c' : Children) → Exchanged (child s.memory) c' p d new
      → Placed (child s.memory) c' (key s.memory) p d leaf new far dl
  placed c' exchanged = record {
    graft = grafted s h law w p d leaf new far dl link c' exchanged;
    root_left = law.tree.root_left;
    leaves = law.tree.sentinels;
    first_key = fixed.root;
    second_key = fixed.second;
  }

-- ---- what a link that is in order has shown

module _ (s : State) (h : ℕ → ℕ) (law : Lawful s h) (w : ℕ) (births : BirthsStand s w) (k : ℕ) (small : IsKey k)
    (fixed : FixedKeys s.memory) (ws : List Arrival)
    (walks : WalkLaw s.layout.radix (child s.memory) (key s.memory) (knows (of s w)) k ws)
    (p : ℕ) (d : Side) (leaf new : ℕ) (l : Linkable (of s w) new leaf)
    (link : IsLink s.layout.radix s.layout.nodes (picture s h) w p d leaf new l.far l.side)
    (is_far_key : is_number (new_leaf (of s w) leaf new).key k ≡ true) where
  abbrev v : Keys
  v = key s.memory

  far_is : key s.memory l.far ≡ k
  far_is = far_key s h law w births k small fixed ws walks p d leaf new l link is_far_key

  side_is : (g : Side) → edge s.memory new g ≡ to leaf → l.side ≡ g
  side_is = leaf_on s h law w births k small fixed ws walks p d leaf new l link is_far_key

  on : IsOnPath (picture s h) p
  on = above s h law w p d leaf new l.far l.side link

  leads : child s.memory p d ≡ leaf
  leads = ap (λ (e : Edge). e.slot) link.unmarked

  -- the slot, where it is known as a leaf
  leaf_null : knows_leaf (of s w) leaf ≡ true → (f : Side) → child s.memory leaf f ≡ 0
  leaf_null is = leaf_known s.layout.nodes s.memory (of s) h w leaf law.tree
      (subst (λ (y : ℕ). IsLive (picture s h) y) to_leaf
      (reached_live s.layout.nodes (picture s h) law.tree (on.path ++ d ∷ [])
      (λ z. link.leaf_slot (sym to_leaf ∙ z)))) is
    where
      to_leaf : follow (child s.memory) 1 (on.path ++ d ∷ []) ≡ leaf
      to_leaf = follow-append (child s.memory) 1 on.path (d ∷ []) ∙ (ap (λ (y : ℕ). child s.memory y d) on.ends ∙ leads)

  -- where a walk for the key goes on from the parent within its range, or from the root's edge
  place : (is_first p d || list_any (narrows k p d) ws) ≡ true
      → ((p ≡ 2) × (d ≡ Left)) ⊎ ((6 ≤ p) × ((covers (v p) (v l.far) ≡ true) × (side_of (v l.far) (v p) ≡ d)))
  place shown = by (or_cases (is_first p d) (list_any (narrows k p d) ws) shown)
    where
      below_root : (n : ℕ) → v p ≡ n → covers n k ≡ true → side_of k n ≡ d
          → (p ≡ 0) ⊎ ((p ≡ 1) ⊎ ((p ≡ 2) ⊎ (((3 ≤ p) × (p ≤ 5)) ⊎ (6 ≤ p))))
          → ((p ≡ 2) × (d ≡ Left)) ⊎ ((6 ≤ p) × ((covers (v p) (v l.far) ≡ true) × (side_of (v l.far) (v p) ≡ d)))
      below_root n is has side (inl z) = absurd (link.is_slot z)
      below_root n is has side (inr (inl one)) =
          let root : infinity_2 ≡ n = sym fixed.root ∙ (ap v (sym one) ∙ is) in
          let half : k / 2 ≡ infinity_2 / 2 = eqb-true (k / 2) (infinity_2 / 2)
          (subst (λ (y : ℕ). covers y k ≡ true) (sym root) has) in
          absurd (omega (arith, half, small))
      below_root n is has side (inr (inr (inl two))) =
          let second : infinity_1 ≡ n = sym fixed.second ∙ (ap v (sym two) ∙ is) in
          inl (two, sym side ∙ (ap (side_of k) (sym second) ∙ left_of k infinity_1 (omega (arith, small))))
      below_root n is has side (inr (inr (inr (inl range)))) = absurd
          (link.leaf_slot (sym leads ∙ law.tree.sentinels p d range.0 range.1))
      below_root n is has side (inr (inr (inr (inr high)))) = inr (high, (rw (far_is, is) has, rw (far_is, is) side))

      by : (is_first p d ≡ true) ⊎ (list_any (narrows k p d) ws ≡ true)
          → ((p ≡ 2) × (d ≡ Left)) ⊎ ((6 ≤ p) × ((covers (v p) (v l.far) ≡ true) × (side_of (v l.far) (v p) ≡ d)))
      by (inl root) = let two = and_parts (p == 2) (is_side d Left) root in
          inl (eqb-true p 2 two.0, is_side-true d Left two.1)
      by (inr any) = not-true b.1.key refl two.1
        where
          b : (i : ℕ) × (a : Arrival) × (slice_get ws i ≡ Some a) × (narrows k p d a ≡ true)
          b = any_at (narrows k p d) ws any

          two : (goes_on k p d b.1 ≡ true) × (is_covered k b.1.key ≡ true)
          two = and_parts (goes_on k p d b.1) (is_covered k b.1.key) b.3

          at : (b.1.slot ≡ p) × (turns k b.1.key d ≡ true)
          at = let parts = and_parts (b.1.slot == p) (turns k b.1.key d) two.0 in (eqb-true b.1.slot p parts.0, parts.1)

          not-true : (o : Option ℕ) → b.1.key ≡ o → is_covered k o ≡ true
              → ((p ≡ 2) × (d ≡ Left)) ⊎ ((6 ≤ p) × ((covers (v p) (v l.far) ≡ true) × (side_of (v l.far) (v p) ≡ d)))
          not-true None is t = absurd (true≢false (sym t))
          not-true (Some n) is t =
              let side : side_of k n ≡ d = is_side-true (side_of k n) d (ap (λ o. turns k o d) (sym is) ∙ at.1) in
              below_root n (ap v (sym at.0) ∙ walks.is_keyed b.0 b.1 n b.2 is) t side (which p)

  pub parting : ((is_first p d || list_any (narrows k p d) ws)
      && list_any (may_link_between (draft_of (of s w) new) (knows_leaf (of s w) leaf) k p d leaf) ws) ≡ true
      → Parting (child s.memory) (key s.memory) p d leaf new l.far l.side
  parting shown = by found.1.key refl both.1
    where
      dd : Draft
      dd = draft_of (of s w) new

      halves : ((is_first p d || list_any (narrows k p d) ws) ≡ true)
          × (list_any (may_link_between (draft_of (of s w) new) (knows_leaf (of s w) leaf) k p d leaf) ws ≡ true)
      halves = and_parts (is_first p d || list_any (narrows k p d) ws) _ shown

      found : (i : ℕ) × (a : Arrival) × (slice_get ws i ≡ Some a)
          × (may_link_between (draft_of (of s w) new) (knows_leaf (of s w) leaf) k p d leaf a ≡ true)
      found = any_at (may_link_between (draft_of (of s w) new) (knows_leaf (of s w) leaf) k p d leaf) ws halves.1

      both : (is_by leaf p d found.1 ≡ true) × (parts_from (draft_of (of s w) new) leaf k (knows_leaf (of s w) leaf)
          found.1.key ≡ true)
      both = and_parts (is_by leaf p d found.1) _ found.3

      slot : found.1.slot ≡ leaf
      slot = eqb-true found.1.slot leaf (and_parts (found.1.slot == leaf)
          ((found.1.parent == p) && is_side found.1.side d) both.0).0

      by : (o : Option ℕ) → found.1.key ≡ o → parts_from (draft_of (of s w) new) leaf k (knows_leaf (of s w) leaf) o
          ≡ true → Parting (child s.memory) (key s.memory) p d leaf new l.far l.side
      by None is t = absurd (true≢false (sym t))
      by (Some r) is t = on (draft_of (of s w) new).key refl forks.1
        where
          leaf_is : key s.memory leaf ≡ r
          leaf_is = ap v (sym slot) ∙ walks.is_keyed found.0 found.1 r found.2 is

          forks : ((not (r == k) && (knows_leaf (of s w) leaf || not (covers r k))) ≡ true)
              × (parts (draft_of (of s w) new) leaf k r (draft_of (of s w) new).key ≡ true)
          forks = and_parts (not (r == k) && (knows_leaf (of s w) leaf || not (covers r k)))
              (parts (draft_of (of s w) new) leaf k r (draft_of (of s w) new).key) t

          none_in : not (covers r k) ≡ true → covers r k ≡ false
          none_in h = not-true (covers r k) h

          over : ((f : Side) → child s.memory leaf f ≡ 0) ⊎ ((6 ≤ leaf) × (covers (v leaf) (v l.far) ≡ false))
          over = elim (or_cases (knows_leaf (of s w) leaf) (not (covers r k)) (and_parts (not (r == k)) _ forks.0).1) [
            | inl known ↦ inl (leaf_null known)
            | inr apart ↦ elim link.over [
              | inl null ↦ inl null
              | inr high ↦ inr (high, rw (leaf_is, far_is) (none_in apart))
            ]
          ]

          on : (o : Option ℕ) → (draft_of (of s w) new).key ≡ o → parts (draft_of (of s w) new) leaf k r o ≡ true
              → Parting (child s.memory) (key s.memory) p d leaf new l.far l.side
          on None at t = absurd (true≢false (sym t))
          on (Some R) at t = not-true (nat_lt k R) refl (and_parts (covers R k && covers R r) _ t).1
            where
              new_is : key s.memory new ≡ R
              new_is = births.key new R at

              ranges : (covers R k ≡ true) × (covers R r ≡ true)
              ranges = and_parts (covers R k) (covers R r)
                  (and_parts (covers R k && covers R r) (cond (nat_lt k R)
                  (nat_le R r && is_number (draft_of (of s w) new).right leaf)
                  (nat_lt r R && is_number (draft_of (of s w) new).left leaf)) t).0

              made : side_of r R ≡ l.side → side_of k R ≡ other l.side
                  → Parting (child s.memory) (key s.memory) p d leaf new l.far l.side
              made leaf_side far_side = record {
                place = place halves.0;
                covers_far = rw (new_is, far_is) ranges.0;
                covers_leaf = rw (new_is, leaf_is) ranges.1;
                far_side = rw (new_is, far_is) far_side;
                leaf_side = rw (new_is, leaf_is) leaf_side;
                over = over;
                small = rw far_is (omega (arith, small));
                high_new = (law.tree.privates w new link.own).0;
                high_far = (law.tree.privates w l.far link.far_own).0;
              }

              not-true : (b : Bool) → nat_lt k R ≡ b → cond b
                  (nat_le R r && is_number (draft_of (of s w) new).right leaf)
                  (nat_lt r R && is_number (draft_of (of s w) new).left leaf) ≡ true
                  → Parting (child s.memory) (key s.memory) p d leaf new l.far l.side
              not-true true less t =
                  let two = and_parts (nat_le R r) (is_number (draft_of (of s w) new).right leaf) t in
                  let side : l.side ≡ Right = side_is Right
                  (law.tree.drafts w new Right leaf (number_is (draft_of (of s w) new).right leaf two.1)).1 in
                  made (right_of r R (λ lt. let more = leb-true R r two.0 in omega (arith, lt, more)) ∙ sym side)
                  (left_of k R (ltb-true k R less) ∙ ap other (sym side))
              not-true false more t =
                  let two = and_parts (nat_lt r R) (is_number (draft_of (of s w) new).left leaf) t in
                  let side : l.side ≡ Left = side_is Left (law.tree.drafts w new Left leaf
                  (number_is (draft_of (of s w) new).left leaf two.1)).1 in
                  made (left_of r R (ltb-true r R two.0) ∙ sym side)
                  (right_of k R (λ lt. let past = ltb-false k R more in omega (arith, lt, past))
                  ∙ ap other (sym side))

  pub radix_linking : InOrder (child s.memory) (key s.memory) → RadixLaw (child s.memory) (key s.memory)
      → ((is_first p d || list_any (narrows k p d) ws)
      && list_any (may_link_between (draft_of (of s w) new) (knows_leaf (of s w) leaf) k p d leaf) ws) ≡ true
      → (c' : Children) → Exchanged (child s.memory) c' p d new
      → Linking (child s.memory) c' (key s.memory) p d leaf new l.far l.side
  radix_linking order nested shown c' exchanged =
      radix_links (child s.memory) c' (key s.memory) p d leaf new l.far l.side
      (placed s h law w fixed p d leaf new l.far l.side link c' exchanged) (parting shown) nested order

-- ---- one event

module _ (s : State) (h : ℕ → ℕ) (law : Lawful s h) (w : ℕ) where
  -- a link asks for the parting of its keys
  abbrev pub AsksPart : Event → Type 0
  AsksPart e = (p : ℕ) (d : Side) (leaf new : ℕ) → e ≡ Link p d leaf new → (l : Linkable (of s w) new leaf)
      → IsLink s.layout.radix s.layout.nodes (picture s h) w p d leaf new l.far l.side
      → Parting (child s.memory) (key s.memory) p d leaf new l.far l.side

  pub radix_outlasts : (e : Event) (m : Memory) → FixedKeys s.memory → InOrder (child s.memory) (key s.memory)
      → RadixLaw (child s.memory) (key s.memory) → AsksKey s h law w e → AsksPart e → TreeChange s h w e m
      → RadixLaw (child m) (key m)
  radix_outlasts e m fixed order nested same asks (Kept children keys) = subst (λ (d : Children). RadixLaw d (key m))
      (sym same_children) (subst (λ (n : Keys). RadixLaw (child s.memory) n) (sym same_keys) nested)
    where
      same_children : child m ≡ child s.memory
      same_children = fun_ext (λ x. fun_ext (λ d. children x d))

      same_keys : key m ≡ key s.memory
      same_keys = fun_ext keys
  radix_outlasts e m fixed order nested same asks (Filled x own apart) = radix_apart (child s.memory) (child m)
      (key s.memory) (key m) x apart (off_root s h law w x own) (law.tree.privates w x own).0 nested
  radix_outlasts e m fixed order nested same asks (Linked p d leaf new is unmarked l link exchanged keys) =
      subst (λ (n : Keys). RadixLaw (child m) n) (sym same_keys)
      (radix_linked (child s.memory) (child m) (key s.memory) p d leaf new l.far l.side b t nested links)
    where
      b : Placed (child s.memory) (child m) (key s.memory) p d leaf new l.far l.side
      b = placed s h law w fixed p d leaf new l.far l.side link (child m) exchanged

      t : Parting (child s.memory) (key s.memory) p d leaf new l.far l.side
      t = asks p d leaf new is l link

      links : Linking (child s.memory) (child m) (key s.memory) p d leaf new l.far l.side
      links = radix_links (child s.memory) (child m) (key s.memory) p d leaf new l.far l.side b t nested order

      same_keys : key m ≡ key s.memory
      same_keys = fun_ext keys
  radix_outlasts e m fixed order nested same asks (Swapped p d leaf new n is swap exchanged keys) =
      subst (λ (n : Keys). RadixLaw (child m) n) (sym same_keys)
      (radix_swapped (child s.memory) (child m) (key s.memory) p d leaf new
      (swapping s h law w n p d leaf new swap (same p d leaf new is) (child m) exchanged)
      (λ z. let up = (law.tree.privates w new swap.own).0 in omega (arith, up, z)) swap.high nested)
    where
      same_keys : key m ≡ key s.memory
      same_keys = fun_ext keys
  radix_outlasts e m fixed order nested same asks (Spliced a d way g some target keys high) =
      subst (λ (n : Keys). RadixLaw (child m) n) (sym same_keys)
      (radix_spliced (child s.memory) (child m) (key s.memory) a d way g some target high nested)
    where
      same_keys : key m ≡ key s.memory
      same_keys = fun_ext keys
