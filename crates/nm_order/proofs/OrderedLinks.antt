-- A link that is in order: a walk of its call ended at the leaf, so the search for its key comes to
-- the parent, and the new nodes are in order.
use Rattle.std.proofs.Common.{◌≡◌, ◌≢◌, ℕ, ◌<◌, inl, inr, ◌⊎◌, ◌==◌, Bool, true, false, cond, not, ◌&&◌, List, [], ◌∷◌, ◌++◌, refl, sym, ap, subst, ◌∙◌, arith, true≢false}
use Rattle.std.specs.Prelude.{Option, Some, None, nat_lt, slice_get}
use Rattle.std.specs.List.{list_any}
use Rattle.std.proofs.lemmas.Bool.{cond-false, ltb-true, ltb-false, eqb-true, eq-eqb, and_parts, false_from_ne_true}
use Rattle.nm_edge.specs.Edges.{Edge, to, other}
use Rattle.nm_edge.specs.Keys.{IsKey}
use Rattle.nm_edge.specs.declared.edge.Side.{Side}
use Rattle.nm_edge.specs.declared.edge.Side.TheVariants.{Left, Right}
use Rattle.nm_model.specs.declared.knowledge.Draft.{Draft}
use Rattle.nm_model.specs.declared.arrivals.Arrival.{Arrival}
use Rattle.nm_model.specs.Maps.{is_number}
use Rattle.nm_model.specs.Memory.{edge, child, infinity_1}
use Rattle.nm_model.specs.Knowledge.{knows, draft_of}
use Rattle.nm_model.specs.Paths.{follow}
use Rattle.nm_model.specs.Runs.{State, of}
use Rattle.nm_model.specs.Lawful.{BirthsStand}
use Rattle.nm_model.specs.Searches.{side_of, is_side, is_by}
use Rattle.nm_model.specs.Ordered.{forks_over, is_fork_for, may_link_at, new_leaf}
use Rattle.nm_order.specs.Intervals.{GoesBy, key}
use Rattle.nm_laws.proofs.Trees.{Children, Exchanged, follow-append, follow_none}
use Rattle.nm_model.proofs.Lists.{any_at}
use Rattle.nm_order.proofs.Searching.{Keys, goes-append}
use Rattle.nm_order.proofs.OrderedTrees.{InOrder, Linking, Grafting}
use Rattle.nm_order.proofs.OrderedWalks.{WalkLaw, CameFrom, is_side-true}
use Rattle.nm_order.proofs.OrderedWalks.CameFrom.{FromRoot, FromSlot}
use Rattle.nm_laws.proofs.Pictures.{IsOnPath, alone, null_below}
use Rattle.nm_laws.proofs.Splices.{live_on_path, unmarked_not_queued}
use Rattle.nm_laws.proofs.Views.{picture}
use Rattle.nm_laws.proofs.Links.{IsLink}
use Rattle.nm_model.proofs.Numbers.{number_is}
use Rattle.nm_laws.proofs.TreeLink.{Linkable}
use Rattle.nm_laws.proofs.TreeSteps.{Lawful}
use Rattle.nm_laws.proofs.WalksOfLogs.{turned}
use Rattle.nm_order.proofs.OrderedChanges.{FixedKeys, left_of, off_root}

pub right_of : (k n : ℕ) → (k < n → ⊥) → side_of k n ≡ Right
right_of k n past = cond-false (nat_lt k n) Left Right (false_from_ne_true (nat_lt k n) (λ h. past (ltb-true k n h)))

-- ---- a link's slots

module _ (s : State) (h : ℕ → ℕ) (law : Lawful s h) (w p : ℕ) (d : Side) (leaf new far : ℕ) (dl : Side)
    (link : IsLink s.layout.radix s.layout.nodes (picture s h) w p d leaf new far dl) where
  pub above : IsOnPath (picture s h) p
  above = live_on_path s.layout.nodes (picture s h) p law.tree link.live link.is_slot link.inside
      (unmarked_not_queued s.layout.nodes (picture s h) p d leaf law.tree link.unmarked link.leaf_slot)

  abbrev pub grafted : (c' : ℕ → Side → ℕ) → Exchanged (child s.memory) c' p d new
      → Grafting (child s.memory) c' p d leaf new far dl
  grafted c' exchanged = record {
    nothing = null_below s.layout.nodes (picture s h) law.tree;
    alone = alone s.layout.nodes (picture s h) law.tree;
    exchanged = exchanged;
    front = above.path;
    at_front = above.ends;
    is_slot = link.is_slot;
    leads = ap (λ (e : Edge). e.slot) link.unmarked;
    leaf_slot = link.leaf_slot;
    over_leaf = ap (λ (e : Edge). e.slot) link.over_leaf;
    over_far = ap (λ (e : Edge). e.slot) link.over_far;
    far_null = λ x. ap (λ (e : Edge). e.slot) (link.far_leaf x);
    off_new = off_root s h law w new link.own;
    off_far = off_root s h law w far link.far_own;
    apart = link.apart;
  }

-- ---- what a link that is in order has shown

module _ (s : State) (h : ℕ → ℕ) (law : Lawful s h) (w : ℕ) (births : BirthsStand s w) (k : ℕ) (small : IsKey k)
    (fixed : FixedKeys s.memory) (ws : List Arrival)
    (walks : WalkLaw s.layout.radix (child s.memory) (key s.memory) (knows (of s w)) k ws)
    (p : ℕ) (d : Side) (leaf new : ℕ) (l : Linkable (of s w) new leaf)
    (link : IsLink s.layout.radix s.layout.nodes (picture s h) w p d leaf new l.far l.side)
    (is_far_key : is_number (new_leaf (of s w) leaf new).key k ≡ true) where
  abbrev c : Children
  c = child s.memory

  abbrev v : Keys
  v = key s.memory

  abbrev on : IsOnPath (picture s h) p
  on = above s h law w p d leaf new l.far l.side link

  leads : child s.memory p d ≡ leaf
  leads = ap (λ (e : Edge). e.slot) link.unmarked

  pub far_key : key s.memory l.far ≡ k
  far_key = births.key l.far k (number_is (draft_of (of s w) l.far).key k
      (ap (λ (x : ℕ). is_number (draft_of (of s w) x).key k) (sym l.is_far) ∙ is_far_key))

  to_leaf : follow (child s.memory) 1 (on.path ++ d ∷ []) ≡ leaf
  to_leaf = follow-append (child s.memory) 1 on.path (d ∷ []) ∙ (ap (λ (y : ℕ). child s.memory y d) on.ends ∙ leads)

  leaf_not_far : leaf ≡ l.far → ⊥
  leaf_not_far e = off_root s h law w l.far link.far_own (on.path ++ d ∷ []) (to_leaf ∙ e)

  -- the side on which the new node leads to the old leaf
  pub leaf_on : (g : Side) → edge s.memory new g ≡ to leaf → l.side ≡ g
  leaf_on g over = go l.side link.over_leaf link.over_far
    where
      same : (e f : Edge) → e ≡ to leaf → f ≡ to l.far → e ≡ f → leaf ≡ l.far
      same e f a b i = ap (λ (x : Edge). x.slot) (sym a ∙ (i ∙ b))

      go : (dl : Side) → edge s.memory new dl ≡ to leaf → edge s.memory new (other dl) ≡ to l.far → dl ≡ g
      go dl a b = by dl g a b over
        where
          by : (dl g : Side) → edge s.memory new dl ≡ to leaf → edge s.memory new (other dl) ≡ to l.far
              → edge s.memory new g ≡ to leaf → dl ≡ g
          by Left Left a b o = refl
          by Left Right a b o = absurd (leaf_not_far (same _ _ o b refl))
          by Right Left a b o = absurd (leaf_not_far (same _ _ o b refl))
          by Right Right a b o = refl

  -- how the three keys stand
  record Forks : Type 0 where
    new_key : (key s.memory new ≡ key s.memory l.far) ⊎ (key s.memory new ≡ key s.memory leaf)
    leaf_side : side_of (key s.memory leaf) (key s.memory new) ≡ l.side
    far_side : side_of (key s.memory l.far) (key s.memory new) ≡ other l.side

  forks : (n : ℕ) → key s.memory leaf ≡ n → (not (n == k) && is_fork_for (draft_of (of s w) new) leaf k n) ≡ true
      → Forks
  forks n leaf_key fork = go (nat_lt k n) refl parts.1
    where
      parts : (not (n == k) ≡ true) × (is_fork_for (draft_of (of s w) new) leaf k n ≡ true)
      parts = and_parts (not (n == k)) (is_fork_for (draft_of (of s w) new) leaf k n) fork

      apart : n ≢ k
      apart e = true≢false (sym parts.0 ∙ ap not (eq-eqb n k e))

      dd : Draft
      dd = draft_of (of s w) new

      go : (b : Bool) → nat_lt k n ≡ b → cond b (is_number dd.key n && is_number dd.right leaf)
          (is_number dd.key k && is_number dd.left leaf) ≡ true → Forks
      go true less t =
          let both = and_parts (is_number dd.key n) (is_number dd.right leaf) t in
          let new_is : key s.memory new ≡ n = births.key new n (number_is dd.key n both.0) in
          let side : l.side ≡ Right = leaf_on Right (law.tree.drafts w new Right leaf
          (number_is dd.right leaf both.1)).1 in
          record {
            new_key = inr (new_is ∙ sym leaf_key);
            leaf_side = rw (leaf_key, new_is, side) (right_of n n (λ lt. absurd (omega arith)));
            far_side = rw (far_key, new_is, side) (left_of k n (ltb-true k n less));
          }
      go false more t =
          let both = and_parts (is_number dd.key k) (is_number dd.left leaf) t in
          let new_is : key s.memory new ≡ k = births.key new k (number_is dd.key k both.0) in
          let side : l.side ≡ Left = leaf_on Left (law.tree.drafts w new Left leaf (number_is dd.left leaf both.1)).1 in
          let low = ltb-false k n more in
          record {
            new_key = inl (new_is ∙ sym far_key);
            leaf_side = rw (leaf_key, new_is, side) (left_of n k (let ne = apart in omega arith));
            far_side = rw (far_key, new_is, side) (right_of k k (λ lt. absurd (omega arith)));
          }

  -- the search for the key comes to the parent, and goes on by the edge
  record Comes : Type 0 where
    goes : GoesBy (child s.memory) (key s.memory) k 1 on.path
    turns : side_of k (key s.memory p) ≡ d

  comes : s.layout.radix ≡ false → (a : Arrival) → a.parent ≡ p → a.side ≡ d → CameFrom k ws a → Comes
  comes search a parent side (FromRoot root left) =
      let two : p ≡ 2 = sym parent ∙ root in
      let path : on.path ≡ Left ∷ [] = alone s.layout.nodes (picture s h) law.tree on.path (Left ∷ [])
      (λ z. on.is_slot (sym on.ends ∙ z)) (on.ends ∙ (two ∙ sym law.tree.root_left)) in
      record {
        goes = subst (λ (q : List Side). GoesBy (child s.memory) (key s.memory) k 1 q) (sym path)
            (ap (side_of k) fixed.root ∙ left_of k _ (omega arith), tt);
        turns = ap (λ (x : ℕ). side_of k (key s.memory x)) two
            ∙ (ap (side_of k) fixed.second ∙ (left_of k infinity_1 (omega arith) ∙ (sym left ∙ side)));
      }
  comes search a parent side (FromSlot i b at slot turn) =
      let here : b.slot ≡ p = slot ∙ parent in
      let n = turned k b.key a.side turn in
      record {
        goes = walks.onward search i b at [] on.path d tt
            (λ z. link.leaf_slot (sym leads ∙ (ap (λ (x : ℕ). child s.memory x d) (sym here) ∙ z)))
            (on.ends ∙ sym here);
        turns = ap (λ (x : ℕ). side_of k (key s.memory x)) (sym here)
            ∙ (ap (side_of k) (walks.is_keyed i b n.0 at n.1) ∙ (n.2 ∙ side));
      }

  pub linking_shown : s.layout.radix ≡ false → InOrder (child s.memory) (key s.memory)
      → list_any (may_link_at (draft_of (of s w) new) k p d leaf) ws ≡ true
      → ((c' : ℕ → Side → ℕ) → Exchanged (child s.memory) c' p d new
      → Linking (child s.memory) c' (key s.memory) p d leaf new l.far l.side)
  linking_shown search order any c' exchanged = by found.1.key refl parts.1
    where
      found : (i : ℕ) × (a : Arrival) × (slice_get ws i ≡ Some a)
          × (may_link_at (draft_of (of s w) new) k p d leaf a ≡ true)
      found = any_at (may_link_at (draft_of (of s w) new) k p d leaf) ws any

      parts : (is_by leaf p d found.1 ≡ true) × ((found.1.ended
          && forks_over (draft_of (of s w) new) leaf k found.1.key) ≡ true)
      parts = and_parts (is_by leaf p d found.1) (found.1.ended
          && forks_over (draft_of (of s w) new) leaf k found.1.key) found.3

      where_from : (found.1.slot ≡ leaf) × (found.1.parent ≡ p) × (found.1.side ≡ d)
      where_from =
          let first = and_parts (found.1.slot == leaf) ((found.1.parent == p) && is_side found.1.side d) parts.0 in
          let rest = and_parts (found.1.parent == p) (is_side found.1.side d) first.1 in
          (eqb-true found.1.slot leaf first.0, eqb-true found.1.parent p rest.0, is_side-true found.1.side d rest.1)

      by : (o : Option ℕ) → found.1.key ≡ o → (found.1.ended && forks_over (draft_of (of s w) new) leaf k o) ≡ true
          → Linking (child s.memory) c' (key s.memory) p d leaf new l.far l.side
      by None is t = absurd (true≢false (sym (and_parts found.1.ended false t).1))
      by (Some n) is t =
          let leaf_key : key s.memory leaf ≡ n = ap (key s.memory) (sym where_from.0)
          ∙ walks.is_keyed found.0 found.1 n found.2 is in
          let f = forks n leaf_key (and_parts found.1.ended
          (not (n == k) && is_fork_for (draft_of (of s w) new) leaf k n) t).1 in
          let g = comes search found.1 where_from.1 where_from.2 (walks.came found.0 found.1 found.2) in
          let far_goes : GoesBy c v (v l.far) 1 (on.path ++ d ∷ []) = goes-append c v (v l.far) 1 on.path (d ∷ [])
          (rw far_key g.goes) (ap (λ (y : ℕ). side_of (v l.far) (v y)) on.ends ∙ rw far_key g.turns, tt) in
          let leaf_goes : GoesBy c v (v leaf) 1 (on.path ++ d ∷ []) = subst
          (λ (y : ℕ). GoesBy c v (v y) 1 (on.path ++ d ∷ [])) to_leaf
          (order (on.path ++ d ∷ []) (λ z. link.leaf_slot (sym to_leaf ∙ z))) in
          record {
            graft = grafted s h law w p d leaf new l.far l.side link c' exchanged;
            old_side = old_side f.leaf_side;
            far_side = f.far_side;
            new_goes = new_goes far_goes leaf_goes f.new_key;
            far_goes = far_goes;
          }
        where
          old_side : side_of (v leaf) (v new) ≡ l.side → (u : List Side) → follow c leaf u ≢ 0
              → side_of (v (follow c leaf u)) (v new) ≡ l.side
          old_side is [] some = is
          old_side is (e ∷ u) some = absurd (some (ap (λ (y : ℕ). follow c y u) (link.is_leaf search e)
              ∙ follow_none c (null_below s.layout.nodes (picture s h) law.tree) u))

          new_goes : GoesBy c v (v l.far) 1 (on.path ++ d ∷ []) → GoesBy c v (v leaf) 1 (on.path ++ d ∷ [])
              → (v new ≡ v l.far) ⊎ (v new ≡ v leaf) → GoesBy c v (v new) 1 (on.path ++ d ∷ [])
          new_goes far_goes leaf_goes (inl i) = rw i far_goes
          new_goes far_goes leaf_goes (inr i) = rw i leaf_goes
