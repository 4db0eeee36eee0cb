-- Trees in order: each node's key lies in its interval, and searches from a slot that a search has
-- come to. Both outlast a splice and a link.
use Rattle.std.proofs.Common.{◌≡◌, ◌≢◌, ℕ, inl, inr, ◌⊎◌, eqb, Bool, true, false, ◌&&◌, List, [], ◌∷◌, ◌++◌, append_assoc, refl, sym, ap, subst, ◌∙◌}
use Rattle.std.specs.Prelude.{Option, Some, None}
use Rattle.std.proofs.lemmas.Bool.{eqb-true, and_parts, ne_eqb, and_left}
use Rattle.nm_edge.specs.Edges.{other}
use Rattle.nm_edge.specs.declared.edge.Side.{Side}
use Rattle.nm_edge.specs.declared.edge.Side.TheVariants.{Left, Right}
use Rattle.nm_model.specs.Paths.{follow}
use Rattle.nm_model.specs.Searches.{side_of}
use Rattle.nm_order.specs.Intervals.{GoesBy}
use Rattle.nm_laws.proofs.Trees.{Children, Exchanged, rest_after, same_side, follow_none, follow-append, not_taken, taken, Taken, no_longer}
use Rattle.nm_laws.proofs.CutPaths.{Splicing, not_back, straight, new_down, old_path, led, still_alone}
use Rattle.nm_order.proofs.Searching.{Keys, goes-append, goes_first, goes_on, goes_still, went_still, GoesOver, goes_over, on_way, Apart, apart_follow, apart_goes, apart_went}

-- the search for a reached node's key comes to it
abbrev pub InOrder : Children → Keys → Type 0
InOrder c v = (q : List Side) → follow c 1 q ≢ 0 → GoesBy c v (v (follow c 1 q)) 1 q

-- where a search for k that goes on from z comes to an internal node that is reached, the search
-- from the root comes to it too
abbrev pub Onward : Children → Keys → ℕ → ℕ → Type 0
Onward c v k z = (q r : List Side) (f : Side) → GoesBy c v k z q → c (follow c z q) f ≢ 0
    → follow c 1 r ≡ follow c z q → GoesBy c v k 1 r

-- an edge that is exchanged is not one of slot 0, nor of another slot
pub unless_at : (c c' : Children) (p : ℕ) (d : Side) (t x : ℕ) (e : Side) → Exchanged c c' p d t → x ≢ p
    → c' x e ≡ c x e
unless_at c c' p d t x e h ne = h.others x e (and_left (eqb x p) (same_side d e) (ne_eqb x p ne))

-- a slot that has a child after the exchange had one before
pub had_child : (c c' : Children) (p : ℕ) (d : Side) (t : ℕ) → Exchanged c c' p d t → c p d ≢ 0 → (y : ℕ) (f : Side)
    → c' y f ≢ 0 → (g : Side) × (c y g ≢ 0)
had_child c c' p d t h some y f there = go (eqb y p && same_side d f) refl
  where
    go : (b : Bool) → (eqb y p && same_side d f) ≡ b → (g : Side) × (c y g ≢ 0)
    go true is = let parts = and_parts (eqb y p) (same_side d f) is in
        (d, λ z. some (ap (λ (x : ℕ). c x d) (sym (eqb-true y p parts.0)) ∙ z))
    go false is = (f, λ z. there (h.others y f is ∙ z))

-- ---- a splice

module _ (c c' : Children) (v : Keys) (a : ℕ) (d : Side) (way : List Side) (g : Splicing c c' a d way)
    (some : c a d ≢ 0) where
  -- in the new tree the path to a, and on by d
  through : (k : ℕ) (r : List Side) → GoesBy c v k 1 g.front → side_of k (v a) ≡ d
      → GoesBy c' v k (follow c (c a d) way) r → GoesBy c' v k 1 (g.front ++ d ∷ r)
  through k r first turn rest =
      let at : follow c' 1 g.front ≡ a = not_taken c c' a d _ g.exchanged 1 g.front (straight c c' a d way g)
      ∙ g.at_front in
      goes-append c' v k 1 g.front (d ∷ r) (goes_still c c' v a d _ g.exchanged k 1 g.front (straight c c' a d way g)
      first) (
        ap (λ (y : ℕ). side_of k (v y)) at ∙ turn,
        subst (λ (y : ℕ). GoesBy c' v k y r)
            (sym (ap (λ (y : ℕ). c' y d) at ∙ g.exchanged.here)) rest,
      )

  -- a search of the old tree that went the whole way
  shorter : (k : ℕ) (r : List Side) → GoesBy c v k 1 (g.front ++ d ∷ (way ++ r)) → GoesBy c' v k 1 (g.front ++ d ∷ r)
  shorter k r went =
      let on : GoesBy c v k a (d ∷ (way ++ r)) = subst (λ (y : ℕ). GoesBy c v k y (d ∷ (way ++ r))) g.at_front
      (goes_on c v k 1 g.front (d ∷ (way ++ r)) went) in
      through k r (goes_first c v k 1 g.front (d ∷ (way ++ r)) went) on.0
      (goes_still c c' v a d _ g.exchanged k (follow c (c a d) way) r (not_back c c' a d way g r)
      (goes_on c v k (c a d) way r on.1))

  -- the path to a is the only one
  front_is : (front : List Side) → follow c 1 front ≡ a → g.front ≡ front
  front_is front at = g.alone g.front front (λ z. g.is_slot (sym g.at_front ∙ z)) (g.at_front ∙ sym at)

  goes_new : (k : ℕ) (q : List Side) → GoesBy c v k 1 (old_path c c' a d way g (rest_after c a d 1 q) q)
      → GoesBy c' v k 1 q
  goes_new k q went = go (rest_after c a d 1 q) refl went
    where
      go : (o : Option (List Side)) → rest_after c a d 1 q ≡ o → GoesBy c v k 1 (old_path c c' a d way g o q)
          → GoesBy c' v k 1 q
      go None h went = goes_still c c' v a d _ g.exchanged k 1 q h went
      go (Some r) h went =
          let t = taken c c' a d _ g.exchanged 1 q r h in
          let is : g.front ++ d ∷ r ≡ q = ap (λ (p : List Side). p ++ d ∷ r) (front_is t.front t.comes) ∙ sym t.is in
          subst (λ (p : List Side). GoesBy c' v k 1 p) is (shorter k r went)

  pub order_spliced : InOrder c v → InOrder c' v
  order_spliced order q there =
      let was : follow c' 1 q ≡ follow c 1 (old_path c c' a d way g (rest_after c a d 1 q) q) = led c c' a d way g q in
      goes_new (v (follow c' 1 q)) q (rw was (order (old_path c c' a d way g (rest_after c a d 1 q) q)
      (rw (← was) there)))

  null : (e : Side) → c' 0 e ≡ 0
  null e = unless_at c c' a d _ 0 e g.exchanged (λ z. g.is_slot (sym z)) ∙ g.nothing e

  pub onward_spliced : (k z : ℕ) → Onward c v k z → Onward c' v k z
  onward_spliced k z onward q r f goes there same = go (rest_after c a d z q) refl
    where
      some_slot : follow c' 1 r ≢ 0
      some_slot e = there (ap (λ (y : ℕ). c' y f) (sym same ∙ e) ∙ null f)

      go : (o : Option (List Side)) → rest_after c a d z q ≡ o → GoesBy c' v k 1 r
      go None h =
          let still : follow c' z q ≡ follow c z q = not_taken c c' a d _ g.exchanged z q h in
          let child = had_child c c' a d _ g.exchanged some (follow c z q) f
          (λ e. there (ap (λ (y : ℕ). c' y f) still ∙ e)) in
          goes_new k r (onward q (old_path c c' a d way g (rest_after c a d 1 r) r) child.0
          (went_still c c' v a d _ g.exchanged k z q h goes) child.1 (sym (led c c' a d way g r) ∙ (same ∙ still)))
      go (Some rest) h =
          let over : GoesOver c c' v a d (follow c (c a d) way) g.exchanged k z q rest = goes_over c c' v a d _
          g.exchanged k z q rest h goes in
          let to_a : GoesBy c v k 1 g.front = onward over.front g.front d over.goes
          (λ e. some (ap (λ (y : ℕ). c y d) (sym over.comes) ∙ e)) (g.at_front ∙ sym over.comes) in
          let path : r ≡ g.front ++ d ∷ rest = still_alone c c' a d way g r (g.front ++ d ∷ rest) some_slot
          (same ∙ (over.ends ∙ sym (new_down c c' a d way g rest))) in
          subst (λ (p : List Side). GoesBy c' v k 1 p) (sym path) (through k rest to_a over.turns over.goes_on)

-- ---- a link

-- p, on the path front, leads by d to a slot; new, which no path comes to, is over that slot and the
-- new leaf far
pub record Grafting (c c' : Children) (p : ℕ) (d : Side) (leaf new far : ℕ) (dl : Side) : Type 0 where
  pub nothing : (e : Side) → c 0 e ≡ 0
  pub alone : (q r : List Side) → follow c 1 q ≢ 0 → follow c 1 q ≡ follow c 1 r → q ≡ r
  pub exchanged : Exchanged c c' p d new
  pub front : List Side
  pub at_front : follow c 1 front ≡ p
  pub is_slot : p ≢ 0
  pub leads : c p d ≡ leaf
  pub leaf_slot : leaf ≢ 0
  pub over_leaf : c new dl ≡ leaf
  pub over_far : c new (other dl) ≡ far
  pub far_null : (f : Side) → c far f ≡ 0
  pub off_new : (q : List Side) → follow c 1 q ≡ new → ⊥
  pub off_far : (q : List Side) → follow c 1 q ≡ far → ⊥
  pub apart : new ≢ far

-- and far and all that stands below the slot are each on their own side of new. The searches for the
-- keys of new and far come to p, and go on by d
pub record Linking (c c' : Children) (v : Keys) (p : ℕ) (d : Side) (leaf new far : ℕ) (dl : Side) : Type 0 where
  pub graft : Grafting c c' p d leaf new far dl
  pub old_side : (u : List Side) → follow c leaf u ≢ 0 → side_of (v (follow c leaf u)) (v new) ≡ dl
  pub far_side : side_of (v far) (v new) ≡ other dl
  pub new_goes : GoesBy c v (v new) 1 (graft.front ++ d ∷ [])
  pub far_goes : GoesBy c v (v far) 1 (graft.front ++ d ∷ [])

pub one_or_other : (e d : Side) → (e ≡ d) ⊎ (e ≡ other d)
one_or_other Left Left = inl refl
one_or_other Left Right = inr refl
one_or_other Right Left = inr refl
one_or_other Right Right = inl refl

module _ (c c' : Children) (v : Keys) (p : ℕ) (d : Side) (leaf new far : ℕ) (dl : Side)
    (l : Linking c c' v p d leaf new far dl) where
  null_still : (e : Side) → c' 0 e ≡ 0
  null_still e = unless_at c c' p d new 0 e l.graft.exchanged (λ z. l.graft.is_slot (sym z)) ∙ l.graft.nothing e

  -- a slot without children is not p
  not_p : (x : ℕ) → ((f : Side) → c x f ≡ 0) → x ≢ p
  not_p x none e = l.graft.leaf_slot (sym l.graft.leads ∙ (ap (λ (y : ℕ). c y d) (sym e) ∙ none d))

  -- paths by p's edge, of which none comes back to p
  pub down : (u : List Side) → follow c 1 (l.graft.front ++ d ∷ u) ≡ follow c leaf u
  down u = follow-append c 1 l.graft.front (d ∷ u)
      ∙ ap (λ (y : ℕ). follow c y u) (ap (λ (y : ℕ). c y d) l.graft.at_front ∙ l.graft.leads)

  pub never_back : (u : List Side) → follow c leaf u ≡ p → ⊥
  never_back u h = no_longer d l.graft.front u (l.graft.alone l.graft.front (l.graft.front ++ d ∷ u)
      (λ z. l.graft.is_slot (sym l.graft.at_front ∙ z)) (l.graft.at_front ∙ sym (down u ∙ h)))

  below_straight : (u : List Side) → rest_after c p d leaf u ≡ None
  below_straight u = go (rest_after c p d leaf u) refl
    where
      go : (o : Option (List Side)) → rest_after c p d leaf u ≡ o → o ≡ None
      go None h = refl
      go (Some r) h = let t = taken c c' p d new l.graft.exchanged leaf u r h in absurd (never_back t.front t.comes)

  under_leaf : (u : List Side) → follow c' leaf u ≡ follow c leaf u
  under_leaf u = not_taken c c' p d new l.graft.exchanged leaf u (below_straight u)

  pub new_still : (e : Side) → c' new e ≡ c new e
  new_still e = unless_at c c' p d new new e l.graft.exchanged
      (λ i. l.graft.off_new l.graft.front (l.graft.at_front ∙ sym i))

  pub far_still : (f : Side) → c' far f ≡ 0
  far_still f = unless_at c c' p d new far f l.graft.exchanged (not_p far l.graft.far_null) ∙ l.graft.far_null f

  pub front_is_it : (front : List Side) → follow c 1 front ≡ p → l.graft.front ≡ front
  front_is_it front at = l.graft.alone l.graft.front front (λ z. l.graft.is_slot (sym l.graft.at_front ∙ z))
      (l.graft.at_front ∙ sym at)

  -- nor does the path to p take the edge
  straight_to : rest_after c p d 1 l.graft.front ≡ None
  straight_to = go (rest_after c p d 1 l.graft.front) refl
    where
      go : (o : Option (List Side)) → rest_after c p d 1 l.graft.front ≡ o → o ≡ None
      go None h = refl
      go (Some r) h =
          let t = taken c c' p d new l.graft.exchanged 1 l.graft.front r h in
          let same : l.graft.front ≡ t.front = front_is_it t.front t.comes in
          absurd (no_longer d l.graft.front r (t.is ∙ ap (λ (y : List Side). y ++ d ∷ r) (sym same)))

  at_p : follow c' 1 l.graft.front ≡ p
  at_p = not_taken c c' p d new l.graft.exchanged 1 l.graft.front straight_to ∙ l.graft.at_front

  pub leads_on : (r : List Side) → follow c' 1 (l.graft.front ++ d ∷ r) ≡ follow c' new r
  leads_on r = follow-append c' 1 l.graft.front (d ∷ r)
      ∙ ap (λ (y : ℕ). follow c' y r) (ap (λ (y : ℕ). c' y d) at_p ∙ l.graft.exchanged.here)

  -- a search that came to p and went on by d goes on from the new node
  into : (k : ℕ) (r : List Side) → GoesBy c v k 1 (l.graft.front ++ d ∷ []) → GoesBy c' v k new r
      → GoesBy c' v k 1 (l.graft.front ++ d ∷ r)
  into k r to_edge rest =
      let first : GoesBy c v k 1 l.graft.front = goes_first c v k 1 l.graft.front (d ∷ []) to_edge in
      let turn : side_of k (v p) ≡ d = ap (λ (y : ℕ). side_of k (v y)) (sym l.graft.at_front)
      ∙ (goes_on c v k 1 l.graft.front (d ∷ []) to_edge).0 in
      goes-append c' v k 1 l.graft.front (d ∷ r) (goes_still c c' v p d new l.graft.exchanged k 1 l.graft.front
      straight_to first) (
        ap (λ (y : ℕ). side_of k (v y)) at_p ∙ turn,
        subst (λ (y : ℕ). GoesBy c' v k y r)
            (sym (ap (λ (y : ℕ). c' y d) at_p ∙ l.graft.exchanged.here)) rest,
      )

  -- what stands below the new node
  pub data Below (r : List Side) : Type 0 where
    Itself : r ≡ [] → Below r
    Old : (u : List Side) → r ≡ dl ∷ u → Below r
    New : r ≡ other dl ∷ [] → Below r

  pub below_new : (r : List Side) → follow c' new r ≢ 0 → Below r
  below_new [] there = Itself refl
  below_new (e ∷ r) there = go (one_or_other e dl)
    where
      ends : (r : List Side) → e ≡ other dl → follow c' (c' new e) r ≢ 0 → r ≡ []
      ends [] i there = refl
      ends (f ∷ r) i there = absurd (there (ap (λ (z : ℕ). follow c' (c' z f) r)
          (new_still e ∙ (ap (c new) i ∙ l.graft.over_far))
          ∙ (ap (λ (z : ℕ). follow c' z r) (far_still f) ∙ follow_none c' null_still r)))

      go : (e ≡ dl) ⊎ (e ≡ other dl) → Below (e ∷ r)
      go (inl i) = Old r (ap (λ (y : Side). y ∷ r) i)
      go (inr i) = New (ap (λ (y : List Side). e ∷ y) (ends r i there) ∙ ap (λ (y : Side). y ∷ []) i)

  pub at_leaf : (u : List Side) → follow c' new (dl ∷ u) ≡ follow c leaf u
  at_leaf u = ap (λ (y : ℕ). follow c' y u) (new_still dl ∙ l.graft.over_leaf) ∙ under_leaf u

  pub at_far : follow c' new (other dl ∷ []) ≡ far
  at_far = new_still (other dl) ∙ l.graft.over_far

  module _ (order : InOrder c v) where
    -- what stood below p's edge stands below the new node
    old_goes : (u : List Side) → follow c leaf u ≢ 0 → GoesBy c' v (v (follow c leaf u)) 1 (l.graft.front ++ d ∷ dl ∷ u)
    old_goes u some = into (v (follow c leaf u)) (dl ∷ u)
        (goes_first c v (v (follow c leaf u)) 1 (l.graft.front ++ d ∷ []) u whole) (
          l.old_side u some,
          subst (λ (y : ℕ). GoesBy c' v (v (follow c leaf u)) y u) (sym (new_still dl ∙ l.graft.over_leaf))
              (goes_still c c' v p d new l.graft.exchanged (v (follow c leaf u)) leaf u (below_straight u) rest),
        )
      where
        k : ℕ
        k = v (follow c leaf u)

        goes : GoesBy c v (v (follow c leaf u)) 1 (l.graft.front ++ d ∷ u)
        goes = subst (λ (y : ℕ). GoesBy c v (v y) 1 (l.graft.front ++ d ∷ u)) (down u)
            (order (l.graft.front ++ d ∷ u) (λ z. some (sym (down u) ∙ z)))

        whole : GoesBy c v (v (follow c leaf u)) 1 ((l.graft.front ++ d ∷ []) ++ u)
        whole = subst (λ (q : List Side). GoesBy c v (v (follow c leaf u)) 1 q)
            (sym (append_assoc l.graft.front (d ∷ []) u)) goes

        rest : GoesBy c v (v (follow c leaf u)) leaf u
        rest = subst (λ (y : ℕ). GoesBy c v (v (follow c leaf u)) y u) (down [])
            (goes_on c v (v (follow c leaf u)) 1 (l.graft.front ++ d ∷ []) u whole)

    below_in_order : (r : List Side) → follow c' new r ≢ 0 → Below r
        → GoesBy c' v (v (follow c' new r)) 1 (l.graft.front ++ d ∷ r)
    below_in_order r there (Itself is) = rw is (into (v new) [] l.new_goes tt)
    below_in_order r there (Old u is) =
        let ends : follow c' new r ≡ follow c leaf u = ap (follow c' new) is ∙ at_leaf u in
        rw (ends, is) (old_goes u (λ z. there (ends ∙ z)))
    below_in_order r there (New is) = rw (is, at_far) (into (v far) (other dl ∷ []) l.far_goes (l.far_side, tt))

    pub order_linked : InOrder c' v
    order_linked q there = go (rest_after c p d 1 q) refl
      where
        go : (o : Option (List Side)) → rest_after c p d 1 q ≡ o → GoesBy c' v (v (follow c' 1 q)) 1 q
        go None h =
            let was : follow c' 1 q ≡ follow c 1 q = not_taken c c' p d new l.graft.exchanged 1 q h in
            goes_still c c' v p d new l.graft.exchanged (v (follow c' 1 q)) 1 q h (rw was (order q (rw (← was) there)))
        go (Some r) h =
            let t = taken c c' p d new l.graft.exchanged 1 q r h in
            let path : q ≡ l.graft.front ++ d ∷ r = t.is
            ∙ ap (λ (y : List Side). y ++ d ∷ r) (sym (front_is_it t.front t.comes)) in
            let ends : follow c' 1 q ≡ follow c' new r = ap (follow c' 1) path ∙ leads_on r in
            rw (ends, path) (below_in_order r (rw (← ends) there) (below_new r (rw (← ends) there)))

  -- the path to the new node is the only one to it
  path_to_new : (r : List Side) → follow c' 1 r ≡ new → new ≢ 0 → r ≡ l.graft.front ++ d ∷ []
  path_to_new r at some = go (rest_after c p d 1 r) refl
    where
      go : (o : Option (List Side)) → rest_after c p d 1 r ≡ o → r ≡ l.graft.front ++ d ∷ []
      go None h = absurd (l.graft.off_new r (sym (not_taken c c' p d new l.graft.exchanged 1 r h) ∙ at))
      go (Some q) h = by (below_new q (λ z. some (sym ends ∙ z)))
        where
          t : Taken c c' p d new 1 r q
          t = taken c c' p d new l.graft.exchanged 1 r q h

          path : r ≡ l.graft.front ++ d ∷ q
          path = t.is ∙ ap (λ (y : List Side). y ++ d ∷ q) (sym (front_is_it t.front t.comes))

          ends : follow c' new q ≡ new
          ends = sym (leads_on q) ∙ (sym (ap (follow c' 1) path) ∙ at)

          by : Below q → r ≡ l.graft.front ++ d ∷ []
          by (Itself is) = path ∙ ap (λ (y : List Side). l.graft.front ++ d ∷ y) is
          by (Old u is) = absurd (l.graft.off_new (l.graft.front ++ d ∷ u)
              (down u ∙ (sym (at_leaf u) ∙ (ap (follow c' new) (sym is) ∙ ends))))
          by (New is) = absurd (l.graft.apart (sym ends ∙ (ap (follow c' new) is ∙ at_far)))

  -- over a leaf alone
  pub onward_linked : ((f : Side) → c leaf f ≡ 0) → (k z : ℕ) → new ≢ 0 → ((q : List Side) → follow c z q ≡ new → ⊥)
      → Onward c v k z → Onward c' v k z
  onward_linked leaf_null k z some off onward q r f goes there same = go (rest_after c p d z q) refl
    where
      some_slot : follow c' 1 r ≢ 0
      some_slot e = there (ap (λ (y : ℕ). c' y f) (sym same ∙ e) ∙ null_still f)

      -- below the leaf there is nothing
      childless : (u : List Side) (y : ℕ) → follow c leaf u ≡ y → c' y f ≡ 0
      childless [] y is = ap (λ (x : ℕ). c' x f) (sym is)
          ∙ (unless_at c c' p d new leaf f l.graft.exchanged (not_p leaf leaf_null) ∙ leaf_null f)
      childless (e ∷ u) y is = ap (λ (x : ℕ). c' x f)
          (sym is ∙ (ap (λ (x : ℕ). follow c x u) (leaf_null e) ∙ follow_none c l.graft.nothing u)) ∙ null_still f

      -- it is the new node, or another that was reached
      reached_by : (y : ℕ) → follow c' 1 r ≡ y → c' y f ≢ 0 → y ≢ new → (rest_after c p d 1 r ≡ None)
      reached_by y at child ne = by (rest_after c p d 1 r) refl
        where
          by : (o : Option (List Side)) → rest_after c p d 1 r ≡ o → o ≡ None
          by None h = refl
          by (Some t) h = absurd (on (below_new t (λ e. some_slot (ends ∙ e))))
            where
              ends : follow c' 1 r ≡ follow c' new t
              ends = (taken c c' p d new l.graft.exchanged 1 r t h).leads

              on : Below t → ⊥
              on (Itself is) = ne (sym at ∙ (ends ∙ ap (follow c' new) is))
              on (Old u is) = child (childless u y (sym (sym at ∙ (ends ∙ (ap (follow c' new) is ∙ at_leaf u)))))
              on (New is) = child (ap (λ (x : ℕ). c' x f) (sym at ∙ (ends ∙ (ap (follow c' new) is ∙ at_far)))
                  ∙ far_still f)

      go : (o : Option (List Side)) → rest_after c p d z q ≡ o → GoesBy c' v k 1 r
      go None h =
          let still : follow c' z q ≡ follow c z q = not_taken c c' p d new l.graft.exchanged z q h in
          let child = had_child c c' p d new l.graft.exchanged (λ e. l.graft.leaf_slot (sym l.graft.leads ∙ e))
          (follow c z q) f (λ e. there (ap (λ (y : ℕ). c' y f) still ∙ e)) in
          let none = reached_by (follow c' z q) same there (λ e. off q (sym still ∙ e)) in
          goes_still c c' v p d new l.graft.exchanged k 1 r none
          (onward q r child.0 (went_still c c' v p d new l.graft.exchanged k z q h goes) child.1
          (sym (not_taken c c' p d new l.graft.exchanged 1 r none) ∙ (same ∙ still)))
      go (Some rest) h = by (below_new rest (λ e. some_slot (same ∙ (over.ends ∙ e))))
        where
          over : GoesOver c c' v p d new l.graft.exchanged k z q rest
          over = goes_over c c' v p d new l.graft.exchanged k z q rest h goes

          to_p : GoesBy c v k 1 l.graft.front
          to_p = onward over.front l.graft.front d over.goes
              (λ e. l.graft.leaf_slot (sym l.graft.leads ∙ (ap (λ (y : ℕ). c y d) (sym over.comes) ∙ e)))
              (l.graft.at_front ∙ sym over.comes)

          by : Below rest → GoesBy c' v k 1 r
          by (Itself is) =
              let at : follow c' 1 r ≡ new = same ∙ (over.ends ∙ ap (follow c' new) is) in
              rw (path_to_new r at some) (into k [] (goes-append c v k 1 l.graft.front (d ∷ []) to_p
              (ap (λ (y : ℕ). side_of k (v y)) l.graft.at_front ∙ over.turns, tt)) tt)
          by (Old u is) = absurd (there (childless u (follow c' z q)
              (sym (over.ends ∙ (ap (follow c' new) is ∙ at_leaf u)))))
          by (New is) = absurd (there (ap (λ (x : ℕ). c' x f) (over.ends ∙ (ap (follow c' new) is ∙ at_far))
              ∙ far_still f))

-- ---- a slot that no path comes to is changed

module _ (c c' : Children) (v v' : Keys) (x : ℕ) (a : Apart c c' v v' x)
    (off : (q : List Side) → follow c 1 q ≡ x → ⊥) where
  pub order_apart : InOrder c v → InOrder c' v'
  order_apart order q there =
      let same : follow c' 1 q ≡ follow c 1 q = apart_follow c c' v v' x a 1 off q in
      let keys : v' (follow c 1 q) ≡ v (follow c 1 q) = a.keys (follow c 1 q) (off q) in
      rw (same, keys) (apart_goes c c' v v' x a (v (follow c 1 q)) 1 off q (order q (rw (← same) there)))

  pub onward_apart : (k z : ℕ) → ((q : List Side) → follow c z q ≡ x → ⊥) → Onward c v k z → Onward c' v' k z
  onward_apart k z never onward q r f goes there same =
      let from_z : follow c' z q ≡ follow c z q = apart_follow c c' v v' x a z never q in
      let from_root : follow c' 1 r ≡ follow c 1 r = apart_follow c c' v v' x a 1 off r in
      let child : c' (follow c z q) f ≡ c (follow c z q) f = a.edges (follow c z q) f (never q) in
      apart_goes c c' v v' x a k 1 off r (onward q r f (apart_went c c' v v' x a k z never q goes)
      (λ e. there (ap (λ (y : ℕ). c' y f) from_z ∙ (child ∙ e))) (sym from_root ∙ (same ∙ from_z)))

-- ---- leaves

-- a reached slot without children
pub record LeafOf (c : Children) (x : ℕ) : Type 0 where
  pub path : List Side
  pub ends : follow c 1 path ≡ x
  pub is_slot : x ≢ 0
  pub null : (f : Side) → c x f ≡ 0

module _ (c c' : Children) (v : Keys) (p : ℕ) (d : Side) (leaf new far : ℕ) (dl : Side)
    (l : Linking c c' v p d leaf new far dl) (some : new ≢ 0) (far_slot : far ≢ 0) where
  -- the new leaf is under the new node
  pub new_leaf : LeafOf c' far
  new_leaf = record {
    path = l.graft.front ++ d ∷ other dl ∷ [];
    ends = leads_on c c' v p d leaf new far dl l (other dl ∷ []) ∙ at_far c c' v p d leaf new far dl l;
    is_slot = far_slot;
    null = far_still c c' v p d leaf new far dl l;
  }

  -- a leaf stays one
  pub leaf_stays : (x : ℕ) → LeafOf c x → LeafOf c' x
  leaf_stays x was = go (rest_after c p d 1 was.path) refl
    where
      go : (o : Option (List Side)) → rest_after c p d 1 was.path ≡ o → LeafOf c' x
      go None h = record {
        path = was.path;
        ends = not_taken c c' p d new l.graft.exchanged 1 was.path h ∙ was.ends;
        is_slot = was.is_slot;
        null = λ f. unless_at c c' p d new x f l.graft.exchanged (not_p c c' v p d leaf new far dl l x was.null)
            ∙ was.null f;
      }
      go (Some r) h = record {
        path = l.graft.front ++ d ∷ dl ∷ r;
        ends = leads_on c c' v p d leaf new far dl l (dl ∷ r) ∙ (at_leaf c c' v p d leaf new far dl l r ∙ ends);
        is_slot = was.is_slot;
        null = λ f. unless_at c c' p d new x f l.graft.exchanged (not_p c c' v p d leaf new far dl l x was.null)
            ∙ was.null f;
      }
        where
          t : Taken c c' p d new 1 was.path r
          t = taken c c' p d new l.graft.exchanged 1 was.path r h

          ends : follow c leaf r ≡ x
          ends = ap (λ (y : ℕ). follow c y r) (sym (ap (λ (y : ℕ). c y d) t.comes ∙ l.graft.leads))
              ∙ (sym (follow-append c 1 t.front (d ∷ r)) ∙ (sym (ap (follow c 1) t.is) ∙ was.ends))

  -- a leaf was one, but for the new one
  pub leaf_was : (x : ℕ) → LeafOf c' x → LeafOf c x ⊎ (x ≡ far)
  leaf_was x now = go (rest_after c p d 1 now.path) refl
    where
      back : (y : ℕ) → y ≢ p → (f : Side) → c' y f ≡ 0 → c y f ≡ 0
      back y ne f none = sym (unless_at c c' p d new y f l.graft.exchanged ne) ∙ none

      apart : x ≢ p
      apart e = some (sym l.graft.exchanged.here ∙ (ap (λ (y : ℕ). c' y d) (sym e) ∙ now.null d))

      go : (o : Option (List Side)) → rest_after c p d 1 now.path ≡ o → LeafOf c x ⊎ (x ≡ far)
      go None h = inl (record {
        path = now.path;
        ends = sym (not_taken c c' p d new l.graft.exchanged 1 now.path h) ∙ now.ends;
        is_slot = now.is_slot;
        null = λ f. back x apart f (now.null f);
      })
      go (Some r) h = by (below_new c c' v p d leaf new far dl l r (λ z. now.is_slot (sym now.ends ∙ (ends ∙ z))))
        where
          ends : follow c' 1 now.path ≡ follow c' new r
          ends = (taken c c' p d new l.graft.exchanged 1 now.path r h).leads

          by : Below c c' v p d leaf new far dl l r → LeafOf c x ⊎ (x ≡ far)
          by (Itself is) =
              let here : x ≡ new = sym now.ends ∙ (ends ∙ ap (follow c' new) is) in
              absurd (l.graft.leaf_slot (sym l.graft.over_leaf
              ∙ (sym (new_still c c' v p d leaf new far dl l dl)
              ∙ (ap (λ (y : ℕ). c' y dl) (sym here) ∙ now.null dl))))
          by (Old u is) =
              let here : follow c leaf u ≡ x = sym (sym now.ends
              ∙ (ends ∙ (ap (follow c' new) is ∙ at_leaf c c' v p d leaf new far dl l u))) in
              inl (record {
                path = l.graft.front ++ d ∷ u;
                ends = down c c' v p d leaf new far dl l u
                    ∙ here;
                is_slot = now.is_slot;
                null = λ f. back x apart f (now.null f);
              })
          by (New is) = inr (sym now.ends ∙ (ends ∙ (ap (follow c' new) is ∙ at_far c c' v p d leaf new far dl l)))

  -- the new leaf's key was no leaf's
  pub key_is_new : InOrder c v → (x : ℕ) → LeafOf c x → v x ≡ v far → ⊥
  key_is_new order x was same = sides dl (sym (l.old_side on.0 (λ z. was.is_slot (sym here ∙ z)))
      ∙ (ap (λ (n : ℕ). side_of n (v new)) (ap v here ∙ same) ∙ l.far_side))
    where
      to_x : GoesBy c v (v far) 1 was.path
      to_x = subst (λ (n : ℕ). GoesBy c v n 1 was.path) (ap v was.ends ∙ same)
          (order was.path (λ z. was.is_slot (sym was.ends ∙ z)))

      on : (u : List Side) × (was.path ≡ (l.graft.front ++ d ∷ []) ++ u)
      on = on_way c l.graft.nothing v (v far) 1 was.path (l.graft.front ++ d ∷ []) to_x l.far_goes
          (rw was.ends was.null) (λ z. l.graft.leaf_slot (sym (down c c' v p d leaf new far dl l []) ∙ z))

      here : follow c leaf on.0 ≡ x
      here = sym (down c c' v p d leaf new far dl l on.0)
          ∙ (ap (follow c 1) (sym (append_assoc l.graft.front (d ∷ []) on.0) ∙ sym on.1) ∙ was.ends)

      sides : (e : Side) → e ≡ other e → ⊥
      sides Left h = cc
      sides Right h = cc
