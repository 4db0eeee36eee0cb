-- Radix trees: what a node's child stands for lies on its side of the node's range. So the search for
-- a key comes to each node in whose range it is. It outlasts a splice, a link, and what is done to a
-- slot that no path comes to.
use Rattle.std.proofs.Common.{◌≡◌, ◌≢◌, ℕ, zero, suc, ◌<◌, ◌≤◌, inl, inr, ◌⊎◌, eqb, Bool, true, false, cond, ◌&&◌, List, [], ◌∷◌, ◌++◌, refl, sym, ap, subst, ◌∙◌, arith}
use Rattle.std.specs.Prelude.{Option, Some, None, nat_lt}
use native.Mathlib.Decide.{ℕ_discrete}
use Rattle.std.proofs.lemmas.Bool.{eqb-true, and_parts, cond-true, lt-ltb, ltb-true, ltb-false}
use Rattle.nm_edge.specs.Edges.{other}
use Rattle.nm_edge.specs.Ranges.{covers}
use Rattle.nm_edge.specs.declared.edge.Side.{Side}
use Rattle.nm_edge.specs.declared.edge.Side.TheVariants.{Left, Right}
use Rattle.nm_model.specs.Memory.{infinity_0, infinity_1, infinity_2}
use Rattle.nm_model.specs.Paths.{follow}
use Rattle.nm_model.specs.Searches.{side_of}
use Rattle.nm_order.specs.Intervals.{GoesBy}
use Rattle.nm_order.specs.Ranges.{StandsFor, IsNested}
use Rattle.nm_laws.proofs.Trees.{Children, Exchanged, rest_after, same_side, same_side-true, follow_none, follow-append, not_taken, taken, each_slot}
use Rattle.nm_laws.proofs.CutPaths.{Splicing, old_path, led}
use Rattle.nm_order.proofs.Searching.{Keys, goes-append, Apart, apart_follow}
use Rattle.nm_order.proofs.OrderedTrees.{InOrder, Linking, had_child, unless_at, one_or_other, down, new_still, far_still, Below, below_new, at_leaf, at_far, Grafting}
use Rattle.nm_order.proofs.SwappedTrees.{Swapping, SwappedWay, swapped_way, to_old_leaf, new_null_now}
use Rattle.nm_order.proofs.OrderedTrees.Below.{Itself, Old, New}
use Rattle.nm_order.proofs.RangesOfKeys.{covers_own, lies_in_half, half_has_range}

-- each node above the fixed ones to which a path comes is nested
abbrev pub Nests : Children → Keys → Type 0
Nests c v = (q : List Side) → 6 ≤ follow c 1 q → IsNested c v (follow c 1 q)

-- and their keys are no greater than that of slot 3; two of the fixed edges stay
pub record RadixLaw (c : Children) (v : Keys) : Type 0 where
  pub nests : Nests c v
  pub low : (q : List Side) → 6 ≤ follow c 1 q → v (follow c 1 q) ≤ infinity_0
  pub third : v 3 ≤ infinity_0
  pub right : c 1 Right ≡ 5
  pub second_right : c 2 Right ≡ 4

-- the fixed slots
pub which : (z : ℕ) → (z ≡ 0) ⊎ ((z ≡ 1) ⊎ ((z ≡ 2) ⊎ (((3 ≤ z) × (z ≤ 5)) ⊎ (6 ≤ z))))
which = each_slot (λ z. (z ≡ 0) ⊎ ((z ≡ 1) ⊎ ((z ≡ 2) ⊎ (((3 ≤ z) × (z ≤ 5)) ⊎ (6 ≤ z))))) (inl refl)
    (inr (inl refl)) (inr (inr (inl refl))) (inr (inr (inr (inl (omega arith, omega arith)))))
    (inr (inr (inr (inl (omega arith, omega arith)))))
    (inr (inr (inr (inl (omega arith, omega arith))))) (λ n. inr (inr (inr (inr (omega arith)))))

pub left_if : (k n : ℕ) → k < n → side_of k n ≡ Left
left_if k n lt = cond-true (nat_lt k n) Left Right (lt-ltb k n lt)

-- sides by the tests
side_test : (a b c d : ℕ) → nat_lt a b ≡ nat_lt c d → side_of a b ≡ side_of c d
side_test a b c d same = ap (λ (t : Bool). cond t Left Right) same

pub test_of_side : (a b c d : ℕ) → side_of a b ≡ side_of c d → nat_lt a b ≡ nat_lt c d
test_of_side a b c d same = go (nat_lt a b) (nat_lt c d) same
  where
    go : (s t : Bool) → cond s Left Right ≡ cond t Left Right → s ≡ t
    go true true h = refl
    go true false h = cc
    go false true h = cc
    go false false h = refl

pub less_of_left : (k n : ℕ) → side_of k n ≡ Left → k < n
less_of_left k n h = go (nat_lt k n) refl h
  where
    go : (b : Bool) → nat_lt k n ≡ b → cond b Left Right ≡ Left → k < n
    go true i h = ltb-true k n i
    go false i h = cc

pub more_of_right : (k n : ℕ) → side_of k n ≡ Right → n ≤ k
more_of_right k n h = go (nat_lt k n) refl h
  where
    go : (b : Bool) → nat_lt k n ≡ b → cond b Left Right ≡ Right → n ≤ k
    go true i h = cc
    go false i h = ltb-false k n i

not_both : (e : Side) → e ≡ other e → ⊥
not_both Left h = cc
not_both Right h = cc

-- ---- a tree

module _ (c : Children) (v : Keys) (nothing : (e : Side) → c 0 e ≡ 0) (nests : Nests c v) where
  some_there : (y : ℕ) (q : List Side) → follow c y q ≢ 0 → y ≢ 0
  some_there y q some z = some (ap (λ (x : ℕ). follow c x q) z ∙ follow_none c nothing q)

  -- what a node stands for, each above it stands for
  pub climb : (above q : List Side) (k : ℕ) → follow c (follow c 1 above) q ≢ 0
      → StandsFor c v (follow c (follow c 1 above) q) k → StandsFor c v (follow c 1 above) k
  climb above [] k some stands = stands
  climb above (e ∷ q) k some stands = by (climb (above ++ e ∷ []) q k (rw at some) (rw at stands))
    where
      at : follow c 1 (above ++ e ∷ []) ≡ c (follow c 1 above) e
      at = follow-append c 1 above (e ∷ [])

      here : c (follow c 1 above) e ≢ 0
      here = some_there (c (follow c 1 above) e) q some

      by : StandsFor c v (follow c 1 (above ++ e ∷ [])) k → StandsFor c v (follow c 1 above) k
      by below = inr (
        (e, here),
        λ high. ((nests above high).below e k here
            (subst (λ (y : ℕ). StandsFor c v y k) at below)).0,
      )

  -- a node stands for its own key
  pub itself : (q : List Side) → StandsFor c v (follow c 1 q) (v (follow c 1 q))
  itself q = elim (ℕ_discrete (c (follow c 1 q) Left) 0) [
    | yes left ↦ elim (ℕ_discrete (c (follow c 1 q) Right) 0) [
      | yes right ↦ inl (both left right, refl)
      | no there ↦ inr ((Right, there), λ high. (nests q high).own Right there)
    ]
    | no there ↦ inr ((Left, there), λ high. (nests q high).own Left there)
  ]
    where
      both : c (follow c 1 q) Left ≡ 0 → c (follow c 1 q) Right ≡ 0 → (f : Side) → c (follow c 1 q) f ≡ 0
      both left right Left = left
      both left right Right = right

  -- the searches for two keys for which a node stands come to it by one path
  pub goes_too : (leaves : (x : ℕ) (f : Side) → 3 ≤ x → x ≤ 5 → c x f ≡ 0) → v 1 ≡ infinity_2 → v 2 ≡ infinity_1
      → (above q : List Side) (j k : ℕ) → j < infinity_1 → k < infinity_1
      → follow c (follow c 1 above) q ≢ 0 → StandsFor c v (follow c (follow c 1 above) q) k
      → GoesBy c v j (follow c 1 above) q → GoesBy c v k (follow c 1 above) q
  goes_too leaves first second above [] j k small small' some stands goes = tt
  goes_too leaves first second above (e ∷ q) j k small small' some stands goes = (
    turn (which (follow c 1 above)),
    subst (λ (y : ℕ). GoesBy c v k y q) at (goes_too leaves first second (above ++ e ∷ []) q j k small small'
        (rw at some) (rw at stands) (rw at goes.1)),
  )
    where
      at : follow c 1 (above ++ e ∷ []) ≡ c (follow c 1 above) e
      at = follow-append c 1 above (e ∷ [])

      here : c (follow c 1 above) e ≢ 0
      here = some_there (c (follow c 1 above) e) q some

      below : StandsFor c v (c (follow c 1 above) e) k
      below = subst (λ (y : ℕ). StandsFor c v y k) at (climb (above ++ e ∷ []) q k (rw at some) (rw at stands))

      fixed : (n : ℕ) → v (follow c 1 above) ≡ n → j < n → k < n → side_of k (v (follow c 1 above)) ≡ e
      fixed n is low low' = ap (side_of k) is ∙ (left_if k n low'
          ∙ (sym (left_if j n low) ∙ (sym (ap (side_of j) is) ∙ goes.0)))

      turn : (follow c 1 above ≡ 0) ⊎ ((follow c 1 above ≡ 1)
          ⊎ ((follow c 1 above ≡ 2) ⊎ (((3 ≤ follow c 1 above) × (follow c 1 above ≤ 5)) ⊎ (6 ≤ follow c 1 above))))
          → side_of k (v (follow c 1 above)) ≡ e
      turn (inl z) = absurd (here (ap (λ (y : ℕ). c y e) z ∙ nothing e))
      turn (inr (inl is)) = fixed infinity_2 (ap v is ∙ first) (omega (arith, small)) (omega (arith, small'))
      turn (inr (inr (inl is))) = fixed infinity_1 (ap v is ∙ second) small small'
      turn (inr (inr (inr (inl range)))) = absurd (here (leaves (follow c 1 above) e range.0 range.1))
      turn (inr (inr (inr (inr high)))) = ((nests above high).below e k here below).1

-- ---- an edge is exchanged

-- what a slot stands for after it, it stood for before
pub stands_back : (c c' : Children) (v : Keys) (p : ℕ) (d : Side) (t : ℕ) → Exchanged c c' p d t → c p d ≢ 0 → t ≢ 0
    → (z k : ℕ) → StandsFor c' v z k → StandsFor c v z k
stands_back c c' v p d t x some there z k (inl (null, is)) = inl
    ((λ f. sym (unless_at c c' p d t z f x apart) ∙ null f), is)
  where
    apart : z ≢ p
    apart e = there (sym x.here ∙ (ap (λ (y : ℕ). c' y d) (sym e) ∙ null d))
stands_back c c' v p d t x some there z k (inr (at, has)) = inr (had_child c c' p d t x some z at.0 at.1, has)

-- a nested node stays so, where what its new child stands for its old one stood for
pub nested_still : (c c' : Children) (v : Keys) (p : ℕ) (d : Side) (t : ℕ) → Exchanged c c' p d t → c p d ≢ 0 → t ≢ 0
    → (y : ℕ) → IsNested c v y
    → (y ≡ p → (k : ℕ) → StandsFor c' v t k → (covers (v y) k ≡ true) × (side_of k (v y) ≡ d)) → IsNested c' v y
nested_still c c' v p d t x some there y was new = record {
  own = λ f child. let g = had_child c c' p d t x some y f child in was.own g.0 g.1;
  below = below;
}
  where
    below : (f : Side) (k : ℕ) → c' y f ≢ 0 → StandsFor c' v (c' y f) k
        → (covers (v y) k ≡ true) × (side_of k (v y) ≡ f)
    below f k child stands = go (eqb y p && same_side d f) refl
      where
        go : (b : Bool) → (eqb y p && same_side d f) ≡ b → (covers (v y) k ≡ true) × (side_of k (v y) ≡ f)
        go true is =
            let parts = and_parts (eqb y p) (same_side d f) is in
            let at : y ≡ p = eqb-true y p parts.0 in
            let side : d ≡ f = same_side-true d f parts.1 in
            let led_to : c' y f ≡ t = ap (λ (z : ℕ). c' z f) at ∙ (ap (c' p) (sym side) ∙ x.here) in
            let found = new at k (subst (λ (z : ℕ). StandsFor c' v z k) led_to stands) in
            (found.0, found.1 ∙ side)
        go false is =
            let same : c' y f ≡ c y f = x.others y f is in
            was.below f k (λ z. child (same ∙ z)) (stands_back c c' v p d t x some there (c y f) k
            (subst (λ (z : ℕ). StandsFor c' v z k) same stands))

-- a fixed edge that is not exchanged
fixed_still : (c c' : Children) (p : ℕ) (d : Side) (t : ℕ) → Exchanged c c' p d t → (x : ℕ) (f : Side)
    → ((x ≡ p) → (d ≡ f) → ⊥) → c' x f ≡ c x f
fixed_still c c' p d t ex x f apart = go (eqb x p && same_side d f) refl
  where
    go : (b : Bool) → (eqb x p && same_side d f) ≡ b → c' x f ≡ c x f
    go true is = let parts = and_parts (eqb x p) (same_side d f) is in
        absurd (apart (eqb-true x p parts.0) (same_side-true d f parts.1))
    go false is = ex.others x f is

-- ---- a splice

module _ (c c' : Children) (v : Keys) (a : ℕ) (d : Side) (way : List Side) (g : Splicing c c' a d way)
    (some : c a d ≢ 0) (target : follow c (c a d) way ≢ 0) (high : 6 ≤ c a d) (law : RadixLaw c v) where
  to_edge : follow c 1 (g.front ++ d ∷ []) ≡ c a d
  to_edge = follow-append c 1 g.front (d ∷ []) ∙ ap (λ (y : ℕ). c y d) g.at_front

  new_child : (k : ℕ) → 6 ≤ a → StandsFor c' v (follow c (c a d) way) k
      → (covers (v a) k ≡ true) × (side_of k (v a) ≡ d)
  new_child k up stands =
      let was : StandsFor c v (follow c (c a d) way) k = stands_back c c' v a d (follow c (c a d) way) g.exchanged
      some target (follow c (c a d) way) k stands in
      let above : StandsFor c v (c a d) k = subst (λ (y : ℕ). StandsFor c v y k) to_edge
      (climb c v g.nothing law.nests (g.front ++ d ∷ []) way k (rw to_edge target) (rw to_edge was)) in
      (subst (λ (y : ℕ). IsNested c v y) g.at_front (law.nests g.front (rw g.at_front up))).below d k some above

  pub radix_spliced : RadixLaw c' v
  radix_spliced = record {
    nests = nests;
    low = λ q up. let is = led c c' a d way g q in
        rw is (law.low (old_path c c' a d way g (rest_after c a d 1 q) q) (rw (← is) up));
    third = law.third;
    right = fixed_still c c' a d _ g.exchanged 1 Right
        (λ e f. let is : c a d ≡ 5 = ap (λ (y : ℕ). c y d) (sym e) ∙ (ap (c 1) f ∙ law.right) in
        omega (arith, high, is)) ∙ law.right;
    second_right = fixed_still c c' a d _ g.exchanged 2 Right
        (λ e f. let is : c a d ≡ 4 = ap (λ (y : ℕ). c y d) (sym e) ∙ (ap (c 2) f ∙ law.second_right) in
        omega (arith, high, is)) ∙ law.second_right;
  }
    where
      nests : Nests c' v
      nests q up =
          let is : follow c' 1 q ≡ follow c 1 (old_path c c' a d way g (rest_after c a d 1 q) q) = led c c' a d way g
          q in
          let was : IsNested c v (follow c' 1 q) = subst (IsNested c v) (sym is)
          (law.nests (old_path c c' a d way g (rest_after c a d 1 q) q) (rw (← is) up)) in
          nested_still c c' v a d _ g.exchanged some target (follow c' 1 q) was
          (λ e k stands. rw e (new_child k (rw (← e) up) stands))

-- ---- a swap

module _ (c c' : Children) (v : Keys) (p : ℕ) (d : Side) (leaf new : ℕ) (g : Swapping c c' v p d leaf new)
    (some_new : new ≢ 0) (leaf_high : 6 ≤ leaf) (law : RadixLaw c v) where
  some_leaf : c p d ≢ 0
  some_leaf z = g.leaf_slot (sym g.leads ∙ z)

  swapped_child : (k : ℕ) → 6 ≤ p → StandsFor c' v new k → (covers (v p) k ≡ true) × (side_of k (v p) ≡ d)
  swapped_child k up stands =
      (subst (λ (y : ℕ). IsNested c v y) g.at_front (law.nests g.front (rw g.at_front up))).below d k some_leaf
      (subst (λ (y : ℕ). StandsFor c v y k) (sym g.leads) (was stands))
    where
      was : StandsFor c' v new k → StandsFor c v leaf k
      was (inl (null, is)) = inl (g.leaf_null, sym g.same_key ∙ is)
      was (inr (at, has)) = absurd (at.1 (new_null_now c c' v p d leaf new g at.0))

  pub radix_swapped : RadixLaw c' v
  radix_swapped = record {
    nests = λ q up. nests q up (swapped_way c c' v p d leaf new g q (λ z. omega (arith, up, z)));
    low = λ q up. low q up (swapped_way c c' v p d leaf new g q (λ z. omega (arith, up, z)));
    third = law.third;
    right = fixed_still c c' p d new g.exchanged 1 Right (λ e f. let is : leaf ≡ 5 = sym g.leads
        ∙ (ap (λ (y : ℕ). c y d) (sym e) ∙ (ap (c 1) f ∙ law.right)) in omega (arith, leaf_high, is)) ∙ law.right;
    second_right = fixed_still c c' p d new g.exchanged 2 Right (λ e f. let is : leaf ≡ 4 = sym g.leads
        ∙ (ap (λ (y : ℕ). c y d) (sym e) ∙ (ap (c 2) f ∙ law.second_right)) in omega (arith, leaf_high, is))
        ∙ law.second_right;
  }
    where
      nests : (q : List Side) → 6 ≤ follow c' 1 q → SwappedWay c c' v p d leaf new g q → IsNested c' v (follow c' 1 q)
      nests q up (inl a) = nested_still c c' v p d new g.exchanged some_leaf some_new (follow c' 1 q)
          (subst (IsNested c v) (sym a.1) (law.nests q (rw (← a.1) up)))
          (λ e k stands. rw e (swapped_child k (rw (← e) up) stands))
      nests q up (inr b) = subst (IsNested c' v) (sym b.1)
          (record {
            own = λ f there. absurd (there (new_null_now c c' v p d leaf new g f));
            below =
                λ f k there stands. absurd (there (new_null_now c c' v p d leaf new g f));
          })

      low : (q : List Side) → 6 ≤ follow c' 1 q → SwappedWay c c' v p d leaf new g q → v (follow c' 1 q) ≤ infinity_0
      low q up (inl a) = rw a.1 (law.low q (rw (← a.1) up))
      low q up (inr b) =
          let at = to_old_leaf c c' v p d leaf new g in
          rw (b.1, g.same_key) (rw at at (law.low (g.front ++ d ∷ []) (rw at leaf_high)))

-- ---- a slot that no path comes to is changed

pub stands_apart : (c c' : Children) (v v' : Keys) (x : ℕ) → Apart c c' v v' x → (y k : ℕ) → y ≢ x
    → StandsFor c' v' y k → StandsFor c v y k
stands_apart c c' v v' x a y k ne (inl (null, is)) = inl ((λ f. sym (a.edges y f ne) ∙ null f), sym (a.keys y ne) ∙ is)
stands_apart c c' v v' x a y k ne (inr (at, has)) = inr
    ((at.0, λ z. at.1 (a.edges y at.0 ne ∙ z)), λ h. subst (λ (n : ℕ). covers n k ≡ true) (a.keys y ne) (has h))

pub nested_apart : (c c' : Children) (v v' : Keys) (x : ℕ) → Apart c c' v v' x → (y : ℕ) → y ≢ x
    → ((f : Side) → c y f ≢ x) → IsNested c v y → IsNested c' v' y
nested_apart c c' v v' x a y ne children was = record {
  own = λ f there. subst (λ (n : ℕ). covers n n ≡ true) (sym (a.keys y ne))
      (was.own f (λ z. there (a.edges y f ne ∙ z)));
  below = λ f k there stands. (
      let same : c' y f ≡ c y f = a.edges y f ne in
      let found = was.below f k (λ z. there (same ∙ z))
      (stands_apart c c' v v' x a (c y f) k (children f) (subst (λ (z : ℕ). StandsFor c' v' z k) same stands)) in
      subst (λ (n : ℕ). (covers n k ≡ true) × (side_of k n ≡ f)) (sym (a.keys y ne)) found
      );
}

module _ (c c' : Children) (v v' : Keys) (x : ℕ) (a : Apart c c' v v' x)
    (off : (q : List Side) → follow c 1 q ≡ x → ⊥) (up : 6 ≤ x) (law : RadixLaw c v) where
  pub radix_apart : RadixLaw c' v'
  radix_apart = record {
    nests = nests;
    low = λ q h. let is = path q in rw (is, a.keys (follow c 1 q) (off q)) (law.low q (rw (← is) h));
    third = rw (a.keys 3 (λ e. omega (arith, e, up))) law.third;
    right = a.edges 1 Right (λ e. omega (arith, e, up)) ∙ law.right;
    second_right = a.edges 2 Right (λ e. omega (arith, e, up)) ∙ law.second_right;
  }
    where
      path : (q : List Side) → follow c' 1 q ≡ follow c 1 q
      path q = apart_follow c c' v v' x a 1 off q

      nests : Nests c' v'
      nests q h = subst (IsNested c' v') (sym (path q))
          (nested_apart c c' v v' x a (follow c 1 q) (off q)
          (λ f e. off (q ++ f ∷ []) (follow-append c 1 q (f ∷ []) ∙ e)) (law.nests q (rw (← path q) h)))

-- ---- a link

-- the new node parts what the slot stands for from the key of the new leaf, and the key is in the
-- range of the parent, on the side of the edge
pub record Parting (c : Children) (v : Keys) (p : ℕ) (d : Side) (leaf new far : ℕ) (dl : Side) : Type 0 where
  pub place : ((p ≡ 2) × (d ≡ Left)) ⊎ ((6 ≤ p) × ((covers (v p) (v far) ≡ true) × (side_of (v far) (v p) ≡ d)))
  pub covers_far : covers (v new) (v far) ≡ true
  pub covers_leaf : covers (v new) (v leaf) ≡ true
  pub far_side : side_of (v far) (v new) ≡ other dl
  pub leaf_side : side_of (v leaf) (v new) ≡ dl
  pub over : ((f : Side) → c leaf f ≡ 0) ⊎ ((6 ≤ leaf) × (covers (v leaf) (v far) ≡ false))
  pub small : v far ≤ infinity_0
  pub high_new : 6 ≤ new
  pub high_far : 6 ≤ far

-- the slots of the link, and the fixed ones
pub record Placed (c c' : Children) (v : Keys) (p : ℕ) (d : Side) (leaf new far : ℕ) (dl : Side) : Type 0 where
  pub graft : Grafting c c' p d leaf new far dl
  pub root_left : c 1 Left ≡ 2
  pub leaves : (x : ℕ) (f : Side) → 3 ≤ x → x ≤ 5 → c x f ≡ 0
  pub first_key : v 1 ≡ infinity_2
  pub second_key : v 2 ≡ infinity_1

module _ (c c' : Children) (v : Keys) (p : ℕ) (d : Side) (leaf new far : ℕ) (dl : Side)
    (b : Placed c c' v p d leaf new far dl) (t : Parting c v p d leaf new far dl) (law : RadixLaw c v) where
  to_leaf : follow c 1 (b.graft.front ++ d ∷ []) ≡ leaf
  to_leaf = follow-append c 1 b.graft.front (d ∷ []) ∙ (ap (λ (y : ℕ). c y d) b.graft.at_front ∙ b.graft.leads)

  child_there : c p d ≢ 0
  child_there z = b.graft.leaf_slot (sym b.graft.leads ∙ z)

  parted : nat_lt (v far) (v new) ≡ nat_lt (v leaf) (v new) → ⊥
  parted same = not_both dl (sym t.leaf_side ∙ (sym (side_test (v far) (v new) (v leaf) (v new) same) ∙ t.far_side))

  -- what the slot stands for is in the new node's range, on its side
  pub leaf_stands : (k : ℕ) → StandsFor c v leaf k → (covers (v new) k ≡ true) × (side_of k (v new) ≡ dl)
  leaf_stands k (inl (null, is)) = subst (λ (n : ℕ). (covers (v new) n ≡ true) × (side_of n (v new) ≡ dl)) is
      (t.covers_leaf, t.leaf_side)
  leaf_stands k (inr (at, has)) = by t.over
    where
      by : ((f : Side) → c leaf f ≡ 0) ⊎ ((6 ≤ leaf) × (covers (v leaf) (v far) ≡ false))
          → (covers (v new) k ≡ true) × (side_of k (v new) ≡ dl)
      by (inl null) = absurd (at.1 (null at.0))
      by (inr (high, none)) =
          let own : covers (v leaf) (v leaf) ≡ true = (subst (λ (y : ℕ). IsNested c v y) to_leaf
          (law.nests (b.graft.front ++ d ∷ []) (rw to_leaf high))).own at.0 at.1 in
          let found = lies_in_half 64 (v new) (v leaf) (v far) k t.covers_leaf t.covers_far own none (has high) in
          (found.0, side_test k (v new) (v leaf) (v new) found.1 ∙ t.leaf_side)

  -- the slot's own key
  leaf_itself : StandsFor c v leaf (v leaf)
  leaf_itself = subst (λ (y : ℕ). StandsFor c v y (v y)) to_leaf
      (itself c v b.graft.nothing law.nests (b.graft.front ++ d ∷ []))

  -- what the new node's range has is in that of its parent, on the edge's side
  pub new_stands : (k : ℕ) → 6 ≤ p → covers (v new) k ≡ true → (covers (v p) k ≡ true) × (side_of k (v p) ≡ d)
  new_stands k up has = by t.place
    where
      by : ((p ≡ 2) × (d ≡ Left)) ⊎ ((6 ≤ p) × ((covers (v p) (v far) ≡ true) × (side_of (v far) (v p) ≡ d)))
          → (covers (v p) k ≡ true) × (side_of k (v p) ≡ d)
      by (inl two) = let is = two.0 in absurd (omega (arith, up, is))
      by (inr at) =
          let leaf_in : (covers (v p) (v leaf) ≡ true)
          × (side_of (v leaf) (v p) ≡ d) = (subst (λ (y : ℕ). IsNested c v y) b.graft.at_front
          (law.nests b.graft.front (rw b.graft.at_front up))).below d (v leaf) child_there
          (subst (λ (y : ℕ). StandsFor c v y (v leaf)) (sym b.graft.leads) leaf_itself) in
          let found = half_has_range 64 (v p) (v new) (v leaf) (v far) k at.1.0 leaf_in.0
          (test_of_side (v far) (v p) (v leaf) (v p) (at.1.1 ∙ sym leaf_in.1)) t.covers_far t.covers_leaf
          parted has in
          (found.0, side_test k (v p) (v far) (v p) found.1 ∙ at.1.1)

  -- the slot's key is no greater than that of slot 3
  leaf_low : v leaf ≤ infinity_0
  leaf_low = by (which leaf)
    where
      -- no other path comes to the slot
      path : (q : List Side) → follow c 1 q ≡ leaf → b.graft.front ++ d ∷ [] ≡ q
      path q is = b.graft.alone (b.graft.front ++ d ∷ []) q (λ z. b.graft.leaf_slot (sym to_leaf ∙ z))
          (to_leaf ∙ sym is)

      short : (front : List Side) (e : Side) → front ++ d ∷ [] ≡ e ∷ [] → (front ≡ []) × (d ≡ e)
      short [] e h = (refl, (let s : d ∷ [] ≡ e ∷ [] = h in cc))
      short (f ∷ []) e h = let s : f ∷ d ∷ [] ≡ e ∷ [] = h in cc
      short (f ∷ g ∷ front) e h = let s : f ∷ g ∷ (front ++ d ∷ []) ≡ e ∷ [] = h in cc

      last : (front : List Side) (e g : Side) → front ++ d ∷ [] ≡ e ∷ g ∷ [] → (front ≡ e ∷ []) × (d ≡ g)
      last [] e g h = let s : d ∷ [] ≡ e ∷ g ∷ [] = h in cc
      last (f ∷ front) e g h =
          let tail : front ++ d ∷ [] ≡ g ∷ [] = (let s : f ∷ (front ++ d ∷ []) ≡ e ∷ g ∷ [] = h in cc) in
          let head : f ≡ e = (let s : f ∷ (front ++ d ∷ []) ≡ e ∷ g ∷ [] = h in cc) in
          let rest = short front g tail in
          (ap (λ (y : Side). y ∷ front) head ∙ ap (λ (ys : List Side). e ∷ ys) rest.0, rest.1)

      parent_two : b.graft.front ≡ Left ∷ [] → p ≡ 2
      parent_two is = sym b.graft.at_front ∙ (ap (follow c 1) is ∙ b.root_left)

      no_way : (q : List Side) → q ≡ b.graft.front ++ d ∷ [] → q ≡ [] → ⊥
      no_way q is none = nil b.graft.front (sym is ∙ none)
        where
          nil : (front : List Side) → front ++ d ∷ [] ≡ [] → ⊥
          nil [] h = cc
          nil (f ∷ front) h = cc

      at_right : d ≡ Right → p ≡ 2 → ⊥
      at_right side two = go t.place
        where
          go : ((p ≡ 2) × (d ≡ Left)) ⊎ ((6 ≤ p) × ((covers (v p) (v far) ≡ true) × (side_of (v far) (v p) ≡ d))) → ⊥
          go (inl at) = not_both Left (sym at.1 ∙ side)
          go (inr at) = let up = at.0 in omega (arith, up, two)

      at_root : p ≡ 1 → ⊥
      at_root one = go t.place
        where
          go : ((p ≡ 2) × (d ≡ Left)) ⊎ ((6 ≤ p) × ((covers (v p) (v far) ≡ true) × (side_of (v far) (v p) ≡ d))) → ⊥
          go (inl at) = let two = at.0 in omega (arith, one, two)
          go (inr at) = let up = at.0 in omega (arith, up, one)

      fixed : (x : ℕ) → leaf ≡ x → 3 ≤ x → x ≤ 5 → v leaf ≤ infinity_0
      fixed zero is low high = absurd (omega arith)
      fixed (suc zero) is low high = absurd (omega arith)
      fixed (suc (suc zero)) is low high = absurd (omega arith)
      fixed (suc (suc (suc zero))) is low high = subst (λ (y : ℕ). v y ≤ infinity_0) (sym is) law.third
      fixed (suc (suc (suc (suc zero)))) is low high =
          let two = last b.graft.front Left Right (path (Left ∷ Right ∷ [])
          (ap (λ (y : ℕ). c y Right) b.root_left ∙ (law.second_right ∙ sym is))) in
          absurd (at_right two.1 (parent_two two.0))
      fixed (suc (suc (suc (suc (suc zero))))) is low high =
          let one = short b.graft.front Right (path (Right ∷ []) (law.right ∙ sym is)) in
          absurd (at_root (sym b.graft.at_front ∙ ap (follow c 1) one.0))
      fixed (suc (suc (suc (suc (suc (suc n)))))) is low high = absurd (omega arith)

      by : (leaf ≡ 0) ⊎ ((leaf ≡ 1) ⊎ ((leaf ≡ 2) ⊎ (((3 ≤ leaf) × (leaf ≤ 5)) ⊎ (6 ≤ leaf)))) → v leaf ≤ infinity_0
      by (inl z) = absurd (b.graft.leaf_slot z)
      by (inr (inl one)) = absurd (no_way (b.graft.front ++ d ∷ []) refl (path [] (sym one)))
      by (inr (inr (inl two))) = absurd (at_root (sym b.graft.at_front
          ∙ ap (follow c 1) (short b.graft.front Left (path (Left ∷ []) (b.root_left ∙ sym two))).0))
      by (inr (inr (inr (inl range)))) = fixed leaf refl range.0 range.1
      by (inr (inr (inr (inr high)))) = subst (λ (y : ℕ). v y ≤ infinity_0) to_leaf
          (law.low (b.graft.front ++ d ∷ []) (rw to_leaf high))

  -- nor is that of the new node
  pub new_low : v new ≤ infinity_0
  new_low = by dl t.leaf_side t.far_side
    where
      by : (e : Side) → side_of (v leaf) (v new) ≡ e → side_of (v far) (v new) ≡ other e → v new ≤ infinity_0
      by Left one two = let more = more_of_right (v far) (v new) two in let few = t.small in omega (arith, more, few)
      by Right one two = let more = more_of_right (v leaf) (v new) one in let few = leaf_low in omega (arith, more, few)

  -- the search for a key in the parent's range comes to the parent
  comes : InOrder c v → (k : ℕ) → k ≤ infinity_0 → (6 ≤ p → covers (v p) k ≡ true) → GoesBy c v k 1 b.graft.front
  comes order k small has = by t.place
    where
      by : ((p ≡ 2) × (d ≡ Left)) ⊎ ((6 ≤ p) × ((covers (v p) (v far) ≡ true) × (side_of (v far) (v p) ≡ d)))
          → GoesBy c v k 1 b.graft.front
      by (inl two) =
          let path : Left ∷ [] ≡ b.graft.front = b.graft.alone (Left ∷ []) b.graft.front
          (λ z. (let two' : 2 ≡ 0 = sym b.root_left ∙ z in omega (arith, two')))
          (b.root_left ∙ (sym two.0 ∙ sym b.graft.at_front)) in
          subst (GoesBy c v k 1) path (ap (side_of k) b.first_key ∙ left_if k infinity_2 (omega (arith, small)), tt)
      by (inr at) =
          let low : v p ≤ infinity_0 = subst (λ (y : ℕ). v y ≤ infinity_0) b.graft.at_front
          (law.low b.graft.front (rw b.graft.at_front at.0)) in
          goes_too c v b.graft.nothing law.nests b.leaves b.first_key b.second_key [] b.graft.front (v p) k
          (omega (arith, low)) (omega (arith, small)) (rw b.graft.at_front b.graft.is_slot)
          (rw b.graft.at_front (inr ((d, child_there), has)))
          (subst (λ (y : ℕ). GoesBy c v (v y) 1 b.graft.front) b.graft.at_front
          (order b.graft.front (rw b.graft.at_front b.graft.is_slot)))

  -- and goes on by the edge
  goes_by : InOrder c v → (k : ℕ) → k ≤ infinity_0 → (6 ≤ p → (covers (v p) k ≡ true) × (side_of k (v p) ≡ d))
      → GoesBy c v k 1 (b.graft.front ++ d ∷ [])
  goes_by order k small has = goes-append c v k 1 b.graft.front (d ∷ []) (comes order k small (λ up. (has up).0))
      (ap (λ (y : ℕ). side_of k (v y)) b.graft.at_front ∙ turn t.place, tt)
    where
      turn : ((p ≡ 2) × (d ≡ Left)) ⊎ ((6 ≤ p) × ((covers (v p) (v far) ≡ true) × (side_of (v far) (v p) ≡ d)))
          → side_of k (v p) ≡ d
      turn (inl two) = ap (λ (y : ℕ). side_of k (v y)) two.0
          ∙ (ap (side_of k) b.second_key ∙ (left_if k infinity_1 (omega (arith, small)) ∙ sym two.1))
      turn (inr at) = (has at.0).1

  pub radix_links : InOrder c v → Linking c c' v p d leaf new far dl
  radix_links order = record {
    graft = b.graft;
    old_side = λ u some. (leaf_stands (v (follow c leaf u))
        (subst (λ (y : ℕ). StandsFor c v y (v (follow c leaf u))) to_leaf
        (climb c v b.graft.nothing law.nests (b.graft.front ++ d ∷ []) u (v (follow c leaf u)) (rw to_leaf some)
        (rw to_leaf (under u))))).1;
    far_side = t.far_side;
    new_goes = goes_by order (v new) new_low (λ up. new_stands (v new) up (covers_own 64 (v new) (v far) t.covers_far));
    far_goes = goes_by order (v far) t.small (λ up. new_stands (v far) up t.covers_far);
  }
    where
      under : (u : List Side) → StandsFor c v (follow c leaf u) (v (follow c leaf u))
      under u =
          let at : follow c 1 ((b.graft.front ++ d ∷ []) ++ u)
          ≡ follow c leaf u = follow-append c 1 (b.graft.front ++ d ∷ []) u
          ∙ ap (λ (y : ℕ). follow c y u) to_leaf in
          subst (λ (y : ℕ). StandsFor c v y (v y)) at (itself c v b.graft.nothing law.nests
          ((b.graft.front ++ d ∷ []) ++ u))

  module _ (l : Linking c c' v p d leaf new far dl) where
    new_slot : new ≢ 0
    new_slot z = let up = t.high_new in omega (arith, up, z)

    -- an old node
    old_nested : (q : List Side) → 6 ≤ follow c 1 q → IsNested c' v (follow c 1 q)
    old_nested q up = nested_still c c' v p d new b.graft.exchanged child_there new_slot (follow c 1 q)
        (law.nests q up) (λ e k stands. rw e (by k (rw (← e) up) stands))
      where
        by : (k : ℕ) → 6 ≤ p → StandsFor c' v new k → (covers (v p) k ≡ true) × (side_of k (v p) ≡ d)
        by k up (inl (null, is)) = absurd (b.graft.leaf_slot
            (sym b.graft.over_leaf ∙ (sym (new_still c c' v p d leaf new far dl l dl) ∙ null dl)))
        by k up (inr (at, has)) = new_stands k up (has t.high_new)

    new_nested : IsNested c' v new
    new_nested = record {
      own = λ f there. covers_own 64 (v new) (v far) t.covers_far;
      below = λ f k there stands. by f k stands (one_or_other f dl);
    }
      where
        by : (f : Side) (k : ℕ) → StandsFor c' v (c' new f) k → (f ≡ dl) ⊎ (f ≡ other dl)
            → (covers (v new) k ≡ true) × (side_of k (v new) ≡ f)
        by f k stands (inl is) =
            let at : c' new f ≡ leaf = new_still c c' v p d leaf new far dl l f ∙ (ap (c new) is ∙ b.graft.over_leaf) in
            let found = leaf_stands k (stands_back c c' v p d new b.graft.exchanged child_there new_slot leaf k
            (subst (λ (y : ℕ). StandsFor c' v y k) at stands)) in
            (found.0, found.1 ∙ sym is)
        by f k stands (inr is) = go (subst (λ (y : ℕ). StandsFor c' v y k) at stands)
          where
            at : c' new f ≡ far
            at = new_still c c' v p d leaf new far dl l f ∙ (ap (c new) is ∙ b.graft.over_far)

            go : StandsFor c' v far k → (covers (v new) k ≡ true) × (side_of k (v new) ≡ f)
            go (inl (null, same)) = subst (λ (n : ℕ). (covers (v new) n ≡ true) × (side_of n (v new) ≡ f)) same
                (t.covers_far, t.far_side ∙ sym is)
            go (inr (there, has)) = absurd (there.1 (far_still c c' v p d leaf new far dl l there.0))

    far_nested : IsNested c' v far
    far_nested = record {
      own = λ f there. absurd (there (far_still c c' v p d leaf new far dl l f));
      below = λ f k there stands. absurd (there (far_still c c' v p d leaf new far dl l f));
    }

    -- what is so of each old node, of the new one and of the new leaf
    each_node : (P : ℕ → Type 0) → ((q : List Side) → 6 ≤ follow c 1 q → P (follow c 1 q)) → P new → P far
        → (q : List Side) → 6 ≤ follow c' 1 q → P (follow c' 1 q)
    each_node P old itself_is far_is q up = go (rest_after c p d 1 q) refl
      where
        go : (o : Option (List Side)) → rest_after c p d 1 q ≡ o → P (follow c' 1 q)
        go None h = let same : follow c' 1 q ≡ follow c 1 q = not_taken c c' p d new b.graft.exchanged 1 q h in
            subst P (sym same) (old q (rw (← same) up))
        go (Some r) h = by (below_new c c' v p d leaf new far dl l r
            (λ z. (let is = ends ∙ z in omega (arith, up, is))))
          where
            ends : follow c' 1 q ≡ follow c' new r
            ends = (taken c c' p d new b.graft.exchanged 1 q r h).leads

            by : Below c c' v p d leaf new far dl l r → P (follow c' 1 q)
            by (Itself is) = subst P (sym (ends ∙ ap (follow c' new) is)) itself_is
            by (Old u is) =
                let same : follow c' 1 q ≡ follow c 1 (l.graft.front ++ d ∷ u) = ends
                ∙ (ap (follow c' new) is ∙ (at_leaf c c' v p d leaf new far dl l u
                ∙ sym (down c c' v p d leaf new far dl l u))) in
                subst P (sym same) (old (l.graft.front ++ d ∷ u) (rw (← same) up))
            by (New is) = subst P (sym (ends ∙ (ap (follow c' new) is ∙ at_far c c' v p d leaf new far dl l))) far_is

    pub radix_linked : RadixLaw c' v
    radix_linked = record {
      nests = each_node (IsNested c' v) old_nested new_nested far_nested;
      low = each_node (λ y. v y ≤ infinity_0) law.low new_low t.small;
      third = law.third;
      right = fixed_still c c' p d new b.graft.exchanged 1 Right (λ e f. at_one (sym e) t.place) ∙ law.right;
      second_right = fixed_still c c' p d new b.graft.exchanged 2 Right (λ e f. at_two (sym e) f t.place)
          ∙ law.second_right;
    }
      where
        at_one : p ≡ 1 → ((p ≡ 2) × (d ≡ Left)) ⊎ ((6 ≤ p)
            × ((covers (v p) (v far) ≡ true) × (side_of (v far) (v p) ≡ d))) → ⊥
        at_one one (inl two) = let is = two.0 in omega (arith, one, is)
        at_one one (inr at) = let up = at.0 in omega (arith, one, up)

        at_two : p ≡ 2 → d ≡ Right → ((p ≡ 2) × (d ≡ Left))
            ⊎ ((6 ≤ p) × ((covers (v p) (v far) ≡ true) × (side_of (v far) (v p) ≡ d))) → ⊥
        at_two two side (inl at) = not_both Left (sym at.1 ∙ side)
        at_two two side (inr at) = let up = at.0 in omega (arith, two, up)
