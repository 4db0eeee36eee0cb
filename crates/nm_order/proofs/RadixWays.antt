-- Ways in a radix tree: what is nested below a known slot stays so, and what holds of each slot to
-- which a search for k goes on from there, by nodes in whose range k is, outlasts one edge that is
-- exchanged, where it holds of what the root's own search comes to now.
use Rattle.std.proofs.Common.{◌≡◌, ◌≢◌, ℕ, ◌<◌, ◌≤◌, inl, inr, ◌⊎◌, eqb, Bool, true, false, cond, ◌&&◌, List, [], ◌∷◌, ◌++◌, refl, sym, ap, subst, ◌∙◌, arith, true≢false}
use Rattle.std.specs.Prelude.{Option, Some, None}
use native.Mathlib.Decide.{ℕ_discrete}
use Rattle.std.proofs.lemmas.Bool.{eqb-true, and_parts}
use Rattle.std.proofs.lemmas.Option.{none-some}
use Rattle.nm_edge.specs.Ranges.{covers}
use Rattle.nm_edge.specs.declared.edge.Side.{Side}
use Rattle.nm_edge.specs.declared.edge.Side.TheVariants.{Left}
use Rattle.nm_model.specs.Memory.{infinity_0, infinity_1, infinity_2}
use Rattle.nm_model.specs.Paths.{follow}
use Rattle.nm_model.specs.Searches.{side_of}
use Rattle.nm_order.specs.Intervals.{GoesBy}
use Rattle.nm_order.specs.Ranges.{StandsFor, IsNested}
use Rattle.nm_laws.proofs.Trees.{Children, Exchanged, rest_after, same_side, follow-append, not_taken, taken}
use Rattle.nm_order.proofs.Searching.{Keys, goes-append, goes_still, went_still, GoesOver, goes_over, Apart, apart_follow, apart_went, on_way}
use Rattle.nm_order.proofs.OrderedTrees.{InOrder}
use Rattle.nm_order.proofs.OnwardSlots.{EachNow}
use Rattle.nm_order.proofs.RadixTrees.{Nests, RadixLaw, which, left_if, climb, goes_too, nested_still, nested_apart}

-- each node above the fixed ones to which a path comes from z is nested
abbrev pub NestsFrom : Children → Keys → ℕ → Type 0
NestsFrom c v z = (q : List Side) → 6 ≤ follow c z q → IsNested c v (follow c z q)

-- k is in the range of each node that a path passes
abbrev pub Covered : Children → Keys → ℕ → ℕ → List Side → Type 0
Covered c v k z [] = Unit {0}
Covered c v k z (e ∷ q) = (6 ≤ z → covers (v z) k ≡ true) × Covered c v k (c z e) q

-- of each slot to which a search for k comes so from z, and of what lasts of it
abbrev pub EachIn : {B : Type 0} → Children → Keys → (ℕ → B) → ℕ → (ℕ → B → Type 0) → ℕ → Type 0
EachIn c v b k W z = (q : List Side) → GoesBy c v k z q → Covered c v k z q → follow c z q ≢ 0
    → W (follow c z q) (b (follow c z q))

-- ---- the root's search

-- what the root's search has to know of the tree
pub record Rooted (c : Children) (v : Keys) : Type 0 where
  pub nothing : (e : Side) → c 0 e ≡ 0
  pub alone : (q r : List Side) → follow c 1 q ≢ 0 → follow c 1 q ≡ follow c 1 r → q ≡ r
  pub root_left : c 1 Left ≡ 2
  pub leaves : (x : ℕ) (f : Side) → 3 ≤ x → x ≤ 5 → c x f ≡ 0
  pub first_key : v 1 ≡ infinity_2
  pub second_key : v 2 ≡ infinity_1
  pub order : InOrder c v
  pub nested : RadixLaw c v

module _ (c : Children) (v : Keys) (r : Rooted c v) where
  -- the search for k comes to an internal node in whose range k is
  pub covered_comes : (k : ℕ) → k < infinity_1 → (front : List Side) (p : ℕ) (d : Side) → follow c 1 front ≡ p
      → p ≢ 0 → c p d ≢ 0 → (6 ≤ p → covers (v p) k ≡ true) → GoesBy c v k 1 front
  covered_comes k small front p d at some child has = by (which p)
    where
      by : (p ≡ 0) ⊎ ((p ≡ 1) ⊎ ((p ≡ 2) ⊎ (((3 ≤ p) × (p ≤ 5)) ⊎ (6 ≤ p)))) → GoesBy c v k 1 front
      by (inl z) = absurd (some z)
      by (inr (inl one)) = subst (GoesBy c v k 1) (r.alone [] front (λ z. absurd (omega (arith, z)))
          (sym (at ∙ one))) tt
      by (inr (inr (inl two))) =
          subst (GoesBy c v k 1) (r.alone (Left ∷ []) front
          (λ z. (let is = sym r.root_left ∙ z in absurd (omega (arith, is)))) (r.root_left ∙ sym (at ∙ two)))
          (ap (side_of k) r.first_key ∙ left_if k infinity_2 (omega (arith, small)), tt)
      by (inr (inr (inr (inl range)))) = absurd (child (r.leaves p d range.0 range.1))
      by (inr (inr (inr (inr high)))) =
          let low : v p ≤ infinity_0 = subst (λ (y : ℕ). v y ≤ infinity_0) at (r.nested.low front (rw at high)) in
          goes_too c v r.nothing r.nested.nests r.leaves r.first_key r.second_key [] front (v p) k
          (omega (arith, low)) small (rw at some)
          (rw at (inr ((d, child), has))) (subst (λ (y : ℕ). GoesBy c v (v y) 1 front) at (r.order front (rw at some)))

  -- where the root's search for k passes an internal node without k in its range, no leaf has k
  pub none_has : (k : ℕ) (q : List Side) → GoesBy c v k 1 q → follow c 1 q ≢ 0 → 6 ≤ follow c 1 q → (f : Side)
      → c (follow c 1 q) f ≢ 0 → covers (v (follow c 1 q)) k ≡ false
      → (p : List Side) → follow c 1 p ≢ 0 → ((g : Side) → c (follow c 1 p) g ≡ 0) → v (follow c 1 p) ≡ k → ⊥
  none_has k q goes some high f child out p there null has = true≢false
      (sym (in_range (climb c v r.nothing r.nested.nests q on.0 k (rw ends there) (rw ends (inl (null, has))))) ∙ out)
    where
      on : (u : List Side) × (p ≡ q ++ u)
      on = on_way c r.nothing v k 1 p q (subst (λ (n : ℕ). GoesBy c v n 1 p) has (r.order p there)) goes null some

      ends : follow c (follow c 1 q) on.0 ≡ follow c 1 p
      ends = sym (follow-append c 1 q on.0) ∙ ap (follow c 1) (sym on.1)

      in_range : StandsFor c v (follow c 1 q) k → covers (v (follow c 1 q)) k ≡ true
      in_range (inl (none, is)) = absurd (child (none f))
      in_range (inr (at, in')) = in' high

-- ---- an edge is exchanged under a node that is reached

module _ {B : Type 0} (c c' : Children) (v : Keys) (b b' : ℕ → B) (p : ℕ) (d : Side) (t : ℕ)
    (x : Exchanged c c' p d t) (child : c p d ≢ 0) (there : t ≢ 0) (front : List Side) (at : follow c 1 front ≡ p)
    (p_slot : p ≢ 0) (straight : rest_after c p d 1 front ≡ None) (r : Rooted c v) (after : Nests c' v) where
  at_p : follow c' 1 front ≡ p
  at_p = not_taken c c' p d t x 1 front straight ∙ at

  by_edge : (u : List Side) → follow c' 1 (front ++ d ∷ u) ≡ follow c' t u
  by_edge u = follow-append c' 1 front (d ∷ u) ∙ ap (λ (y : ℕ). follow c' y u) (ap (λ (y : ℕ). c' y d) at_p ∙ x.here)

  pub nests_exchanged : (z : ℕ) → NestsFrom c v z → NestsFrom c' v z
  nests_exchanged z nests q up = go (rest_after c p d z q) refl
    where
      go : (o : Option (List Side)) → rest_after c p d z q ≡ o → IsNested c' v (follow c' z q)
      go None h = still (follow c' z q) (subst (IsNested c v) (sym same) (nests q (rw (← same) up))) up
          (ℕ_discrete (follow c' z q) p)
        where
          same : follow c' z q ≡ follow c z q
          same = not_taken c c' p d t x z q h

          still : (y : ℕ) → IsNested c v y → 6 ≤ y → Dec (y ≡ p) → IsNested c' v y
          still y was high (yes is) = subst (IsNested c' v) (at_p ∙ sym is) (after front (rw (at_p, ← is) high))
          still y was high (no ne) = nested_still c c' v p d t x child there y was (λ e. absurd (ne e))
      go (Some u) h =
          let k = taken c c' p d t x z q u h in
          let same : follow c' z q ≡ follow c' 1 (front ++ d ∷ u) = k.leads ∙ sym (by_edge u) in
          subst (IsNested c' v) (sym same) (after (front ++ d ∷ u) (rw (← same) up))

  module _ (k : ℕ) (small : k < infinity_1) where
    covered_still : (s : ℕ) (q : List Side) → rest_after c p d s q ≡ None → Covered c' v k s q → Covered c v k s q
    covered_still s [] h g = tt
    covered_still s (e ∷ q) h g = go (eqb s p && same_side d e) refl h (covered_still (c s e) q)
      where
        go : (b : Bool) → (eqb s p && same_side d e) ≡ b → cond b (Some q) (rest_after c p d (c s e) q) ≡ None
            → (rest_after c p d (c s e) q ≡ None → Covered c' v k (c s e) q → Covered c v k (c s e) q)
            → Covered c v k s (e ∷ q)
        go true is h ih = absurd (none-some q (sym h))
        go false is h ih = (g.0, ih h (rw (← x.others s e is) g.1))

    covered_over : (s : ℕ) (q u : List Side) → rest_after c p d s q ≡ Some u → Covered c' v k s q → 6 ≤ p
        → covers (v p) k ≡ true
    covered_over s [] u h g = absurd (none-some u h)
    covered_over s (e ∷ q) u h g = go (eqb s p && same_side d e) refl h (covered_over (c s e) q u)
      where
        go : (b : Bool) → (eqb s p && same_side d e) ≡ b → cond b (Some q) (rest_after c p d (c s e) q) ≡ Some u
            → (rest_after c p d (c s e) q ≡ Some u → Covered c' v k (c s e) q → 6 ≤ p → covers (v p) k ≡ true) → 6 ≤ p
            → covers (v p) k ≡ true
        go true is h ih = let here : s ≡ p = eqb-true s p (and_parts (eqb s p) (same_side d e) is).0 in
            subst (λ (y : ℕ). 6 ≤ y → covers (v y) k ≡ true) here g.0
        go false is h ih = ih h (rw (← x.others s e is) g.1)

    pub each_in_exchanged : (W W' : ℕ → B → Type 0) → ((y : ℕ) (n : B) → W y n → W' y n) → (z : ℕ)
        → ((q : List Side) → follow c z q ≢ 0 → b' (follow c z q) ≡ b (follow c z q)) → EachNow c' v b' k W'
        → EachIn c v b k W z → EachIn c' v b' k W' z
    each_in_exchanged W W' grows z lasts now each q goes covered some = go (rest_after c p d z q) refl
      where
        go : (o : Option (List Side)) → rest_after c p d z q ≡ o → W' (follow c' z q) (b' (follow c' z q))
        go None h =
            let same : follow c' z q ≡ follow c z q = not_taken c c' p d t x z q h in
            let there : follow c z q ≢ 0 = λ e. some (same ∙ e) in
            rw (same, lasts q there) (grows (follow c z q) (b (follow c z q))
            (each q (went_still c c' v p d t x k z q h goes) (covered_still z q h covered) there))
        go (Some u) h =
            let over : GoesOver c c' v p d t x k z q u = goes_over c c' v p d t x k z q u h goes in
            let to_p : GoesBy c v k 1 front = covered_comes c v r k small front p d at p_slot child
            (covered_over z q u h covered) in
            let path : follow c' 1 (front ++ d ∷ u) ≡ follow c' z q = by_edge u ∙ sym over.ends in
            let edge : c' (follow c' 1 front) d ≡ t = ap (λ (y : ℕ). c' y d) at_p ∙ x.here in
            let from_root : GoesBy c' v k 1 (front ++ d ∷ u) = goes-append c' v k 1 front (d ∷ u)
            (goes_still c c' v p d t x k 1 front straight to_p) (
              ap (λ (y : ℕ). side_of k (v y)) at_p ∙ over.turns,
              subst (λ (y : ℕ). GoesBy c' v k y u) (sym edge)
                  over.goes_on,
            ) in
            subst (λ (y : ℕ). W' y (b' y)) path (now (front ++ d ∷ u) from_root (λ e. some (sym path ∙ e)))

-- ---- a slot is changed to which no path from z comes

module _ (c c' : Children) (v v' : Keys) (x : ℕ) (a : Apart c c' v v' x) (z : ℕ)
    (never : (q : List Side) → follow c z q ≡ x → ⊥) where
  pub nests_apart : NestsFrom c v z → NestsFrom c' v' z
  nests_apart nests q up =
      let same : follow c' z q ≡ follow c z q = apart_follow c c' v v' x a z never q in
      subst (IsNested c' v') (sym same)
      (nested_apart c c' v v' x a (follow c z q) (never q)
      (λ f e. never (q ++ f ∷ []) (follow-append c z q (f ∷ []) ∙ e)) (nests q (rw (← same) up)))

  covered_apart : (k : ℕ) (q above : List Side) → Covered c' v' k (follow c z above) q
      → Covered c v k (follow c z above) q
  covered_apart k [] above g = tt
  covered_apart k (e ∷ q) above g = (
    λ up. subst (λ (n : ℕ). covers n k ≡ true) (a.keys (follow c z above) (never above)) (g.0 up),
    subst (λ (y : ℕ). Covered c v k y q) at (covered_apart k q (above ++ e ∷ [])
        (subst (λ (y : ℕ). Covered c' v' k y q) (a.edges (follow c z above) e (never above) ∙ sym at) g.1)),
  )
    where
      at : follow c z (above ++ e ∷ []) ≡ c (follow c z above) e
      at = follow-append c z above (e ∷ [])

  pub each_in_apart : {B : Type 0} (b b' : ℕ → B) (k : ℕ) (W W' : ℕ → B → Type 0)
      → ((y : ℕ) (n : B) → W y n → W' y n) → ((q : List Side) → follow c z q ≢ 0 → b' (follow c z q) ≡ b (follow c z q))
      → EachIn c v b k W z → EachIn c' v' b' k W' z
  each_in_apart b b' k W W' grows lasts each q goes covered some =
      let same : follow c' z q ≡ follow c z q = apart_follow c c' v v' x a z never q in
      let there : follow c z q ≢ 0 = λ e. some (same ∙ e) in
      rw (same, lasts q there) (grows (follow c z q) (b (follow c z q))
      (each q (apart_went c c' v v' x a k z never q goes) (covered_apart k q [] covered) there))
