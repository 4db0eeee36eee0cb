-- How deep a radix tree is: the lowest bit of the key falls with each internal node on a path.
use Rattle.std.proofs.Common.{◌≡◌, ◌≢◌, ℕ, suc, ◌<◌, ◌≤◌, inl, inr, ◌⊎◌, true, List, [], ◌∷◌, ◌++◌, length, sym, ap, subst, ◌∙◌, arith, true≢false}
use Rattle.std.specs.Prelude.{nat_lt}
use Rattle.std.proofs.lemmas.Bool.{cases_lt}
use Rattle.nm_edge.specs.Ranges.{covers}
use Rattle.nm_edge.specs.declared.edge.Side.{Side}
use Rattle.nm_edge.specs.declared.edge.Side.TheVariants.{Left, Right}
use Rattle.nm_model.specs.Paths.{follow}
use Rattle.nm_model.specs.Searches.{side_of}
use Rattle.nm_order.specs.Ranges.{IsNested}
use Rattle.nm_laws.proofs.Trees.{Children, follow_none, follow-append}
use Rattle.nm_order.proofs.Searching.{Keys}
use Rattle.nm_order.proofs.RangesOfKeys.{bits, bits_small, bits_fall, covers_zero}
use Rattle.nm_order.proofs.RadixTrees.{which, less_of_left, more_of_right, test_of_side}
use Rattle.nm_order.proofs.RadixWays.{Rooted}

-- an internal node below a nested one is above the fixed ones, and its lowest bit is lower
pub under_bits : (c : Children) (v : Keys) (x : ℕ) (d : Side) → 6 ≤ x → IsNested c v x → c x d ≢ 0 → (f : Side)
    → c (c x d) f ≢ 0 → (6 ≤ c x d → IsNested c v (c x d)) → (6 ≤ c x d) × (bits 64 (v (c x d)) < bits 64 (v x))
under_bits c v x d up nested there f some next = elim (cases_lt (c x d) 6)
    [ inl low ↦ absurd (fixed (λ up. absurd (omega (arith, low, up)))) | inr high ↦ (high, falls high) ]
  where
    -- a fixed node would stand for each key
    fixed : ((up : 6 ≤ c x d) → ⊥) → ⊥
    fixed low = by d (λ k. nested.below d k there (inr ((f, some), λ up. absurd (low up))))
      where
        by : (e : Side) → ((k : ℕ) → (covers (v x) k ≡ true) × (side_of k (v x) ≡ e)) → ⊥
        by Left all = let less = less_of_left (v x) (v x) (all (v x)).1 in omega (arith, less)
        by Right all =
            let more : v x ≤ 0 = more_of_right 0 (v x) (all 0).1 in
            let zero_is : v x ≡ 0 = omega (arith, more) in
            true≢false (sym (all 0).0 ∙ (ap (λ (n : ℕ). covers n 0) zero_is ∙ covers_zero 64 0))

    falls : 6 ≤ c x d → bits 64 (v (c x d)) < bits 64 (v x)
    falls high = bits_fall 64 (v x) (v (c x d)) (nat_lt (v (c x d)) (v x)) own
        (λ j has. (let found = each j has in
        (found.0, test_of_side j (v x) (v (c x d)) (v x) (found.1 ∙ sym (each (v (c x d)) own).1))))
      where
        own : covers (v (c x d)) (v (c x d)) ≡ true
        own = (next high).own f some

        each : (j : ℕ) → covers (v (c x d)) j ≡ true → (covers (v x) j ≡ true) × (side_of j (v x) ≡ d)
        each j has = nested.below d j there (inr ((f, some), λ up. has))

module _ (c : Children) (v : Keys) (r : Rooted c v) where
  below_slot : (above q : List Side) → 6 ≤ follow c 1 above → follow c (follow c 1 above) q ≢ 0
      → length q ≤ suc (bits 64 (v (follow c 1 above)))
  below_slot above [] up there = omega arith
  below_slot above (e ∷ []) up there = omega arith
  below_slot above (e ∷ f ∷ q) up there = by (λ high. below_slot (above ++ e ∷ []) (f ∷ q) (rw at high) (rw at there))
    where
      at : follow c 1 (above ++ e ∷ []) ≡ c (follow c 1 above) e
      at = follow-append c 1 above (e ∷ [])

      some : c (c (follow c 1 above) e) f ≢ 0
      some z = there (ap (λ (y : ℕ). follow c y q) z ∙ follow_none c r.nothing q)

      child : c (follow c 1 above) e ≢ 0
      child z = some (ap (λ (y : ℕ). c y f) z ∙ r.nothing f)

      under : (6 ≤ c (follow c 1 above) e) × (bits 64 (v (c (follow c 1 above) e)) < bits 64 (v (follow c 1 above)))
      under = under_bits c v (follow c 1 above) e up (r.nested.nests above up) child f some
          (λ high. subst (IsNested c v) at (r.nested.nests (above ++ e ∷ []) (rw at high)))

      by : (6 ≤ c (follow c 1 above) e → suc (length q) ≤ suc (bits 64 (v (follow c 1 (above ++ e ∷ [])))))
          → suc (suc (length q)) ≤ suc (bits 64 (v (follow c 1 above)))
      by rest =
          let more = rest under.0 in
          let less : bits 64 (v (follow c 1 (above ++ e ∷ []))) < bits 64 (v (follow c 1 above)) = rw at under.1 in
          omega (arith, more, less)

  -- no path is longer
  pub path_short : (q : List Side) → follow c 1 q ≢ 0 → length q ≤ 66
  path_short [] there = omega arith
  path_short (e ∷ []) there = omega arith
  path_short (e ∷ f ∷ []) there = omega arith
  path_short (Right ∷ f ∷ g ∷ q) there = absurd (there
      (ap (λ (y : ℕ). follow c (c (c y f) g) q) r.nested.right
      ∙ (ap (λ (y : ℕ). follow c (c y g) q) (r.leaves 5 f (omega arith) (omega arith))
      ∙ (ap (λ (y : ℕ). follow c y q) (r.nothing g) ∙ follow_none c r.nothing q))))
  path_short (Left ∷ Right ∷ g ∷ q) there = absurd
      (there (ap (λ (y : ℕ). follow c (c (c y Right) g) q) r.root_left
      ∙ (ap (λ (y : ℕ). follow c (c y g) q) r.nested.second_right
      ∙ (ap (λ (y : ℕ). follow c y q) (r.leaves 4 g (omega arith) (omega arith)) ∙ follow_none c r.nothing q))))
  path_short (Left ∷ Left ∷ g ∷ q) there = by (which (c (c 1 Left) Left))
    where
      some : c (c (c 1 Left) Left) g ≢ 0
      some z = there (ap (λ (y : ℕ). follow c y q) z ∙ follow_none c r.nothing q)

      slot : c (c 1 Left) Left ≢ 0
      slot z = some (ap (λ (y : ℕ). c y g) z ∙ r.nothing g)

      two_one : Left ∷ Left ∷ [] ≡ [] → ⊥
      two_one h = cc

      two_two : Left ∷ Left ∷ [] ≡ Left ∷ [] → ⊥
      two_two h = cc

      by : (c (c 1 Left) Left ≡ 0) ⊎ ((c (c 1 Left) Left ≡ 1)
          ⊎ ((c (c 1 Left) Left ≡ 2) ⊎ (((3 ≤ c (c 1 Left) Left) × (c (c 1 Left) Left ≤ 5))
          ⊎ (6 ≤ c (c 1 Left) Left)))) → suc (suc (suc (length q))) ≤ 66
      by (inl z) = absurd (slot z)
      by (inr (inl one)) = absurd (two_one (r.alone (Left ∷ Left ∷ []) [] slot one))
      by (inr (inr (inl two))) = absurd (two_two (r.alone (Left ∷ Left ∷ []) (Left ∷ []) slot (two ∙ sym r.root_left)))
      by (inr (inr (inr (inl range)))) = absurd (some (r.leaves (c (c 1 Left) Left) g range.0 range.1))
      by (inr (inr (inr (inr high)))) =
          let deep = below_slot (Left ∷ Left ∷ []) (g ∷ q) high there in
          let few = bits_small 64 (v (c (c 1 Left) Left)) (v (c (c 1 Left) Left))
          ((r.nested.nests (Left ∷ Left ∷ []) high).own g some) in
          omega (arith, deep, few)

  -- the first slot of a walk
  pub first_bits : (g : Side) → c (c 2 Left) g ≢ 0 → (6 ≤ c 2 Left) × (bits 64 (v (c 2 Left)) < 64)
  first_bits g some = by (which (c 2 Left))
    where
      path : follow c 1 (Left ∷ Left ∷ []) ≡ c 2 Left
      path = ap (λ (y : ℕ). c y Left) r.root_left

      slot : c 2 Left ≢ 0
      slot z = some (ap (λ (y : ℕ). c y g) z ∙ r.nothing g)

      two_one : Left ∷ Left ∷ [] ≡ [] → ⊥
      two_one h = cc

      two_two : Left ∷ Left ∷ [] ≡ Left ∷ [] → ⊥
      two_two h = cc

      by : (c 2 Left ≡ 0) ⊎ ((c 2 Left ≡ 1) ⊎ ((c 2 Left ≡ 2)
          ⊎ (((3 ≤ c 2 Left) × (c 2 Left ≤ 5)) ⊎ (6 ≤ c 2 Left)))) → (6 ≤ c 2 Left) × (bits 64 (v (c 2 Left)) < 64)
      by (inl z) = absurd (slot z)
      by (inr (inl one)) = absurd (two_one (r.alone (Left ∷ Left ∷ []) [] (rw path slot) (path ∙ one)))
      by (inr (inr (inl two))) = absurd (two_two (r.alone (Left ∷ Left ∷ []) (Left ∷ []) (rw path slot)
          (path ∙ (two ∙ sym r.root_left))))
      by (inr (inr (inr (inl range)))) = absurd (some (r.leaves (c 2 Left) g range.0 range.1))
      by (inr (inr (inr (inr high)))) = (
        high,
        bits_small 64 (v (c 2 Left)) (v (c 2 Left))
            ((subst (IsNested c v) path (r.nested.nests (Left ∷ Left ∷ []) (rw path high))).own g some),
      )
