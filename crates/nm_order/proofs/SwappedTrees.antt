-- Trees in order outlast a swap of a leaf for one with the same key.
use Rattle.std.proofs.Common.{◌≡◌, ◌≢◌, ℕ, inl, inr, ◌⊎◌, List, [], ◌∷◌, ◌++◌, refl, sym, ap, subst, ◌∙◌}
use Rattle.std.specs.Prelude.{Option, Some, None}
use Rattle.nm_edge.specs.declared.edge.Side.{Side}
use Rattle.nm_model.specs.Paths.{follow}
use Rattle.nm_model.specs.Searches.{side_of}
use Rattle.nm_order.specs.Intervals.{GoesBy}
use Rattle.nm_laws.proofs.Trees.{Children, Exchanged, rest_after, follow-append, follow_leaf, not_taken, taken}
use Rattle.nm_order.proofs.Searching.{Keys, goes-append, goes_first, goes_on, goes_still, went_still}
use Rattle.nm_order.proofs.OrderedTrees.{InOrder, Onward, unless_at, had_child}
use Rattle.nm_order.proofs.OnwardSlots.{straight_to}

-- p, on the path front, leads by d to a leaf; new, a leaf too, has its key
pub record Swapping (c c' : Children) (v : Keys) (p : ℕ) (d : Side) (leaf new : ℕ) : Type 0 where
  pub nothing : (e : Side) → c 0 e ≡ 0
  pub alone : (q r : List Side) → follow c 1 q ≢ 0 → follow c 1 q ≡ follow c 1 r → q ≡ r
  pub exchanged : Exchanged c c' p d new
  pub front : List Side
  pub at_front : follow c 1 front ≡ p
  pub is_slot : p ≢ 0
  pub leads : c p d ≡ leaf
  pub leaf_slot : leaf ≢ 0
  pub leaf_null : (f : Side) → c leaf f ≡ 0
  pub new_null : (f : Side) → c new f ≡ 0
  pub not_p : new ≢ p
  pub same_key : v new ≡ v leaf

module _ (c c' : Children) (v : Keys) (p : ℕ) (d : Side) (leaf new : ℕ) (g : Swapping c c' v p d leaf new) where
  pub null_now : (e : Side) → c' 0 e ≡ 0
  null_now e = unless_at c c' p d new 0 e g.exchanged (λ z. g.is_slot (sym z)) ∙ g.nothing e

  pub new_null_now : (e : Side) → c' new e ≡ 0
  new_null_now e = unless_at c c' p d new new e g.exchanged g.not_p ∙ g.new_null e

  -- a path of the new tree: as it was, or to the new leaf
  abbrev pub SwappedWay : List Side → Type 0
  SwappedWay q = ((rest_after c p d 1 q ≡ None) × (follow c' 1 q ≡ follow c 1 q))
      ⊎ ((q ≡ g.front ++ d ∷ []) × (follow c' 1 q ≡ new))

  pub swapped_way : (q : List Side) → follow c' 1 q ≢ 0 → SwappedWay q
  swapped_way q some = go (rest_after c p d 1 q) refl
    where
      end : (t : List Side) → follow c' new t ≢ 0 → t ≡ []
      end [] there = refl
      end (e ∷ t) there = absurd (there (follow_leaf c' null_now new new_null_now e t))

      go : (o : Option (List Side)) → rest_after c p d 1 q ≡ o → SwappedWay q
      go None h = inl (h, not_taken c c' p d new g.exchanged 1 q h)
      go (Some t) h =
          let i = taken c c' p d new g.exchanged 1 q t h in
          let first : g.front ≡ i.front = g.alone g.front i.front (λ z. g.is_slot (sym g.at_front ∙ z))
          (g.at_front ∙ sym i.comes) in
          let last : t ≡ [] = end t (λ z. some (i.leads ∙ z)) in
          inr (
            i.is ∙ (ap (λ (r : List Side). r ++ d ∷ t) (sym first)
                ∙ ap (λ (r : List Side). g.front ++ d ∷ r) last),
            i.leads ∙ ap (λ (r : List Side). follow c' new r) last,
          )

  straight : rest_after c p d 1 g.front ≡ None
  straight = straight_to c c' g.alone p d new g.exchanged g.front g.at_front g.is_slot

  pub to_old_leaf : follow c 1 (g.front ++ d ∷ []) ≡ leaf
  to_old_leaf = follow-append c 1 g.front (d ∷ []) ∙ (ap (λ (y : ℕ). c y d) g.at_front ∙ g.leads)

  pub order_swapped : InOrder c v → InOrder c' v
  order_swapped order q there = go (swapped_way q there)
    where
      old : GoesBy c v (v leaf) 1 (g.front ++ d ∷ [])
      old = subst (λ (y : ℕ). GoesBy c v (v y) 1 (g.front ++ d ∷ [])) to_old_leaf
          (order (g.front ++ d ∷ []) (λ z. g.leaf_slot (sym to_old_leaf ∙ z)))

      at : follow c' 1 g.front ≡ p
      at = not_taken c c' p d new g.exchanged 1 g.front straight ∙ g.at_front

      turn : side_of (v leaf) (v p) ≡ d
      turn = ap (λ (y : ℕ). side_of (v leaf) (v y)) (sym g.at_front) ∙ (goes_on c v (v leaf) 1 g.front (d ∷ []) old).0

      now : GoesBy c' v (v leaf) 1 (g.front ++ d ∷ [])
      now = goes-append c' v (v leaf) 1 g.front (d ∷ [])
          (goes_still c c' v p d new g.exchanged (v leaf) 1 g.front straight
          (goes_first c v (v leaf) 1 g.front (d ∷ []) old))
          (ap (λ (y : ℕ). side_of (v leaf) (v y)) at ∙ turn, tt)

      go : SwappedWay q → GoesBy c' v (v (follow c' 1 q)) 1 q
      go (inl a) = goes_still c c' v p d new g.exchanged (v (follow c' 1 q)) 1 q a.0
          (subst (λ (y : ℕ). GoesBy c v (v y) 1 q) (sym a.1) (order q (λ z. there (a.1 ∙ z))))
      go (inr b) = subst (λ (r : List Side). GoesBy c' v (v (follow c' 1 q)) 1 r) (sym b.0)
          (subst (λ (k : ℕ). GoesBy c' v k 1 (g.front ++ d ∷ [])) (sym (ap v b.1 ∙ g.same_key)) now)

  pub onward_swapped : (k z : ℕ) → Onward c v k z → Onward c' v k z
  onward_swapped k z onward q r f goes there same = go (rest_after c p d z q) refl
    where
      dead : (t : List Side) → c' (follow c' new t) f ≡ 0
      dead [] = new_null_now f
      dead (e ∷ t) = ap (λ (y : ℕ). c' y f) (follow_leaf c' null_now new new_null_now e t) ∙ null_now f

      some_slot : follow c' 1 r ≢ 0
      some_slot e = there (ap (λ (y : ℕ). c' y f) (sym same ∙ e) ∙ null_now f)

      go : (o : Option (List Side)) → rest_after c p d z q ≡ o → GoesBy c' v k 1 r
      go (Some t) h = absurd (there (ap (λ (y : ℕ). c' y f) (taken c c' p d new g.exchanged z q t h).leads ∙ dead t))
      go None h = by (swapped_way r some_slot)
        where
          still : follow c' z q ≡ follow c z q
          still = not_taken c c' p d new g.exchanged z q h

          child : (e : Side) × (c (follow c z q) e ≢ 0)
          child = had_child c c' p d new g.exchanged (λ e. g.leaf_slot (sym g.leads ∙ e)) (follow c z q) f
              (λ e. there (ap (λ (y : ℕ). c' y f) still ∙ e))

          by : SwappedWay r → GoesBy c' v k 1 r
          by (inl a) = goes_still c c' v p d new g.exchanged k 1 r a.0
              (onward q r child.0 (went_still c c' v p d new g.exchanged k z q h goes) child.1
              (sym a.1 ∙ (same ∙ still)))
          by (inr b) = absurd (child.1 (ap (λ (y : ℕ). c y child.0) (sym still ∙ (sym same ∙ b.1))
              ∙ g.new_null child.0))

  -- an old path stays, but for the one to the leaf
  pub old_stays : (q : List Side) → follow c 1 q ≢ 0 → follow c 1 q ≢ leaf → follow c' 1 q ≡ follow c 1 q
  old_stays q some other = go (rest_after c p d 1 q) refl
    where
      end : (t : List Side) → follow c 1 q ≡ follow c leaf t → ⊥
      end [] e = other e
      end (x ∷ t) e = some (e ∙ follow_leaf c g.nothing leaf g.leaf_null x t)

      go : (o : Option (List Side)) → rest_after c p d 1 q ≡ o → follow c' 1 q ≡ follow c 1 q
      go None h = not_taken c c' p d new g.exchanged 1 q h
      go (Some t) h =
          let i = taken c c' p d new g.exchanged 1 q t h in
          absurd (end t (ap (follow c 1) i.is
          ∙ (follow-append c 1 i.front (d ∷ t)
          ∙ (ap (λ (y : ℕ). follow c (c y d) t) i.comes ∙ ap (λ (y : ℕ). follow c y t) g.leads))))

  pub new_there : follow c' 1 (g.front ++ d ∷ []) ≡ new
  new_there = follow-append c' 1 g.front (d ∷ [])
      ∙ (ap (λ (y : ℕ). c' y d) (not_taken c c' p d new g.exchanged 1 g.front straight ∙ g.at_front) ∙ g.exchanged.here)
