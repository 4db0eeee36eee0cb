-- The keys of a tree that is in order ascend from left to right.
use Rattle.std.proofs.Common.{◌≡◌, ◌≢◌, ℕ, zero, suc, ◌<◌, inl, inr, ◌⊎◌, ◌==◌, Bool, true, false, cond, ◌&&◌, List, [], ◌∷◌, ◌++◌, length, refl, sym, ap, subst, ◌∙◌, arith}
use Rattle.std.specs.Prelude.{Option, Some, None, nat_lt, slice_get, slice_index_or, AllPairs}
use Rattle.std.specs.List.{filter_map, cons_option}
use native.Mathlib.Decide.{ℕ_discrete}
use Rattle.std.proofs.lemmas.Bool.{ltb-true, lt-ltb, eqb-true, and_parts}
use Rattle.std.proofs.lemmas.Option.{none-some, same_Some, slice_get-get_or}
use Rattle.std.proofs.lemmas.List.Elements.{filter_map-append}
use Rattle.nm_edge.specs.declared.edge.Side.{Side}
use Rattle.nm_edge.specs.declared.edge.Side.TheVariants.{Left, Right}
use Rattle.nm_model.specs.Memory.{Memory, node, child, is_leaf, infinity_0}
use Rattle.nm_model.specs.Paths.{follow}
use Rattle.nm_model.specs.Reports.{tree_slots, set_key, keys_below}
use Rattle.nm_model.specs.Searches.{side_of}
use Rattle.nm_order.specs.Intervals.{GoesBy, key}
use Rattle.nm_model.proofs.Counting.{times, times_apart}
use Rattle.nm_laws.proofs.Trees.{follow-append}
use Rattle.nm_order.proofs.Searching.{goes_on}
use Rattle.nm_order.proofs.OrderedTrees.{InOrder}
use Rattle.nm_order.proofs.RadixTrees.{less_of_left, more_of_right}
use Rattle.nm_model.proofs.SetKeys.{tree_fork, no_slots}

-- ---- rising lists

-- a number is in a list
abbrev pub IsIn : List ℕ → ℕ → Type 0
IsIn xs k = (i : ℕ) × (slice_get xs i ≡ Some k)

Rising : List ℕ → Type 0
Rising [] = Unit {0}
Rising (k ∷ ks) = ((j : ℕ) → IsIn ks j → k < j) × Rising ks

in_append : (xs ys : List ℕ) (k : ℕ) → IsIn (xs ++ ys) k → IsIn xs k ⊎ IsIn ys k
in_append [] ys k h = inr h
in_append (x ∷ xs) ys k (zero, at) = inl (zero, at)
in_append (x ∷ xs) ys k (suc i, at) = elim (in_append xs ys k (i, at)) [ inl h ↦ inl (suc h.0, h.1) | inr h ↦ inr h ]

rising_append : (xs ys : List ℕ) → Rising xs → Rising ys → ((a b : ℕ) → IsIn xs a → IsIn ys b → a < b)
    → Rising (xs ++ ys)
unfolding Rising
rising_append [] ys a b apart = b
rising_append (x ∷ xs) ys a b apart = (
  λ j h. elim (in_append xs ys j h) [ inl k ↦ a.0 j k | inr k ↦ apart x j (zero, refl) k ],
  rising_append xs ys a.1 b (λ p q h k. apart p q (suc h.0, h.1) k),
)

rising_pairs : (xs : List ℕ) → Rising xs → (i j : ℕ) (d : ℕ) → i < j → j < length xs
    → slice_index_or xs i d < slice_index_or xs j d
unfolding Rising
rising_pairs [] h i j d less inside = absurd (omega arith)
rising_pairs (x ∷ xs) h i zero d less inside = absurd (omega arith)
rising_pairs (x ∷ xs) h zero (suc j) d less inside = h.0 (slice_index_or xs j d)
    (j, slice_get-get_or xs j d (omega arith))
rising_pairs (x ∷ xs) h (suc i) (suc j) d less inside = rising_pairs xs h.1 i j d (omega arith) (omega arith)

-- ---- the keys below a slot

module _ (m : Memory) where
  forked : (d x : ℕ) → x ≢ 0 → keys_below (suc d) m x
      ≡ cons_option (set_key (node m x)) (keys_below d m (child m x Left) ++ keys_below d m (child m x Right))
  forked d x some = ap (filter_map (λ y. set_key (node m y))) (tree_fork d m x some)
      ∙ ap (cons_option (set_key (node m x))) (filter_map-append (λ y. set_key (node m y))
      (tree_slots d m (child m x Left)) (tree_slots d m (child m x Right)))

  none_below : (d x : ℕ) → x ≡ 0 → keys_below d m x ≡ []
  none_below d x null = ap (filter_map (λ y. set_key (node m y))) (no_slots d m x (inl null))

  -- a key of a leaf, where the slot is one
  leaf_key : (x k : ℕ) → set_key (node m x) ≡ Some k → (is_leaf (node m x) ≡ true) × (key m x ≡ k) × (k < infinity_0)
  leaf_key x k h = go (is_leaf (node m x)) refl (nat_lt (key m x) infinity_0) refl h
    where
      go : (b : Bool) → is_leaf (node m x) ≡ b → (c : Bool) → nat_lt (key m x) infinity_0 ≡ c
          → cond (b && c) (Some (key m x)) None ≡ Some k
          → (is_leaf (node m x) ≡ true) × (key m x ≡ k) × (k < infinity_0)
      go true i true j h = (
        i,
        same_Some (key m x) k h,
        subst (λ (n : ℕ). n < infinity_0) (same_Some (key m x) k h)
            (ltb-true (key m x) infinity_0 j),
      )
      go true i false j h = absurd (none-some k h)
      go false i c j h = absurd (none-some k h)

  -- each is the key of a leaf to which a path leads, and no sentinel
  pub record Under (x k : ℕ) : Type 0 where
    pub path : List Side
    pub is_slot : follow (child m) x path ≢ 0
    pub leaf : is_leaf (node m (follow (child m) x path)) ≡ true
    pub has_key : key m (follow (child m) x path) ≡ k
    pub low : k < infinity_0

  pub under : (d x k : ℕ) → IsIn (keys_below d m x) k → Under x k
  under zero x k h = absurd (none-some k h.1)
  under (suc d) x k h = elim (ℕ_discrete x 0) [
    | yes null ↦ absurd (none-some k (sym (ap (λ ks. slice_get ks h.0) (none_below (suc d) x null)) ∙ h.1))
    | no some ↦ go some (set_key (node m x)) refl (h.0, sym (ap (λ ks. slice_get ks h.0) (forked d x some)) ∙ h.1)
        (under d (child m x Left) k) (under d (child m x Right) k)
  ]
    where
      down : (e : Side) → Under (child m x e) k → Under x k
      down e u = record { path = e ∷ u.path; is_slot = u.is_slot; leaf = u.leaf; has_key = u.has_key; low = u.low }

      rest : IsIn (keys_below d m (child m x Left) ++ keys_below d m (child m x Right)) k
          → (IsIn (keys_below d m (child m x Left)) k → Under (child m x Left) k)
          → (IsIn (keys_below d m (child m x Right)) k → Under (child m x Right) k) → Under x k
      rest h left right = elim (in_append (keys_below d m (child m x Left)) (keys_below d m (child m x Right)) k h)
          [ inl i ↦ down Left (left i) | inr i ↦ down Right (right i) ]

      go : x ≢ 0 → (o : Option ℕ) → set_key (node m x) ≡ o
          → IsIn (cons_option o (keys_below d m (child m x Left) ++ keys_below d m (child m x Right))) k
          → (IsIn (keys_below d m (child m x Left)) k → Under (child m x Left) k)
          → (IsIn (keys_below d m (child m x Right)) k → Under (child m x Right) k) → Under x k
      go some None is h left right = rest h left right
      go some (Some n) is (zero, at) left right = let l = leaf_key x n is in let same = same_Some n k at in
          record {
            path = [];
            is_slot = some;
            leaf = l.0;
            has_key = l.1
                ∙ same;
            low = subst (λ (y : ℕ). y < infinity_0) same l.2;
          }
      go some (Some n) is (suc i, at) left right = rest (i, at) left right

  -- what is counted in a list is in it
  counted : (xs : List ℕ) (x : ℕ) → times xs x ≢ 0 → IsIn xs x
  counted [] x some = absurd (some refl)
  counted (y ∷ ys) x some = elim (ℕ_discrete x y) [
    | yes e ↦ (zero, ap (λ (n : ℕ). Some n) (sym e))
    | no ne ↦ let more = counted ys x (λ z. some (let a = times_apart x y ne in omega arith)) in (suc more.0, more.1)
  ]

  kept : (f : ℕ → Option ℕ) (xs : List ℕ) (x k : ℕ) → IsIn xs x → f x ≡ Some k → IsIn (filter_map f xs) k
  kept f [] x k h is = absurd (none-some x h.1)
  kept f (y ∷ ys) x k (zero, at) is = rw (ap f (same_Some y x at) ∙ is) (zero, refl)
  kept f (y ∷ ys) x k (suc i, at) is = go (f y) (kept f ys x k (i, at) is)
    where
      go : (o : Option ℕ) → IsIn (filter_map f ys) k → IsIn (cons_option o (filter_map f ys)) k
      go None h = h
      go (Some n) h = (suc h.0, h.1)

  -- a leaf that is counted below a slot has its key there
  pub found : (d x y k : ℕ) → times (tree_slots d m x) y ≢ 0 → is_leaf (node m y) ≡ true → key m y ≡ k
      → k < infinity_0 → IsIn (keys_below d m x) k
  found d x y k there leaf has low = kept (λ z. set_key (node m z)) (tree_slots d m x) y k
      (counted (tree_slots d m x) y there)
      (rw (leaf, lt-ltb (key m y) infinity_0 (rw has low)) (ap (λ (n : ℕ). Some n) has))

  module _ (order : InOrder (child m) (key m)) where
    -- a search for a key under a reached slot's child goes to that side
    goes_to : (q : List Side) (e : Side) (k : ℕ) → Under (child m (follow (child m) 1 q) e) k
        → side_of k (key m (follow (child m) 1 q)) ≡ e
    goes_to q e k u =
        let ends : follow (child m) 1 (q ++ e ∷ u.path)
        ≡ follow (child m) (child m (follow (child m) 1 q) e) u.path = follow-append (child m) 1 q (e ∷ u.path) in
        let went : GoesBy (child m) (key m) (key m (follow (child m) 1 (q ++ e ∷ u.path))) 1 (q ++ e ∷ u.path) =
        order (q ++ e ∷ u.path) (λ z. u.is_slot (sym ends ∙ z)) in
        let on = goes_on (child m) (key m) (key m (follow (child m) 1 (q ++ e ∷ u.path))) 1 q (e ∷ u.path) went in
        ap (λ (n : ℕ). side_of n (key m (follow (child m) 1 q))) (sym (ap (key m) ends ∙ u.has_key)) ∙ on.0

    rising : (d : ℕ) (q : List Side) → Rising (keys_below d m (follow (child m) 1 q))
    unfolding Rising
    rising zero q = tt
    rising (suc d) q = elim (ℕ_discrete (follow (child m) 1 q) 0) [
      | yes null ↦ rw (none_below (suc d) (follow (child m) 1 q) null) tt
      | no some ↦ rw (forked d (follow (child m) 1 q) some)
          (go (set_key (node m (follow (child m) 1 q))) refl (below Left (rising d (q ++ Left ∷ [])))
          (below Right (rising d (q ++ Right ∷ []))))
    ]
      where
        below : (e : Side) → Rising (keys_below d m (follow (child m) 1 (q ++ e ∷ [])))
            → Rising (keys_below d m (child m (follow (child m) 1 q) e))
        below e h = subst (λ (x : ℕ). Rising (keys_below d m x)) (follow-append (child m) 1 q (e ∷ [])) h

        null_of : is_leaf (node m (follow (child m) 1 q)) ≡ true → (e : Side) → child m (follow (child m) 1 q) e ≡ 0
        null_of leaf Left = eqb-true _ 0 (and_parts ((node m (follow (child m) 1 q)).left.slot == 0)
            ((node m (follow (child m) 1 q)).right.slot == 0) leaf).0
        null_of leaf Right = eqb-true _ 0 (and_parts ((node m (follow (child m) 1 q)).left.slot == 0)
            ((node m (follow (child m) 1 q)).right.slot == 0) leaf).1

        go : (o : Option ℕ) → set_key (node m (follow (child m) 1 q)) ≡ o
            → Rising (keys_below d m (child m (follow (child m) 1 q) Left))
            → Rising (keys_below d m (child m (follow (child m) 1 q) Right))
            → Rising (cons_option o (keys_below d m (child m (follow (child m) 1 q) Left)
            ++ keys_below d m (child m (follow (child m) 1 q) Right)))
        go None is left right = rising_append _ _ left right (λ a b i j.
            let less = less_of_left a _ (goes_to q Left a (under d (child m (follow (child m) 1 q) Left) a i)) in
            let more = more_of_right b _ (goes_to q Right b (under d (child m (follow (child m) 1 q) Right) b j)) in
            omega arith)
        go (Some n) is left right =
            let leaf = (leaf_key (follow (child m) 1 q) n is).0 in
            rw (
              none_below d (child m (follow (child m) 1 q) Left) (null_of leaf Left),
              none_below d
                  (child m (follow (child m) 1 q) Right) (null_of leaf Right),
            ) ((λ j h. absurd (none-some j h.1)), tt)

    pub keys_ascend : (d : ℕ) → AllPairs (λ a b. a < b) (keys_below d m 1)
    keys_ascend d i j e less inside = rising_pairs (keys_below d m 1) (rising d []) i j e less inside
