-- What the laws of ordered runs say of the keys that are told at a tree's end.
use Rattle.std.proofs.Common.{◌≡◌, ℕ, zero, suc, ◌<◌, ◌≤◌, inl, inr, List, [], ◌∷◌, refl, sym, ap₂, subst, arith}
use Rattle.std.specs.Prelude.{◌↔◌, All, AllPairs, Contains}
use Rattle.nm_edge.specs.Layouts.{Layout, IsLayout}
use Rattle.nm_model.specs.declared.event.Event.{Event}
use Rattle.nm_model.specs.declared.event.Op.TheVariants.{Insert, Delete}
use Rattle.nm_model.specs.Memory.{Memory, infinity_0}
use Rattle.nm_model.specs.Ordered.{HasKey, ordered, after_in, trace_in}
use Rattle.nm_model.specs.Reports.{keys}
use Rattle.nm_model.specs.Acts.{InSet}
use Rattle.nm_order.specs.Totals.{Agree, links_of}
use Rattle.nm_order.proofs.OrderedLaws.{each_core_tells_the_set, each_key_ascends}
use Rattle.nm_order.proofs.TotalsOfRuns.{each_total_is_the_set}
use Rattle.nm_progress.proofs.PendingTurns.{nothing_is_pending}
use Rattle.nm_tree.specs.Closing.{KeysAreTheTotals, how_often}
use Rattle.nm_tree.proofs.TurnTotals.{flags_are, links_are}

pub enough_nodes : (L : Layout) → IsLayout L → 5 ≤ L.nodes
enough_nodes L fits = let least = fits.least in omega arith

-- ---- ascending lists with the same numbers are the same

abbrev Ascend : List ℕ → Type 0
Ascend xs = AllPairs (λ j k. j < k) xs

rest_ascends : (x : ℕ) (xs : List ℕ) → Ascend (x ∷ xs) → Ascend xs
rest_ascends x xs up i j d less below = up (suc i) (suc j) d (omega (arith, less)) (omega (arith, below))

first_is_least : (x : ℕ) (xs : List ℕ) → Ascend (x ∷ xs) → (k : ℕ) → Contains xs k → x < k
first_is_least x xs up k (i, below, is) = let less = up 0 (suc i) k (omega arith) (omega (arith, below)) in
    omega (arith, less, is)

is_first : (x : ℕ) (xs : List ℕ) → Contains (x ∷ xs) x
is_first x xs = (0, omega arith, refl)

is_later : (x : ℕ) (xs : List ℕ) (k : ℕ) → Contains xs k → Contains (x ∷ xs) k
is_later x xs k (i, below, is) = (suc i, omega (arith, below), is)

at_least_first : (x : ℕ) (xs : List ℕ) → Ascend (x ∷ xs) → (k : ℕ) → Contains (x ∷ xs) k → x ≤ k
at_least_first x xs up k (zero, below, is) = omega (arith, is)
at_least_first x xs up k (suc i, below, is) = let less = first_is_least x xs up k (i, omega (arith, below), is) in
    omega (arith, less)

behind_first : (x : ℕ) (xs : List ℕ) (k : ℕ) → x < k → Contains (x ∷ xs) k → Contains xs k
behind_first x xs k less (zero, below, is) = absurd (omega (arith, less, is))
behind_first x xs k less (suc i, below, is) = (i, omega (arith, below), is)

none_in : (k : ℕ) → Contains [] k → ⊥
none_in k (i, below, is) = omega (arith, below)

ascending_alike : (xs ys : List ℕ) → Ascend xs → Ascend ys → ((k : ℕ) → Contains xs k → Contains ys k)
    → ((k : ℕ) → Contains ys k → Contains xs k) → xs ≡ ys
ascending_alike [] [] up up' to from = refl
ascending_alike [] (y ∷ ys) up up' to from = absurd (none_in y (from y (is_first y ys)))
ascending_alike (x ∷ xs) [] up up' to from = absurd (none_in x (to x (is_first x xs)))
ascending_alike (x ∷ xs) (y ∷ ys) up up' to from =
    let low = at_least_first y ys up' x (to x (is_first x xs)) in
    let high = at_least_first x xs up y (from y (is_first y ys)) in
    let same : x ≡ y = omega (arith, low, high) in
    ap₂ (λ (z : ℕ) (zs : List ℕ). z ∷ zs) same (ascending_alike xs ys (rest_ascends x xs up) (rest_ascends y ys up')
    (λ k has. behind_first y ys k (let less = first_is_least x xs up k has in omega (arith, less, same))
    (to k (is_later x xs k has)))
    (λ k has. behind_first x xs k (let less = first_is_least y ys up' k has in omega (arith, less, same))
    (from k (is_later y ys k has))))

-- ---- the keys

module _ (L : Layout) (fits : IsLayout L) (turns : List (ℕ × Event)) (for_keys : All (λ t. HasKey t.1) turns)
    (kept : List ℕ) where
  abbrev now : Memory
  now = (after_in (ordered L) turns).state.memory

  module _ (told : kept ≡ keys (after_in (ordered L) turns).state) where
    pub set_of : (k : ℕ) → Contains kept k ↔ InSet now k × (k < infinity_0)
    set_of k = subst (λ (ks : List ℕ). Contains ks k ↔ InSet now k × (k < infinity_0)) (sym told)
        (each_core_tells_the_set L (enough_nodes L fits) turns for_keys k)

    pub ascend_of : Ascend kept
    ascend_of = subst Ascend (sym told) (each_key_ascends L (enough_nodes L fits) turns for_keys)

  module _ (set : (k : ℕ) → Contains kept k ↔ InSet now k × (k < infinity_0)) where
    -- the ascending list of the set is what a core tells
    pub keys_of : Ascend kept → kept ≡ keys (after_in (ordered L) turns).state
    keys_of up = ascending_alike kept (keys (after_in (ordered L) turns).state) up
        (each_key_ascends L (enough_nodes L fits) turns for_keys)
        (λ k has. (each_core_tells_the_set L (enough_nodes L fits) turns for_keys k).1 ((set k).0 has))
        (λ k has. (set k).1 ((each_core_tells_the_set L (enough_nodes L fits) turns for_keys k).0 has))

    -- with no delete pending each key is told as often as it was linked less as often as it was
    -- flagged, both counted on the turns
    pub totals_of : KeysAreTheTotals L (trace_in (ordered L) turns) kept
    totals_of none k is = agree
        (subst (λ (n : ℕ). Agree n (how_often Delete k [] (trace_in (ordered L) turns)) (InSet now k))
        (sym (links_are L fits turns for_keys k))
        (subst (λ (n : ℕ). Agree (links_of k L turns) n (InSet now k)) (sym (flags_are L fits turns for_keys k))
        (each_total_is_the_set L (enough_nodes L fits) turns for_keys
        (nothing_is_pending L (enough_nodes L fits) turns for_keys none) k is)))
      where
        agree : Agree (how_often Insert k [] (trace_in (ordered L) turns))
            (how_often Delete k [] (trace_in (ordered L) turns)) (InSet now k)
            → Agree (how_often Insert k [] (trace_in (ordered L) turns))
            (how_often Delete k [] (trace_in (ordered L) turns)) (Contains kept k)
        agree (inl a) = inl (a.0, (set k).1 (a.1, omega (arith, is)))
        agree (inr a) = inr (a.0, λ has. a.1 ((set k).0 has).0)
