-- The slots of a closed map whose left edge leads to no node.
use Rattle.std.proofs.Common.{◌≡◌, ◌-◌, ◌<◌, ◌≤◌, ℕ, zero, suc, false, inl, inr, List, refl, ap, ◌∙◌, arith}
use Rattle.std.specs.Prelude.{◌⊎◌, Bool, Option, Some, slice_get, unwrap_or}
use Rattle.std.proofs.lemmas.List.FromFn.{get_or-map-range_with_len, length-map-range_with_len}
use Rattle.std.proofs.lemmas.Option.{slice_get-get_or, slice_get_past}
use Rattle.nm_edge.specs.Layouts.{Layout}
use Rattle.nm_tree.specs.MapReports.{MapValuesView, bare_in, is_bare_in, is_leaf_at}

bare_at : (L : Layout) (core : List ℕ) (i : ℕ) → i < L.nodes
    → slice_get (bare_in L core) i ≡ Some (is_bare_in L core (suc i))
bare_at L core i less =
    let long = length-map-range_with_len (is_bare_in L core) 1 L.nodes in
    slice_get-get_or (bare_in L core) i false (omega (arith, less, long))
    ∙ ap Some (get_or-map-range_with_len (is_bare_in L core) 1 L.nodes i (suc i) false less (omega arith))

pub bare_there : (L : Layout) (core : List ℕ) (x : ℕ) → 1 ≤ x → x ≤ L.nodes
    → slice_get (bare_in L core) (x - 1) ≡ Some (is_bare_in L core x)
bare_there L core x low high =
    let back : suc (x - 1) ≡ x = omega (arith, low) in
    bare_at L core (x - 1) (omega (arith, low, high)) ∙ ap (λ (y : ℕ). Some (is_bare_in L core y)) back

-- a slot is that of a leaf if it is bare, and no other number is
pub leaf_is_bare : (v : MapValuesView) (L : Layout) (core : List ℕ) (x : ℕ) → v.bare ≡ bare_in L core
    → 1 ≤ x → x ≤ L.nodes → is_leaf_at v x ≡ is_bare_in L core x
leaf_is_bare v L core zero is low high = absurd (omega (arith, low))
leaf_is_bare v L core (suc i) is low high =
    ap (λ (bs : List Bool). unwrap_or (slice_get bs i) false) is
    ∙ ap (λ (o : Option Bool). unwrap_or o false) (bare_at L core i (omega (arith, high)))

pub no_leaf : (v : MapValuesView) (L : Layout) (core : List ℕ) (x : ℕ) → v.bare ≡ bare_in L core
    → (x ≡ 0) ⊎ (L.nodes < x) → is_leaf_at v x ≡ false
no_leaf v L core zero is why = refl
no_leaf v L core (suc i) is (inl none') = absurd (omega (arith, none'))
no_leaf v L core (suc i) is (inr more) =
    let long = length-map-range_with_len (is_bare_in L core) 1 L.nodes in
    ap (λ (bs : List Bool). unwrap_or (slice_get bs i) false) is
    ∙ ap (λ (o : Option Bool). unwrap_or o false) (slice_get_past (bare_in L core) i (omega (arith, more, long)))
