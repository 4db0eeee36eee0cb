-- How many slots are in the pool, counted slot by slot.
use Rattle.std.proofs.Common.{◌≡◌, ℕ, zero, suc, ◌+◌, ◌<◌, ◌≤◌, Bool, true, false, List, length, get_or, take, refl, sym, ap, ◌∙◌, arith, take_all}
use Rattle.std.specs.Prelude.{count_by, filter}
use Rattle.std.proofs.lemmas.Bool.{false_from_ne_true}
use Rattle.std.proofs.lemmas.List.Sums.{count_by_more_no, count_by_more_yes, length-filter}

-- below 6 there is none
pub none_below : (pool : List Bool) (n : ℕ) → n ≤ 6 → n ≤ length pool
    → ((x : ℕ) → get_or pool x false ≡ true → 6 ≤ x) → count_by (λ free. free) (take n pool) ≡ 0
none_below pool zero low long above = refl
none_below pool (suc n) low long above =
    let more = count_by_more_no (λ free. free) pool n false (omega (arith, long))
    (false_from_ne_true (get_or pool n false) (λ is. let high = above n is in
    absurd (omega (arith, high, low)))) in
    let one : suc n ≡ n + 1 = omega arith in
    ap (λ (k : ℕ). count_by (λ free. free) (take k pool)) one ∙ more
    ∙ none_below pool n (omega (arith, low)) (omega (arith, long)) above

-- one slot further, by whether that slot is in the pool
pub counted_yes : (pool : List Bool) (n free more : ℕ) (is : Bool) → n < length pool → is ≡ get_or pool n false
    → is ≡ true → more ≡ free + 1 → free ≡ count_by (λ free. free) (take n pool)
    → more ≡ count_by (λ free. free) (take (n + 1) pool)
counted_yes pool n free more is below at holds one so = one
    ∙ (ap (λ (k : ℕ). k + 1) so ∙ sym (count_by_more_yes (λ free. free) pool n false below (sym at ∙ holds)))

pub counted_no : (pool : List Bool) (n free same : ℕ) (is : Bool) → n < length pool → is ≡ get_or pool n false
    → is ≡ false → same ≡ free → free ≡ count_by (λ free. free) (take n pool)
    → same ≡ count_by (λ free. free) (take (n + 1) pool)
counted_no pool n free same is below at fails none so = none
    ∙ (so ∙ sym (count_by_more_no (λ free. free) pool n false below (sym at ∙ fails)))

-- at the end all are counted
pub all_counted : (pool : List Bool) (n free : ℕ) → length pool ≤ n → free ≡ count_by (λ free. free) (take n pool)
    → free ≡ length (filter (λ free. free) pool)
all_counted pool n free long is = is ∙ (ap (count_by (λ free. free)) (take_all n pool long)
    ∙ sym (length-filter (λ free. free) pool))
