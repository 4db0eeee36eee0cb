-- The places of workers, in the order of their numbers.
use Rattle.std.proofs.Common.{◌≡◌, ℕ, zero, suc, ◌+◌, ◌<◌, List, [], ◌∷◌, ◌++◌, length, ap, ◌∙◌, subst, arith}
use Rattle.std.specs.Prelude.{slice_index_or}
use Rattle.nm_set.specs.Seats.{ArePlaces}
use Rattle.nm_set.specs.declared.home.Site.{Site}

-- the place at an index is that of the worker of that number
pub seat_at : (b : Site) (i : ℕ) (ss : List (Site × ℕ)) → ArePlaces b i ss → (k : ℕ) (d : Site × ℕ) → k < length ss
    → slice_index_or ss k d ≡ (b, k + i)
seat_at b i [] are k d less = absurd (omega (arith, less))
seat_at b i (s ∷ ss) are zero d less = let same : i ≡ 0 + i = omega arith in are.0 ∙ ap (λ (n : ℕ). (b, n)) same
seat_at b i (s ∷ ss) are (suc k) d less = let next : k + suc i ≡ suc k + i = omega arith in
    subst (λ (n : ℕ). slice_index_or ss k d ≡ (b, n)) next (seat_at b (suc i) ss are.1 k d (omega (arith, less)))

pub seat_of : (b : Site) (ss : List (Site × ℕ)) → ArePlaces b 0 ss → (k : ℕ) (d : Site × ℕ) → k < length ss
    → slice_index_or ss k d ≡ (b, k)
seat_of b ss are k d less = let same : k + 0 ≡ k = omega arith in
    seat_at b 0 ss are k d less ∙ ap (λ (n : ℕ). (b, n)) same

-- one place more
pub one_seat : (b : Site) (i : ℕ) (ss : List (Site × ℕ)) (n : ℕ) → n ≡ i + length ss → ArePlaces b i ss
    → ArePlaces b i (ss ++ (b, n) ∷ [])
one_seat b i [] n e are = let at : n ≡ i = omega (arith, e) in (ap (λ (k : ℕ). (b, k)) at, tt)
one_seat b i (s ∷ ss) n e are = (are.0, one_seat b (suc i) ss n (omega (arith, e)) are.1)
