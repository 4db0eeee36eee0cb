-- One item of a list is written over.
use Rattle.std.proofs.Common.{◌≡◌, ◌≢◌, ◌<◌, ℕ, zero, suc, List, [], ◌∷◌, length, refl, ap, slice_set, arith}
use Rattle.std.specs.Prelude.{Some, slice_get}

pub get_written : {X : Type 0} (xs : List X) (i : ℕ) (y : X) → i < length xs → slice_get (slice_set xs i y) i ≡ Some y
get_written [] i y below = absurd (omega (arith, below))
get_written (z ∷ xs) zero y below = refl
get_written (z ∷ xs) (suc i) y below = get_written xs i y (omega (arith, below))

pub get_beside : {X : Type 0} (xs : List X) (i j : ℕ) (y : X) → j ≢ i → slice_get (slice_set xs i y) j ≡ slice_get xs j
get_beside [] i j y apart = refl
get_beside (z ∷ xs) zero zero y apart = absurd (apart refl)
get_beside (z ∷ xs) zero (suc j) y apart = refl
get_beside (z ∷ xs) (suc i) zero y apart = refl
get_beside (z ∷ xs) (suc i) (suc j) y apart = get_beside xs i j y (λ e. apart (ap suc e))
