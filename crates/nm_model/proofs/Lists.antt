-- Elements of lists that are joined, by their index.
use Rattle.std.proofs.Common.{◌≡◌, ◌⊎◌, inl, inr, ℕ, zero, suc, ◌-◌, ◌<◌, ◌≤◌, Bool, true, List, [], ◌∷◌, ◌++◌, map, length, take, drop, set, get_or, ◌+◌, refl, sym, ap, ◌∙◌, arith, true≢false}
use Rattle.std.specs.Prelude.{Some, slice_get}
use Rattle.std.specs.List.{list_any}
use Rattle.std.proofs.lemmas.Bool.{or_cases}
use Rattle.std.proofs.lemmas.List.{length-append, set-get_or}
use Rattle.std.proofs.lemmas.List.Edits.{map_over_more}
use Rattle.std.proofs.lemmas.Option.{none-some, same_Some}

pub longer_by : {X : Type 0} (old new more : List X) → new ≡ old ++ more → length new ≡ length old + length more
longer_by old new more is = ap length is ∙ length-append old more

pub get_left : {X : Type 0} (xs ys : List X) (k : ℕ) (x : X) → k < length xs → slice_get (xs ++ ys) k ≡ Some x
    → slice_get xs k ≡ Some x
get_left [] ys k x lt h = absurd (omega arith)
get_left (z ∷ xs) ys zero x lt h = h
get_left (z ∷ xs) ys (suc k) x lt h = get_left xs ys k x (omega arith) h

pub get_right : {X : Type 0} (xs ys : List X) (k : ℕ) → length xs ≤ k
    → slice_get (xs ++ ys) k ≡ slice_get ys (k - length xs)
get_right [] ys k le = let e : k ≡ k - 0 = omega arith in ap (slice_get ys) e
get_right (z ∷ xs) ys zero le = absurd (omega arith)
get_right (z ∷ xs) ys (suc k) le = let e : k - length xs ≡ suc k - suc (length xs) = omega arith in
    get_right xs ys k (omega arith) ∙ ap (slice_get ys) e

pub get_stays : {X : Type 0} (xs ys : List X) (k : ℕ) (x : X) → slice_get xs k ≡ Some x
    → slice_get (xs ++ ys) k ≡ Some x
get_stays [] ys k x h = absurd (none-some x h)
get_stays (z ∷ xs) ys zero x h = h
get_stays (z ∷ xs) ys (suc k) x h = get_stays xs ys k x h

-- where one element of a list is such, its place
pub any_at : {X : Type 0} (f : X → Bool) (xs : List X) → list_any f xs ≡ true
    → (i : ℕ) × (x : X) × (slice_get xs i ≡ Some x) × (f x ≡ true)
any_at f [] h = absurd (true≢false (sym h))
any_at f (x ∷ xs) h = elim (or_cases (f x) (list_any f xs) h) [
  | inl here ↦ (0, x, refl, here)
  | inr later ↦ let k = any_at f xs later in (suc k.0, k.1, k.2, k.3)
]

-- of a mapped list, what was there
pub mapped_at : {X : Type 0} (f : X → X) (xs : List X) (i : ℕ) (y : X) → slice_get (map f xs) i ≡ Some y
    → (x : X) × (slice_get xs i ≡ Some x) × (y ≡ f x)
mapped_at f [] i y h = absurd (none-some y h)
mapped_at f (x ∷ xs) zero y h = (x, refl, same_Some y (f x) (sym h))
mapped_at f (x ∷ xs) (suc i) y h = mapped_at f xs i y h

-- and what is there now
pub map_at : {X : Type 0} (f : X → X) (xs : List X) (i : ℕ) (x : X) → slice_get xs i ≡ Some x
    → slice_get (map f xs) i ≡ Some (f x)
map_at f [] i x h = absurd (none-some x h)
map_at f (y ∷ xs) zero x h = ap (λ z. Some (f z)) (same_Some y x h)
map_at f (y ∷ xs) (suc i) x h = map_at f xs i x h

-- of a list with one more, what was there or the new one
pub more_at : {X : Type 0} (xs : List X) (z : X) (i : ℕ) (y : X) → slice_get (xs ++ z ∷ []) i ≡ Some y
    → (slice_get xs i ≡ Some y) ⊎ (y ≡ z)
more_at [] z zero y h = inr (same_Some y z (sym h))
more_at [] z (suc i) y h = absurd (none-some y h)
more_at (x ∷ xs) z zero y h = inl h
more_at (x ∷ xs) z (suc i) y h = more_at xs z i y h

-- a loop that maps: an element that f leaves as it is needs no write
pub map_over_kept : {X : Type 0} (f : X → X) (xs ys : List X) (i : ℕ) (x : X) → i < length xs
    → ys ≡ map f (take i xs) ++ drop i xs → x ≡ get_or ys i x → f x ≡ x
    → ys ≡ map f (take (i + 1) xs) ++ drop (i + 1) xs
map_over_kept f xs ys i x lt h is kept = sym (set-get_or ys i x) ∙ ap (λ y. set ys i y) (sym is ∙ sym kept)
    ∙ map_over_more f xs ys i x lt h is
