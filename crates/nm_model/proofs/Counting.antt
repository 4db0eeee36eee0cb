-- Counting: sums over lists, sums over the numbers below one, and how often a number stands in a
-- list.
use Rattle.std.proofs.Common.{◌≡◌, ℕ, zero, suc, ◌+◌, ◌==◌, ◌<◌, ◌≤◌, ◌≢◌, eqb, Bool, true, false, List, [], ◌∷◌, ◌++◌, length, get_or, refl, sym, ap, ap₂, ◌∙◌, arith}
use Rattle.std.specs.Prelude.{Some, slice_get, sum_by, filter}
use native.Mathlib.Decide.{ℕ_discrete}
use Rattle.std.proofs.lemmas.Bool.{eq-eqb, ne_eqb}
use Rattle.std.proofs.lemmas.Option.{none-some, same_Some}
use Rattle.std.proofs.lemmas.List.Sums.{sum_by-cons}

abbrev pub one_if : Bool → ℕ
one_if true = 1
one_if false = 0

-- ---- sums over a list

abbrev pub weight : {X : Type 0} → (X → ℕ) → List X → ℕ
weight f [] = 0
weight f (x ∷ xs) = f x + weight f xs

pub sum_is_weight : {X : Type 0} (f : X → ℕ) (xs : List X) → sum_by f xs ≡ weight f xs
sum_is_weight f [] = refl
sum_is_weight f (x ∷ xs) = sum_by-cons f x xs ∙ ap (λ (n : ℕ). f x + n) (sum_is_weight f xs)

pub weight_same : {X : Type 0} (f g : X → ℕ) (xs : List X) → ((v : ℕ) (z : X) → slice_get xs v ≡ Some z → f z ≡ g z)
    → weight f xs ≡ weight g xs
weight_same f g [] same = refl
weight_same f g (x ∷ xs) same = ap₂ (λ (a b : ℕ). a + b) (same 0 x refl)
    (weight_same f g xs (λ v z at. same (suc v) z at))

pub weight_none : {X : Type 0} (g : X → ℕ) (xs : List X) → ((v : ℕ) (z : X) → slice_get xs v ≡ Some z → g z ≡ 0)
    → weight g xs ≡ 0
weight_none g [] none = refl
weight_none g (x ∷ xs) none = let a = none 0 x refl in let b = weight_none g xs (λ v z at. none (suc v) z at) in
    omega arith

-- one thing weighs 1, and the others nothing
pub weight_one : {X : Type 0} (g : X → ℕ) (xs : List X) (u : ℕ) (y : X) → slice_get xs u ≡ Some y → g y ≡ 1
    → ((v : ℕ) (z : X) → slice_get xs v ≡ Some z → v ≢ u → g z ≡ 0) → weight g xs ≡ 1
weight_one g [] u y at one none = absurd (none-some y at)
weight_one g (x ∷ xs) zero y at one none =
    let a : g x ≡ 1 = ap g (same_Some x y at) ∙ one in
    let b = weight_none g xs (λ v z is. none (suc v) z is (λ e. absurd (omega arith))) in omega arith
weight_one g (x ∷ xs) (suc u) y at one none =
    let a = none 0 x refl (λ e. absurd (omega arith)) in
    let b = weight_one g xs u y at one (λ v z is ne. none (suc v) z is (λ e. ne (omega arith))) in omega arith

-- ---- sums over the numbers below one

abbrev pub total : ℕ → (ℕ → ℕ) → ℕ
total zero f = 0
total (suc n) f = f 0 + total n (λ x. f (suc x))

pub total_same : (n : ℕ) (f g : ℕ → ℕ) → ((x : ℕ) → x < n → f x ≡ g x) → total n f ≡ total n g
total_same zero f g same = refl
total_same (suc n) f g same = ap₂ (λ (a b : ℕ). a + b) (same 0 (omega arith))
    (total_same n (λ x. f (suc x)) (λ x. g (suc x)) (λ x lt. same (suc x) (omega arith)))

pub total_add : (n : ℕ) (f g : ℕ → ℕ) → total n (λ x. f x + g x) ≡ total n f + total n g
total_add zero f g = refl
total_add (suc n) f g = let a = total_add n (λ x. f (suc x)) (λ x. g (suc x)) in omega arith

pub total_none : (n : ℕ) → total n (λ x. 0) ≡ 0
total_none zero = refl
total_none (suc n) = let a = total_none n in omega arith

pub total_ones : (n : ℕ) → total n (λ x. 1) ≡ n
total_ones zero = refl
total_ones (suc n) = let a = total_ones n in omega arith

pub total_le : (n : ℕ) (f : ℕ → ℕ) → ((x : ℕ) → f x ≤ 1) → total n f ≤ n
total_le zero f le = omega arith
total_le (suc n) f le = let a = le 0 in let b = total_le n (λ x. f (suc x)) (λ x. le (suc x)) in omega arith

total_at : (n y : ℕ) → y < n → total n (λ x. one_if (x == y)) ≡ 1
total_at zero y lt = absurd (omega arith)
total_at (suc n) zero lt =
    let a : one_if (0 == 0) ≡ 1 = ap one_if (eq-eqb 0 0 refl) in
    let b : total n (λ x. one_if (suc x == 0)) ≡ 0 = total_same n (λ x. one_if (suc x == 0)) (λ x. 0)
    (λ x _. ap one_if (ne_eqb (suc x) 0 (λ e. absurd (omega arith)))) ∙ total_none n in
    omega arith
total_at (suc n) (suc y) lt =
    let a : one_if (0 == suc y) ≡ 0 = ap one_if (ne_eqb 0 (suc y) (λ e. absurd (omega arith))) in
    let b : total n (λ x. one_if (suc x == suc y)) ≡ 1 = total_same n (λ x. one_if (suc x == suc y))
    (λ x. one_if (x == y)) (λ x _. ap one_if (same_test x y)) ∙ total_at n y (omega arith) in
    omega arith
  where
    same_test : (x y : ℕ) → eqb (suc x) (suc y) ≡ eqb x y
    same_test x y = elim (ℕ_discrete x y) [
      | yes e ↦ eq-eqb (suc x) (suc y) (ap (λ (z : ℕ). suc z) e) ∙ sym (eq-eqb x y e)
      | no ne ↦ ne_eqb (suc x) (suc y) (λ e. ne (omega arith)) ∙ sym (ne_eqb x y ne)
    ]

pub total_weight : {X : Type 0} (n : ℕ) (g : X → ℕ → ℕ) (ks : List X)
    → total n (λ x. weight (λ k. g k x) ks) ≡ weight (λ k. total n (g k)) ks
total_weight n g [] = total_none n
total_weight n g (k ∷ ks) = total_add n (g k) (λ x. weight (λ j. g j x) ks)
    ∙ ap (λ (a : ℕ). total n (g k) + a) (total_weight n g ks)

-- the marks that are set
pub total_marks : (bs : List Bool) → total (length bs) (λ x. one_if (get_or bs x false)) ≡ length (filter (λ b. b) bs)
total_marks [] = refl
total_marks (true ∷ bs) = let a = total_marks bs in omega arith
total_marks (false ∷ bs) = let a = total_marks bs in omega arith

-- ---- how often a number stands in a list

abbrev pub times : List ℕ → ℕ → ℕ
times xs x = weight (λ y. one_if (x == y)) xs

pub times_append : (xs ys : List ℕ) (x : ℕ) → times (xs ++ ys) x ≡ times xs x + times ys x
times_append [] ys x = omega arith
times_append (y ∷ xs) ys x = let a = times_append xs ys x in omega arith

abbrev pub AllBelow : ℕ → List ℕ → Type 0
AllBelow n [] = Unit {0}
AllBelow n (x ∷ xs) = (x < n) × AllBelow n xs

pub below_append : (n : ℕ) (xs ys : List ℕ) → AllBelow n xs → AllBelow n ys → AllBelow n (xs ++ ys)
below_append n [] ys a b = b
below_append n (x ∷ xs) ys a b = (a.0, below_append n xs ys a.1 b)

pub below_from : (n : ℕ) (xs : List ℕ) → ((i x : ℕ) → slice_get xs i ≡ Some x → x < n) → AllBelow n xs
below_from n [] h = tt
below_from n (x ∷ xs) h = (h 0 x refl, below_from n xs (λ i y at. h (suc i) y at))

-- each number that stands in a list is counted once for each place
pub total_times : (n : ℕ) (xs : List ℕ) → AllBelow n xs → total n (times xs) ≡ length xs
total_times n [] all = total_none n
total_times n (y ∷ ys) all =
    let a = total_add n (λ x. one_if (x == y)) (times ys) in
    let b = total_at n y all.0 in
    let c = total_times n ys all.1 in omega arith

pub times_here : (x y : ℕ) → x ≡ y → one_if (x == y) ≡ 1
times_here x y e = ap one_if (eq-eqb x y e)

pub times_apart : (x y : ℕ) → x ≢ y → one_if (x == y) ≡ 0
times_apart x y ne = ap one_if (ne_eqb x y ne)
