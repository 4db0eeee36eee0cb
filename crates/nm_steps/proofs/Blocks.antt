-- Lists of blocks of one length, one after the other; lists of a head and three parts; and what a
-- function says of each number up to a bound: one element read, and one written.
use Rattle.std.proofs.Common.{◌≡◌, ◌≢◌, ℕ, zero, suc, ◌+◌, ◌*◌, ◌<◌, ◌≤◌, List, [], ◌∷◌, ◌++◌, length, get_or, set, map, take, drop, refl, sym, ap, ◌∙◌, arith, get_or-set_same, get_or-set_other, length-set, length-append, get_or-append-add, ext_get_or, flat_map}
use Rattle.std.specs.List.{range_with_len}
use Rattle.std.proofs.Math.Nat.{mul-zero, mul-suc}
use native.Mathlib.Decide.{ℕ_discrete}
use Rattle.std.proofs.lemmas.List.{get_or_append_left, set-append_left, drop-set-add, drop-set-lt, take-set-le}
use Rattle.std.proofs.lemmas.List.FromFn.{length-map-range_with_len, get_or-map-range_with_len}

-- an element behind a front is written
pub set-append-add : (xs ys : List ℕ) (k n : ℕ) → set (xs ++ ys) (length xs + k) n ≡ xs ++ set ys k n
set-append-add [] ys k n = ap (λ i. set ys i n) (let e : 0 + k ≡ k = omega arith in e)
set-append-add (x ∷ xs) ys k n =
    ap (λ i. set (x ∷ xs ++ ys) i n) (let e : suc (length xs) + k ≡ suc (length xs + k) = omega arith in e)
    ∙ ap (λ l. x ∷ l) (set-append-add xs ys k n)

-- ---- blocks of n

module _ {X : Type 0} (f : X → List ℕ) (n : ℕ) (long : (x : X) → length (f x) ≡ n) where
  pub blocks_length : (xs : List X) → length (flat_map f xs) ≡ n * length xs
  blocks_length [] = sym (mul-zero n)
  blocks_length (x ∷ xs) = length-append (f x) (flat_map f xs)
      ∙ (let more = mul-suc n (length xs) in omega (arith, long x, blocks_length xs, more))

  -- where the blocks behind the first one begin
  behind_first : (x : X) (i j : ℕ) → n * suc i + j ≡ length (f x) + (n * i + j)
  behind_first x i j = let more = mul-suc n i in omega (arith, long x, more)

  in_first : (j : ℕ) → n * 0 + j ≡ j
  in_first j = let none = mul-zero n in omega (arith, none)

  pub blocks_read : (xs : List X) (i j : ℕ) (d : X) → j < n → i < length xs
      → get_or (flat_map f xs) (n * i + j) 0 ≡ get_or (f (get_or xs i d)) j 0
  blocks_read [] i j d below inside = absurd (omega arith)
  blocks_read (x ∷ xs) zero j d below inside =
      ap (λ k. get_or (f x ++ flat_map f xs) k 0) (in_first j)
      ∙ get_or_append_left (f x) (flat_map f xs) 0 j (omega (arith, long x, below))
  blocks_read (x ∷ xs) (suc i) j d below inside =
      ap (λ k. get_or (f x ++ flat_map f xs) k 0) (behind_first x i j)
      ∙ get_or-append-add (f x) (flat_map f xs) (n * i + j) 0 ∙ blocks_read xs i j d below (omega (arith, inside))

  -- another block that differs from the one before in one element
  pub blocks_written : (xs : List X) (i j v : ℕ) (d y : X) → j < n → i < length xs
      → f y ≡ set (f (get_or xs i d)) j v → flat_map f (set xs i y) ≡ set (flat_map f xs) (n * i + j) v
  blocks_written [] i j v d y below inside is = absurd (omega arith)
  blocks_written (x ∷ xs) zero j v d y below inside is =
      ap (λ l. l ++ flat_map f xs) is ∙ sym (set-append_left (f x) (flat_map f xs) j v (omega (arith, long x, below)))
      ∙ ap (λ k. set (f x ++ flat_map f xs) k v) (sym (in_first j))
  blocks_written (x ∷ xs) (suc i) j v d y below inside is =
      ap (λ l. f x ++ l) (blocks_written xs i j v d y below (omega (arith, inside)) is)
      ∙ sym (set-append-add (f x) (flat_map f xs) (n * i + j) v)
      ∙ ap (λ k. set (f x ++ flat_map f xs) k v) (sym (behind_first x i j))

-- ---- a head and three parts

module _ (e : ℕ) (xs ys zs : List ℕ) where
  abbrev whole : List ℕ
  whole = e ∷ (xs ++ (ys ++ zs))

  pub first_read : (n i : ℕ) → n ≡ 1 + i → i < length xs → get_or whole n 0 ≡ get_or xs i 0
  first_read n i is inside = ap (λ k. get_or whole k 0) (let at : n ≡ suc i = omega arith in at)
      ∙ get_or_append_left xs (ys ++ zs) 0 i inside

  pub second_read : (n i : ℕ) → n ≡ 1 + length xs + i → i < length ys → get_or whole n 0 ≡ get_or ys i 0
  second_read n i is inside = ap (λ k. get_or whole k 0) (let at : n ≡ suc (length xs + i) = omega arith in at)
      ∙ get_or-append-add xs (ys ++ zs) i 0 ∙ get_or_append_left ys zs 0 i inside

  pub third_read : (n i : ℕ) → n ≡ 1 + length xs + length ys + i → get_or whole n 0 ≡ get_or zs i 0
  third_read n i is =
      ap (λ k. get_or whole k 0) (let at : n ≡ suc (length xs + (length ys + i)) = omega arith in at)
      ∙ get_or-append-add xs (ys ++ zs) (length ys + i) 0 ∙ get_or-append-add ys zs i 0

  pub first_written : (n i v : ℕ) → n ≡ 1 + i → i < length xs → e ∷ (set xs i v ++ (ys ++ zs)) ≡ set whole n v
  first_written n i v is inside = sym (ap (λ k. set whole k v) (let at : n ≡ suc i = omega arith in at)
      ∙ ap (λ l. e ∷ l) (set-append_left xs (ys ++ zs) i v inside))

  pub second_written : (n i v : ℕ) → n ≡ 1 + length xs + i → i < length ys
      → e ∷ (xs ++ (set ys i v ++ zs)) ≡ set whole n v
  second_written n i v is inside =
      sym (ap (λ k. set whole k v) (let at : n ≡ suc (length xs + i) = omega arith in at)
      ∙ ap (λ l. e ∷ l) (set-append-add xs (ys ++ zs) i v ∙ ap (λ l. xs ++ l) (set-append_left ys zs i v inside)))

  pub third_written : (n i v : ℕ) → n ≡ 1 + length xs + length ys + i → e ∷ (xs ++ (ys ++ set zs i v)) ≡ set whole n v
  third_written n i v is =
      sym (ap (λ k. set whole k v) (let at : n ≡ suc (length xs + (length ys + i)) = omega arith in at)
      ∙ ap (λ l. e ∷ l) (set-append-add xs (ys ++ zs) (length ys + i) v ∙ ap (λ l. xs ++ l) (set-append-add ys zs i v)))

  pub whole_length : length whole ≡ 1 + length xs + length ys + length zs
  whole_length = omega (arith, length-append xs (ys ++ zs), length-append ys zs)

-- ---- what a function says of each number below n

-- another function that says something else of one number alone
pub one_changed : (f g : ℕ → ℕ) (n r : ℕ) → r < n → ((q : ℕ) → q ≢ r → g q ≡ f q)
    → map g (range_with_len 0 n) ≡ set (map f (range_with_len 0 n)) r (g r)
one_changed f g n r inside others = ext_get_or 0 (map g (range_with_len 0 n))
    (set (map f (range_with_len 0 n)) r (g r)) long at
  where
    long : length (map g (range_with_len 0 n)) ≡ length (set (map f (range_with_len 0 n)) r (g r))
    long = length-map-range_with_len g 0 n ∙ sym (length-set (map f (range_with_len 0 n)) r (g r)
        ∙ length-map-range_with_len f 0 n)

    at : (i : ℕ) → i < length (map g (range_with_len 0 n))
        → get_or (map g (range_with_len 0 n)) i 0 ≡ get_or (set (map f (range_with_len 0 n)) r (g r)) i 0
    at i h =
        let below : i < n = omega (arith, length-map-range_with_len g 0 n) in
        get_or-map-range_with_len g 0 n i i 0 below (omega arith) ∙ elim (ℕ_discrete i r) [
          | yes e ↦ ap g e ∙ sym (ap (λ k. get_or (set (map f (range_with_len 0 n)) r (g r)) k 0) e
              ∙ get_or-set_same (map f (range_with_len 0 n)) r (g r) 0 (omega (arith, length-map-range_with_len f 0 n)))
          | no ne ↦ others i ne ∙ sym (get_or-set_other (map f (range_with_len 0 n)) r i (g r) 0 ne
              ∙ get_or-map-range_with_len f 0 n i i 0 below (omega arith))
        ]

-- ---- a window of a list

-- a write inside a window is a write of the window
pub window_written : {X : Type 0} (k n : ℕ) (xs : List X) (i : ℕ) (x : X) → i < n
    → take n (drop k (set xs (k + i) x)) ≡ set (take n (drop k xs)) i x
window_written k n xs i x inside = ap (take n) (drop-set-add k xs i x) ∙ take_set n (drop k xs) i x inside
  where
    take_set : {X : Type 0} (n : ℕ) (xs : List X) (i : ℕ) (x : X) → i < n → take n (set xs i x) ≡ set (take n xs) i x
    take_set zero xs i x h = absurd (omega arith)
    take_set (suc n) [] i x h = refl
    take_set (suc n) (y ∷ xs) zero x h = refl
    take_set (suc n) (y ∷ xs) (suc i) x h = ap (λ l. y ∷ l) (take_set n xs i x (omega arith))

-- a write before a window
pub window_before : {X : Type 0} (k n : ℕ) (xs : List X) (i : ℕ) (x : X) → i < k
    → take n (drop k (set xs i x)) ≡ take n (drop k xs)
window_before k n xs i x before = ap (take n) (drop-set-lt k xs i x before)

-- a write behind a window
pub window_behind : {X : Type 0} (k n : ℕ) (xs : List X) (i : ℕ) (x : X) → n ≤ i
    → take n (drop k (set xs (k + i) x)) ≡ take n (drop k xs)
window_behind k n xs i x behind = ap (take n) (drop-set-add k xs i x) ∙ take-set-le n (drop k xs) i x behind
