-- The test of a range by words, and the router between two keys.
use Rattle.std.proofs.Common.{◌≡◌, ◌≢◌, ℕ, zero, suc, ◌+◌, ◌-◌, ◌*◌, ◌/◌, ◌%◌, ◌^◌, ◌<◌, ◌≤◌, ◌==◌, ◌⊎◌, inl, inr, Bool, true, false, cond, refl, sym, ap, subst, ◌∙◌, arith, pow-suc}
use Rattle.std.specs.Prelude.{nat_lt}
use Rattle.std.specs.Int.Count.{count_leading_zeros}
use Rattle.std.specs.Int.Bits.{bit_and, bit_xor, and_step, xor_self, xor_add_and}
use Rattle.std.proofs.Math.Nat.{div-div-eq-div-mul, div-mul-le_self, div-lt_iff_lt-mul, div-eq_of_lt, mod-eq_of_lt}
use Rattle.std.proofs.lemmas.Bool.{eqb-true, eqb-false, lt-ltb, le-ltb, ltb-true, ltb-false}
use Rattle.std.proofs.lemmas.Nat.{xor_shr, xor_lt, and_le_l, and_le_r, pow_pos, le-div, leading_top}
use Rattle.nm_edge.specs.Ranges.{covers_in, covers, IsParting}
use Rattle.nm_edge.proofs.RangeBits.{covers_is_the_range}

-- ---- the lowest bit of a word

apart : (w q : ℕ) → q < 2 ^ w → bit_and q (2 ^ w - 1 - q) ≡ 0
apart zero q small = let le = and_le_l q (1 - 1 - q) in omega (arith, le, small)
apart (suc w) q small =
    let power = pow-suc 2 w in
    let half : (2 ^ suc w - 1 - q) / 2 ≡ 2 ^ w - 1 - q / 2 = omega (arith, power, small) in
    let rec = ap (bit_and (q / 2)) half ∙ apart w (q / 2) (omega (arith, power, small)) in
    let step = and_step q (2 ^ suc w - 1 - q) in
    omega (arith, step, rec, power, small)

-- n is R with its sign changed, in words of so many bits
abbrev IsNegated : ℕ → ℕ → ℕ → Type 0
IsNegated w R n = ((R ≡ 0) × (n ≡ 0)) ⊎ (n + R ≡ 2 ^ w)

odd_lowest : (w R n : ℕ) → R < 2 ^ suc w → R % 2 ≡ 1 → IsNegated (suc w) R n → bit_and R n ≡ 1
odd_lowest w R n small odd (inl z) = let none = z.0 in absurd (omega (arith, odd, none))
odd_lowest w R n small odd (inr sum) =
    let power = pow-suc 2 w in
    let half : n / 2 ≡ 2 ^ w - 1 - R / 2 = omega (arith, power, small, odd, sum) in
    let rec = ap (bit_and (R / 2)) half ∙ apart w (R / 2) (omega (arith, power, small)) in
    let step = and_step R n in
    let last : n % 2 ≡ 1 = omega (arith, power, odd, sum) in
    omega (arith, step, rec, odd, last)

even_lowest : (R n : ℕ) → R % 2 ≢ 1 → bit_and R n ≡ bit_and (R / 2) (n / 2) * 2
even_lowest R n even = let step = and_step R n in omega (arith, step, even)

halves : (w R n : ℕ) → R % 2 ≢ 1 → IsNegated (suc w) R n → IsNegated w (R / 2) (n / 2)
halves w R n even (inl z) = let no = z.0 in let none = z.1 in inl (omega (arith, no), omega (arith, none))
halves w R n even (inr sum) = let power = pow-suc 2 w in inr (omega (arith, power, sum, even))

-- ---- the test

xor_none : (a b : ℕ) → bit_xor a b ≡ 0 → a ≡ b
xor_none a b z =
    let sum = xor_add_and a b in
    let left = and_le_l a b in
    let right = and_le_r a b in
    omega (arith, sum, left, right, z)

same_is : (a b : ℕ) → nat_lt (bit_xor a b) 1 ≡ (a == b)
same_is a b = go (a == b) refl
  where
    go : (t : Bool) → (a == b) ≡ t → nat_lt (bit_xor a b) 1 ≡ t
    go true same = let z = ap (λ (x : ℕ). bit_xor x b) (eqb-true a b same) ∙ xor_self b in
        lt-ltb (bit_xor a b) 1 (omega (arith, z))
    go false other = let ne = eqb-false a b other in
        le-ltb (bit_xor a b) 1 (let some : bit_xor a b ≢ 0 = λ z. ne (xor_none a b z) in omega (arith, some))

halved : (x n : ℕ) → nat_lt x (n * 2) ≡ nat_lt (x / 2) n
halved x n = go (nat_lt (x / 2) n) refl
  where
    go : (t : Bool) → nat_lt (x / 2) n ≡ t → nat_lt x (n * 2) ≡ t
    go true less = let is = ltb-true (x / 2) n less in lt-ltb x (n * 2) (omega (arith, is))
    go false more = let is = ltb-false (x / 2) n more in le-ltb x (n * 2) (omega (arith, is))

half_xor : (k R : ℕ) → bit_xor k R / 2 ≡ bit_xor (k / 2) (R / 2)
half_xor k R = xor_shr k R 1

in_words : (w R n k : ℕ) → R < 2 ^ w → IsNegated w R n → nat_lt (bit_xor k R / 2) (bit_and R n) ≡ covers_in w R k
in_words zero R n k small neg = let le = and_le_l R n in
    le-ltb (bit_xor k R / 2) (bit_and R n) (omega (arith, le, small))
in_words (suc w) R n k small neg = go (in_words w (R / 2) (n / 2) (k / 2)) (R % 2 == 1) refl
  where
    power : 2 ^ suc w ≡ 2 ^ w * 2
    power = pow-suc 2 w

    go : (R / 2 < 2 ^ w → IsNegated w (R / 2) (n / 2)
        → nat_lt (bit_xor (k / 2) (R / 2) / 2) (bit_and (R / 2) (n / 2)) ≡ covers_in w (R / 2) (k / 2)) → (t : Bool)
        → (R % 2 == 1) ≡ t → nat_lt (bit_xor k R / 2) (bit_and R n)
        ≡ cond t (k / 2 == R / 2) (covers_in w (R / 2) (k / 2))
    go rec true odd = ap (λ (x : ℕ). nat_lt x (bit_and R n)) (half_xor k R)
        ∙ (ap (nat_lt (bit_xor (k / 2) (R / 2))) (odd_lowest w R n small (eqb-true (R % 2) 1 odd) neg)
        ∙ same_is (k / 2) (R / 2))
    go rec false even =
        let ne = eqb-false (R % 2) 1 even in
        ap (λ (x : ℕ). nat_lt x (bit_and R n)) (half_xor k R)
        ∙ (ap (nat_lt (bit_xor (k / 2) (R / 2))) (even_lowest R n ne)
        ∙ (halved (bit_xor (k / 2) (R / 2)) (bit_and (R / 2) (n / 2))
        ∙ rec (let p = power in omega (arith, p, small)) (halves w R n ne neg)))

pub covers_by_words : (R n k : ℕ) → R < 2 ^ 64 → n < 2 ^ 64 → (n + R) % 2 ^ 64 ≡ 0
    → nat_lt (bit_xor k R / 2) (bit_and R n) ≡ covers R k
covers_by_words R n k small less neg = in_words 64 R n k small (go (R == 0) refl)
  where
    go : (t : Bool) → (R == 0) ≡ t → IsNegated 64 R n
    go true none = let z = eqb-true R 0 none in inl (z, omega (arith, z, less, neg))
    go false some = let ne = eqb-false R 0 some in inr (omega (arith, ne, small, less, neg))

-- ---- the router between two keys

-- the greater one of them, down to the highest bit in which they differ
parted : (j less more : ℕ) → more < 2 ^ 64 → less < more → less / 2 ^ (j + 1) ≡ more / 2 ^ (j + 1)
    → less / 2 ^ j ≢ more / 2 ^ j → (covers (more / 2 ^ j * 2 ^ j) less ≡ true)
    × (covers (more / 2 ^ j * 2 ^ j) more ≡ true) × (less < more / 2 ^ j * 2 ^ j) × (more / 2 ^ j * 2 ^ j ≤ more)
parted j less more small order same differ =
    let R = more / 2 ^ j * 2 ^ j in
    let half = more / 2 ^ (j + 1) in
    let twice : (n : ℕ) → n / 2 ^ (j + 1) ≡ n / 2 ^ j / 2 = λ n. twice_of n in
    let up = twice more in
    let low = twice less in
    let ascend : less / 2 ^ j ≤ more / 2 ^ j = le-div (less / 2 ^ j) more (2 ^ j) (pow_pos j)
    (let low = div-mul-le_self less (2 ^ j) in omega (arith, low, order)) in
    let odd : more / 2 ^ j ≡ 2 * half + 1 = omega (arith, up, low, same, differ, ascend) in
    let under : R ≤ more = div-mul-le_self more (2 ^ j) in
    let fits : R < 2 ^ 64 = omega (arith, under, small) in
    let is : R ≡ (2 * half + 1) * 2 ^ j = ap (λ (n : ℕ). n * 2 ^ j) odd in (
      (covers_is_the_range R less fits).1 (record { bit = j; half = half; router = is; within = same }),
      (covers_is_the_range R more fits).1 (record { bit = j; half = half; router = is; within = refl }),
      (div-lt_iff_lt-mul (pow_pos j)).0 (omega (arith, ascend, differ)),
      under,
    )
  where
    twice_of : (n : ℕ) → n / 2 ^ (j + 1) ≡ n / 2 ^ j / 2
    twice_of n = ap (λ (m : ℕ). n / m) (power_is (pow-suc 2 j)) ∙ sym (div-div-eq-div-mul n (2 ^ j) 2)
      where
        next : j + 1 ≡ suc j
        next = omega arith

        power_is : 2 ^ suc j ≡ 2 ^ j * 2 → 2 ^ (j + 1) ≡ 2 ^ j * 2
        power_is p = ap (λ (m : ℕ). 2 ^ m) next ∙ p

module _ (k r : ℕ) (fits_k : k < 2 ^ 64) (fits_r : r < 2 ^ 64) (differ : k ≢ r) where
  some : 0 < bit_xor k r
  some = let ne : bit_xor k r ≢ 0 = λ z. differ (xor_none k r z) in omega (arith, ne)

  top : (j : ℕ) × (count_leading_zeros 64 (bit_xor k r) + suc j ≡ 64) × (2 ^ j ≤ bit_xor k r)
      × (bit_xor k r < 2 ^ suc j)
  top = leading_top 64 (bit_xor k r) some (xor_lt 64 k r fits_k fits_r)

  pub zeros_below : count_leading_zeros 64 (bit_xor k r) ≤ 63
  zeros_below = let all = top.1 in omega (arith, all)

  place : 63 - count_leading_zeros 64 (bit_xor k r) ≡ top.0
  place = let all = top.1 in omega (arith, all)

  same : k / 2 ^ (top.0 + 1) ≡ r / 2 ^ (top.0 + 1)
  same = xor_none (k / 2 ^ (top.0 + 1)) (r / 2 ^ (top.0 + 1))
      (sym (xor_shr k r (top.0 + 1)) ∙ div-eq_of_lt (subst (λ (n : ℕ). bit_xor k r < 2 ^ n) next top.3))
    where
      next : suc top.0 ≡ top.0 + 1
      next = omega arith

  parts : k / 2 ^ top.0 ≢ r / 2 ^ top.0
  parts e =
      let one : 1 ≤ bit_xor k r / 2 ^ top.0 = le-div 1 (bit_xor k r) (2 ^ top.0) (pow_pos top.0)
      (let high = top.2 in omega (arith, high)) in
      let none : bit_xor k r / 2 ^ top.0 ≡ 0 = xor_shr k r top.0
      ∙ (ap (λ (n : ℕ). bit_xor n (r / 2 ^ top.0)) e ∙ xor_self (r / 2 ^ top.0)) in
      omega (arith, one, none)

  -- what is stored, by a power that is the same
  stored : (g b : ℕ) → g < 2 ^ 64 → b ≡ top.0 → g / 2 ^ b * 2 ^ b % 2 ^ 64 ≡ g / 2 ^ top.0 * 2 ^ top.0
  stored g b fits is = ap (λ (n : ℕ). g / 2 ^ n * 2 ^ n % 2 ^ 64) is
      ∙ mod-eq_of_lt (let low = div-mul-le_self g (2 ^ top.0) in omega (arith, low, fits))

  abbrev kept : ℕ → ℕ
  kept g = g / 2 ^ (63 - count_leading_zeros 64 (bit_xor k r))
      * 2 ^ (63 - count_leading_zeros 64 (bit_xor k r)) % 2 ^ 64

  pub when_less : (g : ℕ) → k < r → g ≡ r → IsParting k r
      (g / 2 ^ (63 - count_leading_zeros 64 (bit_xor k r)) * 2 ^ (63 - count_leading_zeros 64 (bit_xor k r)) % 2 ^ 64)
  when_less g order is =
      let p = parted top.0 k r fits_r order same parts in
      subst (IsParting k r) (sym (ap kept is ∙ stored r (63 - count_leading_zeros 64 (bit_xor k r)) fits_r place))
      (record {
        covers_one = p.0;
        covers_other = p.1;
        low = λ _. (p.2, p.3);
        high = λ other. absurd
            (omega (arith, other, order));
      })

  pub when_greater : (g : ℕ) → r ≤ k → g ≡ k → IsParting k r
      (g / 2 ^ (63 - count_leading_zeros 64 (bit_xor k r)) * 2 ^ (63 - count_leading_zeros 64 (bit_xor k r)) % 2 ^ 64)
  when_greater g least is =
      let order : r < k = omega (arith, least, differ) in
      let p = parted top.0 r k fits_k order (sym same) (λ e. parts (sym e)) in
      subst (IsParting k r) (sym (ap kept is ∙ stored k (63 - count_leading_zeros 64 (bit_xor k r)) fits_k place))
      (record {
        covers_one = p.1;
        covers_other = p.0;
        low = λ other. absurd (omega (arith, other, order));
        high =
            λ _. (p.2, p.3);
      })
