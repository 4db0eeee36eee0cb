-- The number that a list of bits is: one bit of it told, cleared and set.
use Rattle.std.proofs.Common.{◌≡◌, ℕ, zero, suc, ◌+◌, ◌-◌, ◌*◌, ◌^◌, ◌<◌, ◌≤◌, Bool, true, false, cond, List, [], ◌∷◌, length, get_or, set, refl, sym, ap, ◌∙◌, lit<, arith, pow-suc}
use Rattle.std.specs.Prelude.{bit_and, bit_or}
use Rattle.std.specs.Int.Bits.{or_zero_r, and_zero_r}
use Rattle.std.proofs.lemmas.Nat.{and_block, or_block, and_comm, and_mask, pow_pos, pow_below}
use Rattle.nm_steps.specs.Packing.{number_of}

abbrev bit : Bool → ℕ
bit b = cond b 1 0

bit_small : (b : Bool) → bit b < 2
bit_small true = lit< tt
bit_small false = lit< tt

-- as many bits, as large a number
pub number_below : (bs : List Bool) (n : ℕ) → length bs ≤ n → number_of bs < 2 ^ n
number_below [] n h = pow_pos n
number_below (b ∷ bs) zero h = absurd (omega arith)
number_below (b ∷ bs) (suc n) h = omega (arith, number_below bs n (omega arith), pow-suc 2 n, bit_small b)

both : (x y : ℕ) (b c : Bool) → bit_and (x * 2 + bit b) (y * 2 + bit c) ≡ bit_and x y * 2 + bit_and (bit b) (bit c)
both x y b c = and_block 1 x y (bit b) (bit c) (bit_small b) (bit_small c)

either : (x y : ℕ) (b c : Bool) → bit_or (x * 2 + bit b) (y * 2 + bit c) ≡ bit_or x y * 2 + bit_or (bit b) (bit c)
either x y b c = or_block 1 x y (bit b) (bit c) (bit_small b) (bit_small c)

and_one : (b : Bool) → bit_and (bit b) 1 ≡ bit b
and_one true = refl
and_one false = refl

and_none : (b : Bool) → bit_and (bit b) 0 ≡ 0
and_none true = refl
and_none false = refl

or_none : (b : Bool) → bit_or (bit b) 0 ≡ bit b
or_none true = refl
or_none false = refl

or_one : (b : Bool) → bit_or (bit b) 1 ≡ 1
or_one true = refl
or_one false = refl

-- one bit that is not there is 0
pub told : (bs : List Bool) (i : ℕ) → bit_and (number_of bs) (2 ^ i) ≡ cond (get_or bs i false) (2 ^ i) 0
told [] i = and_comm 0 (2 ^ i) ∙ and_zero_r (2 ^ i)
told (b ∷ bs) zero = both (number_of bs) 0 b true ∙ (λ i. and_zero_r (number_of bs) i * 2 + and_one b i) ∙ one b
  where
    one : (b : Bool) → 0 * 2 + bit b ≡ cond b 1 0
    one true = refl
    one false = refl
told (b ∷ bs) (suc k) =
    let twice : 2 ^ k * 2 + 0 ≡ 2 ^ suc k = omega (arith, pow-suc 2 k) in
    ap (bit_and (number_of bs * 2 + bit b)) (sym twice) ∙ both (number_of bs) (2 ^ k) b false
    ∙ (λ i. told bs k i * 2 + and_none b i) ∙ scaled (get_or bs k false) (2 ^ k) (2 ^ suc k) twice
  where
    scaled : (c : Bool) (y z : ℕ) → y * 2 + 0 ≡ z → cond c y 0 * 2 + 0 ≡ cond c z 0
    scaled true y z e = e
    scaled false y z e = refl

-- a bit is set
pub given : (bs : List Bool) (i : ℕ) → i < length bs → number_of (set bs i true) ≡ bit_or (number_of bs) (2 ^ i)
given [] i h = absurd (omega arith)
given (b ∷ bs) zero h = sym (either (number_of bs) 0 b true ∙ (λ i. or_zero_r (number_of bs) i * 2 + or_one b i))
given (b ∷ bs) (suc k) h =
    let below = sym (given bs k (omega arith)) in
    let twice : 2 ^ k * 2 + 0 ≡ 2 ^ suc k = omega (arith, pow-suc 2 k) in
    sym (ap (bit_or (number_of bs * 2 + bit b)) (sym twice) ∙ either (number_of bs) (2 ^ k) b false
    ∙ (λ i. below i * 2 + or_none b i))

all_kept : (bs : List Bool) (n : ℕ) → length bs ≤ n → bit_and (number_of bs) (2 ^ n - 1) ≡ number_of bs
all_kept bs n h = and_mask (number_of bs) n ∙ grind (arith, number_below)

-- a bit is cleared, by a mask of n bits that are all set but this one
pub cleared : (bs : List Bool) (n i : ℕ) → length bs ≤ n → i < length bs
    → number_of (set bs i false) ≡ bit_and (number_of bs) (2 ^ n - 1 - 2 ^ i)
cleared [] n i long h = absurd (omega arith)
cleared (b ∷ bs) zero i long h = absurd (omega arith)
cleared (b ∷ bs) (suc n) zero long h =
    let mask : (2 ^ n - 1) * 2 + 0 ≡ 2 ^ suc n - 1 - 1 = omega (arith, pow-suc 2 n, pow_pos n) in
    sym (ap (bit_and (number_of bs * 2 + bit b)) (sym mask) ∙ both (number_of bs) (2 ^ n - 1) b false
    ∙ (λ i. all_kept bs n (omega arith) i * 2 + and_none b i))
cleared (b ∷ bs) (suc n) (suc k) long h =
    let below = sym (cleared bs n k (omega arith) (omega arith)) in
    let room : 2 ^ k < 2 ^ n = pow_below k n (omega arith) in
    let mask : (2 ^ n - 1 - 2 ^ k) * 2 + 1 ≡ 2 ^ suc n - 1
    - 2 ^ suc k = omega (arith, pow-suc 2 n, pow-suc 2 k, room) in
    sym (ap (bit_and (number_of bs * 2 + bit b)) (sym mask) ∙ both (number_of bs) (2 ^ n - 1 - 2 ^ k) b true
    ∙ (λ i. below i * 2 + and_one b i))
