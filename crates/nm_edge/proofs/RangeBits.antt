-- The range of a router by its halves is that by its lowest bit.
use Rattle.std.proofs.Common.{◌≡◌, ◌≢◌, ℕ, zero, suc, ◌+◌, ◌*◌, ◌/◌, ◌%◌, ◌^◌, ◌<◌, ◌==◌, Bool, true, false, cond, refl, sym, ap, ◌∙◌, arith, true≢false, pow-suc}
use Rattle.std.proofs.Math.Nat.{mul_assoc, div-div-eq-div-mul}
use Rattle.std.proofs.lemmas.Bool.{eqb-true, eqb-false, eq-eqb, ne_eqb}
use Rattle.nm_edge.specs.Ranges.{covers_in, IsInRange, CoversIsTheRange}

-- by one bit more
doubled : (half bit : ℕ) → (2 * half + 1) * 2 ^ suc bit ≡ (2 * half + 1) * 2 ^ bit * 2
doubled half bit = ap (λ (n : ℕ). (2 * half + 1) * n) (pow-suc 2 bit) ∙ sym (mul_assoc (2 * half + 1) (2 ^ bit) 2)

halved : (k bit : ℕ) → k / 2 / 2 ^ (bit + 1) ≡ k / 2 ^ (suc bit + 1)
halved k bit = div-div-eq-div-mul k 2 (2 ^ (bit + 1))
    ∙ ap (λ (n : ℕ). k / n) (power_is (2 ^ (bit + 1)) (pow-suc 2 (bit + 1)))
  where
    one_more : suc (bit + 1) ≡ suc bit + 1
    one_more = omega arith

    power_is : (n : ℕ) → 2 ^ suc (bit + 1) ≡ n * 2 → 2 * n ≡ 2 ^ (suc bit + 1)
    power_is n power = let double : 2 * n ≡ n * 2 = omega arith in double ∙ (sym power ∙ ap (λ (m : ℕ). 2 ^ m) one_more)

some : (bit half : ℕ) → (2 * half + 1) * 2 ^ bit ≢ 0
some zero half z = omega (arith, z)
some (suc bit) half z = let two = doubled half bit in some bit half (omega (arith, two, z))

in_range : (n R k : ℕ) → covers_in n R k ≡ true → IsInRange R k
in_range zero R k h = absurd (true≢false (sym h))
in_range (suc n) R k h = go (R % 2 == 1) refl h (in_range n (R / 2) (k / 2))
  where
    go : (b : Bool) → (R % 2 == 1) ≡ b → cond b (k / 2 == R / 2) (covers_in n (R / 2) (k / 2)) ≡ true
        → (covers_in n (R / 2) (k / 2) ≡ true → IsInRange (R / 2) (k / 2)) → IsInRange R k
    go true odd h rec = let one = eqb-true (R % 2) 1 odd in
        record { bit = 0; half = R / 2; router = omega (arith, one); within = eqb-true (k / 2) (R / 2) h }
    go false even h rec =
        let r = rec h in
        let two = doubled r.half r.bit in
        let is = r.router in
        let ne = eqb-false (R % 2) 1 even in
        record {
          bit = suc r.bit;
          half = r.half;
          router = omega (arith, two, is, ne);
          within = sym (halved k r.bit)
              ∙ r.within;
        }

covered : (n bit half R k : ℕ) → R < 2 ^ n → R ≡ (2 * half + 1) * 2 ^ bit → k / 2 ^ (bit + 1) ≡ half
    → covers_in n R k ≡ true
covered zero bit half R k small is within = let ne = some bit half in absurd (ne (omega (arith, small, is)))
covered (suc n) zero half R k small is within = go (R % 2 == 1) (eq-eqb (R % 2) 1 (omega (arith, is)))
  where
    go : (b : Bool) → b ≡ true → cond b (k / 2 == R / 2) (covers_in n (R / 2) (k / 2)) ≡ true
    go true odd = eq-eqb (k / 2) (R / 2) (omega (arith, is, within))
    go false odd = absurd (true≢false (sym odd))
covered (suc n) (suc bit) half R k small is within =
    go (R % 2 == 1) (ne_eqb (R % 2) 1 (λ odd. let two = doubled half bit in omega (arith, two, is, odd)))
    (covered n bit half (R / 2) (k / 2) (let power = pow-suc 2 n in omega (arith, power, small))
    (let two = doubled half bit in omega (arith, two, is)) (halved k bit ∙ within))
  where
    go : (b : Bool) → b ≡ false → covers_in n (R / 2) (k / 2) ≡ true
        → cond b (k / 2 == R / 2) (covers_in n (R / 2) (k / 2)) ≡ true
    go true even rec = absurd (true≢false even)
    go false even rec = rec

pub covers_is_the_range : CoversIsTheRange
covers_is_the_range R k small = (in_range 64 R k, λ r. covered 64 r.bit r.half R k small r.router r.within)
