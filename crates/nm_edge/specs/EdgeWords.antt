-- The edge in a word has that word, and the place in a number has that number. The models of `Edge`
-- and `EdgePlace` use this, because both are kept as such numbers.
use Rattle.std.specs.Prelude.{◌≡◌, ℕ, zero, suc, ◌*◌, ◌/◌, ◌%◌, ◌<◌, ◌==◌, true, if◌then◌else◌}
use Rattle.std.proofs.Common.{refl, arith}
use Rattle.std.proofs.lemmas.Bool.Decides.{nat_tests}
use Rattle.nm_edge.specs.Edges.{edge_in, is_place, number_of, place_in, turn, word_of}
use Rattle.nm_edge.specs.declared.edge.Side.TheVariants.{Left, Right}

mark : (n k : ℕ) → n < 2 → (if n == 1 then k else 0) ≡ k * n
mark zero k h = omega arith
mark (suc zero) k h = omega arith
mark (suc (suc n)) k h = absurd (omega arith)

-- the word of the edge in a word is that word
pub word_edge : (w : ℕ) → word_of (edge_in w) ≡ w
word_edge w = omega (arith, mark (w / 2 % 2) 2 (omega arith), mark (w % 2) 1 (omega arith))

side : (n : ℕ) → n < 2 → turn (if n == 1 then Right else Left) ≡ n
side zero h = refl
side (suc zero) h = refl
side (suc (suc n)) h = absurd (omega arith)

-- the number of the place in a number is that number
pub place_number : (n : ℕ) → is_place n ≡ true → number_of (place_in n) ≡ n
place_number n is = let less : n % 4 < 2 = grind (arith, nat_tests, is) in
    let is_side = side (n % 2) (omega arith) in omega (arith, less, is_side)
