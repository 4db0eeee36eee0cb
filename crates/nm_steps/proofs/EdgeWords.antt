-- What the word of an edge tells: the edge, and whether it is the unmarked one to a slot; and the
-- word with its tag.
use Rattle.std.proofs.Common.{◌≡◌, ◌≢◌, ℕ, ◌+◌, ◌*◌, ◌/◌, ◌%◌, ◌<◌, ◌==◌, Bool, true, false, cond, not, ◌&&◌, ap, ◌∙◌, lit<, arith}
use Rattle.std.specs.Prelude.{bit_or}
use Rattle.std.specs.Int.Bits.{or_zero_r}
use Rattle.std.proofs.lemmas.Nat.{or_block}
use Rattle.std.proofs.lemmas.Bool.{ne_eqb}
use Rattle.std.proofs.lemmas.Bool.Decides.{nat_tests}
use Rattle.nm_edge.specs.Edges.{Edge, word_of, edge_in, to, is_to, tagged}

pub word_to : (s : ℕ) → word_of (to s) ≡ 4 * s
word_to s = omega arith

pub word_flagged : (s : ℕ) → word_of (record { slot = s; flag = true; tag = false }) ≡ 4 * s + 1
word_flagged s = omega arith

is_word_to : (x s : ℕ) (f t : Bool) → (4 * x + cond t 2 0 + cond f 1 0 == 4 * s) ≡ ((x == s) && (not f && not t))
is_word_to x s true true = grind (arith, nat_tests)
is_word_to x s true false = grind (arith, nat_tests)
is_word_to x s false true = grind (arith, nat_tests)
is_word_to x s false false = grind (arith, nat_tests)

-- an edge is the unmarked one to a slot where its word is four times the slot
pub word_is_to : (e : Edge) (s : ℕ) → (word_of e == 4 * s) ≡ is_to e s
word_is_to e s = is_word_to e.slot s e.flag e.tag

-- 2 is joined to a word whose last two bits are r
with_two : (s r n x : ℕ) → r < 4 → n ≡ 4 * s + r → x ≡ 4 * s + bit_or r 2 → x ≡ bit_or n 2
with_two s r n x h is out =
    let e : bit_or (s * 4 + r) 2 ≡ bit_or s 0 * 4 + bit_or r 2 = or_block 2 s 0 r 2 h (lit< tt) in
    omega (arith, ap (λ (k : ℕ). bit_or k 2) (let q : n ≡ s * 4 + r = omega arith in q) ∙ e, or_zero_r s)

or_two : (s : ℕ) (f t : Bool) → 4 * s + 2 + cond f 1 0 ≡ bit_or (4 * s + cond t 2 0 + cond f 1 0) 2
or_two s true true = with_two s 3 _ _ (lit< tt) (omega arith) (omega arith)
or_two s true false = with_two s 1 _ _ (lit< tt) (omega arith) (omega arith)
or_two s false true = with_two s 2 _ _ (lit< tt) (omega arith) (omega arith)
or_two s false false = with_two s 0 _ _ (lit< tt) (omega arith) (omega arith)

-- of an edge that is not null, the tag is one bit of its word
pub word_tagged : (e : Edge) → e.slot ≢ 0 → word_of (tagged e) ≡ bit_or (word_of e) 2
word_tagged e some = ap (λ b. 4 * e.slot + cond (not b) 2 0 + cond e.flag 1 0) (ne_eqb e.slot 0 some)
    ∙ or_two e.slot e.flag e.tag

edge_parts : (s : ℕ) (f t : Bool) → ((4 * s + cond t 2 0 + cond f 1 0) / 4 ≡ s)
    × (((4 * s + cond t 2 0 + cond f 1 0) % 2 == 1) ≡ f) × (((4 * s + cond t 2 0 + cond f 1 0) / 2 % 2 == 1) ≡ t)
edge_parts s true true = (omega arith, grind (arith, nat_tests), grind (arith, nat_tests))
edge_parts s true false = (omega arith, grind (arith, nat_tests), grind (arith, nat_tests))
edge_parts s false true = (omega arith, grind (arith, nat_tests), grind (arith, nat_tests))
edge_parts s false false = (omega arith, grind (arith, nat_tests), grind (arith, nat_tests))

-- an edge is found again in its word
pub word_edge_in : (e : Edge) → edge_in (word_of e) ≡ e
word_edge_in e = let h = edge_parts e.slot e.flag e.tag in λ i. record { slot = h.0 i; flag = h.1 i; tag = h.2 i }
