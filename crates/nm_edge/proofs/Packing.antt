-- An edge and its word: each gives the other.
use Rattle.std.proofs.Common.{◌≡◌, ℕ, ◌/◌, ◌%◌, ◌^◌, ◌<◌, ◌==◌, Bool, true, false, if◌then◌else◌, Some, None, IfSome, arith}
use Rattle.std.proofs.lemmas.Bool.Decides.{nat_tests}
use Rattle.nm_edge.specs.EdgeWords.{word_edge}
use Rattle.nm_edge.specs.Edges.{Edge, IsEdge, UnpackingGivesTheEdge, PackingGivesTheWord, edge_in, is_word, word_of}

record Parts (s : ℕ) (f t : Bool) (w : ℕ) : Type 0 where
  pub slot : w / 4 ≡ s
  pub flag : (w % 2 == 1) ≡ f
  pub tag : (w / 2 % 2 == 1) ≡ t

parts : (s : ℕ) (f t : Bool) → Parts s f t (word_of (record { slot = s; flag = f; tag = t }))
parts s true true = record { slot = omega arith; flag = grind (arith, nat_tests); tag = grind (arith, nat_tests) }
parts s true false = record { slot = omega arith; flag = grind (arith, nat_tests); tag = grind (arith, nat_tests) }
parts s false true = record { slot = omega arith; flag = grind (arith, nat_tests); tag = grind (arith, nat_tests) }
parts s false false = record { slot = omega arith; flag = grind (arith, nat_tests); tag = grind (arith, nat_tests) }

word_is_word : (s : ℕ) (f t : Bool) → s < 2 ^ 32 → (s ≡ 0 → f ≡ false) → (s ≡ 0 → t ≡ false)
    → is_word (word_of (record { slot = s; flag = f; tag = t })) ≡ true
word_is_word s true true h no_flag no_tag = grind (arith, nat_tests)
word_is_word s true false h no_flag no_tag = grind (arith, nat_tests)
word_is_word s false true h no_flag no_tag = grind (arith, nat_tests)
word_is_word s false false h no_flag no_tag = grind (arith, nat_tests)

-- the word of an edge with a slot below 2^32 is an edge's, and that edge is found in it
pub packed_is_word : (e : Edge) → IsEdge e → e.slot < 2 ^ 32 → is_word (word_of e) ≡ true
packed_is_word e fits h = word_is_word e.slot e.flag e.tag h fits.flag fits.tag

pub packed_word : (e : Edge) → edge_in (word_of e) ≡ e
packed_word e = let p = parts e.slot e.flag e.tag in λ i. record { slot = p.slot i; flag = p.flag i; tag = p.tag i }

pub unpacked_word : UnpackingGivesTheEdge
unpacked_word e fits h = λ i. if packed_is_word e fits h i then Some (packed_word e i) else None

if_some : {A : Type 0} (b : Bool) (x : A) (P : A → Type 0) → P x → IfSome (if b then Some x else None) P
if_some true x P h = h
if_some false x P h = tt

pub packed_edge : PackingGivesTheWord
packed_edge w = if_some (is_word w) (edge_in w) (λ e. word_of e ≡ w) (word_edge w)
