-- Pieces of a text, cut off one by one.
use Rattle.std.proofs.Common.{◌≡◌, ℕ, suc, ◌+◌, ◌<◌, ◌≤◌, Bool, List, [], ◌∷◌, length, take, drop, Option, Some, None, refl, inl, inr, arith}
use Rattle.std.specs.Prelude.{position, ◌==◌, nat_lt}
use Rattle.std.specs.List.{slice_split, position_or_len}
use Rattle.std.proofs.lemmas.Bool.{cases_Bool, ltb-true, ltb-false}
use Rattle.std.proofs.lemmas.List.Splits.{slice_split_first}
use Rattle.nm_files.specs.Lines.{pieces}

-- how much is left to cut
abbrev pub left : Option (List ℕ) → ℕ
left None = 0
left (Some text) = suc (length text)

-- where no element passes, the text is the one piece
pub uncut : (p : ℕ → Bool) (xs : List ℕ) → length xs ≤ position_or_len p xs → slice_split p xs ≡ xs ∷ []
uncut p [] h = refl
uncut p (x ∷ xs) h =
    elim (cases_Bool (p x)) [
      | inl y ↦ let none : suc (length xs) ≤ 0 = rw y at h in absurd (omega arith)
      | inr n ↦ let more : suc (length xs) ≤ 1 + position_or_len p xs = rw n at h in
          let rest = uncut p xs (omega arith) in rw (n, rest) refl
    ]

pub position_none : (p : ℕ → Bool) (xs : List ℕ) → position p xs ≡ None → length xs ≤ position_or_len p xs
position_none p xs e =
    elim (cases_Bool (nat_lt (position_or_len p xs) (length xs))) [
      | inl y ↦ let bad = rw y at e in absurd cc
      | inr n ↦ ltb-false _ _ n
    ]

pub position_some : (p : ℕ → Bool) (xs : List ℕ) (at : ℕ) → position p xs ≡ Some at
    → (at ≡ position_or_len p xs) × (position_or_len p xs < length xs)
position_some p xs at e =
    elim (cases_Bool (nat_lt (position_or_len p xs) (length xs))) [
      | inl y ↦ let same = rw y at e in (cc, ltb-true _ _ y)
      | inr n ↦ let bad = rw n at e in absurd cc
    ]

pub cut_none : (c : ℕ) (text : List ℕ) → position (λ b. b == c) text ≡ None → pieces c text ≡ text ∷ []
cut_none c text e = uncut (λ b. b == c) text (position_none (λ b. b == c) text e)

pub cut_some : (c : ℕ) (text : List ℕ) (at : ℕ) → position (λ b. b == c) text ≡ Some at
    → pieces c text ≡ take at text ∷ pieces c (drop (at + 1) text)
cut_some c text at e =
    let found = position_some (λ b. b == c) text at e in
    rw (found.0) (slice_split_first (λ b. b == c) text 0 found.1)
