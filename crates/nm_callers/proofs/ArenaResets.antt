-- Objects that are reset one after the other.
use Rattle.std.proofs.Common.{◌≡◌, ◌∙◌, ◌⊎◌, inl, inr, ℕ, zero, suc, List, [], ◌∷◌, refl, sym, ap, subst, arith}
use Rattle.std.specs.Prelude.{Contains, get_or, set}
use Rattle.std.proofs.lemmas.List.Elements.{Contains-append_cases, Contains-append_right}
use native.Mathlib.Decide.{ℕ_discrete}
use Rattle.nm_steps.specs.declared.view.View.{View}
use Rattle.nm_callers.specs.Arenas.{AreReset, ChangesOnly, ResetsOnlyReturned}
use Rattle.nm_callers.specs.Returning.{HasComeBack}

-- what is read after a reset
reads_reset : (xs : List ℕ) (i : ℕ) → get_or (set xs i 0) i 0 ≡ 0
reads_reset [] i = refl
reads_reset (x ∷ xs) zero = refl
reads_reset (x ∷ xs) (suc i) = reads_reset xs i

reads_other : (xs : List ℕ) (i k : ℕ) → (k ≡ i → ⊥) → get_or (set xs i 0) k 0 ≡ get_or xs k 0
reads_other [] i k other = refl
reads_other (x ∷ xs) zero zero other = absurd (other refl)
reads_other (x ∷ xs) zero (suc k) other = refl
reads_other (x ∷ xs) (suc i) zero other = refl
reads_other (x ∷ xs) (suc i) (suc k) other = reads_other xs i k (λ same. other (ap suc same))

first_among : (n : ℕ) (ns : List ℕ) → Contains (n ∷ ns) n
first_among n ns = (0, omega arith, refl)

only_first : (n i : ℕ) → Contains (n ∷ []) i → i ≡ n
only_first n i (zero, below, at) = sym at
only_first n i (suc k, below, at) = absurd (omega (arith, below))

-- the first of these numbers, and then the rest
pub changes_more : (n : ℕ) (ns old new : List ℕ) → ChangesOnly ns (set old n 0) new → ChangesOnly (n ∷ ns) old new
changes_more n ns old new rest i = elim (rest i) [
  | inl same ↦ elim (ℕ_discrete i n) [
    | yes is ↦ inr (subst (λ (k : ℕ). Contains (n ∷ ns) k) (sym is) (first_among n ns))
    | no other ↦ inl (same ∙ reads_other old n i other)
  ]
  | inr there ↦ inr (Contains-append_right (n ∷ []) ns i there)
]

pub resets_more : (n : ℕ) (ns old new : List ℕ) → ChangesOnly ns (set old n 0) new → AreReset ns new
    → AreReset (n ∷ ns) new
resets_more n ns old new rest reset i there = elim (Contains-append_cases (n ∷ []) ns i there) [
  | inl here ↦ elim (rest i) [
    | inl same ↦ same ∙ (ap (λ (k : ℕ). get_or (set old n 0) k 0) (only_first n i here) ∙ reads_reset old n)
    | inr later ↦ reset i later
  ]
  | inr later ↦ reset i later
]

pub changes_nothing : (xs : List ℕ) → ChangesOnly [] xs xs
changes_nothing xs i = inl refl

pub resets_nothing : (xs : List ℕ) → AreReset [] xs
resets_nothing xs i (k, below, at) = absurd (omega (arith, below))

-- where each of these numbers has come back
pub resets_returned : (v : View) (ns old new : List ℕ) → ((i : ℕ) → Contains ns i → HasComeBack v i)
    → ChangesOnly ns old new → ResetsOnlyReturned v old new
resets_returned v ns old new back only i = elim (only i) [
  | inl same ↦ inl same
  | inr there ↦ inr (back i there)
]
