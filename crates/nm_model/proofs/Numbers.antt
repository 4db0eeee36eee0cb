-- Tests of numbers that may be there, and lists that are alike all over.
use Rattle.std.proofs.Common.{◌≡◌, ℕ, ◌<◌, get_or, set, length, replicate, ◌⊎◌, inl, inr, Bool, true, false, [], ◌∷◌, ◌==◌, ◌||◌, List, sym, ap, ◌∙◌, arith, get_or-set_same, get_or-set_other, true≢false}
use Rattle.std.specs.Prelude.{Option, Some, None}
use Rattle.std.specs.List.{list_all}
use native.Mathlib.Decide.{ℕ_discrete}
use Rattle.std.proofs.lemmas.Bool.{cases_Bool, cases_lt, eqb-true}
use Rattle.std.proofs.lemmas.List.{get_or-replicate, get_or_past, length-replicate}
use Rattle.std.proofs.lemmas.List.Folds.{list_all_at}
use Rattle.nm_model.specs.Maps.{is_number}

pub number_is : (o : Option ℕ) (n : ℕ) → is_number o n ≡ true → o ≡ Some n
number_is None n h = absurd (true≢false (sym h))
number_is (Some m) n h = ap Some (eqb-true m n h)

-- a list of one thing many times has it everywhere
pub repeated : {X : Type 0} (n i : ℕ) (x : X) → get_or (replicate n x) i x ≡ x
repeated n i x = elim (cases_lt i n) [
  | inl below ↦ get_or-replicate n i x x below
  | inr past ↦ get_or_past
      (replicate n x) i x (let e = length-replicate n x in omega arith)
]

-- what passes everywhere passes at each place
pub passes_at : {X : Type 0} (p : X → Bool) (xs : List X) (i : ℕ) (d : X) → i < length xs → list_all p xs ≡ true
    → p (get_or xs i d) ≡ true
passes_at p xs i d below all = elim (cases_Bool (p (get_or xs i d))) [
  | inl yes' ↦ yes'
  | inr no' ↦ absurd (true≢false (sym all ∙ list_all_at p xs i d below no'))
]

-- a mark that stands after one was set: that one, or it stood before
pub mark_or : (marks : List Bool) (v : ℕ) (b : Bool) (u : ℕ) → v < length marks
    → get_or (set marks v b) u false ≡ true → ((u ≡ v) × (b ≡ true)) ⊎ (get_or marks u false ≡ true)
mark_or marks v b u below h = elim (ℕ_discrete u v) [
  | yes e ↦ inl (
    e,
    sym (get_or-set_same marks v b false below)
        ∙ (ap (λ (x : ℕ). get_or (set marks v b) x false) (sym e) ∙ h),
  )
  | no ne ↦ inr (sym (get_or-set_other marks v u b false ne) ∙ h)
]

-- a number is among these
abbrev pub among : List ℕ → ℕ → Bool
among [] q = false
among (x ∷ xs) q = (q == x) || among xs q
