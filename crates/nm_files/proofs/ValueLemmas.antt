-- What each field gives, and what it was if it gives a value.
use Rattle.std.proofs.Common.{◌≡◌, ℕ, ◌<◌, Bool, true, List, [], ◌∷◌, Some, Result, Ok, Err, refl, sym, subst, inl, inr, ◌⊎◌}
use Rattle.std.specs.Prelude.{◌&&◌, nat_lt, ◌^◌}
use Rattle.std.specs.List.{AllByRecursion, find, list_all}
use Rattle.std.specs.Str.{bytes_eq}
use Rattle.std.specs.Str.Parse.{digits_value}
use Rattle.std.proofs.lemmas.Bool.{cases_Bool, ltb-true, and_parts}
use Rattle.nm_files.specs.declared.read.fault.Reason.{Reason}
use Rattle.nm_files.specs.declared.read.fault.Reason.TheVariants as reason
use Rattle.nm_files.specs.Chain.{◌>>=◌}
use Rattle.nm_files.specs.Lines.{number, is_numeral, place}
use Rattle.nm_files.specs.Values.{by_word, worker_of, both}
use Rattle.nm_files.specs.Kinds.{with_view}

-- what a function gives: this fault alone, or a value
abbrev pub Gives : {X : Type 0} → Reason → Result X Reason → Type 0
Gives {X} r said = (said ≡ Err r) ⊎ ((x : X) × (said ≡ Ok x))

pub number_gives : (f : List ℕ) → Gives reason.Number (number f)
number_gives f =
    elim (cases_Bool (is_numeral f && nat_lt (digits_value 10 f) (2 ^ 64))) [
      | inl y ↦ inr (digits_value 10 f, rw y refl)
      | inr n ↦ inl (rw n refl)
    ]

pub place_gives : (f : List ℕ) → Gives reason.Number (place f)
place_gives f =
    elim (number_gives f) [
      | inl e ↦ inl (rw e refl)
      | inr v ↦ elim (cases_Bool (nat_lt v.0 (2 ^ 32)))
          [ inl y ↦ inr (v.0, rw (v.1, y) refl) | inr n ↦ inl (rw (v.1, n) refl) ]
    ]

pub by_word_gives : {X : Type 0} (words : List (List ℕ × X)) (given : List ℕ)
    → Gives reason.Fields (by_word words given)
by_word_gives [] given = inl refl
by_word_gives (w ∷ words) given =
    elim (cases_Bool (bytes_eq given w.0)) [
      | inl y ↦ inr (w.1, rw y refl)
      | inr n ↦ rw n (by_word_gives words given)
    ]

-- ---- what was given, from what is made of it

pub ok_is : {X E : Type 0} (x y : X) → ◌≡◌ {A = Result X E} (Ok x) (Ok y) → x ≡ y
ok_is x y e = cc

pub then_is : {X Y E : Type 0} (r : Result X E) (f : X → Result Y E) (y : Y) → (r >>= f) ≡ Ok y
    → (x : X) × (r ≡ Ok x) × (f x ≡ Ok y)
then_is (Ok x) f y e = (x, refl, e)
then_is (Err r) f y e = absurd cc

pub seen_is : {X Y : Type 0} (view : X → Y) (r : Result X Reason) (y : Y) → with_view view r ≡ Ok y
    → (x : X) × (r ≡ Ok x) × (y ≡ view x)
seen_is view (Ok x) y e = (x, refl, sym (ok_is (view x) y e))
seen_is view (Err r) y e = absurd cc

pub both_are : {A B : Type 0} (r : Result A Reason) (s : Result B Reason) (p : A × B) → both r s ≡ Ok p
    → (r ≡ Ok p.0) × (s ≡ Ok p.1)
both_are (Ok x) (Ok y) p e = let same = ok_is (x, y) p e in (rw (sym same) refl, rw (sym same) refl)
both_are (Ok x) (Err r) p e = absurd cc
both_are (Err r) (Ok y) p e = absurd cc
both_are (Err r) (Err s) p e = absurd cc

pub worker_below : (workers : ℕ) (f : List ℕ) (w : ℕ) → worker_of workers f ≡ Ok w → w < workers
worker_below workers f w e =
    let p = then_is (place f) _ w e in
    elim (cases_Bool (nat_lt p.0 workers)) [
      | inl y ↦ let same = ok_is p.0 w (rw y at p.2) in subst (λ n. n < workers) same (ltb-true p.0 workers y)
      | inr n ↦ let bad = rw n at p.2 in absurd cc
    ]

-- what is found passes, and is one of those that were asked
pub found_is : {X : Type 0} (P : X → Type 0) (test : X → Bool) (xs : List X) (x : X) → find test xs ≡ Some x
    → AllByRecursion P xs → P x × (test x ≡ true)
found_is P test [] x e all = absurd cc
found_is P test (y ∷ xs) x e all =
    elim (cases_Bool (test y)) [
      | inl is ↦ let first = rw is at e in let same : y ≡ x = cc in subst (λ z. P z × (test z ≡ true)) same (all.0, is)
      | inr n ↦ let rest = rw n at e in found_is P test xs x rest all.1
    ]

pub each_is : {X : Type 0} (test : X → Bool) (xs : List X) → list_all test xs ≡ true
    → AllByRecursion (λ x. test x ≡ true) xs
each_is test [] e = tt
each_is test (x ∷ xs) e = let both = and_parts (test x) (list_all test xs) e in (both.0, each_is test xs both.1)
