-- The numbers at which a function is not 0, as a list; and how many they are, where it is 1 at
-- most.
use Rattle.std.proofs.Common.{◌≡◌, ℕ, zero, suc, ◌+◌, ◌==◌, ◌<◌, ◌≤◌, ◌≢◌, Bool, true, false, cond, List, [], ◌∷◌, length, refl, sym, ap, ◌∙◌, arith}
use Rattle.std.specs.Prelude.{Some, slice_get, AllPairs}
use native.Mathlib.Decide.{ℕ_discrete}
use Rattle.std.proofs.lemmas.Bool.{eqb-true, eqb-false}
use Rattle.std.proofs.lemmas.List.Kept.{AllPairs-cons}
use Rattle.std.proofs.lemmas.Option.{none-some, same_Some, slice_get-get_or, slice_get_within, get_or_from_slice_get}
use Rattle.nm_model.proofs.Counting.{total}
use Rattle.nm_laws.specs.Cardinality.{HasCardinality}

-- those of the n numbers from a on at which f is not 0
members : ℕ → ℕ → (ℕ → ℕ) → List ℕ
members zero a f = []
members (suc n) a f = cond (f a == 0) (members n (suc a) f) (a ∷ members n (suc a) f)

is_one : (n a x : ℕ) (f : ℕ → ℕ) (i : ℕ) → slice_get (members n a f) i ≡ Some x → (a ≤ x) × (x < a + n) × (f x ≢ 0)
unfolding members
is_one zero a x f i at = absurd (none-some x at)
is_one (suc n) a x f i at = go (f a == 0) refl i at (is_one n (suc a) x f)
  where
    go : (b : Bool) → (f a == 0) ≡ b → (i : ℕ) → slice_get (cond b (members n (suc a) f) (a ∷ members n (suc a) f)) i
        ≡ Some x
        → ((i : ℕ) → slice_get (members n (suc a) f) i ≡ Some x → (suc a ≤ x) × (x < suc a + n) × (f x ≢ 0))
        → (a ≤ x) × (x < a + suc n) × (f x ≢ 0)
    go true is i at later = let r = later i at in (omega arith, omega arith, r.2)
    go false is zero at later = let e : a ≡ x = same_Some a x at in
        (omega arith, omega arith, λ z. eqb-false (f a) 0 is (ap f e ∙ z))
    go false is (suc i) at later = let r = later i at in (omega arith, omega arith, r.2)

has_one : (n a x : ℕ) (f : ℕ → ℕ) → a ≤ x → x < a + n → f x ≢ 0 → (i : ℕ) × (slice_get (members n a f) i ≡ Some x)
unfolding members
has_one zero a x f low high some = absurd (omega arith)
has_one (suc n) a x f low high some = go (f a == 0) refl (λ ne. has_one n (suc a) x f (omega arith) (omega arith) some)
  where
    go : (b : Bool) → (f a == 0) ≡ b → (a ≢ x → (i : ℕ) × (slice_get (members n (suc a) f) i ≡ Some x))
        → (i : ℕ) × (slice_get (cond b (members n (suc a) f) (a ∷ members n (suc a) f)) i ≡ Some x)
    go true is later = later (λ e. some (sym (ap f e) ∙ eqb-true (f a) 0 is))
    go false is later = elim (ℕ_discrete a x) [
      | yes e ↦ (0, ap (λ (y : ℕ). Some y) e)
      | no ne ↦ let r = later ne in
          (suc r.0, r.1)
    ]

apart : (n a : ℕ) (f : ℕ → ℕ) → AllPairs (λ x y. x ≢ y) (members n a f)
unfolding members
apart zero a f = λ i j d less inside. absurd (omega arith)
apart (suc n) a f = go (f a == 0) (apart n (suc a) f)
  where
    go : (b : Bool) → AllPairs (λ x y. x ≢ y) (members n (suc a) f)
        → AllPairs (λ x y. x ≢ y) (cond b (members n (suc a) f) (a ∷ members n (suc a) f))
    go true rest = rest
    go false rest = AllPairs-cons (λ x y. x ≢ y) a (members n (suc a) f)
        (λ k d below e. let r = is_one n (suc a) _ f k (slice_get-get_or (members n (suc a) f) k d below) in
        absurd (omega arith)) rest

long : (n a : ℕ) (f g : ℕ → ℕ) → ((x : ℕ) → x < n → g x ≡ f (a + x)) → ((x : ℕ) → x < n → g x ≤ 1)
    → length (members n a f) ≡ total n g
unfolding members
long zero a f g same small = refl
long (suc n) a f g same small = go (f a == 0) refl
    (long n (suc a) f (λ x. g (suc x)) (λ x below. same (suc x) (omega arith) ∙ ap f (omega arith))
    (λ x below. small (suc x) (omega arith)))
  where
    here : g 0 ≡ f a
    here = same 0 (omega arith) ∙ ap f (omega arith)

    go : (b : Bool) → (f a == 0) ≡ b → length (members n (suc a) f) ≡ total n (λ x. g (suc x))
        → length (cond b (members n (suc a) f) (a ∷ members n (suc a) f)) ≡ g 0 + total n (λ x. g (suc x))
    go true is rest = let none = eqb-true (f a) 0 is in let h = here in omega arith
    go false is rest = let some = eqb-false (f a) 0 is in let h = here in let one = small 0 (omega arith) in omega arith

-- what holds just of those of the n numbers from a on at which f is not 0, holds of as many as f
-- sums to
pub cardinality : (n a : ℕ) (f : ℕ → ℕ) (P : ℕ → Type 0) → ((x : ℕ) → a ≤ x → x < a + n → f x ≤ 1)
    → ((x : ℕ) → a ≤ x → x < a + n → f x ≢ 0 → P x) → ((x : ℕ) → P x → (a ≤ x) × (x < a + n) × (f x ≢ 0))
    → HasCardinality P (total n (λ x. f (a + x)))
cardinality n a f P small holds counted = record {
  members = members n a f;
  distinct = apart n a f;
  exactly = λ x. (
    (λ c. let r = is_one n a x f c.0 (slice_get-get_or (members n a f) c.0 x c.1 ∙ ap (λ (y : ℕ). Some y) c.2) in
        holds x r.0 r.1 r.2),
    (λ p. let r = counted x p in let i = has_one n a x f r.0 r.1 r.2 in
        (i.0, slice_get_within (members n a f) i.0 x i.1, get_or_from_slice_get (members n a f) i.0 x x i.1)),
  );
  size = long n a f (λ x. f (a + x)) (λ x below. refl) (λ x below. small (a + x) (omega arith) (omega arith));
}
