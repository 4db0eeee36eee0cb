-- What finite maps have after a change, and that their keys ascend.
use Rattle.std.proofs.Common.{◌≡◌, ℕ, ◌<◌, ◌≤◌, ◌⊎◌, inl, inr, eqb, Bool, true, false, cond, List, [], ◌∷◌, refl, sym, ap, ◌∙◌, arith, true≢false}
use Rattle.std.specs.Prelude.{Option, Some, None, is_some}
use Rattle.std.specs.declared.cmp.Ordering.{Ordering}
use Rattle.std.specs.declared.cmp.Ordering.TheVariants.{Less, Equal, Greater}
use Rattle.std.specs.Ordering.{nat_cmp, is_eq, match_ordering}
use Rattle.std.proofs.lemmas.Bool.{eqb-true, eq-eqb, ne_eqb, cond-true, cond-false}
use Rattle.std.proofs.lemmas.Bool.Decides.{nat_tests}
use Rattle.nm_model.specs.Maps.{get, put, without, has}

-- ---- comparisons

pub at_eqb : (q s : ℕ) → is_eq (nat_cmp q s) ≡ eqb q s
at_eqb q s = grind (arith, nat_tests)

is_less : (s t : ℕ) → nat_cmp s t ≡ Less → s < t
is_less s t h = grind (arith, nat_tests)

is_equal : (s t : ℕ) → nat_cmp s t ≡ Equal → s ≡ t
is_equal s t h = grind (arith, nat_tests)

is_greater : (s t : ℕ) → nat_cmp s t ≡ Greater → t < s
is_greater s t h = grind (arith, nat_tests)

-- ---- keys that ascend

module _ {X : Type 0} where
  -- every key is above a number
  abbrev pub Above : List (ℕ × X) → ℕ → Type 0
  Above [] s = Unit {0}
  Above (e ∷ es) s = (s < e.0) × Above es s

  abbrev pub Ascends : List (ℕ × X) → Type 0
  Ascends [] = Unit {0}
  Ascends (e ∷ es) = Above es e.0 × Ascends es

  above_less : (m : List (ℕ × X)) (s t : ℕ) → s ≤ t → Above m t → Above m s
  above_less [] s t le h = tt
  above_less (e ∷ es) s t le h = (let low = h.0 in omega arith, above_less es s t le h.1)

  -- a head in front of a list, or not there
  get_head : (e : ℕ × X) (es : List (ℕ × X)) (q : ℕ) → get (e ∷ es) q ≡ cond (eqb q e.0) (Some e.1) (get es q)
  get_head e es q = ap (λ (b : Bool). cond b (Some e.1) (get es q)) (at_eqb q e.0)

  pub above_none : (m : List (ℕ × X)) (s q : ℕ) → q ≤ s → Above m s → get m q ≡ None
  above_none [] s q le h = refl
  above_none (e ∷ es) s q le h = get_head e es q ∙ (cond-false (eqb q e.0) (Some e.1) (get es q)
      (ne_eqb q e.0 (λ i. let low = h.0 in omega arith)) ∙ above_none es s q le h.1)

  -- ---- put

  pub get-put : (m : List (ℕ × X)) (s : ℕ) (x : X) (q : ℕ) → get (put m s x) q ≡ cond (eqb q s) (Some x) (get m q)
  get-put [] s x q = get_head (s, x) [] q
  get-put (e ∷ es) s x q = by (nat_cmp s e.0) refl (get-put es s x q)
    where
      by : (r : Ordering) → nat_cmp s e.0 ≡ r → get (put es s x) q ≡ cond (eqb q s) (Some x) (get es q)
          → get (match_ordering r ((s, x) ∷ e ∷ es) ((e.0, x) ∷ es) (e ∷ put es s x)) q
          ≡ cond (eqb q s) (Some x) (get (e ∷ es) q)
      by Less h later = get_head (s, x) (e ∷ es) q
      by Equal h later =
          let same = is_equal s e.0 h in
          get_head (e.0, x) es q ∙ go (eqb q s) refl (ap (λ (y : ℕ). eqb q y) (sym same))
        where
          go : (b : Bool) → eqb q s ≡ b → eqb q e.0 ≡ eqb q s
              → cond (eqb q e.0) (Some x) (get es q) ≡ cond b (Some x) (get (e ∷ es) q)
          go true is i = cond-true (eqb q e.0) (Some x) (get es q) (i ∙ is)
          go false is i = cond-false (eqb q e.0) (Some x) (get es q) (i ∙ is)
              ∙ sym (get_head e es q ∙ cond-false (eqb q e.0) (Some e.1) (get es q) (i ∙ is))
      by Greater h later = get_head e (put es s x) q
          ∙ (ap (cond (eqb q e.0) (Some e.1)) later ∙ go (eqb q e.0) (eqb q s) refl refl)
        where
          go : (a b : Bool) → eqb q e.0 ≡ a → eqb q s ≡ b
              → cond a (Some e.1) (cond b (Some x) (get es q)) ≡ cond b (Some x) (get (e ∷ es) q)
          go true true i j = let high = is_greater s e.0 h in let one = eqb-true q e.0 i in
              let two = eqb-true q s j in absurd (omega arith)
          go true false i j = sym (get_head e es q ∙ cond-true (eqb q e.0) (Some e.1) (get es q) i)
          go false true i j = refl
          go false false i j = sym (get_head e es q ∙ cond-false (eqb q e.0) (Some e.1) (get es q) i)

  above_put : (m : List (ℕ × X)) (s : ℕ) (x : X) (t : ℕ) → t < s → Above m t → Above (put m s x) t
  above_put [] s x t lt h = (lt, tt)
  above_put (e ∷ es) s x t lt h = by (nat_cmp s e.0) (above_put es s x t lt h.1)
    where
      by : (r : Ordering) → Above (put es s x) t → Above
          (match_ordering r ((s, x) ∷ e ∷ es) ((e.0, x) ∷ es) (e ∷ put es s x)) t
      by Less later = (lt, h)
      by Equal later = h
      by Greater later = (h.0, later)

  pub ascends-put : (m : List (ℕ × X)) (s : ℕ) (x : X) → Ascends m → Ascends (put m s x)
  ascends-put [] s x h = (tt, tt)
  ascends-put (e ∷ es) s x h = by (nat_cmp s e.0) refl (ascends-put es s x h.1)
    where
      by : (r : Ordering) → nat_cmp s e.0 ≡ r → Ascends (put es s x)
          → Ascends (match_ordering r ((s, x) ∷ e ∷ es) ((e.0, x) ∷ es) (e ∷ put es s x))
      by Less i later = let lt = is_less s e.0 i in ((lt, above_less es s e.0 (omega arith) h.0), h)
      by Equal i later = h
      by Greater i later = (above_put es s x e.0 (is_greater s e.0 i) h.0, later)

  -- ---- without

  pub get-without : (m : List (ℕ × X)) (s q : ℕ) → Ascends m → get (without m s) q ≡ cond (eqb q s) None (get m q)
  get-without [] s q h = go (eqb q s)
    where
      go : (b : Bool) → ◌≡◌ {A = Option X} None (cond b None None)
      go true = refl
      go false = refl
  get-without (e ∷ es) s q h = by (is_eq (nat_cmp s e.0)) (at_eqb s e.0) (get-without es s q h.1)
    where
      by : (b : Bool) → b ≡ eqb s e.0 → get (without es s) q ≡ cond (eqb q s) None (get es q)
          → get (cond b es (e ∷ without es s)) q ≡ cond (eqb q s) None (get (e ∷ es) q)
      by true is later = go (eqb q s) refl
        where
          same : s ≡ e.0
          same = eqb-true s e.0 (sym is)

          go : (b : Bool) → eqb q s ≡ b → get es q ≡ cond b None (get (e ∷ es) q)
          go true i = let at = eqb-true q s i in let head = same in above_none es e.0 q (omega arith) h.0
          go false i = sym (get_head e es q ∙ cond-false (eqb q e.0) (Some e.1) (get es q)
              (ap (λ (y : ℕ). eqb q y) (sym same) ∙ i))
      by false is later = get_head e (without es s) q
          ∙ (ap (cond (eqb q e.0) (Some e.1)) later ∙ go (eqb q e.0) (eqb q s) refl refl)
        where
          go : (a b : Bool) → eqb q e.0 ≡ a → eqb q s ≡ b
              → cond a (Some e.1) (cond b None (get es q)) ≡ cond b None (get (e ∷ es) q)
          go true true i j = let one = eqb-true q e.0 i in let two = eqb-true q s j in
              absurd (true≢false (sym (eq-eqb s e.0 (omega arith)) ∙ sym is))
          go true false i j = sym (get_head e es q ∙ cond-true (eqb q e.0) (Some e.1) (get es q) i)
          go false true i j = refl
          go false false i j = sym (get_head e es q ∙ cond-false (eqb q e.0) (Some e.1) (get es q) i)

  above_without : (m : List (ℕ × X)) (s t : ℕ) → Above m t → Above (without m s) t
  above_without [] s t h = tt
  above_without (e ∷ es) s t h = by (is_eq (nat_cmp s e.0)) (above_without es s t h.1)
    where
      by : (b : Bool) → Above (without es s) t → Above (cond b es (e ∷ without es s)) t
      by true later = h.1
      by false later = (h.0, later)

  pub ascends-without : (m : List (ℕ × X)) (s : ℕ) → Ascends m → Ascends (without m s)
  ascends-without [] s h = tt
  ascends-without (e ∷ es) s h = by (is_eq (nat_cmp s e.0)) (ascends-without es s h.1)
    where
      by : (b : Bool) → Ascends (without es s) → Ascends (cond b es (e ∷ without es s))
      by true later = h.1
      by false later = (above_without es s e.0 h.0, later)

  -- ---- which keys there are

  pub has_put : (m : List (ℕ × X)) (s : ℕ) (x : X) (q : ℕ) → has (put m s x) q ≡ true → (q ≡ s) ⊎ (has m q ≡ true)
  has_put m s x q h = go (eqb q s) refl (sym (ap is_some (get-put m s x q)) ∙ h)
    where
      go : (b : Bool) → eqb q s ≡ b → is_some (cond b (Some x) (get m q)) ≡ true → (q ≡ s) ⊎ (has m q ≡ true)
      go true e h = inl (eqb-true q s e)
      go false e h = inr h

  pub has_put_there : (m : List (ℕ × X)) (s : ℕ) (x : X) (q : ℕ) → (q ≡ s) ⊎ (has m q ≡ true) → has (put m s x) q ≡ true
  has_put_there m s x q h = ap is_some (get-put m s x q) ∙ go (eqb q s) refl h
    where
      go : (b : Bool) → eqb q s ≡ b → (q ≡ s) ⊎ (has m q ≡ true) → is_some (cond b (Some x) (get m q)) ≡ true
      go true e h = refl
      go false e (inl i) = absurd (true≢false (sym (eq-eqb q s i) ∙ e))
      go false e (inr k) = k
