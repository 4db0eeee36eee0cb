-- A worker beside which no other one has made a turn, in sums over all workers and in what was seen
-- earlier.
use Rattle.std.proofs.Common.{◌≡◌, ◌≢◌, ◌∙◌, ℕ, zero, suc, ◌+◌, ◌<◌, ◌≤◌, inl, inr, ◌⊎◌, List, [], ◌∷◌, ◌++◌, length, refl, sym, ap, subst, arith}
use Rattle.std.proofs.lemmas.Bool.{cases_lt}
use Rattle.nm_edge.specs.Layouts.{Layout}
use Rattle.nm_model.specs.declared.trace.Turn.{Turn}
use Rattle.nm_order.specs.Logs.{part_of}
use Rattle.nm_order.specs.LoggedTotals.{sum_of}
use Rattle.nm_order.proofs.AnswersSince.{part-append}
use Rattle.nm_steps.specs.Rules.{Extends}
use Rattle.nm_steps.specs.Steps.{PassView, IsSamePass, HasSeenAllOf}
use Rattle.nm_set.specs.Filling.{OthersRest}
use Rattle.nm_set.proofs.Counting.{no_sum}

-- a sum of which one part alone is not 0
pub at_most : (f : ℕ → ℕ) (n u b : ℕ) → ((v : ℕ) → v < n → v ≢ u → f v ≡ 0) → f u ≤ b → sum_of f n ≤ b
at_most f zero u b none few = omega arith
at_most f (suc n) u b none few = by (at_most f n u b (λ v less. none v (omega (arith, less))) few) (cases_lt n u)
    (cases_lt u n)
  where
    first : sum_of f n ≤ b → ((n ≡ u) → ⊥) → sum_of f (suc n) ≤ b
    first rest other = let last = none n (omega arith) other in omega (arith, rest, last)

    by : sum_of f n ≤ b → (n < u) ⊎ (u ≤ n) → (u < n) ⊎ (n ≤ u) → sum_of f (suc n) ≤ b
    by rest (inl low) c = first rest (λ e. omega (arith, low, e))
    by rest (inr up) (inl high) = first rest (λ e. omega (arith, high, e))
    by rest (inr up) (inr low) =
        let same : n ≡ u = omega (arith, up, low) in
        let nothing = no_sum f n (λ v less. none v (omega (arith, less)) (λ e. omega (arith, less, e, same))) in
        let last : f n ≤ b = subst (λ (m : ℕ). f m ≤ b) (sym same) few in
        omega (arith, nothing, last)

-- ---- first parts

pub none_first : {X : Type 0} (xs ys : List X) → xs ++ ys ≡ [] → xs ≡ []
none_first {X = X} [] ys e = refl
none_first {X = X} (x ∷ xs) ys e = absurd (let size = ap (λ (zs : List X). length zs) e in omega (arith, size))

-- ---- what was seen earlier

-- who has made no turn in later turns has made none in earlier ones
pub no_turns : (w : ℕ) (later earlier : List Turn) → Extends later earlier → part_of w later ≡ []
    → part_of w earlier ≡ []
no_turns w later earlier on none = none_first (part_of w earlier) (part_of w on.more)
    (sym (ap (part_of w) on.is ∙ part-append w earlier on.more) ∙ none)

pub rested_before : (p q : PassView) → IsSamePass p q → HasSeenAllOf q p → OthersRest q → OthersRest p
rested_before p q same on rest w less other =
    let layout : q.view.layout ≡ p.view.layout = ap (λ (s : PassView). s.view.layout) same in
    let number : q.view.number ≡ p.view.number = ap (λ (s : PassView). s.view.number) same in
    no_turns w q.view.past p.view.past on.goes_on (rest w (subst (λ (l : Layout). w < l.workers) (sym layout) less)
    (λ e. other (e ∙ number)))

-- the only worker with a greater number than those that rest
pub rests_below : (p : PassView) (n : ℕ) → p.view.number ≡ n → p.view.layout.workers ≡ n + 1
    → ((i : ℕ) → i < n → part_of i p.view.past ≡ []) → OthersRest p
rests_below p n number workers rest w less other = by (cases_lt w n)
  where
    by : (w < n) ⊎ (n ≤ w) → part_of w p.view.past ≡ []
    by (inl low) = rest w low
    by (inr up) = absurd (other (omega (arith, less, number, workers, up)))
