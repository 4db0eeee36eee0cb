-- What follows from a look at a value about earlier moments.
use Rattle.std.proofs.Common.{◌≡◌, ◌⊎◌, inl, inr, ℕ, ◌<◌, ◌≤◌, ◌==◌, ltb, Bool, false, cond, List, [], ◌∷◌, ◌++◌, length, refl, sym, ap, ◌∙◌, arith}
use Rattle.std.specs.Prelude.{filter}
use Rattle.std.proofs.lemmas.Bool.{cases_lt, lt-ltb, le-ltb, ne_eqb, true≢false}
use Rattle.nm_edge.specs.Layouts.{Layout, IsLayout}
use Rattle.nm_model.specs.declared.event.Event.{Event}
use Rattle.nm_model.specs.Knowledge.{is_private}
use Rattle.nm_model.specs.Runs.{of}
use Rattle.nm_model.specs.Ordered.{ordered, after_in}
use Rattle.nm_steps.specs.declared.view.Stored.{Stored}
use Rattle.nm_steps.specs.Rules.{WereHeld, value_from, value_of}
use Rattle.nm_steps.specs.Steps.{Continues, PassView}
use Rattle.nm_steps.specs.Values.{OnlySees}
use Rattle.nm_steps.proofs.AfterSteps.{run_of_seen}

-- the value of a slot by the stores that were made before so many turns
abbrev pub value_before : ℕ → List Stored → ℕ → ℕ
value_before m stores s = value_of (filter (λ (x : Stored). ltb x.at m) stores) s

-- a slot is in nobody's hands at any moment of the run from m on
abbrev pub NobodyHolds : Layout → List (ℕ × Event) → ℕ → ℕ → Type 0
NobodyHolds L turns m s = (before since : List (ℕ × Event)) → turns ≡ before ++ since → m ≤ length before → (w : ℕ)
    → is_private (of (after_in (ordered L) before).state w) s ≡ false

left_out : (m s was : ℕ) (xs : List Stored) (L : Layout) (turns : List (ℕ × Event)) → WereHeld L turns xs
    → NobodyHolds L turns m s → value_from was (filter (λ (x : Stored). ltb x.at m) xs) s ≡ value_from was xs s
left_out m s was [] L turns held free = refl
left_out m s was (x ∷ xs) L turns (h, hs) free = by (λ w. left_out m s w xs L turns hs free) (cases_lt x.at m)
  where
    by : ((w : ℕ) → value_from w (filter (λ (y : Stored). ltb y.at m) xs) s ≡ value_from w xs s)
        → (x.at < m) ⊎ (m ≤ x.at) → value_from was (filter (λ (y : Stored). ltb y.at m) (x ∷ xs)) s
        ≡ value_from was (x ∷ xs) s
    by rest (inl before) =
        ap (λ (b : Bool). value_from was (cond b (x ∷ filter (λ (y : Stored). ltb y.at m) xs)
        (filter (λ (y : Stored). ltb y.at m) xs)) s) (lt-ltb x.at m before)
        ∙ rest (cond (x.slot == s) x.value was)
    by rest (inr after) =
        ap (λ (b : Bool). value_from was (cond b (x ∷ filter (λ (y : Stored). ltb y.at m) xs)
        (filter (λ (y : Stored). ltb y.at m) xs)) s) (le-ltb x.at m after)
        ∙ (rest was ∙ sym (ap (λ (b : Bool). value_from (cond b x.value was) xs s) (ne_eqb x.slot s other)))
      where
        other : x.slot ≡ s → ⊥
        other same = true≢false (sym h.private ∙ (ap (λ (y : ℕ). is_private
            (of (after_in (ordered L) h.before).state x.worker) y) same
            ∙ free h.before h.since h.is_run (let at = h.at in omega (arith, at, after)) x.worker))

-- so a look finds the value that the slot had at moment m, if nobody has had the slot in hands from m on
pub value_stays : (L : Layout) (turns : List (ℕ × Event)) (stores : List Stored) (m s : ℕ) → WereHeld L turns stores
    → NobodyHolds L turns m s → value_before m stores s ≡ value_of stores s
value_stays L turns stores m s held free = left_out m s 0 stores L turns held free

-- a pass goes on over a step on a value
pub continues_by_value : (p q : PassView) → OnlySees p q → IsLayout q.view.layout → Continues p q
continues_by_value p q l fits = record {
  same = l.same ∙ (λ i. record p {
    view = record p.view
        { log = sym (ap (λ (z : PassView). z.view.log) l.same) i; past = q.view.past; stores = q.view.stores };
  });
  past = record { goes_on = l.past };
  run = record { fits = fits; run = run_of_seen q.view l.seen.run };
  stores = l.stores;
}
