-- A plain set has a key as often as it was put in, less as often as it was taken away.
use Rattle.std.proofs.Common.{◌≡◌, ◌⊎◌, inl, inr, ℕ, ◌+◌, ◌==◌, Bool, true, false, ◌&&◌, cond, List, [], ◌∷◌, refl, sym, subst, ◌∙◌, arith}
use Rattle.std.proofs.lemmas.Bool.{eqb-true, eq-eqb}
use Rattle.nm_edge.specs.Keys.{IsKey}
use Rattle.nm_model.specs.Headline.{words_after}
use Rattle.nm_model.specs.declared.event.Op.{Op}
use Rattle.nm_model.specs.declared.event.Op.TheVariants.{Has, Insert, Delete}
use Rattle.nm_model.specs.Acts.{Act, Replays, changed, nothing, InSet, Gives}
use Rattle.nm_order.specs.Totals.{Agree}
use Rattle.nm_callers.specs.Tallies.{KeysAreTheActs, is_true, tally}

-- of a set that has the key first
abbrev Leaves : ℕ → ℕ → Type 0 → Type 0
Leaves inserts deletes Stands = ((deletes ≡ inserts + 1) × (Stands → ⊥)) ⊎ ((deletes ≡ inserts) × Stands)

-- and of one that has it or not
record Tallies (first last : Type 0) (inserts deletes : ℕ) : Type 0 where
  with' : first → Leaves inserts deletes last
  without : (first → ⊥) → Agree inserts deletes last

-- one act more, which changes nothing of the key
same : (A B last : Type 0) (i d : ℕ) → (A → B) → (B → A) → Tallies B last i d → Tallies A last (0 + i) (0 + d)
same A B last i d to from t =
    let zero-i : i ≡ 0 + i = omega arith in
    let zero-d : d ≡ 0 + d = omega arith in
    subst (λ (n : ℕ). Tallies A last n (0 + d)) zero-i
    (subst (λ (n : ℕ). Tallies A last i n) zero-d (record
    { with' = λ has. t.with' (to has); without = λ no'. t.without (λ has. no' (from has)) }))

-- or puts it in, or takes it away
put : (A B last : Type 0) (i d : ℕ) → (A → ⊥) → B → Tallies B last i d → Tallies A last (1 + i) (0 + d)
put A B last i d none has t = record { with' = λ had. absurd (none had); without = λ no'. go (t.with' has) }
  where
    go : Leaves i d last → Agree (1 + i) (0 + d) last
    go (inl x) = inr (let e = x.0 in omega (arith, e), x.1)
    go (inr x) = inl (let e = x.0 in omega (arith, e), x.1)

take : (A B last : Type 0) (i d : ℕ) → A → (B → ⊥) → Tallies B last i d → Tallies A last (0 + i) (1 + d)
take A B last i d had gone t = record { with' = λ has. go (t.without gone); without = λ no'. absurd (no' had) }
  where
    go : Agree i d last → Leaves (0 + i) (1 + d) last
    go (inl x) = inr (let e = x.0 in omega (arith, e), x.1)
    go (inr x) = inl (let e = x.0 in omega (arith, e), x.1)

module _ (k : ℕ) (key : IsKey k) (T : ℕ → Type 0) where
  step : (S : ℕ → Type 0) (op : Op) (j : ℕ) (answer b : Bool) → (j == k) ≡ b → Gives S op j answer → (i d : ℕ)
      → Tallies (changed S op j answer k) (T k) i d
      → Tallies (S k) (T k) (cond (is_true Insert op answer && b) 1 0 + i)
      (cond (is_true Delete op answer && b) 1 0 + d)
  step S Has j answer b at gives i d t = same (S k) (S k) (T k) i d (λ has. has) (λ has. has) t
  step S Insert j false b at gives i d t = same (S k) (S k) (T k) i d (λ has. has) (λ has. has) t
  step S Delete j false b at gives i d t = same (S k) (S k) (T k) i d (λ has. has) (λ has. has) t
  step S Insert j true true at gives i d t =
      let is : j ≡ k = eqb-true j k at in
      put (S k) (changed S Insert j true k) (T k) i d (subst (λ (n : ℕ). S n → ⊥) is gives) (inr (sym is)) t
  step S Insert j true false at gives i d t = same (S k) (changed S Insert j true k) (T k) i d (λ has. inl has) from t
    where
      no_both : true ≡ false → ⊥
      no_both e = absurd (cc)

      from : changed S Insert j true k → S k
      from (inl has) = has
      from (inr is) = absurd (no_both (sym (eq-eqb j k (sym is)) ∙ at))
  step S Delete j true true at gives i d t =
      let is : j ≡ k = eqb-true j k at in
      take (S k) (changed S Delete j true k) (T k) i d (subst S is gives) (λ has. has.1 (sym is)) t
  step S Delete j true false at gives i d t = same (S k) (changed S Delete j true k) (T k) i d
      (λ has. (has, λ is. no_both (sym (eq-eqb j k (sym is)) ∙ at))) (λ has. has.0) t
    where
      no_both : true ≡ false → ⊥
      no_both e = absurd (cc)

  tallied : (acts : List Act) (S : ℕ → Type 0) → Replays S acts T
      → Tallies (S k) (T k) (tally Insert k acts) (tally Delete k acts)
  tallied [] S r = record {
    with' = λ has. inr (refl, (r k key).0 has);
    without = λ no'. inr
        (refl, λ has. no' ((r k key).1 has));
  }
  tallied (x ∷ acts) S r =
      step S x.op x.key x.answer (x.key == k) refl r.1 (tally Insert k acts) (tally Delete k acts)
      (tallied acts (changed S x.op x.key x.answer) r.2)

pub keys_are_the_acts : KeysAreTheActs
keys_are_the_acts L turns acts h k key = (tallied k key (InSet (words_after L turns)) acts nothing h.replays).without
    (λ none. none)
