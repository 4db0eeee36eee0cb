-- Exactly one worker holds the ledger of each origin.
use Rattle.std.proofs.Common.{◌≡◌, ℕ, ◌<◌, ◌≢◌, eqb, true, false, cond, length, replicate, refl, sym, ap, ◌∙◌, arith, true≢false, length-set, get_or-set_same, get_or-set_other}
use Rattle.std.specs.Prelude.{Option, Some, None, is_some, option_map}
use native.Mathlib.Decide.{ℕ_discrete}
use Rattle.std.proofs.lemmas.Bool.{cond-true, cond-false, eq-eqb, ne_eqb}
use Rattle.std.proofs.lemmas.List.{length-replicate}
use Rattle.nm_edge.specs.Layouts.{Layout}
use Rattle.nm_model.specs.declared.event.Event.{Event}
use Rattle.nm_model.specs.declared.event.Event.TheVariants.{Join}
use Rattle.nm_model.specs.declared.reply.Reply.{Reply}
use Rattle.nm_model.specs.declared.ledger.Ledger.{Ledger}
use Rattle.nm_model.specs.Maps.{or_else}
use Rattle.nm_model.specs.Memory.{Memory}
use Rattle.nm_model.specs.Ledgers.{held, fresh_ledger, labelled, with_cut, taken_over}
use Rattle.nm_model.specs.Knowledge.{Knowledge, newcomer}
use Rattle.nm_model.specs.Learning.{resigned, inheriting}
use Rattle.nm_model.specs.Runs.{State, of, start, applied}
use Rattle.nm_model.proofs.Numbers.{repeated}
use Rattle.nm_laws.proofs.Steps.{each, both, moved}
use Rattle.nm_laws.proofs.Held.{held-label, length-label, held-retire_same, held-retire_other, length-retire, length-free, held-taken_over, length-taken_over}
use Rattle.nm_laws.proofs.Learned.{learn_joined}
use Rattle.nm_laws.proofs.Changes.{Change, Changed}
use Rattle.nm_laws.proofs.Changes.Change.{Keeps, Labels, Cuts, Frees}
use Rattle.nm_laws.proofs.Pins.{all_new}

-- h says who holds the ledger of each origin; a worker that has not resigned holds its own
pub record Holders (s : State) (h : ℕ → ℕ) : Type 0 where
  pub sizes : (w : ℕ) → length (of s w).ledgers ≡ s.layout.workers
  pub only : (w o : ℕ) → is_some (held (of s w).ledgers o) ≡ true → w ≡ h o
  pub some : (o : ℕ) → o < s.layout.workers → is_some (held (of s (h o)).ledgers o) ≡ true
  pub own : (w : ℕ) → w < s.layout.workers → (of s w).gone ≡ false → h w ≡ w
  pub staff : (o : ℕ) → o < s.layout.workers → h o < s.layout.workers

-- ---- events but joins change no holder

is_some_map : (f : Ledger → Ledger) (o : Option Ledger) → is_some (option_map f o) ≡ is_some o
is_some_map f None = refl
is_some_map f (Some l) = refl

pub still_held : (s : State) (w : ℕ) (e : Event) (r : Reply) (k : Knowledge) → w < length (of s w).ledgers
    → Change s w e r k → (o : ℕ) → is_some (held k.ledgers o) ≡ is_some (held (of s w).ledgers o)
still_held s w e r k inside (Keeps same _ _ _) o = ap (λ ls. is_some (held ls o)) same
still_held s w e r k inside (Labels is _ _) o = ap (λ ls. is_some (held ls o)) is
    ∙ (ap is_some (held-label s.memory.epoch (of s w).ledgers o)
    ∙ is_some_map (labelled s.memory.epoch) (held (of s w).ledgers o))
still_held s w e r k inside (Cuts ns is _ _ _) o = ap (λ ls. is_some (held ls o)) is ∙ elim (ℕ_discrete o w) [
  | yes e ↦ rw e (ap is_some (held-retire_same (of s w).ledgers w ns inside)
      ∙ is_some_map (with_cut ns) (held (of s w).ledgers w))
  | no ne ↦ ap is_some (held-retire_other (of s w).ledgers w ns o ne)
]
still_held s w e r k inside (Frees x q f _ is _ _ _) o = ap (λ ls. is_some (held ls o)) is
    ∙ elim (ℕ_discrete o f.origin) [
      | yes e ↦ rw e (ap is_some f.after ∙ sym (ap is_some f.is_held))
      | no ne ↦ ap is_some (f.others o ne)
    ]

pub still_long : (s : State) (w : ℕ) (e : Event) (r : Reply) (k : Knowledge) → Change s w e r k
    → length k.ledgers ≡ length (of s w).ledgers
still_long s w e r k (Keeps same _ _ _) = ap length same
still_long s w e r k (Labels is _ _) = ap length is ∙ length-label s.memory.epoch (of s w).ledgers
still_long s w e r k (Cuts ns is _ _ _) = ap length is ∙ length-retire (of s w).ledgers w ns
still_long s w e r k (Frees x q f _ is _ _ _) = ap length is ∙ length-free (of s w).ledgers q.node

pub holders_moved : (s : State) (h : ℕ → ℕ) (w : ℕ) (m : Memory) (e : Event) (r : Reply) (k : Knowledge)
    → w < length s.workers → w < s.layout.workers → Changed s w e r k → Holders s h → Holders (moved s w m k) h
holders_moved s h w m e r k inside worker changed law = record {
  sizes = each s.layout (λ u x. length x.ledgers ≡ s.layout.workers) s.workers w k inside
      (still_long s w e r k changed.ledgers ∙ law.sizes w) (λ u _. law.sizes u);
  only = each s.layout (λ u x. (o : ℕ) → is_some (held x.ledgers o) ≡ true → u ≡ h o) s.workers w k inside
      (λ o i. law.only w o (sym (same o) ∙ i)) (λ u _. law.only u);
  some = λ o lt. each s.layout (λ u x. h o ≡ u → is_some (held x.ledgers o) ≡ true) s.workers w k inside
      (λ e. same o ∙ (ap (λ (y : ℕ). is_some (held (of s y).ledgers o)) (sym e) ∙ law.some o lt))
      (λ u _ e. ap (λ (y : ℕ). is_some (held (of s y).ledgers o)) (sym e) ∙ law.some o lt) (h o) refl;
  own = each s.layout (λ u x. u < s.layout.workers → x.gone ≡ false → h u ≡ u) s.workers w k inside
      (λ lt g. law.own w lt (sym changed.gone ∙ g)) (λ u _. law.own u);
  staff = law.staff;
}
  where
    same : (o : ℕ) → is_some (held k.ledgers o) ≡ is_some (held (of s w).ledgers o)
    same = still_held s w e r k (let e = law.sizes w in omega arith) changed.ledgers

-- ---- a join

-- the holders after worker w took over from v
abbrev pub heirs : (ℕ → ℕ) → ℕ → ℕ → ℕ → ℕ
heirs h w v o = cond (eqb (h o) v) w (h o)

-- what a join leaves of the two workers, and of the others
pub record Joins (s t : State) (w v : ℕ) : Type 0 where
  pub heir : of t w ≡ inheriting (of s w) (of s v).ledgers
  pub leaver : of t v ≡ resigned (of s v)
  pub others : (u : ℕ) → u ≢ w → u ≢ v → of t u ≡ of s u

pub joins : (s : State) (w v : ℕ) → w < length s.workers → v < length s.workers → v ≢ w
    → Joins s (applied s w (Join v)) w v
unfolding applied
joins s w v inside there ne = record {
  heir = both s.layout (λ u x. u ≡ w → x ≡ inheriting (of s w) (of s v).ledgers) s.workers w v _ _ inside there
      (λ _. learn_joined w (of s w) v (of s v).ledgers
      ∙ cond-false (eqb w v) (resigned (of s w)) (inheriting (of s w) (of s v).ledgers)
      (ne_eqb w v (λ e. ne (sym e))))
      (λ e. absurd (ne e)) (λ u other _ e. absurd (other e)) w refl;
  leaver = both s.layout (λ u x. u ≡ v → x ≡ resigned (of s v)) s.workers w v _ _ inside there
      (λ e. absurd (ne (sym e)))
      (λ _. learn_joined v (of s v) v (of s v).ledgers
      ∙ cond-true (eqb v v) (resigned (of s v)) (inheriting (of s v) (of s v).ledgers) (eq-eqb v v refl))
      (λ u _ other e. absurd (other e)) v refl;
  others = both s.layout (λ u x. u ≢ w → u ≢ v → x ≡ of s u) s.workers w v _ _ inside there
      (λ a _. absurd (a refl)) (λ _ b. absurd (b refl)) (λ u _ _ _ _. refl);
}

-- of what holds of each worker: it holds of the heir, of the one that left, and of each other
pub by_worker : (s t : State) (w v : ℕ) → Joins s t w v → (P : ℕ → Knowledge → Type 0)
    → P w (inheriting (of s w) (of s v).ledgers) → P v (resigned (of s v)) → ((u : ℕ) → u ≢ w → u ≢ v → P u (of s u))
    → (u : ℕ) → P u (of t u)
by_worker s t w v j P heir leaver others u = elim (ℕ_discrete u w) [
  | yes e ↦ rw (e, j.heir) heir
  | no ne ↦ elim (ℕ_discrete u v) [
    | yes e ↦ rw (e, j.leaver) leaver
    | no far ↦ rw (j.others u ne far) (others u ne far)
  ]
]

pub none_held : (n o : ℕ) → held (replicate n None) o ≡ None
none_held n o = repeated n o None

pub holders_joined : (s : State) (h : ℕ → ℕ) (w v : ℕ) (t : State) → t.layout ≡ s.layout → Joins s t w v → v ≢ w
    → w < s.layout.workers → (of s w).gone ≡ false → Holders s h → Holders t (heirs h w v)
holders_joined s h w v t layout j ne worker staying law = record {
  sizes = by_worker s t w v j (λ u x. length x.ledgers ≡ t.layout.workers)
      (length-taken_over (of s w).ledgers (of s v).ledgers ∙ (law.sizes w ∙ same_workers))
      (length-replicate (length (of s v).ledgers) None ∙ (law.sizes v ∙ same_workers))
      (λ u _ _. law.sizes u ∙ same_workers);
  only = by_worker s t w v j (λ u x. (o : ℕ) → is_some (held x.ledgers o) ≡ true → u ≡ heirs h w v o)
      (λ o i. heir_only o (held (of s v).ledgers o) (held (of s w).ledgers o) refl refl
      (sym (ap is_some (taken o)) ∙ i))
      (λ o i. absurd (true≢false (sym i ∙ ap is_some (none_held (length (of s v).ledgers) o))))
      (λ u a b o i. let e = law.only u o i in e ∙ sym (apart o (λ z. b (e ∙ z))));
  some = λ o lt. by_worker s t w v j (λ u x. heirs h w v o ≡ u → is_some (held x.ledgers o) ≡ true)
      (λ e. ap is_some (taken o) ∙ heir_some o (rw same_workers lt) e)
      (λ e. absurd (not_leaver o e))
      (λ u a b e. other_some o (rw same_workers lt) u a e) (heirs h w v o) refl;
  own = by_worker s t w v j (λ u x. u < t.layout.workers → x.gone ≡ false → heirs h w v u ≡ u)
      (λ _ _. let e = law.own w worker staying in apart w (λ z. ne (sym z ∙ e)) ∙ e)
      (λ _ g. absurd (true≢false g))
      (λ u a b lt g. let e = law.own u (rw same_workers lt) g in apart u (λ z. b (sym e ∙ z)) ∙ e);
  staff = λ o lt. rw (← same_workers) (staff o (rw same_workers lt));
}
  where
    same_workers : s.layout.workers ≡ t.layout.workers
    same_workers = ap (λ L. L.workers) (sym layout)

    taken : (o : ℕ) → held (taken_over (of s w).ledgers (of s v).ledgers) o
        ≡ or_else (held (of s v).ledgers o) (held (of s w).ledgers o)
    taken o = held-taken_over (of s w).ledgers (of s v).ledgers o (law.sizes w ∙ sym (law.sizes v))

    apart : (o : ℕ) → (h o ≡ v → ⊥) → heirs h w v o ≡ h o
    apart o z = cond-false (eqb (h o) v) w (h o) (ne_eqb (h o) v z)

    passed : (o : ℕ) → h o ≡ v → heirs h w v o ≡ w
    passed o e = cond-true (eqb (h o) v) w (h o) (eq-eqb (h o) v e)

    heir_only : (o : ℕ) (a b : Option Ledger) → held (of s v).ledgers o ≡ a → held (of s w).ledgers o ≡ b
        → is_some (or_else a b) ≡ true → w ≡ heirs h w v o
    heir_only o (Some l) b i k some = sym (passed o (sym (law.only v o (ap is_some i))))
    heir_only o None (Some l) i k some = let e = law.only w o (ap is_some k) in
        e ∙ sym (apart o (λ z. ne (sym z ∙ sym e)))
    heir_only o None None i k some = absurd (true≢false (sym some))

    either_some : (a b : Option Ledger) → is_some a ≡ true → is_some (or_else a b) ≡ true
    either_some (Some l) b i = refl
    either_some None b i = absurd (true≢false (sym i))

    or_some : (a b : Option Ledger) → is_some b ≡ true → is_some (or_else a b) ≡ true
    or_some (Some l) b i = refl
    or_some None b i = i

    heir_some : (o : ℕ) → o < s.layout.workers → heirs h w v o ≡ w
        → is_some (or_else (held (of s v).ledgers o) (held (of s w).ledgers o)) ≡ true
    heir_some o lt e = elim (ℕ_discrete (h o) v) [
      | yes z ↦ either_some (held (of s v).ledgers o) (held (of s w).ledgers o)
          (ap (λ (y : ℕ). is_some (held (of s y).ledgers o)) (sym z) ∙ law.some o lt)
      | no z ↦ or_some (held (of s v).ledgers o) (held (of s w).ledgers o)
          (ap (λ (y : ℕ). is_some (held (of s y).ledgers o)) (sym e ∙ apart o z) ∙ law.some o lt)
    ]

    not_leaver : (o : ℕ) → heirs h w v o ≡ v → ⊥
    not_leaver o e = elim (ℕ_discrete (h o) v) [ yes z ↦ ne (sym e ∙ passed o z) | no z ↦ z (sym (apart o z) ∙ e) ]

    other_some : (o : ℕ) → o < s.layout.workers → (u : ℕ) → u ≢ w → heirs h w v o ≡ u
        → is_some (held (of s u).ledgers o) ≡ true
    other_some o lt u a e = elim (ℕ_discrete (h o) v) [
      | yes z ↦ absurd (a (sym e ∙ passed o z))
      | no z ↦ ap (λ (y : ℕ). is_some (held (of s y).ledgers o)) (sym e ∙ apart o z) ∙ law.some o lt
    ]

    staff : (o : ℕ) → o < s.layout.workers → heirs h w v o < s.layout.workers
    staff o lt = elim (ℕ_discrete (h o) v) [ yes z ↦ rw (passed o z) worker | no z ↦ rw (apart o z) (law.staff o lt) ]

-- ---- the opening

own_ledger : (L : Layout) (w o : ℕ) → is_some (held (newcomer L w).ledgers o) ≡ true → w ≡ o
own_ledger L w o i = elim (ℕ_discrete o w) [
  | yes e ↦ sym e
  | no ne ↦ absurd (true≢false (sym i ∙ ap is_some
      (get_or-set_other (replicate L.workers None) w o (Some fresh_ledger) None ne ∙ none_held L.workers o)))
]

pub holders_start : (L : Layout) → Holders (start L) (λ o. o)
holders_start L = record {
  sizes = λ w. rw (all_new L w) (length-set (replicate L.workers None) w (Some fresh_ledger)
      ∙ length-replicate L.workers None);
  only = λ w o. rw (all_new L w) (own_ledger L w o);
  some = λ o lt. rw (all_new L o) (ap is_some (get_or-set_same (replicate L.workers None) o (Some fresh_ledger) None
      (let e = length-replicate {A = Option Ledger} L.workers None in omega arith)));
  own = λ w _ _. refl;
  staff = λ o lt. lt;
}
