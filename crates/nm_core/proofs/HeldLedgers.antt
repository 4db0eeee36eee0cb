-- Each worker has a ledger, whoever holds it, and nobody else has.
use Rattle.std.proofs.Common.{◌≡◌, ℕ, zero, suc, ◌+◌, ◌<◌, ◌≤◌, Bool, true, false, inl, inr, cond, List, [], ◌∷◌, length, arith, refl, sym, ap, subst, ◌∙◌, true≢false}
use Rattle.std.specs.Prelude.{Option, Some, None, is_some, IsSome, ◌↔◌, slice_index_or}
use Rattle.std.proofs.lemmas.Bool.{cases_lt}
use Rattle.std.proofs.lemmas.List.{get_or_past}
use Rattle.nm_edge.specs.Layouts.{Layout}
use Rattle.nm_model.specs.declared.event.Event.{Event}
use Rattle.nm_model.specs.declared.ledger.Ledger.{Ledger}
use Rattle.nm_model.specs.Maps.{or_else}
use Rattle.nm_model.specs.Ledgers.{held}
use Rattle.nm_model.specs.Knowledge.{Knowledge, newcomer}
use Rattle.nm_model.specs.Runs.{State, of, start, after}
use Rattle.nm_laws.proofs.Reaches.{IsReachable}
use Rattle.nm_model.specs.Laws.{OneHolder}
use Rattle.nm_model.specs.Reports.{holder, holder_from, ledger_among, ledger_of}
use Rattle.nm_laws.proofs.Sizes.{Staffed, staffed_start, staffed_step}
use Rattle.nm_laws.proofs.Steps.{by_steps}
use Rattle.nm_laws.proofs.Lawful.{reachable_is_lawful}
use Rattle.nm_laws.proofs.Retired.{each_ledger_has_one_holder}

some_first : (x y : Option Ledger) → IsSome x → IsSome (or_else x y)
some_first None y some = absurd cc
some_first (Some l) y some = refl

some_second : (x y : Option Ledger) → IsSome y → IsSome (or_else x y)
some_second None y some = some
some_second (Some l) y some = refl

-- what one of these workers holds is found among them
found_among : (ks : List Knowledge) (h : ℕ) (other : Knowledge) (o : ℕ) → h < length ks
    → IsSome (held (slice_index_or ks h other).ledgers o) → IsSome (ledger_among ks o)
found_among [] h other o lt some = absurd (omega (arith, lt))
found_among (k ∷ ks) zero other o lt some = some_first (held k.ledgers o) (ledger_among ks o) some
found_among (k ∷ ks) (suc h) other o lt some = some_second (held k.ledgers o) (ledger_among ks o)
    (found_among ks h other o (omega (arith, lt)) some)

-- in every run
pub each_has_a_ledger : (L : Layout) (turns : List (ℕ × Event)) (w : ℕ) → w < L.workers
    → IsSome (ledger_of (after (start L) turns) w)
each_has_a_ledger L turns w lt =
    let s = after (start L) turns in
    let staffed : Staffed s = by_steps Staffed (λ s w e x _. staffed_step s w e x) turns (start L) (staffed_start L) in
    let one = each_ledger_has_one_holder L turns w lt in
    found_among s.workers one.holder _ w (omega (arith, staffed.workers, one.is_worker)) one.holds

none_among : (ks : List Knowledge) (d : ℕ → Knowledge) (o : ℕ)
    → ((i : ℕ) → i < length ks → held (slice_index_or ks i (d i)).ledgers o ≡ None) → ledger_among ks o ≡ None
none_among [] d o none = refl
none_among (k ∷ ks) d o none = ap (λ (l : Option Ledger). or_else l (ledger_among ks o)) (none zero (omega arith))
    ∙ none_among ks (λ i. d (suc i)) o (λ i below. none (suc i) (omega arith))

-- the same of who holds it
holder_found : (n : ℕ) (ks : List Knowledge) (h : ℕ) (other : Knowledge) (o : ℕ) → h < length ks
    → IsSome (held (slice_index_or ks h other).ledgers o) → IsSome (holder_from n ks o)
holder_found n [] h other o lt some = absurd (omega (arith, lt))
holder_found n (k ∷ ks) zero other o lt some = rw some refl
holder_found n (k ∷ ks) (suc h) other o lt some = by (is_some (held k.ledgers o))
    (holder_found (n + 1) ks h other o (omega (arith, lt)) some)
  where
    by : (b : Bool) → IsSome (holder_from (n + 1) ks o) → IsSome (cond b (Some n) (holder_from (n + 1) ks o))
    by true later = refl
    by false later = later

no_holder : (n : ℕ) (ks : List Knowledge) (d : ℕ → Knowledge) (o : ℕ)
    → ((i : ℕ) → i < length ks → held (slice_index_or ks i (d i)).ledgers o ≡ None) → holder_from n ks o ≡ None
no_holder n [] d o none = refl
no_holder n (k ∷ ks) d o none = ap (λ (l : Option Ledger). cond (is_some l) (Some n) (holder_from (n + 1) ks o))
    (none zero (omega arith)) ∙ no_holder (n + 1) ks (λ i. d (suc i)) o (λ i below. none (suc i) (omega arith))

exactly : {X : Type 0} (o : Option X) (n w : ℕ) → (w < n → IsSome o) → (n ≤ w → o ≡ None) → (o ≡ None) ↔ (n ≤ w)
exactly o n w there none = (
  (λ is. elim (cases_lt w n)
      [ inl lt ↦ absurd (true≢false (sym (there lt) ∙ ap is_some is)) | inr le ↦ le ]),
  none,
)

module _ (s : State) (r : IsReachable s) (w : ℕ) where
  -- past the workers nobody holds anything
  past : s.layout.workers ≤ w → (i : ℕ) → i < length s.workers
      → held (slice_index_or s.workers i (newcomer s.layout i)).ledgers w ≡ None
  past le i below = get_or_past (of s i).ledgers w None
      (let size = (reachable_is_lawful s r).law.holders.sizes i in omega arith)

  held_by_one : w < s.layout.workers → OneHolder s w
  held_by_one lt = subst (λ (t : State). OneHolder t w) r.leads (each_ledger_has_one_holder s.layout r.events w lt)

  staffed : Staffed s
  staffed = (reachable_is_lawful s r).law.staffed

  pub ledger_none : (ledger_of s w ≡ None) ↔ (s.layout.workers ≤ w)
  ledger_none = exactly (ledger_of s w) s.layout.workers w
      (λ lt. (let one = held_by_one lt in
      found_among s.workers one.holder _ w (omega (arith, staffed.workers, one.is_worker)) one.holds))
      (λ le. none_among s.workers (λ i. newcomer s.layout i) w (past le))

  pub holder_none : (holder s w ≡ None) ↔ (s.layout.workers ≤ w)
  holder_none = exactly (holder s w) s.layout.workers w
      (λ lt. (let one = held_by_one lt in
      holder_found 0 s.workers one.holder _ w (omega (arith, staffed.workers, one.is_worker)) one.holds))
      (λ le. no_holder 0 s.workers (λ i. newcomer s.layout i) w (past le))
