-- What a step leaves of a state, read back; what an event that is allowed has shown; and induction
-- over runs.
use Rattle.std.proofs.Common.{◌≡◌, ℕ, ◌<◌, ◌≢◌, Bool, true, false, cond, List, [], ◌∷◌, length, set, get_or, refl, sym, subst, arith, get_or-set_same, get_or-set_other, length-set}
use Rattle.std.specs.Prelude.{Option, Some, None, nat_le}
use Rattle.std.proofs.lemmas.Bool.{leb-false, or_parts}
use Rattle.std.proofs.lemmas.Option.{none-some}
use native.Mathlib.Decide.{ℕ_discrete}
use Rattle.nm_edge.specs.Layouts.{Layout}
use Rattle.nm_model.specs.declared.event.Event.{Event}
use Rattle.nm_model.specs.declared.reply.Refused.{Refused}
use Rattle.nm_model.specs.declared.reply.Refused.TheVariants.{NoWorker}
use Rattle.nm_model.specs.Memory.{Memory}
use Rattle.nm_model.specs.Knowledge.{Knowledge, newcomer}
use Rattle.nm_model.specs.Runs.{State, of, is_no_worker, refusal_of, refused, applied, unless_refused, next, after}

-- a check that has passed, and those that follow
pub passed : (b : Bool) (r : Refused) (o : Option Refused) → cond b (Some r) o ≡ None → (b ≡ false) × (o ≡ None)
passed true r o h = absurd (none-some r (sym h))
passed false r o h = (refl, h)

-- of a row of checks that have passed, the second, and so on
pub second : (a b : Bool) (r q : Refused) (o : Option Refused) → cond a (Some r) (cond b (Some q) o) ≡ None → b ≡ false
second a b r q o h = (passed b q o (passed a r _ h).1).0

pub third : (a b c : Bool) (r q t : Refused) (o : Option Refused)
    → cond a (Some r) (cond b (Some q) (cond c (Some t) o)) ≡ None → c ≡ false
third a b c r q t o h = second b c q t o (passed a r _ h).1

pub fourth : (a b c d : Bool) (r q t v : Refused) (o : Option Refused)
    → cond a (Some r) (cond b (Some q) (cond c (Some t) (cond d (Some v) o))) ≡ None → d ≡ false
fourth a b c d r q t v o h = third b c d q t v o (passed a r _ h).1

pub fifth : (a b c d e : Bool) (r q t v x : Refused) (o : Option Refused)
    → cond a (Some r) (cond b (Some q) (cond c (Some t) (cond d (Some v) (cond e (Some x) o)))) ≡ None → e ≡ false
fifth a b c d e r q t v x o h = fourth b c d e q t v x o (passed a r _ h).1

-- ---- what one worker knows, after a step

-- what holds of the worker that steps, and held of each other, holds of each
pub each : (L : Layout) (P : ℕ → Knowledge → Type 0) (ws : List Knowledge) (w : ℕ) (k : Knowledge) → w < length ws
    → P w k → ((u : ℕ) → u ≢ w → P u (get_or ws u (newcomer L u))) → (u : ℕ)
    → P u (get_or (set ws w k) u (newcomer L u))
each L P ws w k inside here others u =
    elim (ℕ_discrete u w) [
      | yes e ↦ subst (λ (x : ℕ). P x (get_or (set ws w k) x (newcomer L x))) (sym e)
          (rw (get_or-set_same ws w k (newcomer L w) inside) here)
      | no ne ↦ rw (get_or-set_other ws w u k (newcomer L u) ne) (others u ne)
    ]

-- the same of the two workers of a join
pub both : (L : Layout) (P : ℕ → Knowledge → Type 0) (ws : List Knowledge) (w v : ℕ) (k l : Knowledge)
    → w < length ws → v < length ws
    → P w k → P v l → ((u : ℕ) → u ≢ w → u ≢ v → P u (get_or ws u (newcomer L u))) → (u : ℕ)
    → P u (get_or (set (set ws w k) v l) u (newcomer L u))
both L P ws w v k l inside inside' here there others =
    each L P (set ws w k) v l (let e = length-set ws w k in omega arith) there
    (λ u ne. elim (ℕ_discrete u w) [
      | yes e ↦ subst (λ (x : ℕ). P x (get_or (set ws w k) x (newcomer L x))) (sym e)
          (rw (get_or-set_same ws w k (newcomer L w) inside) here)
      | no other ↦ rw (get_or-set_other ws w u k (newcomer L u) other) (others u other ne)
    ])

-- the state that a step of one worker leaves
abbrev pub moved : State → ℕ → Memory → Knowledge → State
moved s w m k = record { layout = s.layout; memory = m; workers = set s.workers w k }

-- ---- what an event that is allowed has shown

pub record Allowed (s : State) (w : ℕ) (e : Event) : Type 0 where
  pub worker : w < s.layout.workers
  pub stays : (of s w).gone ≡ false
  pub event : refusal_of s w e ≡ None

-- a worker that there is, and that has not resigned
pub is_worker : (s : State) (w : ℕ) → is_no_worker s w ≡ false → (w < s.layout.workers) × ((of s w).gone ≡ false)
is_worker s w h = let parts = or_parts (nat_le s.layout.workers w) (of s w).gone h in
    (leb-false s.layout.workers w parts.0, parts.1)

pub allowed : (s : State) (w : ℕ) (e : Event) → refused s w e ≡ None → Allowed s w e
unfolding refused
allowed s w e h =
    let parts = passed (is_no_worker s w) NoWorker (refusal_of s w e) h in
    let worker = is_worker s w parts.0 in
    record { worker = worker.0; stays = worker.1; event = parts.1 }

-- ---- runs

-- what holds of a state, and is kept by each event that is allowed, is kept by each turn
pub by_step : (P : State → Type 0)
    → ((s : State) (w : ℕ) (e : Event) → P s → Allowed s w e → P (applied s w e))
    → (s : State) (t : ℕ × Event) → P s → P (next s t)
unfolding next
by_step P keeps s t p = go (refused s t.0 t.1) refl
  where
    go : (r : Option Refused) → refused s t.0 t.1 ≡ r → P (unless_refused r s (applied s t.0 t.1))
    go None e = keeps s t.0 t.1 p (allowed s t.0 t.1 e)
    go (Some r) e = p

pub by_steps : (P : State → Type 0)
    → ((s : State) (w : ℕ) (e : Event) → P s → Allowed s w e → P (applied s w e))
    → (ts : List (ℕ × Event)) (s : State) → P s → P (after s ts)
unfolding after
by_steps P keeps [] s p = p
by_steps P keeps (t ∷ ts) s p = by_steps P keeps ts (next s t) (by_step P keeps s t p)
