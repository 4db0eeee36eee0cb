-- What a worker knows is what its part of the run tells, and a part that ends with an entry ends at
-- the turn of that entry.
use Rattle.std.proofs.Common.{◌≡◌, ◌≢◌, ℕ, ◌<◌, inl, inr, eqb, ◌==◌, Bool, true, false, cond, ◌||◌, List, [], ◌∷◌, ◌++◌, length, refl, sym, ap, subst, ◌∙◌, arith, true≢false, Result, Ok, Err}
use Rattle.std.specs.Prelude.{Option, Some, None}
use Rattle.std.proofs.lemmas.Bool.{eqb-true, eqb-false, eq-eqb, ne_eqb, cond-true, cond-false, or_cases, or_parts}
use Rattle.nm_model.specs.declared.event.Event.{Event}
use Rattle.nm_model.specs.declared.event.Event.TheVariants.{Join}
use Rattle.nm_model.specs.declared.reply.Reply.{Reply}
use Rattle.nm_model.specs.declared.reply.Refused.{Refused}
use Rattle.nm_model.specs.declared.trace.Turn.{Turn}
use Rattle.nm_model.specs.Knowledge.{Knowledge}
use Rattle.nm_model.specs.Learning.{learn, resigned, inheriting}
use Rattle.nm_model.specs.Step.{write}
use Rattle.nm_model.specs.Runs.{State, of, reply_of, applied}
use Rattle.nm_model.specs.Searches.{Search, searched}
use Rattle.nm_model.specs.Walks.{Entry, logged_by, log_of, search_after}
use Rattle.nm_model.specs.Ordered.{Configuration, ordered, refused_in, applied_in, next_in, outcome_in, after_in, trace_in}
use Rattle.nm_laws.proofs.Steps.{Allowed, allowed}
use Rattle.nm_laws.proofs.Sizes.{Staffed, staffed_step, staffed_start}
use Rattle.nm_laws.proofs.Epochs.{other_worker}
use Rattle.nm_laws.proofs.Pins.{all_new}
use Rattle.nm_laws.proofs.Holders.{joins}
use Rattle.nm_laws.proofs.Views.{of_moved}
use Rattle.nm_laws.proofs.Lawful.{applied_is, JoinOrNot, join_or_not}
use Rattle.nm_laws.proofs.Lawful.JoinOrNot.{IsJoin, IsNone}
use Rattle.nm_laws.proofs.Learned.{learn_joined}
use Rattle.nm_laws.proofs.Configurations.{refused_next, refused_outcome, allowed_next, allowed_outcome, allowed_by_state}
use Rattle.nm_order.specs.Logs.{is_leaver, takes_part, part_of, known_after, LogsTellWhatIsKnown}

-- ---- one event

module _ (s : State) (staffed : Staffed s) (u w : ℕ) where
  inside : (v : ℕ) → v < s.layout.workers → v < length s.workers
  inside v lt = let size = staffed.workers in omega arith

  own_event : (e : Event) → Allowed s u e → u ≡ w → of (applied s u e) w ≡ learn w (of s w) e (reply_of s u e)
  own_event e ok same = subst (λ (x : ℕ). of (applied s u e) x ≡ learn x (of s x) e (reply_of s u e)) same
      (go (join_or_not e))
    where
      go : JoinOrNot e → of (applied s u e) u ≡ learn u (of s u) e (reply_of s u e)
      go (IsNone alone) = ap (λ (t : State). of t u) (applied_is s u e alone)
          ∙ (of_moved s u (write s.memory (of s u) u e) (learn u (of s u) e (reply_of s u e)) (inside u ok.worker) u
          ∙ cond-true (eqb u u) (learn u (of s u) e (reply_of s u e)) (of s u) (eq-eqb u u refl))
      go (IsJoin v is) = subst (λ (x : Event). of (applied s u x) u ≡ learn u (of s u) x (reply_of s u x)) (sym is)
          (heir v (subst (λ (x : Event). Allowed s u x) is ok))
        where
          heir : (v : ℕ) → Allowed s u (Join v) → of (applied s u (Join v)) u
              ≡ learn u (of s u) (Join v) (reply_of s u (Join v))
          heir v ok =
              let there = other_worker s u v ok.event in
              (joins s u v (inside u ok.worker) (inside v there.1) there.0).heir
              ∙ sym (learn_joined u (of s u) v (of s v).ledgers
              ∙ cond-false (eqb u v) (resigned (of s u)) (inheriting (of s u) (of s v).ledgers)
              (ne_eqb u v (λ z. there.0 (sym z))))

  -- the leaver learns of a join as the heir does
  leaving : (e : Event) → Allowed s u e → is_leaver w e ≡ true
      → of (applied s u e) w ≡ learn w (of s w) e (reply_of s u e)
  leaving (Join v) ok is = subst (λ (x : ℕ). of (applied s u (Join v)) x
      ≡ learn x (of s x) (Join v) (reply_of s u (Join v))) (eqb-true v w is)
      (let there = other_worker s u v ok.event in
      (joins s u v (inside u ok.worker) (inside v there.1) there.0).leaver
      ∙ sym (learn_joined v (of s v) v (of s v).ledgers
      ∙ cond-true (eqb v v) (resigned (of s v)) (inheriting (of s v) (of s v).ledgers) (eq-eqb v v refl)))
  leaving e ok is = absurd (true≢false (sym is))

  pub partaking : (e : Event) → Allowed s u e → takes_part w u e ≡ true
      → of (applied s u e) w ≡ learn w (of s w) e (reply_of s u e)
  partaking e ok takes = elim (or_cases (u == w) (is_leaver w e) takes) [
    | inl own ↦ own_event e ok (eqb-true u w own)
    | inr leaver ↦ leaving e ok leaver
  ]

  pub apart : (e : Event) → Allowed s u e → takes_part w u e ≡ false → of (applied s u e) w ≡ of s w
  apart e ok none = go (join_or_not e)
    where
      parts : ((u == w) ≡ false) × (is_leaver w e ≡ false)
      parts = or_parts (u == w) (is_leaver w e) none

      other : w ≢ u
      other z = eqb-false u w parts.0 (sym z)

      go : JoinOrNot e → of (applied s u e) w ≡ of s w
      go (IsNone alone) = ap (λ (t : State). of t w) (applied_is s u e alone)
          ∙ (of_moved s u (write s.memory (of s u) u e) (learn u (of s u) e (reply_of s u e)) (inside u ok.worker) w
          ∙ cond-false (eqb w u) (learn u (of s u) e (reply_of s u e)) (of s w) (ne_eqb w u other))
      go (IsJoin v is) = subst (λ (x : Event). of (applied s u x) w ≡ of s w) (sym is)
          (far v (subst (λ (x : Event). Allowed s u x) is ok) (ap (is_leaver w) (sym is) ∙ parts.1))
        where
          far : (v : ℕ) → Allowed s u (Join v) → (v == w) ≡ false → of (applied s u (Join v)) w ≡ of s w
          far v ok ne =
              let there = other_worker s u v ok.event in
              (joins s u v (inside u ok.worker) (inside v there.1) there.0).others w other
              (λ z. eqb-false v w ne (sym z))

-- ---- whole runs

-- what a turn adds to a part
abbrev told_by : ℕ → ℕ × Event → Result Reply Refused → List Entry
told_by w t o = cond (takes_part w t.0 t.1) (logged_by (record { worker = t.0; event = t.1; outcome = o })) []

module _ (w : ℕ) where
  part_from : (c : Configuration) (t : ℕ × Event) (ts : List (ℕ × Event)) (o : Result Reply Refused)
      → outcome_in c t ≡ o → part_of w (trace_in c (t ∷ ts)) ≡ told_by w t o ++ part_of w (trace_in (next_in c t) ts)
  unfolding trace_in
  part_from c t ts o is = ap (λ (o : Result Reply Refused). told_by w t o ++ part_of w (trace_in (next_in c t) ts)) is

  -- a turn that is refused, or of another, adds nothing
  nothing : (b : Bool) (log : List Entry) → cond b [] [] ++ log ≡ log
  nothing true log = refl
  nothing false log = refl

  pub refused_adds : (c : Configuration) (t : ℕ × Event) (ts : List (ℕ × Event)) (r : Refused)
      → refused_in c t.0 t.1 ≡ Some r → part_of w (trace_in c (t ∷ ts)) ≡ part_of w (trace_in c ts)
  refused_adds c t ts r is = part_from c t ts (Err r) (refused_outcome c t r is)
      ∙ (nothing (takes_part w t.0 t.1) (part_of w (trace_in (next_in c t) ts))
      ∙ ap (λ (d : Configuration). part_of w (trace_in d ts)) (refused_next c t r is))

  pub others_add : (c : Configuration) (t : ℕ × Event) (ts : List (ℕ × Event)) → refused_in c t.0 t.1 ≡ None
      → takes_part w t.0 t.1 ≡ false → part_of w (trace_in c (t ∷ ts)) ≡ part_of w (trace_in (next_in c t) ts)
  others_add c t ts is none = part_from c t ts (Ok (reply_of c.state t.0 t.1)) (allowed_outcome c t is)
      ∙ ap (λ (b : Bool). cond b ((t.1, reply_of c.state t.0 t.1) ∷ []) [] ++ part_of w (trace_in (next_in c t) ts))
      none

  pub own_adds : (c : Configuration) (t : ℕ × Event) (ts : List (ℕ × Event)) → refused_in c t.0 t.1 ≡ None
      → takes_part w t.0 t.1 ≡ true → part_of w (trace_in c (t ∷ ts))
      ≡ (t.1, reply_of c.state t.0 t.1) ∷ part_of w (trace_in (next_in c t) ts)
  own_adds c t ts is takes = part_from c t ts (Ok (reply_of c.state t.0 t.1)) (allowed_outcome c t is)
      ∙ ap (λ (b : Bool). cond b ((t.1, reply_of c.state t.0 t.1) ∷ []) [] ++ part_of w (trace_in (next_in c t) ts))
      takes

  -- a turn that is allowed leaves the state that follows
  pub next_state : (c : Configuration) (t : ℕ × Event) → refused_in c t.0 t.1 ≡ None
      → (next_in c t).state ≡ applied c.state t.0 t.1
  unfolding applied_in
  next_state c t is = ap (λ (d : Configuration). d.state) (allowed_next c t is)

  staffed_next : (c : Configuration) (t : ℕ × Event) → Staffed c.state → Staffed (next_in c t).state
  staffed_next c t staffed = go (refused_in c t.0 t.1) refl
    where
      go : (o : Option Refused) → refused_in c t.0 t.1 ≡ o → Staffed (next_in c t).state
      go (Some r) is = subst (λ (d : Configuration). Staffed d.state) (sym (refused_next c t r is)) staffed
      go None is = subst Staffed (sym (next_state c t is)) (staffed_step c.state t.0 t.1 staffed)

  -- what is known behind a run is what its part tells
  pub tells : (ts : List (ℕ × Event)) (c : Configuration) → Staffed c.state
      → of (after_in c ts).state w ≡ known_after w (of c.state w) (part_of w (trace_in c ts))
  unfolding after_in trace_in
  tells [] c staffed = refl
  tells (t ∷ ts) c staffed = go (refused_in c t.0 t.1) refl (tells ts (next_in c t) (staffed_next c t staffed))
    where
      go : (o : Option Refused) → refused_in c t.0 t.1 ≡ o
          → of (after_in (next_in c t) ts).state w ≡ known_after w (of (next_in c t).state w)
          (part_of w (trace_in (next_in c t) ts))
          → of (after_in (next_in c t) ts).state w ≡ known_after w (of c.state w) (part_of w (trace_in c (t ∷ ts)))
      go (Some r) is rest = rest ∙ (ap (λ (d : Configuration). known_after w (of d.state w)
          (part_of w (trace_in d ts))) (refused_next c t r is)
          ∙ sym (ap (known_after w (of c.state w)) (refused_adds c t ts r is)))
      go None is rest = by (takes_part w t.0 t.1) refl
        where
          ok : Allowed c.state t.0 t.1
          ok = allowed c.state t.0 t.1 (allowed_by_state c t.0 t.1 is)

          by : (b : Bool) → takes_part w t.0 t.1 ≡ b → of (after_in (next_in c t) ts).state w
              ≡ known_after w (of c.state w) (part_of w (trace_in c (t ∷ ts)))
          by true takes = rest ∙ (ap (λ (k : Knowledge). known_after w k (part_of w (trace_in (next_in c t) ts)))
              (ap (λ (s : State). of s w) (next_state c t is) ∙ partaking c.state staffed t.0 w t.1 ok takes)
              ∙ sym (ap (known_after w (of c.state w)) (own_adds c t ts is takes)))
          by false none = rest ∙ (ap (λ (k : Knowledge). known_after w k (part_of w (trace_in (next_in c t) ts)))
              (ap (λ (s : State). of s w) (next_state c t is) ∙ apart c.state staffed t.0 w t.1 ok none)
              ∙ sym (ap (known_after w (of c.state w)) (others_add c t ts is none)))

pub logs_tell : LogsTellWhatIsKnown
logs_tell L ts w below = tells w ts (ordered L) (staffed_start L)
    ∙ ap (λ (k : Knowledge). known_after w k (part_of w (trace_in (ordered L) ts))) (all_new L w)

-- ---- searches: a join tells a search nothing

join_tells_nothing : (w : ℕ) (s : Search) (e : Event) (r : Reply) → is_leaver w e ≡ true → searched s e r ≡ s
unfolding searched
join_tells_nothing w s (Join v) r is = refl
join_tells_nothing w s e r is = absurd (true≢false (sym is))

pub part_tells_search : (w : ℕ) (turns : List Turn) (s : Search)
    → search_after s (part_of w turns) ≡ search_after s (log_of w turns)
part_tells_search w [] s = refl
part_tells_search w (t ∷ ts) s = go (t.worker == w) (is_leaver w t.event) refl t.outcome (part_tells_search w ts)
  where
    go : (a b : Bool) → is_leaver w t.event ≡ b → (o : Result Reply Refused)
        → ((s : Search) → search_after s (part_of w ts) ≡ search_after s (log_of w ts))
        → search_after s (cond (a || b) (logged_by (record { worker = t.worker; event = t.event; outcome = o })) []
        ++ part_of w ts) ≡ search_after s (cond a (logged_by
        (record { worker = t.worker; event = t.event; outcome = o })) [] ++ log_of w ts)
    go true b is (Ok r) rest = rest (searched s t.event r)
    go true b is (Err x) rest = rest s
    go false false is o rest = rest s
    go false true is (Ok r) rest = ap (λ (x : Search). search_after x (part_of w ts))
        (join_tells_nothing w s t.event r is) ∙ rest s
    go false true is (Err x) rest = rest s
