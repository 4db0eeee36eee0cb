-- Configurations: an ordered run is a run, a core without searches runs as its state, and what each
-- configuration that is reached keeps.
use Rattle.std.proofs.Common.{◌≡◌, ℕ, zero, suc, ◌+◌, ◌<◌, Bool, true, false, List, [], ◌∷◌, ◌++◌, length, map, take, get_or, refl, sym, ap, subst, ◌∙◌, length-set, arith, Result, Ok, Err, OnOk, OnErr}
use Rattle.std.proofs.lemmas.List.{take_more, length-map, length-replicate}
use Rattle.std.proofs.lemmas.List.Elements.{All-append}
use Rattle.std.specs.Prelude.{Option, Some, None, IfSome, All, option_map}
use Rattle.nm_edge.specs.Layouts.{Layout, IsLayout}
use Rattle.nm_model.specs.declared.event.Event.{Event}
use Rattle.nm_model.specs.declared.reply.Reply.{Reply}
use Rattle.nm_model.specs.declared.reply.Refused.{Refused}
use Rattle.nm_model.specs.declared.trace.Turn.{Turn}
use Rattle.nm_model.specs.Maps.{or_else}
use Rattle.nm_model.specs.Answers.{IsAnswer}
use Rattle.nm_model.specs.Searches.{Search, idle}
use Rattle.nm_model.specs.Rooms.{Roomy, searches_of}
use Rattle.nm_model.specs.Runs.{State, start, refused, reply_of, applied, next, outcome, answered, unless_refused, after, trace}
use Rattle.nm_laws.proofs.Reaches.{IsReachable}
use Rattle.nm_model.specs.Ordered.{Configuration, plain, ordered, opening_of, learned_from, disorder_in, refused_in, applied_in, unless_refused_in, next_in, outcome_in, after_in, trace_in, HasKey, IsReached, accepted, turn_of, IsRunOfAccepted, OrderedRunsAreRuns, PlainRunsAreRuns}

-- ---- one event

or_else_none : {X : Type 0} (o : Option X) → or_else o None ≡ o
or_else_none None = refl
or_else_none (Some x) = refl

-- without searches an event is refused as in its state
pub refused_plain : (s : State) (w : ℕ) (e : Event)
    → refused_in (record { state = s; searches = None }) w e ≡ refused s w e
unfolding refused_in
refused_plain s w e = or_else_none (refused s w e)

-- what a configuration allows, its state allows
pub allowed_by_state : (c : Configuration) (w : ℕ) (e : Event) → refused_in c w e ≡ None → refused c.state w e ≡ None
unfolding refused_in
allowed_by_state c w e = go (refused c.state w e) (disorder_in c w e)
  where
    go : (o d : Option Refused) → or_else o d ≡ None → o ≡ None
    go None d is = refl
    go (Some r) d is = is

module _ (c : Configuration) (t : ℕ × Event) where
  pub refused_next : (r : Refused) → refused_in c t.0 t.1 ≡ Some r → next_in c t ≡ c
  unfolding next_in
  refused_next r is = ap (λ (o : Option Refused). unless_refused_in o c (applied_in c t.0 t.1)) is

  pub refused_outcome : (r : Refused) → refused_in c t.0 t.1 ≡ Some r → outcome_in c t ≡ Err r
  unfolding outcome_in
  refused_outcome r is = ap (λ (o : Option Refused). answered o (reply_of c.state t.0 t.1)) is

  pub allowed_next : refused_in c t.0 t.1 ≡ None → next_in c t ≡ applied_in c t.0 t.1
  unfolding next_in
  allowed_next is = ap (λ (o : Option Refused). unless_refused_in o c (applied_in c t.0 t.1)) is

  pub allowed_outcome : refused_in c t.0 t.1 ≡ None → outcome_in c t ≡ Ok (reply_of c.state t.0 t.1)
  unfolding outcome_in
  allowed_outcome is = ap (λ (o : Option Refused). answered o (reply_of c.state t.0 t.1)) is

  pub allowed_state : refused_in c t.0 t.1 ≡ None → next c.state t ≡ (next_in c t).state
  unfolding next applied_in
  allowed_state is = ap (λ (o : Option Refused). unless_refused o c.state (applied c.state t.0 t.1))
      (allowed_by_state c t.0 t.1 is) ∙ ap (λ (d : Configuration). d.state) (sym (allowed_next is))

  pub state_outcome : refused_in c t.0 t.1 ≡ None → outcome c.state t ≡ Ok (reply_of c.state t.0 t.1)
  unfolding outcome
  state_outcome is = ap (λ (o : Option Refused). answered o (reply_of c.state t.0 t.1)) (allowed_by_state c t.0 t.1 is)

-- ---- an ordered run is a run

-- a turn as the trace tells it
abbrev told_in : Configuration → ℕ × Event → Turn
told_in c t = record { worker = t.0; event = t.1; outcome = outcome_in c t }

pub ordered_runs : OrderedRunsAreRuns
unfolding after_in trace_in after trace
ordered_runs c [] = (refl, refl)
ordered_runs c (t ∷ ts) = go (refused_in c t.0 t.1) refl (ordered_runs (next_in c t) ts)
  where
    go : (o : Option Refused) → refused_in c t.0 t.1 ≡ o
        → IsRunOfAccepted (next_in c t).state (trace_in (next_in c t) ts) (after_in (next_in c t) ts).state
        → IsRunOfAccepted c.state (told_in c t ∷ trace_in (next_in c t) ts) (after_in (next_in c t) ts).state
    go (Some r) is rest = rw (refused_outcome c t r is)
        (subst (λ (s : State). IsRunOfAccepted s (trace_in (next_in c t) ts) (after_in (next_in c t) ts).state)
        (ap (λ (d : Configuration). d.state) (refused_next c t r is)) rest)
    go None is rest = rw (allowed_outcome c t is) (by (sym (allowed_state c t is)))
      where
        by : (next_in c t).state ≡ next c.state t → IsRunOfAccepted c.state
            (record { worker = t.0; event = t.1; outcome = Ok (reply_of c.state t.0 t.1) } ∷ trace_in (next_in c t) ts)
            (after_in (next_in c t) ts).state
        by same =
            let rest' = subst (λ (s : State). IsRunOfAccepted s (trace_in (next_in c t) ts)
            (after_in (next_in c t) ts).state) same rest in
            (rest'.0, λ i. record { worker = t.0; event = t.1; outcome = state_outcome c t is i } ∷ rest'.1 i)

-- ---- a core without searches runs as its state

-- a state alone
abbrev alone : State → Configuration
alone s = record { state = s; searches = None }

plain_next : (s : State) (t : ℕ × Event) → next_in (alone s) t ≡ alone (next s t)
unfolding next_in next applied_in
plain_next s t = ap (λ (o : Option Refused). unless_refused_in o (alone s) (alone (applied s t.0 t.1)))
    (refused_plain s t.0 t.1) ∙ go (refused s t.0 t.1)
  where
    go : (o : Option Refused) → unless_refused_in o (alone s) (alone (applied s t.0 t.1))
        ≡ alone (unless_refused o s (applied s t.0 t.1))
    go None = refl
    go (Some r) = refl

plain_outcome : (s : State) (t : ℕ × Event) → outcome_in (alone s) t ≡ outcome s t
unfolding outcome_in outcome
plain_outcome s t = ap (λ (o : Option Refused). answered o (reply_of s t.0 t.1)) (refused_plain s t.0 t.1)

pub plain_runs : PlainRunsAreRuns
unfolding after_in trace_in after trace
plain_runs s [] = (refl, refl)
plain_runs s (t ∷ ts) =
    let rest = plain_runs (next s t) ts in (
      ap (λ (c : Configuration). after_in c ts) (plain_next s t) ∙ rest.0,
      λ i. record { worker = t.0; event = t.1; outcome = plain_outcome s t i }
          ∷ (ap (λ (c : Configuration). trace_in c ts) (plain_next s t) ∙ rest.1) i,
    )

-- ---- runs one behind the other

pub after_in-append : (c : Configuration) (ts us : List (ℕ × Event))
    → after_in c (ts ++ us) ≡ after_in (after_in c ts) us
unfolding after_in
after_in-append c [] us = refl
after_in-append c (t ∷ ts) us = after_in-append (next_in c t) ts us

-- the configuration after one turn more
pub after_in-more : (c : Configuration) (ts : List (ℕ × Event)) (i : ℕ) (d : ℕ × Event) → i < length ts
    → after_in c (take (i + 1) ts) ≡ next_in (after_in c (take i ts)) (get_or ts i d)
unfolding after_in
after_in-more c ts i d below = ap (after_in c) (take_more ts i d below)
    ∙ after_in-append c (take i ts) (get_or ts i d ∷ [])

-- ---- what each configuration that is reached keeps

-- the keys of one turn more
pub keys_more : (ts : List (ℕ × Event)) (t : ℕ × Event) → All (λ u. HasKey u.1) ts → HasKey t.1
    → All (λ u. HasKey u.1) (ts ++ t ∷ [])
keys_more ts t keys key = All-append (λ (u : ℕ × Event). HasKey u.1) ts (t ∷ []) keys one
  where
    one : (i : ℕ) (d : ℕ × Event) → i < 1 → HasKey (get_or (t ∷ []) i d).1
    one zero d below = key
    one (suc i) d below = absurd (omega arith)

no_keys : All (λ (t : ℕ × Event). HasKey t.1) []
no_keys i d below = absurd (omega (arith, below))

pub reached_plain : (L : Layout) → IsLayout L → IsReached (plain L)
unfolding after_in
reached_plain L fits = record { is_ordered = false; fits = fits; events = []; keys = no_keys; leads = refl }

pub reached_ordered : (L : Layout) → IsLayout L → IsReached (ordered L)
unfolding after_in
reached_ordered L fits = record { is_ordered = true; fits = fits; events = []; keys = no_keys; leads = refl }

-- a property of the opening that each event keeps is one of what is reached
by_events : (P : Configuration → Type 0) → ((c : Configuration) (w : ℕ) (e : Event) → P c → P (applied_in c w e))
    → (ts : List (ℕ × Event)) (c : Configuration) → P c → P (after_in c ts)
unfolding after_in
by_events P step [] c p = p
by_events P step (t ∷ ts) c p = by_events P step ts (next_in c t) (go (refused_in c t.0 t.1) refl)
  where
    go : (o : Option Refused) → refused_in c t.0 t.1 ≡ o → P (next_in c t)
    go (Some r) is = rw (refused_next c t r is) p
    go None is = rw (allowed_next c t is) (step c t.0 t.1 p)

pub same_layout : (c : Configuration) (w : ℕ) (e : Event) → (applied_in c w e).state.layout ≡ c.state.layout
unfolding applied_in applied
same_layout c w e = refl

pub reached_next : (c : Configuration) (t : ℕ × Event) → HasKey t.1 → IsReached c → IsReached (next_in c t)
unfolding after_in
reached_next c t key r = record {
  is_ordered = r.is_ordered;
  fits = rw kept r.fits;
  events = r.events ++ t ∷ [];
  keys = keys_more r.events t r.keys key;
  leads = ap (λ (L : Layout). after_in (opening_of L r.is_ordered) (r.events ++ t ∷ [])) kept
      ∙ (after_in-append (opening_of c.state.layout r.is_ordered) r.events (t ∷ [])
      ∙ ap (λ (d : Configuration). next_in d t) r.leads);
}
  where
    kept : (next_in c t).state.layout ≡ c.state.layout
    kept = by_events (λ d. d.state.layout ≡ c.state.layout) (λ d w e same. same_layout d w e ∙ same) (t ∷ []) c refl

pub reached_applied : (c : Configuration) (w : ℕ) (e : Event) → HasKey e → refused_in c w e ≡ None → IsReached c
    → IsReached (applied_in c w e)
reached_applied c w e key allowed r = subst IsReached (allowed_next c (w, e) allowed) (reached_next c (w, e) key r)

-- whatever was answered, what is left is reached
pub reached_answered : (c new : Configuration) (w : ℕ) (e : Event) (reply : Reply) (result : Result Reply Refused)
    → HasKey e → IsReached c → IsAnswer (refused_in c w e) reply result
    → OnOk result (new ≡ applied_in c w e) → OnErr result (new ≡ c) → IsReached new
reached_answered c new w e reply (Ok r) key reached answer ok err = rw ok (reached_applied c w e key answer.0 reached)
reached_answered c new w e reply (Err why) key reached answer ok err = rw err reached

pub opening_state : (L : Layout) (b : Bool) → (opening_of L b).state ≡ start L
opening_state L true = refl
opening_state L false = refl

-- the state of a configuration that is reached is one to which events lead
pub reached_state : (c : Configuration) → IsReached c → IsReachable c.state
reached_state c r = record {
  fits = r.fits;
  events = map turn_of (accepted (trace_in (opening_of c.state.layout r.is_ordered) r.events));
  leads = ap (λ (s : State). after s (map turn_of (accepted
      (trace_in (opening_of c.state.layout r.is_ordered) r.events)))) (sym (opening_state c.state.layout r.is_ordered))
      ∙ (sym (ordered_runs (opening_of c.state.layout r.is_ordered) r.events).0
      ∙ ap (λ (d : Configuration). d.state) r.leads);
}

-- there is a search for each worker
abbrev IsSized : Configuration → Type 0
IsSized c = IfSome c.searches (λ ss. length ss ≡ c.state.layout.workers)

sized_opening : (L : Layout) (b : Bool) → IsSized (opening_of L b)
sized_opening L true = length-replicate L.workers idle
sized_opening L false = tt

sized_step : (c : Configuration) (w : ℕ) (e : Event) → IsSized c → IsSized (applied_in c w e)
unfolding applied_in applied
sized_step c w e sized = go c.searches sized
  where
    go : (o : Option (List Search)) → IfSome o (λ ss. length ss ≡ c.state.layout.workers)
        → IfSome (option_map (λ ss. learned_from ss w e (reply_of c.state w e)) o)
        (λ ss. length ss ≡ c.state.layout.workers)
    go None sized = tt
    go (Some ss) sized = length-set ss w _ ∙ sized

pub reached_sized : (c : Configuration) → IsReached c → IsSized c
reached_sized c r = subst IsSized r.leads (by_events IsSized sized_step r.events
    (opening_of c.state.layout r.is_ordered) (sized_opening c.state.layout r.is_ordered))

-- as the code keeps the searches
pub reached_roomy : (s : State) (ss : List Roomy)
    → IsReached (record { state = s; searches = Some (searches_of ss) }) → length ss ≡ s.layout.workers
reached_roomy s ss r = sym (length-map ss (λ (x : Roomy). x.tells))
    ∙ reached_sized (record { state = s; searches = Some (searches_of ss) }) r

-- ---- an event as the code applies it

pub plain_answer : (s : State) (w : ℕ) (e : Event) (result : Result Reply Refused)
    → IsAnswer (refused s w e) (reply_of s w e) result
    → IsAnswer (refused_in (record { state = s; searches = None }) w e) (reply_of s w e) result
plain_answer s w e result answer = rw (refused_plain s w e) answer

pub plain_ok : (s new : State) (w : ℕ) (e : Event) (result : Result Reply Refused) → OnOk result (new ≡ applied s w e)
    → OnOk result (record { state = new; searches = None } ≡ applied_in (record { state = s; searches = None }) w e)
unfolding applied_in
plain_ok s new w e (Ok r) is = ap alone is
plain_ok s new w e (Err why) is = tt

pub ordered_ok : (s new : State) (ss after : List Roomy) (w : ℕ) (e : Event) (result : Result Reply Refused)
    → OnOk result (new ≡ applied s w e) → OnOk result
    (searches_of after ≡ learned_from (searches_of ss) w e (reply_of s w e))
    → OnOk result (record { state = new; searches = Some (searches_of after) }
    ≡ applied_in (record { state = s; searches = Some (searches_of ss) }) w e)
unfolding applied_in
ordered_ok s new ss after w e (Ok r) is learned = λ i. record { state = is i; searches = Some (learned i) }
ordered_ok s new ss after w e (Err why) is learned = tt

pub ordered_err : (s new : State) (ss after : List Roomy) (result : Result Reply Refused) → OnErr result (new ≡ s)
    → OnErr result (searches_of after ≡ searches_of ss)
    → OnErr result (◌≡◌ {A = Configuration} (record { state = new; searches = Some (searches_of after) })
    (record { state = s; searches = Some (searches_of ss) }))
ordered_err s new ss after (Ok r) is same = tt
ordered_err s new ss after (Err why) is same = λ i. record { state = is i; searches = Some (same i) }

-- what the code keeps of a core after an event
abbrev as_kept : State → Option (List Roomy) → Configuration
as_kept s o = record { state = s; searches = option_map searches_of o }

module _ (s new : State) (w : ℕ) (e : Event) (result : Result Reply Refused) where
  pub plain_reached : (o : Option (List Roomy)) → o ≡ None → HasKey e → IsReached (as_kept s o)
      → IsAnswer (refused s w e) (reply_of s w e) result → OnOk result (new ≡ applied s w e) → OnErr result (new ≡ s)
      → IsReached (as_kept new o)
  plain_reached o is key r answer ok err = rw is (reached_answered (alone s) (alone new) w e (reply_of s w e) result
      key (subst (λ o. IsReached (as_kept s o)) is r) (plain_answer s w e result answer) (plain_ok s new w e result ok)
      (back result err))
    where
      back : (result : Result Reply Refused) → OnErr result (new ≡ s) → OnErr result (alone new ≡ alone s)
      back (Ok r) err = tt
      back (Err why) err = ap alone err

  pub plain_outcome_kept : (o : Option (List Roomy)) → o ≡ None → IsAnswer (refused s w e) (reply_of s w e) result
      → IsAnswer (refused_in (as_kept s o) w e) (reply_of s w e) result
  plain_outcome_kept o is answer = rw is (plain_answer s w e result answer)

  pub plain_ok_kept : (o : Option (List Roomy)) → o ≡ None → OnOk result (new ≡ applied s w e)
      → OnOk result (as_kept new o ≡ applied_in (as_kept s o) w e)
  plain_ok_kept o is ok = rw is (plain_ok s new w e result ok)

  pub ordered_reached : (o : Option (List Roomy)) (ss after : List Roomy) → o ≡ Some ss → HasKey e
      → IsReached (as_kept s o) → IsAnswer (refused_in (as_kept s (Some ss)) w e) (reply_of s w e) result
      → OnOk result (new ≡ applied s w e)
      → OnOk result (searches_of after ≡ learned_from (searches_of ss) w e (reply_of s w e)) → OnErr result (new ≡ s)
      → OnErr result (searches_of after ≡ searches_of ss) → IsReached (as_kept new (Some after))
  ordered_reached o ss after is key r answer ok learned err same = reached_answered (as_kept s (Some ss))
      (as_kept new (Some after)) w e (reply_of s w e) result key (subst (λ o. IsReached (as_kept s o)) is r) answer
      (ordered_ok s new ss after w e result ok learned) (ordered_err s new ss after result err same)

  pub ordered_ok_kept : (o : Option (List Roomy)) (ss after : List Roomy) → o ≡ Some ss
      → OnOk result (new ≡ applied s w e) → OnOk result
      (searches_of after ≡ learned_from (searches_of ss) w e (reply_of s w e))
      → OnOk result (as_kept new (Some after) ≡ applied_in (as_kept s o) w e)
  ordered_ok_kept o ss after is ok learned = rw is (ordered_ok s new ss after w e result ok learned)

pub roomy_kept : (s : State) (o : Option (List Roomy)) (ss : List Roomy) → o ≡ Some ss → IsReached (as_kept s o)
    → length ss ≡ s.layout.workers
roomy_kept s o ss is r = reached_roomy s ss (subst (λ o. IsReached (as_kept s o)) is r)
