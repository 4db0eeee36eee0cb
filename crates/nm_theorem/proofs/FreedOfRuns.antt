-- What was freed of each worker's cuts and then what waits are these cuts, by the turns alone.
use Rattle.std.proofs.Common.{◌≡◌, ℕ, zero, suc, ◌+◌, ◌-◌, ◌<◌, ◌≤◌, ◌==◌, inl, inr, ◌⊎◌, Bool, true, false, cond, not, List, [], ◌∷◌, ◌++◌, length, map, append_assoc, refl, sym, ap, subst, ◌∙◌, arith, true≢false}
use Rattle.std.specs.Prelude.{Option, Some, None, is_some, Result, Ok, Err, Contains, filter, slice_get}
use Rattle.std.proofs.lemmas.Bool.{cond-true, cond-false, cases_lt, false_from_ne_true, le-leb, eqb-true}
use Rattle.std.proofs.lemmas.Option.{none-some, same_Some, slice_get-get_or, slice_get_within, get_or_from_slice_get}
use Rattle.std.proofs.lemmas.List.Elements.{filter-append, Contains-append_left, Contains-append_right, Contains-append_cases}
use Rattle.nm_edge.specs.Layouts.{Layout, IsLayout}
use Rattle.nm_edge.specs.declared.node.NodeId.{NodeId}
use Rattle.nm_model.specs.declared.event.Event.{Event}
use Rattle.nm_model.specs.declared.reply.Reply.{Reply}
use Rattle.nm_model.specs.declared.reply.Reply.TheVariants.{Freed}
use Rattle.nm_model.specs.declared.reply.Refused.{Refused}
use Rattle.nm_model.specs.declared.reply.Refused.TheVariants.{NoWorker}
use Rattle.nm_model.specs.declared.trace.Turn.{Turn}
use Rattle.nm_model.specs.declared.ledger.Queued.{Queued}
use Rattle.nm_model.specs.declared.ledger.Ledger.{Ledger}
use Rattle.nm_model.specs.Maps.{or_else}
use Rattle.nm_model.specs.Ledgers.{held}
use Rattle.nm_model.specs.Runs.{State, of, start, after, trace, refused, outcome}
use Rattle.nm_model.specs.Laws.{node_in, OneHolder, FreesAFront, NoNodeTwice}
use Rattle.nm_model.specs.Ordered.{Configuration, opening_of, refused_in, next_in, outcome_in, after_in, trace_in, accepted, turn_of, disorder_in}
use Rattle.nm_model.proofs.Lists.{get_right, get_stays}
use Rattle.nm_laws.proofs.Configurations.{ordered_runs, refused_outcome, allowed_outcome, state_outcome, opening_state}
use Rattle.nm_laws.proofs.FreedNodes.{IsIn, among_in, in_among, frees_front, each_queue_is_the_rest}
use Rattle.nm_laws.proofs.Once.{no_node_is_cut_twice}
use Rattle.nm_laws.proofs.Retired.{is_the_cuts, each_ledger_has_one_holder}
use Rattle.nm_laws.proofs.Outcomes.{no_reply}
use Rattle.nm_model.specs.Headline.{nodes_cut_of, nodes_freed_of, cuts_of, freed_by, is_among, freed_of, waits_of, AreFreedInTurn}
use Rattle.nm_theorem.proofs.Runs.{Parts, parts_of, Head, head_of, enough_of, lawful_opening, lawful_after, layout_next}
use Rattle.nm_theorem.proofs.GraceOfRuns.{freed_outcome}

-- ---- refused turns

nothing : {X : Type 0} (b : Bool) → ◌≡◌ {A = List X} (cond b [] []) []
nothing true = refl
nothing false = refl

-- refused turns cut and free nothing
accepted_cuts : (w : ℕ) (ts : List Turn) → cuts_of w (accepted ts) ≡ cuts_of w ts
accepted_cuts w [] = refl
accepted_cuts w (t ∷ ts) = go t.outcome (accepted_cuts w ts)
  where
    go : (o : Result Reply Refused) → cuts_of w (accepted ts) ≡ cuts_of w ts
        → cuts_of w (accepted (record { worker = t.worker; event = t.event; outcome = o } ∷ ts))
        ≡ cuts_of w (record { worker = t.worker; event = t.event; outcome = o } ∷ ts)
    go (Ok r) rest = ap (λ (l : List NodeId). cond (t.worker == w) (nodes_cut_of (Ok r)) [] ++ l) rest
    go (Err x) rest = rest ∙ ap (λ (l : List NodeId). l ++ cuts_of w ts) (sym (nothing (t.worker == w)))

accepted_frees : (ts : List Turn) → freed_by (accepted ts) ≡ freed_by ts
accepted_frees [] = refl
accepted_frees (t ∷ ts) = go t.outcome (accepted_frees ts)
  where
    go : (o : Result Reply Refused) → freed_by (accepted ts) ≡ freed_by ts
        → freed_by (accepted (record { worker = t.worker; event = t.event; outcome = o } ∷ ts))
        ≡ freed_by (record { worker = t.worker; event = t.event; outcome = o } ∷ ts)
    go (Ok r) rest = ap (λ (l : List NodeId). nodes_freed_of (Ok r) ++ l) rest
    go (Err x) rest = rest

pub cuts-append : (w : ℕ) (ts us : List Turn) → cuts_of w (ts ++ us) ≡ cuts_of w ts ++ cuts_of w us
cuts-append w [] us = refl
cuts-append w (t ∷ ts) us = ap (λ (l : List NodeId). cond (t.worker == w) (nodes_cut_of t.outcome) [] ++ l)
    (cuts-append w ts us) ∙ sym (append_assoc (cond (t.worker == w) (nodes_cut_of t.outcome) []) (cuts_of w ts)
    (cuts_of w us))

-- ---- filters

none_pass : {X : Type 0} (p : X → Bool) (xs : List X) → ((i : ℕ) (x : X) → slice_get xs i ≡ Some x → p x ≡ false)
    → filter p xs ≡ []
none_pass p [] none = refl
none_pass p (x ∷ xs) none = cond-false (p x) (x ∷ filter p xs) (filter p xs) (none 0 x refl)
    ∙ none_pass p xs (λ i y at. none (suc i) y at)

all_pass : {X : Type 0} (p : X → Bool) (xs : List X) → ((i : ℕ) (x : X) → slice_get xs i ≡ Some x → p x ≡ true)
    → filter p xs ≡ xs
all_pass p [] all = refl
all_pass p (x ∷ xs) all = cond-true (p x) (x ∷ filter p xs) (filter p xs) (all 0 x refl)
    ∙ ap (λ (ys : List _). x ∷ ys) (all_pass p xs (λ i y at. all (suc i) y at))

-- what passes is of the list
passed_in : (p : NodeId → Bool) (xs : List NodeId) (i : ℕ) (x : NodeId) → slice_get (filter p xs) i ≡ Some x → IsIn xs x
passed_in p [] i x at = absurd (none-some x at)
passed_in p (y ∷ xs) i x at = go (p y) i at (λ j at. passed_in p xs j x at)
  where
    go : (b : Bool) (i : ℕ) → slice_get (cond b (y ∷ filter p xs) (filter p xs)) i ≡ Some x
        → ((j : ℕ) → slice_get (filter p xs) j ≡ Some x → IsIn xs x) → IsIn (y ∷ xs) x
    go true zero at later = (0, at)
    go true (suc i) at later = let k = later i at in (suc k.0, k.1)
    go false i at later = let k = later i at in (suc k.0, k.1)

-- and what is of the list and passes is among those that pass
passes : (p : NodeId → Bool) (xs : List NodeId) (i : ℕ) (x : NodeId) → slice_get xs i ≡ Some x → p x ≡ true
    → IsIn (filter p xs) x
passes p [] i x at is = absurd (none-some x at)
passes p (y ∷ xs) zero x at is = (
  0,
  ap (λ (zs : List NodeId). slice_get zs 0)
      (cond-true (p y) (y ∷ filter p xs) (filter p xs) (ap p (same_Some y x at) ∙ is)) ∙ at,
)
passes p (y ∷ xs) (suc i) x at is = go (p y) (passes p xs i x at is)
  where
    go : (b : Bool) → IsIn (filter p xs) x → IsIn (cond b (y ∷ filter p xs) (filter p xs)) x
    go true k = (suc k.0, k.1)
    go false k = k

in_contained : (xs : List NodeId) (n : NodeId) → IsIn xs n → Contains xs n
in_contained xs n at = (at.0, slice_get_within xs at.0 n at.1, get_or_from_slice_get xs at.0 n n at.1)

contained_in : (xs : List NodeId) (n : NodeId) → Contains xs n → IsIn xs n
contained_in xs n c = (c.0, slice_get-get_or xs c.0 n c.1 ∙ ap Some c.2)

-- ---- a list that is what was freed and then the rest, with no node twice

module _ (cuts freed rest all : List NodeId) (once : (i j : ℕ) (n : NodeId) → slice_get cuts i ≡ Some n
    → slice_get cuts j ≡ Some n → i ≡ j)
    (freed_is : freed ≡ filter (is_among cuts) all) (split : freed ++ rest ≡ cuts) where
  waits : NodeId → Bool
  waits n = not (is_among all n)

  is_freed : (i : ℕ) (n : NodeId) → slice_get freed i ≡ Some n → waits n ≡ false
  unfolding waits
  is_freed i n at = ap not (among_in all n (passed_in (is_among cuts) all i n
      (ap (λ (ns : List NodeId). slice_get ns i) (sym freed_is) ∙ at)))

  is_waiting : (i : ℕ) (n : NodeId) → slice_get rest i ≡ Some n → waits n ≡ true
  unfolding waits
  is_waiting i n at = ap not (false_from_ne_true (is_among all n) apart)
    where
      here : slice_get cuts (length freed + i) ≡ Some n
      here = ap (λ (ns : List NodeId). slice_get ns (length freed + i)) (sym split)
          ∙ (get_right freed rest (length freed + i) (omega arith)
          ∙ (ap (slice_get rest) (let e : (length freed + i) - length freed ≡ i = omega arith in e) ∙ at))

      apart : is_among all n ≡ true → ⊥
      apart among =
          let k = in_among all n among in
          let f = passes (is_among cuts) all k.0 n k.1 (among_in cuts n (length freed + i, here)) in
          let at_freed : slice_get freed f.0 ≡ Some n = ap (λ (ns : List NodeId). slice_get ns f.0) freed_is ∙ f.1 in
          let below = slice_get_within freed f.0 n at_freed in
          let same = once f.0 (length freed + i) n (ap (λ (ns : List NodeId). slice_get ns f.0) (sym split)
          ∙ get_stays freed rest f.0 n at_freed) here in
          omega (arith, below, same)

  pub rest_waits : filter (λ n. not (is_among all n)) cuts ≡ rest
  unfolding waits
  rest_waits = ap (filter (λ n. not (is_among all n))) (sym split)
      ∙ (filter-append (λ n. not (is_among all n)) freed rest
      ∙ (ap (λ (ns : List NodeId). ns ++ filter (λ n. not (is_among all n)) rest)
      (none_pass (λ n. not (is_among all n)) freed is_freed) ∙ all_pass (λ n. not (is_among all n)) rest is_waiting))

-- ---- who is no worker cuts nothing

no_worker : (s : State) (w : ℕ) (e : Event) → s.layout.workers ≤ w → refused s w e ≡ Some NoWorker
unfolding refused
no_worker s w e past = rw (le-leb s.layout.workers w past) refl

none_cut : (w : ℕ) (ts : List (ℕ × Event)) (c : Configuration) → c.state.layout.workers ≤ w
    → cuts_of w (trace_in c ts) ≡ []
unfolding trace_in refused_in
none_cut w [] c past = refl
none_cut w (t ∷ ts) c past = ap (λ (l : List NodeId). l ++ cuts_of w (trace_in (next_in c t) ts))
    (go (t.0 == w) refl) ∙ none_cut w ts (next_in c t)
    (subst (λ (M : Layout). M.workers ≤ w) (sym (layout_next c t)) past)
  where
    go : (b : Bool) → (t.0 == w) ≡ b → cond b (nodes_cut_of (outcome_in c t)) [] ≡ []
    go false is = refl
    go true is = ap nodes_cut_of (refused_outcome c t NoWorker
        (ap (λ (o : Option Refused). or_else o (disorder_in c t.0 t.1))
        (no_worker c.state t.0 t.1 (subst (λ (x : ℕ). c.state.layout.workers ≤ x) (sym (eqb-true t.0 w is)) past))))

-- ---- a turn that frees

pub record Freeing (turns : List Turn) (n : NodeId) : Type 0 where
  pub first : List Turn
  pub turn : Turn
  pub rest : List Turn
  pub all : turns ≡ first ++ turn ∷ rest
  pub is : turn.outcome ≡ Ok (Freed n)

pub freeing : (turns : List Turn) (n : NodeId) → Contains (freed_by turns) n → Freeing turns n
freeing [] n there = absurd (let b = there.1 in omega (arith, b))
freeing (t ∷ ts) n there = go (Contains-append_cases (nodes_freed_of t.outcome) (freed_by ts) n there)
    (λ later. freeing ts n later)
  where
    go : Contains (nodes_freed_of t.outcome) n ⊎ Contains (freed_by ts) n → (Contains (freed_by ts) n → Freeing ts n)
        → Freeing (t ∷ ts) n
    go (inl here) rest = record { first = []; turn = t; rest = ts; all = refl; is = freed_outcome n t.outcome here }
    go (inr later) rest = let r = rest later in
        record {
          first = t ∷ r.first;
          turn = r.turn;
          rest = r.rest;
          all = ap (λ (us : List Turn). t ∷ us) r.all;
          is =
              r.is;
        }

-- what a configuration answers, its state answers
pub state_says : (c : Configuration) (t : ℕ × Event) (r : Reply) → outcome_in c t ≡ Ok r → outcome c.state t ≡ Ok r
state_says c t r is = go (refused_in c t.0 t.1) refl
  where
    go : (o : Option Refused) → refused_in c t.0 t.1 ≡ o → outcome c.state t ≡ Ok r
    go (Some q) why = absurd (no_reply q r (sym (refused_outcome c t q why) ∙ is))
    go None why = state_outcome c t why ∙ (sym (allowed_outcome c t why) ∙ is)

-- ---- runs

module _ (L : Layout) (fits : IsLayout L) (b : Bool) where
  module _ (ts : List (ℕ × Event)) where
    abbrev turns : List Turn
    turns = trace_in (opening_of L b) ts

    abbrev plain : List (ℕ × Event)
    plain = map turn_of (accepted turns)

    abbrev end : State
    end = (after_in (opening_of L b) ts).state

    plain_end : end ≡ after (start L) plain
    plain_end = (ordered_runs (opening_of L b) ts).0 ∙ ap (λ (s : State). after s plain) (opening_state L b)

    plain_trace : trace (start L) plain ≡ accepted turns
    plain_trace = ap (λ (s : State). trace s plain) (sym (opening_state L b)) ∙ (ordered_runs (opening_of L b) ts).1

    cuts_are : (o : ℕ) → cuts_of o (trace (start L) plain) ≡ cuts_of o turns
    cuts_are o = ap (cuts_of o) plain_trace ∙ accepted_cuts o turns

    frees_are : freed_by (trace (start L) plain) ≡ freed_by turns
    frees_are = ap freed_by plain_trace ∙ accepted_frees turns

    -- what somebody holds of an origin
    pub retired_is : (w o : ℕ) (l : Ledger) → held (of end w).ledgers o ≡ Some l → l.retired ≡ cuts_of o turns
    retired_is w o l is = is_the_cuts L plain w o l
        (ap (λ (s : State). held (of s w).ledgers o) (sym plain_end) ∙ is) ∙ cuts_are o

    pub split_is : (w o : ℕ) (l : Ledger) → held (of end w).ledgers o ≡ Some l
        → freed_of o turns ++ map node_in l.queue ≡ cuts_of o turns
    split_is w o l is = (λ i. filter (is_among (sym (cuts_are o) i)) (sym frees_are i) ++ map node_in l.queue)
        ∙ (each_queue_is_the_rest L (enough_of L fits) plain w o l
        (ap (λ (s : State). held (of s w).ledgers o) (sym plain_end) ∙ is) ∙ cuts_are o)

    pub record Holds (o : ℕ) : Type 0 where
      pub holder : ℕ
      pub ledger : Ledger
      pub is_held : held (of end holder).ledgers o ≡ Some ledger

    pub holds : (o : ℕ) → o < L.workers → Holds o
    holds o below = go (held (of end h.holder).ledgers o) refl
        (ap (λ (s : State). is_some (held (of s h.holder).ledgers o)) plain_end ∙ h.holds)
      where
        h : OneHolder (after (start L) plain) o
        h = each_ledger_has_one_holder L plain o below

        go : (x : Option Ledger) → held (of end h.holder).ledgers o ≡ x → is_some x ≡ true → Holds o
        go None is some = absurd (true≢false (sym some))
        go (Some l) is some = record { holder = h.holder; ledger = l; is_held = is }

    twice : NoNodeTwice end
    twice = subst NoNodeTwice (sym plain_end) (no_node_is_cut_twice L (enough_of L fits) plain)

    pub past_none : (w : ℕ) → L.workers ≤ w → cuts_of w turns ≡ []
    past_none w past = none_cut w ts (opening_of L b)
        (subst (λ (s : State). s.layout.workers ≤ w) (sym (opening_state L b)) past)

    pub once : (w v i j : ℕ) (n : NodeId) → slice_get (cuts_of w turns) i ≡ Some n
        → slice_get (cuts_of v turns) j ≡ Some n → (w ≡ v) × (i ≡ j)
    once w v i j n at there = elim (cases_lt w L.workers) [
      | inr past ↦ absurd (none-some n (ap (λ (ns : List NodeId). slice_get ns i) (sym (past_none w past)) ∙ at))
      | inl below ↦ elim (cases_lt v L.workers) [
        | inr past ↦ absurd (none-some n (ap (λ (ns : List NodeId). slice_get ns j) (sym (past_none v past)) ∙ there))
        | inl below' ↦ both (holds w below) (holds v below')
      ]
    ]
      where
        both : Holds w → Holds v → (w ≡ v) × (i ≡ j)
        both a d = twice a.holder d.holder w v i j a.ledger d.ledger n a.is_held d.is_held
            (ap (λ (ns : List NodeId). slice_get ns i) (retired_is a.holder w a.ledger a.is_held) ∙ at)
            (ap (λ (ns : List NodeId). slice_get ns j) (retired_is d.holder v d.ledger d.is_held) ∙ there)

    -- what waits of an origin's cuts is its queue
    pub waits_is : (w o : ℕ) (l : Ledger) → held (of end w).ledgers o ≡ Some l → waits_of o turns ≡ map node_in l.queue
    waits_is w o l is = rest_waits (cuts_of o turns) (freed_of o turns) (map node_in l.queue) (freed_by turns)
        (λ i j n at there. (once o o i j n at there).1) refl (split_is w o l is)

    pub past_waits : (w : ℕ) → L.workers ≤ w → waits_of w turns ≡ []
    past_waits w past = ap (filter (λ n. not (is_among (freed_by turns) n))) (past_none w past)

    queues : (w : ℕ) → freed_of w turns ++ waits_of w turns ≡ cuts_of w turns
    queues w = elim (cases_lt w L.workers) [
      | inl below ↦ (let h = holds w below in
          ap (λ (ns : List NodeId). freed_of w turns ++ ns) (waits_is h.holder w h.ledger h.is_held)
          ∙ split_is h.holder w h.ledger h.is_held)
      | inr past ↦ rw (past_none w past) (ap (λ (ns : List NodeId). ns ++ [])
          (none_pass (is_among []) (freed_by turns) (λ i x at. refl)))
    ]

  -- a freed node is one that was cut before
  only : (ts : List (ℕ × Event)) (n : NodeId) → Contains (freed_by (trace_in (opening_of L b) ts)) n
      → (w : ℕ) × Contains (cuts_of w (trace_in (opening_of L b) ts)) n
  only ts n there = by f
    where
      f : Freeing (trace_in (opening_of L b) ts) n
      f = freeing (trace_in (opening_of L b) ts) n there

      p : Parts (opening_of L b) ts f.first (f.turn ∷ f.rest)
      p = parts_of (opening_of L b) ts f.first (f.turn ∷ f.rest) f.all

      d : Configuration
      d = after_in (opening_of L b) p.early

      h : Head d p.late f.turn f.rest
      h = head_of d p.late f.turn f.rest (sym p.rest_is)

      front : FreesAFront d.state h.event n
      front = frees_front d.state (lawful_after p.early (opening_of L b) (lawful_opening L fits b)).law.staffed
          h.event.0 h.event.1 n (state_says d h.event (Freed n) (ap (λ (t : Turn). t.outcome) (sym h.turn_is) ∙ f.is))

      waiting : Contains (map node_in front.before.queue) n
      waiting = subst (λ (q : List Queued). Contains (map node_in q) n) (sym front.leaves)
          (zero, omega arith, front.is_node)

      early : Contains (cuts_of front.origin f.first) n
      early = subst (λ (ns : List NodeId). Contains ns n)
          (split_is p.early h.event.0 front.origin front.before front.had ∙ ap (cuts_of front.origin) (sym p.first_is))
          (Contains-append_right (freed_of front.origin (trace_in (opening_of L b) p.early))
          (map node_in front.before.queue) n waiting)

      by : Freeing (trace_in (opening_of L b) ts) n → (w : ℕ) × Contains (cuts_of w (trace_in (opening_of L b) ts)) n
      by _ = (
        front.origin,
        subst (λ (ns : List NodeId). Contains ns n) (sym (cuts-append front.origin f.first (f.turn ∷ f.rest))
            ∙ ap (cuts_of front.origin) (sym f.all))
            (Contains-append_left (cuts_of front.origin f.first) (cuts_of front.origin (f.turn ∷ f.rest)) n early),
      )

  pub freed_in_turn : (ts : List (ℕ × Event)) → AreFreedInTurn (trace_in (opening_of L b) ts)
  freed_in_turn ts = record { queues = queues ts; only = only ts; once = once ts }
