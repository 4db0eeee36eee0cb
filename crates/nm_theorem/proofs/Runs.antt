-- Runs of any core from its opening, and their parts: a part of the turns of a run is the turns of
-- a part of its events.
use Rattle.std.proofs.Common.{◌≡◌, ℕ, suc, ◌≤◌, Bool, true, false, List, [], ◌∷◌, ◌++◌, length, map, take, refl, sym, ap, subst, ◌∙◌, arith}
use Rattle.std.specs.Prelude.{Option, Some, None}
use Rattle.nm_edge.specs.Layouts.{Layout, IsLayout}
use Rattle.nm_model.specs.declared.event.Event.{Event}
use Rattle.nm_model.specs.declared.reply.Refused.{Refused}
use Rattle.nm_model.specs.declared.trace.Turn.{Turn}
use Rattle.nm_model.specs.Laws.{OfEachState}
use Rattle.nm_model.specs.Ordered.{Configuration, IsReached, opening_of, refused_in, applied_in, next_in, outcome_in, after_in, trace_in, accepted, turn_of}
use Rattle.nm_model.specs.Runs.{State, start, after}
use Rattle.nm_laws.proofs.Steps.{allowed}
use Rattle.nm_laws.proofs.Lawful.{IsLawful, lawful_start, lawful_step}
use Rattle.nm_laws.proofs.Configurations.{refused_next, allowed_next, reached_plain, reached_ordered, opening_state, ordered_runs, allowed_by_state, same_layout}
use Rattle.nm_laws.proofs.LawfulRuns.{same_head, no_turn, take_first as first_of}

-- a turn as the trace tells it
abbrev pub told_in : Configuration → ℕ × Event → Turn
told_in c t = record { worker = t.0; event = t.1; outcome = outcome_in c t }

-- the first events and the others, where a trace is split
pub record Parts (c : Configuration) (ts : List (ℕ × Event)) (first rest : List Turn) : Type 0 where
  pub early : List (ℕ × Event)
  pub late : List (ℕ × Event)
  pub all : ts ≡ early ++ late
  pub first_is : first ≡ trace_in c early
  pub rest_is : rest ≡ trace_in (after_in c early) late
  pub size : length early ≡ length first

pub record Head (c : Configuration) (ts : List (ℕ × Event)) (turn : Turn) (rest : List Turn) : Type 0 where
  pub event : ℕ × Event
  pub others : List (ℕ × Event)
  pub all : ts ≡ event ∷ others
  pub turn_is : turn ≡ told_in c event
  pub rest_is : rest ≡ trace_in (next_in c event) others

pub head_of : (c : Configuration) (ts : List (ℕ × Event)) (turn : Turn) (rest : List Turn)
    → trace_in c ts ≡ turn ∷ rest → Head c ts turn rest
unfolding trace_in
head_of c [] turn rest e = absurd (no_turn turn rest e)
head_of c (t ∷ ts) turn rest e =
    let same = same_head (told_in c t) turn (trace_in (next_in c t) ts) rest e in
    record { event = t; others = ts; all = refl; turn_is = sym same.0; rest_is = sym same.1 }

pub parts_of : (c : Configuration) (ts : List (ℕ × Event)) (first rest : List Turn) → trace_in c ts ≡ first ++ rest
    → Parts c ts first rest
unfolding after_in trace_in
parts_of c ts [] rest e = record { early = []; late = ts; all = refl; first_is = refl; rest_is = sym e; size = refl }
parts_of c ts (x ∷ xs) rest e =
    let h = head_of c ts x (xs ++ rest) e in
    let p = parts_of (next_in c h.event) h.others xs rest (sym h.rest_is) in
    record {
      early = h.event ∷ p.early;
      late = p.late;
      all = h.all ∙ ap (λ (us : List (ℕ × Event)). h.event ∷ us) p.all;
      first_is = ap (λ (y : Turn). y ∷ xs) h.turn_is ∙ ap (λ (ys : List Turn). told_in c h.event ∷ ys) p.first_is;
      rest_is = p.rest_is;
      size = ap (λ (n : ℕ). suc n) p.size;
    }

-- ---- what is kept from the opening on

pub reached_opening : (L : Layout) → IsLayout L → (b : Bool) → IsReached (opening_of L b)
reached_opening L fits true = reached_ordered L fits
reached_opening L fits false = reached_plain L fits

pub enough_of : (L : Layout) → IsLayout L → 5 ≤ L.nodes
enough_of L fits = let e = fits.least in omega arith

pub lawful_opening : (L : Layout) → IsLayout L → (b : Bool) → IsLawful (opening_of L b).state
lawful_opening L fits b = subst IsLawful (sym (opening_state L b)) (lawful_start L (enough_of L fits))

pub lawful_next : (c : Configuration) (t : ℕ × Event) → IsLawful c.state → IsLawful (next_in c t).state
unfolding applied_in
lawful_next c t lawful = go (refused_in c t.0 t.1) refl
  where
    go : (o : Option Refused) → refused_in c t.0 t.1 ≡ o → IsLawful (next_in c t).state
    go (Some r) is = subst (λ (d : Configuration). IsLawful d.state) (sym (refused_next c t r is)) lawful
    go None is = subst (λ (d : Configuration). IsLawful d.state) (sym (allowed_next c t is))
        (lawful_step c.state t.0 t.1 lawful (allowed c.state t.0 t.1 (allowed_by_state c t.0 t.1 is)))

pub lawful_after : (ts : List (ℕ × Event)) (c : Configuration) → IsLawful c.state → IsLawful (after_in c ts).state
unfolding after_in
lawful_after [] c lawful = lawful
lawful_after (t ∷ ts) c lawful = lawful_after ts (next_in c t) (lawful_next c t lawful)

-- a run of a configuration ends in a state of a run
state_after : (L : Layout) (b : Bool) (ts : List (ℕ × Event))
    → (after_in (opening_of L b) ts).state ≡ after (start L) (map turn_of (accepted (trace_in (opening_of L b) ts)))
state_after L b ts = (ordered_runs (opening_of L b) ts).0
    ∙ ap (λ (s : State). after s (map turn_of (accepted (trace_in (opening_of L b) ts)))) (opening_state L b)

-- so each law of the states of runs holds of its state
pub of_state_after : (P : State → Type 0) → OfEachState P → (L : Layout) → IsLayout L
    → (b : Bool) (ts : List (ℕ × Event)) → P (after_in (opening_of L b) ts).state
of_state_after P law L fits b ts = subst P (sym (state_after L b ts))
    (law L (enough_of L fits) (map turn_of (accepted (trace_in (opening_of L b) ts))))

-- ---- the layout

pub layout_next : (c : Configuration) (t : ℕ × Event) → (next_in c t).state.layout ≡ c.state.layout
layout_next c t = go (refused_in c t.0 t.1) refl
  where
    go : (o : Option Refused) → refused_in c t.0 t.1 ≡ o → (next_in c t).state.layout ≡ c.state.layout
    go (Some r) is = ap (λ (d : Configuration). d.state.layout) (refused_next c t r is)
    go None is = ap (λ (d : Configuration). d.state.layout) (allowed_next c t is) ∙ same_layout c t.0 t.1

pub layout_after : (ts : List (ℕ × Event)) (c : Configuration) → (after_in c ts).state.layout ≡ c.state.layout
unfolding after_in
layout_after [] c = refl
layout_after (t ∷ ts) c = layout_after ts (next_in c t) ∙ layout_next c t

-- ---- the first events, by their number

pub take_first : (ts early late : List (ℕ × Event)) (n : ℕ) → ts ≡ early ++ late → length early ≡ n → take n ts ≡ early
take_first ts early late n all size = ap (take n) all
    ∙ (ap (λ (m : ℕ). take m (early ++ late)) (sym size) ∙ first_of early late)
