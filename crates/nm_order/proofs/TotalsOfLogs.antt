-- The links and flags of a run are those in the parts of its workers.
use Rattle.std.proofs.Common.{◌≡◌, ℕ, zero, suc, ◌+◌, ◌<◌, ◌≤◌, inl, inr, ◌==◌, Bool, true, false, cond, ◌&&◌, ◌||◌, List, [], ◌∷◌, ◌++◌, refl, sym, ap, subst, ◌∙◌, arith, true≢false}
use Rattle.std.specs.Prelude.{Option, Some, None, Result, Ok, Err, All}
use native.Mathlib.Decide.{ℕ_discrete}
use Rattle.std.proofs.lemmas.Bool.{cases_lt, eq-eqb, ne_eqb}
use Rattle.nm_edge.specs.Layouts.{Layout}
use Rattle.nm_model.specs.declared.event.Event.{Event}
use Rattle.nm_model.specs.declared.event.Event.TheVariants.{Join}
use Rattle.nm_model.specs.declared.reply.Reply.{Reply}
use Rattle.nm_model.specs.declared.reply.Refused.{Refused}
use Rattle.nm_model.specs.declared.trace.Turn.{Turn}
use Rattle.nm_model.specs.Runs.{State}
use Rattle.nm_model.specs.Searches.{Search, idle, searched}
use Rattle.nm_model.specs.Walks.{Entry, logged_by, log_of}
use Rattle.nm_model.specs.Ordered.{Configuration, ordered, refused_in, next_in, outcome_in, trace_in}
use Rattle.nm_model.proofs.Numbers.{repeated}
use Rattle.nm_laws.proofs.Steps.{allowed}
use Rattle.nm_laws.proofs.Configurations.{refused_outcome, allowed_by_state}
use Rattle.nm_laws.proofs.Retired.{layout_after}
use Rattle.nm_order.specs.Intervals.{HasKey}
use Rattle.nm_order.specs.Logs.{part_of, is_leaver}
use Rattle.nm_order.specs.Moments.{OfEachOrderedRun}
use Rattle.nm_order.specs.Exchanges.{is_won_link}
use Rattle.nm_order.specs.WalksToArrivals.{is_won_flag}
use Rattle.nm_order.specs.Totals.{is_for, call_of, is_so, once, how_often}
use Rattle.nm_order.specs.LoggedTotals.{log_often, sum_of, TotalsAreInTheLogs}
use Rattle.nm_order.proofs.OrderedLaws.{IsOrdered, ordered_next}
use Rattle.nm_order.proofs.RunMoments.{entries, allowed_entries}
use Rattle.nm_order.proofs.OwnTurns.{own_search, OwnTurn, own_turn}
use Rattle.nm_order.proofs.OwnTurns.OwnTurn.{Quiet, Own}
use Rattle.nm_order.proofs.TotalsOfRuns.{once_none}
use Rattle.nm_order.proofs.RunExchanges.{opening_ordered}

-- ---- sums

sum_same : (f g : ℕ → ℕ) (n : ℕ) → ((w : ℕ) → f w ≡ g w) → sum_of f n ≡ sum_of g n
sum_same f g zero same = refl
sum_same f g (suc n) same = λ i. sum_same f g n same i + same n i

sum_join : (f g : ℕ → ℕ) (n : ℕ) → sum_of (λ w. f w + g w) n ≡ sum_of f n + sum_of g n
sum_join f g zero = refl
sum_join f g (suc n) = let rest = sum_join f g n in omega (arith, rest)

-- one that is v at j alone
only : ℕ → ℕ → ℕ → ℕ
only j v w = cond (j == w) v 0

sum_none : (j v n : ℕ) → n ≤ j → sum_of (only j v) n ≡ 0
unfolding only
sum_none j v zero past = refl
sum_none j v (suc n) past = ap (λ (m : ℕ). m + cond (j == n) v 0) (sum_none j v n (omega (arith, past)))
    ∙ ap (λ (b : Bool). 0 + cond b v 0) (ne_eqb j n (λ e. absurd (omega (arith, past, e))))

sum_only : (j v n : ℕ) → j < n → sum_of (only j v) n ≡ v
unfolding only
sum_only j v zero below = absurd (omega (arith, below))
sum_only j v (suc n) below = elim (ℕ_discrete j n) [
  | yes is ↦ ap (λ (m : ℕ). m + cond (j == n) v 0) (sum_none j v n (omega (arith, is)))
      ∙ (ap (λ (b : Bool). 0 + cond b v 0) (eq-eqb j n is) ∙ front v)
  | no ne ↦ ap (λ (m : ℕ). m + cond (j == n) v 0) (sum_only j v n (omega (arith, below, ne)))
      ∙ (ap (λ (b : Bool). v + cond b v 0) (ne_eqb j n ne) ∙ plus v)
]
  where
    plus : (m : ℕ) → m + 0 ≡ m
    plus m = omega arith

    front : (m : ℕ) → 0 + m ≡ m
    front m = omega arith

sum_zero : (n : ℕ) → sum_of (λ w. 0) n ≡ 0
sum_zero zero = refl
sum_zero (suc n) = ap (λ (m : ℕ). m + 0) (sum_zero n)

-- ---- parts and logs

often_join : (is_such : Entry → Bool) (k : ℕ) (s : Search) (e : Entry) (es : List Entry)
    → log_often is_such k s (e ∷ es) ≡ cond (is_such e && is_for k s.call) 1 0
    + log_often is_such k (searched s e.0 e.1) es
unfolding log_often
often_join is_such k s e es = refl

-- a part tells what the log tells: the join by which the worker resigns adds nothing
module _ (is_such : Entry → Bool) (no_join : (v : ℕ) (r : Reply) → is_such (Join v, r) ≡ false) (k w : ℕ) where
  join_adds_none : (v : ℕ) (r : Reply) (s : Search) (es : List Entry)
      → log_often is_such k s ((Join v, r) ∷ es) ≡ log_often is_such k s es
  unfolding searched
  join_adds_none v r s es = often_join is_such k s (Join v, r) es
      ∙ (ap (λ (b : Bool). cond (b && is_for k s.call) 1 0 + log_often is_such k s es) (no_join v r)
      ∙ plus (log_often is_such k s es))
    where
      plus : (m : ℕ) → 0 + m ≡ m
      plus m = omega arith

  abbrev Rest : List Turn → Type 0
  Rest ts = (s : Search) → log_often is_such k s (part_of w ts) ≡ log_often is_such k s (log_of w ts)

  own_often : (ts : List Turn) (s : Search) (e : Event) (r : Reply) → Rest ts
      → log_often is_such k s ((e, r) ∷ part_of w ts) ≡ log_often is_such k s ((e, r) ∷ log_of w ts)
  own_often ts s e r rest = often_join is_such k s (e, r) (part_of w ts)
      ∙ (ap (λ (n : ℕ). cond (is_such (e, r) && is_for k s.call) 1 0 + n) (rest (searched s e r))
      ∙ sym (often_join is_such k s (e, r) (log_of w ts)))

  turn_often : (ts : List Turn) (s : Search) (u : ℕ) (e : Event) (o : Result Reply Refused) (own leaver : Bool)
      → is_leaver w e ≡ leaver → Rest ts
      → log_often is_such k s (cond (own || leaver) (logged_by (record { worker = u; event = e; outcome = o })) []
      ++ part_of w ts) ≡ log_often is_such k s (cond own
      (logged_by (record { worker = u; event = e; outcome = o })) [] ++ log_of w ts)
  turn_often ts s u e (Ok r) true leaver is rest = own_often ts s e r rest
  turn_often ts s u e (Err x) true leaver is rest = rest s
  turn_often ts s u e o false false is rest = rest s
  turn_often ts s u e (Err x) false true is rest = rest s
  turn_often ts s u (Join v) (Ok r) false true is rest = join_adds_none v r s (part_of w ts) ∙ rest s
  turn_often ts s u e (Ok r) false true is rest = absurd (true≢false (sym is))

  part_often : (turns : List Turn) (s : Search) → log_often is_such k s (part_of w turns)
      ≡ log_often is_such k s (log_of w turns)
  part_often [] s = refl
  part_often (t ∷ ts) s = turn_often ts s t.worker t.event t.outcome (t.worker == w) (is_leaver w t.event) refl
      (λ s. part_often ts s)

-- ---- a run

module _ (is_such : Entry → Bool) (k : ℕ) (L : Layout) (enough : 5 ≤ L.nodes) where
  log_is : Configuration → List (ℕ × Event) → ℕ → ℕ
  log_is c ts w = log_often is_such k (own_search c w) (log_of w (trace_in c ts))

  -- what a turn adds to one worker's log
  turn_log : (c : Configuration) (t : ℕ × Event) (ts : List (ℕ × Event)) (w : ℕ) → IsOrdered L c
      → log_is c (t ∷ ts) w ≡ only t.0 (once is_such k c t) w + log_is (next_in c t) ts w
  unfolding log_is only trace_in
  turn_log c t ts w o = by (own_turn L w c t o)
    where
      far : List Entry
      far = log_of w (trace_in (next_in c t) ts)

      none_such : (b : Bool) → (t.0 == w) ≡ b → entries w c t ≡ [] → cond b (once is_such k c t) 0 ≡ 0
      none_such false other none = refl
      none_such true same none = go (outcome_in c t) refl
        where
          go : (q : Result Reply Refused) → outcome_in c t ≡ q → once is_such k c t ≡ 0
          go (Err x) is = ap (λ (r : Result Reply Refused). cond (is_so is_such t.1 r && is_for k (call_of c t.0)) 1
              0) is
          go (Ok r) is = absurd (filled (sym (ap (λ (b : Bool). cond b ((t.1, r) ∷ []) []) same)
              ∙ (sym (allowed_entries w c t r is) ∙ none)))
            where
              filled : ◌≡◌ {A = List Entry} ((t.1, r) ∷ []) [] → ⊥
              filled e = cc

      by : OwnTurn w c t → log_often is_such k (own_search c w)
          (entries w c t ++ log_of w (trace_in (next_in c t) ts))
          ≡ cond (t.0 == w) (once is_such k c t) 0 + log_often is_such k (own_search (next_in c t) w)
          (log_of w (trace_in (next_in c t) ts))
      by (Quiet same none) = ap (λ (es : List Entry). log_often is_such k (own_search c w)
          (es ++ log_of w (trace_in (next_in c t) ts))) none
          ∙ (ap (λ (S : Search). log_often is_such k S (log_of w (trace_in (next_in c t) ts))) (sym same)
          ∙ (plus (log_often is_such k (own_search (next_in c t) w) (log_of w (trace_in (next_in c t) ts)))
          ∙ ap (λ (n : ℕ). n + log_often is_such k (own_search (next_in c t) w)
          (log_of w (trace_in (next_in c t) ts))) (sym (none_such (t.0 == w) refl none))))
        where
          plus : (m : ℕ) → m ≡ 0 + m
          plus m = omega arith
      by (Own r is won here learned order) = ap (λ (es : List Entry). log_often is_such k (own_search c w)
          (es ++ log_of w (trace_in (next_in c t) ts))) here
          ∙ (often_join is_such k (own_search c w) (t.1, r) (log_of w (trace_in (next_in c t) ts))
          ∙ λ i. first i + log_often is_such k (sym learned i) (log_of w (trace_in (next_in c t) ts)))
        where
          first : cond (is_such (t.1, r) && is_for k (own_search c w).call) 1 0 ≡ cond (t.0 == w) (once is_such k c t) 0
          first = ap (λ (o : Result Reply Refused). cond (is_so is_such t.1 o && is_for k (own_search c w).call) 1 0)
              (sym won)
              ∙ (ap (λ (u : ℕ). cond (is_so is_such t.1 (outcome_in c t) && is_for k (call_of c u)) 1 0) (sym is)
              ∙ ap (λ (b : Bool). cond b (once is_such k c t) 0) (sym (eq-eqb t.0 w is)))

  turn_sum : (c : Configuration) (t : ℕ × Event) → IsOrdered L c
      → sum_of (only t.0 (once is_such k c t)) L.workers ≡ once is_such k c t
  turn_sum c t o = elim (cases_lt t.0 L.workers) [
    | inl below ↦ sum_only t.0 (once is_such k c t) L.workers below
    | inr past ↦ sum_none t.0 (once is_such k c t) L.workers past ∙ sym (none past (refused_in c t.0 t.1) refl)
  ]
    where
      layout : c.state.layout ≡ L
      layout = ap (λ (s : State). s.layout) o.leads ∙ layout_after L o.events

      none : L.workers ≤ t.0 → (q : Option Refused) → refused_in c t.0 t.1 ≡ q → once is_such k c t ≡ 0
      none past (Some x) why = once_none is_such k c t (ap (is_so is_such t.1) (refused_outcome c t x why))
      none past None why =
          let worker : t.0 < L.workers = subst (λ (l : Layout). t.0 < l.workers) layout
          (allowed c.state t.0 t.1 (allowed_by_state c t.0 t.1 why)).worker in
          absurd (omega (arith, past, worker))

  none_logged : (c : Configuration) (w : ℕ) → log_is c [] w ≡ 0
  unfolding log_is log_often trace_in
  none_logged c w = refl

  logs_of : (ts : List (ℕ × Event)) → All (λ t. HasKey t.1) ts → (c : Configuration) → IsOrdered L c
      → how_often is_such k c ts ≡ sum_of (log_is c ts) L.workers
  unfolding how_often
  logs_of [] keys c o = sym (sum_same (log_is c []) (λ w. 0) L.workers (none_logged c) ∙ sum_zero L.workers)
  logs_of (t ∷ ts) keys c o =
      let rest = logs_of ts (λ i d below. keys (suc i) d (omega arith)) (next_in c t)
      (ordered_next L enough c t (keys 0 t (omega arith)) o) in
      let here = turn_sum c t o in
      let both = sum_join (only t.0 (once is_such k c t)) (log_is (next_in c t) ts) L.workers in
      let all = sum_same (log_is c (t ∷ ts)) (λ w. only t.0 (once is_such k c t) w + log_is (next_in c t) ts w)
      L.workers (λ w. turn_log c t ts w o) in
      sym (all ∙ (both ∙ λ i. here i + sym rest i))

  logs_told : ((v : ℕ) (r : Reply) → is_such (Join v, r) ≡ false) → (turns : List (ℕ × Event))
      → All (λ t. HasKey t.1) turns → how_often is_such k (ordered L) turns
      ≡ sum_of (λ w. log_often is_such k idle (part_of w (trace_in (ordered L) turns))) L.workers
  unfolding log_is
  logs_told no_join turns keys = logs_of turns keys (ordered L) (opening_ordered L enough)
      ∙ sum_same (log_is (ordered L) turns) (λ w. log_often is_such k idle (part_of w (trace_in (ordered L) turns)))
      L.workers
      (λ w. ap (λ (S : Search). log_often is_such k S (log_of w (trace_in (ordered L) turns)))
      (repeated L.workers w idle) ∙ sym (part_often is_such no_join k w (trace_in (ordered L) turns) idle))

pub totals_are_in_the_logs : OfEachOrderedRun TotalsAreInTheLogs
totals_are_in_the_logs L enough turns keys k = (
  logs_told is_won_link k L enough (λ v r. refl) turns keys,
  logs_told
      is_won_flag k L enough (λ v r. refl) turns keys,
)
