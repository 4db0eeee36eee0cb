-- The number of the turn that confirmed a worker's pin; and a worker with a call is pinned.
use Rattle.std.proofs.Common.{◌≡◌, ℕ, suc, ◌+◌, ◌<◌, ◌≤◌, ◌==◌, Bool, true, false, cond, ◌||◌, List, [], ◌∷◌, ◌++◌, append-nil, length, length-append, refl, sym, ap, subst, ◌∙◌, arith, true≢false, get_or-set_same, get_or-set_other}
use Rattle.std.specs.Prelude.{Option, Some, unwrap_or, All}
use Rattle.std.specs.List.{list_any}
use native.Mathlib.Decide.{ℕ_discrete}
use Rattle.std.proofs.lemmas.Bool.{or_parts}
use Rattle.std.proofs.lemmas.List.Folds.{list_any-append}
use Rattle.std.proofs.lemmas.Option.{none-some}
use Rattle.nm_edge.specs.Layouts.{Layout}
use Rattle.nm_model.specs.declared.event.Event.{Event}
use Rattle.nm_model.specs.declared.event.Event.TheVariants.{Sight, SightFor, Leave, LeaveWith}
use Rattle.nm_model.specs.declared.reply.Reply.{Reply}
use Rattle.nm_model.specs.declared.reply.Reply.TheVariants.{Pinned, Departed}
use Rattle.nm_model.specs.declared.trace.Turn.{Turn}
use Rattle.nm_model.specs.declared.arrivals.Call.{Call}
use Rattle.nm_model.specs.Knowledge.{Knowledge}
use Rattle.nm_model.specs.Learning.{learn}
use Rattle.nm_model.specs.Runs.{State, of, reply_of}
use Rattle.nm_model.specs.Searches.{Search, idle, searched}
use Rattle.nm_model.specs.Walks.{log_of, logged_by, begins_anew}
use Rattle.nm_model.specs.Ordered.{Configuration, ordered, search_of, next_in, outcome_in, after_in, trace_in}
use Rattle.nm_model.proofs.Numbers.{repeated}
use Rattle.nm_laws.proofs.SearchesGrow.{only_grow}
use Rattle.nm_order.specs.Intervals.{HasKey}
use Rattle.nm_order.specs.Moments.{PinStands}
use Rattle.nm_order.specs.History.{last_anew, pin_of}
use Rattle.nm_order.proofs.OrderedLaws.{IsOrdered, each_ordered}
use Rattle.nm_order.proofs.OrderedInduction.{IsKept, each_run_keeps}
use Rattle.nm_order.proofs.KnowledgeStays.{learned_stays, answers}
use Rattle.nm_order.proofs.CallWalks.{others_stay, own_knows}
use Rattle.nm_order.proofs.RunMoments.{entries}
use Rattle.nm_order.proofs.OwnTurns.{own_search, OwnTurn, own_turn}
use Rattle.nm_order.proofs.OwnTurns.OwnTurn.{Quiet, Own}
use Rattle.nm_order.proofs.WalksOfRuns.{trace_in-append, over_turns}
use Rattle.nm_order.proofs.FlagFates.{one_more, first}

-- ---- one turn more

last-append : (w p n : ℕ) (xs : List Turn) (t : Turn)
    → last_anew w p n (xs ++ t ∷ []) ≡ cond (list_any begins_anew (log_of w (t ∷ []))) (n + length xs)
    (last_anew w p n xs)
last-append w p n [] t = ap (λ (m : ℕ). cond (list_any begins_anew (log_of w (t ∷ []))) m p) (omega arith)
last-append w p n (x ∷ xs) t = last-append w (cond (list_any begins_anew (log_of w (x ∷ []))) n p) (n + 1) xs t
    ∙ ap (λ (m : ℕ). cond (list_any begins_anew (log_of w (t ∷ []))) m
    (last_anew w (cond (list_any begins_anew (log_of w (x ∷ []))) n p) (n + 1) xs)) (omega arith)

pub length_trace : (c : Configuration) (ts : List (ℕ × Event)) → length (trace_in c ts) ≡ length ts
unfolding trace_in
length_trace c [] = refl
length_trace c (t ∷ ts) = ap suc (length_trace (next_in c t) ts)

one_trace : (c : Configuration) (t : ℕ × Event) → trace_in c (t ∷ [])
    ≡ record { worker = t.0; event = t.1; outcome = outcome_in c t } ∷ []
unfolding trace_in
one_trace c t = refl

pub pin_more : (L : Layout) (ts : List (ℕ × Event)) (t : ℕ × Event) (w : ℕ)
    → pin_of L (ts ++ t ∷ []) w ≡ cond (list_any begins_anew (entries w (after_in (ordered L) ts) t)) (length ts)
    (pin_of L ts w)
pin_more L ts t w = ap (last_anew w 0 0) (trace_in-append (ordered L) ts (t ∷ [])
    ∙ ap (λ (l : List Turn). trace_in (ordered L) ts ++ l) (one_trace (after_in (ordered L) ts) t))
    ∙ (last-append w 0 0 (trace_in (ordered L) ts) (record
    { worker = t.0; event = t.1; outcome = outcome_in (after_in (ordered L) ts) t })
    ∙ λ i. cond (list_any begins_anew (append-nil (entries w (after_in (ordered L) ts) t) i))
    ((plain (length (trace_in (ordered L) ts)) ∙ length_trace (ordered L) ts) i) (pin_of L ts w))
  where
    plain : (n : ℕ) → 0 + n ≡ n
    plain n = omega arith

-- where no pin begins or ends, the number stays
last_same : (w p n : ℕ) (xs : List Turn) → PinStands w xs → last_anew w p n xs ≡ p
last_same w p n [] stands = refl
last_same w p n (x ∷ xs) stands = by (list_any begins_anew (log_of w (x ∷ []))) refl
    (λ rest. last_same w p (n + 1) xs rest)
  where
    parts : (list_any begins_anew (log_of w (x ∷ [])) ≡ false) × PinStands w xs
    parts = or_parts (list_any begins_anew (log_of w (x ∷ []))) (list_any begins_anew (log_of w xs))
        (ap (λ (b : Bool). b || list_any begins_anew (log_of w xs))
        (ap (list_any begins_anew) (append-nil (cond (x.worker == w) (logged_by x) [])))
        ∙ (sym (list_any-append begins_anew (cond (x.worker == w) (logged_by x) []) (log_of w xs)) ∙ stands))

    by : (b : Bool) → list_any begins_anew (log_of w (x ∷ [])) ≡ b → (PinStands w xs → last_anew w p (n + 1) xs ≡ p)
        → last_anew w (cond b n p) (n + 1) xs ≡ p
    by true anew rest = absurd (true≢false (sym anew ∙ parts.0))
    by false none rest = rest parts.1

pub last-join : (w p n : ℕ) (xs ys : List Turn) → last_anew w p n (xs ++ ys)
    ≡ last_anew w (last_anew w p n xs) (n + length xs) ys
last-join w p n [] ys = ap (λ (m : ℕ). last_anew w p m ys) (omega arith)
last-join w p n (x ∷ xs) ys = last-join w (cond (list_any begins_anew (log_of w (x ∷ []))) n p) (n + 1) xs ys
    ∙ ap (λ (m : ℕ). last_anew w (last_anew w (cond (list_any begins_anew (log_of w (x ∷ []))) n p) (n + 1) xs) m ys)
    (omega arith)

pub pin_stays : (L : Layout) (before since : List (ℕ × Event)) (w : ℕ)
    → PinStands w (trace_in (after_in (ordered L) before) since) → pin_of L (before ++ since) w ≡ pin_of L before w
pin_stays L before since w stands = ap (last_anew w 0 0) (trace_in-append (ordered L) before since)
    ∙ (last-join w 0 0 (trace_in (ordered L) before) (trace_in (after_in (ordered L) before) since)
    ∙ last_same w (pin_of L before w) (0 + length (trace_in (ordered L) before))
    (trace_in (after_in (ordered L) before) since) stands)

-- ---- calls are of pinned workers

abbrev pub CallsArePinned : State → List Search → Type 0
CallsArePinned s ss = (u : ℕ) (call : Call) → (search_of ss u).call ≡ Some call
    → (p : ℕ) × ((of s u).brief.pin ≡ Some p)

anew_pinned : (S : Search) (k : Knowledge) (w : ℕ) (e : Event) (r : Reply) → begins_anew (e, r) ≡ true
    → (call : Call) → (searched S e r).call ≡ Some call → (p : ℕ) × ((learn w k e r).brief.pin ≡ Some p)
unfolding searched learn
anew_pinned S k w Sight (Pinned n) anew call is = absurd (none-some call is)
anew_pinned S k w (SightFor op key) (Pinned n) anew call is = (n, refl)
anew_pinned S k w Leave Departed anew call is = absurd (none-some call is)
anew_pinned S k w (LeaveWith answer) Departed anew call is = absurd (none-some call is)
anew_pinned S k w e r anew call is = absurd (true≢false (sym anew))

pinned_step : IsKept CallsArePinned
pinned_step s h law w births ss l kept e ok ordered has u call = elim (ℕ_discrete u w) [
  | yes is ↦ rw (
    is,
    get_or-set_same ss w (searched (search_of ss w) e (reply_of s w e)) idle
        (let size = l.sized in let lt = ok.worker in omega arith),
    own_knows s h law w e ok,
  )
      (own (begins_anew (e, reply_of s w e)) refl)
  | no ne ↦ rw (
    get_or-set_other ss w u (searched (search_of ss w) e (reply_of s w e)) idle ne,
    (others_stay s h law w e ok u ne).pin,
  ) (kept u call)
]
  where
    own : (b : Bool) → begins_anew (e, reply_of s w e) ≡ b
        → (searched (search_of ss w) e (reply_of s w e)).call ≡ Some call
        → (p : ℕ) × ((learn w (of s w) e (reply_of s w e)).brief.pin ≡ Some p)
    own true anew is = anew_pinned (search_of ss w) (of s w) w e (reply_of s w e) anew call is
    own false stands is =
        let p = kept w call (sym (only_grow (search_of ss w) e (reply_of s w e) stands).call ∙ is) in
        (p.0, (learned_stays s.memory (of s w) w e (reply_of s w e) (answers s h law w e ok) stands).pin ∙ p.1)

module _ (L : Layout) (enough : 5 ≤ L.nodes) where
  pub call_pinned : (ts : List (ℕ × Event)) → All (λ t. HasKey t.1) ts → (w : ℕ) (call : Call)
      → (own_search (after_in (ordered L) ts) w).call ≡ Some call
      → (p : ℕ) × ((of (after_in (ordered L) ts).state w).brief.pin ≡ Some p)
  call_pinned ts keys w call is =
      let o = each_ordered L enough ts keys in
      each_run_keeps CallsArePinned pinned_step L enough
      (λ u call is. absurd (none-some call (sym (ap (λ (S : Search). S.call) (repeated L.workers u idle)) ∙ is)))
      ts keys o.searches o.are w call
      (sym (ap (λ (l : Option (List Search)). (search_of (unwrap_or l []) w).call) o.are) ∙ is)

  -- a call's pin was confirmed before now
  pub pin_below : (ts : List (ℕ × Event)) → All (λ t. HasKey t.1) ts → (w : ℕ) (call : Call)
      → (own_search (after_in (ordered L) ts) w).call ≡ Some call → pin_of L ts w < length ts
  unfolding after_in
  pin_below = over_turns (λ ts. (w : ℕ) (call : Call) → (own_search (after_in (ordered L) ts) w).call ≡ Some call
      → pin_of L ts w < length ts)
      (λ w call is. absurd (none-some call (sym (ap (λ (S : Search). S.call) (repeated L.workers w idle)) ∙ is))) step
    where
      step : (ts : List (ℕ × Event)) (t : ℕ × Event) → All (λ t. HasKey t.1) (ts ++ t ∷ [])
          → ((w : ℕ) (call : Call) → (own_search (after_in (ordered L) ts) w).call ≡ Some call
          → pin_of L ts w < length ts) → (w : ℕ) (call : Call)
          → (own_search (after_in (ordered L) (ts ++ t ∷ [])) w).call ≡ Some call
          → pin_of L (ts ++ t ∷ []) w < length (ts ++ t ∷ [])
      step ts t keys old w call is = subst (λ (n : ℕ). n < length (ts ++ t ∷ [])) (sym (pin_more L ts t w))
          (subst (λ (n : ℕ). cond (list_any begins_anew (entries w (after_in (ordered L) ts) t)) (length ts)
          (pin_of L ts w) < n) (sym (length-append ts (t ∷ [])))
          (go (list_any begins_anew (entries w (after_in (ordered L) ts) t)) refl))
        where
          c : Configuration
          c = after_in (ordered L) ts

          o : IsOrdered L (after_in (ordered L) ts)
          o = each_ordered L enough ts (first L enough ts t keys 0 (record { slot = 0; birth = 0 }))

          now : (own_search (next_in (after_in (ordered L) ts) t) w).call ≡ Some call
          now = ap (λ (d : Configuration). (own_search d w).call) (sym (one_more L enough ts t)) ∙ is

          go : (b : Bool) → list_any begins_anew (entries w (after_in (ordered L) ts) t) ≡ b
              → cond b (length ts) (pin_of L ts w) < length ts + 1
          go true anew = omega arith
          go false none = let below = old w call (by (own_turn L w (after_in (ordered L) ts) t o)) in omega arith
            where
              by : OwnTurn w (after_in (ordered L) ts) t → (own_search (after_in (ordered L) ts) w).call ≡ Some call
              by (Quiet same quiet) = ap (λ (S : Search). S.call) (sym same) ∙ now
              by (Own r mine won here learned order) = sym
                  (only_grow (own_search (after_in (ordered L) ts) w) t.1 r
                  (or_parts (begins_anew (t.1, r)) false (sym (ap (list_any begins_anew) here) ∙ none)).0).call
                  ∙ (ap (λ (S : Search). S.call) (sym learned) ∙ now)
