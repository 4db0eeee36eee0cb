-- Each turn of an ordered run, as one worker's search sees it: it leaves the search and the log as
-- they are, or it is the worker's own, in order, and both learn of it.
use Rattle.std.proofs.Common.{◌≡◌, ℕ, suc, ◌≤◌, ◌==◌, Bool, true, false, cond, List, [], ◌∷◌, refl, sym, ap, ◌∙◌, arith, get_or-set_same, get_or-set_other}
use Rattle.std.specs.Prelude.{Option, Some, None, Ok, option_map, unwrap_or, All}
use Rattle.std.specs.List.{list_any}
use Rattle.std.proofs.lemmas.Bool.{eqb-true, eqb-false, or_parts}
use Rattle.std.proofs.lemmas.List.Folds.{list_any-append}
use Rattle.nm_edge.specs.Layouts.{Layout}
use Rattle.nm_model.specs.declared.event.Event.{Event}
use Rattle.nm_model.specs.declared.reply.Reply.{Reply}
use Rattle.nm_model.specs.declared.reply.Refused.{Refused}
use Rattle.nm_model.specs.Runs.{of, reply_of, refused}
use Rattle.nm_model.specs.Searches.{Search, idle, searched}
use Rattle.nm_model.specs.Walks.{log_of, begins_anew}
use Rattle.nm_model.specs.Ordered.{Configuration, search_of, learned_from, disorder, disorder_among, disorder_in, refused_in, applied_in, next_in, outcome_in, after_in, trace_in}
use Rattle.nm_order.specs.Intervals.{HasKey}
use Rattle.nm_order.specs.Moments.{PinStands}
use Rattle.nm_laws.proofs.Steps.{Allowed, allowed}
use Rattle.nm_laws.proofs.Configurations.{refused_next, refused_outcome, allowed_next, allowed_outcome}
use Rattle.nm_laws.proofs.SearchesGrow.{only_grow}
use Rattle.nm_order.proofs.OrderedLaws.{IsOrdered, neither, ordered_next}
use Rattle.nm_order.proofs.RunMoments.{entries, refused_entries, allowed_entries}

-- what a core keeps of a worker's call
abbrev pub own_search : Configuration → ℕ → Search
own_search c w = search_of (unwrap_or c.searches []) w

pub data OwnTurn (w : ℕ) (c : Configuration) (t : ℕ × Event) : Type 0 where
  Quiet : own_search (next_in c t) w ≡ own_search c w → entries w c t ≡ [] → OwnTurn w c t
  Own : (r : Reply) → t.0 ≡ w → outcome_in c t ≡ Ok r → entries w c t ≡ (t.1, r) ∷ []
      → own_search (next_in c t) w ≡ searched (own_search c w) t.1 r
      → disorder c.state.layout (of c.state w) (own_search c w) t.1 ≡ None → OwnTurn w c t

module _ (L : Layout) where
  pub own_turn : (w : ℕ) (c : Configuration) (t : ℕ × Event) → IsOrdered L c → OwnTurn w c t
  unfolding refused_in applied_in
  own_turn w c t o = go (refused_in c t.0 t.1) refl
    where
      now : refused_in c t.0 t.1 ≡ None → own_search (next_in c t) w
          ≡ search_of (learned_from o.searches t.0 t.1 (reply_of c.state t.0 t.1)) w
      now why = ap (λ (d : Configuration). own_search d w) (allowed_next c t why)
          ∙ ap (λ (l : Option (List Search)). search_of
          (unwrap_or (option_map (λ ss. learned_from ss t.0 t.1 (reply_of c.state t.0 t.1)) l) []) w) o.are

      was : own_search c w ≡ search_of o.searches w
      was = ap (λ (l : Option (List Search)). search_of (unwrap_or l []) w) o.are

      parts : refused_in c t.0 t.1 ≡ None → (refused c.state t.0 t.1 ≡ None) × (disorder_in c t.0 t.1 ≡ None)
      parts why = neither (refused c.state t.0 t.1) (disorder_in c t.0 t.1) why

      by : (b : Bool) → (t.0 == w) ≡ b → refused_in c t.0 t.1 ≡ None → OwnTurn w c t
      by false other why = Quiet
          (now why ∙ (get_or-set_other o.searches t.0 w
          (searched (search_of o.searches t.0) t.1 (reply_of c.state t.0 t.1)) idle
          (λ e. eqb-false t.0 w other (sym e)) ∙ sym was))
          (allowed_entries w c t (reply_of c.state t.0 t.1) (allowed_outcome c t why)
          ∙ ap (λ (b : Bool). cond b ((t.1, reply_of c.state t.0 t.1) ∷ []) []) other)
      by true here why =
          let is : t.0 ≡ w = eqb-true t.0 w here in
          let ok : Allowed c.state t.0 t.1 = allowed c.state t.0 t.1 (parts why).0 in
          Own (reply_of c.state t.0 t.1) is (allowed_outcome c t why)
          (allowed_entries w c t (reply_of c.state t.0 t.1) (allowed_outcome c t why)
          ∙ ap (λ (b : Bool). cond b ((t.1, reply_of c.state t.0 t.1) ∷ []) []) here)
          (now why ∙ (ap (search_of (learned_from o.searches t.0 t.1 (reply_of c.state t.0 t.1))) (sym is)
          ∙ (get_or-set_same o.searches t.0 (searched (search_of o.searches t.0) t.1 (reply_of c.state t.0 t.1)) idle
          (let size = o.law.sized in let lt = ok.worker in omega arith)
          ∙ ap (λ (S : Search). searched S t.1 (reply_of c.state t.0 t.1)) (ap (search_of o.searches) is ∙ sym was))))
          (ap (λ (x : ℕ). disorder c.state.layout (of c.state x) (own_search c x) t.1) (sym is)
          ∙ (ap (λ (l : Option (List Search)). disorder c.state.layout (of c.state t.0)
          (search_of (unwrap_or l []) t.0) t.1) o.are ∙ (sym
          (ap (λ (l : Option (List Search)). disorder_among c.state.layout l (of c.state t.0) t.0 t.1) o.are)
          ∙ (parts why).1)))

      go : (x : Option Refused) → refused_in c t.0 t.1 ≡ x → OwnTurn w c t
      go (Some x) why = Quiet (ap (λ (d : Configuration). own_search d w) (refused_next c t x why))
          (refused_entries w c t x (refused_outcome c t x why))
      go None why = by (t.0 == w) refl why

  -- a turn under a pin that stands leaves the pin, and so do the others
  pub stands_parts : (w : ℕ) (c : Configuration) (t : ℕ × Event) (ts : List (ℕ × Event))
      → PinStands w (trace_in c (t ∷ ts)) → (list_any begins_anew (entries w c t) ≡ false)
      × PinStands w (trace_in (next_in c t) ts)
  unfolding trace_in
  stands_parts w c t ts stands = or_parts (list_any begins_anew (entries w c t))
      (list_any begins_anew (log_of w (trace_in (next_in c t) ts)))
      (sym (list_any-append begins_anew (entries w c t) (log_of w (trace_in (next_in c t) ts))) ∙ stands)

  module _ (enough : 5 ≤ L.nodes) where
    -- while a pin stands its call stays
    pub call_stays : (w : ℕ) (turns : List (ℕ × Event)) → All (λ t. HasKey t.1) turns → (c : Configuration)
        → IsOrdered L c → PinStands w (trace_in c turns)
        → (own_search (after_in c turns) w).call ≡ (own_search c w).call
    unfolding after_in
    call_stays w [] keys c o stands = refl
    call_stays w (t ∷ ts) keys c o stands =
        call_stays w ts (λ k d below. keys (suc k) d (omega arith)) (next_in c t)
        (ordered_next L enough c t (keys 0 t (omega arith)) o) (stands_parts w c t ts stands).1
        ∙ by (own_turn w c t o)
      where
        by : OwnTurn w c t → (own_search (next_in c t) w).call ≡ (own_search c w).call
        by (Quiet same none) = ap (λ (S : Search). S.call) same
        by (Own r is won here learned order) = ap (λ (S : Search). S.call) learned
            ∙ (only_grow (own_search c w) t.1 r ((or_parts (begins_anew (t.1, r)) false
            (sym (ap (list_any begins_anew) here) ∙ (stands_parts w c t ts stands).0)).0)).call
