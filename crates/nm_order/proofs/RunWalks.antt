-- Over a whole ordered run: an arrival of a standing call is that of a walk since the pin, and the
-- call is the same at each moment since then.
use Rattle.std.proofs.Common.{◌≡◌, ℕ, ◌<◌, ◌≤◌, inl, inr, length, List, [], ◌++◌, refl, sym, ap, subst, ◌∙◌}
use Rattle.std.specs.Prelude.{Option, Some, None, Result, Ok, Err, slice_get, unwrap_or, All}
use Rattle.std.proofs.lemmas.Bool.{cases_lt}
use Rattle.std.proofs.lemmas.List.{get_or_past}
use Rattle.std.proofs.lemmas.Option.{none-some, same_Some, slice_get_within, get_or_from_slice_get}
use Rattle.nm_edge.specs.Layouts.{Layout}
use Rattle.nm_edge.specs.Keys.{IsKey}
use Rattle.nm_model.specs.declared.event.Op.{Op}
use Rattle.nm_model.specs.declared.event.Event.{Event}
use Rattle.nm_model.specs.declared.reply.Reply.{Reply}
use Rattle.nm_model.specs.declared.reply.Refused.{Refused}
use Rattle.nm_model.specs.declared.arrivals.Arrival.{Arrival}
use Rattle.nm_model.specs.Knowledge.{knows}
use Rattle.nm_model.specs.Runs.{State, of, reply_of}
use Rattle.nm_model.specs.Searches.{Search, idle}
use Rattle.nm_model.specs.Walks.{log_of, since_pin, search_after, IsOfWalk}
use Rattle.nm_model.specs.Ordered.{Configuration, ordered, search_of, refused_in, outcome_in, after_in, trace_in}
use Rattle.nm_order.specs.Intervals.{HasKey, IsCalled}
use Rattle.nm_order.specs.Moments.{PinStands}
use Rattle.nm_laws.proofs.Configurations.{refused_outcome, allowed_outcome, after_in-append}
use Rattle.nm_laws.proofs.WalksOfLogs.{arrivals_are_walks}
use Rattle.nm_laws.proofs.Retired.{layout_after}
use Rattle.nm_order.proofs.OrderedMoments.{call_walks}
use Rattle.nm_order.proofs.OrderedLaws.{IsOrdered, each_ordered}
use Rattle.nm_order.proofs.OwnTurns.{own_search, call_stays}
use Rattle.nm_order.proofs.RunExchanges.{is_own_call}
use Rattle.nm_order.proofs.WalksOfRuns.{is_known, all_before, all_behind}

-- an event that is allowed is answered by its reply
pub reply_is : (c : Configuration) (t : ℕ × Event) (r : Reply) → outcome_in c t ≡ Ok r → reply_of c.state t.0 t.1 ≡ r
reply_is c t r is = go (refused_in c t.0 t.1) refl
  where
    differ : (x : Refused) → ◌≡◌ {A = Result Reply Refused} (Err x) (Ok r) → ⊥
    differ x h = cc

    same : (q : Reply) → ◌≡◌ {A = Result Reply Refused} (Ok q) (Ok r) → q ≡ r
    same q h = cc

    go : (x : Option Refused) → refused_in c t.0 t.1 ≡ x → reply_of c.state t.0 t.1 ≡ r
    go (Some x) why = absurd (differ x (sym (refused_outcome c t x why) ∙ is))
    go None why = same (reply_of c.state t.0 t.1) (sym (allowed_outcome c t why) ∙ is)

module _ (L : Layout) (enough : 5 ≤ L.nodes) (turns : List (ℕ × Event)) (keys : All (λ t. HasKey t.1) turns) (w : ℕ)
    (op : Op) (k : ℕ) (called : IsCalled (after_in (ordered L) turns) w op k) where
  o : IsOrdered L (after_in (ordered L) turns)
  o = each_ordered L enough turns keys

  -- a call is of a worker that is there
  of_worker : w < L.workers
  of_worker = elim (cases_lt w (length called.searches)) [
    | inl below ↦ subst (λ (n : ℕ). w < n) sized below
    | inr past ↦ absurd (none-some (record { op = op; key = k })
        (sym (ap (λ (S : Search). S.call) (get_or_past called.searches w idle past)) ∙ called.is_call))
  ]
    where
      sized : length called.searches ≡ L.workers
      sized = ap length (same_Some called.searches o.searches (sym called.are ∙ o.are))
          ∙ (o.law.sized ∙ (ap (λ (s : State). s.layout.workers) o.leads
          ∙ ap (λ (l : Layout). l.workers) (layout_after L o.events)))

  -- an arrival is that of a walk since the pin
  pub walk_of : (i : ℕ) (a : Arrival) → slice_get (own_search (after_in (ordered L) turns) w).walks i ≡ Some a
      → IsOfWalk k (since_pin [] (log_of w (trace_in (ordered L) turns))) a
  walk_of i a at = subst (IsOfWalk k (since_pin [] (log_of w (trace_in (ordered L) turns))))
      (get_or_from_slice_get (search_after idle (log_of w (trace_in (ordered L) turns))).walks i a a there)
      (arrivals_are_walks (log_of w (trace_in (ordered L) turns)) (record { op = op; key = k })
      (sym (ap (λ (S : Search). S.call) told) ∙ is_own_call (after_in (ordered L) turns) w op k called)
      i a (slice_get_within (search_after idle (log_of w (trace_in (ordered L) turns))).walks i a there))
    where
      told : own_search (after_in (ordered L) turns) w ≡ search_after idle (log_of w (trace_in (ordered L) turns))
      told = ap (λ (l : Option (List Search)). search_of (unwrap_or l []) w) called.are
          ∙ is_known L enough w of_worker turns called.searches called.are

      there : slice_get (search_after idle (log_of w (trace_in (ordered L) turns))).walks i ≡ Some a
      there = ap (λ (S : Search). slice_get S.walks i) (sym told) ∙ at

  -- it is for a key of the set
  pub of_key : IsKey k
  of_key = (call_walks (after_in (ordered L) turns).state.layout.radix (after_in (ordered L) turns).state.memory
      (knows (of (after_in (ordered L) turns).state w)) (search_of o.searches w).call (search_of o.searches w).walks
      (record { op = op; key = k })
      (ap (λ (ss : List Search). (search_of ss w).call)
      (same_Some o.searches called.searches (sym o.are ∙ called.are)) ∙ called.is_call) (o.law.walks w)).0

  -- and it was under the pin at each moment since then
  pub called_then : (before since : List (ℕ × Event)) → turns ≡ before ++ since
      → PinStands w (trace_in (after_in (ordered L) before) since) → IsCalled (after_in (ordered L) before) w op k
  called_then before since is_run stands =
      record {
        searches = then.searches;
        are = then.are;
        is_call = ap
            (λ (l : Option (List Search)). (search_of (unwrap_or l []) w).call) (sym then.are)
            ∙ (sym stayed ∙ is_own_call (after_in (ordered L) turns) w op k called);
      }
    where
      all : All (λ t. HasKey t.1) (before ++ since)
      all = subst (All (λ t. HasKey t.1)) is_run keys

      then : IsOrdered L (after_in (ordered L) before)
      then = each_ordered L enough before (all_before (λ t. HasKey t.1) before since all)

      stayed : (own_search (after_in (ordered L) turns) w).call ≡ (own_search (after_in (ordered L) before) w).call
      stayed = ap (λ (ts : List (ℕ × Event)). (own_search (after_in (ordered L) ts) w).call) is_run
          ∙ (ap (λ (c : Configuration). (own_search c w).call) (after_in-append (ordered L) before since)
          ∙ call_stays L enough w since (all_behind (λ t. HasKey t.1) before since all) (after_in (ordered L) before)
          then stands)
