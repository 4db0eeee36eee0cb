-- A walk that has ended tells whether its key was in the set at a moment since the pin, for any key
-- and under any pin.
use Rattle.std.proofs.Common.{◌≡◌, ◌≢◌, ℕ, suc, ◌<◌, ◌≤◌, ◌==◌, inl, inr, Bool, true, false, cond, List, [], ◌∷◌, ◌++◌, append_assoc, length, refl, sym, ap, subst, ◌∙◌, arith}
use Rattle.std.specs.Prelude.{Option, Some, None, All}
use Rattle.std.specs.List.{list_any}
use native.Mathlib.Decide.{ℕ_discrete}
use Rattle.std.proofs.lemmas.Bool.{cases_lt, eq-eqb, or_parts}
use Rattle.std.proofs.lemmas.List.{append_cancel_left}
use Rattle.std.proofs.lemmas.List.Folds.{list_any-append}
use Rattle.std.proofs.lemmas.Option.{none-some}
use Rattle.nm_edge.specs.Layouts.{Layout}
use Rattle.nm_model.specs.declared.event.Event.{Event}
use Rattle.nm_model.specs.declared.reply.Refused.{Refused}
use Rattle.nm_model.specs.declared.trace.Turn.{Turn}
use Rattle.nm_model.specs.Knowledge.{Knowledge}
use Rattle.nm_model.specs.Runs.{of, reply_of, refused}
use Rattle.nm_model.specs.Walks.{Entry, log_of, begins_anew, since_pin, WalkEnds}
use Rattle.nm_model.specs.Ordered.{Configuration, ordered, disorder_in, refused_in, applied_in, next_in, after_in, trace_in}
use Rattle.nm_laws.proofs.Configurations.{refused_next, allowed_next, allowed_outcome, after_in-append}
use Rattle.nm_laws.proofs.Steps.{Allowed, allowed}
use Rattle.nm_order.specs.Intervals.{HasKey}
use Rattle.nm_order.specs.Logs.{part_of, known_by}
use Rattle.nm_order.specs.Moments.{PinStands}
use Rattle.nm_order.specs.WalkAnswers.{WasSoUnderPin, WasSoSince, WalksTellOfTheirPin}
use Rattle.nm_order.proofs.AnswersSince.{later_keys}
use Rattle.nm_order.proofs.CallWalks.{others_stay, own_knows}
use Rattle.nm_order.proofs.KnowledgeStays.{learned_stays, answers}
use Rattle.nm_order.proofs.OrderedLaws.{IsOrdered, neither, ordered_next, each_ordered, law_of_state}
use Rattle.nm_order.proofs.OwnTurns.{stands_parts}
use Rattle.nm_order.proofs.PartsOfRuns.{logs_tell}
use Rattle.nm_order.proofs.PartWalks.{ends_in_log}
use Rattle.nm_order.proofs.RealTime.{begins_with}
use Rattle.nm_order.proofs.RunExchanges.{first_keys}
use Rattle.nm_order.proofs.RunMoments.{entries, allowed_entries}
use Rattle.nm_order.proofs.WalkTells.{any_walk_tells}
use Rattle.nm_order.proofs.WalksOfRuns.{trace_in-append, log-append}

-- ---- while a pin stands, its worker is pinned

module _ (L : Layout) (enough : 5 ≤ L.nodes) (w : ℕ) where
  -- in one turn
  one_pin : (c : Configuration) (t : ℕ × Event) → IsOrdered L c → list_any begins_anew (entries w c t) ≡ false
      → (of (next_in c t).state w).brief.pin ≡ (of c.state w).brief.pin
  unfolding applied_in refused_in
  one_pin c t o stands = go (refused_in c t.0 t.1) refl
    where
      holder : ℕ → ℕ
      holder = (law_of_state L enough c o).0

      parts : refused_in c t.0 t.1 ≡ None → (refused c.state t.0 t.1 ≡ None) × (disorder_in c t.0 t.1 ≡ None)
      parts why = neither (refused c.state t.0 t.1) (disorder_in c t.0 t.1) why

      ok : refused_in c t.0 t.1 ≡ None → Allowed c.state t.0 t.1
      ok why = allowed c.state t.0 t.1 (parts why).0

      anew : refused_in c t.0 t.1 ≡ None → w ≡ t.0 → begins_anew (t.1, reply_of c.state t.0 t.1) ≡ false
      anew why own = (or_parts (begins_anew (t.1, reply_of c.state t.0 t.1)) false
          (sym (ap (list_any begins_anew) (allowed_entries w c t (reply_of c.state t.0 t.1) (allowed_outcome c t why)
          ∙ ap (λ (b : Bool). cond b ((t.1, reply_of c.state t.0 t.1) ∷ []) []) (same_worker own))) ∙ stands)).0
        where
          same_worker : w ≡ t.0 → (t.0 == w) ≡ true
          same_worker own = eq-eqb t.0 w (sym own)

      by_itself : refused_in c t.0 t.1 ≡ None → w ≡ t.0
          → (of (applied_in c t.0 t.1).state t.0).brief.pin ≡ (of c.state t.0).brief.pin
      by_itself why own = ap (λ (k : Knowledge). k.brief.pin)
          (own_knows c.state holder (law_of_state L enough c o).1 t.0 t.1 (ok why))
          ∙ (learned_stays c.state.memory (of c.state t.0) t.0 t.1 (reply_of c.state t.0 t.1)
          (answers c.state holder (law_of_state L enough c o).1 t.0 t.1 (ok why)) (anew why own)).pin

      by_other : refused_in c t.0 t.1 ≡ None → w ≢ t.0
          → (of (applied_in c t.0 t.1).state w).brief.pin ≡ (of c.state w).brief.pin
      by_other why ne = (others_stay c.state holder (law_of_state L enough c o).1 t.0 t.1 (ok why) w ne).pin

      go : (x : Option Refused) → refused_in c t.0 t.1 ≡ x
          → (of (next_in c t).state w).brief.pin ≡ (of c.state w).brief.pin
      go (Some x) why = ap (λ (d : Configuration). (of d.state w).brief.pin) (refused_next c t x why)
      go None why = ap (λ (d : Configuration). (of d.state w).brief.pin) (allowed_next c t why)
          ∙ elim (ℕ_discrete w t.0) [
            | yes own ↦ subst (λ (v : ℕ). (of (applied_in c t.0 t.1).state v).brief.pin ≡ (of c.state v).brief.pin)
                (sym own) (by_itself why own)
            | no ne ↦ by_other why ne
          ]

  pub pin_lasts : (turns : List (ℕ × Event)) → All (λ t. HasKey t.1) turns → (c : Configuration) → IsOrdered L c
      → PinStands w (trace_in c turns) → (of (after_in c turns).state w).brief.pin ≡ (of c.state w).brief.pin
  unfolding after_in
  pin_lasts [] keys c o stands = refl
  pin_lasts (t ∷ ts) keys c o stands =
      let parts = stands_parts L w c t ts stands in
      pin_lasts ts (λ k d below. keys (suc k) d (omega arith)) (next_in c t)
      (ordered_next L enough c t (keys 0 t (omega arith)) o) parts.1 ∙ one_pin c t o parts.0

-- ---- the moment is later than an earlier run at whose end the worker was not pinned

module _ (L : Layout) (enough : 5 ≤ L.nodes) (w : ℕ) (below : w < L.workers) (past more : List (ℕ × Event))
    (keys : All (λ t. HasKey t.1) (past ++ more)) (unpinned : (known_by L w
    (part_of w (trace_in (ordered L) past))).brief.pin ≡ None)
    (k : ℕ) (answer : Bool) (t : WasSoUnderPin L (past ++ more) w k answer) where
  -- the moment is none of the earlier run, at whose end the pin would stand
  not_earlier : (mid : List (ℕ × Event)) → past ≡ t.before ++ mid → ⊥
  not_earlier mid is = none-some t.pinned.0 (sym unpinned
      ∙ (ap (λ (l : Knowledge). l.brief.pin) (sym (logs_tell L past w below))
      ∙ (ap (λ (ts : List (ℕ × Event)). (of (after_in (ordered L) ts).state w).brief.pin) is
      ∙ (ap (λ (c : Configuration). (of c.state w).brief.pin) (after_in-append (ordered L) t.before mid)
      ∙ (pin_lasts L enough w mid mid_keys (after_in (ordered L) t.before) then' stands ∙ t.pinned.1)))))
    where
      since_is : t.since ≡ mid ++ more
      since_is = append_cancel_left t.before t.since (mid ++ more)
          (sym t.is_run ∙ (ap (λ (l : List (ℕ × Event)). l ++ more) is ∙ append_assoc t.before mid more))

      mid_keys : All (λ t. HasKey t.1) mid
      mid_keys = later_keys t.before mid (first_keys (t.before ++ mid) more
          (subst (λ (l : List (ℕ × Event)). All (λ t. HasKey t.1) (l ++ more)) is keys))

      then' : IsOrdered L (after_in (ordered L) t.before)
      then' = each_ordered L enough t.before (first_keys t.before t.since
          (subst (λ (l : List (ℕ × Event)). All (λ t. HasKey t.1) l) t.is_run keys))

      first : List Turn
      first = trace_in (after_in (ordered L) t.before) mid

      rest : List Turn
      rest = trace_in (after_in (after_in (ordered L) t.before) mid) more

      stands : PinStands w (trace_in (after_in (ordered L) t.before) mid)
      stands = (or_parts (list_any begins_anew (log_of w first)) (list_any begins_anew (log_of w rest))
          (sym (list_any-append begins_anew (log_of w first) (log_of w rest))
          ∙ (ap (list_any begins_anew) (sym (log-append w first rest))
          ∙ (ap (λ (l : List Turn). list_any begins_anew (log_of w l))
          (sym (trace_in-append (after_in (ordered L) t.before) mid more))
          ∙ (ap (λ (l : List (ℕ × Event)). list_any begins_anew
          (log_of w (trace_in (after_in (ordered L) t.before) l))) (sym since_is) ∙ t.stands))))).0

  later : length past < length t.before
  later = elim (cases_lt (length past) (length t.before)) [
    | inl less ↦ less
    | inr le ↦ (let m = begins_with t.before t.since past more (sym t.is_run) le in absurd (not_earlier m.0 m.1))
  ]

  since_then : WasSoSince L past (past ++ more) w k answer
  since_then = record {
    before = t.before;
    since = t.since;
    is_run = t.is_run;
    later = later;
    pinned = t.pinned;
    gives = t.gives;
  }

pub walks_tell_of_their_pin : WalksTellOfTheirPin
walks_tell_of_their_pin L enough w below past more keys unpinned log is_log k slot parent side v small walk =
    since_then L enough w below past more keys unpinned k (v == k)
    (any_walk_tells L enough (past ++ more) keys w k slot parent side v small
    (ends_in_log w (trace_in (ordered L) (past ++ more)) k slot parent side v
    (subst (λ (l : List Entry). WalkEnds k (since_pin [] l) slot parent side v) (sym is_log) walk)))
