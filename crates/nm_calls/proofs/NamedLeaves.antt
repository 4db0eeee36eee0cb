-- The leaf at which a walk for its key ended was reached, with that key, at a moment after the pin.
use Rattle.std.proofs.Common.{◌≡◌, ◌≢◌, inl, inr, ℕ, ◌<◌, ◌≤◌, ◌==◌, Bool, true, false, cond, ◌&&◌, ◌||◌, List, [], ◌∷◌, ◌++◌, append_assoc, length, refl, sym, ap, subst, ◌∙◌, arith, true≢false}
use Rattle.std.specs.Prelude.{All, None, Ok, Err, Result}
use Rattle.std.specs.List.{list_any}
use Rattle.std.proofs.lemmas.Bool.{and_parts, cases_lt, eqb-true, or_parts}
use Rattle.std.proofs.lemmas.List.{append_cancel_left}
use Rattle.std.proofs.lemmas.List.Folds.{list_any-append}
use Rattle.std.proofs.lemmas.Option.{none-some}
use Rattle.nm_edge.specs.Layouts.{Layout}
use Rattle.nm_edge.specs.declared.edge.Side.{Side}
use Rattle.nm_edge.specs.declared.edge.Side.TheVariants.{Left, Right}
use Rattle.nm_model.specs.declared.event.Event.{Event}
use Rattle.nm_model.specs.declared.event.Event.TheVariants.{Look, Leave, LeaveWith}
use Rattle.nm_model.specs.declared.event.Field.TheVariants.{Key, Edge as EdgeOn}
use Rattle.nm_model.specs.declared.reply.Refused.{Refused}
use Rattle.nm_model.specs.declared.reply.Reply.{Reply}
use Rattle.nm_model.specs.declared.reply.Reply.TheVariants.{KeyIs, EdgeIs, Departed}
use Rattle.nm_model.specs.declared.trace.Turn.{Turn}
use Rattle.nm_model.specs.Headline.{HasLeft, departs, leaves}
use Rattle.nm_model.specs.Knowledge.{Knowledge}
use Rattle.nm_model.specs.Memory.{node, child, is_leaf, infinity_0, infinity_1}
use Rattle.nm_model.specs.Runs.{of}
use Rattle.nm_model.specs.Searches.{side_of}
use Rattle.nm_model.specs.Walks.{Entry, IsPart, WalkComes, WalkReads, WalkEnds, begins_anew, log_of, logged_by}
use Rattle.nm_model.specs.Ordered.{Configuration, ordered, after_in, trace_in}
use Rattle.nm_laws.proofs.Configurations.{after_in-append}
use Rattle.nm_order.specs.Intervals.{HasKey, key}
use Rattle.nm_order.specs.Logs.{part_of, known_by}
use Rattle.nm_order.specs.Moments.{PinStands}
use Rattle.nm_order.specs.Ranges.{StandsFor}
use Rattle.nm_order.specs.StalePaths.{HasPin, WasReachedLater, log_since}
use Rattle.nm_order.proofs.AnswersSince.{later_keys}
use Rattle.nm_order.proofs.CutTurns.{reached_inside}
use Rattle.nm_order.proofs.FactLaws.{leaf_is}
use Rattle.nm_order.proofs.LogParts.{part_grows, part_itself, part_within}
use Rattle.nm_order.proofs.OrderedLaws.{IsOrdered, each_ordered}
use Rattle.nm_order.proofs.PartsOfRuns.{logs_tell}
use Rattle.nm_order.proofs.RealTime.{begins_with}
use Rattle.nm_order.proofs.RunExchanges.{first_keys}
use Rattle.nm_order.proofs.Sentinels.{sentinel_is_high, sentinels_of}
use Rattle.nm_order.proofs.StaleRuns.{radix_walk, walk_was_reached}
use Rattle.nm_order.proofs.WalkAnswers.{pin_lasts}
use Rattle.nm_order.proofs.WalkTells.{ends_at_leaf, read_key, stands}
use Rattle.nm_order.proofs.WalksOfRuns.{trace_in-append, log-append}

-- ---- the moment of the leaf

-- the looks of the walk came after the first turns of the run
module _ (L : Layout) (enough : 5 ≤ L.nodes) (past more : List (ℕ × Event))
    (keys : All (λ t. HasKey t.1) (past ++ more)) (u k slot parent : ℕ) (side : Side) (small : k < infinity_1)
    (walk : WalkEnds k (log_since L past (past ++ more) u) slot parent side k) where
  abbrev turns : List (ℕ × Event)
  turns = past ++ more

  comes : WalkComes k (log_since L past (past ++ more) u) slot parent side
  comes = record {
    looks = walk.looks;
    leads = walk.leads;
    is_part = part_within walk.is_part walk.looks (part_grows
        ((Look slot Key, KeyIs k) ∷ (Look slot (EdgeOn (side_of k k)), EdgeIs walk.null) ∷ [])
        (part_itself walk.looks));
  }

  pub leaf_was : WasReachedLater L past (past ++ more) u k slot
  leaf_was = by L.radix refl
    where
      by : (shape : Bool) → L.radix ≡ shape → WasReachedLater L past turns u k slot
      by false search = walk_was_reached L enough past more keys search u k slot parent side small comes
      by true radix = elim (radix_walk L enough past more keys radix u k slot parent side small comes) [
        | inl was ↦ was
        | inr out ↦ absurd (out.1 (stands L enough past more keys u k slot parent side k walk refl))
      ]

  pub leaf_has_key : key (after_in (ordered L) leaf_was.0.before).state.memory slot ≡ k
  leaf_has_key = leaf_was.0.same_key ∙ read_key L enough past more keys u k slot parent side k walk

  pub leaf_is_one : is_leaf (node (after_in (ordered L) leaf_was.0.before).state.memory slot) ≡ true
  leaf_is_one = leaf_was.0.same_kind ∙ ends_at_leaf L enough past more keys u k slot parent side k walk

  -- it is a slot of the layout, and none of a fixed node
  abbrev then' : Configuration
  then' = after_in (ordered L) leaf_was.0.before

  ordered_then : IsOrdered L then'
  ordered_then = each_ordered L enough leaf_was.0.before
      (first_keys leaf_was.0.before leaf_was.0.since
      (subst (λ (l : List (ℕ × Event)). All (λ t. HasKey t.1) l) leaf_was.0.is_run keys))

  pub leaf_is_inside : slot ≤ L.nodes
  leaf_is_inside = reached_inside L enough then' ordered_then slot leaf_was.0.reached

  pub leaf_is_high : k < infinity_0 → 6 ≤ slot
  leaf_is_high low = elim (cases_lt 5 slot) [
    | inl high ↦ omega (arith, high)
    | inr fixed ↦ absurd (too_low fixed)
  ]
    where
      positive : 1 ≤ slot
      positive = let some : slot ≢ 0 = leaf_was.0.reached.is_slot in omega (arith, some)

      too_low : slot ≤ 5 → ⊥
      too_low fixed =
          let high : infinity_0 ≤ key then'.state.memory slot = sentinel_is_high then'.state
          (sentinels_of L then' ordered_then) slot positive fixed in
          let is = leaf_has_key in
          omega (arith, high, is, low)

-- ---- the moment is later than an earlier run at whose end the worker was not pinned

module _ (L : Layout) (enough : 5 ≤ L.nodes) (w : ℕ) (below : w < L.workers) (past more : List (ℕ × Event))
    (keys : All (λ t. HasKey t.1) (past ++ more)) (unpinned : (known_by L w
    (part_of w (trace_in (ordered L) past))).brief.pin ≡ None)
    (before since : List (ℕ × Event)) (is_run : past ++ more ≡ before ++ since)
    (pinned : HasPin (after_in (ordered L) before) w)
    (pin_stands : PinStands w (trace_in (after_in (ordered L) before) since)) where
  not_earlier : (mid : List (ℕ × Event)) → past ≡ before ++ mid → ⊥
  not_earlier mid is = none-some pinned.0 (sym unpinned
      ∙ (ap (λ (l : Knowledge). l.brief.pin) (sym (logs_tell L past w below))
      ∙ (ap (λ (ts : List (ℕ × Event)). (of (after_in (ordered L) ts).state w).brief.pin) is
      ∙ (ap (λ (c : Configuration). (of c.state w).brief.pin) (after_in-append (ordered L) before mid)
      ∙ (pin_lasts L enough w mid mid_keys (after_in (ordered L) before) then' still ∙ pinned.1)))))
    where
      since_is : since ≡ mid ++ more
      since_is = append_cancel_left before since (mid ++ more)
          (sym is_run ∙ (ap (λ (l : List (ℕ × Event)). l ++ more) is ∙ append_assoc before mid more))

      mid_keys : All (λ t. HasKey t.1) mid
      mid_keys = later_keys before mid (first_keys (before ++ mid) more
          (subst (λ (l : List (ℕ × Event)). All (λ t. HasKey t.1) (l ++ more)) is keys))

      then' : IsOrdered L (after_in (ordered L) before)
      then' = each_ordered L enough before (first_keys before since
          (subst (λ (l : List (ℕ × Event)). All (λ t. HasKey t.1) l) is_run keys))

      first : List Turn
      first = trace_in (after_in (ordered L) before) mid

      rest : List Turn
      rest = trace_in (after_in (after_in (ordered L) before) mid) more

      still : PinStands w (trace_in (after_in (ordered L) before) mid)
      still = (or_parts (list_any begins_anew (log_of w first)) (list_any begins_anew (log_of w rest))
          (sym (list_any-append begins_anew (log_of w first) (log_of w rest))
          ∙ (ap (list_any begins_anew) (sym (log-append w first rest))
          ∙ (ap (λ (l : List Turn). list_any begins_anew (log_of w l))
          (sym (trace_in-append (after_in (ordered L) before) mid more))
          ∙ (ap (λ (l : List (ℕ × Event)). list_any begins_anew
          (log_of w (trace_in (after_in (ordered L) before) l))) (sym since_is) ∙ pin_stands))))).0

  pub moment_is_later : length past < length before
  moment_is_later = elim (cases_lt (length past) (length before)) [
    | inl less ↦ less
    | inr le ↦ (let m = begins_with before since past more (sym is_run) le in absurd (not_earlier m.0 m.1))
  ]

-- ---- a pin that stands was not left

anew_by_leave : (e : Event) (r : Reply) → departs e (Ok r) ≡ true → begins_anew (e, r) ≡ true
anew_by_leave Leave Departed left = refl
anew_by_leave (LeaveWith answer) Departed left = refl
anew_by_leave e r left = absurd (true≢false (sym left))

pub pin_not_left : (w : ℕ) (ts : List Turn) → PinStands w ts → HasLeft w ts → ⊥
pin_not_left w [] still left = true≢false (sym left)
pin_not_left w (t ∷ ts) still left = by (pin_not_left w ts) (t.worker == w) refl t.outcome refl
  where
    any_parts : (list_any begins_anew (cond (t.worker == w) (logged_by t) []) ≡ false)
        × (list_any begins_anew (log_of w ts) ≡ false)
    any_parts = or_parts _ _ (sym (list_any-append begins_anew (cond (t.worker == w) (logged_by t) []) (log_of w ts))
        ∙ still)

    later : (PinStands w ts → HasLeft w ts → ⊥) → leaves w t ≡ false → ⊥
    later rec none' = rec any_parts.1 (sym (ap (λ (b : Bool). b || list_any (leaves w) ts) none') ∙ left)

    by : (PinStands w ts → HasLeft w ts → ⊥) → (b : Bool) → (t.worker == w) ≡ b → (o : Result Reply Refused)
        → t.outcome ≡ o → ⊥
    by rec false other o is = later rec (ap (λ (b : Bool). b && departs t.event t.outcome) other)
    by rec true own (Err x) is = later rec (refused (t.worker == w) t.event t.outcome x is)
      where
        refused : (b : Bool) (e : Event) (o : Result Reply Refused) (x : Refused) → o ≡ Err x
            → (b && departs e o) ≡ false
        refused b e o x is = ap (λ (q : Result Reply Refused). b && departs e q) is ∙ none' b e
          where
            none' : (b : Bool) (e : Event) → (b && departs e (Err x)) ≡ false
            none' false e = refl
            none' true Leave = refl
            none' true e = refl
    by rec true own (Ok r) is = go (departs t.event (Ok r)) refl
      where
        go : (d : Bool) → departs t.event (Ok r) ≡ d → ⊥
        go false none' = later rec ((λ i. own i && departs t.event (is i)) ∙ none')
        go true gone = true≢false (sym (ap (λ (b : Bool). b || false) (anew_by_leave t.event r gone))
            ∙ (sym (λ i. list_any begins_anew (cond (own i)
            (logged_by (record { worker = t.worker; event = t.event; outcome = is i })) [])) ∙ any_parts.0))
