-- No two calls have flagged one slot, while their pins stand.
use Rattle.std.proofs.Common.{◌≡◌, ◌≢◌, ℕ, suc, ◌≤◌, Bool, true, false, List, [], ◌∷◌, refl, sym, ap, subst, ◌∙◌, arith, true≢false, get_or-set_same, get_or-set_other}
use Rattle.std.specs.Prelude.{Option, Some, None, unwrap_or, All}
use Rattle.std.specs.List.{list_any}
use native.Mathlib.Decide.{ℕ_discrete}
use Rattle.std.proofs.lemmas.Bool.{or_parts}
use Rattle.std.proofs.lemmas.Option.{none-some, same_Some}
use Rattle.nm_edge.specs.Edges.{Edge}
use Rattle.nm_edge.specs.Layouts.{Layout}
use Rattle.nm_edge.specs.declared.node.NodeId.{NodeId}
use Rattle.nm_model.specs.declared.event.Event.{Event}
use Rattle.nm_model.specs.declared.event.Event.TheVariants.{Flag}
use Rattle.nm_model.specs.declared.reply.Reply.TheVariants.{Flagged}
use Rattle.nm_model.specs.Memory.{edge, child}
use Rattle.nm_model.specs.Runs.{State, of, reply_of, applied}
use Rattle.nm_model.specs.Searches.{Search, idle, searched}
use Rattle.nm_model.specs.Walks.{begins_anew}
use Rattle.nm_model.specs.Ordered.{Configuration, ordered, search_of, learned_from, disorder, next_in, after_in, trace_in}
use Rattle.nm_model.proofs.Numbers.{repeated}
use Rattle.nm_laws.proofs.Steps.{Allowed}
use Rattle.nm_laws.proofs.TreeSteps.{Lawful}
use Rattle.nm_order.specs.Intervals.{HasKey}
use Rattle.nm_order.specs.Moments.{PinStands}
use Rattle.nm_order.proofs.OrderedSteps.{OrderLaw}
use Rattle.nm_order.proofs.OrderedLaws.{IsOrdered, ordered_next, each_ordered}
use Rattle.nm_order.proofs.OrderedInduction.{IsKept, each_run_keeps}
use Rattle.nm_order.proofs.OwnTurns.{own_search, OwnTurn, own_turn, stands_parts}
use Rattle.nm_order.proofs.OwnTurns.OwnTurn.{Quiet, Own}
use Rattle.nm_order.proofs.FlaggedLeaves.{FlagStep, flag_step, anew_unflagged}
use Rattle.nm_order.proofs.FlaggedLeaves.FlagStep.{SameFlag, NewFlag}
use Rattle.nm_order.proofs.LaterFlags.{won_flag_shown}
use Rattle.nm_order.proofs.LaterFlagLaws.{EachFlagKept, flags_step, flags_start}
use Rattle.nm_order.proofs.FlaggedNodes.{flag_marks}
use Rattle.nm_order.proofs.OwnLinks.{first_flag}

-- ---- one flag a slot

-- two calls that keep one slot as flagged are one
abbrev pub OneFlagger : State → List Search → Type 0
OneFlagger s ss = (u v : ℕ) (n m : NodeId) → (search_of ss u).flagged ≡ Some n → (search_of ss v).flagged ≡ Some m
    → n.slot ≡ m.slot → u ≡ v

abbrev Both : State → List Search → Type 0
Both s ss = EachFlagKept s ss × OneFlagger s ss

module _ (s : State) (h : ℕ → ℕ) (law : Lawful s h) (w : ℕ) (ss : List Search) (l : OrderLaw s ss)
    (kept : EachFlagKept s ss) (e : Event) (ok : Allowed s w e)
    (ordered : disorder s.layout (of s w) (search_of ss w) e ≡ None) where
  -- what is flagged by another call is not flagged again
  not_again : (v : ℕ) (m : NodeId) → (search_of ss v).flagged ≡ Some m → (n : NodeId)
      → (searched (search_of ss w) e (reply_of s w e)).flagged ≡ Some n → (begins_anew (e, reply_of s w e) ≡ false)
      → n.slot ≡ m.slot → (search_of ss w).flagged ≡ Some n
  not_again v m has n now stands same = by (flag_step (search_of ss w) e (reply_of s w e) stands)
    where
      by : FlagStep (search_of ss w) e (reply_of s w e) (searched (search_of ss w) e (reply_of s w e))
          → (search_of ss w).flagged ≡ Some n
      by (SameFlag flagged) = sym flagged ∙ now
      by (NewFlag p leaf d q is_flag is_flagged flagged later) = absurd (clash e is_flag ok ordered is_flagged)
        where
          is_n : q ≡ n
          is_n = same_Some q n (sym flagged ∙ now)

          clash : (e : Event) → e ≡ Flag p d leaf → Allowed s w e
              → disorder s.layout (of s w) (search_of ss w) e ≡ None → reply_of s w e ≡ Flagged q → ⊥
          clash e is = subst (λ (e : Event). Allowed s w e → disorder s.layout (of s w) (search_of ss w) e ≡ None
              → reply_of s w e ≡ Flagged q → ⊥) (sym is) (λ ok ordered told.
              let won = won_flag_shown s w p leaf d q told in
              let k = flag_marks s h law w ss l p leaf d ok won.0 ordered in
              let at_leaf : leaf ≡ m.slot = ap (λ (y : NodeId). y.slot) (won.1 ∙ is_n) ∙ same in
              let leads = ((kept v).some m has).root k.3.parent_reached.path d
              (ap (λ (y : ℕ). child s.memory y d) k.3.parent_reached.ends
              ∙ (ap (λ (x : Edge). x.slot) k.3.unmarked ∙ at_leaf)) in
              true≢false (sym leads ∙ (ap (λ (y : ℕ). (edge s.memory y d).flag) k.3.parent_reached.ends
              ∙ ap (λ (x : Edge). x.flag) k.3.unmarked)))

one_step : IsKept Both
one_step s h law w births ss l both e ok ordered has = (flags_step s h law w births ss l both.0 e ok ordered has, one)
  where
    mine : search_of (learned_from ss w e (reply_of s w e)) w ≡ searched (search_of ss w) e (reply_of s w e)
    mine = get_or-set_same ss w (searched (search_of ss w) e (reply_of s w e)) idle
        (let size = l.sized in let lt = ok.worker in omega arith)

    others : (u : ℕ) → u ≢ w → search_of (learned_from ss w e (reply_of s w e)) u ≡ search_of ss u
    others u ne = get_or-set_other ss w u (searched (search_of ss w) e (reply_of s w e)) idle ne

    old : (v : ℕ) → v ≢ w → (m : NodeId) → (search_of (learned_from ss w e (reply_of s w e)) v).flagged ≡ Some m
        → (search_of ss v).flagged ≡ Some m
    old v ne m has = sym (ap (λ (S : Search). S.flagged) (others v ne)) ∙ has

    -- the worker's own flag, beside that of another
    own : (v : ℕ) → v ≢ w → (n m : NodeId) → (search_of (learned_from ss w e (reply_of s w e)) w).flagged ≡ Some n
        → (search_of (learned_from ss w e (reply_of s w e)) v).flagged ≡ Some m → n.slot ≡ m.slot → w ≡ v
    own v ne n m has has' same = go (begins_anew (e, reply_of s w e)) refl
      where
        now : (searched (search_of ss w) e (reply_of s w e)).flagged ≡ Some n
        now = sym (ap (λ (S : Search). S.flagged) mine) ∙ has

        go : (b : Bool) → begins_anew (e, reply_of s w e) ≡ b → w ≡ v
        go true anew = absurd (none-some n (sym (anew_unflagged (search_of ss w) e (reply_of s w e) anew) ∙ now))
        go false stands = both.1 w v n m (not_again s h law w ss l both.0 e ok ordered v m (old v ne m has') n now
            stands same) (old v ne m has') same

    one : OneFlagger (applied s w e) (learned_from ss w e (reply_of s w e))
    one u v n m has has' same = elim (ℕ_discrete u w) [
      | yes a ↦ elim (ℕ_discrete v w) [
        | yes b ↦ a ∙ sym b
        | no b ↦ a ∙ own v b n m (subst (λ (x : ℕ). (search_of (learned_from ss w e (reply_of s w e)) x).flagged
            ≡ Some n) a has) has' same
      ]
      | no a ↦ elim (ℕ_discrete v w) [
        | yes b ↦ sym (own u a m n (subst (λ (x : ℕ). (search_of (learned_from ss w e (reply_of s w e)) x).flagged
            ≡ Some m) b has') has (sym same)) ∙ sym b
        | no b ↦ both.1 u v n m (old u a n has) (old v b m has') same
      ]
    ]

pub each_flag_has_one_call : (L : Layout) → 5 ≤ L.nodes → (turns : List (ℕ × Event)) → All (λ t. HasKey t.1) turns
    → (u v : ℕ) (n m : NodeId) → (own_search (after_in (ordered L) turns) u).flagged ≡ Some n
    → (own_search (after_in (ordered L) turns) v).flagged ≡ Some m → n.slot ≡ m.slot → u ≡ v
each_flag_has_one_call L enough turns keys u v n m has has' same =
    (each_run_keeps Both one_step L enough (
      flags_start L,
      λ u v n m has. absurd
          (none-some n (sym (ap (λ (S : Search). S.flagged) (repeated L.workers u idle)) ∙ has)),
    ) turns keys o.searches
    o.are).1 u v n m (told u n has) (told v m has') same
  where
    o : IsOrdered L (after_in (ordered L) turns)
    o = each_ordered L enough turns keys

    told : (u : ℕ) (n : NodeId) → (own_search (after_in (ordered L) turns) u).flagged ≡ Some n
        → (search_of o.searches u).flagged ≡ Some n
    told u n has = sym (ap (λ (l : Option (List Search)). (search_of (unwrap_or l []) u).flagged) o.are) ∙ has

-- ---- a flag is kept

module _ (L : Layout) (enough : 5 ≤ L.nodes) where
  pub flag_kept : (w : ℕ) (n : NodeId) (turns : List (ℕ × Event)) → All (λ t. HasKey t.1) turns → (c : Configuration)
      → IsOrdered L c → PinStands w (trace_in c turns) → (own_search c w).flagged ≡ Some n
      → (own_search (after_in c turns) w).flagged ≡ Some n
  unfolding after_in
  flag_kept w n [] keys c o stands has = has
  flag_kept w n (t ∷ ts) keys c o stands has = flag_kept w n ts (λ k d below. keys (suc k) d (omega arith))
      (next_in c t) (ordered_next L enough c t (keys 0 t (omega arith)) o) (stands_parts L w c t ts stands).1
      (by (own_turn L w c t o))
    where
      by : OwnTurn w c t → (own_search (next_in c t) w).flagged ≡ Some n
      by (Quiet same none) = ap (λ (S : Search). S.flagged) same ∙ has
      by (Own r is won here learned order) = ap (λ (S : Search). S.flagged) learned
          ∙ on (flag_step (own_search c w) t.1 r ((or_parts (begins_anew (t.1, r)) false
          (sym (ap (list_any begins_anew) here) ∙ (stands_parts L w c t ts stands).0)).0))
        where
          on : FlagStep (own_search c w) t.1 r (searched (own_search c w) t.1 r)
              → (searched (own_search c w) t.1 r).flagged ≡ Some n
          on (SameFlag flagged) = flagged ∙ has
          on (NewFlag p leaf d m is_flag is_flagged flagged later) = absurd
              (none-some n (sym (first_flag c.state.layout (of c.state w) (own_search c w) p leaf d
              (subst (λ (e : Event). disorder c.state.layout (of c.state w) (own_search c w) e ≡ None) is_flag order))
              ∙ has))
