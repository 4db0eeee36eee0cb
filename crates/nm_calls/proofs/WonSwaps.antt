-- A won swap: its call inserts the key, and the leaf with the key is another one after it.
use Rattle.std.proofs.Common.{◌≡◌, ◌⊎◌, inl, inr, ℕ, true, false, not, ◌&&◌, ◌==◌, List, [], ◌∷◌, ◌++◌, refl, sym, ap, subst, ◌∙◌, arith, true≢false}
use Rattle.std.specs.Prelude.{All, Contains, None, Some, Option, Result, Ok, Err, unwrap_or}
use Rattle.std.specs.List.{list_any}
use Rattle.std.proofs.lemmas.Bool.{and_parts, eqb-true, not-false}
use Rattle.nm_edge.specs.Keys.{IsKey}
use Rattle.nm_edge.specs.Layouts.{Layout, IsLayout}
use Rattle.nm_edge.specs.declared.edge.Side.{Side}
use Rattle.nm_edge.specs.declared.node.NodeId.{NodeId}
use Rattle.nm_model.specs.declared.arrivals.Call.{Call}
use Rattle.nm_model.specs.declared.event.Event.{Event}
use Rattle.nm_model.specs.declared.event.Event.TheVariants.{Link, Splice, Swap}
use Rattle.nm_model.specs.declared.event.Op.{Op}
use Rattle.nm_model.specs.declared.event.Op.TheVariants.{Has, Insert, Delete}
use Rattle.nm_model.specs.declared.reply.Refused.{Refused}
use Rattle.nm_model.specs.declared.reply.Refused.TheVariants.{NotOrdered}
use Rattle.nm_model.specs.declared.reply.Reply.{Reply}
use Rattle.nm_model.specs.declared.reply.Reply.TheVariants.{Cut}
use Rattle.nm_model.specs.declared.trace.Turn.{Turn}
use Rattle.nm_model.specs.Acts.{InSet}
use Rattle.nm_model.specs.Headline.{CutsItsNodes, IsWonSwap, slots_of, words_after}
use Rattle.nm_model.specs.Histories.{call_begun}
use Rattle.nm_model.specs.Knowledge.{draft_of, is_private, knows}
use Rattle.nm_model.specs.Maps.{is_number}
use Rattle.nm_model.specs.Memory.{Memory, child, edge, is_leaf, named, node}
use Rattle.nm_model.specs.Ordered.{Configuration, HasKey, after_in, disorder, disorder_among, disorder_in, ended_at, has_put_in, may_flag_at, next_in, ordered, outcome_in, refused_in, search_of, swaps, swaps_in_order, trace_in}
use Rattle.nm_model.specs.Paths.{IsCut, Reached, follow}
use Rattle.nm_model.specs.Runs.{of, refused}
use Rattle.nm_model.specs.Searches.{Search, is_by, is_side}
use Rattle.nm_model.proofs.Lists.{any_at}
use Rattle.nm_model.proofs.Numbers.{number_is}
use Rattle.nm_laws.proofs.Configurations.{refused_outcome}
use Rattle.nm_laws.proofs.Steps.{passed}
use Rattle.nm_order.specs.History.{pin_of}
use Rattle.nm_order.specs.Intervals.{IsCalled, key}
use Rattle.nm_order.proofs.CutTurns.{cut_shows, mapped_among}
use Rattle.nm_order.proofs.FlagFates.{one_more}
use Rattle.nm_order.proofs.LaterFlagLaws.{EachFlagKept, flags_start, flags_step}
use Rattle.nm_order.proofs.LaterFlags.{FlagKept}
use Rattle.nm_order.proofs.OrderedInduction.{each_run_keeps}
use Rattle.nm_order.proofs.OrderedLaws.{IsOrdered, each_ordered, neither, own_keys}
use Rattle.nm_order.proofs.OrderedMoments.{Lasting}
use Rattle.nm_order.proofs.OrderedSteps.{ForCall}
use Rattle.nm_order.proofs.OwnTurns.{own_search}
use Rattle.nm_order.proofs.SetChanges.{turn_lasts}
use Rattle.nm_order.proofs.SwapTurns.{swap_turn}
use Rattle.nm_order.proofs.WalksOfRuns.{trace_in-append}
use Rattle.nm_theorem.proofs.HeadlineOfRuns.{each_run_has_it}
use Rattle.nm_theorem.proofs.HistoriesOfRuns.{is_called}
use Rattle.nm_theorem.proofs.WrittenWords.{run_words}
use Rattle.nm_steps.specs.Rules.{answered_turn}
use Rattle.nm_walks.proofs.Looks.{enough}
use Rattle.nm_calls.specs.MapHistories.{is_won_swap}
use Rattle.nm_calls.proofs.LeafLinks.{IsFoundLink, IsFoundSwap, is_new, reached_or_put}
use Rattle.nm_calls.proofs.StandingFlags.{TurnAt, called_key, turn_at}

-- ---- turns

-- the turn is a swap that was won
pub record IsSwapOf (e : Event) (o : Result Reply Refused) : Type 0 where
  pub parent : ℕ
  pub side : Side
  pub old : ℕ
  pub new : ℕ
  pub nodes : List NodeId
  pub is : e ≡ Swap parent side old new
  pub won : o ≡ Ok (Cut nodes)

-- it is one or it is none
pub swap_or_not : (e : Event) (o : Result Reply Refused) → IsSwapOf e o ⊎ (is_won_swap e o ≡ false)
swap_or_not (Swap p side old new) (Ok (Cut ns)) =
    inl (record { parent = p; side = side; old = old; new = new; nodes = ns; is = refl; won = refl })
swap_or_not e o = inr refl

-- ---- a leaf that a call has flagged

-- no swap cuts it off
module _ (L : Layout) (fits : IsLayout L) (ts : List (ℕ × Event)) (keys : All (λ t. HasKey t.1) ts) (t : ℕ × Event)
    (ns : List NodeId) (won : outcome_in (after_in (ordered L) ts) t ≡ Ok (Cut ns)) (u : ℕ) (n : NodeId)
    (flagged : (own_search (after_in (ordered L) ts) u).flagged ≡ Some n) (among : Contains ns n)
    (p : ℕ) (side : Side) (old new : ℕ) (e : t.1 ≡ Swap p side old new) where
  abbrev f : Configuration
  f = after_in (ordered L) ts

  in_law : IsOrdered L (after_in (ordered L) ts)
  in_law = each_ordered L (enough L fits) ts keys

  cut : IsCut f.state.memory (next_in f t).state.memory n.slot
  cut = ((cut_shows L (enough L fits) f t in_law ns won).0 n.slot).1 (mapped_among (λ (m : NodeId). m.slot) ns n among)

  hangs : (y : ℕ) × (g : Side) × Reached f.state.memory y × (child f.state.memory y g ≡ n.slot)
      × ((edge f.state.memory y g).flag ≡ false)
  hangs = (swap_turn L (enough L fits) f t in_law p side old new e ns won).cut n.slot cut

  kept : FlagKept f.state.memory (of f.state u) (own_search f u)
  kept = subst (λ (S : Search). FlagKept f.state.memory (of f.state u) S)
      (sym (ap (λ (l : Option (List Search)). search_of (unwrap_or l []) u) in_law.are))
      (each_run_keeps EachFlagKept flags_step L (enough L fits) (flags_start L) ts keys in_law.searches in_law.are u)

  flag : (edge f.state.memory (follow (child f.state.memory) 1 hangs.2.path) hangs.1).flag ≡ true
  flag = (kept.some n flagged).root hangs.2.path hangs.1
      (ap (λ (y : ℕ). child f.state.memory y hangs.1) hangs.2.ends ∙ hangs.3)

  pub flagged_not_swapped : ⊥
  flagged_not_swapped = true≢false (sym flag
      ∙ (ap (λ (y : ℕ). (edge f.state.memory y hangs.1).flag) hangs.2.ends ∙ hangs.4))

-- ---- the call of a won swap

module _ (L : Layout) (fits : IsLayout L) (events : List (ℕ × Event)) (keys : All (λ t. HasKey t.1) events)
    (w p : ℕ) (side : Side) (old new : ℕ) (ns : List NodeId)
    (won : outcome_in (after_in (ordered L) events) (w, Swap p side old new) ≡ Ok (Cut ns)) where
  abbrev c : Configuration
  c = after_in (ordered L) events

  o : IsOrdered L (after_in (ordered L) events)
  o = each_ordered L (enough L fits) events keys

  unrefused : refused_in c w (Swap p side old new) ≡ None
  unrefused = go (refused_in c w (Swap p side old new)) refl
    where
      wrong : (r : Refused) → Err r ≡ Ok (Cut ns) → ⊥
      wrong r e = cc

      go : (q : Option Refused) → refused_in c w (Swap p side old new) ≡ q → q ≡ None
      go None is = refl
      go (Some r) is = absurd (wrong r (sym (refused_outcome c (w, Swap p side old new) r is) ∙ won))

  in_order : disorder c.state.layout (of c.state w) (search_of o.searches w) (Swap p side old new) ≡ None
  unfolding refused_in
  in_order = ap (λ (ss : Option (List Search)). disorder_among c.state.layout ss (of c.state w) w (Swap p side old new))
      (sym o.are)
      ∙ (neither (refused c.state w (Swap p side old new)) (disorder_in c w (Swap p side old new)) unrefused).1

  -- it inserts the key of the old leaf
  abbrev S : Search
  S = search_of o.searches w

  pub inserts_key : IsCalled (after_in (ordered L) events) w Insert (key (after_in (ordered L) events).state.memory old)
  inserts_key = by S.call refl (o.law.walks w)
      (not-false (swaps_in_order (of c.state w) S S.call p side old new) (passed _ NotOrdered None in_order).0)
    where
      of_call : (call : Call) → S.call ≡ Some call → call.op ≡ Insert → call.key ≡ key c.state.memory old
          → IsCalled c w Insert (key c.state.memory old)
      of_call call is op same = record {
        searches = o.searches;
        are = o.are;
        is_call = is ∙ (λ i. Some (record { op = op i; key = same i }));
      }

      by : (x : Option Call) → S.call ≡ x
          → ForCall c.state.layout.radix c.state.memory (knows (of c.state w)) x S.walks
          → swaps_in_order (of c.state w) S x p side old new ≡ true → IsCalled c w Insert (key c.state.memory old)
      by None is walks t = absurd (true≢false (sym t))
      by (Some call) is walks t = on call.op refl t
        where
          on : (op : Op) → call.op ≡ op → swaps (of c.state w) S op call.key p side old new ≡ true
              → IsCalled c w Insert (key c.state.memory old)
          on Has op t = absurd (true≢false (sym t))
          on Delete op t = absurd (true≢false (sym t))
          on Insert op t =
              let fresh = and_parts (not (has_put_in S))
              (is_number (draft_of (of c.state w) new).key call.key
              && list_any (may_flag_at call.key p side old) S.walks) t in
              let parts = and_parts (is_number (draft_of (of c.state w) new).key call.key)
              (list_any (may_flag_at call.key p side old) S.walks) fresh.1 in
              let found = any_at (may_flag_at call.key p side old) S.walks parts.1 in
              let two = and_parts (is_by old p side found.1) (ended_at call.key found.1) found.3 in
              let slot = eqb-true found.1.slot old
              (and_parts (found.1.slot == old) ((found.1.parent == p) && is_side found.1.side side) two.0).0 in
              let read = number_is found.1.key call.key
              (and_parts found.1.ended (is_number found.1.key call.key) two.1).1 in
              of_call call is op
              (sym (walks.1.is_keyed found.0 found.1 call.key found.2 read) ∙ ap (key c.state.memory) slot)

  pub is_user_key : IsKey (key (after_in (ordered L) events).state.memory old)
  is_user_key = called_key L (enough L fits) events keys w Insert (key c.state.memory old) inserts_key

-- ---- a won swap among the turns of a run

-- the call of the worker inserts the key of the old leaf, which the swap cuts off. After it the new leaf
-- is reached and has this key
pub record SwapShown (L : Layout) (before : List Turn) (w p : ℕ) (side : Side) (old new : ℕ) (ns : List NodeId)
    : Type 0 where
  pub pin : ℕ
  pub of_key : ℕ
  pub is_key : IsKey of_key
  pub call : call_begun w before ≡ Some (record { pin = pin; op = Insert; key = of_key })
  pub nodes : ns ≡ named (words_after L before) old ∷ []
  pub old_reached : Reached (words_after L before) old
  pub old_leaf : is_leaf (node (words_after L before) old) ≡ true
  pub old_key : (node (words_after L before) old).key ≡ of_key
  pub new_reached : Reached (words_after L (before ++ answered_turn w (Swap p side old new) (Cut ns) ∷ [])) new
  pub new_leaf : is_leaf (node (words_after L (before ++ answered_turn w (Swap p side old new) (Cut ns) ∷ [])) new)
      ≡ true
  pub new_key : (node (words_after L (before ++ answered_turn w (Swap p side old new) (Cut ns) ∷ [])) new).key ≡
      of_key

module _ (L : Layout) (fits : IsLayout L) (events : List (ℕ × Event)) (keys : All (λ t. HasKey t.1) events)
    (before since : List Turn) (w p : ℕ) (side : Side) (old new : ℕ) (ns : List NodeId)
    (is : trace_in (ordered L) events ≡ before ++ answered_turn w (Swap p side old new) (Cut ns) ∷ since) where
  abbrev swap : Turn
  swap = answered_turn w (Swap p side old new) (Cut ns)

  abbrev event : ℕ × Event
  event = (w, Swap p side old new)

  at : TurnAt L events before w (Swap p side old new) (Cut ns)
  at = turn_at L events keys before since w (Swap p side old new) (Cut ns) is

  abbrev d : Configuration
  d = after_in (ordered L) at.early

  o' : IsOrdered L (after_in (ordered L) at.early)
  o' = each_ordered L (enough L fits) at.early at.keyed

  words : words_after L before ≡ d.state.memory
  words = ap (words_after L) at.first_is ∙ run_words L fits true at.early

  words_then : words_after L (before ++ swap ∷ []) ≡ (next_in d event).state.memory
  unfolding trace_in
  words_then =
      ap (words_after L)
      ((λ i. at.first_is i ++ record { worker = w; event = Swap p side old new; outcome = sym at.told i } ∷ [])
      ∙ sym (trace_in-append (ordered L) at.early (event ∷ [])))
      ∙ (run_words L fits true (at.early ++ event ∷ [])
      ∙ ap (λ (e : Configuration). e.state.memory) (one_more L (enough L fits) at.early event))

  cuts : CutsItsNodes (words_after L before) swap
  cuts = (each_run_has_it L fits true events keys).cuts before since swap is

  won_swap : IsWonSwap (words_after L before) (Swap p side old new) ns
  won_swap = elim (cuts.splices ns refl) [
    | inl splice ↦ absurd (no_splice splice.ancestor splice.side splice.successor splice.parent splice.keep
        splice.is_splice)
    | inr swap ↦ swap
  ]
    where
      no_splice : (a : ℕ) (g : Side) (s q : ℕ) (keep : Side) → Swap p side old new ≡ Splice a g s q keep → ⊥
      no_splice a g s q keep e = cc

  same_old : won_swap.old ≡ old
  same_old = old_of won_swap.parent won_swap.side won_swap.old won_swap.new won_swap.is_swap
    where
      old_of : (a : ℕ) (g : Side) (b q : ℕ) → Swap p side old new ≡ Swap a g b q → b ≡ old
      old_of a g b q e = cc

  nodes_are : ns ≡ named (words_after L before) old ∷ []
  nodes_are = won_swap.nodes ∙ ap (λ (x : ℕ). named (words_after L before) x ∷ []) same_old

  is_cut : IsCut d.state.memory (next_in d event).state.memory old
  is_cut = ((cut_shows L (enough L fits) d event o' ns at.told).0 old).1
      (subst (λ (ms : List NodeId). Contains (slots_of ms) old) (sym nodes_are) (0, omega arith, refl))

  leaf_old : is_leaf (node d.state.memory old) ≡ true
  leaf_old = ap (λ (m : Memory). is_leaf (node m old)) (sym words)
      ∙ (ap (λ (x : ℕ). is_leaf (node (words_after L before) x)) (sym same_old) ∙ won_swap.leaf)

  abbrev k : ℕ
  k = key d.state.memory old

  -- the set still has the key
  there : InSet (next_in d event).state.memory k
  there = ((swap_turn L (enough L fits) d event o' p side old new refl ns at.told).set k).1
      (record { slot = old; reached = is_cut.was; leaf = leaf_old; has_key = refl })

  slot_is : there.slot ≡ new
  slot_is = by (reached_or_put L fits d event has o' there.slot there.reached)
    where
      has : HasKey (Swap p side old new)
      has = tt

      no_link : (q : ℕ) (g : Side) (a b : ℕ) → Swap p side old new ≡ Link q g a b → ⊥
      no_link q g a b e = cc

      new_of : (a : ℕ) (g : Side) (b q : ℕ) → Swap p side old new ≡ Swap a g b q → q ≡ new
      new_of a g b q e = cc

      stale : Reached d.state.memory there.slot → ⊥
      stale was =
          let lasts = turn_lasts L (enough L fits) d event has o' there.slot was in
          let same = own_keys L (enough L fits) d o' there.slot old was is_cut.was
          (ap (λ (l : Lasting). l.leaf) (sym lasts) ∙ there.leaf) leaf_old
          (ap (λ (l : Lasting). l.key) (sym lasts) ∙ there.has_key) in
          is_cut.gone (subst (Reached (next_in d event).state.memory) same there.reached)

      by : Reached d.state.memory there.slot
          ⊎ ((is_private (of d.state w) there.slot ≡ true) × (IsFoundLink d event ⊎ IsFoundSwap d event))
          → there.slot ≡ new
      by (inl was) = absurd (stale was)
      by (inr (held, inl link)) = absurd (no_link link.parent link.side link.old link.new link.is)
      by (inr (held, inr f)) = sym (is_new L fits d event has o' there.slot there.reached held f)
          ∙ new_of f.parent f.side f.old f.new f.is

  pub swap_shown : SwapShown L before w p side old new ns
  swap_shown = record {
    pin = pin_of L at.early w;
    of_key = k;
    is_key = is_user_key L fits at.early at.keyed w p side old new ns at.told;
    call = ap (call_begun w) at.first_is ∙ is_called L (enough L fits) w at.early at.keyed Insert k
        (inserts_key L fits at.early at.keyed w p side old new ns at.told);
    nodes = nodes_are;
    old_reached = subst (λ (m : Memory). Reached m old) (sym words) is_cut.was;
    old_leaf = ap (λ (m : Memory). is_leaf (node m old)) words ∙ leaf_old;
    old_key = ap (λ (m : Memory). (node m old).key) words;
    new_reached = subst (λ (m : Memory). Reached m new) (sym words_then)
        (subst (Reached (next_in d event).state.memory) slot_is there.reached);
    new_leaf = ap (λ (m : Memory). is_leaf (node m new)) words_then
        ∙ (ap (λ (x : ℕ). is_leaf (node (next_in d event).state.memory x)) (sym slot_is) ∙ there.leaf);
    new_key = ap (λ (m : Memory). (node m new).key) words_then
        ∙ (ap (λ (x : ℕ). (node (next_in d event).state.memory x).key) (sym slot_is) ∙ there.has_key);
  }
