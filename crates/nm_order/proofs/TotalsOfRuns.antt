-- In every ordered run each key stands unflagged as often as it was linked, less as often as it was
-- flagged.
use Rattle.std.proofs.Common.{◌≡◌, ◌≢◌, ℕ, ◌+◌, ◌≤◌, inl, inr, ◌⊎◌, ◌==◌, Bool, true, false, cond, ◌&&◌, List, [], ◌∷◌, ◌++◌, refl, sym, ap, subst, ◌∙◌, arith, true≢false}
use Rattle.std.specs.Prelude.{Option, Some, None, unwrap_or, Ok, All}
use Rattle.std.proofs.lemmas.Bool.{and_parts, eqb-true, eqb-false}
use Rattle.nm_edge.specs.Edges.{Edge}
use Rattle.nm_edge.specs.Keys.{IsKey}
use Rattle.nm_edge.specs.Layouts.{Layout}
use Rattle.nm_edge.specs.declared.edge.Side.{Side}
use Rattle.nm_edge.specs.declared.edge.Side.TheVariants.{Left, Right}
use Rattle.nm_edge.specs.declared.node.NodeId.{NodeId}
use Rattle.nm_model.specs.declared.event.Op.TheVariants.{Insert, Delete}
use Rattle.nm_model.specs.declared.event.Event.{Event}
use Rattle.nm_model.specs.declared.event.Event.TheVariants.{Link, Flag}
use Rattle.nm_model.specs.declared.reply.Reply.{Reply}
use Rattle.nm_model.specs.declared.reply.Reply.TheVariants.{Linked, Flagged, Cut}
use Rattle.nm_model.specs.declared.reply.Refused.{Refused}
use Rattle.nm_model.specs.declared.arrivals.Call.{Call}
use Rattle.nm_model.specs.Memory.{Memory, node, edge, child, named, is_leaf, opening, infinity_0}
use Rattle.nm_model.specs.Knowledge.{is_private}
use Rattle.nm_model.specs.Paths.{at, Reached}
use Rattle.nm_model.specs.Runs.{of, reply_of}
use Rattle.nm_model.specs.Walks.{Entry}
use Rattle.nm_model.specs.Searches.{Search}
use Rattle.nm_model.specs.Ordered.{Configuration, ordered, search_of, refused_in, next_in, outcome_in, after_in}
use Rattle.nm_laws.proofs.Trees.{follow_none}
use Rattle.nm_laws.proofs.Configurations.{refused_next, refused_outcome, allowed_outcome}
use Rattle.nm_laws.proofs.Outcomes.{same_reply}
use Rattle.nm_model.specs.Acts.{InSet}
use Rattle.nm_order.specs.Intervals.{HasKey, IsCalled, Gains, Marks, key}
use Rattle.nm_order.specs.Moments.{OfEachOrderedRun}
use Rattle.nm_order.specs.Exchanges.{is_won_link}
use Rattle.nm_order.specs.WalksToArrivals.{is_won_flag}
use Rattle.nm_order.specs.Totals.{is_for, call_of, is_so, once, how_often, links_of, flags_of, StandsUnflagged, Agree, TotalsAgree, TotalsAreTheSet}
use Rattle.nm_order.proofs.OrderedLaws.{null_start, IsOrdered, ordered_next, each_ordered, law_of_state, own_keys, each_link_inserts}
use Rattle.nm_order.proofs.OwnFlags.{each_flag_marks}
use Rattle.nm_order.proofs.OwnLinks.{IsLinkEntry, link_entry, IsFlagEntry, flag_entry}
use Rattle.nm_order.proofs.RunExchanges.{is_own_call}
use Rattle.nm_order.proofs.OwnTurns.{own_search}
use Rattle.nm_order.proofs.WalksOfRuns.{over_turns}
use Rattle.nm_order.proofs.LaterFlags.{FlagKept}
use Rattle.nm_order.proofs.LaterFlagLaws.{EachFlagKept, flags_step, flags_start}
use Rattle.nm_order.proofs.OrderedInduction.{each_run_keeps}
use Rattle.nm_order.proofs.EdgeOrigins.{EdgeOrigin}
use Rattle.nm_order.proofs.EdgeOrigins.EdgeOrigin.{WasThere, IsFlaggedNow, LeadsToNew, LeadsNowhere}
use Rattle.nm_order.proofs.TurnEdges.{LastEdge, last_edge, step_down, nothing_below, turn_origin}
use Rattle.nm_order.proofs.CutTurns.{uncut_stays}
use Rattle.nm_order.proofs.SwapTurns.{swap_turn}
use Rattle.nm_order.proofs.SetChanges.{is_won_swap, swap_entry, turn_lasts, turn_was_reached, WinsNoLink, WinsNoSwap}
use Rattle.nm_order.proofs.OrderedMoments.{Lasting}
use Rattle.nm_order.proofs.FlagFates.{one_more, first, has_key}
use Rattle.nm_order.proofs.PendingLeaves.{each_flagged_leaf_is_pending, own_learns, flag_kept_so, flag_told}
use Rattle.nm_order.proofs.TotalsOfTurns.{unflagged_was, unflagged_stays, not_held, FlagsNone}

-- ---- counting

pub how_often-append : (is_such : Entry → Bool) (k : ℕ) (c : Configuration) (ts : List (ℕ × Event)) (t : ℕ × Event)
    → how_often is_such k c (ts ++ t ∷ []) ≡ how_often is_such k c ts + once is_such k (after_in c ts) t
unfolding how_often after_in
how_often-append is_such k c [] t = omega arith
how_often-append is_such k c (s ∷ ts) t = let rest = how_often-append is_such k (next_in c s) ts t in
    omega (arith, rest)

-- what stands in a set
in_set : (m : Memory) (k : ℕ) → StandsUnflagged m k → InSet m k
in_set m k u = record {
  slot = child m u.parent u.side;
  reached = step_down m u.parent u.side u.reached u.is_slot;
  leaf = u.leaf;
  has_key = u.has_key;
}

pub once_none : (is_such : Entry → Bool) (k : ℕ) (c : Configuration) (t : ℕ × Event)
    → is_so is_such t.1 (outcome_in c t) ≡ false → once is_such k c t ≡ 0
once_none is_such k c t none = ap (λ (b : Bool). cond (b && is_for k (call_of c t.0)) 1 0) none

once_is : (is_such : Entry → Bool) (k : ℕ) (c : Configuration) (t : ℕ × Event) (call : Call)
    → is_so is_such t.1 (outcome_in c t) ≡ true → call_of c t.0 ≡ Some call
    → once is_such k c t ≡ cond (call.key == k) 1 0
once_is is_such k c t call so is = ap (λ (b : Bool). cond (b && is_for k (call_of c t.0)) 1 0) so
    ∙ ap (λ (o : Option Call). cond (is_for k o) 1 0) is

module _ (L : Layout) (enough : 5 ≤ L.nodes) (ts : List (ℕ × Event)) (t : ℕ × Event)
    (keys : All (λ t. HasKey t.1) (ts ++ t ∷ [])) where
  abbrev c : Configuration
  c = after_in (ordered L) ts

  abbrev c' : Configuration
  c' = next_in (after_in (ordered L) ts) t

  before : All (λ t. HasKey t.1) ts
  before = first L enough ts t keys 0 (record { slot = 0; birth = 0 })

  has : HasKey t.1
  has = has_key L enough ts t keys 0 (record { slot = 0; birth = 0 })

  o : IsOrdered L (after_in (ordered L) ts)
  o = each_ordered L enough ts before

  module _ (k links flags : ℕ) (old : Agree links flags (StandsUnflagged c.state.memory k)) where
    abbrev Next : Type 0
    Next = Agree (links + once is_won_link k c t) (flags + once is_won_flag k c t) (StandsUnflagged c'.state.memory k)

    -- neither was won for the key
    same : once is_won_link k c t ≡ 0 → once is_won_flag k c t ≡ 0
        → (StandsUnflagged c.state.memory k → StandsUnflagged c'.state.memory k)
        → (StandsUnflagged c'.state.memory k → StandsUnflagged c.state.memory k) → Next
    same a b there back = by old
      where
        by : Agree links flags (StandsUnflagged c.state.memory k) → Next
        by (inl x) = inl ((let e = x.0 in omega (arith, a, b, e)), there x.1)
        by (inr x) = inr ((let e = x.0 in omega (arith, a, b, e)), λ u. x.1 (back u))

    o' : IsOrdered L (next_in (after_in (ordered L) ts) t)
    o' = ordered_next L enough c t has o

    -- what is put in by no link was reached
    back_unless : WinsNoLink L enough c t has o → WinsNoSwap L enough c t has o → StandsUnflagged c'.state.memory k
        → StandsUnflagged c.state.memory k
    back_unless plain unswapped u = by (unflagged_was L enough c t has o k u)
      where
        by : StandsUnflagged c.state.memory k ⊎ (is_private (of c.state t.0) (child c'.state.memory u.parent u.side)
            ≡ true) → StandsUnflagged c.state.memory k
        by (inl was) = was
        by (inr held) = absurd
            (not_held L enough c t has o (child c'.state.memory u.parent u.side)
            (turn_was_reached L enough c t has o plain unswapped (child c'.state.memory u.parent u.side)
            (step_down c'.state.memory u.parent u.side u.reached u.is_slot)) held)

    module _ (r : Reply) (won : outcome_in c t ≡ Ok r) where
      differ_cut : (ns : List NodeId) → outcome_in c t ≡ Ok (Cut ns) → r ≡ Cut ns
      differ_cut ns is = same_reply r (Cut ns) (sym won ∙ is)

      is_of : (is_such : Entry → Bool) (b : Bool) → is_such (t.1, r) ≡ b → is_so is_such t.1 (outcome_in c t) ≡ b
      is_of is_such b is = ap (is_so is_such t.1) won ∙ is

      -- ---- a link

      module _ (l : IsLinkEntry t.1 r) (j : ℕ) (called : IsCalled c t.0 Insert j)
          (gains : Gains c.state.memory c'.state.memory j) where
        call_is : call_of c t.0 ≡ Some (record { op = Insert; key = j })
        call_is = is_own_call c t.0 Insert j called

        no_flag : once is_won_flag k c t ≡ 0
        no_flag = once_none is_won_flag k c t (is_of is_won_flag false
            (ap (λ (e : Event). is_won_flag (e, r)) l.is_event))

        one_link : (b : Bool) → (j == k) ≡ b → once is_won_link k c t ≡ cond b 1 0
        one_link b is = once_is is_won_link k c t (record { op = Insert; key = j })
            (is_of is_won_link true ((λ i. is_won_link (l.is_event i, l.is_reply i)))) call_is
            ∙ ap (λ (b : Bool). cond b 1 0) is

        flags_none : FlagsNone L enough c t has o k
        flags_none p d leaf is why reached unmarked key_is = differ (sym l.is_event ∙ is)
          where
            differ : Link l.parent l.side l.leaf l.new ≡ Flag p d leaf → ⊥
            differ e = cc

        uncut : (ns : List NodeId) → outcome_in c t ≡ Ok (Cut ns) → ⊥
        uncut ns is = differ (sym l.is_reply ∙ differ_cut ns is)
          where
            differ : Linked l.node ≡ Cut ns → ⊥
            differ e = cc

        -- the new leaf stands on an edge that is not flagged
        new_stands : (InSet c.state.memory k → ⊥) → InSet c'.state.memory k → StandsUnflagged c'.state.memory k
        new_stands was_not s = elim (last_edge c'.state.memory (nothing_below L enough c' t o') s.slot s.reached) [
          | inl root ↦ absurd (not_root root)
          | inr e ↦ on e (turn_origin L enough c t o e.parent e.reached e.side)
        ]
          where
            not_root : s.slot ≡ 1 → ⊥
            not_root is =
                let left = (law_of_state L enough c' o').1.tree.root_left in
                let null = eqb-true _ 0 (and_parts ((node c'.state.memory s.slot).left.slot == 0)
                ((node c'.state.memory s.slot).right.slot == 0) s.leaf).0 in
                let two : child c'.state.memory 1 Left ≡ 0 = ap (λ (x : ℕ). child c'.state.memory x Left) (sym is)
                ∙ null in
                absurd (omega (arith, left, two))

            was_in : Reached c.state.memory s.slot → InSet c.state.memory k
            was_in r = record {
              slot = s.slot;
              reached = r;
              leaf = sym
                  (ap (λ (y : Lasting). y.leaf) (turn_lasts L enough c t has o s.slot r))
                  ∙ s.leaf;
              has_key = sym (ap (λ (y : Lasting). y.key) (turn_lasts L enough c t has o s.slot r))
                  ∙ s.has_key;
            }

            on : (e : LastEdge c'.state.memory s.slot) → EdgeOrigin c.state t.0 t.1 c'.state.memory e.parent e.side
                → StandsUnflagged c'.state.memory k
            on e (WasThere p d reached leads same) = absurd
                (was_not (was_in (subst (Reached c.state.memory) (leads ∙ e.leads)
                (step_down c.state.memory p d reached (λ z. s.reached.is_slot (sym e.leads ∙ (sym leads ∙ z)))))))
            on e (IsFlaggedNow leaf is reached unmarked marked) = absurd (differ (sym l.is_event ∙ is))
              where
                differ : Link l.parent l.side l.leaf l.new ≡ Flag e.parent e.side leaf → ⊥
                differ h = cc
            on e (LeadsToNew p d leaf new is unmarked held plain) = record {
              parent = e.parent;
              side = e.side;
              reached = e.reached;
              is_slot = λ z. s.reached.is_slot (sym e.leads ∙ z);
              unflagged = plain;
              leaf = ap (λ (y : ℕ). is_leaf (node c'.state.memory y)) e.leads ∙ s.leaf;
              has_key = ap (key c'.state.memory) e.leads ∙ s.has_key;
            }
            on e (LeadsNowhere null) = absurd (s.reached.is_slot (sym e.leads ∙ null))

        of_link : Next
        of_link = go (j == k) refl
          where
            go : (b : Bool) → (j == k) ≡ b → Next
            go true is = by old
              where
                here : k ≡ j
                here = sym (eqb-true j k is)

                was_not : InSet c.state.memory k → ⊥
                was_not s = gains.was_not (subst (InSet c.state.memory) here s)

                by : Agree links flags (StandsUnflagged c.state.memory k) → Next
                by (inl x) = absurd (was_not (in_set c.state.memory k x.1))
                by (inr x) = inl (
                  (let e = x.0 in let a = one_link true is in let b = no_flag in
                      omega (arith, e, a, b)),
                  new_stands was_not ((gains.now k).1 (inr here)),
                )
            go false is = same (one_link false is) no_flag (unflagged_stays L enough c t has o k flags_none) back
              where
                back : StandsUnflagged c'.state.memory k → StandsUnflagged c.state.memory k
                back u = by (unflagged_was L enough c t has o k u)
                  where
                    by : StandsUnflagged c.state.memory k ⊎ (is_private (of c.state t.0)
                        (child c'.state.memory u.parent u.side) ≡ true) → StandsUnflagged c.state.memory k
                    by (inl was) = was
                    by (inr held) = absurd (on ((gains.now k).0 (in_set c'.state.memory k u)))
                      where
                        on : InSet c.state.memory k ⊎ (k ≡ j) → ⊥
                        on (inr at) = eqb-false j k is (sym at)
                        on (inl s) = not_held L enough c t has o s.slot s.reached
                            (subst (λ (x : ℕ). is_private (of c.state t.0) x ≡ true) (sym one) held)
                          where
                            now : InSet c'.state.memory k
                            now = record {
                              slot = s.slot;
                              reached = uncut_stays L enough c t o uncut s.slot
                                  s.reached;
                              leaf = ap (λ (y : Lasting). y.leaf)
                                  (turn_lasts L enough c t has o s.slot s.reached)
                                  ∙ s.leaf;
                              has_key = ap (λ (y : Lasting). y.key)
                                  (turn_lasts L enough c t has o s.slot s.reached) ∙ s.has_key;
                            }

                            there : InSet c'.state.memory k
                            there = in_set c'.state.memory k u

                            one : s.slot ≡ child c'.state.memory u.parent u.side
                            one = own_keys L enough c' o' s.slot (child c'.state.memory u.parent u.side)
                                (uncut_stays L enough c t o uncut s.slot s.reached)
                                (step_down c'.state.memory u.parent u.side u.reached u.is_slot)
                                (ap (λ (y : Lasting). y.leaf) (turn_lasts L enough c t has o s.slot s.reached)
                                ∙ s.leaf) u.leaf (ap (λ (y : Lasting). y.key)
                                (turn_lasts L enough c t has o s.slot s.reached) ∙ (s.has_key ∙ sym u.has_key))

      no_link_won : is_won_link (t.1, r) ≡ false → WinsNoLink L enough c t has o
      no_link_won plain q told = ap (λ (x : Reply). is_won_link (t.1, x)) (same_reply q r (sym told ∙ won)) ∙ plain

      -- ---- a flag

      module _ (l : IsFlagEntry t.1 r) (j : ℕ) (called : IsCalled c t.0 Delete j)
          (marks : Marks c.state.memory l.parent l.side l.leaf l.node j) where
        flag_call : call_of c t.0 ≡ Some (record { op = Delete; key = j })
        flag_call = is_own_call c t.0 Delete j called

        plain_link : is_won_link (t.1, r) ≡ false
        plain_link = ap (λ (e : Event). is_won_link (e, r)) l.is_event

        no_link : once is_won_link k c t ≡ 0
        no_link = once_none is_won_link k c t (is_of is_won_link false plain_link)

        one_flag : (b : Bool) → (j == k) ≡ b → once is_won_flag k c t ≡ cond b 1 0
        one_flag b is = once_is is_won_flag k c t (record { op = Delete; key = j })
            (is_of is_won_flag true (λ i. is_won_flag (l.is_event i, l.is_reply i))) flag_call
            ∙ ap (λ (b : Bool). cond b 1 0) is

        not_cut : (ns : List NodeId) → outcome_in c t ≡ Ok (Cut ns) → ⊥
        not_cut ns is = differ (sym l.is_reply ∙ differ_cut ns is)
          where
            differ : Flagged l.node ≡ Cut ns → ⊥
            differ e = cc

        stood : j ≡ k → StandsUnflagged c.state.memory k
        stood same = record {
          parent = l.parent;
          side = l.side;
          reached = marks.parent_reached;
          is_slot = λ z. marks.reached.is_slot (sym at ∙ z);
          unflagged = ap (λ (e : Edge). e.flag) marks.unmarked;
          leaf = ap (λ (x : ℕ). is_leaf (node c.state.memory x)) at ∙ marks.childless;
          has_key = ap (key c.state.memory) at ∙ (marks.has_key ∙ same);
        }
          where
            at : child c.state.memory l.parent l.side ≡ l.leaf
            at = ap (λ (e : Edge). e.slot) marks.unmarked

        -- the flagged leaf's edge is flagged now
        flagged_now : (own_search c' t.0).flagged ≡ Some l.node
        flagged_now =
            let turn : t ≡ (t.0, Flag l.parent l.side l.leaf) = λ i. (t.0, l.is_event i) in
            ap (λ (v : ℕ × Event). (own_search (next_in c v) t.0).flagged) turn
            ∙ (ap (λ (S : Search). S.flagged) (own_learns L enough c o t.0 (Flag l.parent l.side l.leaf)
            (Flagged l.node) (ap (outcome_in c) (sym turn) ∙ (won ∙ ap (λ (x : Reply). Ok x) l.is_reply)))
            ∙ flag_kept_so (own_search c t.0) l.parent l.leaf l.side l.node)

        stands_flagged : j ≡ k → StandsUnflagged c'.state.memory k → ⊥
        stands_flagged same u = true≢false (sym leads
            ∙ (ap (λ (y : ℕ). (edge c'.state.memory y u.side).flag) u.reached.ends ∙ u.unflagged))
          where
            x : ℕ
            x = child c'.state.memory u.parent u.side

            one : child c'.state.memory u.parent u.side ≡ l.leaf
            one = own_keys L enough c' o' (child c'.state.memory u.parent u.side) l.leaf
                (step_down c'.state.memory u.parent u.side u.reached u.is_slot)
                (uncut_stays L enough c t o not_cut l.leaf marks.reached) u.leaf
                (ap (λ (y : Lasting). y.leaf) (turn_lasts L enough c t has o l.leaf marks.reached) ∙ marks.childless)
                (u.has_key ∙ sym (ap (λ (y : Lasting). y.key) (turn_lasts L enough c t has o l.leaf marks.reached)
                ∙ (marks.has_key ∙ same)))

            kept : FlagKept c'.state.memory (of c'.state t.0) (own_search c' t.0)
            kept = subst (λ (d : Configuration). FlagKept d.state.memory (of d.state t.0) (own_search d t.0))
                (one_more L enough ts t)
                (subst (λ (S : Search). FlagKept (after_in (ordered L) (ts ++ t ∷ [])).state.memory
                (of (after_in (ordered L) (ts ++ t ∷ [])).state t.0) S)
                (sym (ap (λ (l : Option (List Search)). search_of (unwrap_or l []) t.0) far.are))
                (each_run_keeps EachFlagKept flags_step L enough (flags_start L) (ts ++ t ∷ []) keys far.searches
                far.are t.0))
              where
                far : IsOrdered L (after_in (ordered L) (ts ++ t ∷ []))
                far = each_ordered L enough (ts ++ t ∷ []) keys

            leads : (edge c'.state.memory (at c'.state.memory u.reached.path) u.side).flag ≡ true
            leads = (kept.some l.node flagged_now).root u.reached.path u.side
                (ap (λ (y : ℕ). child c'.state.memory y u.side) u.reached.ends
                ∙ (one ∙ sym (ap (λ (n : NodeId). n.slot) marks.names)))

        of_flag : Next
        of_flag = go (j == k) refl
          where
            go : (b : Bool) → (j == k) ≡ b → Next
            go true is = by old
              where
                by : Agree links flags (StandsUnflagged c.state.memory k) → Next
                by (inl x) = inr (
                  (let e = x.0 in let a = no_link in let b = one_flag true is in
                      omega (arith, e, a, b)),
                  stands_flagged (eqb-true j k is),
                )
                by (inr x) = absurd (x.1 (stood (eqb-true j k is)))
            go false is = same no_link (one_flag false is) (unflagged_stays L enough c t has o k none)
                (back_unless (no_link_won plain_link) (λ q told. ap (λ (e : Event). is_won_swap e q) l.is_event))
              where
                none : FlagsNone L enough c t has o k
                none p d leaf at why reached unmarked key_is = eqb-false j k is
                    (sym marks.has_key ∙ (ap (key c.state.memory) (same_leaf (sym l.is_event ∙ at)) ∙ key_is))
                  where
                    same_leaf : Flag l.parent l.side l.leaf ≡ Flag p d leaf → l.leaf ≡ leaf
                    same_leaf e = cc

      -- ---- anything else

      of_neither : is_won_link (t.1, r) ≡ false → is_won_flag (t.1, r) ≡ false → Next
      of_neither a b = go (is_won_swap t.1 r) refl
        where
          none : FlagsNone L enough c t has o k
          none p d leaf is why reached unmarked key_is = true≢false (sym (λ i. is_won_flag (is i, told i)) ∙ b)
            where
              told : r ≡ Flagged (named c.state.memory leaf)
              told = same_reply r (Flagged (named c.state.memory leaf))
                  (sym won ∙ (allowed_outcome c t why ∙ ap (λ (x : Reply). Ok x)
                  (ap (reply_of c.state t.0) is ∙ flag_told c.state t.0 p leaf d unmarked)))

          go : (x : Bool) → is_won_swap t.1 r ≡ x → Next
          go true h =
              let x = swap_entry t.1 r h in
              let stays = (swap_turn L enough c t o x.0 x.1 x.2 x.3 x.5 x.4
              (won ∙ ap (λ (q : Reply). Ok q) x.6)).unflagged k in
              same (once_none is_won_link k c t (is_of is_won_link false a))
              (once_none is_won_flag k c t (is_of is_won_flag false b)) stays.1 stays.0
          go false h = same (once_none is_won_link k c t (is_of is_won_link false a))
              (once_none is_won_flag k c t (is_of is_won_flag false b)) (unflagged_stays L enough c t has o k none)
              (back_unless (no_link_won a) (λ q told. ap (is_won_swap t.1) (same_reply q r (sym told ∙ won)) ∙ h))

      of_reply : Next
      of_reply = go (is_won_link (t.1, r)) refl (is_won_flag (t.1, r)) refl
        where
          go : (a : Bool) → is_won_link (t.1, r) ≡ a → (b : Bool) → is_won_flag (t.1, r) ≡ b → Next
          go true link b is = linked (link_entry t.1 r link)
            where
              linked : IsLinkEntry t.1 r → Next
              linked l =
                  let turn : t ≡ (t.0, Link l.parent l.side l.leaf l.new) = λ i. (t.0, l.is_event i) in
                  let ins = each_link_inserts L enough ts before t.0 l.parent l.side l.leaf l.new l.node
                  (ap (outcome_in c) (sym turn) ∙ (won ∙ ap (λ (x : Reply). Ok x) l.is_reply)) in
                  of_link l ins.0 ins.1 (subst (λ (v : ℕ × Event). Gains c.state.memory (next_in c v).state.memory
                  ins.0) (sym turn) ins.2)
          go false link true flag = flagged (flag_entry t.1 r flag)
            where
              flagged : IsFlagEntry t.1 r → Next
              flagged l =
                  let turn : t ≡ (t.0, Flag l.parent l.side l.leaf) = λ i. (t.0, l.is_event i) in
                  let m = each_flag_marks L enough ts before t.0 l.parent l.side l.leaf l.node
                  (ap (outcome_in c) (sym turn) ∙ (won ∙ ap (λ (x : Reply). Ok x) l.is_reply)) in
                  of_flag l m.0 m.1 m.2
          go false link false flag = of_neither link flag

    -- a turn keeps it
    pub turn_agrees : Next
    turn_agrees = go (refused_in c t.0 t.1) refl
      where
        go : (q : Option Refused) → refused_in c t.0 t.1 ≡ q → Next
        go (Some q) why =
            let still : c' ≡ c = refused_next c t q why in
            same (once_none is_won_link k c t (ap (is_so is_won_link t.1) (refused_outcome c t q why)))
            (once_none is_won_flag k c t (ap (is_so is_won_flag t.1) (refused_outcome c t q why)))
            (λ u. subst (λ (d : Configuration). StandsUnflagged d.state.memory k) (sym still) u)
            (λ u. subst (λ (d : Configuration). StandsUnflagged d.state.memory k) still u)
        go None why = of_reply (reply_of c.state t.0 t.1) (allowed_outcome c t why)

-- at the opening each reached node has a sentinel key
high_keys : (L : Layout) (path : List Side) → at (opening L) path ≢ 0
    → infinity_0 ≤ key (opening L) (at (opening L) path)
high_keys L [] there = omega arith
high_keys L (Left ∷ []) there = omega arith
high_keys L (Right ∷ []) there = omega arith
high_keys L (Left ∷ Left ∷ []) there = omega arith
high_keys L (Left ∷ Right ∷ []) there = omega arith
high_keys L (Left ∷ Left ∷ Left ∷ q) there = absurd (there (follow_none (child (opening L)) (null_start L) q))
high_keys L (Left ∷ Left ∷ Right ∷ q) there = absurd (there (follow_none (child (opening L)) (null_start L) q))
high_keys L (Left ∷ Right ∷ Left ∷ q) there = absurd (there (follow_none (child (opening L)) (null_start L) q))
high_keys L (Left ∷ Right ∷ Right ∷ q) there = absurd (there (follow_none (child (opening L)) (null_start L) q))
high_keys L (Right ∷ Left ∷ q) there = absurd (there (follow_none (child (opening L)) (null_start L) q))
high_keys L (Right ∷ Right ∷ q) there = absurd (there (follow_none (child (opening L)) (null_start L) q))

-- so no key of the set stands
pub empty_first : (L : Layout) (k : ℕ) → IsKey k → InSet (opening L) k → ⊥
empty_first L k small s =
    let high = high_keys L s.reached.path (λ z. s.reached.is_slot (sym s.reached.ends ∙ z)) in
    let is : key (opening L) (at (opening L) s.reached.path) ≡ k = ap (key (opening L)) s.reached.ends ∙ s.has_key in
    absurd (omega (arith, small, high, is))

module _ (L : Layout) (enough : 5 ≤ L.nodes) where
  none_stand : (k : ℕ) → IsKey k → StandsUnflagged (opening L) k → ⊥
  none_stand k small u = empty_first L k small (in_set (opening L) k u)

  totals : (ts : List (ℕ × Event)) → All (λ t. HasKey t.1) ts → TotalsAgree L ts
  unfolding after_in how_often
  totals = over_turns (TotalsAgree L) (λ k small. inr (refl, none_stand k small)) step
    where
      step : (ts : List (ℕ × Event)) (t : ℕ × Event) → All (λ t. HasKey t.1) (ts ++ t ∷ []) → TotalsAgree L ts
          → TotalsAgree L (ts ++ t ∷ [])
      step ts t keys old k small = rw (
        how_often-append is_won_link k (ordered L) ts t,
        how_often-append is_won_flag
            k (ordered L) ts t,
        one_more L enough ts t,
      ) (turn_agrees L enough ts t keys k (links_of k L ts)
          (flags_of k L ts) (old k small))

pub each_total_agrees : OfEachOrderedRun TotalsAgree
each_total_agrees L enough turns keys = totals L enough turns keys

-- where nothing is pending, each reached leaf stands unflagged
pub each_total_is_the_set : OfEachOrderedRun TotalsAreTheSet
each_total_is_the_set L enough turns keys nothing k small = by (totals L enough turns keys k small)
  where
    c : Configuration
    c = after_in (ordered L) turns

    o : IsOrdered L (after_in (ordered L) turns)
    o = each_ordered L enough turns keys

    stands : InSet (after_in (ordered L) turns).state.memory k
        → StandsUnflagged (after_in (ordered L) turns).state.memory k
    stands s = elim (last_edge (after_in (ordered L) turns).state.memory
        (λ d. ap (λ (e : Edge). e.slot) ((law_of_state L enough (after_in (ordered L) turns) o).1.tree.nothing d))
        s.slot s.reached) [
          | inl root ↦ absurd (not_root root)
          | inr e ↦ on e ((edge (after_in (ordered L) turns).state.memory e.parent e.side).flag) refl
        ]
      where
        not_root : s.slot ≡ 1 → ⊥
        not_root is =
            let left = (law_of_state L enough (after_in (ordered L) turns) o).1.tree.root_left in
            let null = eqb-true _ 0 (and_parts ((node (after_in (ordered L) turns).state.memory s.slot).left.slot
            == 0) ((node (after_in (ordered L) turns).state.memory s.slot).right.slot == 0) s.leaf).0 in
            let two : child (after_in (ordered L) turns).state.memory 1 Left
            ≡ 0 = ap (λ (x : ℕ). child (after_in (ordered L) turns).state.memory x Left) (sym is) ∙ null in
            absurd (omega (arith, left, two))

        on : (e : LastEdge (after_in (ordered L) turns).state.memory s.slot) → (b : Bool)
            → (edge (after_in (ordered L) turns).state.memory e.parent e.side).flag ≡ b
            → StandsUnflagged (after_in (ordered L) turns).state.memory k
        on e true flag = let p = each_flagged_leaf_is_pending L enough turns keys e.parent e.side e.reached flag in
            absurd (nothing p.worker p.key p.flag)
        on e false plain = record {
          parent = e.parent;
          side = e.side;
          reached = e.reached;
          is_slot = λ z. s.reached.is_slot (sym e.leads ∙ z);
          unflagged = plain;
          leaf = ap (λ (y : ℕ). is_leaf (node (after_in (ordered L) turns).state.memory y)) e.leads ∙ s.leaf;
          has_key = ap (key (after_in (ordered L) turns).state.memory) e.leads ∙ s.has_key;
        }

    by : Agree (links_of k L turns) (flags_of k L turns)
        (StandsUnflagged (after_in (ordered L) turns).state.memory k)
        → Agree (links_of k L turns) (flags_of k L turns) (InSet (after_in (ordered L) turns).state.memory k)
    by (inl x) = inl (x.0, in_set (after_in (ordered L) turns).state.memory k x.1)
    by (inr x) = inr (x.0, λ s. x.1 (stands s))
