-- In every ordered run each flagged edge of a reached node leads to the leaf that a standing call
-- keeps as flagged.
use Rattle.std.proofs.Common.{◌≡◌, ℕ, zero, suc, ◌≤◌, map, inl, inr, ◌⊎◌, ◌==◌, Bool, true, false, cond, List, [], ◌∷◌, ◌++◌, refl, sym, ap, subst, ◌∙◌, arith, true≢false}
use Rattle.std.specs.Prelude.{Option, Some, None, is_some, is_none, unwrap_or, Ok, Contains, All, ◌↔◌, slice_get}
use Rattle.std.specs.List.{list_any}
use Rattle.std.proofs.lemmas.Bool.{eq-eqb, eqb-true, and_parts, and_from, or_cases}
use Rattle.std.proofs.lemmas.Option.{none-some, same_Some, slice_get-get_or, slice_get_within, get_or_from_slice_get}
use Rattle.nm_edge.specs.Edges.{Edge, to, other, is_to}
use Rattle.nm_edge.specs.Layouts.{Layout}
use Rattle.nm_edge.specs.declared.edge.Side.{Side}
use Rattle.nm_edge.specs.declared.edge.Side.TheVariants.{Left, Right}
use Rattle.nm_edge.specs.declared.node.NodeId.{NodeId}
use Rattle.nm_model.specs.declared.event.Op.{Op}
use Rattle.nm_model.specs.declared.event.Op.TheVariants.{Delete}
use Rattle.nm_model.specs.declared.event.Event.{Event}
use Rattle.nm_model.specs.declared.event.Event.TheVariants.{Sight, SightFor, Leave, LeaveWith, Flag}
use Rattle.nm_model.specs.declared.reply.Reply.{Reply}
use Rattle.nm_model.specs.declared.reply.Reply.TheVariants.{Pinned, Departed, Saw, Labelled, Flagged, Lost, Cut}
use Rattle.nm_model.specs.declared.reply.Refused.{Refused}
use Rattle.nm_model.specs.Memory.{node, edge, child, named, is_leaf, opening}
use Rattle.nm_model.specs.Knowledge.{Knowledge}
use Rattle.nm_model.specs.Lawful.{OnlyThePinnedKnow}
use Rattle.nm_model.specs.Paths.{Reached, IsCut}
use Rattle.nm_model.specs.Laws.{slots_of}
use Rattle.nm_laws.proofs.SplicedEdges.{IsFrozenChain}
use Rattle.nm_order.specs.Removals.{is_splice}
use Rattle.nm_order.specs.Pending.{IsOfOneDelete, FlaggedLeavesArePending, CutLeavesAreOfOneDelete}
use Rattle.nm_order.specs.Moments.{OfEachOrderedRun}
use Rattle.nm_order.proofs.RunExchanges.{first_keys}
use Rattle.nm_order.proofs.FlagOwners.{each_flag_has_one_call, flag_kept}
use Rattle.nm_order.proofs.CutTurns.{splice_of, cut_shows, cut_goes_down, named_so, mapped_among}
use Rattle.nm_model.specs.Step.{reply, reply_sight, confirmed}
use Rattle.nm_model.specs.Runs.{State, of, reply_of}
use Rattle.nm_model.specs.Searches.{Search, searched}
use Rattle.nm_model.specs.Walks.{Entry, begins_anew}
use Rattle.nm_model.specs.Ordered.{Configuration, ordered, search_of, has_removed, ended_beside, ended_elsewhere, shows, disorder, refused_in, next_in, outcome_in, after_in}
use Rattle.nm_laws.proofs.EachState.{each_knower_pinned}
use Rattle.nm_laws.proofs.Pictures.{reached_live}
use Rattle.nm_laws.proofs.Views.{picture}
use Rattle.nm_laws.proofs.Configurations.{refused_next, allowed_outcome}
use Rattle.nm_laws.proofs.Outcomes.{same_reply}
use Rattle.nm_laws.proofs.Opening.{plain}
use Rattle.nm_order.specs.Intervals.{HasKey, IsCalled}
use Rattle.nm_order.specs.Exchanges.{HasFlagged}
use Rattle.nm_order.proofs.OrderedMoments.{Lasting}
use Rattle.nm_order.proofs.OrderedLaws.{IsOrdered, ordered_next, each_ordered, law_of_state}
use Rattle.nm_order.proofs.OwnTurns.{own_search, OwnTurn, own_turn}
use Rattle.nm_order.proofs.OwnTurns.OwnTurn.{Quiet, Own}
use Rattle.nm_order.proofs.OwnLinks.{answer_shown, silent, first_flag}
use Rattle.nm_order.proofs.RunMoments.{allowed_entries}
use Rattle.nm_order.proofs.FlaggedLeaves.{FlagStep, flag_step}
use Rattle.nm_order.proofs.FlaggedLeaves.FlagStep.{SameFlag, NewFlag}
use Rattle.nm_order.proofs.RunWalks.{reply_is}
use Rattle.nm_order.proofs.WalksOfRuns.{over_turns}
use Rattle.nm_order.proofs.EdgeOrigins.{EdgeOrigin}
use Rattle.nm_order.proofs.EdgeOrigins.EdgeOrigin.{WasThere, IsFlaggedNow, LeadsToNew, LeadsNowhere}
use Rattle.nm_order.proofs.TurnEdges.{turn_origin, step_down}
use Rattle.nm_order.proofs.SetChanges.{turn_lasts}
use Rattle.nm_order.proofs.FlaggedNodes.{FlaggedLeaf}
use Rattle.nm_order.proofs.FlagFates.{own_flagged, Fate, StandsStill, CutSince, fates, not_elsewhere, one_more, behind_is, first, has_key}

-- ---- how a pin begins or ends

pub data Anew (e : Event) (r : Reply) : Type 0 where
  PinsNow : (n : ℕ) → (e ≡ Sight) ⊎ ((op : Op) × (k : ℕ) × (e ≡ SightFor op k)) → r ≡ Pinned n → Anew e r
  LeavesNow : e ≡ Leave → Anew e r
  AnswersNow : (answer : Bool) → e ≡ LeaveWith answer → r ≡ Departed → Anew e r

pub anew_is : (e : Event) (r : Reply) → begins_anew (e, r) ≡ true → Anew e r
anew_is Sight (Pinned n) anew = PinsNow n (inl refl) refl
anew_is (SightFor op key) (Pinned n) anew = PinsNow n (inr (op, key, refl)) refl
anew_is Leave Departed anew = LeavesNow refl
anew_is (LeaveWith answer) Departed anew = AnswersNow answer refl refl
anew_is e r anew = absurd (true≢false (sym anew))

-- a worker that is pinned confirms no pin
pub no_pin : (k : Knowledge) (p epoch n : ℕ) → k.brief.pin ≡ Some p → reply_sight k epoch ≡ Pinned n → ⊥
no_pin k p epoch n is told = by k.brief.unlabelled
    (ap (λ (o : Option ℕ). cond k.brief.unlabelled (Labelled epoch) (confirmed o k.brief.announcement epoch))
    (sym is) ∙ told)
  where
    by : (b : Bool) → cond b (Labelled epoch) (Saw epoch) ≡ Pinned n → ⊥
    by true e = cc
    by false e = cc

pub sight_told : (s : State) (w : ℕ) → reply_of s w Sight ≡ reply_sight (of s w) s.memory.epoch
unfolding reply
sight_told s w = refl

pub call_told : (s : State) (w : ℕ) (op : Op) (k : ℕ)
    → reply_of s w (SightFor op k) ≡ reply_sight (of s w) s.memory.epoch
unfolding reply
call_told s w op k = refl

pub flag_told : (s : State) (w y leaf : ℕ) (g : Side) → edge s.memory y g ≡ to leaf
    → reply_of s w (Flag y g leaf) ≡ Flagged (named s.memory leaf)
unfolding reply
flag_told s w y leaf g is = ap (λ (b : Bool). cond b (Flagged (named s.memory leaf)) (Lost (edge s.memory y g)))
    (ap (λ (e : Edge). is_to e leaf) is ∙ and_from (leaf == leaf) true (eq-eqb leaf leaf refl) refl)

pub flag_kept_so : (S : Search) (y leaf : ℕ) (g : Side) (n : NodeId)
    → (searched S (Flag y g leaf) (Flagged n)).flagged ≡ Some n
unfolding searched
flag_kept_so S y leaf g n = refl

-- an event that is answered enters the log of its worker
filled : (b : Bool) (x : Entry) → b ≡ true → ◌≡◌ {A = List Entry} (cond b (x ∷ []) []) [] → ⊥
filled true x t none = cc
filled false x t none = true≢false (sym t)

module _ (L : Layout) (enough : 5 ≤ L.nodes) where
  -- a worker's own turn that is answered: what its search learns
  pub own_learns : (c : Configuration) (o : IsOrdered L c) (w : ℕ) (e : Event) (r : Reply)
      → outcome_in c (w, e) ≡ Ok r → own_search (next_in c (w, e)) w ≡ searched (own_search c w) e r
  own_learns c o w e r is = by (own_turn L w c (w, e) o)
    where
      by : OwnTurn w c (w, e) → own_search (next_in c (w, e)) w ≡ searched (own_search c w) e r
      by (Quiet same none) = absurd (filled (w == w) (e, r) (eq-eqb w w refl)
          (sym (allowed_entries w c (w, e) r is) ∙ none))
      by (Own q own won here learned order) = learned ∙ ap (searched (own_search c w) e) (same_reply q r (sym won ∙ is))

  -- a flagged edge of a reached node leads to a slot
  pub flag_leads_high : (c : Configuration) → IsOrdered L c → (y : ℕ) (g : Side) → Reached c.state.memory y
      → (edge c.state.memory y g).flag ≡ true → 6 ≤ child c.state.memory y g
  flag_leads_high c o y g r flag =
      let l = law_of_state L enough c o in
      subst (λ (z : ℕ). (edge c.state.memory z g).flag ≡ true → 6 ≤ child c.state.memory z g) r.ends
      (l.1.tree.flags _ g (reached_live c.state.layout.nodes (picture c.state l.0) l.1.tree r.path
      (λ z. r.is_slot (sym r.ends ∙ z)))) flag

  module _ (ts : List (ℕ × Event)) (t : ℕ × Event) (keys : All (λ t. HasKey t.1) (ts ++ t ∷ [])) where
    abbrev c : Configuration
    c = after_in (ordered L) ts

    abbrev c' : Configuration
    c' = next_in (after_in (ordered L) ts) t

    before : All (λ t. HasKey t.1) ts
    before = first L enough ts t keys 0 (record { slot = 0; birth = 0 })

    o : IsOrdered L (after_in (ordered L) ts)
    o = each_ordered L enough ts before

    o' : IsOrdered L (next_in (after_in (ordered L) ts) t)
    o' = ordered_next L enough c t (has_key L enough ts t keys 0 (record { slot = 0; birth = 0 })) o

    module _ (u : ℕ) (n : NodeId) (was : (own_search c u).flagged ≡ Some n)
        (reached : Reached c.state.memory n.slot) where
      leaf : FlaggedLeaf c.state (own_search c u) u n
      leaf = own_flagged L enough ts before u n was

      pinned : (p : ℕ) × ((of c.state u).brief.pin ≡ Some p)
      pinned = subst (λ (s : State). OnlyThePinnedKnow s) (sym o.leads) (each_knower_pinned L enough o.events) u
          n.slot leaf.known

      -- while its leaf is reached, a call that has flagged it does not end
      no_end : (e : Event) (r : Reply) → outcome_in c (u, e) ≡ Ok r → reply_of c.state u e ≡ r
          → disorder c.state.layout (of c.state u) (own_search c u) e ≡ None → Anew e r → ⊥
      no_end e r is told order (PinsNow p (inl sight) pin) = no_pin (of c.state u) pinned.0 c.state.memory.epoch p
          pinned.1 (sym (sight_told c.state u) ∙ (ap (reply_of c.state u) (sym sight) ∙ (told ∙ pin)))
      no_end e r is told order (PinsNow p (inr call) pin) = no_pin (of c.state u) pinned.0 c.state.memory.epoch p
          pinned.1 (sym (call_told c.state u call.0 call.1) ∙ (ap (reply_of c.state u) (sym call.2) ∙ (told ∙ pin)))
      no_end e r is told order (LeavesNow leave) =
          true≢false (ap is_some (sym was) ∙ (silent c.state.layout (of c.state u) (own_search c u)
          (subst (λ (e : Event). disorder c.state.layout (of c.state u) (own_search c u) e ≡ None) leave order)).1)
      no_end e r is told order (AnswersNow answer leave departs) = by answer
          (subst (λ (op : Op). shows (own_search c u) op leaf.call.key answer ≡ true) leaf.is_op shown)
          (subst (λ (e : Event). outcome_in c (u, e) ≡ Ok r) leave is ∙ ap (λ (q : Reply). Ok q) departs)
        where
          shown : shows (own_search c u) leaf.call.op leaf.call.key answer ≡ true
          shown = answer_shown c.state.layout (of c.state u) (own_search c u) answer leaf.call leaf.is_call
              (subst (λ (e : Event). disorder c.state.layout (of c.state u) (own_search c u) e ≡ None) leave order)

          own_is : own_search c u ≡ search_of o.searches u
          own_is = ap (λ (l : Option (List Search)). search_of (unwrap_or l []) u) o.are

          called : IsCalled c u Delete leaf.call.key
          called = record {
            searches = o.searches;
            are = o.are;
            is_call = ap (λ (S : Search). S.call) (sym own_is)
                ∙ (leaf.is_call ∙ ap (λ (op : Op). Some (record { op = op; key = leaf.call.key })) leaf.is_op);
          }

          f : Fate L enough ts u n
          f = fates L enough ts before u n was

          by : (answer : Bool) → shows (own_search c u) Delete leaf.call.key answer ≡ true
              → outcome_in c (u, LeaveWith answer) ≡ Ok Departed → ⊥
          by false seen leaves = true≢false (sym (and_parts
              (list_any (ended_beside leaf.call.key) (own_search c u).walks) (is_none (own_search c u).flagged) seen).1
              ∙ ap is_none was)
          by true seen leaves = on f.fate (subst (λ (m : Option NodeId). has_removed (own_search c u) m ≡ true) was
              seen)
            where
              on : StandsStill L enough c u n ⊎ CutSince L enough ts u f.k n
                  → has_removed (own_search c u) (Some n) ≡ true → ⊥
              on (inr cut) removed = cut.gone reached
              on (inl still) removed = elim (or_cases (own_search c u).cut
                  (list_any (ended_elsewhere n.slot) (own_search c u).later) removed) [
                    | inl own ↦ true≢false (sym own ∙ still.uncut)
                    | inr elsewhere ↦ not_elsewhere L enough ts before u leaf.call.key
                        (record { called = called; leaves = leaves }) n still.later elsewhere
                  ]

      -- so it keeps its flag
      flag_stays : (own_search c' u).flagged ≡ Some n
      flag_stays = by (own_turn L u c t o)
        where
          by : OwnTurn u c t → (own_search c' u).flagged ≡ Some n
          by (Quiet same none) = ap (λ (S : Search). S.flagged) same ∙ was
          by (Own r is won here learned order) = ap (λ (S : Search). S.flagged) learned ∙ go (begins_anew (t.1, r)) refl
            where
              go : (b : Bool) → begins_anew (t.1, r) ≡ b → (searched (own_search c u) t.1 r).flagged ≡ Some n
              go true anew = absurd (no_end t.1 r won' (reply_is c (u, t.1) r won') order (anew_is t.1 r anew))
                where
                  won' : outcome_in c (u, t.1) ≡ Ok r
                  won' = ap (λ (w : ℕ). outcome_in c (w, t.1)) (sym is) ∙ won
              go false stands = on (flag_step (own_search c u) t.1 r stands)
                where
                  on : FlagStep (own_search c u) t.1 r (searched (own_search c u) t.1 r)
                      → (searched (own_search c u) t.1 r).flagged ≡ Some n
                  on (SameFlag flagged) = flagged ∙ was
                  on (NewFlag p leaf d m is_flag is_flagged flagged later) = absurd
                      (none-some n (sym (first_flag c.state.layout (of c.state u) (own_search c u) p leaf d
                      (subst (λ (e : Event). disorder c.state.layout (of c.state u) (own_search c u) e ≡ None) is_flag
                      order)) ∙ was))

    -- the flagged edges after a turn
    owned_next : ((y : ℕ) (g : Side) → Reached c.state.memory y → (edge c.state.memory y g).flag ≡ true
        → (u : ℕ) × ((own_search c u).flagged ≡ Some (named c.state.memory (child c.state.memory y g))))
        → (y : ℕ) (g : Side) → Reached c'.state.memory y → (edge c'.state.memory y g).flag ≡ true
        → (u : ℕ) × ((own_search c' u).flagged ≡ Some (named c'.state.memory (child c'.state.memory y g)))
    owned_next owned y g r flag = by (turn_origin L enough c t o y r g)
      where
        high : 6 ≤ child c'.state.memory y g
        high = flag_leads_high c' o' y g r flag

        by : EdgeOrigin c.state t.0 t.1 c'.state.memory y g
            → (u : ℕ) × ((own_search c' u).flagged ≡ Some (named c'.state.memory (child c'.state.memory y g)))
        by (WasThere p d reached leads same) = (
          old.0,
          flag_stays old.0
              (named c.state.memory (child c.state.memory p d)) old.1 leaf_reached ∙ ap Some names,
        )
          where
            old : (u : ℕ) × ((own_search c u).flagged ≡ Some (named c.state.memory (child c.state.memory p d)))
            old = owned p d reached (same ∙ flag)

            leaf_reached : Reached c.state.memory (child c.state.memory p d)
            leaf_reached = step_down c.state.memory p d reached (λ z. absurd (omega (arith, high, leads, z)))

            birth : (node c'.state.memory (child c.state.memory p d)).birth
                ≡ (node c.state.memory (child c.state.memory p d)).birth
            birth = ap (λ (k : Lasting). k.birth) (turn_lasts L enough c t
                (has_key L enough ts t keys 0 (record { slot = 0; birth = 0 })) o (child c.state.memory p d)
                leaf_reached)

            names : named c.state.memory (child c.state.memory p d) ≡ named c'.state.memory (child c'.state.memory y g)
            names = (λ i. record { slot = child c.state.memory p d; birth = sym birth i })
                ∙ ap (named c'.state.memory) leads
        by (IsFlaggedNow leaf is reached unmarked marked) = go (refused_in c t.0 t.1) refl
          where
            go : (q : Option Refused) → refused_in c t.0 t.1 ≡ q
                → (u : ℕ) × ((own_search c' u).flagged ≡ Some (named c'.state.memory (child c'.state.memory y g)))
            go (Some q) why = absurd (true≢false (sym (ap (λ (e : Edge). e.flag) marked)
                ∙ (ap (λ (d : Configuration). (edge d.state.memory y g).flag) (refused_next c t q why)
                ∙ ap (λ (e : Edge). e.flag) unmarked)))
            go None why = (t.0, flagged ∙ ap Some names)
              where
                turn : t ≡ (t.0, Flag y g leaf)
                turn = λ i. (t.0, is i)

                won : outcome_in c (t.0, Flag y g leaf) ≡ Ok (Flagged (named c.state.memory leaf))
                won = ap (outcome_in c) (sym turn) ∙ (allowed_outcome c t why
                    ∙ ap (λ (q : Reply). Ok q) (ap (reply_of c.state t.0) is ∙ flag_told c.state t.0 y leaf g unmarked))

                flagged : (own_search c' t.0).flagged ≡ Some (named c.state.memory leaf)
                flagged = ap (λ (v : ℕ × Event). (own_search (next_in c v) t.0).flagged) turn
                    ∙ (ap (λ (S : Search). S.flagged) (own_learns c o t.0 (Flag y g leaf)
                    (Flagged (named c.state.memory leaf)) won)
                    ∙ flag_kept_so (own_search c t.0) y leaf g (named c.state.memory leaf))

                at_leaf : leaf ≡ child c'.state.memory y g
                at_leaf = sym (ap (λ (e : Edge). e.slot) marked)

                leaf_reached : Reached c.state.memory leaf
                leaf_reached = subst (Reached c.state.memory) (ap (λ (e : Edge). e.slot) unmarked)
                    (step_down c.state.memory y g reached (λ z. absurd
                    (omega (arith, high, at_leaf, ap (λ (e : Edge). e.slot) unmarked, z))))

                birth : (node c'.state.memory leaf).birth ≡ (node c.state.memory leaf).birth
                birth = ap (λ (k : Lasting). k.birth) (turn_lasts L enough c t
                    (has_key L enough ts t keys 0 (record { slot = 0; birth = 0 })) o leaf leaf_reached)

                names : named c.state.memory leaf ≡ named c'.state.memory (child c'.state.memory y g)
                names = (λ i. record { slot = leaf; birth = sym birth i }) ∙ ap (named c'.state.memory) at_leaf
        by (LeadsToNew p d leaf new is unmarked held plain) = absurd (true≢false (sym flag ∙ plain))
        by (LeadsNowhere none) = absurd (omega (arith, high, none))

  abbrev Owned : List (ℕ × Event) → Type 0
  Owned ts = (y : ℕ) (g : Side) → Reached (after_in (ordered L) ts).state.memory y
      → (edge (after_in (ordered L) ts).state.memory y g).flag ≡ true
      → (u : ℕ) × ((own_search (after_in (ordered L) ts) u).flagged
      ≡ Some (named (after_in (ordered L) ts).state.memory (child (after_in (ordered L) ts).state.memory y g)))

  -- at the opening no edge is flagged
  pub none_flagged : (y : ℕ) (g : Side) → (edge (opening L) y g).flag ≡ false
  none_flagged = plain L enough

  pub owned : (ts : List (ℕ × Event)) → All (λ t. HasKey t.1) ts → Owned ts
  unfolding after_in
  owned = over_turns Owned (λ y g r flag. absurd (true≢false (sym flag ∙ none_flagged y g)))
      (λ ts t keys old. subst (λ (d : Configuration). (y : ℕ) (g : Side) → Reached d.state.memory y
      → (edge d.state.memory y g).flag ≡ true → (u : ℕ)
      × ((own_search d u).flagged ≡ Some (named d.state.memory (child d.state.memory y g))))
      (sym (one_more L enough ts t)) (owned_next ts t keys old))

  -- ---- the calls of flags

  rest_keys : (before since : List (ℕ × Event)) → All (λ t. HasKey t.1) (before ++ since) → All (λ t. HasKey t.1) since
  rest_keys [] since keys = keys
  rest_keys (t ∷ before) since keys = rest_keys before since (λ i d below. keys (suc i) d (omega arith))

  -- a call that has flagged a leaf keeps its node
  pub flag_noted : (ts : List (ℕ × Event)) → All (λ t. HasKey t.1) ts → (w k : ℕ) (f : HasFlagged L ts w k)
      → (own_search (after_in (ordered L) ts) w).flagged ≡ Some f.flagged
  flag_noted ts keys w k f =
      ap (λ (d : Configuration). (own_search d w).flagged) (behind_is L enough ts f.before f.since turn f.is_run)
      ∙ flag_kept L enough w f.flagged f.since (rest_keys (turn ∷ []) f.since
      (rest_keys f.before (turn ∷ f.since) all)) (next_in then turn)
      (ordered_next L enough then turn tt then_ordered) f.stands
      (ap (λ (S : Search). S.flagged) (own_learns then then_ordered w (Flag f.parent f.side f.leaf)
      (Flagged f.flagged) f.won) ∙ flag_kept_so (own_search then w) f.parent f.leaf f.side f.flagged)
    where
      turn : ℕ × Event
      turn = (w, Flag f.parent f.side f.leaf)

      then : Configuration
      then = after_in (ordered L) f.before

      all : All (λ t. HasKey t.1) (f.before ++ (w, Flag f.parent f.side f.leaf) ∷ f.since)
      all = subst (λ (us : List (ℕ × Event)). All (λ t. HasKey t.1) us) f.is_run keys

      then_ordered : IsOrdered L (after_in (ordered L) f.before)
      then_ordered = each_ordered L enough f.before (first_keys f.before (turn ∷ f.since) all)

  -- what a call keeps as flagged belongs to it alone
  pub of_one : (ts : List (ℕ × Event)) → All (λ t. HasKey t.1) ts → (u : ℕ) (n : NodeId)
      → (own_search (after_in (ordered L) ts) u).flagged ≡ Some n → IsOfOneDelete L ts n
  of_one ts keys u n has =
      let f : Fate L enough ts u n = fates L enough ts keys u n has in
      record {
        worker = u;
        key = f.k;
        flag = f.flag;
        is_node = f.is_node;
        only = λ v j g same. each_flag_has_one_call L enough ts keys v u g.flagged n (flag_noted ts keys v j g) has
            same;
      }

  -- ---- the leaves of a cut

  -- in a frozen chain of reached nodes each leaf hangs by a flagged edge
  chain_leaf : (c : Configuration) → IsOrdered L c → (s : ℕ) (xs : List ℕ) → IsFrozenChain c.state.memory s xs
      → ((i x : ℕ) → slice_get xs i ≡ Some x → Reached c.state.memory x) → (i x : ℕ) → slice_get xs i ≡ Some x
      → is_leaf (node c.state.memory x) ≡ true → (y : ℕ) × (g : Side) × Reached c.state.memory y
      × ((edge c.state.memory y g).flag ≡ true) × (child c.state.memory y g ≡ x)
  chain_leaf c o s [] chain reached i x at leaf = absurd (none-some x at)
  chain_leaf c o s (z ∷ []) chain reached i x at leaf = absurd chain
  chain_leaf c o s (z ∷ l ∷ rest) chain reached zero x at leaf = absurd
      (by (other chain.1) (flag_leads_high c o s (other chain.1) here chain.2))
    where
      here : Reached c.state.memory s
      here = subst (Reached c.state.memory) chain.0 (reached 0 z refl)

      same : x ≡ s
      same = sym (same_Some z x at) ∙ chain.0

      nulls : ((node c.state.memory s).left.slot ≡ 0) × ((node c.state.memory s).right.slot ≡ 0)
      nulls =
          let parts = and_parts ((node c.state.memory s).left.slot == 0) ((node c.state.memory s).right.slot == 0)
          (ap (λ (y : ℕ). is_leaf (node c.state.memory y)) (sym same) ∙ leaf) in
          (eqb-true _ 0 parts.0, eqb-true _ 0 parts.1)

      by : (g : Side) → 6 ≤ child c.state.memory s g → ⊥
      by Left high = let null = nulls.0 in absurd (omega (arith, high, null))
      by Right high = let null = nulls.1 in absurd (omega (arith, high, null))
  chain_leaf c o s (z ∷ l ∷ rest) chain reached (suc zero) x at leaf =
      (s, other chain.1, subst (Reached c.state.memory) chain.0 (reached 0 z refl), chain.2, chain.3 ∙ same_Some l x at)
  chain_leaf c o s (z ∷ l ∷ rest) chain reached (suc (suc i)) x at leaf = chain_leaf c o
      (child c.state.memory s chain.1) rest chain.5 (λ j y there. reached (suc (suc j)) y there) i x at leaf

  -- each leaf of a cut hangs by a flagged edge
  pub cut_leaf_hangs : (c : Configuration) → IsOrdered L c → (t : ℕ × Event) (ns : List NodeId)
      → outcome_in c t ≡ Ok (Cut ns) → is_splice t.1 ≡ true → (n : NodeId) → Contains ns n
      → is_leaf (node c.state.memory n.slot) ≡ true
      → (y : ℕ) × (g : Side) × Reached c.state.memory y × ((edge c.state.memory y g).flag ≡ true)
      × (child c.state.memory y g ≡ n.slot)
  cut_leaf_hangs c o t ns is splice n among leaf =
      chain_leaf c o chain.0 (slots_of ns) chain.1 (λ i x at.
      ((shows.0 x).1 (i, slice_get_within (slots_of ns) i x at, get_or_from_slice_get (slots_of ns) i x x at)).was)
      member.0 n.slot (slice_get-get_or (slots_of ns) member.0 n.slot member.1 ∙ ap Some member.2) leaf
    where
      shows : ((x : ℕ) → IsCut c.state.memory (next_in c t).state.memory x ↔ Contains (slots_of ns) x)
          × (ns ≡ map (named c.state.memory) (slots_of ns))
      shows = cut_shows L enough c t o ns is

      chain : (s : ℕ) × IsFrozenChain c.state.memory s (slots_of ns)
      chain = cut_goes_down L enough c t o ns (splice_of t.1 splice) is

      member : Contains (slots_of ns) n.slot
      member = mapped_among (λ (y : NodeId). y.slot) ns n among

  -- and is kept as flagged by a call
  pub cut_leaf_owned : (ts : List (ℕ × Event)) → All (λ t. HasKey t.1) ts → (t : ℕ × Event) (ns : List NodeId)
      → outcome_in (after_in (ordered L) ts) t ≡ Ok (Cut ns) → is_splice t.1 ≡ true → (n : NodeId) → Contains ns n
      → is_leaf (node (after_in (ordered L) ts).state.memory n.slot) ≡ true
      → (u : ℕ) × ((own_search (after_in (ordered L) ts) u).flagged ≡ Some n)
  cut_leaf_owned ts keys t ns is splice n among leaf =
      let o = each_ordered L enough ts keys in
      let hangs = cut_leaf_hangs (after_in (ordered L) ts) o t ns is splice n among leaf in
      let owner = owned ts keys hangs.0 hangs.1 hangs.2 hangs.3 in (
        owner.0,
        owner.1 ∙ ap Some (ap (named (after_in (ordered L) ts).state.memory) hangs.4
            ∙ named_so L enough (after_in (ordered L) ts) t o ns is n among),
      )

pub each_flagged_leaf_is_pending : OfEachOrderedRun FlaggedLeavesArePending
each_flagged_leaf_is_pending L enough turns keys parent side reached flag =
    let u = owned L enough turns keys parent side reached flag in of_one L enough turns keys u.0 _ u.1

pub each_cut_leaf_is_of_one : OfEachOrderedRun CutLeavesAreOfOneDelete
each_cut_leaf_is_of_one L enough turns keys t ns is splice n among leaf = let u =
    cut_leaf_owned L enough turns keys t ns is splice n among leaf in of_one L enough turns keys u.0 n u.1
