-- Over a whole ordered run: an answer tells which links and flags its call won, and a true insert
-- and a true delete have their moment.
use Rattle.std.proofs.Common.{◌≡◌, ℕ, zero, suc, ◌≤◌, inl, inr, ◌⊎◌, ◌==◌, Bool, true, false, cond, List, [], ◌∷◌, ◌++◌, refl, sym, ap, subst, ◌∙◌, arith, true≢false}
use Rattle.std.specs.Prelude.{Option, Some, None, is_some, Ok, unwrap_or, All}
use Rattle.std.proofs.lemmas.Bool.{eq-eqb}
use Rattle.std.proofs.lemmas.Option.{same_Some}
use Rattle.nm_edge.specs.Layouts.{Layout}
use Rattle.nm_edge.specs.declared.node.NodeId.{NodeId}
use Rattle.nm_model.specs.declared.event.Op.{Op}
use Rattle.nm_model.specs.declared.event.Op.TheVariants.{Insert, Delete}
use Rattle.nm_model.specs.declared.event.Event.{Event}
use Rattle.nm_model.specs.declared.event.Event.TheVariants.{Leave, LeaveWith, Link, Flag}
use Rattle.nm_model.specs.declared.reply.Reply.{Reply}
use Rattle.nm_model.specs.declared.reply.Reply.TheVariants.{Departed, Linked, Flagged}
use Rattle.nm_model.specs.declared.arrivals.Call.{Call}
use Rattle.nm_model.specs.Runs.{of}
use Rattle.nm_model.specs.Searches.{Search, idle}
use Rattle.nm_model.specs.Walks.{Entry, log_of, since_pin}
use Rattle.nm_model.specs.Ordered.{Configuration, ordered, search_of, disorder, shows, has_removed, next_in, outcome_in, after_in, trace_in}
use Rattle.nm_order.specs.Intervals.{HasKey, IsCalled, Gains, Marks}
use Rattle.nm_order.specs.Moments.{OfEachOrderedRun, PinStands}
use Rattle.nm_order.specs.WalksToArrivals.{is_won_flag}
use Rattle.nm_order.specs.Exchanges.{how_many, is_won_link, links_told, flags_told, MayAnswer, AnswersTellLinks, AnswersTellFlags, SilentLeavesWonNothing, HasWonInsert, TrueInsertsHaveInserted, HasFlagged, TrueDeletesHaveFlagged}
use Rattle.nm_model.proofs.Numbers.{repeated}
use Rattle.nm_order.proofs.OrderedLaws.{IsOrdered, each_ordered, each_link_inserts}
use Rattle.nm_order.proofs.OwnFlags.{each_flag_marks}
use Rattle.nm_order.proofs.RunMoments.{allowed_entries}
use Rattle.nm_order.proofs.OwnTurns.{own_search, OwnTurn, own_turn}
use Rattle.nm_order.proofs.OwnTurns.OwnTurn.{Quiet, Own}
use Rattle.nm_order.proofs.OwnExchanges.{Counted, counted_after, WonAt, won_in}
use Rattle.nm_order.proofs.OwnLinks.{has_linked, has_flagged, IsLinkEntry, link_entry, links_once, IsFlagEntry, flag_entry, flags_once, answer_shown, links_shown, flags_shown, silent}

-- ---- the opening

idle_first : (L : Layout) (w : ℕ) → own_search (ordered L) w ≡ idle
idle_first L w = repeated L.workers w idle

pub opening_ordered : (L : Layout) → 5 ≤ L.nodes → IsOrdered L (ordered L)
unfolding after_in
opening_ordered L enough = each_ordered L enough [] (λ i d below. absurd (omega (arith, below)))

-- the keys of a first part of a run
pub first_keys : (before since : List (ℕ × Event)) → All (λ t. HasKey t.1) (before ++ since)
    → All (λ t. HasKey t.1) before
first_keys [] since keys i d below = absurd (omega (arith, below))
first_keys (t ∷ ts) since keys zero d below = keys 0 d (omega arith)
first_keys (t ∷ ts) since keys (suc i) d below = first_keys ts since (λ j e less. keys (suc j) e (omega arith)) i d
    (omega arith)

-- ---- an answer

-- the call of a configuration
pub is_own_call : (c : Configuration) (w : ℕ) (op : Op) (k : ℕ) → IsCalled c w op k
    → (own_search c w).call ≡ Some (record { op = op; key = k })
is_own_call c w op k called = ap (λ (l : Option (List Search)). (search_of (unwrap_or l []) w).call) called.are
    ∙ called.is_call

module _ (L : Layout) (enough : 5 ≤ L.nodes) where
  -- an event that is allowed is in order
  order_of : (c : Configuration) → IsOrdered L c → (w : ℕ) (e : Event) (r : Reply) → outcome_in c (w, e) ≡ Ok r
      → disorder c.state.layout (of c.state w) (own_search c w) e ≡ None
  order_of c o w e r is = by (own_turn L w c (w, e) o)
    where
      filled : (b : Bool) → b ≡ true → ◌≡◌ {A = List Entry} (cond b ((e, r) ∷ []) []) [] → ⊥
      filled true t none = cc
      filled false t none = true≢false (sym t)

      by : OwnTurn w c (w, e) → disorder c.state.layout (of c.state w) (own_search c w) e ≡ None
      by (Quiet same none) = absurd (filled (w == w) (eq-eqb w w refl) (sym (allowed_entries w c (w, e) r is) ∙ none))
      by (Own q is won here learned order) = order

  module _ (turns : List (ℕ × Event)) (keys : All (λ t. HasKey t.1) turns) (w : ℕ) where
    end : IsOrdered L (after_in (ordered L) turns)
    end = each_ordered L enough turns keys

    links : Counted is_won_link has_linked Insert links_once (own_search (after_in (ordered L) turns) w)
        (since_pin [] (log_of w (trace_in (ordered L) turns)))
    links = counted_after is_won_link has_linked Insert links_once L enough w turns keys (ordered L)
        (opening_ordered L enough) [] (record {
          number = sym (ap (λ (s : Search). cond s.linked 1 0) (idle_first L w));
          is_op = λ has call is. absurd (true≢false (sym has ∙ ap (λ (s : Search). s.linked) (idle_first L w)));
        })

    flags : Counted is_won_flag has_flagged Delete flags_once (own_search (after_in (ordered L) turns) w)
        (since_pin [] (log_of w (trace_in (ordered L) turns)))
    flags = counted_after is_won_flag has_flagged Delete flags_once L enough w turns keys (ordered L)
        (opening_ordered L enough) [] (record {
          number = sym (ap (λ (s : Search). cond (is_some s.flagged) 1 0) (idle_first L w));
          is_op = λ has call is. absurd (true≢false (sym has
              ∙ ap (λ (s : Search). is_some s.flagged) (idle_first L w)));
        })

    module _ (op : Op) (k : ℕ) (answer : Bool) (may : MayAnswer (after_in (ordered L) turns) w op k answer) where
      pub is_call : (own_search (after_in (ordered L) turns) w).call ≡ Some (record { op = op; key = k })
      is_call = is_own_call (after_in (ordered L) turns) w op k may.called

      pub shown : shows (own_search (after_in (ordered L) turns) w) op k answer ≡ true
      shown = answer_shown (after_in (ordered L) turns).state.layout (of (after_in (ordered L) turns).state w)
          (own_search (after_in (ordered L) turns) w) answer (record { op = op; key = k }) is_call
          (order_of (after_in (ordered L) turns) end w (LeaveWith answer) Departed may.leaves)

      links_are : how_many is_won_link w (trace_in (ordered L) turns) ≡ links_told op answer
      links_are = links.number ∙ links_shown (own_search (after_in (ordered L) turns) w) op k answer shown
          (λ has. links.is_op has (record { op = op; key = k }) is_call)

      flags_are : how_many is_won_flag w (trace_in (ordered L) turns) ≡ flags_told op answer
      flags_are = flags.number ∙ flags_shown (own_search (after_in (ordered L) turns) w) op k answer shown
          (λ has. flags.is_op has (record { op = op; key = k }) is_call)

    none_won : outcome_in (after_in (ordered L) turns) (w, Leave) ≡ Ok Departed
        → (how_many is_won_link w (trace_in (ordered L) turns) ≡ 0)
        × (how_many is_won_flag w (trace_in (ordered L) turns) ≡ 0)
    none_won leaves =
        let none = silent (after_in (ordered L) turns).state.layout (of (after_in (ordered L) turns).state w)
        (own_search (after_in (ordered L) turns) w)
        (order_of (after_in (ordered L) turns) end w Leave Departed leaves) in
        (links.number ∙ ap (λ (b : Bool). cond b 1 0) none.0, flags.number ∙ ap (λ (b : Bool). cond b 1 0) none.1)

    -- ---- the moment of an insert

    pub linked_at : (k : ℕ) → IsCalled (after_in (ordered L) turns) w Insert k
        → (own_search (after_in (ordered L) turns) w).linked ≡ true → HasWonInsert L turns w k
    linked_at k called has = go (won_in is_won_link has_linked Insert links_once L enough w turns keys (ordered L)
        (opening_ordered L enough) has)
      where
        made : (at : WonAt is_won_link has_linked Insert links_once L enough w (ordered L) turns)
            → IsLinkEntry at.turn.1 at.reply → HasWonInsert L turns w k
        made at l = record {
          before = at.before;
          since = at.since;
          parent = l.parent;
          side = l.side;
          leaf = l.leaf;
          new = l.new;
          linked = l.node;
          is_run = at.is_run ∙ ap (λ (t : ℕ × Event). at.before ++ t ∷ at.since) turn;
          called = subst (IsCalled (after_in (ordered L) at.before) w Insert) same_key inserts.1;
          won = won;
          gains = subst (Gains (after_in (ordered L) at.before).state.memory
              (next_in (after_in (ordered L) at.before) (w, Link l.parent l.side l.leaf l.new)).state.memory) same_key
              inserts.2;
          stands = subst (λ (t : ℕ × Event). PinStands w
              (trace_in (next_in (after_in (ordered L) at.before) t) at.since)) turn at.stands;
        }
          where
            turn : at.turn ≡ (w, Link l.parent l.side l.leaf l.new)
            turn = λ i. (at.own i, l.is_event i)

            won : outcome_in (after_in (ordered L) at.before) (w, Link l.parent l.side l.leaf l.new)
                ≡ Ok (Linked l.node)
            won = ap (outcome_in (after_in (ordered L) at.before)) (sym turn)
                ∙ (at.won ∙ ap (λ (r : Reply). Ok r) l.is_reply)

            inserts : (j : ℕ) × IsCalled (after_in (ordered L) at.before) w Insert j
                × Gains (after_in (ordered L) at.before).state.memory
                (next_in (after_in (ordered L) at.before) (w, Link l.parent l.side l.leaf l.new)).state.memory j
            inserts = each_link_inserts L enough at.before
                (first_keys at.before (at.turn ∷ at.since) (subst (λ (ts : List (ℕ × Event)). All (λ t. HasKey t.1) ts)
                at.is_run keys)) w l.parent l.side l.leaf l.new l.node won

            same_key : inserts.0 ≡ k
            same_key = ap (λ (c : Call). c.key) (same_Some (record { op = Insert; key = inserts.0 })
                (record { op = Insert; key = k })
                (sym (is_own_call (after_in (ordered L) at.before) w Insert inserts.0 inserts.1)
                ∙ (sym at.same_call ∙ is_own_call (after_in (ordered L) turns) w Insert k called)))

        go : ((own_search (ordered L) w).linked ≡ true) × PinStands w (trace_in (ordered L) turns)
            ⊎ WonAt is_won_link has_linked Insert links_once L enough w (ordered L) turns → HasWonInsert L turns w k
        go (inl first) = absurd (true≢false (sym first.0 ∙ ap (λ (s : Search). s.linked) (idle_first L w)))
        go (inr at) = made at (link_entry at.turn.1 at.reply at.such)

    -- ---- the moment of a delete's flag

    flagged_at : (k : ℕ) → IsCalled (after_in (ordered L) turns) w Delete k
        → has_flagged (own_search (after_in (ordered L) turns) w) ≡ true → HasFlagged L turns w k
    flagged_at k called has = go (won_in is_won_flag has_flagged Delete flags_once L enough w turns keys (ordered L)
        (opening_ordered L enough) has)
      where
        made : (at : WonAt is_won_flag has_flagged Delete flags_once L enough w (ordered L) turns)
            → IsFlagEntry at.turn.1 at.reply → HasFlagged L turns w k
        made at l = record {
          before = at.before;
          since = at.since;
          parent = l.parent;
          side = l.side;
          leaf = l.leaf;
          flagged = l.node;
          is_run = at.is_run ∙ ap (λ (t : ℕ × Event). at.before ++ t ∷ at.since) turn;
          called = subst (IsCalled (after_in (ordered L) at.before) w Delete) same_key of_call.1;
          won = won;
          marks = subst (Marks (after_in (ordered L) at.before).state.memory l.parent l.side l.leaf l.node) same_key
              of_call.2;
          stands = subst (λ (t : ℕ × Event). PinStands w
              (trace_in (next_in (after_in (ordered L) at.before) t) at.since)) turn at.stands;
        }
          where
            turn : at.turn ≡ (w, Flag l.parent l.side l.leaf)
            turn = λ i. (at.own i, l.is_event i)

            won : outcome_in (after_in (ordered L) at.before) (w, Flag l.parent l.side l.leaf) ≡ Ok (Flagged l.node)
            won = ap (outcome_in (after_in (ordered L) at.before)) (sym turn)
                ∙ (at.won ∙ ap (λ (r : Reply). Ok r) l.is_reply)

            of_call : (j : ℕ) × IsCalled (after_in (ordered L) at.before) w Delete j
                × Marks (after_in (ordered L) at.before).state.memory l.parent l.side l.leaf l.node j
            of_call = each_flag_marks L enough at.before
                (first_keys at.before (at.turn ∷ at.since) (subst (λ (ts : List (ℕ × Event)). All (λ t. HasKey t.1) ts)
                at.is_run keys)) w l.parent l.side l.leaf l.node won

            same_key : of_call.0 ≡ k
            same_key = ap (λ (c : Call). c.key) (same_Some (record { op = Delete; key = of_call.0 })
                (record { op = Delete; key = k })
                (sym (is_own_call (after_in (ordered L) at.before) w Delete of_call.0 of_call.1)
                ∙ (sym at.same_call ∙ is_own_call (after_in (ordered L) turns) w Delete k called)))

        go : (has_flagged (own_search (ordered L) w) ≡ true) × PinStands w (trace_in (ordered L) turns)
            ⊎ WonAt is_won_flag has_flagged Delete flags_once L enough w (ordered L) turns → HasFlagged L turns w k
        go (inl first) = absurd (true≢false (sym first.0 ∙ ap (λ (s : Search). is_some s.flagged) (idle_first L w)))
        go (inr at) = made at (flag_entry at.turn.1 at.reply at.such)

pub each_answer_tells_links : OfEachOrderedRun AnswersTellLinks
each_answer_tells_links L enough turns keys w op k answer may = links_are L enough turns keys w op k answer may

pub each_answer_tells_flags : OfEachOrderedRun AnswersTellFlags
each_answer_tells_flags L enough turns keys w op k answer may = flags_are L enough turns keys w op k answer may

pub each_silent_leave : OfEachOrderedRun SilentLeavesWonNothing
each_silent_leave L enough turns keys w leaves = none_won L enough turns keys w leaves

pub each_true_insert : OfEachOrderedRun TrueInsertsHaveInserted
unfolding shown
each_true_insert L enough turns keys w k may = linked_at L enough turns keys w k may.called
    (shown L enough turns keys w Insert k true may)

pub each_true_delete : OfEachOrderedRun TrueDeletesHaveFlagged
unfolding shown
each_true_delete L enough turns keys w k may = flagged_at L enough turns keys w k may.called
    (has_flag (own_search (after_in (ordered L) turns) w).flagged (shown L enough turns keys w Delete k true may))
  where
    has_flag : (o : Option NodeId) → has_removed (own_search (after_in (ordered L) turns) w) o ≡ true → is_some o ≡ true
    has_flag None h = absurd (true≢false (sym h))
    has_flag (Some n) h = refl
