-- A call that has flagged a leaf keeps its flag until a turn cuts the leaf off. So whoever has flagged a
-- leaf of a cut is in the call by which it did so.
use Rattle.std.proofs.Common.{◌≡◌, ◌≢◌, ℕ, zero, suc, ◌≤◌, inl, inr, ◌⊎◌, Bool, true, false, List, [], ◌∷◌, ◌++◌, append-nil, append_assoc, length, refl, sym, ap, subst, ◌∙◌, arith, true≢false}
use Rattle.std.specs.Prelude.{All, Contains, Option, Some, None, Ok, is_none, is_some, unwrap_or}
use Rattle.std.specs.List.{list_any}
use Rattle.std.proofs.lemmas.Bool.{and_parts, cases_lt, or_cases}
use Rattle.std.proofs.lemmas.List.Elements.{Contains-append_left}
use Rattle.std.proofs.lemmas.Option.{none-some}
use Rattle.nm_edge.specs.Keys.{IsKey}
use Rattle.nm_edge.specs.Layouts.{Layout, IsLayout}
use Rattle.nm_edge.specs.declared.edge.Side.{Side}
use Rattle.nm_edge.specs.declared.node.NodeId.{NodeId}
use Rattle.nm_model.specs.declared.event.Event.{Event}
use Rattle.nm_model.specs.declared.event.Event.TheVariants.{Flag, LeaveWith}
use Rattle.nm_model.specs.declared.event.Op.{Op}
use Rattle.nm_model.specs.declared.event.Op.TheVariants.{Delete}
use Rattle.nm_model.specs.declared.reply.Reply.{Reply}
use Rattle.nm_model.specs.declared.reply.Reply.TheVariants.{Cut, Departed, Flagged}
use Rattle.nm_model.specs.declared.trace.Turn.{Turn}
use Rattle.nm_model.specs.Headline.{Headline, cuts_of, nodes_cut_of, words_after}
use Rattle.nm_model.specs.Histories.{HasFlaggedOneOf}
use Rattle.nm_model.specs.Knowledge.{knows}
use Rattle.nm_model.specs.Lawful.{OnlyThePinnedKnow}
use Rattle.nm_model.specs.Memory.{Memory, infinity_0, named}
use Rattle.nm_model.specs.Ordered.{Configuration, HasKey, ordered, after_in, disorder, ended_beside, ended_elsewhere, has_removed, next_in, outcome_in, search_of, shows, trace_in}
use Rattle.nm_model.specs.Paths.{Reached}
use Rattle.nm_model.specs.Runs.{State, of, reply_of}
use Rattle.nm_model.specs.Searches.{Search, searched}
use Rattle.nm_model.specs.Walks.{begins_anew}
use Rattle.nm_laws.proofs.EachState.{each_knower_pinned}
use Rattle.nm_order.specs.Intervals.{IsCalled, Marks, key}
use Rattle.nm_order.proofs.CutTurns.{mapped_among, reached_inside}
use Rattle.nm_order.proofs.FlagFates.{CutSince, StandsStill, fates, first, not_elsewhere, nothing_follows, one_more, own_flagged}
use Rattle.nm_order.proofs.FlaggedLeaves.{FlagStep, flag_step}
use Rattle.nm_order.proofs.FlaggedLeaves.FlagStep.{NewFlag, SameFlag}
use Rattle.nm_order.proofs.FlaggedNodes.{FlaggedLeaf}
use Rattle.nm_order.proofs.OrderedLaws.{IsOrdered, each_ordered}
use Rattle.nm_order.proofs.OrderedMoments.{call_walks}
use Rattle.nm_order.proofs.OwnFlags.{each_flag_marks}
use Rattle.nm_order.proofs.OwnLinks.{answer_shown, first_flag, silent}
use Rattle.nm_order.proofs.OwnTurns.{OwnTurn, own_search, own_turn}
use Rattle.nm_order.proofs.OwnTurns.OwnTurn.{Own, Quiet}
use Rattle.nm_order.proofs.PendingLeaves.{Anew, anew_is, call_told, flag_noted, no_pin, sight_told}
use Rattle.nm_order.proofs.PendingLeaves.Anew.{AnswersNow, LeavesNow, PinsNow}
use Rattle.nm_order.proofs.RunExchanges.{first_keys}
use Rattle.nm_order.proofs.RunWalks.{reply_is}
use Rattle.nm_order.proofs.Sentinels.{sentinel_is_high, sentinels_of}
use Rattle.nm_order.proofs.WalksOfRuns.{trace_in-append}
use Rattle.nm_theorem.proofs.FreedOfRuns.{cuts-append}
use Rattle.nm_theorem.proofs.HeadlineOfRuns.{each_run_has_it}
use Rattle.nm_theorem.proofs.Runs.{Head, Parts, head_of, parts_of}
use Rattle.nm_theorem.proofs.WrittenWords.{run_words}
use Rattle.nm_steps.specs.Rules.{answered_turn}
use Rattle.nm_walks.proofs.Looks.{enough}
use Rattle.nm_calls.proofs.ReachedNodes.{NodeFate, cut_has_birth, node_fate_then}
use Rattle.nm_calls.proofs.ReachedNodes.NodeFate.{StaysIn, WasCutOff}

-- ---- a turn

-- in a run, a call that has flagged a leaf keeps its flag over a turn before which the leaf is reached
module _ (L : Layout) (enough : 5 ≤ L.nodes) (ts : List (ℕ × Event)) (t : ℕ × Event)
    (keys : All (λ t. HasKey t.1) (ts ++ t ∷ [])) (u : ℕ) (n : NodeId)
    (was : (own_search (after_in (ordered L) ts) u).flagged ≡ Some n)
    (reached : Reached (after_in (ordered L) ts).state.memory n.slot) where
  abbrev c : Configuration
  c = after_in (ordered L) ts

  before : All (λ t. HasKey t.1) ts
  before = first L enough ts t keys 0 (record { slot = 0; birth = 0 })

  o : IsOrdered L (after_in (ordered L) ts)
  o = each_ordered L enough ts before

  leaf : FlaggedLeaf c.state (own_search c u) u n
  leaf = own_flagged L enough ts before u n was

  pinned : (p : ℕ) × ((of c.state u).brief.pin ≡ Some p)
  pinned = subst (λ (s : State). OnlyThePinnedKnow s) (sym o.leads) (each_knower_pinned L enough o.events) u n.slot
      leaf.known

  abbrev InOrder : Event → Type 0
  InOrder e = disorder c.state.layout (of c.state u) (own_search c u) e ≡ None

  -- it is no answer
  no_answer : (answer : Bool) → InOrder (LeaveWith answer) → outcome_in c (u, LeaveWith answer) ≡ Ok Departed → ⊥
  no_answer answer order leaves = by answer (subst
      (λ (op : Op). shows (own_search c u) op leaf.call.key answer ≡ true) leaf.is_op shown) leaves
    where
      shown : shows (own_search c u) leaf.call.op leaf.call.key answer ≡ true
      shown = answer_shown c.state.layout (of c.state u) (own_search c u) answer leaf.call leaf.is_call order

      own_is : own_search c u ≡ search_of o.searches u
      own_is = ap (λ (l : Option (List Search)). search_of (unwrap_or l []) u) o.are

      called : IsCalled c u Delete leaf.call.key
      called = record {
        searches = o.searches;
        are = o.are;
        is_call = ap (λ (S : Search). S.call) (sym own_is)
            ∙ (leaf.is_call ∙ ap (λ (op : Op). Some (record { op = op; key = leaf.call.key })) leaf.is_op);
      }

      by : (answer : Bool) → shows (own_search c u) Delete leaf.call.key answer ≡ true
          → outcome_in c (u, LeaveWith answer) ≡ Ok Departed → ⊥
      by false seen departs = true≢false (sym (and_parts
          (list_any (ended_beside leaf.call.key) (own_search c u).walks) (is_none (own_search c u).flagged) seen).1
          ∙ ap is_none was)
      by true seen departs = on (fates L enough ts before u n was).fate
          (subst (λ (m : Option NodeId). has_removed (own_search c u) m ≡ true) was seen)
        where
          on : StandsStill L enough c u n ⊎ CutSince L enough ts u (fates L enough ts before u n was).k n
              → has_removed (own_search c u) (Some n) ≡ true → ⊥
          on (inr cut) removed = cut.gone reached
          on (inl still) removed = elim (or_cases (own_search c u).cut
              (list_any (ended_elsewhere n.slot) (own_search c u).later) removed) [
                | inl own ↦ true≢false (sym own ∙ still.uncut)
                | inr elsewhere ↦ not_elsewhere L enough ts before u leaf.call.key
                    (record { called = called; leaves = departs }) n still.later elsewhere
              ]

  -- nor does the pin end or begin
  no_end : (e : Event) (r : Reply) → outcome_in c (u, e) ≡ Ok r → InOrder e → Anew e r → ⊥
  no_end e r is order (PinsNow p (inl sight) pin) = no_pin (of c.state u) pinned.0 c.state.memory.epoch p pinned.1
      (sym (sight_told c.state u) ∙ (ap (reply_of c.state u) (sym sight) ∙ (reply_is c (u, e) r is ∙ pin)))
  no_end e r is order (PinsNow p (inr call) pin) = no_pin (of c.state u) pinned.0 c.state.memory.epoch p pinned.1
      (sym (call_told c.state u call.0 call.1) ∙ (ap (reply_of c.state u) (sym call.2)
      ∙ (reply_is c (u, e) r is ∙ pin)))
  no_end e r is order (LeavesNow leave) = true≢false
      (ap is_some (sym was) ∙ (silent c.state.layout (of c.state u) (own_search c u) (subst InOrder leave order)).1)
  no_end e r is order (AnswersNow answer leave departs) = no_answer answer (subst InOrder leave order)
      (subst (λ (e : Event). outcome_in c (u, e) ≡ Ok r) leave is ∙ ap (λ (q : Reply). Ok q) departs)

  pub flag_stays : (own_search (next_in c t) u).flagged ≡ Some n
  flag_stays = by (own_turn L u c t o)
    where
      by : OwnTurn u c t → (own_search (next_in c t) u).flagged ≡ Some n
      by (Quiet same none) = ap (λ (S : Search). S.flagged) same ∙ was
      by (Own r is won here learned order) = ap (λ (S : Search). S.flagged) learned ∙ go (begins_anew (t.1, r)) refl
        where
          go : (b : Bool) → begins_anew (t.1, r) ≡ b → (searched (own_search c u) t.1 r).flagged ≡ Some n
          go true anew = absurd (no_end t.1 r (ap (λ (w : ℕ). outcome_in c (w, t.1)) (sym is) ∙ won) order
              (anew_is t.1 r anew))
          go false stands = on (flag_step (own_search c u) t.1 r stands)
            where
              on : FlagStep (own_search c u) t.1 r (searched (own_search c u) t.1 r)
                  → (searched (own_search c u) t.1 r).flagged ≡ Some n
              on (SameFlag flagged) = flagged ∙ was
              on (NewFlag p leaf d m is_flag is_flagged flagged later) = absurd
                  (none-some n (sym (first_flag c.state.layout (of c.state u) (own_search c u) p leaf d
                  (subst InOrder is_flag order)) ∙ was))

-- ---- turns

module _ (L : Layout) (enough : 5 ≤ L.nodes) (u : ℕ) (n : NodeId) where
  -- the leaf is reached before each of these events
  abbrev pub IsReachedIn : List (ℕ × Event) → List (ℕ × Event) → Type 0
  IsReachedIn ts mid = (some since : List (ℕ × Event)) → mid ≡ some ++ since
      → Reached (after_in (ordered L) (ts ++ some)).state.memory n.slot

  pub flag_stays_in : (mid ts : List (ℕ × Event)) → All (λ t. HasKey t.1) (ts ++ mid)
      → (own_search (after_in (ordered L) ts) u).flagged ≡ Some n → IsReachedIn ts mid
      → (own_search (after_in (ordered L) (ts ++ mid)) u).flagged ≡ Some n
  flag_stays_in [] ts keys was reached = ap (λ (l : List (ℕ × Event)).
      (own_search (after_in (ordered L) l) u).flagged) (append-nil ts) ∙ was
  flag_stays_in (t ∷ mid) ts keys was reached =
      let next : (ts ++ t ∷ []) ++ mid ≡ ts ++ t ∷ mid = append_assoc ts (t ∷ []) mid in
      let keys' : All (λ t. HasKey t.1) ((ts ++ t ∷ []) ++ mid) = subst
      (λ (l : List (ℕ × Event)). All (λ t. HasKey t.1) l) (sym next) keys in
      let here : Reached (after_in (ordered L) ts).state.memory n.slot = subst
      (λ (l : List (ℕ × Event)). Reached (after_in (ordered L) l).state.memory n.slot) (append-nil ts)
      (reached [] (t ∷ mid) refl) in
      let now : (own_search (after_in (ordered L) (ts ++ t ∷ [])) u).flagged ≡ Some n
      = ap (λ (d : Configuration). (own_search d u).flagged) (one_more L enough ts t)
      ∙ flag_stays L enough ts t (first_keys (ts ++ t ∷ []) mid keys') u n was here in
      subst (λ (l : List (ℕ × Event)). (own_search (after_in (ordered L) l) u).flagged ≡ Some n) next
      (flag_stays_in mid (ts ++ t ∷ []) keys' now
      (λ some since is. subst (λ (l : List (ℕ × Event)). Reached (after_in (ordered L) l).state.memory n.slot)
      (sym (append_assoc ts (t ∷ []) some)) (reached (t ∷ some) since (ap (λ (l : List (ℕ × Event)). t ∷ l) is))))

-- ---- a turn among those of a run

pub record TurnAt (L : Layout) (events : List (ℕ × Event)) (before : List Turn) (w : ℕ) (e : Event)
    (r : Reply) : Type 0 where
  pub early : List (ℕ × Event)
  pub others : List (ℕ × Event)
  pub whole : events ≡ early ++ (w, e) ∷ others
  pub first_is : before ≡ trace_in (ordered L) early
  pub size : length early ≡ length before
  pub keyed : All (λ t. HasKey t.1) early
  pub told : outcome_in (after_in (ordered L) early) (w, e) ≡ Ok r

pub turn_at : (L : Layout) (events : List (ℕ × Event)) → All (λ t. HasKey t.1) events
    → (before since : List Turn) (w : ℕ) (e : Event) (r : Reply)
    → trace_in (ordered L) events ≡ before ++ answered_turn w e r ∷ since → TurnAt L events before w e r
turn_at L events keys before since w e r is =
    let q : Parts (ordered L) events before (answered_turn w e r ∷ since) = parts_of (ordered L) events before
    (answered_turn w e r ∷ since) is in
    let h : Head (after_in (ordered L) q.early) q.late (answered_turn w e r) since = head_of
    (after_in (ordered L) q.early) q.late (answered_turn w e r) since (sym q.rest_is) in
    let event_is : h.event ≡ (w, e) = λ i. ((sym h.turn_is i).worker, (sym h.turn_is i).event) in
    record {
      early = q.early;
      others = h.others;
      whole = q.all ∙ (ap (λ (ts : List (ℕ × Event)). q.early ++ ts) h.all
          ∙ ap (λ (u : ℕ × Event). q.early ++ u ∷ h.others) event_is);
      first_is = q.first_is;
      size = q.size;
      keyed = first_keys q.early q.late (subst (λ (ts : List (ℕ × Event)). All (λ t. HasKey t.1) ts) q.all keys);
      told = ap (outcome_in (after_in (ordered L) q.early)) (sym event_is)
          ∙ ap (λ (u : Turn). u.outcome) (sym h.turn_is);
    }

split_turn : (ts : List Turn) (t : Turn) → Contains ts t → (first last : List Turn) × (ts ≡ first ++ t ∷ last)
split_turn [] t c = absurd (let below = c.1 in omega (arith, below))
split_turn (x ∷ xs) t (zero, below, is) = ([], xs, ap (λ (y : Turn). y ∷ xs) is)
split_turn (x ∷ xs) t (suc i, below, is) = let r = split_turn xs t (i, omega (arith, below), is) in
    (x ∷ r.0, r.1, ap (λ (l : List Turn). x ∷ l) r.2)

-- ---- cuts

-- no node is cut twice
pub cut_once : (L : Layout) (turns : List Turn) → Headline L turns
    → (before since : List Turn) (cut : Turn) (n : NodeId) → turns ≡ before ++ cut ∷ since
    → Contains (nodes_cut_of cut.outcome) n → (w : ℕ) → Contains (cuts_of w before) n → ⊥
cut_once L turns h before since cut n are in_cut w early =
    let m : Memory = words_after L before in
    let cuts = h.cuts before since cut are in
    let born = ap (λ (k : NodeId). k.birth) (cut_has_birth m cut cuts n in_cut) in
    let reached : Reached m n.slot = ((cuts.just n.slot).1
    (mapped_among (λ (k : NodeId). k.slot) (nodes_cut_of cut.outcome) n in_cut)).was in
    let less = h.younger before (cut ∷ since) are w n early reached in
    omega (arith, born, less)

-- a node that is reached at a moment, and is cut later, is reached until then
pub reached_until_cut : (L : Layout) (turns : List Turn) → Headline L turns → (x : ℕ) → 6 ≤ x → x ≤ L.nodes
    → (so_far mid more since : List Turn) (cut : Turn) → turns ≡ (so_far ++ mid) ++ (more ++ cut ∷ since)
    → Reached (words_after L so_far) x → Contains (nodes_cut_of cut.outcome) (named (words_after L so_far) x)
    → Reached (words_after L (so_far ++ mid)) x × (named (words_after L (so_far ++ mid)) x
    ≡ named (words_after L so_far) x)
reached_until_cut L turns h x low most so_far mid more since cut are r in_cut = by
    (node_fate_then L turns h x low most so_far mid (more ++ cut ∷ since) are r)
  where
    by : NodeFate L (so_far ++ mid) (named (words_after L so_far) x)
        → Reached (words_after L (so_far ++ mid)) x × (named (words_after L (so_far ++ mid)) x
        ≡ named (words_after L so_far) x)
    by (StaysIn r' born) = (r', λ i. record { slot = x; birth = born i })
    by (WasCutOff w c) = absurd (cut_once L turns h ((so_far ++ mid) ++ more) since cut
        (named (words_after L so_far) x) (are ∙ sym (append_assoc (so_far ++ mid) more (cut ∷ since))) in_cut w
        (subst (λ (ns : List NodeId). Contains ns (named (words_after L so_far) x))
        (sym (cuts-append w (so_far ++ mid) more)) (Contains-append_left (cuts_of w (so_far ++ mid))
        (cuts_of w more) (named (words_after L so_far) x) c)))

-- ---- the slot of a leaf that a call has flagged

module _ (L : Layout) (enough : 5 ≤ L.nodes) (ts : List (ℕ × Event)) (keys : All (λ t. HasKey t.1) ts) where
  abbrev d : Configuration
  d = after_in (ordered L) ts

  o' : IsOrdered L (after_in (ordered L) ts)
  o' = each_ordered L enough ts keys

  pub called_key : (w : ℕ) (op : Op) (k : ℕ) → IsCalled d w op k → IsKey k
  called_key w op k called =
      let own_call : (search_of o'.searches w).call ≡ Some (record { op = op; key = k })
      = ap (λ (l : Option (List Search)). (search_of (unwrap_or l []) w).call) (sym o'.are ∙ called.are)
      ∙ called.is_call in
      (call_walks d.state.layout.radix d.state.memory (knows (of d.state w)) (search_of o'.searches w).call
      (search_of o'.searches w).walks (record { op = op; key = k }) own_call (o'.law.walks w)).0

  pub user_slot : (x k : ℕ) → Reached d.state.memory x → key d.state.memory x ≡ k → IsKey k → (6 ≤ x) × (x ≤ L.nodes)
  user_slot x k r has is_key = (
    elim (cases_lt 5 x) [
      | inl high ↦ omega (arith, high)
      | inr low ↦ absurd (too_low low)
    ],
    reached_inside L enough d o' x r,
  )
    where
      too_low : x ≤ 5 → ⊥
      too_low low =
          let some : x ≢ 0 = r.is_slot in
          let high : infinity_0 ≤ key d.state.memory x = sentinel_is_high d.state (sentinels_of L d o') x
          (omega (arith, some)) low in
          omega (arith, high, has, is_key)

-- ---- who has flagged a leaf of a cut

module _ (L : Layout) (fits : IsLayout L) (ts : List (ℕ × Event)) (cut : ℕ × Event)
    (keys : All (λ t. HasKey t.1) (ts ++ cut ∷ [])) (ns : List NodeId)
    (won : outcome_in (after_in (ordered L) ts) cut ≡ Ok (Cut ns)) (u : ℕ) where
  abbrev turns : List Turn
  turns = trace_in (ordered L) ts

  abbrev cut_turn : Turn
  cut_turn = record { worker = cut.0; event = cut.1; outcome = Ok (Cut ns) }

  whole : trace_in (ordered L) (ts ++ cut ∷ []) ≡ turns ++ cut_turn ∷ []
  unfolding trace_in
  whole = trace_in-append (ordered L) ts (cut ∷ [])
      ∙ (λ i. turns ++ record { worker = cut.0; event = cut.1; outcome = won i } ∷ [])

  firsts : All (λ t. HasKey t.1) ts
  firsts = first_keys ts (cut ∷ []) keys

  h : Headline L (trace_in (ordered L) (ts ++ cut ∷ []))
  h = each_run_has_it L fits true (ts ++ cut ∷ []) keys

  module _ (p s : ℕ) (side : Side) (n : NodeId) (among : Contains ns n) (x : List Turn) (y : List Turn)
      (split : turns ≡ x ++ answered_turn u (Flag p side s) (Flagged n) ∷ y) where
    at : TurnAt L ts x u (Flag p side s) (Flagged n)
    at = turn_at L ts firsts x y u (Flag p side s) (Flagged n) split

    abbrev flag : ℕ × Event
    flag = (u, Flag p side s)

    marked : (k : ℕ) × IsCalled (after_in (ordered L) at.early) u Delete k
        × Marks (after_in (ordered L) at.early).state.memory p side s n k
    marked = each_flag_marks L (enough L fits) at.early at.keyed u p side s n at.told

    range : (6 ≤ s) × (s ≤ L.nodes)
    range = user_slot L (enough L fits) at.early at.keyed s marked.0 marked.2.reached marked.2.has_key
        (called_key L (enough L fits) at.early at.keyed u Delete marked.0 marked.1)

    regroup : ts ≡ (at.early ++ flag ∷ []) ++ at.others
    regroup = at.whole ∙ sym (append_assoc at.early (flag ∷ []) at.others)

    keyed : All (λ t. HasKey t.1) ((at.early ++ flag ∷ []) ++ at.others)
    keyed = subst (λ (l : List (ℕ × Event)). All (λ t. HasKey t.1) l) regroup firsts

    -- right after the flag
    noted : (own_search (after_in (ordered L) (at.early ++ flag ∷ [])) u).flagged ≡ Some n
    noted = flag_noted L (enough L fits) (at.early ++ flag ∷ []) (first_keys (at.early ++ flag ∷ []) at.others keyed)
        u marked.0 (record {
          before = at.early;
          since = [];
          parent = p;
          side = side;
          leaf = s;
          flagged = n;
          is_run = refl;
          called = marked.1;
          won = at.told;
          marks = marked.2;
          stands = nothing_follows u (next_in (after_in (ordered L) at.early) flag);
        })

    words : (l : List (ℕ × Event)) → words_after L (trace_in (ordered L) l) ≡ (after_in (ordered L) l).state.memory
    words l = run_words L fits true l

    named_then : n ≡ named (words_after L (trace_in (ordered L) at.early)) s
    named_then = marked.2.names ∙ ap (λ (m : Memory). named m s) (sym (words at.early))

    reached_first : Reached (words_after L (trace_in (ordered L) at.early)) s
    reached_first = subst (λ (m : Memory). Reached m s) (sym (words at.early)) marked.2.reached

    -- it is reached after each first part of the events up to the cut
    reached_then : (l rest : List (ℕ × Event)) → ts ≡ (at.early ++ l) ++ rest
        → Reached (after_in (ordered L) (at.early ++ l)).state.memory s
    reached_then l rest is =
        let first : List Turn = trace_in (ordered L) at.early in
        let mid : List Turn = trace_in (after_in (ordered L) at.early) l in
        let more : List Turn = trace_in (after_in (ordered L) (at.early ++ l)) rest in
        let so_far : trace_in (ordered L) (at.early ++ l) ≡ first ++ mid = trace_in-append (ordered L) at.early l in
        let are : trace_in (ordered L) (ts ++ cut ∷ []) ≡ (first ++ mid) ++ (more ++ cut_turn ∷ [])
        = whole ∙ (ap (λ (l : List Turn). l ++ cut_turn ∷ [])
        (ap (trace_in (ordered L)) is ∙ (trace_in-append (ordered L) (at.early ++ l) rest
        ∙ ap (λ (l : List Turn). l ++ more) so_far)) ∙ append_assoc (first ++ mid) more (cut_turn ∷ [])) in
        let r = reached_until_cut L (trace_in (ordered L) (ts ++ cut ∷ [])) h s range.0 range.1 first mid more []
        cut_turn are reached_first (subst (Contains ns) named_then among) in
        subst (λ (m : Memory). Reached m s) (ap (words_after L) (sym so_far) ∙ words (at.early ++ l)) r.0

    slot_is : n.slot ≡ s
    slot_is = ap (λ (k : NodeId). k.slot) marked.2.names

    flagged_still : (own_search (after_in (ordered L) ts) u).flagged ≡ Some n
    flagged_still = subst (λ (l : List (ℕ × Event)). (own_search (after_in (ordered L) l) u).flagged ≡ Some n)
        (sym regroup)
        (flag_stays_in L (enough L fits) u n at.others (at.early ++ flag ∷ []) keyed noted
        (λ some since is. subst (Reached (after_in (ordered L) ((at.early ++ flag ∷ []) ++ some)).state.memory)
        (sym slot_is)
        (subst (λ (l : List (ℕ × Event)). Reached (after_in (ordered L) l).state.memory s)
        (sym (append_assoc at.early (flag ∷ []) some))
        (reached_then (flag ∷ some) since (at.whole ∙ (ap (λ (l : List (ℕ × Event)). at.early ++ flag ∷ l) is
        ∙ sym (append_assoc at.early (flag ∷ some) since)))))))

  -- a worker that has flagged one of the cut nodes keeps it as flagged
  pub flagged_of_cut : HasFlaggedOneOf turns u ns → (n : NodeId) × Contains ns n
      × ((own_search (after_in (ordered L) ts) u).flagged ≡ Some n)
  flagged_of_cut (p, side, s, n, there, among) =
      let split = split_turn turns (answered_turn u (Flag p side s) (Flagged n)) there in
      (n, among, flagged_still p s side n among split.0 split.1 split.2)
