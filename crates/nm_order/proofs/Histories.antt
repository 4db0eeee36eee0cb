-- The acts of a run's calls, turn by turn: which are live, which have ended, and what a turn makes
-- of them.
use Rattle.std.proofs.Common.{◌≡◌, ℕ, ◌+◌, ◌<◌, ◌≤◌, inl, inr, ◌⊎◌, ◌==◌, Bool, true, false, cond, ◌||◌, not, List, [], ◌∷◌, ◌++◌, append_assoc, length, length-append, refl, sym, ap, subst, ◌∙◌, arith, true≢false}
use Rattle.std.specs.Prelude.{Option, Some, None, is_some, is_none, unwrap_or, Result, Ok, Err, All}
use Rattle.std.specs.List.{list_any}
use Rattle.std.proofs.lemmas.Bool.{or_parts, or_cases, and_parts, eq-eqb}
use Rattle.std.proofs.lemmas.Option.{none-some, same_Some}
use Rattle.nm_edge.specs.Keys.{IsKey}
use Rattle.nm_edge.specs.Layouts.{Layout}
use Rattle.nm_edge.specs.declared.node.NodeId.{NodeId}
use Rattle.nm_model.specs.declared.event.Op.{Op}
use Rattle.nm_model.specs.declared.event.Op.TheVariants.{Has, Insert, Delete}
use Rattle.nm_model.specs.declared.event.Event.{Event}
use Rattle.nm_edge.specs.declared.edge.Side.{Side}
use Rattle.nm_model.specs.declared.event.Event.TheVariants.{Sight, SightFor, Leave, LeaveWith, Link, Flag, Swap}
use Rattle.nm_model.specs.declared.reply.Reply.{Reply}
use Rattle.nm_model.specs.declared.reply.Reply.TheVariants.{Departed, Linked, Flagged, Cut}
use Rattle.nm_model.specs.declared.reply.Refused.{Refused}
use Rattle.nm_model.specs.declared.arrivals.Call.{Call}
use Rattle.nm_model.specs.Memory.{node, edge, child, named, is_leaf}
use Rattle.nm_model.specs.Knowledge.{knows}
use Rattle.nm_model.specs.Paths.{Reached, IsCut}
use Rattle.nm_model.specs.Step.{reply}
use Rattle.nm_model.specs.Runs.{of, reply_of}
use Rattle.nm_model.specs.Searches.{Search, searched}
use Rattle.nm_model.specs.Walks.{Entry, SearchGrows, begins_anew}
use Rattle.nm_model.specs.Ordered.{Configuration, ordered, search_of, disorder, shows, has_removed, ended_at, ended_beside, ended_elsewhere, next_in, outcome_in, after_in}
use Rattle.nm_laws.proofs.SearchesGrow.{only_grow}
use Rattle.nm_laws.proofs.Outcomes.{same_reply, no_reply}
use Rattle.nm_order.specs.Intervals.{HasKey, IsCalled, Gains, Marks, key}
use Rattle.nm_order.specs.Exchanges.{MayAnswer, is_won_link}
use Rattle.nm_order.specs.Legal.{changes, WasLegal}
use Rattle.nm_model.specs.Acts.{Act, IsAmong}
use Rattle.nm_order.specs.History.{SameCall, EachOnce, HasActOfCall, pin_of}
use Rattle.nm_order.proofs.OrderedMoments.{Lasting, call_walks}
use Rattle.nm_order.proofs.OrderedLaws.{IsOrdered, ordered_next, each_ordered, law_of_state, each_link_inserts}
use Rattle.nm_order.proofs.OwnFlags.{each_flag_marks}
use Rattle.nm_order.proofs.OwnTurns.{own_search, OwnTurn, own_turn}
use Rattle.nm_order.proofs.OwnTurns.OwnTurn.{Quiet, Own}
use Rattle.nm_order.proofs.OwnLinks.{IsLinkEntry, link_entry, links_once, answer_shown, silent, first_flag}
use Rattle.nm_order.proofs.RunMoments.{entries, allowed_entries}
use Rattle.nm_order.proofs.RunExchanges.{first_keys, is_own_call, shown}
use Rattle.nm_order.proofs.LegalAnswers.{each_other_answer}
use Rattle.nm_order.proofs.RunWalks.{reply_is}
use Rattle.nm_order.proofs.FlaggedLeaves.{FlagStep, flag_step, anew_unflagged}
use Rattle.nm_order.proofs.FlaggedLeaves.FlagStep.{SameFlag, NewFlag}
use Rattle.nm_order.proofs.FlaggedNodes.{FlaggedLeaf}
use Rattle.nm_order.proofs.CutTurns.{is_cut, cut_is, cut_shown, layout_is, uncut_stays, reached_or}
use Rattle.nm_laws.proofs.Stays.{SpliceOrSwap}
use Rattle.nm_order.specs.Removals.{is_splice}
use Rattle.nm_order.proofs.LaterFlags.{FlagKept}
use Rattle.nm_order.proofs.LaterFlagLaws.{EachFlagKept, flags_step, flags_start}
use Rattle.nm_order.proofs.OrderedInduction.{each_run_keeps}
use Rattle.nm_order.proofs.SwapTurns.{SwapLeaves, swap_turn}
use Rattle.nm_order.proofs.SetChanges.{set_stays, WinsNoLink, cut_links_none}
use Rattle.nm_order.proofs.TurnEdges.{nothing_below, stays_gone}
use Rattle.nm_order.proofs.FlagFates.{own_flagged, StandsStill, CutSince, fates, not_elsewhere, one_more, first, has_key}
use Rattle.nm_order.proofs.FlagOwners.{each_flag_has_one_call}
use Rattle.nm_order.proofs.PendingLeaves.{Anew, anew_is, no_pin, sight_told, call_told}
use Rattle.nm_order.proofs.PendingLeaves.Anew.{PinsNow, LeavesNow, AnswersNow}
use Rattle.nm_order.proofs.Timelines.{TurnChanges, Follows, follows_more, PutIn, put_in, among_either}
use Rattle.nm_order.proofs.CutActs.{delete_of, CutMade, cut_made}
use Rattle.nm_order.proofs.PinNumbers.{pin_more, call_pinned, pin_below, pin_stays}

-- the call has made its change
abbrev pub Changed : Configuration → ℕ → Op → Type 0
Changed c w Has = ⊥
Changed c w Insert = (own_search c w).linked ≡ true
Changed c w Delete = (n : NodeId) × ((own_search c w).flagged ≡ Some n) × (Reached c.state.memory n.slot → ⊥)

abbrev pub Calls : Configuration → ℕ → Op → ℕ → Type 0
Calls c w op k = (own_search c w).call ≡ Some (record { op = op; key = k })

-- an act is of a call that was answered, or of one that has made its change
pub data ActState (L : Layout) (ts : List (ℕ × Event)) (a : Act) : Type 0 where
  Ended : (before since : List (ℕ × Event)) → ts ≡ before ++ (a.worker, LeaveWith a.answer) ∷ since
      → MayAnswer (after_in (ordered L) before) a.worker a.op a.key a.answer → a.pin ≡ pin_of L before a.worker
      → a.pin < a.moment → a.moment ≤ length before
      → a.moment ≤ pin_of L ts a.worker → ActState L ts a
  Live : Calls (after_in (ordered L) ts) a.worker a.op a.key → Changed (after_in (ordered L) ts) a.worker a.op
      → a.answer ≡ true → a.pin ≡ pin_of L ts a.worker → a.pin < a.moment → a.moment ≤ length ts → ActState L ts a

pub record Kept (L : Layout) (ts : List (ℕ × Event)) (acts : List Act) : Type 0 where
  pub follows : Follows (ordered L) ts 0 acts
  pub once : EachOnce acts
  pub each : (a : Act) → IsAmong acts a → ActState L ts a
  pub live : (w : ℕ) (op : Op) (k : ℕ) → Calls (after_in (ordered L) ts) w op k
      → Changed (after_in (ordered L) ts) w op → HasActOfCall acts w (pin_of L ts w) op k true

-- each answered call has its act
abbrev pub Answered : Layout → List (ℕ × Event) → List Act → Type 0
Answered L ts acts = (before since : List (ℕ × Event)) (w : ℕ) (op : Op) (k : ℕ) (answer : Bool)
    → ts ≡ before ++ (w, LeaveWith answer) ∷ since → MayAnswer (after_in (ordered L) before) w op k answer
    → HasActOfCall acts w (pin_of L before w) op k answer

-- ---- entries

cut_stands : (e : Event) (ns : List NodeId) → begins_anew (e, Cut ns) ≡ false
cut_stands Sight ns = refl
cut_stands (SightFor op k) ns = refl
cut_stands Leave ns = refl
cut_stands (LeaveWith answer) ns = refl
cut_stands e ns = refl

none_anew : (w : ℕ) (c : Configuration) (t : ℕ × Event) (r : Reply) → outcome_in c t ≡ Ok r
    → begins_anew (t.1, r) ≡ false → list_any begins_anew (entries w c t) ≡ false
none_anew w c t r is stands = ap (list_any begins_anew) (allowed_entries w c t r is) ∙ by (t.0 == w)
  where
    by : (b : Bool) → list_any begins_anew (cond b ((t.1, r) ∷ []) []) ≡ false
    by true = ap (λ (b : Bool). b || false) stands
    by false = refl

module _ (L : Layout) (enough : 5 ≤ L.nodes) (ts : List (ℕ × Event)) (t : ℕ × Event)
    (keys : All (λ t. HasKey t.1) (ts ++ t ∷ [])) where
  abbrev c : Configuration
  c = after_in (ordered L) ts

  abbrev c' : Configuration
  c' = next_in (after_in (ordered L) ts) t

  before : All (λ t. HasKey t.1) ts
  before = first L enough ts t keys 0 (record { slot = 0; birth = 0 })

  has : HasKey t.1
  has = has_key L enough ts t keys 0 (record { slot = 0; birth = 0 })

  o : IsOrdered L (after_in (ordered L) ts)
  o = each_ordered L enough ts before

  o' : IsOrdered L (next_in (after_in (ordered L) ts) t)
  o' = ordered_next L enough c t has o

  abbrev pub IsStill : ℕ → Type 0
  IsStill w = list_any begins_anew (entries w c t) ≡ false

  -- what a turn leaves of a call whose pin stands
  pub record Goes (w : ℕ) : Type 0 where
    pub call : (own_search c' w).call ≡ (own_search c w).call
    pub linked : (own_search c w).linked ≡ true → (own_search c' w).linked ≡ true
    pub flagged : (n : NodeId) → (own_search c w).flagged ≡ Some n → (own_search c' w).flagged ≡ Some n

  pub goes : (w : ℕ) → IsStill w → Goes w
  goes w still = by (own_turn L w c t o)
    where
      by : OwnTurn w c t → Goes w
      by (Quiet same none) = record {
        call = ap (λ (S : Search). S.call) same;
        linked = λ x. ap
            (λ (S : Search). S.linked) same ∙ x;
        flagged = λ n x. ap (λ (S : Search). S.flagged) same ∙ x;
      }
      by (Own r is won here learned order) = record {
        call = ap (λ (S : Search). S.call) learned ∙ grows.call;
        linked = λ x. ap (λ (S : Search). S.linked) learned ∙ grows.linked x;
        flagged = λ n x. ap (λ (S : Search). S.flagged) learned ∙ flag n x (flag_step (own_search c w) t.1 r stands);
      }
        where
          stands : begins_anew (t.1, r) ≡ false
          stands = (or_parts (begins_anew (t.1, r)) false (sym (ap (list_any begins_anew) here) ∙ still)).0

          grows : SearchGrows (own_search c w) (searched (own_search c w) t.1 r)
          grows = only_grow (own_search c w) t.1 r stands

          flag : (n : NodeId) → (own_search c w).flagged ≡ Some n
              → FlagStep (own_search c w) t.1 r (searched (own_search c w) t.1 r)
              → (searched (own_search c w) t.1 r).flagged ≡ Some n
          flag n x (SameFlag flagged) = flagged ∙ x
          flag n x (NewFlag p leaf d m is_flag is_flagged flagged later) = absurd
              (none-some n (sym (first_flag c.state.layout (of c.state w) (own_search c w) p leaf d
              (subst (λ (e : Event). disorder c.state.layout (of c.state w) (own_search c w) e ≡ None) is_flag order))
              ∙ x))

  -- a flagged leaf that is cut stays so
  gone_still : (w : ℕ) (n : NodeId) → (own_search c w).flagged ≡ Some n → (Reached c.state.memory n.slot → ⊥)
      → Reached c'.state.memory n.slot → ⊥
  gone_still w n was gone = stays_gone L enough c t o (nothing_below L enough c' t o') w n.slot
      (own_flagged L enough ts before w n was).known gone

  pub changed_goes : (w : ℕ) (op : Op) → IsStill w → Changed c w op → Changed c' w op
  changed_goes w Has still x = x
  changed_goes w Insert still x = (goes w still).linked x
  changed_goes w Delete still x = (x.0, (goes w still).flagged x.0 x.1, gone_still w x.0 x.1 x.2)

  -- a call that has made its change ends by the answer true
  ends : (w : ℕ) (op : Op) (k : ℕ) → Calls c w op k → Changed c w op → list_any begins_anew (entries w c t) ≡ true
      → (t ≡ (w, LeaveWith true)) × (outcome_in c t ≡ Ok Departed)
  ends w op k called did anew = by (own_turn L w c t o)
    where
      by : OwnTurn w c t → (t ≡ (w, LeaveWith true)) × (outcome_in c t ≡ Ok Departed)
      by (Quiet same none) = absurd (true≢false (sym anew ∙ ap (list_any begins_anew) none))
      by (Own r is won here learned order) = on (anew_is t.1 r
          (starts (begins_anew (t.1, r)) (sym (ap (list_any begins_anew) here) ∙ anew)))
        where
          starts : (b : Bool) → (b || false) ≡ true → b ≡ true
          starts true h = refl
          starts false h = h

          pinned : (p : ℕ) × ((of c.state w).brief.pin ≡ Some p)
          pinned = call_pinned L enough ts before w (record { op = op; key = k }) called

          told : reply_of c.state w t.1 ≡ r
          told = reply_is c (w, t.1) r (ap (λ (v : ℕ). outcome_in c (v, t.1)) (sym is) ∙ won)

          -- neither without an answer, nor with false
          not_silent : (op : Op) → Changed c w op → ((own_search c w).linked ≡ false)
              × (is_some (own_search c w).flagged ≡ false) → ⊥
          not_silent Has x s = x
          not_silent Insert x s = true≢false (sym x ∙ s.0)
          not_silent Delete x s = true≢false (ap is_some (sym x.1) ∙ s.1)

          not_false : (op : Op) → Changed c w op → shows (own_search c w) op k false ≡ true → ⊥
          not_false Has x s = x
          not_false Insert x s = true≢false (sym (and_parts (list_any (ended_at k) (own_search c w).walks)
              (not (own_search c w).linked) s).1 ∙ ap not x)
          not_false Delete x s = true≢false (sym (and_parts (list_any (ended_beside k) (own_search c w).walks)
              (is_none (own_search c w).flagged) s).1 ∙ ap is_none x.1)

          on : Anew t.1 r → (t ≡ (w, LeaveWith true)) × (outcome_in c t ≡ Ok Departed)
          on (PinsNow p (inl sight) pin) = absurd (no_pin (of c.state w) pinned.0 c.state.memory.epoch p pinned.1
              (sym (sight_told c.state w) ∙ (ap (reply_of c.state w) (sym sight) ∙ (told ∙ pin))))
          on (PinsNow p (inr call) pin) = absurd (no_pin (of c.state w) pinned.0 c.state.memory.epoch p pinned.1
              (sym (call_told c.state w call.0 call.1) ∙ (ap (reply_of c.state w) (sym call.2) ∙ (told ∙ pin))))
          on (LeavesNow leave) = absurd (not_silent op did
              (silent c.state.layout (of c.state w) (own_search c w)
              (subst (λ (e : Event). disorder c.state.layout (of c.state w) (own_search c w) e ≡ None) leave order)))
          on (AnswersNow true leave departs) = ((λ i. (is i, leave i)), won ∙ ap (λ (q : Reply). Ok q) departs)
          on (AnswersNow false leave departs) = absurd
              (not_false op did (answer_shown c.state.layout (of c.state w) (own_search c w) false
              (record { op = op; key = k }) called (subst (λ (e : Event). disorder c.state.layout (of c.state w)
              (own_search c w) e ≡ None) leave order)))

  -- ---- the acts so far, after the turn

  may_at : (w : ℕ) (op : Op) (k : ℕ) (answer : Bool) → Calls c w op k
      → outcome_in c (w, LeaveWith answer) ≡ Ok Departed → MayAnswer c w op k answer
  may_at w op k answer called leaves = record {
    called = record {
      searches = o.searches;
      are = o.are;
      is_call = sym
          (ap (λ (l : Option (List Search)). (search_of (unwrap_or l []) w).call) o.are) ∙ called;
    };
    leaves = leaves;
  }

  longer_run : length (ts ++ t ∷ []) ≡ length ts + 1
  longer_run = length-append ts (t ∷ [])

  state_next : (a : Act) → ActState L ts a → ActState L (ts ++ t ∷ []) a
  state_next a (Ended before since is may pin later within past) = Ended before (since ++ t ∷ [])
      (ap (λ (l : List (ℕ × Event)). l ++ t ∷ []) is ∙ append_assoc before ((a.worker, LeaveWith a.answer) ∷ since)
      (t ∷ [])) may pin later within
      (subst (λ (n : ℕ). a.moment ≤ n) (sym (pin_more L ts t a.worker))
      (by (list_any begins_anew (entries a.worker c t))))
    where
      size : length before + 1 ≤ length ts
      size = subst (λ (n : ℕ). length before + 1 ≤ n)
          (sym (ap length is ∙ length-append before ((a.worker, LeaveWith a.answer) ∷ since))) (omega arith)

      by : (b : Bool) → a.moment ≤ cond b (length ts) (pin_of L ts a.worker)
      by true = let s = size in omega arith
      by false = past
  state_next a (Live called did answer pin later within) = go (list_any begins_anew (entries a.worker c t)) refl
    where
      go : (b : Bool) → list_any begins_anew (entries a.worker c t) ≡ b → ActState L (ts ++ t ∷ []) a
      go false still = Live
          (ap (λ (d : Configuration). (own_search d a.worker).call) (one_more L enough ts t)
          ∙ ((goes a.worker still).call ∙ called))
          (subst (λ (d : Configuration). Changed d a.worker a.op) (sym (one_more L enough ts t))
          (changed_goes a.worker a.op still did))
          answer
          (pin ∙ sym (pin_more L ts t a.worker ∙ ap (λ (b : Bool). cond b (length ts) (pin_of L ts a.worker)) still))
          later
          (let s = longer_run in omega arith)
      go true anew =
          let e = ends a.worker a.op a.key called did anew in
          Ended ts [] (ap (λ (u : ℕ × Event). ts ++ u ∷ []) (e.0 ∙ λ i. (a.worker, LeaveWith (sym answer i))))
          (subst (λ (b : Bool). MayAnswer c a.worker a.op a.key b) (sym answer)
          (may_at a.worker a.op a.key true called (ap (outcome_in c) (sym e.0) ∙ e.1)))
          pin later within (subst (λ (n : ℕ). a.moment ≤ n)
          (sym (pin_more L ts t a.worker ∙ ap (λ (b : Bool). cond b (length ts) (pin_of L ts a.worker)) anew)) within)

  -- ---- new acts

  -- an act of a call that makes its change by the turn
  record NewAct (a : Act) : Type 0 where
    still : IsStill a.worker
    called : Calls c a.worker a.op a.key
    fresh : Changed c a.worker a.op → ⊥
    did : Changed c' a.worker a.op
    answer : a.answer ≡ true
    pin : a.pin ≡ pin_of L ts a.worker
    moment : a.moment ≡ length ts + 1

  record Made : Type 0 where
    made : List Act
    changes : TurnChanges c t (length ts + 1) made
    once : EachOnce made
    each : (a : Act) → IsAmong made a → NewAct a
    live : (w : ℕ) (op : Op) (k : ℕ) → IsStill w → Calls c w op k → Changed c' w op
        → Changed c w op ⊎ HasActOfCall made w (pin_of L ts w) op k true

  new_state : (a : Act) → NewAct a → ActState L (ts ++ t ∷ []) a
  new_state a n = Live
      (ap (λ (d : Configuration). (own_search d a.worker).call) (one_more L enough ts t)
      ∙ ((goes a.worker n.still).call ∙ n.called))
      (subst (λ (d : Configuration). Changed d a.worker a.op) (sym (one_more L enough ts t)) n.did)
      n.answer
      (n.pin ∙ sym (pin_more L ts t a.worker ∙ ap (λ (b : Bool). cond b (length ts) (pin_of L ts a.worker)) n.still))
      (let below = pin_below L enough ts before a.worker (record { op = a.op; key = a.key }) n.called in
      let p = n.pin in let m = n.moment in omega arith)
      (let s = longer_run in let m = n.moment in omega arith)

  same_op : (w : ℕ) (op op' : Op) (k k' : ℕ) → Calls c w op k → Calls c w op' k' → op ≡ op'
  same_op w op op' k k' a b = ap (λ (x : Call). x.op)
      (same_Some (record { op = op; key = k }) (record { op = op'; key = k' }) (sym a ∙ b))

  -- none of the acts so far is of that call
  not_so_far : (x y : Act) → ActState L ts x → NewAct y → SameCall x y → ⊥
  not_so_far x y (Ended before since is may pin later within past) n same = absurd
      (omega (arith, later, past', same.1, n.pin))
    where
      past' : x.moment ≤ pin_of L ts y.worker
      past' = subst (λ (w : ℕ). x.moment ≤ pin_of L ts w) same.0 past
  not_so_far x y (Live called did answer pin later within) n same =
      n.fresh (subst (λ (op : Op). Changed c y.worker op)
      (same_op y.worker x.op y.op x.key y.key (subst (λ (w : ℕ). Calls c w x.op x.key) same.0 called) n.called)
      (subst (λ (w : ℕ). Changed c w x.op) same.0 did))

  among_left : (xs ys : List Act) (a : Act) → IsAmong xs a → IsAmong (xs ++ ys) a
  among_left [] ys a there = absurd there
  among_left (x ∷ xs) ys a (inl is) = inl is
  among_left (x ∷ xs) ys a (inr there) = inr (among_left xs ys a there)

  among_right : (xs ys : List Act) (a : Act) → IsAmong ys a → IsAmong (xs ++ ys) a
  among_right [] ys a there = there
  among_right (x ∷ xs) ys a there = inr (among_right xs ys a there)

  once_join : (xs ys : List Act) → EachOnce xs → EachOnce ys
      → ((x y : Act) → IsAmong xs x → IsAmong ys y → SameCall x y → ⊥) → EachOnce (xs ++ ys)
  once_join [] ys a b apart = b
  once_join (x ∷ xs) ys a b apart = (
    (λ y there same. elim (among_either xs ys y there)
        [ inl l ↦ a.0 y l same | inr r ↦ apart x y (inl refl) r same ]),
    once_join xs ys a.1 b
        (λ z y l r. apart z y (inr l) r),
  )

  has_left : (xs ys : List Act) (w pin : ℕ) (op : Op) (k : ℕ) (answer : Bool) → HasActOfCall xs w pin op k answer
      → HasActOfCall (xs ++ ys) w pin op k answer
  has_left xs ys w pin op k answer h = record {
    act = h.act;
    among = among_left xs ys h.act h.among;
    worker =
        h.worker;
    is_pin = h.is_pin;
    is_op = h.is_op;
    is_key = h.is_key;
    is_answer = h.is_answer;
  }

  has_right : (xs ys : List Act) (w pin : ℕ) (op : Op) (k : ℕ) (answer : Bool) → HasActOfCall ys w pin op k answer
      → HasActOfCall (xs ++ ys) w pin op k answer
  has_right xs ys w pin op k answer h = record {
    act = h.act;
    among = among_right xs ys h.act h.among;
    worker =
        h.worker;
    is_pin = h.is_pin;
    is_op = h.is_op;
    is_key = h.is_key;
    is_answer = h.is_answer;
  }

  -- a call that begins by the turn has made no change
  begun_fresh : (w : ℕ) (op : Op) → list_any begins_anew (entries w c t) ≡ true → Changed c' w op → ⊥
  begun_fresh w op anew did = by (own_turn L w c t o)
    where
      starts : (b : Bool) → (b || false) ≡ true → b ≡ true
      starts true h = refl
      starts false h = h

      by : OwnTurn w c t → ⊥
      by (Quiet same none) = true≢false (sym anew ∙ ap (list_any begins_anew) none)
      by (Own r is won here learned order) = on op did
        where
          begins : begins_anew (t.1, r) ≡ true
          begins = starts (begins_anew (t.1, r)) (sym (ap (list_any begins_anew) here) ∙ anew)

          on : (op : Op) → Changed c' w op → ⊥
          on Has x = x
          on Insert x = true≢false (sym x ∙ (ap (λ (S : Search). S.linked) learned
              ∙ links_once.anew (own_search c w) t.1 r begins))
          on Delete x = none-some x.0 (sym (ap (λ (S : Search). S.flagged) learned
              ∙ anew_unflagged (own_search c w) t.1 r begins) ∙ x.1)

  -- the acts with the turn's own
  kept_next : (acts : List Act) → Kept L ts acts → (m : Made) → Kept L (ts ++ t ∷ []) (acts ++ m.made)
  kept_next acts kept m = record {
    follows = follows_more (ordered L) ts t 0 acts m.made kept.follows
        (subst (λ (n : ℕ). TurnChanges c t n m.made) (omega arith) m.changes);
    once = once_join acts m.made kept.once m.once (λ x y l r. not_so_far x y (kept.each x l) (m.each y r));
    each = λ a there. elim (among_either acts m.made a there)
        [ inl l ↦ state_next a (kept.each a l) | inr r ↦ new_state a (m.each a r) ];
    live = live;
  }
    where
      live : (w : ℕ) (op : Op) (k : ℕ) → Calls (after_in (ordered L) (ts ++ t ∷ [])) w op k
          → Changed (after_in (ordered L) (ts ++ t ∷ [])) w op
          → HasActOfCall (acts ++ m.made) w (pin_of L (ts ++ t ∷ []) w) op k true
      live w op k called did = go (list_any begins_anew (entries w c t)) refl
        where
          did' : Changed c' w op
          did' = subst (λ (d : Configuration). Changed d w op) (one_more L enough ts t) did

          called' : Calls c' w op k
          called' = sym (ap (λ (d : Configuration). (own_search d w).call) (one_more L enough ts t)) ∙ called

          go : (b : Bool) → list_any begins_anew (entries w c t) ≡ b
              → HasActOfCall (acts ++ m.made) w (pin_of L (ts ++ t ∷ []) w) op k true
          go true anew = absurd (begun_fresh w op anew did')
          go false still = subst (λ (p : ℕ). HasActOfCall (acts ++ m.made) w p op k true)
              (sym (pin_more L ts t w ∙ ap (λ (b : Bool). cond b (length ts) (pin_of L ts w)) still))
              (by (m.live w op k still was did'))
            where
              was : Calls c w op k
              was = sym (goes w still).call ∙ called'

              by : Changed c w op ⊎ HasActOfCall m.made w (pin_of L ts w) op k true
                  → HasActOfCall (acts ++ m.made) w (pin_of L ts w) op k true
              by (inl old) = has_left acts m.made w (pin_of L ts w) op k true (kept.live w op k was old)
              by (inr new) = has_right acts m.made w (pin_of L ts w) op k true new

  -- ---- what the turn makes

  call_key : (w : ℕ) (op : Op) (k : ℕ) → Calls c w op k → IsKey k
  call_key w op k called = (call_walks c.state.layout.radix c.state.memory (knows (of c.state w))
      (search_of o.searches w).call (search_of o.searches w).walks (record { op = op; key = k })
      (sym (ap (λ (l : Option (List Search)). (search_of (unwrap_or l []) w).call) o.are) ∙ called) (o.law.walks w)).0

  -- a leaf that a call keeps as flagged after the turn, and that is not reached then, it kept so
  -- before
  flagged_back : (w : ℕ) (n : NodeId) → IsStill w → (own_search c' w).flagged ≡ Some n
      → (Reached c'.state.memory n.slot → ⊥) → (own_search c w).flagged ≡ Some n
  flagged_back w n still now gone = by (own_turn L w c t o)
    where
      by : OwnTurn w c t → (own_search c w).flagged ≡ Some n
      by (Quiet same none) = ap (λ (S : Search). S.flagged) (sym same) ∙ now
      by (Own r is won here learned order) = on (flag_step (own_search c w) t.1 r
          ((or_parts (begins_anew (t.1, r)) false (sym (ap (list_any begins_anew) here) ∙ still)).0))
        where
          now_is : (searched (own_search c w) t.1 r).flagged ≡ Some n
          now_is = ap (λ (S : Search). S.flagged) (sym learned) ∙ now

          on : FlagStep (own_search c w) t.1 r (searched (own_search c w) t.1 r) → (own_search c w).flagged ≡ Some n
          on (SameFlag flagged) = sym flagged ∙ now_is
          on (NewFlag p leaf d m is_flag is_flagged flagged later) = absurd
              (gone (uncut_stays L enough c t o uncut n.slot (subst (Reached c.state.memory) at_leaf marks.2.reached)))
            where
              won' : outcome_in c (w, Flag p d leaf) ≡ Ok (Flagged m)
              won' = (λ i. outcome_in c (sym is i, sym is_flag i)) ∙ (won ∙ ap (λ (q : Reply). Ok q) is_flagged)

              marks : (k : ℕ) × IsCalled c w Delete k × Marks c.state.memory p d leaf m k
              marks = each_flag_marks L enough ts before w p d leaf m won'

              at_leaf : leaf ≡ n.slot
              at_leaf = sym (ap (λ (y : NodeId). y.slot) marks.2.names)
                  ∙ ap (λ (y : NodeId). y.slot) (same_Some m n (sym flagged ∙ now_is))

              uncut : (ns : List NodeId) → outcome_in c t ≡ Ok (Cut ns) → ⊥
              uncut ns cut = apart m ns (sym is_flagged ∙ same_reply r (Cut ns) (sym won ∙ cut))
                where
                  apart : (m : NodeId) (ns : List NodeId) → Flagged m ≡ Cut ns → ⊥
                  apart m ns e = cc

  -- and it is cut by the turn, or was before
  flagged_fate : (w : ℕ) (n : NodeId) → (own_search c w).flagged ≡ Some n → (Reached c'.state.memory n.slot → ⊥)
      → (Reached c.state.memory n.slot → ⊥) ⊎ IsCut c.state.memory c'.state.memory n.slot
  flagged_fate w n was gone =
      let f = own_flagged L enough ts before w n was in
      let l = law_of_state L enough c o in
      let range = l.1.tree.known w n.slot f.known in
      let layout = layout_is L enough c o in
      elim (reached_or L enough c o n.slot (λ z. absurd (omega (arith, range, z)))
      (subst (λ (m : Layout). n.slot ≤ m.nodes) layout range.1)) [
        | inl r ↦ inr (record { was = r; gone = gone })
        | inr none ↦ inl none
      ]

  -- a call whose link is no news
  linked_back : (w : ℕ) → IsStill w → WinsNoLink L enough c t has o → (own_search c' w).linked ≡ true
      → (own_search c w).linked ≡ true
  linked_back w still plain now = by (own_turn L w c t o)
    where
      by : OwnTurn w c t → (own_search c w).linked ≡ true
      by (Quiet same none) = ap (λ (S : Search). S.linked) (sym same) ∙ now
      by (Own r is won here learned order) = sym (links_once.kept (own_search c w) t.1 r
          ((or_parts (begins_anew (t.1, r)) false (sym (ap (list_any begins_anew) here) ∙ still)).0) (plain r won))
          ∙ (ap (λ (S : Search). S.linked) (sym learned) ∙ now)

  -- nothing, where the turn wins no link and cuts nothing
  made_none : WinsNoLink L enough c t has o → ((ns : List NodeId) → outcome_in c t ≡ Ok (Cut ns) → ⊥) → Made
  made_none plain uncut = record {
    made = [];
    changes = record {
      at = tt;
      replays = λ k small. let s = set_stays L enough c t has o plain uncut k in (s.1, s.0);
      cut = λ ns is _. absurd (uncut ns is);
      owner = λ ns is _. absurd (uncut ns is);
      link =
          λ k called q told such. absurd (true≢false (sym such ∙ plain q told));
    };
    once = tt;
    each = λ a there. absurd there;
    live = λ w op k still called did. inl (old w op still did);
  }
    where
      old : (w : ℕ) (op : Op) → IsStill w → Changed c' w op → Changed c w op
      old w Has still x = x
      old w Insert still x = linked_back w still plain x
      old w Delete still x =
          let was = flagged_back w x.0 still x.1 x.2 in
          elim (flagged_fate w x.0 was x.2) [
            | inl gone ↦ (x.0, was, gone)
            | inr cut ↦ absurd (cut.gone (uncut_stays L enough c t o uncut x.0.slot cut.was))
          ]

  -- nothing, where it wins a swap
  made_swap : (p : ℕ) (d : Side) (leaf new : ℕ) (ns : List NodeId) → t.1 ≡ Swap p d leaf new
      → outcome_in c t ≡ Ok (Cut ns) → Made
  made_swap p d leaf new ns e is = record {
    made = [];
    changes = record {
      at = tt;
      replays = λ k small. let s = leaves.set k in (s.1, s.0);
      cut =
          λ ms _ splice. absurd (no_splice splice);
      owner = λ ms _ splice. absurd (no_splice splice);
      link =
          λ k called q told such. absurd (true≢false (sym such ∙ cut_links_none L enough c t has o ns is q told));
    };
    once = tt;
    each = λ a there. absurd there;
    live = λ w op k still called did. inl (old w op still did);
  }
    where
      leaves : SwapLeaves c.state.memory c'.state.memory
      leaves = swap_turn L enough c t o p d leaf new e ns is

      no_splice : is_splice t.1 ≡ true → ⊥
      no_splice h = true≢false (sym h ∙ ap is_splice e)

      flag_kept : (w : ℕ) → FlagKept c.state.memory (of c.state w) (own_search c w)
      flag_kept w = subst (λ (S : Search). FlagKept c.state.memory (of c.state w) S)
          (sym (ap (λ (l : Option (List Search)). search_of (unwrap_or l []) w) o.are))
          (each_run_keeps EachFlagKept flags_step L enough (flags_start L) ts before o.searches o.are w)

      old : (w : ℕ) (op : Op) → IsStill w → Changed c' w op → Changed c w op
      old w Has still x = x
      old w Insert still x = linked_back w still (cut_links_none L enough c t has o ns is) x
      old w Delete still x =
          let was = flagged_back w x.0 still x.1 x.2 in
          elim (flagged_fate w x.0 was x.2) [
            | inl gone ↦ (x.0, was, gone)
            | inr cut ↦
                let hangs = leaves.cut x.0.slot cut in
                let flag = ((flag_kept w).some x.0 was).root hangs.2.path hangs.1
                (ap (λ (y : ℕ). child c.state.memory y hangs.1) hangs.2.ends ∙ hangs.3) in
                absurd (true≢false (sym flag
                ∙ (ap (λ (y : ℕ). (edge c.state.memory y hangs.1).flag) hangs.2.ends ∙ hangs.4)))
          ]

  -- an insert, where it wins a link
  made_link : (r : Reply) → outcome_in c t ≡ Ok r → (l : IsLinkEntry t.1 r) → (j : ℕ) → IsCalled c t.0 Insert j
      → Gains c.state.memory c'.state.memory j → Made
  made_link r won l j called gains = record {
    made = act ∷ [];
    changes = record {
      at = (refl, refl, tt);
      replays = (
        call_key t.0 Insert j call_is,
        gains.was_not,
        λ k small. ((λ s. (gains.now k).1 s), (λ s. (gains.now k).0 s)),
      );
      cut = λ ns is _. absurd (uncut ns is);
      owner = λ ns is _. absurd (uncut ns is);
      link =
          λ k call q told such. (
            act,
            refl,
            ap (λ (x : Call). x.key)
                (same_Some (record { op = Insert; key = j }) (record { op = Insert; key = k }) (sym call_is ∙ call)),
            refl,
            refl,
            refl,
          );
    };
    once = ((λ b none same. none), tt);
    each = each;
    live = live;
  }
    where
      act : Act
      act = record { worker = t.0; pin = pin_of L ts t.0; op = Insert; key = j; answer = true; moment = length ts + 1 }

      call_is : Calls c t.0 Insert j
      call_is = is_own_call c t.0 Insert j called

      such : is_won_link (t.1, r) ≡ true
      such = λ i. is_won_link (l.is_event i, l.is_reply i)

      stands : begins_anew (t.1, r) ≡ false
      stands = λ i. begins_anew (l.is_event i, l.is_reply i)

      mine : OwnTurn t.0 c t
      mine = own_turn L t.0 c t o

      filled : (b : Bool) → b ≡ true → ◌≡◌ {A = List Entry} (cond b ((t.1, r) ∷ []) []) [] → ⊥
      filled true t none = cc
      filled false t none = true≢false (sym t)

      fresh : OwnTurn t.0 c t → (own_search c t.0).linked ≡ false
      fresh (Quiet same none) = absurd (filled (t.0 == t.0) (eq-eqb t.0 t.0 refl)
          (sym (allowed_entries t.0 c t r won) ∙ none))
      fresh (Own q is won' here learned order) = links_once.once c.state.layout (of c.state t.0) (own_search c t.0)
          t.1 r order such

      linked : OwnTurn t.0 c t → (own_search c' t.0).linked ≡ true
      linked (Quiet same none) = absurd (filled (t.0 == t.0) (eq-eqb t.0 t.0 refl)
          (sym (allowed_entries t.0 c t r won) ∙ none))
      linked (Own q is won' here learned order) = ap (λ (S : Search). S.linked) learned
          ∙ links_once.done (own_search c t.0) t.1 q (ap (λ (x : Reply). is_won_link (t.1, x))
          (same_reply q r (sym won' ∙ won)) ∙ such)

      each : (a : Act) → IsAmong (act ∷ []) a → NewAct a
      each a (inl is) = subst NewAct is (record {
        still = none_anew t.0 c t r won stands;
        called = call_is;
        fresh =
            λ did. true≢false (sym did ∙ fresh mine);
        did = linked mine;
        answer = refl;
        pin = refl;
        moment = refl;
      })
      each a (inr none) = absurd none

      uncut : (ns : List NodeId) → outcome_in c t ≡ Ok (Cut ns) → ⊥
      uncut ns cut = apart l.node ns (sym l.is_reply ∙ same_reply r (Cut ns) (sym won ∙ cut))
        where
          apart : (m : NodeId) (ns : List NodeId) → Linked m ≡ Cut ns → ⊥
          apart m ns e = cc

      live : (w : ℕ) (op : Op) (k : ℕ) → IsStill w → Calls c w op k → Changed c' w op
          → Changed c w op ⊎ HasActOfCall (act ∷ []) w (pin_of L ts w) op k true
      live w Has k still call did = inl did
      live w Insert k still call did = by (own_turn L w c t o)
        where
          by : OwnTurn w c t → ((own_search c w).linked ≡ true)
              ⊎ HasActOfCall (act ∷ []) w (pin_of L ts w) Insert k true
          by (Quiet same none) = inl (ap (λ (S : Search). S.linked) (sym same) ∙ did)
          by (Own q is won' here learned order) = inr (record {
            act = act;
            among = inl refl;
            worker = is;
            is_pin = ap (pin_of L ts) is;
            is_op = refl;
            is_key = ap (λ (x : Call). x.key) (same_Some (record { op = Insert; key = j })
                (record { op = Insert; key = k }) (sym call_is ∙ (ap (λ (v : ℕ). (own_search c v).call) is ∙ call)));
            is_answer = refl;
          })
      live w Delete k still call x =
          let was = flagged_back w x.0 still x.1 x.2 in
          elim (flagged_fate w x.0 was x.2) [
            | inl gone ↦ inl (x.0, was, gone)
            | inr cut ↦ absurd (cut.gone (uncut_stays L enough c t o uncut x.0.slot cut.was))
          ]

  -- the deletes of its leaves, where it is a cut
  made_cut : (ns : List NodeId) → outcome_in c t ≡ Ok (Cut ns) → is_splice t.1 ≡ true → Made
  made_cut ns is splice = record { made = m.made; changes = m.changes; once = m.once; each = each; live = live }
    where
      m : CutMade L enough ts before t ns
      m = cut_made L enough ts before t has ns is splice

      still_all : (w : ℕ) → IsStill w
      still_all w = none_anew w c t (Cut ns) is (cut_stands t.1 ns)

      each : (a : Act) → IsAmong m.made a → NewAct a
      each a there = subst NewAct (sym e.3) (record {
        still = still_all a.worker;
        called = f.is_call ∙ λ i. Some (record { op = f.is_op i; key = sym key_is i });
        fresh = λ d. d.2 (subst (Reached c.state.memory)
            (ap (λ (y : NodeId). y.slot) (same_Some (named c.state.memory e.0) d.0 (sym e.1 ∙ d.1))) e.4.was);
        did = (
          named c.state.memory e.0,
          (goes a.worker (still_all a.worker)).flagged (named c.state.memory e.0) e.1,
          e.4.gone,
        );
        answer = refl;
        pin = refl;
        moment = refl;
      })
        where
          e : (x : ℕ) × ((own_search c a.worker).flagged ≡ Some (named c.state.memory x))
              × (is_leaf (node c.state.memory x) ≡ true) × (a ≡ delete_of L enough ts before a.worker x)
              × IsCut c.state.memory c'.state.memory x
          e = m.each a there

          f : FlaggedLeaf c.state (own_search c a.worker) a.worker (named c.state.memory (m.each a there).0)
          f = own_flagged L enough ts before a.worker (named c.state.memory (m.each a there).0) (m.each a there).1

          key_is : key c.state.memory (m.each a there).0 ≡ f.call.key
          key_is = ap (λ (y : Lasting). y.key) f.lasts

      live : (w : ℕ) (op : Op) (k : ℕ) → IsStill w → Calls c w op k → Changed c' w op
          → Changed c w op ⊎ HasActOfCall m.made w (pin_of L ts w) op k true
      live w Has k still call did = inl did
      live w Insert k still call did = inl (linked_back w still (cut_links_none L enough c t has o ns is) did)
      live w Delete k still call x = by (flagged_fate w x.0 was x.2)
        where
          was : (own_search c w).flagged ≡ Some x.0
          was = flagged_back w x.0 still x.1 x.2

          f : FlaggedLeaf c.state (own_search c w) w x.0
          f = own_flagged L enough ts before w x.0 was

          by : (Reached c.state.memory x.0.slot → ⊥) ⊎ IsCut c.state.memory c'.state.memory x.0.slot
              → Changed c w Delete ⊎ HasActOfCall m.made w (pin_of L ts w) Delete k true
          by (inl gone) = inl (x.0, was, gone)
          by (inr cut) =
              let d = m.all x.0.slot (ap (λ (y : Lasting). y.leaf) f.lasts) cut in
              let mine : d.0 ≡ w = each_flag_has_one_call L enough ts before d.0 w (named c.state.memory x.0.slot)
              x.0 d.1 was refl in
              inr (record {
                act = delete_of L enough ts before d.0 x.0.slot;
                among = d.2;
                worker = mine;
                is_pin = ap (pin_of L ts) mine;
                is_op = refl;
                is_key = ap (λ (y : Lasting). y.key) f.lasts
                    ∙ ap (λ (y : Call). y.key) (same_Some f.call (record { op = Delete; key = k })
                    (sym f.is_call ∙ call));
                is_answer = refl;
              })

  made_by : Made
  made_by = go (outcome_in c t) refl
    where
      go : (q : Result Reply Refused) → outcome_in c t ≡ q → Made
      go (Err q) is = made_none (λ r told. absurd (no_reply q r (sym is ∙ told)))
          (λ ns cut. no_reply q (Cut ns) (sym is ∙ cut))
      go (Ok r) is = by (is_won_link (t.1, r)) refl (is_cut r) refl
        where
          by : (a : Bool) → is_won_link (t.1, r) ≡ a → (b : Bool) → is_cut r ≡ b → Made
          by true link b cut = linked (link_entry t.1 r link)
            where
              linked : IsLinkEntry t.1 r → Made
              linked l =
                  let turn : t ≡ (t.0, Link l.parent l.side l.leaf l.new) = λ i. (t.0, l.is_event i) in
                  let ins = each_link_inserts L enough ts before t.0 l.parent l.side l.leaf l.new l.node
                  (ap (outcome_in c) (sym turn) ∙ (is ∙ ap (λ (x : Reply). Ok x) l.is_reply)) in
                  made_link r is l ins.0 ins.1 (subst (λ (v : ℕ × Event). Gains c.state.memory
                  (next_in c v).state.memory ins.0) (sym turn) ins.2)
          by false link true cut = let ns = cut_shown r cut in on ns.0 (is ∙ ap (λ (x : Reply). Ok x) ns.1)
              (cut_is L enough c t o ns.0 (is ∙ ap (λ (x : Reply). Ok x) ns.1))
            where
              on : (ns : List NodeId) → outcome_in c t ≡ Ok (Cut ns) → SpliceOrSwap t.1 → Made
              on ns told (inl e) = made_cut ns told (ap is_splice e.5)
              on ns told (inr e) = made_swap e.0 e.1 e.2 e.3 ns e.4 told
          by false link false cut = made_none (λ q told. ap (λ (x : Reply). is_won_link (t.1, x))
              (same_reply q r (sym told ∙ is)) ∙ link) (λ ns told. true≢false
              (sym (ap is_cut (same_reply r (Cut ns) (sym is ∙ told))) ∙ cut))

  -- ---- an answer that changes nothing

  record QuietAnswer : Type 0 where
    op : Op
    k : ℕ
    answer : Bool
    is : t ≡ (t.0, LeaveWith answer)
    may : MayAnswer c t.0 op k answer
    plain : changes op answer ≡ false

  leave_answer : Event → Option Bool
  leave_answer (LeaveWith answer) = Some answer
  leave_answer e = None

  leave_shown : (e : Event) (answer : Bool) → leave_answer e ≡ Some answer → e ≡ LeaveWith answer
  unfolding leave_answer
  leave_shown (LeaveWith b) answer is = ap LeaveWith (same_Some b answer is)
  leave_shown e answer is = absurd (none-some answer is)

  not_leave : (e : Event) → leave_answer e ≡ None → (answer : Bool) → e ≡ LeaveWith answer → ⊥
  unfolding leave_answer
  not_leave e none answer is = none-some answer (sym none ∙ ap leave_answer is)

  departs : (w : ℕ) (answer : Bool) → reply_of c.state w (LeaveWith answer) ≡ Departed
  unfolding reply
  departs w answer = refl

  quiet_or : QuietAnswer ⊎ (QuietAnswer → ⊥)
  quiet_or = go (leave_answer t.1) refl
    where
      go : (a : Option Bool) → leave_answer t.1 ≡ a → QuietAnswer ⊎ (QuietAnswer → ⊥)
      go None none = inr (λ q. not_leave t.1 none q.answer (ap (λ (u : ℕ × Event). u.1) q.is))
      go (Some answer) is = by (own_search c t.0).call refl
        where
          leave : t.1 ≡ LeaveWith answer
          leave = leave_shown t.1 answer is

          same_answer : (b : Bool) → t ≡ (t.0, LeaveWith b) → b ≡ answer
          same_answer b u = one (sym (ap (λ (v : ℕ × Event). v.1) u) ∙ leave)
            where
              one : LeaveWith b ≡ LeaveWith answer → b ≡ answer
              one e = cc

          by : (call : Option Call) → (own_search c t.0).call ≡ call → QuietAnswer ⊎ (QuietAnswer → ⊥)
          by None none = inr (λ q. none-some (record { op = q.op; key = q.k })
              (sym none ∙ is_own_call c t.0 q.op q.k q.may.called))
          by (Some call) called = on (changes call.op answer) refl (outcome_in c t) refl
            where
              on : (b : Bool) → changes call.op answer ≡ b → (q : Result Reply Refused) → outcome_in c t ≡ q
                  → QuietAnswer ⊎ (QuietAnswer → ⊥)
              on true changing q out = inr (λ x. true≢false
                  (sym changing ∙ ((λ i. changes (same_op t.0 call.op x.op call.key x.k called
                  (is_own_call c t.0 x.op x.k x.may.called) i) (sym (same_answer x.answer x.is) i)) ∙ x.plain)))
              on false plain (Err q) out = inr (λ x. no_reply q Departed
                  (sym out ∙ (ap (outcome_in c) x.is ∙ x.may.leaves)))
              on false plain (Ok r) out = inl (record {
                op = call.op;
                k = call.key;
                answer = answer;
                is = turn;
                may = may_at t.0 call.op call.key answer called
                    (ap (outcome_in c) (sym turn) ∙ (out ∙ ap (λ (x : Reply). Ok x)
                    (sym (reply_is c t r out) ∙ (ap (reply_of c.state t.0) leave ∙ departs t.0 answer))));
                plain = plain;
              })
                where
                  turn : t ≡ (t.0, LeaveWith answer)
                  turn = λ i. (t.0, leave i)

  record Inserted (acts : List Act) (q : QuietAnswer) : Type 0 where
    acts' : List Act
    kept : Kept L (ts ++ t ∷ []) acts'
    still_has : (w pin : ℕ) (op : Op) (k : ℕ) (answer : Bool) → HasActOfCall acts w pin op k answer
        → HasActOfCall acts' w pin op k answer
    answered : HasActOfCall acts' t.0 (pin_of L ts t.0) q.op q.k q.answer

  module _ (acts : List Act) (old : Kept L ts acts) (q : QuietAnswer) where
    m : Made
    m = made_by

    called : Calls c t.0 q.op q.k
    called = is_own_call c t.0 q.op q.k q.may.called

    was : WasLegal L ts t.0 q.op q.k q.answer
    was = each_other_answer L enough ts before t.0 q.op q.k q.answer q.may q.plain

    quiet_act : Act
    quiet_act = record {
      worker = t.0;
      pin = pin_of L ts t.0;
      op = q.op;
      key = q.k;
      answer = q.answer;
      moment =
          length was.before;
    }

    kept1 : Kept L (ts ++ t ∷ []) (acts ++ m.made)
    kept1 = kept_next acts old m

    run_is : ts ++ t ∷ [] ≡ was.before ++ (was.since ++ t ∷ [])
    run_is = ap (λ (l : List (ℕ × Event)). l ++ t ∷ []) was.is_run ∙ append_assoc was.before was.since (t ∷ [])

    put : PutIn (ordered L) (was.before ++ (was.since ++ t ∷ [])) 0 (acts ++ m.made) quiet_act
    unfolding quiet_act
    put = put_in (ordered L) was.before (was.since ++ t ∷ []) 0 (acts ++ m.made) quiet_act
        (subst (λ (l : List (ℕ × Event)). Follows (ordered L) l 0 (acts ++ m.made)) run_is kept1.follows) (omega arith)
        (call_key t.0 q.op q.k called) q.plain was.gives

    leaves : outcome_in c t ≡ Ok Departed
    leaves = ap (outcome_in c) q.is ∙ q.may.leaves

    anew : list_any begins_anew (entries t.0 c t) ≡ true
    anew = ap (list_any begins_anew) (allowed_entries t.0 c t Departed leaves
        ∙ ap (λ (b : Bool). cond b ((t.1, Departed) ∷ []) []) (eq-eqb t.0 t.0 refl))
        ∙ (λ i. begins_anew ((q.is i).1, Departed) || false)

    pin_is : pin_of L was.before t.0 ≡ pin_of L ts t.0
    pin_is = sym (ap (λ (l : List (ℕ × Event)). pin_of L l t.0) was.is_run
        ∙ pin_stays L was.before was.since t.0 was.stands)

    below : pin_of L ts t.0 < length was.before
    below = subst (λ (n : ℕ). n < length was.before) pin_is
        (pin_below L enough was.before (first_keys was.before was.since
        (subst (λ (l : List (ℕ × Event)). All (λ t. HasKey t.1) l) was.is_run before)) t.0
        (record { op = q.op; key = q.k }) (is_own_call (after_in (ordered L) was.before) t.0 q.op q.k was.called))

    within : length was.before ≤ length ts
    within = subst (λ (n : ℕ). length was.before ≤ n)
        (sym (ap length was.is_run ∙ length-append was.before was.since)) (omega arith)

    quiet_state : ActState L (ts ++ t ∷ []) quiet_act
    unfolding quiet_act
    quiet_state = Ended ts [] (ap (λ (u : ℕ × Event). ts ++ u ∷ []) q.is) q.may refl below within
        (subst (λ (n : ℕ). length was.before ≤ n) (sym
        (pin_more L ts t t.0 ∙ ap (λ (b : Bool). cond b (length ts) (pin_of L ts t.0)) anew)) within)

    -- the call has made no change
    no_change : Changed c t.0 q.op → ⊥
    no_change did = by q.op q.answer q.plain (shown L enough ts before t.0 q.op q.k q.answer q.may) did
      where
        by : (op : Op) (answer : Bool) → changes op answer ≡ false → shows (own_search c t.0) op q.k answer ≡ true
            → Changed c t.0 op → ⊥
        by Has answer plain seen x = x
        by Insert true plain seen x = true≢false plain
        by Insert false plain seen x = true≢false (sym
            (and_parts (list_any (ended_at q.k) (own_search c t.0).walks) (not (own_search c t.0).linked) seen).1
            ∙ ap not x)
        by Delete true plain seen x = true≢false plain
        by Delete false plain seen x = true≢false (sym
            (and_parts (list_any (ended_beside q.k) (own_search c t.0).walks) (is_none (own_search c t.0).flagged)
            seen).1 ∙ ap is_none x.1)

    not_before : (x : Act) → IsAmong (acts ++ m.made) x → SameCall x quiet_act → ⊥
    unfolding quiet_act
    not_before x there same = elim (among_either acts m.made x there) [
      | inl l ↦ so_far (old.each x l)
      | inr r ↦ true≢false (sym anew ∙ subst (λ (w : ℕ). list_any begins_anew (entries w c t) ≡ false) same.0
          (m.each x r).still)
    ]
      where
        so_far : ActState L ts x → ⊥
        so_far (Ended before since is may pin later within past) = absurd (omega (arith, later, past', same.1))
          where
            past' : x.moment ≤ pin_of L ts t.0
            past' = subst (λ (w : ℕ). x.moment ≤ pin_of L ts w) same.0 past
        so_far (Live call did answer pin later within) = no_change
            (subst (Changed c t.0) (same_op t.0 x.op q.op x.key q.k
            (subst (λ (w : ℕ). Calls c w x.op x.key) same.0 call) called)
            (subst (λ (w : ℕ). Changed c w x.op) same.0 did))

    same_sym : (x y : Act) → SameCall x y → SameCall y x
    same_sym x y s = (sym s.0, sym s.1)

    once_put : (xs ys : List Act) (a : Act) → EachOnce (xs ++ ys)
        → ((x : Act) → IsAmong (xs ++ ys) x → SameCall x a → ⊥) → EachOnce (xs ++ a ∷ ys)
    once_put [] ys a once apart = ((λ b there same. apart b there (same_sym a b same)), once)
    once_put (x ∷ xs) ys a once apart = (
      (λ b there same. elim (among_either xs (a ∷ ys) b there) [
        | inl l ↦ once.0 b (among_left xs ys b l) same
        | inr r ↦ elim r [
          | inl is ↦ apart x (inl refl) (subst (SameCall x) (sym is) same)
          | inr later ↦ once.0 b
              (among_right xs ys b later) same
        ]
      ]),
      once_put xs ys a once.1 (λ y there. apart y (inr there)),
    )

    among_put : (xs ys : List Act) (a b : Act) → IsAmong (xs ++ a ∷ ys) b → (a ≡ b) ⊎ IsAmong (xs ++ ys) b
    among_put xs ys a b there = elim (among_either xs (a ∷ ys) b there) [
      | inl l ↦ inr (among_left xs ys b l)
      | inr r ↦ elim r [ inl is ↦ inl is | inr later ↦ inr (among_right xs ys b later) ]
    ]

    among_still : (xs ys : List Act) (a b : Act) → IsAmong (xs ++ ys) b → IsAmong (xs ++ a ∷ ys) b
    among_still xs ys a b there = elim (among_either xs ys b there)
        [ inl l ↦ among_left xs (a ∷ ys) b l | inr r ↦ among_right xs (a ∷ ys) b (inr r) ]

    has_still : (w pin : ℕ) (op : Op) (k : ℕ) (answer : Bool) → HasActOfCall (acts ++ m.made) w pin op k answer
        → HasActOfCall (put.before ++ quiet_act ∷ put.behind) w pin op k answer
    has_still w pin op k answer h = record {
      act = h.act;
      among = among_still put.before put.behind quiet_act h.act
          (subst (λ (l : List Act). IsAmong l h.act) put.are h.among);
      worker = h.worker;
      is_pin = h.is_pin;
      is_op = h.is_op;
      is_key = h.is_key;
      is_answer = h.is_answer;
    }

    inserted : Inserted acts q
    unfolding quiet_act
    inserted = record {
      acts' = put.before ++ quiet_act ∷ put.behind;
      kept = record {
        follows = subst (λ (l : List (ℕ × Event)). Follows (ordered L) l 0 (put.before ++ quiet_act ∷ put.behind))
            (sym run_is) put.follows;
        once = once_put put.before put.behind quiet_act (subst EachOnce put.are kept1.once)
            (λ x there. not_before x (subst (λ (l : List Act). IsAmong l x) (sym put.are) there));
        each = λ b there. elim (among_put put.before put.behind quiet_act b there) [
          | inl is ↦ subst (ActState L (ts ++ t ∷ [])) is quiet_state
          | inr old ↦ kept1.each b (subst (λ (l : List Act). IsAmong l b) (sym put.are) old)
        ];
        live = λ w op k call did. has_still w (pin_of L (ts ++ t ∷ []) w) op k true (kept1.live w op k call did);
      };
      still_has = λ w pin op k answer h. has_still w pin op k answer (has_left acts m.made w pin op k answer h);
      answered = record {
        act = quiet_act;
        among = among_right put.before (quiet_act ∷ put.behind) quiet_act
            (inl refl);
        worker = refl;
        is_pin = refl;
        is_op = refl;
        is_key = refl;
        is_answer = refl;
      };
    }

  -- ---- all answers so far

  -- an answer that changes the set is one of a call that has made its change
  did_change : (w : ℕ) (op : Op) (k : ℕ) (answer : Bool) → MayAnswer c w op k answer → changes op answer ≡ true
      → Changed c w op × (answer ≡ true)
  did_change w op k answer may = by op answer (shown L enough ts before w op k answer may) may
    where
      by : (op : Op) (answer : Bool) → shows (own_search c w) op k answer ≡ true → MayAnswer c w op k answer
          → changes op answer ≡ true → Changed c w op × (answer ≡ true)
      by Has answer seen may changing = absurd (true≢false (sym changing))
      by Insert false seen may changing = absurd (true≢false (sym changing))
      by Delete false seen may changing = absurd (true≢false (sym changing))
      by Insert true seen may changing = (seen, refl)
      by Delete true seen may changing = (removed (own_search c w).flagged refl seen, refl)
        where
          removed : (f : Option NodeId) → (own_search c w).flagged ≡ f → has_removed (own_search c w) f ≡ true
              → Changed c w Delete
          removed None is seen = absurd (true≢false (sym seen))
          removed (Some n) is seen = on (fates L enough ts before w n is).fate
            where
              on : StandsStill L enough c w n ⊎ CutSince L enough ts w (fates L enough ts before w n is).k n
                  → Changed c w Delete
              on (inr cut) = (n, is, cut.gone)
              on (inl still) = elim (or_cases (own_search c w).cut
                  (list_any (ended_elsewhere n.slot) (own_search c w).later) seen) [
                    | inl own ↦ absurd (true≢false (sym own ∙ still.uncut))
                    | inr elsewhere ↦ absurd (not_elsewhere L enough ts before w k may n still.later elsewhere)
                  ]

  -- the last turn of a run is split off
  split_last : (xs before since : List (ℕ × Event)) (x y : ℕ × Event) → xs ++ y ∷ [] ≡ before ++ x ∷ since
      → ((rest : List (ℕ × Event)) × (since ≡ rest ++ y ∷ []) × (xs ≡ before ++ x ∷ rest)) ⊎ ((before ≡ xs) × (y ≡ x))
  split_last [] [] since x y is = inr (refl, head is)
    where
      head : {a b : ℕ × Event} {p q : List (ℕ × Event)} → a ∷ p ≡ b ∷ q → a ≡ b
      head e = cc
  split_last [] (b ∷ before) since x y is = absurd (none before (tail is))
    where
      tail : {a b : ℕ × Event} {p q : List (ℕ × Event)} → a ∷ p ≡ b ∷ q → p ≡ q
      tail e = cc

      none : (l : List (ℕ × Event)) → [] ≡ l ++ x ∷ since → ⊥
      none [] e = cc
      none (z ∷ l) e = cc
  split_last (z ∷ xs) [] since x y is = inl (xs, sym (tail is), ap (λ (a : ℕ × Event). a ∷ xs) (head is))
    where
      head : {a b : ℕ × Event} {p q : List (ℕ × Event)} → a ∷ p ≡ b ∷ q → a ≡ b
      head e = cc

      tail : {a b : ℕ × Event} {p q : List (ℕ × Event)} → a ∷ p ≡ b ∷ q → p ≡ q
      tail e = cc
  split_last (z ∷ xs) (b ∷ before) since x y is = on (split_last xs before since x y (tail is))
    where
      head : {a b : ℕ × Event} {p q : List (ℕ × Event)} → a ∷ p ≡ b ∷ q → a ≡ b
      head e = cc

      tail : {a b : ℕ × Event} {p q : List (ℕ × Event)} → a ∷ p ≡ b ∷ q → p ≡ q
      tail e = cc

      on : ((rest : List (ℕ × Event)) × (since ≡ rest ++ y ∷ []) × (xs ≡ before ++ x ∷ rest))
          ⊎ ((before ≡ xs) × (y ≡ x)) → ((rest : List (ℕ × Event)) × (since ≡ rest ++ y ∷ [])
          × (z ∷ xs ≡ b ∷ (before ++ x ∷ rest))) ⊎ ((b ∷ before ≡ z ∷ xs) × (y ≡ x))
      on (inl s) = inl (s.0, s.1, λ i. head is i ∷ s.2 i)
      on (inr s) = inr ((λ i. sym (head is) i ∷ s.0 i), s.1)

  pub next : (acts : List Act) → Kept L ts acts → Answered L ts acts
      → (acts' : List Act) × Kept L (ts ++ t ∷ []) acts' × Answered L (ts ++ t ∷ []) acts'
  next acts kept answered = elim quiet_or [
    | inl q ↦ (let i = inserted acts kept q in (i.acts', i.kept, with_quiet q i))
    | inr none ↦ (acts ++ made_by.made, kept_next acts kept made_by, without none)
  ]
    where
      with_quiet : (q : QuietAnswer) (i : Inserted acts q) → Answered L (ts ++ t ∷ []) i.acts'
      with_quiet q i first since w op k answer is may = by (split_last ts first since (w, LeaveWith answer) t is)
        where
          by : ((rest : List (ℕ × Event)) × (since ≡ rest ++ t ∷ []) × (ts ≡ first ++ (w, LeaveWith answer) ∷ rest))
              ⊎ ((first ≡ ts) × (t ≡ (w, LeaveWith answer))) → HasActOfCall i.acts' w (pin_of L first w) op k answer
          by (inl s) = i.still_has w (pin_of L first w) op k answer (answered first s.0 w op k answer s.2 may)
          by (inr s) = record {
            act = i.answered.act;
            among = i.answered.among;
            worker = i.answered.worker ∙ mine;
            is_pin = i.answered.is_pin ∙ λ j. pin_of L (sym s.0 j) (mine j);
            is_op = i.answered.is_op ∙ ap (λ (x : Call). x.op) one;
            is_key = i.answered.is_key ∙ ap (λ (x : Call). x.key) one;
            is_answer = i.answered.is_answer ∙ same_answer
                (sym (ap (λ (u : ℕ × Event). u.1) q.is) ∙ ap (λ (u : ℕ × Event). u.1) s.1);
          }
            where
              mine : t.0 ≡ w
              mine = ap (λ (u : ℕ × Event). u.0) s.1

              same_answer : LeaveWith q.answer ≡ LeaveWith answer → q.answer ≡ answer
              same_answer e = cc

              may' : MayAnswer c w op k answer
              may' = subst (λ (l : List (ℕ × Event)). MayAnswer (after_in (ordered L) l) w op k answer) s.0 may

              one : ◌≡◌ {A = Call} (record { op = q.op; key = q.k }) (record { op = op; key = k })
              one = same_Some (record { op = q.op; key = q.k }) (record { op = op; key = k })
                  (sym (is_own_call c t.0 q.op q.k q.may.called)
                  ∙ (ap (λ (u : ℕ). (own_search c u).call) mine ∙ is_own_call c w op k may'.called))

      without : (QuietAnswer → ⊥) → Answered L (ts ++ t ∷ []) (acts ++ made_by.made)
      without none first since w op k answer is may = by (split_last ts first since (w, LeaveWith answer) t is)
        where
          by : ((rest : List (ℕ × Event)) × (since ≡ rest ++ t ∷ []) × (ts ≡ first ++ (w, LeaveWith answer) ∷ rest))
              ⊎ ((first ≡ ts) × (t ≡ (w, LeaveWith answer)))
              → HasActOfCall (acts ++ made_by.made) w (pin_of L first w) op k answer
          by (inl s) = has_left acts made_by.made w (pin_of L first w) op k answer
              (answered first s.0 w op k answer s.2 may)
          by (inr s) = subst (λ (l : List (ℕ × Event)). HasActOfCall (acts ++ made_by.made) w (pin_of L l w) op k
              answer) (sym s.0) (on (changes op answer) refl)
            where
              may' : MayAnswer c w op k answer
              may' = subst (λ (l : List (ℕ × Event)). MayAnswer (after_in (ordered L) l) w op k answer) s.0 may

              on : (b : Bool) → changes op answer ≡ b → HasActOfCall (acts ++ made_by.made) w (pin_of L ts w) op k
                  answer
              on true changing =
                  let d = did_change w op k answer may' changing in
                  subst (λ (b : Bool). HasActOfCall (acts ++ made_by.made) w (pin_of L ts w) op k b) (sym d.1)
                  (has_left acts made_by.made w (pin_of L ts w) op k true
                  (kept.live w op k (is_own_call c w op k may'.called) d.0))
              on false plain = absurd (none (subst (λ (u : ℕ). t ≡ (u, LeaveWith answer) → MayAnswer c u op k answer
                  → QuietAnswer) (ap (λ (u : ℕ × Event). u.0) s.1)
                  (λ is may. record { op = op; k = k; answer = answer; is = is; may = may; plain = plain }) s.1 may'))
