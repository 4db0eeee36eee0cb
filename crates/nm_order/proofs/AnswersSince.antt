-- An answer has its moment within its own call, behind all that was seen before.
use Rattle.std.proofs.Common.{◌≡◌, ◌⊎◌, ℕ, suc, ◌+◌, ◌<◌, ◌≤◌, inl, inr, Bool, true, false, cond, ◌||◌, List, [], ◌∷◌, ◌++◌, append_assoc, length, length-append, refl, sym, ap, subst, ◌∙◌, arith}
use Rattle.std.specs.Prelude.{Option, Some, None, unwrap_or, Ok, All}
use Rattle.std.specs.List.{list_any}
use Rattle.std.proofs.lemmas.Bool.{cases_lt}
use Rattle.std.proofs.lemmas.List.Folds.{list_any-append}
use Rattle.std.proofs.lemmas.Option.{none-some}
use Rattle.nm_edge.specs.Layouts.{Layout}
use Rattle.nm_model.specs.declared.event.Op.{Op}
use Rattle.nm_model.specs.declared.event.Op.TheVariants.{Has, Insert, Delete}
use Rattle.nm_model.specs.declared.event.Event.{Event}
use Rattle.nm_model.specs.declared.event.Event.TheVariants.{LeaveWith, Link, Join}
use Rattle.nm_model.specs.declared.reply.Reply.{Reply}
use Rattle.nm_model.specs.declared.reply.Reply.TheVariants.{Departed}
use Rattle.nm_model.specs.declared.trace.Turn.{Turn}
use Rattle.nm_model.specs.Searches.{Search, idle}
use Rattle.nm_model.specs.Walks.{Entry, logged_by, log_of, begins_anew, search_after}
use Rattle.nm_model.specs.Runs.{reply_of}
use Rattle.nm_model.specs.Ordered.{Configuration, ordered, search_of, next_in, outcome_in, after_in, trace_in, HasKey}
use Rattle.nm_laws.proofs.Configurations.{after_in-append, allowed_outcome}
use Rattle.nm_order.specs.Logs.{takes_part, part_of}
use Rattle.nm_order.specs.Moments.{PinStands}
use Rattle.nm_order.specs.Exchanges.{MayAnswer, HasWonInsert}
use Rattle.nm_order.specs.Removals.{HasWonDelete}
use Rattle.nm_order.specs.Legal.{WasLegal}
use Rattle.nm_order.specs.History.{last_anew, pin_of}
use Rattle.nm_order.specs.Answered.{HasMoment}
use Rattle.nm_order.specs.AnsweredSince.{moment_number, IsAnsweredSince, AnswersAreOfTheirCalls}
use Rattle.nm_order.proofs.LastEntries.{ToldBy, told_by_part, LastTurn, last_turn, PartOf, part_or}
use Rattle.nm_order.proofs.LastEntries.PartOf.{Own, Resigns}
use Rattle.nm_order.proofs.LoggedAnswers.{moment_of}
use Rattle.nm_order.proofs.OrderedLaws.{each_ordered}
use Rattle.nm_order.proofs.OwnTurns.{own_search, call_stays}
use Rattle.nm_order.proofs.PartsOfRuns.{own_adds}
use Rattle.nm_order.proofs.PinNumbers.{pin_more, pin_stays, pin_below, last-join, length_trace}
use Rattle.nm_order.proofs.RealTime.{last_grows, begins_with}
use Rattle.nm_order.proofs.RunExchanges.{first_keys, is_own_call}
use Rattle.nm_order.proofs.RunMoments.{entries}
use Rattle.nm_order.proofs.WalksOfRuns.{trace_in-append, log-append}

-- ---- lists

pub later_keys : (before since : List (ℕ × Event)) → All (λ t. HasKey t.1) (before ++ since)
    → All (λ t. HasKey t.1) since
later_keys [] since keys = keys
later_keys (t ∷ ts) since keys = later_keys ts since (λ j e less. keys (suc j) e (omega arith))

pub part-append : (w : ℕ) (ts us : List Turn) → part_of w (ts ++ us) ≡ part_of w ts ++ part_of w us
part-append w [] us = refl
part-append w (t ∷ ts) us =
    let own : List Entry = cond (takes_part w t.worker t.event) (logged_by t) [] in
    ap (λ (l : List Entry). own ++ l) (part-append w ts us) ∙ sym (append_assoc own (part_of w ts) (part_of w us))

-- a pin stands in these turns, or the last that was confirmed or left has one of their numbers
pub anew_or_stands : (w p n : ℕ) (xs : List Turn) → p ≤ n → PinStands w xs ⊎ (n ≤ last_anew w p n xs)
anew_or_stands w p n [] le = inl refl
anew_or_stands w p n (x ∷ xs) le = by (list_any begins_anew (log_of w (x ∷ []))) refl
    (λ q small. anew_or_stands w q (n + 1) xs small)
  where
    whole : list_any begins_anew (log_of w (x ∷ xs))
        ≡ (list_any begins_anew (log_of w (x ∷ [])) || list_any begins_anew (log_of w xs))
    whole = ap (list_any begins_anew) (log-append w (x ∷ []) xs)
        ∙ list_any-append begins_anew (log_of w (x ∷ [])) (log_of w xs)

    by : (b : Bool) → list_any begins_anew (log_of w (x ∷ [])) ≡ b
        → ((q : ℕ) → q ≤ n + 1 → PinStands w xs ⊎ (n + 1 ≤ last_anew w q (n + 1) xs))
        → PinStands w (x ∷ xs) ⊎ (n ≤ last_anew w (cond b n p) (n + 1) xs)
    by true is rest = inr (last_grows w n (n + 1) xs (omega arith)).0
    by false is rest = elim (rest p (omega arith)) [
      | inl stands ↦ inl (whole ∙ (ap (λ (b : Bool). b || list_any begins_anew (log_of w xs)) is ∙ stands))
      | inr anew ↦ inr (omega (arith, anew))
    ]

-- ---- the moment is later than the pin

module _ (L : Layout) (enough : 5 ≤ L.nodes) where
  -- the number of a pin is below that of the next turn but one
  pin_at_most : (ts : List (ℕ × Event)) (w : ℕ) → pin_of L ts w ≤ length ts
  pin_at_most ts w = let g = (last_grows w 0 0 (trace_in (ordered L) ts) (omega arith)).1 in
      let t = length_trace (ordered L) ts in omega (arith, g, t)

  module _ (before : List (ℕ × Event)) (keys : All (λ t. HasKey t.1) before) (w k : ℕ) where
    legal_later : (op : Op) (answer : Bool) (m : WasLegal L before w op k answer)
        → (pin_of L before w < length m.before) × (length m.before ≤ length before)
    legal_later op answer m =
        let stays : pin_of L before w ≡ pin_of L m.before w = ap (λ (l : List (ℕ × Event)). pin_of L l w) m.is_run
        ∙ pin_stays L m.before m.since w m.stands in
        let less = pin_below L enough m.before (first_keys m.before m.since
        (subst (λ (l : List (ℕ × Event)). All (λ t. HasKey t.1) l) m.is_run keys)) w
        (record { op = op; key = k }) (is_own_call (after_in (ordered L) m.before) w op k m.called) in
        let long : length before ≡ length m.before + length m.since = ap (λ (l : List (ℕ × Event)). length l)
        m.is_run ∙ length-append m.before m.since in
        (omega (arith, stays, less), omega (arith, long))

    inserted_later : (m : HasWonInsert L before w k)
        → (pin_of L before w < length m.before + 1) × (length m.before + 1 ≤ length before)
    unfolding after_in
    inserted_later m =
        let stays : pin_of L before w ≡ pin_of L (m.before ++ link ∷ []) w =
        ap (λ (l : List (ℕ × Event)). pin_of L l w) (m.is_run ∙ sym (append_assoc m.before (link ∷ []) m.since))
        ∙ pin_stays L (m.before ++ link ∷ []) m.since w
        (subst (λ (c : Configuration). PinStands w (trace_in c m.since))
        (sym (after_in-append (ordered L) m.before (link ∷ []))) m.stands) in
        let more = pin_more L m.before link w in
        let most = by (list_any begins_anew (entries w (after_in (ordered L) m.before) link)) in
        let long : length before ≡ length m.before + length (link ∷ m.since) = ap
        (λ (l : List (ℕ × Event)). length l) m.is_run ∙ length-append m.before (link ∷ m.since) in
        (omega (arith, stays, more, most), omega (arith, long))
      where
        link : ℕ × Event
        link = (w, Link m.parent m.side m.leaf m.new)

        by : (b : Bool) → cond b (length m.before) (pin_of L m.before w) ≤ length m.before
        by true = omega arith
        by false = pin_at_most m.before w

    deleted_later : (m : HasWonDelete L before w k)
        → (pin_of L before w < length m.before + 1) × (length m.before + 1 ≤ length before)
    deleted_later m =
        let stays : pin_of L before w ≡ pin_of L m.before w = ap (λ (l : List (ℕ × Event)). pin_of L l w) m.is_run
        ∙ pin_stays L m.before (m.cut ∷ m.since) w m.stands in
        let most = pin_at_most m.before w in
        let long : length before ≡ length m.before + length (m.cut ∷ m.since) = ap
        (λ (l : List (ℕ × Event)). length l) m.is_run ∙ length-append m.before (m.cut ∷ m.since) in
        (omega (arith, stays, most), omega (arith, long))

    moment_later : (op : Op) (answer : Bool) (m : HasMoment L before w op k answer)
        → (pin_of L before w < moment_number L before w op k answer m)
        × (moment_number L before w op k answer m ≤ length before)
    moment_later Has answer m = legal_later Has answer m
    moment_later Insert true m = inserted_later m
    moment_later Insert false m = legal_later Insert false m
    moment_later Delete true m = deleted_later m
    moment_later Delete false m = legal_later Delete false m

-- ---- the law

module _ (L : Layout) (enough : 5 ≤ L.nodes) (w : ℕ) (below : w < L.workers) (past more : List (ℕ × Event))
    (keys : All (λ t. HasKey t.1) (past ++ more)) (log : List Entry) (op : Op) (k : ℕ) (answer : Bool)
    (is_part : part_of w (trace_in (ordered L) (past ++ more)) ≡ log ++ (LeaveWith answer, Departed) ∷ [])
    (added : List Entry) (grown : log ≡ part_of w (trace_in (ordered L) past) ++ added)
    (no_call : (search_after idle (part_of w (trace_in (ordered L) past))).call ≡ None)
    (called : (search_after idle log).call ≡ Some (record { op = op; key = k })) where
  last : LastTurn w (ordered L) (past ++ more) log (LeaveWith answer, Departed)
  last = last_turn w (past ++ more) keys (ordered L) log (LeaveWith answer, Departed) is_part

  past_keys : All (λ t. HasKey t.1) past
  past_keys = first_keys past more keys

  -- the answer is no turn of the past, which has fewer entries
  not_past : (mid : List (ℕ × Event)) → past ≡ (last.before ++ last.turn ∷ []) ++ mid → ⊥
  not_past mid is = let a = longer in let b = length-append log (last_reply ∷ rest) in
      let c = length-append (part_of w (trace_in (ordered L) past)) added in
      let d = ap (λ (l : List Entry). length l) grown in absurd (omega (arith, a, b, c, d))
    where
      last_reply : Entry
      last_reply = (last.turn.1, reply_of (after_in (ordered L) last.before).state last.turn.0 last.turn.1)

      rest : List Entry
      rest = part_of w (trace_in (next_in (after_in (ordered L) last.before) last.turn) mid)

      longer : length (part_of w (trace_in (ordered L) past)) ≡ length (log ++ last_reply ∷ rest)
      longer = ap (λ (l : List Entry). length l) (
          ap (λ (l : List (ℕ × Event)). part_of w (trace_in (ordered L) l))
          (is ∙ append_assoc last.before (last.turn ∷ []) mid)
          ∙ (ap (part_of w) (trace_in-append (ordered L) last.before (last.turn ∷ mid))
          ∙ (part-append w (trace_in (ordered L) last.before)
          (trace_in (after_in (ordered L) last.before) (last.turn ∷ mid))
          ∙ (λ i. last.is_before i ++ own_adds w (after_in (ordered L) last.before) last.turn mid last.is_allowed
          last.takes i))))

  goes_on : (mid : List (ℕ × Event)) × (last.before ≡ past ++ mid)
  goes_on = elim (cases_lt (length last.before) (length past)) [
    | inl less ↦ (let m = begins_with (last.before ++ last.turn ∷ []) last.since past more
        (append_assoc last.before (last.turn ∷ []) last.since ∙ sym last.is_run)
        (let l = length-append last.before (last.turn ∷ []) in omega (arith, less, l)) in absurd (not_past m.0 m.1))
    | inr le ↦ begins_with past more last.before (last.turn ∷ last.since) last.is_run le
  ]

  own_call : (ts : List (ℕ × Event)) → All (λ t. HasKey t.1) ts → (l : List Entry)
      → part_of w (trace_in (ordered L) ts) ≡ l → (own_search (after_in (ordered L) ts) w).call
      ≡ (search_after idle l).call
  own_call ts has l is =
      let told : ToldBy L w l (after_in (ordered L) ts) = subst
      (λ (x : List Entry). ToldBy L w x (after_in (ordered L) ts)) is (told_by_part L enough w below ts has) in
      ap (λ (S : Search). S.call) (ap (λ (x : Option (List Search)). search_of (unwrap_or x []) w)
      told.is_ordered.are ∙ told.search)

  -- the pin of the call was confirmed behind the past
  pinned : length past ≤ pin_of L last.before w
  pinned = elim (anew_or_stands w (pin_of L past w) (length (trace_in (ordered L) past))
      (trace_in (after_in (ordered L) past) goes_on.0)
      (let m = pin_at_most L enough past w in let t = length_trace (ordered L) past in omega (arith, m, t))) [
        | inl stands ↦ absurd (none-some (record { op = op; key = k })
            (sym (own_call past past_keys _ refl ∙ no_call)
            ∙ (sym (stayed stands) ∙ (own_call last.before last.keys log last.is_before ∙ called))))
        | inr anew ↦ (let j = joined in let t = length_trace (ordered L) past in omega (arith, anew, j, t))
      ]
    where
      joined : pin_of L last.before w ≡ last_anew w (pin_of L past w) (length (trace_in (ordered L) past))
          (trace_in (after_in (ordered L) past) goes_on.0)
      joined = ap (λ (l : List (ℕ × Event)). pin_of L l w) goes_on.1
          ∙ (ap (last_anew w 0 0) (trace_in-append (ordered L) past goes_on.0)
          ∙ (last-join w 0 0 (trace_in (ordered L) past) (trace_in (after_in (ordered L) past) goes_on.0)
          ∙ ap (λ (n : ℕ). last_anew w (pin_of L past w) n (trace_in (after_in (ordered L) past) goes_on.0))
          (plain (length (trace_in (ordered L) past)))))
        where
          plain : (n : ℕ) → 0 + n ≡ n
          plain n = omega arith

      stayed : PinStands w (trace_in (after_in (ordered L) past) goes_on.0)
          → (own_search (after_in (ordered L) last.before) w).call ≡ (own_search (after_in (ordered L) past) w).call
      stayed stands =
          ap (λ (l : List (ℕ × Event)). (own_search (after_in (ordered L) l) w).call) goes_on.1
          ∙ (ap (λ (c : Configuration). (own_search c w).call) (after_in-append (ordered L) past goes_on.0)
          ∙ call_stays L enough w goes_on.0 (later_keys past goes_on.0
          (subst (λ (l : List (ℕ × Event)). All (λ t. HasKey t.1) l) goes_on.1 last.keys))
          (after_in (ordered L) past) (each_ordered L enough past past_keys) stands)

  is_leave : last.turn.1 ≡ LeaveWith answer
  is_leave = ap (λ (x : Entry). x.0) last.is_entry

  pub answered_since : IsAnsweredSince L past (past ++ more) w log op k answer
  answered_since = on (part_or w last.turn.0 last.turn.1 last.takes)
    where
      on : PartOf w last.turn.0 last.turn.1 → IsAnsweredSince L past (past ++ more) w log op k answer
      on (Resigns v is) = absurd (differ (sym is_leave ∙ is))
        where
          differ : LeaveWith answer ≡ Join v → ⊥
          differ e = cc
      on (Own own) = record {
        before = last.before;
        since = last.since;
        is_run = last.is_run ∙ ap (λ (u : ℕ × Event). last.before ++ u ∷ last.since) turn;
        is_log = last.is_before;
        may = may;
        pinned = pinned;
        moment = moment_of L enough last.before last.keys w op k answer may;
        later = (moment_later L enough last.before last.keys w k op answer
            (moment_of L enough last.before last.keys w op k answer may)).0;
        sooner = (moment_later L enough last.before last.keys w k op answer
            (moment_of L enough last.before last.keys w op k answer may)).1;
      }
        where
          turn : last.turn ≡ (w, LeaveWith answer)
          turn = λ i. (own i, is_leave i)

          told : ToldBy L w log (after_in (ordered L) last.before)
          told = subst (λ (x : List Entry). ToldBy L w x (after_in (ordered L) last.before)) last.is_before
              (told_by_part L enough w below last.before last.keys)

          may : MayAnswer (after_in (ordered L) last.before) w op k answer
          may = record {
            called = record {
              searches = told.is_ordered.searches;
              are = told.is_ordered.are;
              is_call = ap
                  (λ (S : Search). S.call) told.search ∙ called;
            };
            leaves = ap (outcome_in (after_in (ordered L) last.before)) (sym turn)
                ∙ (allowed_outcome (after_in (ordered L) last.before) last.turn last.is_allowed
                ∙ ap (λ (r : Reply). Ok r) (ap (λ (x : Entry). x.1) last.is_entry));
          }

pub answers_are_of_their_calls : AnswersAreOfTheirCalls
answers_are_of_their_calls L enough w below past more keys log op k answer is_part entries grown no_call called =
    answered_since L enough w below past more keys log op k answer is_part entries grown no_call called
