-- What a worker is answered beside which no other one has made a turn, by counting what it has won.
use Rattle.std.proofs.Common.{◌≡◌, ◌≢◌, ◌∙◌, ℕ, ◌+◌, ◌<◌, ◌≤◌, inl, inr, ◌⊎◌, Bool, true, false, List, [], ◌∷◌, ◌++◌, append-nil, append_assoc, length, refl, sym, ap, subst, arith}
use Rattle.std.proofs.lemmas.Bool.{cases_lt}
use Rattle.std.proofs.lemmas.Option.{same_Some}
use Rattle.std.specs.Prelude.{All, filter, unwrap_or, Option, Some, None}
use Rattle.nm_edge.specs.Layouts.{Layout, IsLayout}
use Rattle.nm_edge.specs.Keys.{IsKey}
use Rattle.nm_edge.specs.declared.node.NodeId.{NodeId}
use Rattle.nm_model.specs.declared.arrivals.Call.{Call}
use Rattle.nm_model.specs.declared.event.Op.{Op}
use Rattle.nm_model.specs.declared.event.Op.TheVariants.{Has, Insert, Delete}
use Rattle.nm_model.specs.declared.event.Event.{Event}
use Rattle.nm_model.specs.declared.event.Event.TheVariants.{LeaveWith}
use Rattle.nm_model.specs.Searches.{Search, idle, searched}
use Rattle.nm_model.specs.Walks.{Entry, search_after}
use Rattle.nm_model.specs.Ordered.{HasKey, ordered, after_in, trace_in, search_of}
use Rattle.nm_order.specs.Exchanges.{is_won_link}
use Rattle.nm_order.specs.History.{pin_of}
use Rattle.nm_model.specs.Acts.{InSet}
use Rattle.nm_order.specs.Legal.{WasLegal}
use Rattle.nm_order.specs.Logs.{part_of}
use Rattle.nm_order.specs.LoggedTotals.{log_often, sum_of}
use Rattle.nm_order.specs.Totals.{Agree, NothingIsPending, is_for, links_of, flags_of}
use Rattle.nm_order.specs.WalksToArrivals.{is_won_flag}
use Rattle.nm_order.proofs.AnswersSince.{part-append}
use Rattle.nm_order.proofs.FlagFates.{own_flagged}
use Rattle.nm_order.proofs.FlaggedNodes.{FlaggedLeaf}
use Rattle.nm_order.proofs.LastEntries.{ToldBy, told_by_part}
use Rattle.nm_order.proofs.NothingPends.{nothing_pends}
use Rattle.nm_order.proofs.OwnTurns.{own_search}
use Rattle.nm_order.proofs.PinNumbers.{pin_stays, pin_below}
use Rattle.nm_order.proofs.RunExchanges.{first_keys}
use Rattle.nm_order.proofs.TotalsOfLogs.{totals_are_in_the_logs}
use Rattle.nm_order.proofs.TotalsOfRuns.{each_total_is_the_set}
use Rattle.nm_order.proofs.WalksOfRuns.{trace_in-append}
use Rattle.nm_model.specs.Histories.{AnswerStands}
use Rattle.nm_theorem.proofs.Runs.{enough_of}
use Rattle.nm_steps.specs.Rules.{Extends}
use Rattle.nm_steps.specs.Steps.{PassView, HasSeen, HasSeenAllOf}
use Rattle.nm_steps.proofs.Growing.{goes_on_through}
use Rattle.nm_calls.specs.Moments.{AnswerHasMoment}
use Rattle.nm_walks.specs.WonCounts.{won_links, won_flags}
use Rattle.nm_tree.proofs.Taking.{no_shorter}
use Rattle.nm_tree.proofs.FoundThenGone.{begins}
use Rattle.nm_set.proofs.Rests.{at_most, none_first}
use Rattle.nm_tree.proofs.AnswersInRuns.{AnsweredBy, answered_by}
use Rattle.nm_set.proofs.Counting.{fewer, flagged_once, linked_once, none_in}

-- ---- counts

-- a log has no more such entries of calls for k than such entries
often_few : (is_such : Entry → Bool) (k : ℕ) (s : Search) (log : List Entry)
    → log_often is_such k s log ≤ length (filter is_such log)
unfolding log_often
often_few is_such k s [] = omega arith
often_few is_such k s (e ∷ es) = go (is_such e) refl (is_for k s.call) refl
    (often_few is_such k (searched s e.0 e.1) es)
  where
    go : (b : Bool) → is_such e ≡ b → (c : Bool) → is_for k s.call ≡ c
        → log_often is_such k (searched s e.0 e.1) es ≤ length (filter is_such es)
        → log_often is_such k s (e ∷ es) ≤ length (filter is_such (e ∷ es))
    go true is true for less = rw (is, for) (omega (arith, less))
    go true is false for less = rw (is, for) (omega (arith, less))
    go false is true for less = rw is (omega (arith, less))
    go false is false for less = rw is (omega (arith, less))

-- ---- one worker's call, from p to q, beside which the others have made no turn at all

module _ (p q : PassView) (k : ℕ) (key : IsKey k) (seen : HasSeen q.view) (fits : IsLayout q.view.layout)
    (others : (w : ℕ) → w < q.view.layout.workers → w ≢ q.view.number → part_of w q.view.past ≡ []) where
  abbrev L : Layout
  L = q.view.layout

  abbrev u : ℕ
  u = q.view.number

  abbrev all : List (ℕ × Event)
  all = seen.events

  enough : 5 ≤ L.nodes
  enough = enough_of L fits

  own : part_of u (trace_in (ordered L) all) ≡ q.view.log
  own = ap (part_of u) (sym seen.are) ∙ seen.is_part

  quiet : (w : ℕ) → w < L.workers → w ≢ u → part_of w (trace_in (ordered L) all) ≡ []
  quiet w less other = ap (part_of w) (sym seen.are) ∙ others w less other

  most : (is_such : Entry → Bool) (j : ℕ) → sum_of
      (λ w. log_often is_such j idle (part_of w (trace_in (ordered L) all))) L.workers
      ≤ length (filter is_such q.view.log)
  most is_such j = at_most (λ w. log_often is_such j idle (part_of w (trace_in (ordered L) all))) L.workers u
      (length (filter is_such q.view.log))
      (λ w less other. none_in is_such j idle (part_of w (trace_in (ordered L) all))
      (ap (λ (log : List Entry). length (filter is_such log)) (quiet w less other)))
      (subst (λ (log : List Entry). log_often is_such j idle (part_of u (trace_in (ordered L) all))
      ≤ length (filter is_such log)) own (often_few is_such j idle (part_of u (trace_in (ordered L) all))))

  module _ (xs rest : List (ℕ × Event)) (is : all ≡ xs ++ rest) where
    keyed : All (λ t. HasKey t.1) xs
    keyed = first_keys xs rest (subst (λ (us : List (ℕ × Event)). All (λ t. HasKey t.1) us) is seen.keys)

    few_links : (j : ℕ) → links_of j L xs ≤ won_links q.view.log
    few_links j =
        let few = fewer is_won_link j (ordered L) xs rest in
        let whole = ap (λ (us : List (ℕ × Event)). links_of j L us) is in
        let sum = (totals_are_in_the_logs L enough all seen.keys j).0 in
        let less = most is_won_link j in
        omega (arith, few, whole, sum, less)

    few_flags : (j : ℕ) → flags_of j L xs ≤ won_flags q.view.log
    few_flags j =
        let few = fewer is_won_flag j (ordered L) xs rest in
        let whole = ap (λ (us : List (ℕ × Event)). flags_of j L us) is in
        let sum = (totals_are_in_the_logs L enough all seen.keys j).1 in
        let less = most is_won_flag j in
        omega (arith, few, whole, sum, less)

  -- an answer that changes nothing, and the moment at which it was right
  module _ (op : Op) (answer : Bool) (before since : List (ℕ × Event))
      (is_run : all ≡ before ++ (u, LeaveWith answer) ∷ since) (pinned : length p.view.past ≤ pin_of L before u)
      (m : WasLegal L before u op k answer) where
    abbrev rest : List (ℕ × Event)
    rest = m.since ++ (u, LeaveWith answer) ∷ since

    whole : all ≡ m.before ++ rest
    whole = is_run ∙ (ap (λ (us : List (ℕ × Event)). us ++ (u, LeaveWith answer) ∷ since) m.is_run
        ∙ append_assoc m.before m.since ((u, LeaveWith answer) ∷ since))

    call : (own_search (after_in (ordered L) m.before) u).call ≡ Some (record { op = op; key = k })
    call = ap (λ (o : Option (List Search)). (search_of (unwrap_or o []) u).call) m.called.are ∙ m.called.is_call

    -- it lies behind all that the worker had seen before
    far : length p.view.past < length m.before
    far =
        let same : pin_of L before u ≡ pin_of L m.before u = ap (λ (us : List (ℕ × Event)). pin_of L us u) m.is_run
        ∙ pin_stays L m.before m.since u m.stands in
        let below = pin_below L enough m.before (keyed m.before rest whole) u (record { op = op; key = k }) call in
        omega (arith, pinned, same, below)

    stands : NothingIsPending L m.before → Agree (links_of k L m.before) (flags_of k L m.before)
        (InSet (after_in (ordered L) m.before).state.memory k)
    stands settled = each_total_is_the_set L enough m.before (keyed m.before rest whole) settled k key

    unflagged : won_flags q.view.log ≡ 0 → NothingIsPending L m.before
    unflagged unwon w j f = let low = flagged_once L m.before w j f in let few = few_flags m.before rest whole j in
        omega (arith, low, few, unwon)

    -- while a worker looks a key up, it has no delete
    looking : op ≡ Has → NothingIsPending L m.before
    looking is_has = nothing_pends L enough m.before (keyed m.before rest whole)
        (λ w less. by w less (cases_lt w u) (cases_lt u w))
      where
        parts : (w : ℕ) → part_of w (trace_in (ordered L) all)
            ≡ part_of w (trace_in (ordered L) m.before) ++ part_of w (trace_in (after_in (ordered L) m.before) rest)
        parts w = ap (λ (us : List (ℕ × Event)). part_of w (trace_in (ordered L) us)) whole
            ∙ (ap (part_of w) (trace_in-append (ordered L) m.before rest)
            ∙ part-append w (trace_in (ordered L) m.before) (trace_in (after_in (ordered L) m.before) rest))

        other : (w : ℕ) → w < L.workers → w ≢ u → (search_after idle
            (part_of w (trace_in (ordered L) m.before))).flagged ≡ None
        other w less ne = ap (λ (log : List Entry). (search_after idle log).flagged)
            (none_first (part_of w (trace_in (ordered L) m.before))
            (part_of w (trace_in (after_in (ordered L) m.before) rest)) (sym (parts w) ∙ quiet w less ne))

        told : ToldBy L u (part_of u (trace_in (ordered L) m.before)) (after_in (ordered L) m.before)
        told = told_by_part L enough u seen.worker m.before (keyed m.before rest whole)

        same : own_search (after_in (ordered L) m.before) u
            ≡ search_after idle (part_of u (trace_in (ordered L) m.before))
        same = ap (λ (o : Option (List Search)). search_of (unwrap_or o []) u) told.is_ordered.are ∙ told.search

        differ : Delete ≡ Has → ⊥
        differ e = cc

        clash : (n : NodeId) → FlaggedLeaf (after_in (ordered L) m.before).state
            (own_search (after_in (ordered L) m.before) u) u n → ⊥
        clash n f = differ (sym f.is_op ∙ (ap (λ (c : Call). c.op)
            (same_Some f.call (record { op = op; key = k }) (sym f.is_call ∙ call)) ∙ is_has))

        mine : (o : Option NodeId) → (search_after idle (part_of u (trace_in (ordered L) m.before))).flagged ≡ o
            → (search_after idle (part_of u (trace_in (ordered L) m.before))).flagged ≡ None
        mine None e = e
        mine (Some n) e = absurd (clash n (own_flagged L enough m.before (keyed m.before rest whole) u n
            (ap (λ (S : Search). S.flagged) same ∙ e)))

        by : (w : ℕ) → w < L.workers → (w < u) ⊎ (u ≤ w) → (u < w) ⊎ (w ≤ u)
            → (search_after idle (part_of w (trace_in (ordered L) m.before))).flagged ≡ None
        by w less (inl low) c = other w less (λ e. omega (arith, low, e))
        by w less (inr up) (inl high) = other w less (λ e. omega (arith, high, e))
        by w less (inr up) (inr low) =
            let at : w ≡ u = omega (arith, up, low) in
            subst (λ (v : ℕ). (search_after idle (part_of v (trace_in (ordered L) m.before))).flagged ≡ None)
            (sym at) (mine (search_after idle (part_of u (trace_in (ordered L) m.before))).flagged refl)

  now : (op : Op) (answer : Bool) → AnswerHasMoment p q op k answer
      → AnsweredBy L all p.view.past q.view.past u op k answer
  now op answer is = answered_by L fits all seen.keys p.view.past q.view.past []
      (sym seen.are ∙ sym (append-nil q.view.past)) u op k answer is

  -- an insert of a worker that has won nothing before
  pub inserts_first : (answer : Bool) → AnswerHasMoment p q Insert k answer
      → (answer ≡ false → (won_links q.view.log ≡ 0) × (won_flags q.view.log ≡ 0)) → answer ≡ true
  inserts_first true is none = refl
  inserts_first false is none = absurd (by (stands Insert false a.is.before a.is.since a.is.is_run a.pinned m
      (unflagged Insert false a.is.before a.is.since a.is.is_run a.pinned m (none refl).1)))
    where
      a : AnsweredBy L all p.view.past q.view.past u Insert k false
      a = now Insert false is

      m : WasLegal L a.is.before u Insert k false
      m = a.is.moment

      by : Agree (links_of k L m.before) (flags_of k L m.before)
          (InSet (after_in (ordered L) m.before).state.memory k) → ⊥
      by (inl so) =
          let one = so.0 in
          let few = few_links m.before (rest Insert false a.is.before a.is.since a.is.is_run a.pinned m)
          (whole Insert false a.is.before a.is.since a.is.is_run a.pinned m) k in
          let unwon = (none refl).0 in
          omega (arith, one, few, unwon)
      by (inr so) = so.1 m.gives

  -- a call behind an earlier one of the same worker, from start to one
  module _ (start one : PassView) (layout : one.view.layout ≡ L) (number : one.view.number ≡ u)
      (past : HasSeenAllOf p one) (grown : HasSeenAllOf q p) where
    later : Extends q.view.past one.view.past
    later = goes_on_through q.view.past p.view.past one.view.past grown.goes_on past.goes_on

    earlier : (op : Op) → AnswerHasMoment start one op k true
        → AnsweredBy L all start.view.past one.view.past u op k true
    earlier op is = answered_by L fits all seen.keys start.view.past one.view.past later.more
        (sym seen.are ∙ later.is) u op k true
        (subst (λ (n : ℕ). AnswerStands L start.view.past one.view.past n op k true) number
        (subst (λ (l : Layout). AnswerStands l start.view.past one.view.past one.view.number op k true) layout is))

    inside : (op : Op) (is : AnswerHasMoment start one op k true) (xs ys : List (ℕ × Event)) → all ≡ xs ++ ys
        → length p.view.past < length xs → (more : List (ℕ × Event)) × (xs ≡ (earlier op is).is.before ++ more)
    inside op is xs ys are less =
        let short = (earlier op is).short in
        let seen_one = no_shorter p.view.past one.view.past past.goes_on in
        begins (earlier op is).is.before xs ((u, LeaveWith true) ∷ (earlier op is).is.since) ys
        (sym (earlier op is).is.is_run ∙ are) (omega (arith, short, seen_one, less))

    linked : (is : AnswerHasMoment start one Insert k true) (xs ys : List (ℕ × Event)) → all ≡ xs ++ ys
        → length p.view.past < length xs → 1 ≤ links_of k L xs
    linked is xs ys are less =
        let i = inside Insert is xs ys are less in
        subst (λ (us : List (ℕ × Event)). 1 ≤ links_of k L us) (sym i.1)
        (linked_once L (earlier Insert is).is.before i.0 u k (earlier Insert is).is.moment)

    flagged : (is : AnswerHasMoment start one Delete k true) (xs ys : List (ℕ × Event)) → all ≡ xs ++ ys
        → length p.view.past < length xs → 1 ≤ flags_of k L xs
    flagged is xs ys are less =
        let i = inside Delete is xs ys are less in
        let before = (earlier Delete is).is.before in
        let d = (earlier Delete is).is.moment in
        let low = flagged_once L d.before u k d.flag in
        let first = fewer is_won_flag k (ordered L) d.before (d.cut ∷ d.since) in
        let first_is = ap (λ (us : List (ℕ × Event)). flags_of k L us) d.is_run in
        let second = fewer is_won_flag k (ordered L) before i.0 in
        let second_is = ap (λ (us : List (ℕ × Event)). flags_of k L us) i.1 in
        omega (arith, low, first, first_is, second, second_is)

    -- a look-up behind its true insert, where it has flagged nothing
    pub finds_own : (answer : Bool) → AnswerHasMoment p q Has k answer → AnswerHasMoment start one Insert k true
        → won_flags q.view.log ≡ 0 → answer ≡ true
    finds_own true is inserted unwon = refl
    finds_own false is inserted unwon = absurd (by (stands Has false a.is.before a.is.since a.is.is_run a.pinned m
        (unflagged Has false a.is.before a.is.since a.is.is_run a.pinned m unwon)))
      where
        a : AnsweredBy L all p.view.past q.view.past u Has k false
        a = now Has false is

        m : WasLegal L a.is.before u Has k false
        m = a.is.moment

        low : 1 ≤ links_of k L m.before
        low = linked inserted m.before (rest Has false a.is.before a.is.since a.is.is_run a.pinned m)
            (whole Has false a.is.before a.is.since a.is.is_run a.pinned m)
            (far Has false a.is.before a.is.since a.is.is_run a.pinned m)

        by : Agree (links_of k L m.before) (flags_of k L m.before)
            (InSet (after_in (ordered L) m.before).state.memory k) → ⊥
        by (inl so) = m.gives so.1
        by (inr so) =
            let same = so.0 in
            let some' = low in
            let few = few_flags m.before (rest Has false a.is.before a.is.since a.is.is_run a.pinned m)
            (whole Has false a.is.before a.is.since a.is.is_run a.pinned m) k in
            omega (arith, same, some', few, unwon)

    -- so is it with a delete
    pub deletes_own : (answer : Bool) → AnswerHasMoment p q Delete k answer → AnswerHasMoment start one Insert k true
        → (answer ≡ false → won_flags q.view.log ≡ 0) → answer ≡ true
    deletes_own true is inserted unwon = refl
    deletes_own false is inserted unwon = absurd (by
        (stands Delete false a.is.before a.is.since a.is.is_run a.pinned m
        (unflagged Delete false a.is.before a.is.since a.is.is_run a.pinned m (unwon refl))))
      where
        a : AnsweredBy L all p.view.past q.view.past u Delete k false
        a = now Delete false is

        m : WasLegal L a.is.before u Delete k false
        m = a.is.moment

        low : 1 ≤ links_of k L m.before
        low = linked inserted m.before (rest Delete false a.is.before a.is.since a.is.is_run a.pinned m)
            (whole Delete false a.is.before a.is.since a.is.is_run a.pinned m)
            (far Delete false a.is.before a.is.since a.is.is_run a.pinned m)

        by : Agree (links_of k L m.before) (flags_of k L m.before)
            (InSet (after_in (ordered L) m.before).state.memory k) → ⊥
        by (inl so) = m.gives so.1
        by (inr so) =
            let same = so.0 in
            let some' = low in
            let none = unwon refl in
            let few = few_flags m.before (rest Delete false a.is.before a.is.since a.is.is_run a.pinned m)
            (whole Delete false a.is.before a.is.since a.is.is_run a.pinned m) k in
            omega (arith, same, some', few, none)

    -- a look-up behind its true delete, where it has won one link at most
    pub misses_own : (answer : Bool) → AnswerHasMoment p q Has k answer → AnswerHasMoment start one Delete k true
        → won_links q.view.log ≤ 1 → answer ≡ false
    misses_own false is deleted few = refl
    misses_own true is deleted few = absurd (by (stands Has true a.is.before a.is.since a.is.is_run a.pinned m
        (looking Has true a.is.before a.is.since a.is.is_run a.pinned m refl)))
      where
        a : AnsweredBy L all p.view.past q.view.past u Has k true
        a = now Has true is

        m : WasLegal L a.is.before u Has k true
        m = a.is.moment

        low : 1 ≤ flags_of k L m.before
        low = flagged deleted m.before (rest Has true a.is.before a.is.since a.is.is_run a.pinned m)
            (whole Has true a.is.before a.is.since a.is.is_run a.pinned m)
            (far Has true a.is.before a.is.since a.is.is_run a.pinned m)

        by : Agree (links_of k L m.before) (flags_of k L m.before)
            (InSet (after_in (ordered L) m.before).state.memory k) → ⊥
        by (inl so) =
            let one' = so.0 in
            let some' = low in
            let most' = few_links m.before (rest Has true a.is.before a.is.since a.is.is_run a.pinned m)
            (whole Has true a.is.before a.is.since a.is.is_run a.pinned m) k in
            omega (arith, one', some', most', few)
        by (inr so) = so.1 m.gives
