-- The act of a true delete has the value that its call has taken, in each history of a map.
use Rattle.std.proofs.Common.{◌≡◌, ◌⊎◌, inl, inr, ℕ, ◌+◌, ◌<◌, ◌≤◌, ◌||◌, Bool, true, false, cond, List, [], ◌∷◌, ◌++◌, append_assoc, length, refl, sym, ap, subst, ◌∙◌, arith, eq-eqb}
use Rattle.std.specs.Prelude.{All, AllPairs, Contains, Ok, Result, Some, filter, slice_index_or}
use Rattle.std.proofs.lemmas.Bool.{cases_lt}
use Rattle.std.proofs.lemmas.List.{length-append}
use Rattle.std.proofs.lemmas.Option.{same_Some}
use Rattle.nm_edge.specs.Keys.{IsKey}
use Rattle.nm_edge.specs.Layouts.{Layout, IsLayout}
use Rattle.nm_edge.specs.declared.edge.Side.{Side}
use Rattle.nm_edge.specs.declared.node.NodeId.{NodeId}
use Rattle.nm_model.specs.declared.arrivals.Call.{Call}
use Rattle.nm_model.specs.declared.event.Event.{Event}
use Rattle.nm_model.specs.declared.event.Event.TheVariants.{Flag, LeaveWith}
use Rattle.nm_model.specs.declared.event.Op.{Op}
use Rattle.nm_model.specs.declared.event.Op.TheVariants.{Delete}
use Rattle.nm_model.specs.declared.reply.Refused.{Refused}
use Rattle.nm_model.specs.declared.reply.Reply.{Reply}
use Rattle.nm_model.specs.declared.reply.Reply.TheVariants.{Cut, Departed, Flagged}
use Rattle.nm_model.specs.declared.trace.Turn.{Turn}
use Rattle.nm_model.specs.Acts.{Act, HasInARow, IsAmong, leaf_keys}
use Rattle.nm_model.specs.Headline.{IsWonSplice, slots_of, words_after}
use Rattle.nm_model.specs.Histories.{AnswerStands, Called, HasFlaggedOneOf, IsHistory, IsInCall, call_begun, called_in}
use Rattle.nm_model.specs.Memory.{is_leaf, named, node}
use Rattle.nm_model.specs.Ordered.{Configuration, HasKey, ordered, after_in, next_in, trace_in}
use Rattle.nm_model.specs.Paths.{Reached}
use Rattle.nm_order.specs.Exchanges.{HasFlagged, MayAnswer}
use Rattle.nm_order.specs.History.{pin_of}
use Rattle.nm_order.specs.Intervals.{IsCalled}
use Rattle.nm_order.specs.Logs.{part_of}
use Rattle.nm_order.specs.Removals.{HasWonDelete}
use Rattle.nm_order.proofs.AnswersSince.{part-append}
use Rattle.nm_order.proofs.CutTurns.{cut_shows, mapped_among}
use Rattle.nm_order.proofs.FlagFates.{each_true_delete_cuts, own_flagged}
use Rattle.nm_order.proofs.FlagOwners.{each_flag_has_one_call}
use Rattle.nm_order.proofs.FlaggedNodes.{FlaggedLeaf}
use Rattle.nm_order.proofs.OrderedLaws.{IsOrdered, each_ordered, own_keys}
use Rattle.nm_order.proofs.OrderedMoments.{Lasting}
use Rattle.nm_order.proofs.OwnTurns.{own_search}
use Rattle.nm_order.proofs.PendingLeaves.{flag_noted}
use Rattle.nm_order.proofs.PinNumbers.{pin_stays}
use Rattle.nm_order.proofs.RealTime.{begins_with}
use Rattle.nm_order.proofs.RunExchanges.{first_keys, is_own_call}
use Rattle.nm_order.proofs.WalksOfRuns.{trace_in-append}
use Rattle.nm_theorem.proofs.HeadlineOfRuns.{each_run_has_it}
use Rattle.nm_theorem.proofs.HistoriesOfRuns.{called_is, still_called}
use Rattle.nm_theorem.proofs.Runs.{Parts, parts_of}
use Rattle.nm_theorem.proofs.StandingAnswers.{pin_below}
use Rattle.nm_theorem.proofs.WrittenWords.{run_words}
use Rattle.nm_steps.specs.declared.view.Stored.{Stored}
use Rattle.nm_steps.specs.declared.view.View.{View}
use Rattle.nm_steps.specs.Rules.{Extends, ExtendsStores, answered_turn}
use Rattle.nm_steps.specs.Steps.{HasSeen}
use Rattle.nm_steps.proofs.Growing.{goes_on_itself}
use Rattle.nm_walks.specs.WonCounts.{won_flags}
use Rattle.nm_walks.proofs.Adding.{adds_these}
use Rattle.nm_walks.proofs.Looks.{enough}
use Rattle.nm_calls.specs.MapHistories.{AreOfMaps, HasDelete, IsMapHistory, MapAct, TakenValuesAreOfTheirActs, TakesItsValue, WonOneFlag, is_plain, is_won_swap}
use Rattle.nm_calls.specs.Maps.{HoldsStores, IsInMap, WasTaken}
use Rattle.nm_calls.proofs.FlaggedTurns.{are as flag_splits, called_then, flag, rest, same_pin, so_far}
use Rattle.nm_calls.proofs.MapMoments.{holds_longer}
use Rattle.nm_calls.proofs.MapsOfRuns.{histories_are_of_maps, place_of, same_split}
use Rattle.nm_calls.proofs.MoreStores.{same_by_more}
use Rattle.nm_calls.proofs.PlainMaps.{In, contains_in, from_filter, in_act, in_all}
use Rattle.nm_calls.proofs.StandingFlags.{TurnAt, flagged_of_cut, turn_at}
use Rattle.nm_calls.proofs.TakenUntilCut.{kept_until_cut, taken_key}
use Rattle.nm_calls.proofs.UncutLeaves.{act_of, among_left, among_right, key_among}
use Rattle.nm_calls.proofs.WonSwaps.{flagged_not_swapped}

-- ---- lists

-- of two acts of one call, which stand once each, one is the other
one_act : (acts : List Act) → AllPairs (λ (a b : Act). (a.worker ≡ b.worker) × (a.pin ≡ b.pin) → ⊥) acts
    → (a b : Act) → IsAmong acts a → IsAmong acts b → a.worker ≡ b.worker → a.pin ≡ b.pin → a ≡ b
one_act acts once a b there among own pin = by (cases_lt i.0 j.0) (cases_lt j.0 i.0)
  where
    i : (n : ℕ) × (n < length acts) × ((d : Act) → slice_index_or acts n d ≡ a)
    i = place_of acts a there

    j : (n : ℕ) × (n < length acts) × ((d : Act) → slice_index_or acts n d ≡ b)
    j = place_of acts b among

    apart : (m n : ℕ) (x y : Act) → (slice_index_or acts m x ≡ x) → (slice_index_or acts n x ≡ y) → m < n
        → n < length acts → x.worker ≡ y.worker → x.pin ≡ y.pin → ⊥
    apart m n x y at there' less below w p = once m n x less below (
      ap (λ (z : Act). z.worker) at ∙ (w ∙ sym (ap (λ (z : Act). z.worker) there')),
      ap (λ (z : Act). z.pin) at
          ∙ (p ∙ sym (ap (λ (z : Act). z.pin) there')),
    )

    by : (i.0 < j.0) ⊎ (j.0 ≤ i.0) → (j.0 < i.0) ⊎ (i.0 ≤ j.0) → a ≡ b
    by (inl less) c = absurd (apart i.0 j.0 a b (i.2 a) (j.2 a) less j.1 own pin)
    by (inr up) (inl less) = absurd (apart j.0 i.0 b a (j.2 b) (i.2 b) less i.1 (sym own) (sym pin))
    by (inr up) (inr low) =
        let same : i.0 ≡ j.0 = omega (arith, up, low) in
        sym (i.2 a) ∙ (ap (λ (n : ℕ). slice_index_or acts n a) same ∙ j.2 a)

-- ---- one flag

module _ (w : ℕ) where
  abbrev flags : List Turn → ℕ
  flags ts = won_flags (part_of w ts)

  flags_more : (ts us : List Turn) → flags (ts ++ us) ≡ flags ts + flags us
  flags_more ts us = (adds_these (part_of w us) (part_of w ts) (part_of w (ts ++ us)) (part-append w ts us)).flags

  abbrev flag_of : ℕ → ℕ → Side → NodeId → Turn
  flag_of p s side n = answered_turn w (Flag p side s) (Flagged n)

  one_there : (p s : ℕ) (side : Side) (n : NodeId) → flags (flag_of p s side n ∷ []) ≡ 1
  one_there p s side n = ap (λ (b : Bool). won_flags (cond (b || false) ((Flag p side s, Flagged n) ∷ []) [] ++ []))
      (eq-eqb w w refl)

  -- of two flags after these turns none is earlier than the other, if there is only one
  none_sooner : (was now : List Turn) → Extends now was → WonOneFlag w was now
      → (xs ys us vs : List Turn) (x y : Turn) → now ≡ xs ++ x ∷ us → now ≡ ys ++ y ∷ vs → length was ≤ length xs
      → flags (x ∷ []) ≡ 1 → flags (y ∷ []) ≡ 1 → length xs < length ys → ⊥
  none_sooner was now on one xs ys us vs x y first second late flagged flagged' less =
      let size = length-append xs (x ∷ []) in
      let mid = begins_with (xs ++ x ∷ []) us ys (y ∷ vs) (append_assoc xs (x ∷ []) us ∙ (sym first ∙ second))
      (omega (arith, size, less)) in
      let early = begins_with was on.more xs (x ∷ us) (sym on.is ∙ first) late in
      let a = ap flags second ∙ flags_more ys (y ∷ vs) in
      let b = flags_more (y ∷ []) vs in
      let c = ap flags mid.1 ∙ flags_more (xs ++ x ∷ []) mid.0 in
      let d = flags_more xs (x ∷ []) in
      let e = ap flags early.1 ∙ flags_more was early.0 in
      omega (arith, one, a, b, c, d, e, flagged, flagged')

-- ---- the act

-- in a run that a history is of
module _ (L : Layout) (fits : IsLayout L) (events : List (ℕ × Event)) (keys : All (λ t. HasKey t.1) events)
    (stores : List Stored) (held : HoldsStores L (trace_in (ordered L) events) (trace_in (ordered L) events) stores)
    (was now : List Turn) (seen : List Stored) (w k v : ℕ) (took : WasTaken L was now seen w k v)
    (answer : AnswerStands L was now w Delete k true) (one : WonOneFlag w was now)
    (on : Extends (trace_in (ordered L) events) now) (extends : ExtendsStores stores took.first)
    (acts : List Act) (h : IsHistory L (trace_in (ordered L) events) acts) where
  abbrev turns : List Turn
  turns = trace_in (ordered L) events

  -- the answer
  at : TurnAt L events (was ++ answer.since) w (LeaveWith true) Departed
  at = turn_at L events keys (was ++ answer.since) on.more w (LeaveWith true) Departed
      (on.is ∙ (ap (λ (ts : List Turn). ts ++ on.more) answer.are
      ∙ append_assoc (was ++ answer.since) (answered_turn w (LeaveWith true) Departed ∷ []) on.more))

  call : (answer.pin ≡ pin_of L at.early w) × IsCalled (after_in (ordered L) at.early) w Delete k
  call = called_is L (enough L fits) w at.early at.keyed (record { pin = answer.pin; op = Delete; key = k })
      (ap (call_begun w) (sym at.first_is) ∙ answer.call)

  may : MayAnswer (after_in (ordered L) at.early) w Delete k true
  may = record { called = call.1; leaves = at.told }

  -- the cut of its leaf
  d : HasWonDelete L at.early w k
  d = each_true_delete_cuts L (enough L fits) at.early at.keyed w k may

  abbrev c : Configuration
  c = after_in (ordered L) d.before

  abbrev before : List Turn
  before = trace_in (ordered L) d.before

  abbrev cut : Turn
  cut = record { worker = d.cut.0; event = d.cut.1; outcome = Ok (Cut d.nodes) }

  abbrev after_cut : List Turn
  after_cut = trace_in (next_in c d.cut) d.since

  early_is : trace_in (ordered L) at.early ≡ before ++ cut ∷ after_cut
  unfolding trace_in
  early_is = ap (trace_in (ordered L)) d.is_run ∙ (trace_in-append (ordered L) d.before (d.cut ∷ d.since)
      ∙ (λ i. before ++ record { worker = d.cut.0; event = d.cut.1; outcome = d.won i } ∷ after_cut))

  abbrev last : List Turn
  last = answered_turn w (LeaveWith true) Departed ∷ []

  now_is : now ≡ before ++ cut ∷ (after_cut ++ last)
  now_is = answer.are ∙ (ap (λ (ts : List Turn). ts ++ last) (at.first_is ∙ early_is)
      ∙ append_assoc before (cut ∷ after_cut) last)

  abbrev later : List Turn
  later = (after_cut ++ last) ++ on.more

  turns_are : turns ≡ before ++ cut ∷ later
  turns_are = on.is ∙ (ap (λ (ts : List Turn). ts ++ on.more) now_is
      ∙ append_assoc before (cut ∷ (after_cut ++ last)) on.more)

  keyed : All (λ t. HasKey t.1) (d.before ++ d.cut ∷ d.since)
  keyed = subst (λ (ts : List (ℕ × Event)). All (λ t. HasKey t.1) ts) d.is_run at.keyed

  firsts : All (λ t. HasKey t.1) d.before
  firsts = first_keys d.before (d.cut ∷ d.since) keyed

  o : IsOrdered L (after_in (ordered L) d.before)
  o = each_ordered L (enough L fits) d.before firsts

  -- ---- the flag of the call

  abbrev f : HasFlagged L d.before w k
  f = d.flag

  abbrev until_flag : List Turn
  until_flag = so_far L fits d.before firsts w k f

  abbrev the_flag : Turn
  the_flag = flag L fits d.before firsts w k f

  abbrev since_flag : List Turn
  since_flag = rest L fits d.before firsts w k f ++ cut ∷ (after_cut ++ last)

  flag_in_now : now ≡ until_flag ++ the_flag ∷ since_flag
  flag_in_now = now_is ∙ (ap (λ (ts : List Turn). ts ++ cut ∷ (after_cut ++ last))
      (flag_splits L fits d.before firsts w k f) ∙ append_assoc until_flag
      (the_flag ∷ rest L fits d.before firsts w k f) (cut ∷ (after_cut ++ last)))

  pin_is : answer.pin ≡ pin_of L d.before w
  pin_is = call.0 ∙ (ap (λ (ts : List (ℕ × Event)). pin_of L ts w) d.is_run
      ∙ pin_stays L d.before (d.cut ∷ d.since) w d.stands)

  late : length was ≤ length until_flag
  late =
      let below = pin_below w until_flag (record { pin = pin_of L f.before w; op = Delete; key = k })
      (called_then L fits d.before firsts w k f) in
      let same = same_pin L fits d.before firsts w k f in
      let is = pin_is in
      let begins = answer.begins in
      omega (arith, below, same, is, begins)

  late' : length was ≤ length took.so_far
  late' = let below = pin_below w took.so_far (record { pin = took.pin; op = Delete; key = k }) took.call in
      let begins = took.later in omega (arith, below, begins)

  since_was : Extends now was
  since_was = record { more = answer.since ++ last; is = answer.are ∙ append_assoc was answer.since last }

  -- it is the flag with which the value was taken
  is_flag : flags w (the_flag ∷ []) ≡ 1
  is_flag = one_there w f.parent f.leaf f.side f.flagged

  abbrev n : NodeId
  n = named (words_after L took.so_far) took.is.slot

  is_flag' : flags w (took.flag ∷ []) ≡ 1
  is_flag' = ap (λ (t : Turn). flags w (t ∷ [])) took.won.is ∙ one_there w took.won.parent took.is.slot took.won.side n

  same_long : length took.so_far ≡ length until_flag
  same_long = elim (cases_lt (length took.so_far) (length until_flag)) [
    | inl less ↦ absurd (none_sooner w was now since_was one took.so_far until_flag took.rest since_flag took.flag
        the_flag took.are flag_in_now late' is_flag' is_flag less)
    | inr le ↦ elim (cases_lt (length until_flag) (length took.so_far)) [
      | inl less ↦ absurd (none_sooner w was now since_was one until_flag took.so_far since_flag took.rest the_flag
          took.flag flag_in_now took.are late is_flag is_flag' less)
      | inr ge ↦ omega (arith, le, ge)
    ]
  ]

  same_flag : took.flag ≡ the_flag
  same_flag = (same_split took.so_far until_flag took.rest since_flag took.flag the_flag (sym took.are ∙ flag_in_now)
      same_long).1

  same_leaf : f.flagged ≡ n
  same_leaf = node_of f.flagged n (sym (ap (λ (t : Turn). t.outcome) same_flag)
      ∙ ap (λ (t : Turn). t.outcome) took.won.is)
    where
      node_of : (a b : NodeId) → ◌≡◌ {A = Result Reply Refused} (Ok (Flagged a)) (Ok (Flagged b)) → a ≡ b
      node_of a b e = cc

  in_cut : Contains d.nodes n
  in_cut = subst (Contains d.nodes) same_leaf d.among

  -- ---- the value right before the cut

  then_is : turns ≡ took.so_far ++ took.flag ∷ (took.rest ++ on.more)
  then_is = on.is ∙ (ap (λ (ts : List Turn). ts ++ on.more) took.are
      ∙ append_assoc took.so_far (took.flag ∷ took.rest) on.more)

  by_all_stores : IsInMap L took.so_far stores k v
  by_all_stores = record {
    slot = took.is.slot;
    reached = took.is.reached;
    leaf = took.is.leaf;
    has_key = took.is.has_key;
    has_value =
        same_by_more L fits events keys took.so_far (took.flag ∷ (took.rest ++ on.more)) then_is took.is.slot
        took.is.reached took.is.leaf
        (inr (subst IsKey (sym took.is.has_key) (taken_key L fits events keys was now seen w k v took on)))
        took.first stores (holds_longer L took.so_far now turns took.first on took.stored) extends turns held
        ∙ took.is.has_value;
  }

  right_before : (i : IsInMap L before stores k v) × (i.slot ≡ took.is.slot)
  unfolding by_all_stores
  right_before = kept_until_cut L fits events keys was now seen w k v took on before later cut turns_are in_cut turns
      stores held by_all_stores refl

  -- ---- the act of the cut

  words : words_after L before ≡ c.state.memory
  words = run_words L fits true d.before

  -- no swap cuts off a leaf that is flagged
  splice : IsWonSplice (words_after L before) cut.event d.nodes
  splice = elim (((each_run_has_it L fits true events keys).cuts before later cut turns_are).splices d.nodes refl) [
    | inl by ↦ by
    | inr swap ↦ absurd (flagged_not_swapped L fits d.before firsts d.cut d.nodes d.won w f.flagged
        (flag_noted L (enough L fits) d.before firsts w k f) d.among swap.parent swap.side swap.old swap.new
        swap.is_swap)
  ]

  row : HasInARow acts (leaf_keys (words_after L before) (slots_of d.nodes)) (length before + 1)
      (λ a. IsInCall before Delete a × HasFlaggedOneOf before a.worker d.nodes)
  row = h.cuts before later cut d.nodes turns_are refl splice.ancestor splice.side splice.successor splice.parent
      splice.keep splice.is_splice

  slot_among : Contains (slots_of d.nodes) right_before.0.slot
  slot_among = subst (Contains (slots_of d.nodes)) (sym right_before.1)
      (mapped_among (λ (m : NodeId). m.slot) d.nodes n in_cut)

  its_act : (b : Act) × IsAmong row.row b × (b.key ≡ k)
  its_act =
      act_of row.row k (subst (λ (l : List ℕ). Contains l k) (sym row.are_keys)
      (subst (Contains (leaf_keys (words_after L before) (slots_of d.nodes))) right_before.0.has_key
      (key_among (words_after L before) (slots_of d.nodes) right_before.0.slot slot_among right_before.0.leaf)))

  abbrev b : Act
  b = its_act.0

  b_among : IsAmong acts b
  b_among = subst (λ (l : List Act). IsAmong l b) (sym row.are)
      (among_right row.front (row.row ++ row.back) b (among_left row.row row.back b its_act.1))

  of_b : IsInCall before Delete b × HasFlaggedOneOf before b.worker d.nodes
  of_b = row.each b its_act.1

  flagged_by_b : (m : NodeId) × Contains d.nodes m × ((own_search c b.worker).flagged ≡ Some m)
  flagged_by_b = flagged_of_cut L fits d.before d.cut
      (first_keys (d.before ++ d.cut ∷ []) d.since (subst (λ (ts : List (ℕ × Event)). All (λ t. HasKey t.1) ts)
      (sym (append_assoc d.before (d.cut ∷ []) d.since)) keyed)) d.nodes d.won b.worker of_b.1

  call_of_b : (b.pin ≡ pin_of L d.before b.worker) × IsCalled c b.worker b.op b.key
  call_of_b = called_is L (enough L fits) b.worker d.before firsts (called_in b) of_b.0.0

  -- what a call to delete the key keeps as flagged, among the nodes that are cut, is a leaf with the key
  module _ (u : ℕ) (m : NodeId) (among : Contains d.nodes m) (keeps : (own_search c u).flagged ≡ Some m)
      (called : IsCalled c u Delete k) where
    leaf_of : FlaggedLeaf c.state (own_search c u) u m
    leaf_of = own_flagged L (enough L fits) d.before firsts u m keeps

    same_key : leaf_of.call.key ≡ k
    same_key = ap (λ (x : Call). x.key) (same_Some leaf_of.call (record { op = Delete; key = k })
        (sym leaf_of.is_call ∙ is_own_call c u Delete k called))

    key_of : (node c.state.memory m.slot).key ≡ k
    key_of = ap (λ (x : Lasting). x.key) leaf_of.lasts ∙ same_key

    kind_of : is_leaf (node c.state.memory m.slot) ≡ true
    kind_of = ap (λ (x : Lasting). x.leaf) leaf_of.lasts

    reached_of : Reached c.state.memory m.slot
    reached_of = (((cut_shows L (enough L fits) c d.cut o d.nodes d.won).0 m.slot).1
        (mapped_among (λ (x : NodeId). x.slot) d.nodes m among)).was

  called_then' : IsCalled c w Delete k
  called_then' = (called_is L (enough L fits) w d.before firsts (record { pin = answer.pin; op = Delete; key = k })
      begun).1
    where
      begun : call_begun w before ≡ Some (record { pin = answer.pin; op = Delete; key = k })
      begun = still_called w before (cut ∷ after_cut) (record { pin = answer.pin; op = Delete; key = k })
          (ap (call_begun w) (sym early_is ∙ sym at.first_is) ∙ answer.call)
          (let l = late in
          let below = pin_below w until_flag (record { pin = pin_of L f.before w; op = Delete; key = k })
          (called_then L fits d.before firsts w k f) in let same = same_pin L fits d.before firsts w k f in
          let is = pin_is in
          let split = ap (λ (ts : List Turn). length ts) (flag_splits L fits d.before firsts w k f)
          ∙ length-append until_flag (the_flag ∷ rest L fits d.before firsts w k f) in
          omega (arith, below, same, is, split))

  same_worker : b.worker ≡ w
  same_worker =
      let m = flagged_by_b.0 in
      let called : IsCalled c b.worker Delete k = subst (λ (j : ℕ). IsCalled c b.worker Delete j) its_act.2
      (subst (λ (p : Op). IsCalled c b.worker p b.key) of_b.0.1 call_of_b.1) in
      let noted = flag_noted L (enough L fits) d.before firsts w k f in
      each_flag_has_one_call L (enough L fits) d.before firsts b.worker w m f.flagged flagged_by_b.2 noted
      (own_keys L (enough L fits) c o m.slot f.flagged.slot
      (reached_of b.worker m flagged_by_b.1 flagged_by_b.2 called) (reached_of w f.flagged d.among noted called_then')
      (kind_of b.worker m flagged_by_b.1 flagged_by_b.2 called) (kind_of w f.flagged d.among noted called_then')
      (key_of b.worker m flagged_by_b.1 flagged_by_b.2 called ∙ sym (key_of w f.flagged d.among noted called_then')))

  -- ---- the act of the call

  its : (a : Act) × IsAmong acts a × (a.worker ≡ w)
      × (called_in a ≡ record { pin = answer.pin; op = Delete; key = k }) × (a.answer ≡ true) × (answer.pin < a.moment)
      × (a.moment < length now)
  its = answer.each on.more acts (subst (λ (ts : List Turn). IsHistory L ts acts) on.is h)

  same_act : its.0 ≡ b
  same_act =
      one_act acts h.once its.0 b its.1 b_among (its.2 ∙ sym same_worker)
      (ap (λ (x : Called). x.pin) its.3 ∙ (pin_is ∙ (ap (pin_of L d.before) (sym same_worker) ∙ sym call_of_b.0)))

  moment_is : length before + 1 ≡ its.0.moment
  moment_is = sym (ap (λ (x : Act). x.moment) same_act ∙ row.at b its_act.1)

  pub has_delete : (valued : List MapAct) → IsMapHistory L turns stores acts valued → HasDelete valued w answer.pin k v
  has_delete valued m = by (in_act (filter is_plain valued) its.0
      (subst (λ (l : List Act). IsAmong l its.0) (sym m.are) its.1))
    where
      by : (x : MapAct) × In (filter is_plain valued) x × (x.act ≡ its.0) → HasDelete valued w answer.pin k v
      by (x, among, is) = let there = (from_filter is_plain valued x among).0 in (
        x,
        contains_in valued x there,
        ap (λ (y : Act). y.worker) is ∙ its.2,
        ap called_in is ∙ its.3,
        ap (λ (y : Act). y.answer) is ∙ its.4,
        in_all (TakesItsValue L turns stores) valued m.takes x there
            (ap (λ (y : Act). y.op) is ∙ ap (λ (y : Called). y.op) its.3)
            (ap (λ (y : Act). y.answer) is ∙ its.4)
            before later cut turns_are
            (moment_is ∙ sym (ap (λ (y : Act). y.moment) is))
            (ap (λ (e : Event). is_won_swap e (Ok (Cut d.nodes))) splice.is_splice)
            v
            (subst (λ (j : ℕ). IsInMap L before stores j v)
            (sym (ap (λ (y : Act). y.key) is ∙ ap (λ (y : Called). y.key) its.3)) right_before.0),
      )

-- ---- the law

pub taken_values_are_of_their_acts : TakenValuesAreOfTheirActs
taken_values_are_of_their_acts L fits events keys from stores held was now seen w k v took answer one on extends acts
    h valued m =
    has_delete L fits p.early early stores holds was now seen w k v took answer one
    (subst (λ (ts : List Turn). Extends ts now) p.first_is on) extends
    acts (subst (λ (ts : List Turn). IsHistory L ts acts) p.first_is h) valued
    (subst (λ (ts : List Turn). IsMapHistory L ts stores acts valued) p.first_is m)
  where
    p : Parts (ordered L) events held.until held.ends.more
    p = parts_of (ordered L) events held.until held.ends.more held.ends.is

    early : All (λ t. HasKey t.1) p.early
    early = first_keys p.early p.late (subst (λ (ts : List (ℕ × Event)). All (λ t. HasKey t.1) ts) p.all keys)

    whole : HoldsStores L held.until held.until stores
    whole = record {
      until = held.until;
      from = goes_on_itself held.until;
      ends = goes_on_itself held.until;
      held = held.held;
      linked = held.linked;
      swapped = held.swapped;
      order = held.order;
    }

    holds : HoldsStores L (trace_in (ordered L) p.early) (trace_in (ordered L) p.early) stores
    holds = subst (λ (ts : List Turn). HoldsStores L ts ts stores) p.first_is whole

-- so of what a worker has seen
pub maps_of_seen : (v : View) → IsLayout v.layout → HasSeen v → AreOfMaps v.layout v.past
maps_of_seen v fits seen = subst (AreOfMaps v.layout) (sym seen.are) (record {
  histories = histories_are_of_maps v.layout fits seen.events seen.keys;
  taken = taken_values_are_of_their_acts v.layout fits seen.events seen.keys;
})
