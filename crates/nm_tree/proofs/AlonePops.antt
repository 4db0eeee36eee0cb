-- A key that a worker has found is there when it removes it, if the worker runs alone.
use Rattle.std.proofs.Common.{◌≡◌, ◌∙◌, ℕ, zero, suc, ◌+◌, ◌<◌, ◌≤◌, inl, inr, ◌==◌, Bool, true, false, cond, ◌&&◌, ◌||◌, List, [], ◌∷◌, ◌++◌, append-nil, append_assoc, length, length-append, refl, sym, ap, subst, arith, true≢false}
use Rattle.std.specs.Prelude.{All, filter, Option, Some, None, Result, Ok, Err}
use Rattle.std.specs.List.{list_any}
use Rattle.std.proofs.lemmas.Bool.{eq-eqb, eqb-true, eqb-false, or_parts}
use Rattle.std.proofs.lemmas.List.{append_cancel_left}
use Rattle.std.proofs.lemmas.List.Elements.{filter-append}
use Rattle.nm_edge.specs.Keys.{IsKey}
use Rattle.nm_edge.specs.Layouts.{Layout, IsLayout}
use Rattle.nm_edge.specs.declared.node.NodeId.{NodeId}
use Rattle.nm_model.specs.Acts.{InSet}
use Rattle.nm_model.specs.Headline.{confirms, departs}
use Rattle.nm_model.specs.Ordered.{Configuration, HasKey, ordered, next_in, outcome_in, after_in, trace_in}
use Rattle.nm_model.specs.Walks.{Entry, logged_by}
use Rattle.nm_model.specs.declared.event.Event.{Event}
use Rattle.nm_model.specs.declared.event.Event.TheVariants.{Flag}
use Rattle.nm_model.specs.declared.event.Op.TheVariants.{Delete}
use Rattle.nm_model.specs.declared.reply.Refused.{Refused}
use Rattle.nm_model.specs.declared.reply.Reply.{Reply}
use Rattle.nm_model.specs.declared.reply.Reply.TheVariants.{Flagged}
use Rattle.nm_model.specs.declared.trace.Turn.{Turn}
use Rattle.nm_order.specs.Exchanges.{is_won_link}
use Rattle.nm_order.specs.Logs.{is_leaver, part_of}
use Rattle.nm_order.specs.Totals.{Agree, how_often, is_for, is_so, call_of, links_of, flags_of}
use Rattle.nm_order.specs.WalksToArrivals.{is_won_flag}
use Rattle.nm_order.proofs.AnswersSince.{part-append}
use Rattle.nm_order.proofs.RunExchanges.{first_keys}
use Rattle.nm_order.proofs.TotalsOfRuns.{each_total_is_the_set}
use Rattle.nm_order.proofs.WalksOfRuns.{all_before, trace_in-append}
use Rattle.nm_theorem.proofs.Runs.{Parts, parts_of, enough_of}
use Rattle.nm_steps.specs.Steps.{PassView, IsSamePass, HasSeen, HasSeenAllOf}
use Rattle.nm_steps.proofs.Seeing.{same_then, seen_through}
use Rattle.nm_calls.specs.Moments.{AnswerHasMoment}
use Rattle.nm_calls.specs.PlainWalks.{WasSo}
use Rattle.nm_calls.specs.Won.{HasWon}
use Rattle.nm_progress.specs.Alone.{RunsAlone}
use Rattle.nm_progress.specs.Moves.{number_of}
use Rattle.nm_progress.specs.Pending.{NonePends, leaf_after, leaf_by}
use Rattle.nm_progress.proofs.PendingTurns.{nothing_is_pending}
use Rattle.nm_progress.proofs.RunningAlone.{leaf-append, leaf_stays}
use Rattle.nm_progress.proofs.SplitTurns.{number-append}
use Rattle.nm_tree.specs.declared.popping.End.{End}
use Rattle.nm_tree.specs.Popping.{LosesRounds}
use Rattle.nm_tree.specs.Workers.{WorkerView}
use Rattle.nm_tree.proofs.FoundThenGone.{begins, was_gone, was_there}
use Rattle.nm_tree.proofs.Taking.{found_by, have_gone, key_found, no_shorter, was_so_since}

-- ---- entries and turns of a kind

abbrev such_in : (Entry → Bool) → List Turn → ℕ
such_in is_such turns = number_of (λ t. is_so is_such t.event t.outcome) turns

-- a list of which no element passes
filter_none : (p : Entry → Bool) (xs : List Entry) → length (filter p xs) ≡ 0 → list_any p xs ≡ false
filter_none p [] none = refl
filter_none p (x ∷ xs) none = go (p x) refl (filter_none p xs)
  where
    no : (n : ℕ) → suc n ≡ 0 → ⊥
    no n h = omega (arith, h)

    go : (b : Bool) → p x ≡ b → (length (filter p xs) ≡ 0 → list_any p xs ≡ false) → (p x || list_any p xs) ≡ false
    go true is rest = absurd (let P : Bool → Type 0 = λ b. length (cond b (x ∷ filter p xs) (filter p xs)) ≡ 0 in
        no (length (filter p xs)) (subst P is none))
    go false is rest = ap (λ (b : Bool). b || list_any p xs) is
        ∙ rest (let P : Bool → Type 0 = λ b. length (cond b (x ∷ filter p xs) (filter p xs)) ≡ 0 in subst P is none)

none_of_kind : (is_such : Entry → Bool) (w : ℕ) (turns : List Turn) → All (λ t. t.worker ≡ w) turns
    → list_any is_such (part_of w turns) ≡ false → such_in is_such turns ≡ 0
none_of_kind is_such w [] own none = refl
none_of_kind is_such w (t ∷ ts) own none = go t.outcome none
    (none_of_kind is_such w ts (λ i d below. own (suc i) d (omega (arith, below))))
  where
    mine : ((t.worker == w) || is_leaver w t.event) ≡ true
    mine = ap (λ (b : Bool). b || is_leaver w t.event) (eq-eqb t.worker w (own 0 t (omega arith)))

    go : (o : Result Reply Refused) → list_any is_such
        (cond ((t.worker == w) || is_leaver w t.event)
        (logged_by (record { worker = t.worker; event = t.event; outcome = o })) [] ++ part_of w ts) ≡ false
        → (list_any is_such (part_of w ts) ≡ false → such_in is_such ts ≡ 0)
        → cond (is_so is_such t.event o) 1 0 + such_in is_such ts ≡ 0
    go (Ok r) none rest =
        let here = ap (λ (b : Bool). list_any is_such (cond b ((t.event, r) ∷ []) [] ++ part_of w ts)) (sym mine)
        ∙ none in
        let parts = or_parts (is_such (t.event, r)) (list_any is_such (part_of w ts)) here in
        let zero_is = ap (λ (b : Bool). cond {A = ℕ} b 1 0) parts.0 in
        let same = rest parts.1 in
        omega (arith, same, zero_is)
    go (Err x) none rest =
        let here = ap (λ (b : Bool). list_any is_such (cond b [] [] ++ part_of w ts)) (sym mine) ∙ none in
        let same = rest here in
        omega (arith, same)

-- what no turn of a part is, none counts
none_counted : (is_such : Entry → Bool) (k : ℕ) (ts : List (ℕ × Event)) (c : Configuration)
    → such_in is_such (trace_in c ts) ≡ 0 → how_often is_such k c ts ≡ 0
unfolding how_often trace_in
none_counted is_such k [] c none = refl
none_counted is_such k (t ∷ ts) c none = go (is_so is_such t.1 (outcome_in c t)) (is_for k (call_of c t.0)) none
    (none_counted is_such k ts (next_in c t))
  where
    go : (b d : Bool) → cond b 1 0 + such_in is_such (trace_in (next_in c t) ts) ≡ 0
        → (such_in is_such (trace_in (next_in c t) ts) ≡ 0 → how_often is_such k (next_in c t) ts ≡ 0)
        → cond (b && d) 1 0 + how_often is_such k (next_in c t) ts ≡ 0
    go true d none rest = absurd (omega (arith, none))
    go false d none rest = let same = rest (omega (arith, none)) in omega (arith, same)

often-append : (is_such : Entry → Bool) (k : ℕ) (xs ys : List (ℕ × Event)) (c : Configuration)
    → how_often is_such k c (xs ++ ys) ≡ how_often is_such k c xs + how_often is_such k (after_in c xs) ys
unfolding how_often after_in
often-append is_such k [] ys c = omega arith
often-append is_such k (x ∷ xs) ys c = let rest = often-append is_such k xs ys (next_in c x) in omega (arith, rest)

-- ---- no flag is won, so none is pending

leaf_none : (e : Event) (o : Result Reply Refused) → is_so is_won_flag e o ≡ false → leaf_by None e o ≡ None
leaf_none (Flag p side s) (Ok (Flagged n)) is = absurd (true≢false is)
leaf_none e o is = same (confirms e o || departs e o)
  where
    same : (b : Bool) → cond {A = Option NodeId} b None None ≡ None
    same true = refl
    same false = refl

still_none : (w : ℕ) (turns : List Turn) → such_in is_won_flag turns ≡ 0 → leaf_after w None turns ≡ None
still_none w [] none = refl
still_none w (t ∷ ts) none = ap (λ (o : Option NodeId). leaf_after w o ts) (by (t.worker == w))
    ∙ still_none w ts (parts (is_so is_won_flag t.event t.outcome) none).1
  where
    parts : (b : Bool) → cond b 1 0 + such_in is_won_flag ts ≡ 0 → (b ≡ false) × (such_in is_won_flag ts ≡ 0)
    parts true none = absurd (omega (arith, none))
    parts false none = (refl, omega (arith, none))

    by : (b : Bool) → cond {A = Option NodeId} b (leaf_by None t.event t.outcome) None ≡ None
    by true = leaf_none t.event t.outcome (parts (is_so is_won_flag t.event t.outcome) none).0
    by false = refl

-- ---- a worker alone, from p to z

module _ (p z : PassView) (seen : HasSeen z.view) (fits : IsLayout z.view.layout) (same : IsSamePass p z)
    (runs : RunsAlone p z) (rests : leaf_after p.view.number None p.view.past ≡ None)
    (part_p : part_of p.view.number p.view.past ≡ p.view.log) (won : HasWon p.view.log z.view.log 0 0) where
  abbrev L : Layout
  L = z.view.layout

  abbrev all : List (ℕ × Event)
  all = seen.events

  abbrev more : List Turn
  more = runs.alone.turns

  enough : 5 ≤ z.view.layout.nodes
  enough = enough_of L fits

  number : z.view.number ≡ p.view.number
  number = ap (λ (s : PassView). s.view.number) same

  layout : z.view.layout ≡ p.view.layout
  layout = ap (λ (s : PassView). s.view.layout) same

  -- what the worker added to its log
  added : z.view.log ≡ p.view.log ++ part_of p.view.number runs.alone.turns
  added = sym (subst (λ (w : ℕ). part_of w z.view.past ≡ z.view.log) number seen.is_part)
      ∙ (ap (part_of p.view.number) runs.alone.is ∙ (part-append p.view.number p.view.past runs.alone.turns
      ∙ ap (λ (l : List Entry). l ++ part_of p.view.number runs.alone.turns) part_p))

  unwon : (is_such : Entry → Bool) → length (filter is_such z.view.log) ≡ length (filter is_such p.view.log) + 0
      → such_in is_such runs.alone.turns ≡ 0
  unwon is_such equal = none_of_kind is_such p.view.number runs.alone.turns runs.alone.own
      (filter_none is_such (part_of p.view.number runs.alone.turns) none)
    where
      none : length (filter is_such (part_of p.view.number runs.alone.turns)) ≡ 0
      none =
          let sum = ap (λ (l : List Entry). length (filter is_such l)) added
          ∙ (ap (λ (l : List Entry). length l) (filter-append is_such p.view.log
          (part_of p.view.number runs.alone.turns)) ∙ length-append (filter is_such p.view.log)
          (filter is_such (part_of p.view.number runs.alone.turns))) in
          omega (arith, sum, equal)

  parts : Parts (ordered z.view.layout) seen.events p.view.past runs.alone.turns
  parts = parts_of (ordered L) seen.events p.view.past runs.alone.turns (sym seen.are ∙ runs.alone.is)

  -- a moment of that time
  module _ (xs rest : List (ℕ × Event)) (is : all ≡ xs ++ rest) (later : length p.view.past ≤ length xs) where
    beginning : (mid : List (ℕ × Event)) × (xs ≡ parts.early ++ mid)
    beginning = begins parts.early xs parts.late rest (sym parts.all ∙ is)
        (let size = parts.size in omega (arith, size, later))

    abbrev mid : List (ℕ × Event)
    mid = beginning.0

    keyed : All (λ t. HasKey t.1) xs
    keyed = first_keys xs rest (subst (λ (us : List (ℕ × Event)). All (λ t. HasKey t.1) us) is seen.keys)

    late : parts.late ≡ beginning.0 ++ rest
    late = append_cancel_left parts.early _ _ (sym parts.all
        ∙ (is ∙ (ap (λ (us : List (ℕ × Event)). us ++ rest) beginning.1 ∙ append_assoc parts.early beginning.0 rest)))

    -- its turns are the first of that time
    turns : runs.alone.turns ≡ trace_in (after_in (ordered z.view.layout) parts.early) beginning.0
        ++ trace_in (after_in (after_in (ordered z.view.layout) parts.early) beginning.0) rest
    turns = parts.rest_is ∙ (ap (trace_in (after_in (ordered L) parts.early)) late
        ∙ trace_in-append (after_in (ordered L) parts.early) beginning.0 rest)

    unwon_then : (is_such : Entry → Bool) → such_in is_such runs.alone.turns ≡ 0
        → such_in is_such (trace_in (after_in (ordered z.view.layout) parts.early) beginning.0) ≡ 0
    unwon_then is_such none =
        let sum = ap (such_in is_such) turns ∙ number-append (λ t. is_so is_such t.event t.outcome)
        (trace_in (after_in (ordered L) parts.early) beginning.0)
        (trace_in (after_in (after_in (ordered L) parts.early) beginning.0) rest) in
        omega (arith, sum, none)

    often : (is_such : Entry → Bool) (k : ℕ) → such_in is_such runs.alone.turns ≡ 0
        → how_often is_such k (ordered z.view.layout) xs ≡ how_often is_such k (ordered z.view.layout) parts.early
    often is_such k none =
        let whole = ap (how_often is_such k (ordered L)) beginning.1
        ∙ often-append is_such k parts.early beginning.0 (ordered L) in
        let zero_is = none_counted is_such k beginning.0 (after_in (ordered L) parts.early) (unwon_then is_such none) in
        omega (arith, whole, zero_is)

    -- nothing is pending then
    told : trace_in (ordered z.view.layout) xs ≡ p.view.past
        ++ trace_in (after_in (ordered z.view.layout) parts.early) beginning.0
    told = ap (trace_in (ordered L)) beginning.1 ∙ (trace_in-append (ordered L) parts.early beginning.0
        ∙ ap (λ (ts : List Turn). ts ++ trace_in (after_in (ordered L) parts.early) beginning.0) (sym parts.first_is))

    none_pends : such_in is_won_flag runs.alone.turns ≡ 0
        → NonePends z.view.layout (trace_in (ordered z.view.layout) xs)
    none_pends none u here = ap (leaf_after u None) told
        ∙ (leaf-append u None p.view.past (trace_in (after_in (ordered L) parts.early) beginning.0)
        ∙ by (u == p.view.number) refl)
      where
        own : All (λ t. t.worker ≡ p.view.number) (trace_in (after_in (ordered z.view.layout) parts.early) beginning.0)
        own = all_before (λ (t : Turn). t.worker ≡ p.view.number)
            (trace_in (after_in (ordered L) parts.early) beginning.0)
            (trace_in (after_in (after_in (ordered L) parts.early) beginning.0) rest)
            (subst (λ (ts : List Turn). All (λ t. t.worker ≡ p.view.number) ts) turns runs.alone.own)

        by : (b : Bool) → (u == p.view.number) ≡ b → leaf_after u (leaf_after u None p.view.past)
            (trace_in (after_in (ordered z.view.layout) parts.early) beginning.0) ≡ None
        by true at =
            let first = subst (λ (v : ℕ). leaf_after v None p.view.past ≡ None) (sym (eqb-true u p.view.number at))
            rests in
            ap (λ (o : Option NodeId). leaf_after u o (trace_in (after_in (ordered L) parts.early) beginning.0))
            first ∙ still_none u (trace_in (after_in (ordered L) parts.early) beginning.0)
            (unwon_then is_won_flag none)
        by false at =
            let apart = eqb-false u p.view.number at in
            leaf_stays u p.view.number (leaf_after u None p.view.past)
            (trace_in (after_in (ordered L) parts.early) beginning.0) apart own
            ∙ runs.rests u (subst (λ (M : Layout). u < M.workers) layout here) apart

    agrees : (k : ℕ) → IsKey k → Agree (links_of k z.view.layout parts.early) (flags_of k z.view.layout parts.early)
        (InSet (after_in (ordered z.view.layout) xs).state.memory k)
    agrees k key =
        let flags = unwon is_won_flag won.flags in
        let P : ℕ → ℕ → Type 0 = λ l f. Agree l f (InSet (after_in (ordered L) xs).state.memory k) in
        subst (λ (l : ℕ). P l (flags_of k L parts.early)) (often is_won_link k (unwon is_won_link won.links))
        (subst (P (links_of k L xs)) (often is_won_flag k flags)
        (each_total_is_the_set L enough xs keyed (nothing_is_pending L enough xs keyed (none_pends flags)) k key))

  -- so a key that is there at one moment is there at another
  stays : (xs xs' ys ys' : List (ℕ × Event)) → all ≡ xs ++ xs' → all ≡ ys ++ ys' → length p.view.past ≤ length xs
      → length p.view.past ≤ length ys → (k : ℕ) → IsKey k
      → InSet (after_in (ordered z.view.layout) xs).state.memory k
      → (InSet (after_in (ordered z.view.layout) ys).state.memory k → ⊥) → ⊥
  stays xs xs' ys ys' is_xs is_ys late_xs late_ys k key there gone = by (agrees xs xs' is_xs late_xs k key)
      (agrees ys ys' is_ys late_ys k key)
    where
      by : Agree (links_of k z.view.layout parts.early) (flags_of k z.view.layout parts.early)
          (InSet (after_in (ordered z.view.layout) xs).state.memory k)
          → Agree (links_of k z.view.layout parts.early) (flags_of k z.view.layout parts.early)
          (InSet (after_in (ordered z.view.layout) ys).state.memory k) → ⊥
      by (inr a) b = a.1 there
      by (inl a) (inl b) = gone b.1
      by (inl a) (inr b) = let one = a.0 in let two = b.0 in omega (arith, one, two)

  -- a call that found it, until q, and then a delete of it
  pub found_is_there : (q : PassView) → IsSamePass p q → HasSeenAllOf q p → HasSeenAllOf z q → (k : ℕ) → IsKey k
      → WasSo p q k true → AnswerHasMoment q z Delete k false → ⊥
  found_is_there q same_q first last k key was answer =
      let layout_q : q.view.layout ≡ L = ap (λ (s : PassView). s.view.layout) same_q ∙ sym layout in
      let there = was_there L fits seen.events p q k layout_q (last.goes_on.more) (sym seen.are ∙ last.goes_on.is)
      was in
      let gone = was_gone L fits seen.events seen.keys q.view.past z.view.past z.view.number []
      (sym seen.are ∙ sym (append-nil z.view.past)) k answer in
      let size = there.size in
      let after = was.later in
      let far = gone.late in
      let short = no_shorter q.view.past p.view.past first.goes_on in
      stays there.early there.rest gone.before gone.rest there.all gone.all (omega (arith, size, after))
      (omega (arith, far, short)) k key there.is gone.is

-- ---- the rounds of a pop

-- a worker that runs alone loses no round of a pop
pub loses_none_alone : (end : End) (L : Layout) (tries n : ℕ) (w z : WorkerView) → HasSeen w.pass.view
    → HasSeen z.pass.view → IsLayout z.pass.view.layout → leaf_after w.pass.view.number None w.pass.view.past ≡ None
    → w.pending ≡ None → w.held ≡ None
    → LosesRounds end L tries n w z → RunsAlone w.pass z.pass → n ≡ 0
loses_none_alone end L tries zero w z seen seen_z fits rests none free lost runs = refl
loses_none_alone end L tries (suc n) w z seen seen_z fits rests none free (x, y, key, before, found, did) runs =
    let l = found_by end L tries x y (Ok (Some key)) found in
    let first = (have_gone end L tries n w x none free before).on in
    let whole = (have_gone end L tries (suc n) w z none free (x, y, key, before, found, did)).on in
    let was = key_found end x.pass y.pass key l.moment in
    absurd (found_is_there w.pass z.pass seen_z fits whole.same runs rests seen.is_part whole.won y.pass
    (same_then w.pass x.pass y.pass first.same l.same) (seen_through w.pass x.pass y.pass first.past l.past)
    did.says.past key was.is_key (was_so_since w.pass x.pass y.pass key true first.past was.was) did.says.moment)
