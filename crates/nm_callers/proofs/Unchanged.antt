-- Turns of one worker that wins no link and no splice: the set stays as it is.
use Rattle.std.proofs.Common.{◌≡◌, inl, inr, ℕ, suc, ◌+◌, ◌<◌, ◌≤◌, ◌||◌, Bool, true, false, cond, List, [], ◌∷◌, ◌++◌, append_assoc, length, refl, sym, ap, subst, ◌∙◌, arith, true≢false}
use Rattle.std.specs.Prelude.{filter, Result, Ok, Err, All, ◌↔◌}
use Rattle.std.proofs.lemmas.Bool.{eq-eqb}
use Rattle.std.proofs.lemmas.List.{append_cancel_left, length-append}
use Rattle.std.proofs.lemmas.List.Elements.{filter-append}
use Rattle.nm_edge.specs.Layouts.{Layout, IsLayout}
use Rattle.nm_edge.specs.declared.node.NodeId.{NodeId}
use Rattle.nm_model.specs.declared.event.Event.{Event}
use Rattle.nm_model.specs.declared.reply.Reply.{Reply}
use Rattle.nm_model.specs.declared.reply.Reply.TheVariants.{Cut}
use Rattle.nm_model.specs.declared.reply.Refused.{Refused}
use Rattle.nm_model.specs.declared.trace.Turn.{Turn}
use Rattle.nm_model.specs.Acts.{InSet}
use Rattle.nm_model.specs.Headline.{words_after}
use Rattle.nm_model.specs.Memory.{Memory}
use Rattle.nm_model.specs.Ordered.{Configuration, HasKey, ordered, next_in, outcome_in, after_in, trace_in}
use Rattle.nm_model.specs.Walks.{Entry, logged_by}
use Rattle.nm_laws.proofs.Configurations.{after_in-append}
use Rattle.nm_laws.proofs.Outcomes.{no_reply, same_reply}
use Rattle.nm_order.specs.Exchanges.{is_won_link}
use Rattle.nm_order.specs.Logs.{is_leaver, part_of, takes_part}
use Rattle.nm_order.proofs.AnswersSince.{part-append}
use Rattle.nm_laws.proofs.Stays.{IsSplice}
use Rattle.nm_order.proofs.OrderedLaws.{IsOrdered, each_ordered, ordered_next}
use Rattle.nm_order.proofs.SetChanges.{set_stays}
use Rattle.nm_order.proofs.WalksOfRuns.{all_before, all_behind, trace_in-append}
use Rattle.nm_theorem.proofs.Runs.{Parts, enough_of, parts_of}
use Rattle.nm_theorem.proofs.WrittenWords.{run_words}
use Rattle.nm_steps.specs.Steps.{PassView, HasSeen, IsSamePass}
use Rattle.nm_walks.specs.WonCounts.{is_won_splice, won_links, won_splices}
use Rattle.nm_progress.specs.Alone.{IsAlone}
use Rattle.nm_tree.proofs.FoundThenGone.{begins, uncut_or_same}
use Rattle.nm_callers.specs.Taking.{StaysThroughout}

-- ---- one turn

-- its own entry, and those of what follows
own_turn : (test : Entry → Bool) (w u : ℕ) (e : Event) (o : Result Reply Refused) (rest : List Entry) → u ≡ w
    → length (filter test (cond (takes_part w u e) (logged_by (record { worker = u; event = e; outcome = o })) []
    ++ rest)) ≡ 0
    → ((q : Reply) → o ≡ Ok q → test (e, q) ≡ false) × (length (filter test rest) ≡ 0)
own_turn test w u e (Ok r) rest own none = go (test (e, r)) refl
    (ap (λ (b : Bool). length (filter test (cond b ((e, r) ∷ []) [] ++ rest)))
    (sym (ap (λ (b : Bool). b || is_leaver w e) (eq-eqb u w own))) ∙ none)
  where
    go : (b : Bool) → test (e, r) ≡ b → length (filter test ((e, r) ∷ rest)) ≡ 0
        → ((q : Reply) → ◌≡◌ {A = Result Reply Refused} (Ok r) (Ok q) → test (e, q) ≡ false)
        × (length (filter test rest) ≡ 0)
    go true is none' =
        let one = ap (λ (b : Bool). length (cond b ((e, r) ∷ filter test rest) (filter test rest))) is in
        absurd (omega (arith, one, none'))
    go false is none' = (
      λ q same. subst (λ (x : Reply). test (e, x) ≡ false) (same_reply r q same) is,
      ap
          (λ (b : Bool). length (cond b ((e, r) ∷ filter test rest) (filter test rest))) (sym is) ∙ none',
    )
own_turn test w u e (Err x) rest own none = (λ q no. absurd (no_reply x q no), go (takes_part w u e) none)
  where
    go : (b : Bool) → length (filter test (cond b [] [] ++ rest)) ≡ 0 → length (filter test rest) ≡ 0
    go true none' = none'
    go false none' = none'

-- ---- many

module _ (L : Layout) (enough : 5 ≤ L.nodes) (w : ℕ) where
  -- a turn that is no won link and no won splice leaves the set as it is
  same_set : (c : Configuration) (t : ℕ × Event) → HasKey t.1 → IsOrdered L c
      → ((q : Reply) → outcome_in c t ≡ Ok q → is_won_link (t.1, q) ≡ false)
      → ((q : Reply) → outcome_in c t ≡ Ok q → is_won_splice (t.1, q) ≡ false) → (k : ℕ)
      → InSet (next_in c t).state.memory k ↔ InSet c.state.memory k
  same_set c t has o link none k = elim (uncut_or_same L enough c t o unspliced) [
    | inl uncut ↦ set_stays L enough c t has o link uncut k
    | inr same ↦ same k
  ]
    where
      unspliced : (ns : List NodeId) → outcome_in c t ≡ Ok (Cut ns) → IsSplice t.1 → ⊥
      unspliced ns is (a, side, x, p, keep, splice) =
          true≢false (ap (λ (e : Event). is_won_splice (e, Cut ns)) (sym splice) ∙ none (Cut ns) is)

  own_turns : (ts : List (ℕ × Event)) → All (λ t. HasKey t.1) ts → (c : Configuration) → IsOrdered L c
      → All (λ t. t.worker ≡ w) (trace_in c ts)
      → length (filter is_won_link (part_of w (trace_in c ts))) ≡ 0
      → length (filter is_won_splice (part_of w (trace_in c ts))) ≡ 0
      → (k : ℕ) → InSet (after_in c ts).state.memory k ↔ InSet c.state.memory k
  unfolding after_in trace_in
  own_turns [] keys c o own links splices k = (λ s. s, λ s. s)
  own_turns (t ∷ ts) keys c o own links splices k =
      let first = own 0 (record { worker = t.0; event = t.1; outcome = outcome_in c t }) (omega arith) in
      let link = own_turn is_won_link w t.0 t.1 (outcome_in c t) (part_of w (trace_in (next_in c t) ts)) first links in
      let splice = own_turn is_won_splice w t.0 t.1 (outcome_in c t) (part_of w (trace_in (next_in c t) ts)) first
      splices in
      let one = same_set c t (keys 0 t (omega arith)) o link.0 splice.0 k in
      let rest = own_turns ts (λ i d below. keys (suc i) d (omega (arith, below))) (next_in c t)
      (ordered_next L enough c t (keys 0 t (omega arith)) o)
      (λ i d below. own (suc i) d (omega (arith, below))) link.1 splice.1 k in
      (λ s. one.0 (rest.0 s), λ s. rest.1 (one.1 s))

-- ---- by the words

-- a part of a log that has none has none in its beginning
none_first : (test : Entry → Bool) (xs ys : List Entry) → length (filter test (xs ++ ys)) ≡ 0
    → length (filter test xs) ≡ 0
none_first test xs ys none =
    let both = ap (λ (es : List Entry). length es) (filter-append test xs ys)
    ∙ length-append (filter test xs) (filter test ys) in omega (arith, both, none)

pub set_unchanged : (L : Layout) → IsLayout L → (w : ℕ) (events : List (ℕ × Event)) → All (λ t. HasKey t.1) events
    → (was mid rest : List Turn) → trace_in (ordered L) events ≡ was ++ (mid ++ rest)
    → All (λ t. t.worker ≡ w) (mid ++ rest) → length (filter is_won_link (part_of w (mid ++ rest))) ≡ 0
    → length (filter is_won_splice (part_of w (mid ++ rest))) ≡ 0
    → (k : ℕ) → InSet (words_after L (was ++ mid)) k ↔ InSet (words_after L was) k
set_unchanged L fits w events keys was mid rest are own links splices k = by
    (parts_of (ordered L) events was (mid ++ rest) are)
  where
    enough : 5 ≤ L.nodes
    enough = enough_of L fits

    none : (test : Entry → Bool) → length (filter test (part_of w (mid ++ rest))) ≡ 0
        → length (filter test (part_of w mid)) ≡ 0
    none test all = none_first test (part_of w mid) (part_of w rest)
        (ap (λ (es : List Entry). length (filter test es)) (sym (part-append w mid rest)) ∙ all)

    by : Parts (ordered L) events was (mid ++ rest) → InSet (words_after L (was ++ mid)) k ↔ InSet (words_after L was) k
    by p = on (parts_of (after_in (ordered L) p.early) p.late mid rest (sym p.rest_is))
      where
        split : All (λ t. HasKey t.1) (p.early ++ p.late)
        split = subst (λ (ts : List (ℕ × Event)). All (λ t. HasKey t.1) ts) p.all keys

        on : Parts (after_in (ordered L) p.early) p.late mid rest
            → InSet (words_after L (was ++ mid)) k ↔ InSet (words_after L was) k
        on q =
            let so = own_turns L enough w q.early (all_before (λ t. HasKey t.1) q.early q.late
            (subst (λ (ts : List (ℕ × Event)). All (λ t. HasKey t.1) ts) q.all
            (all_behind (λ t. HasKey t.1) p.early p.late split)))
            (after_in (ordered L) p.early) (each_ordered L enough p.early
            (all_before (λ t. HasKey t.1) p.early p.late split))
            (subst (λ (ts : List Turn). All (λ t. t.worker ≡ w) ts) q.first_is
            (all_before (λ t. t.worker ≡ w) mid rest own))
            (subst (λ (ts : List Turn). length (filter is_won_link (part_of w ts)) ≡ 0) q.first_is
            (none is_won_link links))
            (subst (λ (ts : List Turn). length (filter is_won_splice (part_of w ts)) ≡ 0) q.first_is
            (none is_won_splice splices)) k in (
              λ s. subst (λ (m : Memory). InSet m k) (sym was_is) (so.0 (subst (λ (m : Memory). InSet m k) now_is s)),
              λ s. subst (λ (m : Memory). InSet m k) (sym now_is) (so.1 (subst (λ (m : Memory). InSet m k) was_is s)),
            )
          where
            was_is : words_after L was ≡ (after_in (ordered L) p.early).state.memory
            was_is = ap (words_after L) p.first_is ∙ run_words L fits true p.early

            now_is : words_after L (was ++ mid) ≡ (after_in (after_in (ordered L) p.early) q.early).state.memory
            now_is = ap (words_after L) ((λ i. p.first_is i ++ q.first_is i)
                ∙ sym (trace_in-append (ordered L) p.early q.early))
                ∙ (run_words L fits true (p.early ++ q.early)
                ∙ ap (λ (c : Configuration). c.state.memory) (after_in-append (ordered L) p.early q.early))

-- ---- a worker that runs alone from w to z

module _ (w z : PassView) (seen : HasSeen w.view) (seen' : HasSeen z.view) (fits : IsLayout z.view.layout)
    (same : IsSamePass w z) (links : won_links z.view.log ≡ won_links w.view.log)
    (splices : won_splices z.view.log ≡ won_splices w.view.log) (alone : IsAlone w z) where
  number : z.view.number ≡ w.view.number
  number = ap (λ (s : PassView). s.view.number) same

  -- what it adds to its log is its part of its turns
  added : z.view.log ≡ w.view.log ++ part_of z.view.number alone.turns
  added = sym seen'.is_part ∙ (ap (part_of z.view.number) alone.is ∙ (part-append z.view.number w.view.past alone.turns
      ∙ ap (λ (log : List Entry). log ++ part_of z.view.number alone.turns)
      (ap (λ (n : ℕ). part_of n w.view.past) number ∙ seen.is_part)))

  wins_none : (test : Entry → Bool) → length (filter test z.view.log) ≡ length (filter test w.view.log)
      → length (filter test (part_of z.view.number alone.turns)) ≡ 0
  wins_none test none =
      let all = ap (λ (log : List Entry). length (filter test log)) added in
      let both = ap (λ (es : List Entry). length es)
      (filter-append test w.view.log (part_of z.view.number alone.turns))
      ∙ length-append (filter test w.view.log) (filter test (part_of z.view.number alone.turns)) in
      omega (arith, none, all, both)

  as_before : (k : ℕ) (early rest : List Turn) → z.view.past ≡ early ++ rest → length w.view.past < length early
      → InSet (words_after z.view.layout early) k ↔ InSet (words_after z.view.layout w.view.past) k
  as_before k early rest are less = by (begins w.view.past early alone.turns rest (sym alone.is ∙ are)
      (omega (arith, less)))
    where
      by : (mid : List Turn) × (early ≡ w.view.past ++ mid)
          → InSet (words_after z.view.layout early) k ↔ InSet (words_after z.view.layout w.view.past) k
      by (mid, is) = subst (λ (ts : List Turn). InSet (words_after z.view.layout ts) k
          ↔ InSet (words_after z.view.layout w.view.past) k) (sym is)
          (set_unchanged z.view.layout fits z.view.number seen'.events seen'.keys w.view.past mid rest
          (sym seen'.are ∙ (alone.is ∙ ap (λ (ts : List Turn). w.view.past ++ ts) turns))
          (subst (λ (ts : List Turn). All (λ t. t.worker ≡ z.view.number) ts) turns
          (subst (λ (n : ℕ). All (λ t. t.worker ≡ n) alone.turns) (sym number) alone.own))
          (ap (λ (ts : List Turn). length (filter is_won_link (part_of z.view.number ts))) (sym turns)
          ∙ wins_none is_won_link links)
          (ap (λ (ts : List Turn). length (filter is_won_splice (part_of z.view.number ts))) (sym turns)
          ∙ wins_none is_won_splice splices) k)
        where
          turns : alone.turns ≡ mid ++ rest
          turns = append_cancel_left w.view.past alone.turns (mid ++ rest)
              (sym alone.is ∙ (are ∙ (ap (λ (ts : List Turn). ts ++ rest) is ∙ append_assoc w.view.past mid rest)))

  pub stays_alone : (k : ℕ) → StaysThroughout z.view.layout w.view.past z.view.past k
  stays_alone k early late rest others are are' less less' s = (as_before k late others are' less').1
      ((as_before k early rest are less).0 s)
