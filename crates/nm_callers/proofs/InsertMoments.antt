-- The moment of an insert that was answered true is that of its link: so it lies in what a reader has
-- seen that has heard of all that the inserter had done.
use Rattle.std.proofs.Common.{◌≡◌, ◌⊎◌, inl, inr, ℕ, ◌+◌, ◌<◌, ◌≤◌, Bool, true, false, cond, List, [], ◌∷◌, ◌++◌, append_assoc, length, length-append, refl, sym, ap, subst, ◌∙◌, arith, eq-eqb}
use Rattle.std.specs.Prelude.{All, AllPairs, Some, None, Result, Ok, slice_index_or}
use Rattle.std.specs.List.{list_any}
use Rattle.std.proofs.lemmas.Bool.{cases_lt}
use Rattle.nm_edge.specs.Layouts.{Layout, IsLayout}
use Rattle.nm_laws.proofs.Configurations.{after_in-append}
use Rattle.nm_laws.proofs.ListOrders.{In}
use Rattle.nm_model.specs.declared.event.Op.TheVariants.{Insert}
use Rattle.nm_model.specs.declared.event.Event.{Event}
use Rattle.nm_model.specs.declared.event.Event.TheVariants.{LeaveWith, Link}
use Rattle.nm_model.specs.declared.reply.Reply.{Reply}
use Rattle.nm_model.specs.declared.reply.Reply.TheVariants.{Linked}
use Rattle.nm_model.specs.declared.reply.Refused.{Refused}
use Rattle.nm_model.specs.declared.trace.Turn.{Turn}
use Rattle.nm_model.specs.Walks.{begins_anew, logged_by}
use Rattle.nm_model.specs.Ordered.{Configuration, HasKey, ordered, next_in, after_in, trace_in}
use Rattle.nm_order.specs.Exchanges.{HasWonInsert, is_won_link}
use Rattle.nm_model.specs.Acts.{Act, IsAmong}
use Rattle.nm_order.specs.History.{pin_of}
use Rattle.nm_order.specs.Logs.{part_of}
use Rattle.nm_order.specs.Moments.{PinStands}
use Rattle.nm_order.proofs.PinNumbers.{pin_more, pin_stays, length_trace}
use Rattle.nm_order.proofs.RunExchanges.{first_keys}
use Rattle.nm_order.proofs.RunMoments.{entries}
use Rattle.nm_order.proofs.WalksOfRuns.{trace_in-append}
use Rattle.nm_model.specs.Histories.{AnswerStands, Called, IsHistory, call_begun, called_in}
use Rattle.nm_theorem.proofs.HistoriesOfRuns.{called_is}
use Rattle.nm_theorem.proofs.Runs.{enough_of}
use Rattle.nm_steps.specs.Rules.{Extends}
use Rattle.nm_progress.specs.Pending.{leaf_after}
use Rattle.nm_tree.proofs.JoinsAlone.{told_in_part}
use Rattle.nm_tree.proofs.Taking.{no_shorter}
use Rattle.nm_set.specs.Posts.{HasHeardAll, HasWonNothing}
use Rattle.nm_set.proofs.Letters.{some_in}
use Rattle.nm_tree.proofs.AnswersInRuns.{AnsweredBy, answered_by, pinned_so}
use Rattle.nm_callers.proofs.TwoAnswers.{index_of}

-- an element behind some first ones, and within so many more
in_more : {X : Type 0} (before xs : List X) (x : X) (ys more later : List X)
    → xs ++ x ∷ ys ≡ before ++ (more ++ later) → length before ≤ length xs → length xs < length before + length more
    → In more x
in_more {X = X} [] [] x ys [] later e up low = absurd (omega (arith, low))
in_more {X = X} [] [] x ys (m ∷ more) later e up low = let head : x ≡ m = cc in inl head
in_more {X = X} [] (z ∷ xs) x ys [] later e up low = absurd (omega (arith, low))
in_more {X = X} [] (z ∷ xs) x ys (m ∷ more) later e up low = let tail : xs ++ x ∷ ys ≡ more ++ later = cc in
    inr (in_more [] xs x ys more later tail (omega arith) (omega (arith, low)))
in_more {X = X} (b ∷ before) [] x ys more later e up low = absurd (omega (arith, up))
in_more {X = X} (b ∷ before) (z ∷ xs) x ys more later e up low =
    let tail : xs ++ x ∷ ys ≡ before ++ (more ++ later) = cc in
    in_more before xs x ys more later tail (omega (arith, up)) (omega (arith, low))

-- of two acts of one call, which stand once each, one is the other
same_act : (acts : List Act) → AllPairs (λ (a b : Act). (a.worker ≡ b.worker) × (a.pin ≡ b.pin) → ⊥) acts
    → (a b : Act) → IsAmong acts a → IsAmong acts b → a.worker ≡ b.worker → a.pin ≡ b.pin → a ≡ b
same_act acts once a b there among own pin = by (cases_lt i.0 j.0) (cases_lt j.0 i.0)
  where
    i : (n : ℕ) × (n < length acts) × ((d : Act) → slice_index_or acts n d ≡ a)
    i = index_of acts a there

    j : (n : ℕ) × (n < length acts) × ((d : Act) → slice_index_or acts n d ≡ b)
    j = index_of acts b among

    apart : (m n : ℕ) (x y : Act) → (slice_index_or acts m x ≡ x) → (slice_index_or acts n x ≡ y) → m < n
        → n < length acts → x.worker ≡ y.worker → x.pin ≡ y.pin → ⊥
    apart m n x y at there' less below w p = once m n x less below (
      ap (λ (z : Act). z.worker) at ∙ (w ∙ sym (ap (λ (z : Act). z.worker) there')),
      ap (λ (z : Act). z.pin) at
          ∙ (p ∙ sym (ap (λ (z : Act). z.pin) there')),
    )

    by : (i.0 < j.0) ⊎ (j.0 ≤ i.0) → (j.0 < i.0) ⊎ (i.0 ≤ j.0) → a ≡ b
    by (inl less) c = absurd (apart i.0 j.0 a b (i.2 a) (j.2 a) less j.1 own pin)
    by (inr up) (inl less) = absurd (apart j.0 i.0 b a (j.2 b) (i.2 b) less i.1 (sym own) (sym pin))
    by (inr up) (inr low) =
        let same : i.0 ≡ j.0 = omega (arith, up, low) in
        sym (i.2 a) ∙ (ap (λ (n : ℕ). slice_index_or acts n a) same ∙ j.2 a)

module _ (L : Layout) (fits : IsLayout L) (events : List (ℕ × Event)) (keys : All (λ t. HasKey t.1) events)
    (was now later : List Turn) (goes_on : trace_in (ordered L) events ≡ now ++ later)
    (w k : ℕ) (s : AnswerStands L was now w Insert k true) where
  abbrev a : AnsweredBy L events was now w Insert k true
  a = answered_by L fits events keys was now later goes_on w Insert k true s

  abbrev ins : HasWonInsert L a.is.before w k
  ins = a.is.moment

  abbrev event : ℕ × Event
  event = (w, Link ins.parent ins.side ins.leaf ins.new)

  abbrev link : Turn
  link = record { worker = w; event = Link ins.parent ins.side ins.leaf ins.new; outcome = Ok (Linked ins.linked) }

  abbrev pub xs : List Turn
  xs = trace_in (ordered L) ins.before

  abbrev behind : List (ℕ × Event)
  behind = ins.since ++ (w, LeaveWith true) ∷ a.is.since

  abbrev ys : List Turn
  ys = trace_in (next_in (after_in (ordered L) ins.before) event) behind

  whole : events ≡ ins.before ++ event ∷ behind
  whole = a.is.is_run ∙ (ap (λ (us : List (ℕ × Event)). us ++ (w, LeaveWith true) ∷ a.is.since) ins.is_run
      ∙ append_assoc ins.before (event ∷ ins.since) ((w, LeaveWith true) ∷ a.is.since))

  split : trace_in (ordered L) events ≡ xs ++ link ∷ ys
  unfolding trace_in
  split = ap (trace_in (ordered L)) whole
      ∙ (trace_in-append (ordered L) ins.before (event ∷ behind)
      ∙ ap (λ (o : Result Reply Refused). xs ++ record { worker = w; event = event.1; outcome = o } ∷ ys) ins.won)

  keyed : All (λ t. HasKey t.1) ins.before
  keyed = first_keys ins.before (event ∷ behind) (subst (λ (us : List (ℕ × Event)). All (λ t. HasKey t.1) us) whole
      keys)

  -- the pin of the answer is that of the link
  not_anew : list_any begins_anew (entries w (after_in (ordered L) ins.before) event) ≡ false
  not_anew = λ i. list_any begins_anew (cond (eq-eqb w w refl i)
      (logged_by (record { worker = w; event = event.1; outcome = ins.won i })) [])

  pin_stood : pin_of L a.is.before w ≡ pin_of L ins.before w
  unfolding after_in
  pin_stood = ap (λ (us : List (ℕ × Event)). pin_of L us w)
      (ins.is_run ∙ sym (append_assoc ins.before (event ∷ []) ins.since))
      ∙ (pin_stays L (ins.before ++ event ∷ []) ins.since w
      (subst (λ (c : Configuration). PinStands w (trace_in c ins.since))
      (sym (after_in-append (ordered L) ins.before (event ∷ []))) ins.stands)
      ∙ (pin_more L ins.before event w ∙ ap (λ (b : Bool). cond b (length ins.before) (pin_of L ins.before w))
      not_anew))

  -- the act of the call is that of the link
  pub at_link : (acts : List Act) → IsHistory L (trace_in (ordered L) events) acts → (x : Act) → IsAmong acts x
      → x.worker ≡ w → called_in x ≡ record { pin = s.pin; op = Insert; key = k } → x.moment ≡ length xs + 1
  at_link acts h x among own called =
      let b = h.links xs ys w ins.parent ins.side ins.leaf ins.new ins.linked split in
      let begun : call_begun w xs ≡ Some (called_in b.0) = subst (λ (u : ℕ). call_begun u xs ≡ Some (called_in b.0))
      b.2 b.4.0 in
      let pin : b.0.pin ≡ pin_of L ins.before w = (called_is L (enough_of L fits) w ins.before keyed (called_in b.0)
      begun).0 in
      let was_pin = pinned_so L fits events keys was now later goes_on w Insert k true s in
      ap (λ (y : Act). y.moment) (same_act acts h.once x b.0 among b.1 (own ∙ sym b.2)
      (ap (λ (c : Called). c.pin) called ∙ (was_pin ∙ (pin_stood ∙ sym pin)))) ∙ b.3

  -- it lies in what a reader has seen that has heard of all that its worker had done by its answer
  early : length xs < length now
  early = let l = ap (λ (us : List (ℕ × Event)). length us) ins.is_run in
      let m = length-append ins.before (event ∷ ins.since) in let n = length_trace (ordered L) ins.before in
      let short = a.short in omega (arith, l, m, n, short)

  pub heard_of : (seen : List Turn) → HasHeardAll w now seen → length xs + 1 ≤ length seen
  heard_of seen all = go all.all
    where
      far : length all.before ≤ length seen
      far = no_shorter seen all.before all.goes_on

      go : Extends all.before now ⊎ ((more : List Turn) × (now ≡ all.before ++ more) × HasWonNothing w more
          × (leaf_after w None all.before ≡ None)) → length xs + 1 ≤ length seen
      go (inl on) = let n = no_shorter all.before now on in omega (arith, far, n, early)
      go (inr rest) = by (cases_lt (length xs) (length all.before))
        where
          lies_in : length all.before ≤ length xs → In rest.0 link
          lies_in less = in_more all.before xs link ys rest.0 later
              (sym split ∙ (goes_on ∙ (ap (λ (ts : List Turn). ts ++ later) rest.1
              ∙ append_assoc all.before rest.0 later))) less early'
            where
              early' : length xs < length all.before + length rest.0
              early' = let e = early in let l = ap (λ (ts : List Turn). length ts) rest.1 in
                  let m = length-append all.before rest.0 in omega (arith, e, l, m)

          by : (length xs < length all.before) ⊎ (length all.before ≤ length xs) → length xs + 1 ≤ length seen
          by (inl less) = omega (arith, less, far)
          by (inr up) = absurd (
              let some = some_in is_won_link (part_of w rest.0) (link.event, Linked ins.linked)
              (told_in_part w rest.0 link (Linked ins.linked) (lies_in up) refl refl) refl in
              let none = rest.2.links in
              omega (arith, some, none))
