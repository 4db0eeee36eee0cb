-- A worker that stands for another one too.
use Rattle.std.proofs.Common.{◌≡◌, ◌≢◌, ℕ, ◌+◌, ◌≤◌, ◌⊎◌, ◌==◌, inl, inr, Bool, true, false, eqb, cond, List, [], ◌∷◌, ◌++◌, length, refl, sym, ap, ◌∙◌, subst, arith}
use Rattle.std.specs.Prelude.{Option, Some, None, IsSome, is_some, unwrap_or, if◌then◌else◌}
use Rattle.std.proofs.lemmas.Bool.{cond-false, ne_eqb, eq-eqb}
use Rattle.std.proofs.lemmas.List.Sums.{sum_by-append}
use Rattle.nm_edge.specs.Layouts.{Layout}
use Rattle.nm_model.specs.declared.ledger.Ledger.{Ledger}
use Rattle.nm_model.specs.Knowledge.{Knowledge, newcomer}
use Rattle.nm_model.specs.Learning.{learn, resigned, inheriting}
use Rattle.nm_model.specs.Ledgers.{held, fresh_ledger}
use Rattle.nm_model.specs.Maps.{or_else}
use Rattle.nm_model.specs.Walks.{Entry}
use Rattle.nm_laws.proofs.Held.{held-taken_over}
use Rattle.nm_laws.proofs.Shapes.{row_newcomer}
use Rattle.nm_steps.specs.declared.view.Held.{Held}
use Rattle.nm_steps.specs.declared.view.View.{View}
use Rattle.nm_steps.specs.Rules.{held_log, knowledge, stands, passing, joined}
use Rattle.nm_steps.specs.Ties.{StandsInRun}
use Rattle.nm_steps.proofs.Keeping.{live, once_is}
use Rattle.nm_steps.proofs.Presence.{known_push}
use Rattle.nm_steps.proofs.Cutting.{times, times-cons}
use Rattle.nm_epoch.specs.declared.collecting.HeldQueue.{HeldQueue}
use Rattle.nm_epoch.specs.Collecting.{AreHeld}
use Rattle.nm_epoch.proofs.Marks.{row_after}
use Rattle.nm_epoch.proofs.SeveralQueues.{queue_stays}
use Rattle.nm_walks.specs.WonCounts.{won_links, won_flags, won_splices}
use Rattle.nm_walks.proofs.Adding.{adds_these}
use Rattle.nm_tree.specs.Workers.{AreOf, HasNumber, HasOrigin, log_among, log_held_of, ledger_in}
use Rattle.nm_tree.proofs.QueueLists.{has_or_none}
use Rattle.nm_tree.proofs.OwnQueue.{TellAlike}
use Rattle.nm_tree.proofs.HeldLedgers.{ledger_held}
use Rattle.nm_tree.proofs.Merging.{AreApart}
use Rattle.nm_tree.proofs.Quiet.{Quiet, quiet}

-- ---- as many ledgers as workers, by any log

pub ledgers_long : (v : View) → length (knowledge v).ledgers ≡ v.layout.workers
ledgers_long v = (row_after v.layout.workers v.number (newcomer v.layout v.number) v.log
    (row_newcomer v.layout v.number)).ledgers

times-append : (w : ℕ) (hs gs : List Held) → times w (hs ++ gs) ≡ times w hs + times w gs
times-append w hs gs = sum_by-append (λ (x : Held). cond (eqb w x.number) 1 0) hs gs

pub has_times : (o : ℕ) (hs : List Held) → HasNumber o hs → 1 ≤ times o hs
has_times o [] has = absurd has
has_times o (h ∷ hs) (inl is) =
    let one : ◌≡◌ {A = ℕ} (cond (eqb o h.number) 1 0) 1 = ap (λ (b : Bool). cond {A = ℕ} b 1 0)
    (eq-eqb o h.number (sym is)) in
    let all = times-cons o h hs in
    omega (arith, one, all)
has_times o (h ∷ hs) (inr has) = let rest = has_times o hs has in let all = times-cons o h hs in
    omega (arith, rest, all)

abbrev pub logs : View → List Held
logs v = held_log v.number v.log ∷ v.others

-- ---- what is counted of a log

quiet_join : (log : List Entry) (v : View) → Quiet log (log ++ passing v ∷ [])
quiet_join log v = quiet log (log ++ passing v ∷ []) (adds_these (passing v ∷ []) log (log ++ passing v ∷ []) refl)

among_front : (o : ℕ) (hs gs : List Held) → HasNumber o hs → log_among o (hs ++ gs) ≡ log_among o hs
among_front o [] gs has = absurd has
among_front o (h ∷ hs) gs has = by (h.number == o) refl has (among_front o hs gs)
  where
    by : (b : Bool) → (h.number == o) ≡ b → HasNumber o (h ∷ hs)
        → (HasNumber o hs → log_among o (hs ++ gs) ≡ log_among o hs)
        → (if b then h.log else log_among o (hs ++ gs)) ≡ (if b then h.log else log_among o hs)
    by true is has' rest = refl
    by false is (inl at) rest = absurd (let t = eq-eqb h.number o at in true_not_false (sym t ∙ is))
      where
        true_not_false : true ≡ false → ⊥
        true_not_false e = absurd (cc)
    by false is (inr has') rest = rest has'

among_back : (o : ℕ) (hs gs : List Held) → (HasNumber o hs → ⊥) → log_among o (hs ++ gs) ≡ log_among o gs
among_back o [] gs none' = refl
among_back o (h ∷ hs) gs none' = skip (h.number == o) (ne_eqb h.number o (λ at. none' (inl at)))
    ∙ among_back o hs gs (λ has. none' (inr has))
  where
    skip : (b : Bool) → b ≡ false → (if b then h.log else log_among o (hs ++ gs)) ≡ log_among o (hs ++ gs)
    skip b is =
        let P : Bool → Type 0 = λ c. (if c then h.log else log_among o (hs ++ gs)) ≡ log_among o (hs ++ gs) in
        subst P (sym is) refl

-- an own log that a join entered tells what it told
own_alike : (f : List Entry → ℕ) (o n : ℕ) (old new : List Entry) (others : List Held) → f new ≡ f old
    → f (log_among o (held_log n new ∷ others)) ≡ f (log_among o (held_log n old ∷ others))
own_alike f o n old new others same = by (n == o)
  where
    by : (b : Bool) → f (if b then new else log_among o others) ≡ f (if b then old else log_among o others)
    by true = same
    by false = refl

-- ---- the view of both

module _ (v w : View) (run : StandsInRun (joined v w)) where
  abbrev j : View
  j = joined v w

  abbrev theirs : List Held
  theirs = held_log w.number (w.log ++ passing w ∷ []) ∷ w.others

  same_number : (o : ℕ) → HasNumber o (logs w) → HasNumber o theirs
  same_number o has = has

  -- no number is in both
  pub apart : (o : ℕ) → HasNumber o (logs v) → HasNumber o (logs w) → ⊥
  apart o first second =
      let all : stands o j ≡ times o (held_log v.number (v.log ++ passing w ∷ []) ∷ (v.others ++ theirs)) = ap
      (times o) (live j run.alive) in
      let cut : times o (held_log v.number (v.log ++ passing w ∷ []) ∷ (v.others ++ theirs))
      ≡ times o (held_log v.number (v.log ++ passing w ∷ []) ∷ v.others)
      + times o theirs = times-append o (held_log v.number (v.log ++ passing w ∷ []) ∷ v.others) theirs in
      let a : 1 ≤ times o (held_log v.number (v.log ++ passing w ∷ []) ∷ v.others) = has_times o
      (held_log v.number (v.log ++ passing w ∷ []) ∷ v.others) first in
      let b : 1 ≤ times o theirs = has_times o theirs second in
      let most = run.once o in
      let one = (once_is o j.layout.workers).0 in
      absurd (omega (arith, all, cut, a, b, most, one))

  pub differ : v.number ≢ w.number
  differ e = apart w.number (inl e) (inl refl)

  abbrev k : Knowledge
  k = knowledge v

  abbrev l : Knowledge
  l = knowledge w

  pub knows : knowledge j ≡ inheriting k l.ledgers
  unfolding learn
  knows = known_push v.number v.layout v.log (passing w)
      ∙ cond-false (v.number == w.number) (resigned k) (inheriting k l.ledgers) (ne_eqb v.number w.number differ)

  module _ (same : v.layout ≡ w.layout) where
    pub held_both : (o : ℕ) → held (knowledge j).ledgers o ≡ or_else (held l.ledgers o) (held k.ledgers o)
    held_both o = ap (λ (x : Knowledge). held x.ledgers o) knows
        ∙ held-taken_over k.ledgers l.ledgers o (ledgers_long v
        ∙ (ap (λ (L : Layout). L.workers) same ∙ sym (ledgers_long w)))

    or_none : {X : Type 0} (a b : Option X) → a ≡ None → or_else a b ≡ b
    or_none None b is = refl
    or_none (Some x) b is = absurd (cc)

    or_some : {X : Type 0} (a b : Option X) → IsSome a → or_else a b ≡ a
    or_some None b is = absurd (cc)
    or_some (Some x) b is = refl

    none_of : {X : Type 0} (a : Option X) → (IsSome a → ⊥) → a ≡ None
    none_of None no' = refl
    none_of (Some x) no' = absurd (no' refl)

    module _ (hs gs : List HeldQueue) (of_first : AreOf v hs) (of_second : AreOf w gs)
        (all_second : (o : ℕ) → IsSome (held l.ledgers o) → HasOrigin o gs) where
      -- a ledger of the first is as it was, and so is one of the second
      pub first_stays : (o : ℕ) → HasOrigin o hs → held (knowledge j).ledgers o ≡ held k.ledgers o
      first_stays o has = held_both o ∙ or_none (held l.ledgers o) (held k.ledgers o)
          (none_of (held l.ledgers o) (λ some'. apart o (of_first.each o has) (of_second.each o (all_second o some'))))

      pub second_stays : (o : ℕ) → IsSome (held l.ledgers o) → held (knowledge j).ledgers o ≡ held l.ledgers o
      second_stays o some' = held_both o ∙ or_some (held l.ledgers o) (held k.ledgers o) some'

      is_some_of : (h : Option Ledger) (x : Ledger) → h ≡ Some x → IsSome h
      is_some_of h x is = ap (λ (y : Option Ledger). is_some y) is

      pub first_held : (xs : List HeldQueue) → ((o : ℕ) → HasOrigin o xs → HasOrigin o hs) → AreHeld k xs
          → AreHeld (knowledge j) xs
      first_held [] within are = tt
      first_held (x ∷ xs) within are = (
        queue_stays k (knowledge j) x.origin x.queue.items
            (first_stays x.origin (within x.origin (inl refl))) are.0,
        are.1,
        first_held xs (λ o has. within o (inr has))
            are.2,
      )

      pub second_held : (xs : List HeldQueue) → AreHeld l xs → AreHeld (knowledge j) xs
      second_held [] are = tt
      second_held (x ∷ xs) are = (
        queue_stays l (knowledge j) x.origin x.queue.items
            (second_stays x.origin (is_some_of _ (ledger_in w x.origin)
            (ledger_held w x.origin x.queue.items are.0))) are.0,
        are.1,
        second_held xs are.2,
      )

      pub none_apart : (xs : List HeldQueue) → ((o : ℕ) → HasOrigin o xs → HasOrigin o gs) → AreApart hs xs
      none_apart [] within = tt
      none_apart (x ∷ xs) within = (
        elim (has_or_none x.origin hs) [
          | inl has ↦ absurd (apart x.origin (of_first.each x.origin has)
              (of_second.each x.origin (within x.origin (inl refl))))
          | inr none' ↦ none'
        ],
        none_apart xs (λ o has. within o (inr has)),
      )

      -- what is counted of each
      first_log : (f : List Entry → ℕ) → f (v.log ++ passing w ∷ []) ≡ f v.log → (o : ℕ) → HasOrigin o hs
          → f (log_held_of j o) ≡ f (log_held_of v o)
      first_log f same_log o has =
          ap f (among_front o (held_log v.number (v.log ++ passing w ∷ []) ∷ v.others) theirs (of_first.each o has))
          ∙ own_alike f o v.number v.log (v.log ++ passing w ∷ []) v.others same_log

      second_log : (f : List Entry → ℕ) → f (w.log ++ passing w ∷ []) ≡ f w.log → (o : ℕ) → HasOrigin o gs
          → f (log_held_of j o) ≡ f (log_held_of w o)
      second_log f same_log o has =
          ap f (among_back o (held_log v.number (v.log ++ passing w ∷ []) ∷ v.others) theirs
          (λ first. apart o first (of_second.each o has)))
          ∙ own_alike f o w.number w.log (w.log ++ passing w ∷ []) w.others same_log

      pub first_alike : (o : ℕ) → HasOrigin o hs → TellAlike v j o
      first_alike o has = let q = quiet_join v.log w in
          record {
            log = record {
              links = first_log won_links q.links o has;
              flags = first_log won_flags q.flags o has;
              splices = first_log won_splices q.splices o has;
            };
            ledger = ap (λ (h : Option Ledger). unwrap_or h fresh_ledger) (first_stays o has);
          }

      -- each of the second has its ledger
      has_ledger : (o : ℕ) (xs : List HeldQueue) → AreHeld l xs → HasOrigin o xs → IsSome (held l.ledgers o)
      has_ledger o [] are has = absurd has
      has_ledger o (x ∷ xs) are (inl is) = subst (λ (n : ℕ). IsSome (held l.ledgers n)) is
          (is_some_of _ (ledger_in w x.origin) (ledger_held w x.origin x.queue.items are.0))
      has_ledger o (x ∷ xs) are (inr has) = has_ledger o xs are.2 has

      pub second_alike : AreHeld l gs → (o : ℕ) → HasOrigin o gs → TellAlike w j o
      second_alike are o has = let q = quiet_join w.log w in
          record {
            log = record {
              links = second_log won_links q.links o has;
              flags = second_log won_flags q.flags o has;
              splices = second_log won_splices q.splices o has;
            };
            ledger = ap (λ (h : Option Ledger). unwrap_or h fresh_ledger) (second_stays o (has_ledger o gs are has));
          }

      -- each held ledger is of one of both
      pub held_by_one : (o : ℕ) → IsSome (held (knowledge j).ledgers o)
          → IsSome (held k.ledgers o) ⊎ IsSome (held l.ledgers o)
      held_by_one o some' = by (held l.ledgers o) (let P : Option Ledger → Type 0 = λ h. IsSome h in
          subst P (held_both o) some')
        where
          by : (h : Option Ledger) → IsSome (or_else h (held k.ledgers o)) → IsSome (held k.ledgers o) ⊎ IsSome h
          by None is = inl is
          by (Some x) is = inr refl
