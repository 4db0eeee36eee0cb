-- What interferes a worker while its log grows: each part of it that is interfered so often adds as many
-- such turns to a run.
use Rattle.std.proofs.Common.{◌≡◌, ℕ, ◌+◌, ◌*◌, ◌<◌, ◌≤◌, ◌==◌, Bool, true, false, cond, not, ◌&&◌, ◌||◌, List, [], ◌∷◌, ◌++◌, append_assoc, refl, sym, ap, subst, ◌∙◌, arith, true≢false}
use Rattle.std.specs.Prelude.{Ok, All}
use Rattle.std.proofs.lemmas.Bool.{eq-eqb}
use Rattle.std.proofs.lemmas.List.Elements.{All-append}
use Rattle.nm_edge.specs.Layouts.{Layout}
use Rattle.nm_model.specs.declared.event.Event.{Event}
use Rattle.nm_model.specs.declared.event.Event.TheVariants.{Join}
use Rattle.nm_model.specs.declared.reply.Reply.{Reply}
use Rattle.nm_model.specs.declared.trace.Turn.{Turn}
use Rattle.nm_model.specs.Knowledge.{Knowledge}
use Rattle.nm_model.specs.Runs.{of}
use Rattle.nm_model.specs.Walks.{Entry}
use Rattle.nm_model.specs.Ordered.{Configuration, ordered, after_in, trace_in}
use Rattle.nm_order.specs.Intervals.{HasKey}
use Rattle.nm_order.specs.Logs.{part_of, known_after, known_by}
use Rattle.nm_order.proofs.OrderedLaws.{IsOrdered, each_ordered}
use Rattle.nm_order.proofs.PartsOfRuns.{logs_tell}
use Rattle.nm_order.proofs.RunExchanges.{first_keys}
use Rattle.nm_order.proofs.WalksOfRuns.{trace_in-append}
use Rattle.nm_steps.specs.Steps.{PassView, IsSamePass, HasSeenAllOf, HasSeen}
use Rattle.nm_calls.specs.PlainWalks.{events_of}
use Rattle.nm_calls.proofs.PlainLooks.{as_events}
use Rattle.nm_laws.proofs.Configurations.{after_in-append}
use Rattle.nm_walks.specs.Bounds.{chain_bound}
use Rattle.nm_walks.specs.Walks.{IsTooLong, IsTooDeep}
use Rattle.nm_progress.specs.Moves.{number_of}
use Rattle.nm_progress.specs.Paid.{links_on, flags_on, cuts_on, tags_on, links_in, flags_in}
use Rattle.nm_progress.specs.Tries.{reshapes_of_others, changes_of_others, interferes, own_flags, LosesTries}
use Rattle.nm_progress.proofs.LostTries.{later_keys}
use Rattle.nm_progress.proofs.CountedTries.{known_longer, own_turn, lost_count, hindrances_are_by_others, hindrances_are_paid, others_interfere}
use Rattle.nm_progress.proofs.SplitTurns.{SplitTurn, split_turn, ordered_after, part_teaches, turn_in, number_split, number-append}
use Rattle.nm_progress.proofs.MoreTries.{Plain}
use Rattle.nm_progress.proofs.Reshapes.{is_reshape}
use Rattle.nm_progress.proofs.Covers.{one_if}
use Rattle.nm_progress.specs.Lost.{Interference}
use Rattle.nm_progress.proofs.WalkInterference.{SplitPart, split_part, by_others, one_interference, long_interference}
use Rattle.nm_progress.proofs.DeepInterference.{deep_plain, not_too_deep}
use Rattle.nm_progress.proofs.LostPins.{part-append, turns_between, keys_seen, part_added}
use Rattle.nm_progress.proofs.Parts.{Longer}
use Rattle.nm_progress.proofs.Steady.{IsFor}

-- ---- turns

-- a reshaping of another interferes
shapes_interfere : (w : ℕ) (ts : List Turn) → number_of (reshapes_of_others w) ts ≤ number_of (interferes w) ts
shapes_interfere w [] = omega arith
shapes_interfere w (t ∷ ts) = by (t.worker == w) (links_on t.event t.outcome) (flags_on t.event t.outcome)
    (cuts_on t.event t.outcome) (tags_on t.event t.outcome) (shapes_interfere w ts)
  where
    by : (o a b c d : Bool) → number_of (reshapes_of_others w) ts ≤ number_of (interferes w) ts
        → cond (not o && (a || c)) 1 0 + number_of (reshapes_of_others w) ts
        ≤ cond (cond o c (a || (b || (c || d)))) 1 0 + number_of (interferes w) ts
    by true a b true d rest = omega (arith, rest)
    by true a b false d rest = omega (arith, rest)
    by false true b c d rest = omega (arith, rest)
    by false false true true d rest = omega (arith, rest)
    by false false true false d rest = omega (arith, rest)
    by false false false true d rest = omega (arith, rest)
    by false false false false true rest = omega (arith, rest)
    by false false false false false rest = omega (arith, rest)

-- ---- parts of a log

module _ (L : Layout) (enough : 5 ≤ L.nodes) (w : ℕ) where
  -- a moment of a run, by which the worker's log is this
  pub record Ran (log : List Entry) (c : Configuration) : Type 0 where
    pub past : List (ℕ × Event)
    pub keys : All (λ t. HasKey t.1) past
    pub is : c ≡ after_in (ordered L) past
    pub is_part : part_of w (trace_in (ordered L) past) ≡ log

  pub ran_on : (log es : List Entry) (c : Configuration) → Ran log c → (ts : List (ℕ × Event))
      → All (λ t. HasKey t.1) ts → part_of w (trace_in c ts) ≡ es → Ran (log ++ es) (after_in c ts)
  ran_on log es c r ts keys is = record {
    past = r.past ++ ts;
    keys = All-append (λ (t : ℕ × Event). HasKey t.1) r.past ts r.keys keys;
    is = ap (λ (d : Configuration). after_in d ts) r.is ∙ sym (after_in-append (ordered L) r.past ts);
    is_part = ap (part_of w) (trace_in-append (ordered L) r.past ts)
        ∙ (part-append w (trace_in (ordered L) r.past) (trace_in (after_in (ordered L) r.past) ts)
        ∙ (ap (λ (l : List Entry). l ++ part_of w (trace_in (after_in (ordered L) r.past) ts)) r.is_part
        ∙ ap (λ (l : List Entry). log ++ l) (ap (λ (d : Configuration). part_of w (trace_in d ts)) (sym r.is) ∙ is)));
  }

  -- in each run in which the log grows so, the worker is interfered at least so often meanwhile
  pub record Interferes (old new : List Entry) (n : ℕ) : Type 0 where
    pub entries : List Entry
    pub are : new ≡ old ++ entries
    pub counted : (c : Configuration) → IsOrdered L c → of c.state w ≡ known_by L w old → Ran old c
        → (ts : List (ℕ × Event)) → All (λ t. HasKey t.1) ts → part_of w (trace_in c ts) ≡ entries
        → n ≤ number_of (interferes w) (trace_in c ts)

  pub of_longer : (old new : List Entry) → Longer old new → Interferes old new 0
  of_longer old new l = record { entries = l.entries; are = l.are; counted = λ c o knowing ran ts keys is. omega arith }

  pub interferes_then : (old mid new : List Entry) (m n : ℕ) → Interferes old mid m → Interferes mid new n
      → Interferes old new (m + n)
  interferes_then old mid new m n a b = record {
    entries = a.entries ++ b.entries;
    are = b.are ∙ (ap (λ (l : List Entry). l ++ b.entries) a.are ∙ append_assoc old a.entries b.entries);
    counted = λ c o knowing ran ts keys is. both c o knowing ran ts keys (split_part w a.entries c ts b.entries is);
  }
    where
      both : (c : Configuration) → IsOrdered L c → of c.state w ≡ known_by L w old → Ran old c
          → (ts : List (ℕ × Event)) → All (λ t. HasKey t.1) ts → SplitPart w c ts a.entries b.entries
          → m + n ≤ number_of (interferes w) (trace_in c ts)
      both c o knowing ran ts keys s =
          let all = subst (λ (l : List (ℕ × Event)). All (λ t. HasKey t.1) l) s.is_run keys in
          let first = first_keys s.before s.since all in
          let later = later_keys s.before s.since all in
          let o1 = ordered_after w L enough s.before first c o in
          let known = part_teaches w L enough s.before c o
          ∙ (ap (known_after w (of c.state w)) s.is_before
          ∙ (ap (λ (k : Knowledge). known_after w k a.entries) knowing
          ∙ (sym (known_longer w _ old a.entries) ∙ ap (known_by L w) (sym a.are)))) in
          let one = a.counted c o knowing ran s.before first s.is_before in
          let two = b.counted (after_in c s.before) o1 known
          (subst (λ (l : List Entry). Ran l (after_in c s.before)) (sym a.are)
          (ran_on old a.entries c ran s.before first s.is_before)) s.since later s.is_since in
          let run = ap (λ (l : List (ℕ × Event)). number_of (interferes w) (trace_in c l)) s.is_run in
          let parts = ap (number_of (interferes w)) (trace_in-append c s.before s.since)
          ∙ number-append (interferes w) (trace_in c s.before) (trace_in (after_in c s.before) s.since) in
          omega (arith, one, two, run, parts)

  -- by tries that were lost to others
  pub of_tries : (old new entries : List Entry) (n : ℕ) → new ≡ old ++ entries → LosesTries L w old entries n
      → Interferes old new n
  of_tries old new entries n are tries = record {
    entries = entries;
    are = are;
    counted = λ c o knowing ran ts keys is. (
        let lost = lost_count L enough w old entries n tries c o knowing ts keys is in
        let few = others_interfere w (trace_in c ts) in
        omega (arith, lost, few)
        );
  }

  -- by an own splice
  pub of_help : (old new xs ys : List Entry) (e : Event) (r : Reply) → new ≡ old ++ (xs ++ (e, r) ∷ ys)
      → ((v : ℕ) → e ≡ Join v → ⊥) → cuts_on e (Ok r) ≡ true → Interferes old new 1
  of_help old new xs ys e r are alone helps = record {
    entries = xs ++ (e, r) ∷ ys;
    are = are;
    counted = λ c o knowing ran ts keys is. one c ts (split_turn w ts c xs (e, r) ys is);
  }
    where
      one : (c : Configuration) (ts : List (ℕ × Event)) → SplitTurn w c ts xs (e, r) ys
          → 1 ≤ number_of (interferes w) (trace_in c ts)
      one c ts a =
          let own = own_turn w (after_in c a.before) a.turn e r a.takes a.is_entry alone a.is_allowed in
          let turn = ap (λ (t : ℕ × Event). one_if (interferes w (turn_in (after_in c a.before) t))) own.0 in
          let helped : one_if (interferes w (turn_in (after_in c a.before) (w, e)))
          ≡ 1 = ap one_if (itself (w == w) (eq-eqb w w refl) _ _ ∙ (ap (cuts_on e) own.1 ∙ helps)) in
          let run = ap (λ (l : List (ℕ × Event)). number_of (interferes w) (trace_in c l)) a.is_run in
          let parts = number_split (interferes w) c a.before a.turn a.since in
          omega (arith, turn, helped, run, parts)
        where
          itself : (b : Bool) → b ≡ true → (x y : Bool) → cond b x y ≡ x
          itself true is x y = refl
          itself false is x y = absurd (true≢false (sym is))

  -- by a walk as long as there are slots
  pub of_interference : (k : ℕ) (old new : List Entry) → Longer old new → IsTooLong L k old new → Interferes old new 1
  of_interference k old new l long = record {
    entries = l.entries;
    are = l.are;
    counted = λ c o knowing ran ts keys is. (
        let led = one_interference L enough w c o ts keys old new (long_interference L enough w k old new long)
        (ap (λ (xs : List Entry). old ++ xs) is ∙ sym l.are) in
        let few = shapes_interfere w (trace_in c ts) in
        omega (arith, led, few)
        );
  }

  -- by one that came by 64 tagged edges, where the tree has no more workers
  pub of_deep : w < L.workers → L.workers ≤ chain_bound → (k : ℕ) (old new : List Entry) → IsFor k old
      → IsTooDeep L k old new → Interferes old new 1
  of_deep here crew k old new for deep = record {
    entries = plain.entries;
    are = plain.are;
    counted = λ c o knowing ran ts keys is. (
        let whole = ap (λ (xs : List Entry). old ++ xs) is ∙ sym plain.are in
        let led = by_others L enough w c ts old new plain (never c ran ts keys whole) whole in
        let few = shapes_interfere w (trace_in c ts) in
        omega (arith, led, few)
        );
  }
    where
      plain : Plain old new
      plain = deep_plain L k old new deep

      never : (c : Configuration) → Ran old c → (ts : List (ℕ × Event)) → All (λ t. HasKey t.1) ts
          → old ++ part_of w (trace_in c ts) ≡ new → number_of is_reshape (trace_in c ts) ≡ 0 → ⊥
      never c ran ts keys whole calm = not_too_deep L enough w k here crew ran.past ran.keys ts keys
          (ap (λ (d : Configuration). number_of is_reshape (trace_in d ts)) (sym ran.is) ∙ calm) old new ran.is_part
          (ap (λ (d : Configuration). old ++ part_of w (trace_in d ts)) (sym ran.is) ∙ whole) for deep

-- ---- between two moments of a pass

pub was_interfered : (p q : PassView) (n : ℕ) → HasSeen p.view → HasSeen q.view → (enough : 5 ≤ p.view.layout.nodes)
    → IsSamePass p q → HasSeenAllOf q p → Interferes p.view.layout enough p.view.number p.view.log q.view.log n
    → Interference p q n
was_interfered p q n seen_p seen_q enough same on h = record {
  turns = on.goes_on.more;
  is = on.goes_on.is;
  interfered = subst (λ (ts : List Turn). n ≤ number_of (interferes p.view.number) ts)
      (turns_between p q seen_p seen_q same on.goes_on) count;
  by_others = subst (λ (ts : List Turn). n ≤ 2 * number_of (changes_of_others p.view.number) ts
      + own_flags p.view.number ts + p.view.layout.workers) (turns_between p q seen_p seen_q same on.goes_on)
      (let most = hindrances_are_by_others p.view.layout enough p.view.number (events_of p.view.past)
      (events_of on.goes_on.more) keys in omega (arith, count, most));
  paid = subst (λ (ts : List Turn). n ≤ links_in ts + 3 * flags_in ts + 2 * p.view.layout.workers)
      (turns_between p q seen_p seen_q same on.goes_on)
      (let most = hindrances_are_paid p.view.layout enough p.view.number (events_of p.view.past)
      (events_of on.goes_on.more) keys in omega (arith, count, most));
}
  where
    keys : All (λ t. HasKey t.1) ((events_of p.view.past) ++ (events_of on.goes_on.more))
    keys = keys_seen p q seen_p seen_q same on.goes_on

    past_keys : All (λ t. HasKey t.1) (events_of p.view.past)
    past_keys = first_keys (events_of p.view.past) (events_of on.goes_on.more) keys

    part : part_of p.view.number (trace_in (after_in (ordered p.view.layout) (events_of p.view.past))
        (events_of on.goes_on.more)) ≡ h.entries
    part = part_added p q seen_p seen_q same on.goes_on h.entries h.are

    count : n ≤ number_of (interferes p.view.number)
        (trace_in (after_in (ordered p.view.layout) (events_of p.view.past)) (events_of on.goes_on.more))
    count = h.counted (after_in (ordered p.view.layout) (events_of p.view.past))
        (each_ordered p.view.layout enough (events_of p.view.past) past_keys)
        (logs_tell p.view.layout (events_of p.view.past) p.view.number seen_p.worker
        ∙ ap (known_by p.view.layout p.view.number) (as_events p.view seen_p).is_part)
        (record {
          past = events_of p.view.past;
          keys = past_keys;
          is = refl;
          is_part =
              (as_events p.view seen_p).is_part;
        }) (events_of on.goes_on.more)
        (later_keys (events_of p.view.past) (events_of on.goes_on.more) keys) part
