-- An insert or a remove that runs alone beside removes that other workers have left pending: it loses
-- at most as many tries as there are workers.
use Rattle.std.proofs.Common.{◌≡◌, ◌≢◌, ◌∙◌, ℕ, suc, ◌+◌, ◌*◌, ◌<◌, ◌≤◌, ◌==◌, inl, inr, ◌⊎◌, Bool, true, false, cond, not, ◌&&◌, ◌||◌, List, [], ◌∷◌, ◌++◌, length, length-append, refl, sym, ap, subst, arith, true≢false}
use Rattle.std.specs.Prelude.{All, None, Result, Ok, Err, filter}
use Rattle.std.proofs.lemmas.Bool.{eq-eqb}
use Rattle.std.proofs.Math.Nat.{mul-zero}
use Rattle.std.proofs.lemmas.List.{append_cancel_left}
use Rattle.std.proofs.lemmas.List.Elements.{filter-append}
use Rattle.nm_edge.specs.Layouts.{IsLayout}
use Rattle.nm_model.specs.declared.event.Event.{Event}
use Rattle.nm_model.specs.declared.event.Event.TheVariants.{Flag}
use Rattle.nm_model.specs.declared.event.Op.{Op}
use Rattle.nm_model.specs.declared.event.Op.TheVariants.{Has, Insert, Delete}
use Rattle.nm_model.specs.declared.reply.Refused.{Refused}
use Rattle.nm_model.specs.declared.reply.Reply.{Reply}
use Rattle.nm_model.specs.declared.reply.Reply.TheVariants.{Flagged}
use Rattle.nm_model.specs.declared.trace.Turn.{Turn}
use Rattle.nm_model.specs.Ordered.{ordered, after_in}
use Rattle.nm_model.specs.Walks.{Entry, logged_by}
use Rattle.nm_order.specs.Logs.{is_leaver, part_of}
use Rattle.nm_order.specs.WalksToArrivals.{is_won_flag}
use Rattle.nm_order.proofs.AnswersSince.{part-append}
use Rattle.nm_theorem.proofs.Runs.{enough_of}
use Rattle.nm_steps.specs.Rules.{Extends}
use Rattle.nm_steps.specs.Steps.{PassView, IsSamePass, HasSeen, TreeView}
use Rattle.nm_calls.specs.PlainWalks.{events_of}
use Rattle.nm_calls.specs.declared.fault.CallFault.{CallFault}
use Rattle.nm_calls.specs.declared.fault.CallFault.TheVariants as fault
use Rattle.nm_walks.specs.WonCounts.{won_flags}
use Rattle.nm_progress.specs.Alone.{IsAlone}
use Rattle.nm_progress.specs.Moves.{number_of, moves, moves_of_others}
use Rattle.nm_progress.specs.Paid.{flags_on}
use Rattle.nm_progress.specs.Tries.{changes_of_others, interferes, own_flags}
use Rattle.nm_progress.proofs.AloneCalls.{own_events}
use Rattle.nm_progress.proofs.CountedTries.{hindrances_are_by_others}
use Rattle.nm_progress.proofs.LostCleanups.{own_trace}
use Rattle.nm_progress.proofs.LostPins.{keys_seen, turns_between}
use Rattle.nm_tree.specs.Answers.{LacksRoom}
use Rattle.nm_tree.specs.Workers.{WorkerView}
use Rattle.nm_set.specs.declared.managed.Options.{Options}
use Rattle.nm_set.specs.Managed.{Manages, MetInterference, SaysManaged, flags_told_by}
use Rattle.nm_set.proofs.Managing.{stays_alone}
use Rattle.nm_callers.specs.AnsweredAlone.{IsAnswered, IsAnsweredWithRoom}
use Rattle.nm_callers.proofs.RunningAlone.{was_managed}

-- ---- what a worker alone has won

flag_ok : (e : Event) (r : Reply) → flags_on e (Ok r) ≡ is_won_flag (e, r)
flag_ok (Flag p side s) (Flagged n) = refl
flag_ok e r = refl

flag_err : (e : Event) (x : Refused) → flags_on e (Err x) ≡ false
flag_err (Flag p side s) x = refl
flag_err e x = refl

none_behind : (xs ys : List Entry) → length (filter is_won_flag (xs ++ ys)) ≡ 0 → length (filter is_won_flag ys) ≡ 0
none_behind xs ys none =
    let sum = ap (λ (l : List Entry). length l) (filter-append is_won_flag xs ys)
    ∙ length-append (filter is_won_flag xs) (filter is_won_flag ys) in
    omega (arith, sum, none)

one_flag : (e : Entry) → length (filter is_won_flag (e ∷ [])) ≡ cond (is_won_flag e) 1 0
one_flag e = by (is_won_flag e)
  where
    by : (b : Bool) → length (cond b (e ∷ []) []) ≡ cond b 1 0
    by true = refl
    by false = refl

no_flags : (w : ℕ) (ts : List Turn) → length (filter is_won_flag (part_of w ts)) ≡ 0 → own_flags w ts ≡ 0
no_flags w [] none = refl
no_flags w (t ∷ ts) none = go (t.worker == w) (is_leaver w t.event) t.outcome none (no_flags w ts)
  where
    go : (own leaver : Bool) (o : Result Reply Refused)
        → length (filter is_won_flag (cond (own || leaver)
        (logged_by (record { worker = t.worker; event = t.event; outcome = o })) [] ++ part_of w ts)) ≡ 0
        → (length (filter is_won_flag (part_of w ts)) ≡ 0 → own_flags w ts ≡ 0)
        → cond (own && flags_on t.event o) 1 0 + own_flags w ts ≡ 0
    go false leaver o none rest =
        let same = rest (none_behind (cond leaver (logged_by
        (record { worker = t.worker; event = t.event; outcome = o })) []) (part_of w ts) none) in
        omega (arith, same)
    go true leaver (Err x) none rest =
        let same = rest none in
        let zero_is = ap (λ (b : Bool). cond {A = ℕ} b 1 0) (flag_err t.event x) in
        omega (arith, same, zero_is)
    go true leaver (Ok r) none rest =
        let same = rest (none_behind ((t.event, r) ∷ []) (part_of w ts) none) in
        let sum = ap (λ (l : List Entry). length l) (filter-append is_won_flag ((t.event, r) ∷ []) (part_of w ts))
        ∙ length-append (filter is_won_flag ((t.event, r) ∷ [])) (filter is_won_flag (part_of w ts)) in
        let one = one_flag (t.event, r) in
        let is = ap (λ (b : Bool). cond {A = ℕ} b 1 0) (flag_ok t.event r) in
        omega (arith, same, sum, one, is, none)

-- none of its turns is of another
none_own : (b : Bool) (x : Bool) → b ≡ true → (not b && x) ≡ false
none_own true x is = refl
none_own false x is = absurd (true≢false (sym is))

none_moved : (w : ℕ) (ts : List Turn) → All (λ t. t.worker ≡ w) ts → number_of (moves_of_others w) ts ≡ 0
none_moved w [] own = refl
none_moved w (t ∷ ts) own =
    let rest = none_moved w ts (λ i d below. own (suc i) d (omega (arith, below))) in
    let one = ap (λ (b : Bool). cond {A = ℕ} b 1 0)
    (none_own (t.worker == w) (moves t) (eq-eqb t.worker w (own 0 t (omega arith)))) in
    omega (arith, rest, one)

-- ---- a busy insert or remove

module _ (p q : PassView) (seen_p : HasSeen p.view) (seen_q : HasSeen q.view) (enough : 5 ≤ p.view.layout.nodes)
    (same : IsSamePass p q) (alone : IsAlone p q) where
  abbrev goes_on : Extends q.view.past p.view.past
  goes_on = record { more = alone.turns; is = alone.is }

  unflagged : won_flags q.view.log ≡ won_flags p.view.log + 0 → own_flags p.view.number alone.turns ≡ 0
  unflagged won = no_flags p.view.number alone.turns none
    where
      added : q.view.log ≡ p.view.log ++ part_of p.view.number alone.turns
      added = sym (subst (λ (w : ℕ). part_of w q.view.past ≡ q.view.log) (ap (λ (s : PassView). s.view.number) same)
          seen_q.is_part) ∙ (ap (part_of p.view.number) alone.is
          ∙ (part-append p.view.number p.view.past alone.turns
          ∙ ap (λ (l : List Entry). l ++ part_of p.view.number alone.turns) seen_p.is_part))

      none : length (filter is_won_flag (part_of p.view.number alone.turns)) ≡ 0
      none =
          let sum = ap won_flags added ∙ (ap (λ (l : List Entry). length l)
          (filter-append is_won_flag p.view.log (part_of p.view.number alone.turns))
          ∙ length-append (filter is_won_flag p.view.log)
          (filter is_won_flag (part_of p.view.number alone.turns))) in
          omega (arith, sum, won)

  pub few_tries : (tries : ℕ) → won_flags q.view.log ≡ won_flags p.view.log + 0 → MetInterference Insert p q tries
      → tries ≤ p.view.layout.workers
  few_tries tries won (turns, is, met) =
      let w = p.view.number in
      let between = turns_between p q seen_p seen_q same goes_on in
      let most = subst (λ (ts : List Turn). number_of (interferes p.view.number) ts
      ≤ 2 * number_of (changes_of_others p.view.number) ts + own_flags p.view.number ts
      + p.view.layout.workers) between
      (hindrances_are_by_others p.view.layout enough p.view.number (events_of p.view.past) (events_of alone.turns)
      (keys_seen p q seen_p seen_q same goes_on)) in
      let none = subst (λ (ts : List Turn). number_of (changes_of_others p.view.number) ts ≡ 0) between
      (own_trace p.view.number (events_of alone.turns)
      (after_in (ordered p.view.layout) (events_of p.view.past))
      (own_events p.view.number alone.turns alone.own)) in
      let flags = unflagged won in
      let still = none_moved p.view.number alone.turns alone.own in
      let here = subst (λ (ts : List Turn). tries ≤ number_of (moves_of_others p.view.number) ts
      + number_of (interferes p.view.number) ts) (append_cancel_left p.view.past turns alone.turns
      (sym is ∙ alone.is)) met in
      omega (arith, most, none, flags, still, here)

pub change_beside : (op : Op) → op ≢ Has → (b : TreeView) (h : Options) (k : ℕ) (w z : WorkerView)
    (r : Result Bool CallFault) → HasSeen w.pass.view → HasSeen z.pass.view → IsLayout w.pass.view.layout
    → w.held ≡ None → w.pass.view.layout.workers < (h.rounds + 1) * h.tries → SaysManaged op b h k w z r
    → IsAlone w.pass z.pass → IsAnsweredWithRoom z r
change_beside op change b h k w z r seen_w seen_z fits free many says alone room = by r
    (was_managed op b h k w z r free says)
  where
    unflagged_busy : (o : Op) (m n : ℕ) → m ≡ n + flags_told_by o (Err fault.Busy) → m ≡ n + 0
    unflagged_busy Has m n is = is
    unflagged_busy Insert m n is = is
    unflagged_busy Delete m n is = is

    as_change : (o : Op) → o ≢ Has → MetInterference o w.pass z.pass ((h.rounds + 1) * h.tries)
        → MetInterference Insert w.pass z.pass ((h.rounds + 1) * h.tries)
    as_change Has other met = absurd (other refl)
    as_change Insert other met = met
    as_change Delete other met = met

    some : (h.tries < 1) ⊎ LacksRoom z → ⊥
    some (inl less) =
        let none : h.tries ≡ 0 = omega (arith, less) in
        let zero_is = ap (λ (t : ℕ). (h.rounds + 1) * t) none in
        let zero = mul-zero (h.rounds + 1) in
        omega (arith, many, zero_is, zero)
    some (inr lacks) = room lacks

    by : (r : Result Bool CallFault) → Manages b h op k w z r → IsAnswered r
    by (Ok answer) m = tt
    by (Err fault.Busy) m =
        let few = few_tries w.pass z.pass seen_w seen_z (enough_of w.pass.view.layout fits) m.answers.on.same alone
        ((h.rounds + 1) * h.tries) (unflagged_busy op (won_flags z.pass.view.log) (won_flags w.pass.view.log)
        m.answers.won.flags) (as_change op change (m.answers.busy refl)) in
        absurd (omega (arith, few, many))
    by (Err fault.Full) m = tt
    by (Err fault.NoMemory) m = tt
    by (Err fault.Unfinished) m = absurd (some (stays_alone h w z alone (m.pending (inr refl))))
    by (Err fault.Pending) m = absurd (some (stays_alone h w z alone (m.pending (inl refl))))
    by (Err fault.Pinned) m = absurd m.answers.left
