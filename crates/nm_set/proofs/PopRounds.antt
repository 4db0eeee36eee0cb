-- A key is taken by managed calls: what each round leaves, and what the call leaves after all of them.
use Rattle.std.proofs.Common.{◌≡◌, ◌∙◌, ◌≤◌, inl, inr, ℕ, suc, ◌+◌, ◌*◌, Bool, true, false, [], append-nil, length, refl, sym, ap, subst, arith}
use Rattle.std.specs.Prelude.{Option, Some, None, IsSome, Result, Ok, Err, IfOk}
use Rattle.std.proofs.Math.Nat.{add-mul, suc-mul, mul-add, mul-le-mul_right}
use Rattle.nm_edge.specs.Layouts.{Layout, IsLayout}
use Rattle.nm_model.specs.declared.event.Op.TheVariants.{Delete}
use Rattle.nm_progress.specs.Alone.{RunsAlone}
use Rattle.nm_progress.proofs.RunningAlone.{runs_later}
use Rattle.nm_steps.specs.Steps.{TreeView, PassView, HasSeen, HasSeenAllOf}
use Rattle.nm_steps.proofs.Seeing.{seen_itself}
use Rattle.nm_walks.specs.Bounds.{reach}
use Rattle.nm_calls.specs.declared.fault.CallFault.{CallFault}
use Rattle.nm_calls.specs.declared.fault.CallFault.TheVariants as fault
use Rattle.nm_tree.specs.declared.popping.End.{End}
use Rattle.nm_tree.specs.Calls.{LeavesNear}
use Rattle.nm_tree.specs.Popping.{Finds, IsOutside, TakesOf, among, comes_before}
use Rattle.nm_tree.specs.Workers.{IsBetweenCalls, WorkerView}
use Rattle.nm_tree.proofs.AlonePops.{found_is_there}
use Rattle.nm_tree.proofs.FoundThenGone.{late_cut}
use Rattle.nm_tree.proofs.FlaggedSeen.{none_seen}
use Rattle.nm_tree.proofs.Taking.{found_by, found_in, gives_up_at, key_found, moment_since, near_bound, none_found, none_inside, scaled, told_at, was_so_since}
use Rattle.nm_set.specs.declared.managed.Options.{Options}
use Rattle.nm_set.specs.Managed.{GoesOn, MetInterference, round_bound}
use Rattle.nm_set.specs.MapRounds.{Removed, SaysRemoved}
use Rattle.nm_set.specs.Popping.{PopLeft, Pops, flags_told_by_pop, pop_round_bound, pop_rounds_bound}
use Rattle.nm_set.specs.Rounds.{Finishes, IsOnward}
use Rattle.nm_set.proofs.Managing.{finished, goes_more, goes_then, late_met, lose_same, met_fewer, met_nothing, met_since, met_then, near_met, none_there, number_of_pass, onward_itself, onward_more, onward_then, pends_if, stays_since, wins_after}

abbrev pop_busy : Result (Option ℕ) CallFault
pop_busy = Err fault.Busy

-- ---- the two calls of a round

near_fits : (L : Layout) (t a b : ℕ) → b ≤ a + near_bound L t → b ≤ a + round_bound t L
near_fits L t a b few =
    let near = scaled t (reach L) 3 1 in
    let round = scaled t (reach L) 4 512 in
    omega (arith, few, near, round)

goes_found : (end : End) (L : Layout) (t : ℕ) (w z : WorkerView) (r : Result (Option ℕ) CallFault)
    → Finds end L t w z r → GoesOn (round_bound t L) w z
goes_found end L t w z r found =
    let n = found_by end L t w z r found in
    record {
      same = n.same;
      past = n.past;
      queues = lose_same w.pass.view.number w.queues z.queues n.queues;
      steps = near_fits L t (length w.pass.view.log) (length z.pass.view.log) (let few = n.steps in omega (arith, few));
      held = n.held;
      fit = n.fit;
    }

-- ---- one round

module _ (end : End) (b : TreeView) (h : Options) (w : WorkerView) (none : w.pending ≡ None) where
  abbrev L : Layout
  L = b.layout

  abbrev Says : WorkerView → Result (Option ℕ) CallFault → Type 0
  Says z r = Pops (among end) (comes_before end) h (pop_round_bound h L) 1 w z r

  abbrev Near : WorkerView → Result (Option ℕ) CallFault → Type 0
  Near z r = LeavesNear (told_at end) (gives_up_at end L h.tries) L h.tries w z r

  alone : (z : WorkerView) → GoesOn (round_bound h.tries L) w z → GoesOn (pop_round_bound h L) w z
  alone z a =
      let more = suc-mul (3 * h.rounds + 5) (round_bound h.tries L) in
      goes_more (round_bound h.tries L) (pop_round_bound h L) w z (omega (arith, more)) a

  -- no key was found
  pub pops_none : (z : WorkerView) → Finds end L h.tries w z (Ok None) → Says z (Ok None)
  pops_none z did =
      let l = found_by end L h.tries w z (Ok None) did in
      record {
        took = none_found end w.pass z.pass l.moment;
        left = l.did.0.1;
        won = l.won;
        on = alone z
            (goes_found end L h.tries w z (Ok None) did);
        busy = λ is two. absurd (let no = is in cc);
        alone = λ runs.
            tt;
        pending = pends_if (Ok None) tt;
      }

  -- the call that finds a key was not answered
  pub pops_not_found : (z : WorkerView) (f : CallFault) → Finds end L h.tries w z (Err f) → Says z (Err f)
  pops_not_found z f did = by f (alone z (goes_found end L h.tries w z (Err f) did))
      (found_by end L h.tries w z (Err f) did)
    where
      by : (f : CallFault) → GoesOn (pop_round_bound h L) w z → Near z (Err f) → Says z (Err f)
      by fault.Busy on l = record {
        took = tt;
        left = l.did.0.1;
        won = l.won;
        on = on;
        busy = λ is two. near_met w.pass z.pass h.tries two (l.interfered refl);
        alone = λ runs. (let few = l.alone runs.alone refl in omega (arith, few));
        pending = pends_if pop_busy tt;
      }
      by fault.Pending on l = none_there w.pending none l.did.0
      by fault.Full on l = absurd l.did
      by fault.NoMemory on l = absurd l.did
      by fault.Unfinished on l = absurd l.did
      by fault.Pinned on l = absurd l.did

  -- or one that is not to be popped
  pub pops_outside : (z : WorkerView) (key : ℕ) → Finds end L h.tries w z (Ok (Some key)) → IsOutside end key
      → Says z (Ok None)
  pops_outside z key did outside =
      let l = found_by end L h.tries w z (Ok (Some key)) did in
      record {
        took = none_inside end w.pass z.pass key outside (key_found end w.pass z.pass key l.moment);
        left =
            l.did.0.1;
        won = l.won;
        on = alone z (goes_found end L h.tries w z (Ok (Some key)) did);
        busy = λ is two.
            absurd (let no = is in cc);
        alone = λ runs. tt;
        pending = pends_if (Ok None) tt;
      }

  module _ (x z : WorkerView) (key : ℕ) (found : Finds end L h.tries w x (Ok (Some key))) (is : among end key) where
    l : Near x (Ok (Some key))
    l = found_by end L h.tries w x (Ok (Some key)) found

    removes : (r : Result Bool CallFault) → SaysRemoved b h key x z r → Removed b h key x z r
    removes r (inl pinned) = none_there x.held l.held pinned.0
    removes r (inr did) = did.1

    both : (r : Result Bool CallFault) → Removed b h key x z r → GoesOn (pop_round_bound h L) w z
    both r t =
        let more = suc-mul (3 * h.rounds + 5) (round_bound h.tries L) in
        goes_more (round_bound h.tries L + (3 * h.rounds + 5) * round_bound h.tries L) (pop_round_bound h L) w z
        (omega (arith, more)) (goes_then w x z (goes_found end L h.tries w x (Ok (Some key)) found) t.answers.on)

    later : {m : ℕ} → GoesOn m x z → RunsAlone w.pass z.pass → RunsAlone x.pass z.pass
    later on runs = runs_later w.pass x.pass z.pass l.same l.past on.past runs

    -- the key was removed
    pub pops_key : SaysRemoved b h key x z (Ok true) → Says z (Ok (Some key))
    pops_key did =
        let t = removes (Ok true) did in
        let was = found_in end w.pass w.pass x.pass z.pass key (seen_itself w.pass) t.answers.on.same
        t.answers.on.past (key_found end w.pass x.pass key l.moment) in
        record {
          took = (is, moment_since w.pass x.pass z.pass Delete key true l.past t.answers.moment, was.missing);
          left = t.answers.left;
          won = wins_after 0 1 w x z l.won t.answers.won;
          on = both (Ok true) t;
          busy = λ is
              two. absurd (let no = is in cc);
          alone = λ runs. tt;
          pending = pends_if (Ok (Some key)) tt;
        }

    -- the remove came too late, which it does not if the worker runs alone
    pub pops_late : HasSeen w.pass.view → IsBetweenCalls w → HasSeen z.pass.view → IsLayout z.pass.view.layout
        → SaysRemoved b h key x z (Ok false) → Says z pop_busy
    pops_late seen between seen_z fits did =
        let t = removes (Ok false) did in
        let won = wins_after 0 0 w x z l.won t.answers.won in
        let on = both (Ok false) t in
        let was = key_found end w.pass x.pass key l.moment in
        record {
          took = tt;
          left = t.answers.left;
          won = won;
          on = on;
          busy = λ is two. late_met w.pass z.pass on.past.goes_on.more on.past.goes_on.is
              (late_cut z.pass.view.layout fits seen_z.events seen_z.keys w.pass x.pass key z.pass.view.past []
              (sym seen_z.are ∙ sym (append-nil z.pass.view.past)) t.answers.on.past.goes_on.more
              t.answers.on.past.goes_on.is (sym (ap (λ (p : PassView). p.view.layout) t.answers.on.same)) was.was
              z.pass.view.number t.answers.moment on.past.goes_on.more on.past.goes_on.is);
          alone = λ runs. absurd (found_is_there w.pass z.pass seen_z fits on.same runs
              (none_seen w.pass w.pending w.held seen between.stands none) seen.is_part won x.pass l.same l.past
              t.answers.on.past key was.is_key was.was t.answers.moment);
          pending = pends_if pop_busy tt;
        }

    -- or was not answered
    pub pops_not_removed : (f : CallFault) → SaysRemoved b h key x z (Err f) → Says z (Err f)
    pops_not_removed f did = by f (removes (Err f) did)
      where
        by : (f : CallFault) → Removed b h key x z (Err f) → Says z (Err f)
        by fault.Busy t = record {
          took = tt;
          left = t.answers.left;
          won = wins_after 0 0 w x z l.won t.answers.won;
          on = both (Err fault.Busy) t;
          busy = λ is two. met_since Delete 1 w.pass x.pass z.pass (record { same = l.same; past = l.past })
              (met_fewer Delete ((h.rounds + 1) * h.tries) 1 x.pass z.pass
              (let most = suc-mul h.rounds h.tries in
              let all : (h.rounds + 1) * h.tries ≡ suc h.rounds
              * h.tries = ap (λ (n : ℕ). n * h.tries) (omega arith) in omega (arith, two, most, all))
              (t.answers.busy refl));
          alone = λ runs. (let less = t.alone (later t.answers.on runs) in omega (arith, less));
          pending = pends_if pop_busy tt;
        }
        by fault.NoMemory t = record {
          took = tt;
          left = (t.answers.left.1, t.answers.left.2);
          won = wins_after 0 0 w
              x z l.won t.answers.won;
          on = both (Err fault.NoMemory) t;
          busy = λ is two. absurd (let no = is in cc);
          alone = λ runs. t.answers.left.2;
          pending = pends_if (Err fault.NoMemory) tt;
        }
        by fault.Full t = absurd (let no = t.answers.left.0 in cc)
        by fault.Pinned t = absurd t.answers.left
        by fault.Pending t = none_there x.pending l.did.0.1 t.answers.left.0
        by fault.Unfinished t =
            let was = found_in end w.pass w.pass x.pass z.pass key (seen_itself w.pass) t.answers.on.same
            t.answers.on.past (key_found end w.pass x.pass key l.moment) in
            record {
              took = tt;
              left = (record { key = key; leaf = t.answers.left.1 }, t.answers.left.2, is, was.was, was.missing);
              won = wins_after 0 1 w x z l.won t.answers.won;
              on = both (Err fault.Unfinished) t;
              busy = λ is two. absurd (let no = is in cc);
              alone = λ runs. t.alone (later t.answers.on runs);
              pending = λ one. stays_since h w x z (record { same = l.same; past = l.past }) (t.pending refl);
            }

-- ---- all rounds

-- what was so in the last round was so in the whole call
takes_since : (Among : ℕ → Type 0) (Before : ℕ → ℕ → Type 0) (o p q : PassView) (taken : Option ℕ) → HasSeenAllOf p o
    → TakesOf Among Before p q taken → TakesOf Among Before o q taken
takes_since Among Before o p q (Some key) past t =
    (t.0, moment_since o p q Delete key true past t.1, λ j is before. was_so_since o p q j false past (t.2 j is before))
takes_since Among Before o p q None past t = λ j is. was_so_since o p q j false past (t j is)

took_since : (Among : ℕ → Type 0) (Before : ℕ → ℕ → Type 0) (o p q : PassView) (r : Result (Option ℕ) CallFault)
    → HasSeenAllOf p o → IfOk r (TakesOf Among Before p q) → IfOk r (TakesOf Among Before o q)
took_since Among Before o p q (Ok taken) past t = takes_since Among Before o p q taken past t
took_since Among Before o p q (Err f) past t = tt

left_since : (Among : ℕ → Type 0) (Before : ℕ → ℕ → Type 0) (o w z : WorkerView) (r : Result (Option ℕ) CallFault)
    → HasSeenAllOf w.pass o.pass → w.pending ≡ None → PopLeft Among Before w z r → PopLeft Among Before o z r
left_since Among Before o w z (Ok taken) past none left = left
left_since Among Before o w z (Err fault.Pinned) past none left = left
left_since Among Before o w z (Err fault.Busy) past none left = left
left_since Among Before o w z (Err fault.Full) past none left = left
left_since Among Before o w z (Err fault.NoMemory) past none left = left
left_since Among Before o w z (Err fault.Pending) past none left = none_there w.pending none left.0
left_since Among Before o w z (Err fault.Unfinished) past none (n, is, key, was, missing) = (
  n,
  is,
  key,
  was_so_since o.pass w.pass z.pass n.key true past was,
  λ j is_key before. was_so_since o.pass w.pass
      z.pass j false past (missing j is_key before),
)

-- n rounds in a row came to nothing
pub record LostRounds (h : Options) (most n : ℕ) (w x : WorkerView) : Type 0 where
  pub onward : IsOnward (n * most) w x
  pub met : 2 ≤ h.tries → MetInterference Delete w.pass x.pass n

module _ (Among : ℕ → Type 0) (Before : ℕ → ℕ → Type 0) (h : Options) where
  pub pops_since : (m n s t : ℕ) (w x z : WorkerView) (r : Result (Option ℕ) CallFault) → IsOnward m w x
      → (r ≡ pop_busy → 2 ≤ h.tries → MetInterference Delete w.pass z.pass t) → Pops Among Before h n s x z r
      → Pops Among Before h (m + n) t w z r
  pops_since m n s t w x z r first met last = record {
    took = took_since Among Before w.pass x.pass z.pass r first.on.past last.took;
    left = left_since Among Before w x z r first.on.past first.none last.left;
    won = wins_after 0 (flags_told_by_pop r) w x z first.won last.won;
    on = goes_then w x z first.on last.on;
    busy = met;
    alone = λ runs. last.alone (runs_later w.pass x.pass z.pass first.on.same first.on.past last.on.past runs);
    pending = λ one. stays_since h w x z (record { same = first.on.same; past = first.on.past })
        (last.pending one);
  }

  pub pops_more : (m n t : ℕ) (w z : WorkerView) (r : Result (Option ℕ) CallFault) → m ≤ n
      → Pops Among Before h m t w z r → Pops Among Before h n t w z r
  pops_more m n t w z r le a = record {
    took = a.took;
    left = a.left;
    won = a.won;
    on = goes_more m n w z le a.on;
    busy = a.busy;
    alone = a.alone;
    pending = a.pending;
  }

  pub no_round_yet : (most : ℕ) (w : WorkerView) → w.pending ≡ None → w.held ≡ None → LostRounds h most 0 w w
  no_round_yet most w none free = record {
    onward = onward_more 0 (0 * most) w w (omega arith)
        (onward_itself w none free);
    met = λ two. met_nothing Delete w.pass;
  }

  -- what they met, and what one round more has met
  met_more : (most n : ℕ) (w x z : WorkerView) → LostRounds h most n w x → 2 ≤ h.tries
      → Pops Among Before h most 1 x z pop_busy → MetInterference Delete w.pass z.pass (n + 1)
  met_more most n w x z first two last = met_then Delete n 1 w.pass x.pass z.pass
      (number_of_pass w.pass x.pass first.onward.on.same) (first.met two) (last.busy refl two)

  pub one_round_more : (most n : ℕ) (w x z : WorkerView) → LostRounds h most n w x
      → Pops Among Before h most 1 x z pop_busy → LostRounds h most (n + 1) w z
  one_round_more most n w x z first last =
      let whole = add-mul n 1 most in
      record {
        onward = onward_more (n * most + most) ((n + 1) * most) w z (omega (arith, whole))
            (onward_then (n * most) most w x z first.onward
            (record { on = last.on; none = last.left; won = last.won }));
        met = λ two. met_more most n w x z first two last;
      }

  pub last_round : (most n rounds : ℕ) (w x z : WorkerView) (r : Result (Option ℕ) CallFault) → suc n ≤ rounds
      → (r ≡ pop_busy → n + 1 ≡ rounds) → LostRounds h most n w x → Pops Among Before h most 1 x z r
      → Pops Among Before h (rounds * most) rounds w z r
  last_round most n rounds w x z r few all first last =
      let whole = suc-mul n most in
      let le = mul-le-mul_right most few in
      pops_more (n * most + most) (rounds * most) rounds w z r (omega (arith, whole, le))
      (pops_since (n * most) most 1 rounds w x z r first.onward
      (λ is two. subst (MetInterference Delete w.pass z.pass) (all is)
      (met_more most n w x z first two (subst (λ (q : Result (Option ℕ) CallFault). Pops Among Before h most 1
      x z q) is last))) last)

-- what was finished first, and then popped
pub pops_after : (Among : ℕ → Type 0) (Before : ℕ → ℕ → Type 0) (b : TreeView) (h : Options) (w x z : WorkerView)
    (answer : Bool) (r : Result (Option ℕ) CallFault) → Finishes b h w x (Ok answer)
    → Pops Among Before h ((h.rounds + 1) * pop_round_bound h b.layout) (h.rounds + 1) x z r
    → Pops Among Before h (pop_rounds_bound h b.layout) (h.rounds + 1) w z r
pops_after Among Before b h w x z answer r f last =
    let most = round_bound h.tries b.layout in
    let sum = mul-add (h.rounds + 1) most (pop_round_bound h b.layout) in
    let first = finished b h w x answer f in
    pops_more Among Before h ((h.rounds + 1) * most + (h.rounds + 1) * pop_round_bound h b.layout)
    (pop_rounds_bound h b.layout) (h.rounds + 1) w z r (omega (arith, sum))
    (pops_since Among Before h ((h.rounds + 1) * most) ((h.rounds + 1) * pop_round_bound h b.layout)
    (h.rounds + 1) (h.rounds + 1) w x z r first (λ is two. met_since Delete (h.rounds + 1) w.pass x.pass z.pass
    (record { same = first.on.same; past = first.on.past }) (last.busy is two)) last)

-- where the remove of an earlier call is not finished, nothing else is done
pub pending_pops : (Among : ℕ → Type 0) (Before : ℕ → ℕ → Type 0) (b : TreeView) (h : Options) (w z : WorkerView)
    → Finishes b h w z (Err fault.Unfinished)
    → Pops Among Before h (pop_rounds_bound h b.layout) (h.rounds + 1) w z (Err fault.Pending)
pending_pops Among Before b h w z f =
    let most = round_bound h.tries b.layout in
    let sum = mul-add (h.rounds + 1) most (pop_round_bound h b.layout) in
    record {
      took = tt;
      left = f.told;
      won = f.won;
      on = goes_more ((h.rounds + 1) * most)
          (pop_rounds_bound h b.layout) w z (omega (arith, sum)) f.on;
      busy = λ is two. absurd (let no = is in cc);
      alone = λ runs. subst IsSome (sym f.told.1) f.told.0;
      pending = λ one. f.lost refl;
    }
