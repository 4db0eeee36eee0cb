-- What managed puts leave, by what each part of them leaves.
use Rattle.std.proofs.Common.{◌≡◌, ◌≤◌, inl, inr, ℕ, ◌+◌, ◌*◌, Bool, length, refl, sym, ap, subst, ◌∙◌, arith}
use Rattle.std.specs.Prelude.{Some, None, IsSome, Result, Ok, Err, IfErr}
use Rattle.std.proofs.Math.Nat.{add-mul, mul-add, zero-mul, mul-le-mul_right}
use Rattle.nm_edge.specs.Layouts.{Layout}
use Rattle.nm_model.specs.declared.event.Op.TheVariants.{Insert}
use Rattle.nm_steps.specs.Steps.{TreeView, PassView, HasSeenAllOf}
use Rattle.nm_steps.proofs.Seeing.{stores_same, stores_through}
use Rattle.nm_calls.specs.Moments.{AnswerHasMoment}
use Rattle.nm_calls.specs.declared.fault.CallFault.{CallFault}
use Rattle.nm_calls.specs.declared.fault.CallFault.TheVariants as fault
use Rattle.nm_calls.proofs.MadeLeaves.{put_earlier}
use Rattle.nm_puts.specs.declared.putting.Condition.{Condition}
use Rattle.nm_puts.specs.declared.putting.PutOutcome.{PutOutcome}
use Rattle.nm_puts.specs.declared.putting.PutOutcome.TheVariants as put
use Rattle.nm_puts.specs.Puts.{Did, IfAnswered, IfDone, links_of}
use Rattle.nm_puts.proofs.ReplacedValues.{replaced_since}
use Rattle.nm_progress.specs.Alone.{RunsAlone}
use Rattle.nm_tree.specs.Answers.{FailsAlone}
use Rattle.nm_tree.specs.Putting.{SaysPut}
use Rattle.nm_tree.proofs.Answered.{found_ever}
use Rattle.nm_tree.specs.Workers.{WorkerView}
use Rattle.nm_tree.proofs.Taking.{moment_since}
use Rattle.nm_set.specs.Asked.{Asked}
use Rattle.nm_set.specs.declared.managed.Options.{Options}
use Rattle.nm_set.specs.Managed.{IsLeft, MetInterference, round_bound}
use Rattle.nm_set.specs.MapPuts.{AnswersPut, ManagesPut, PutsIn, PutsWereBusy, SaysTryPut, put_bound}
use Rattle.nm_set.specs.MapRounds.{KeepsStores}
use Rattle.nm_set.specs.Rounds.{Finishes, IsOnward, rounds_bound}
use Rattle.nm_set.proofs.Managing.{all_none, fails_busy, finished, finished_nothing, finishes_first, goes_more, goes_then, insert_met, left_since, lose_by_call, met_nothing, met_since, met_then, none_each, none_there, number_of_pass, onward_itself, onward_more, onward_then, runs_on, wins_after}
use Rattle.nm_set.proofs.MapManaging.{gave_earlier}

-- ---- an earlier moment

did_earlier : (when : Condition) (k v : ℕ) (o p q : PassView) (done : PutOutcome) → HasSeenAllOf p o
    → Did when k v p q done → Did when k v o q done
did_earlier when k v o p q put.Inserted seen (is, puts) = (is, put_earlier o p q k v seen puts)
did_earlier when k v o p q (put.Replaced old) seen (did, same) = (replaced_since o p q k old v seen did, same)
did_earlier when k v o p q (put.Other found) seen gave = gave_earlier o p q k (Some found) seen gave
did_earlier when k v o p q put.Absent seen gave = gave_earlier o p q k None seen gave

did_if : (when : Condition) (k v : ℕ) (o p q : PassView) (r : Result PutOutcome CallFault) → HasSeenAllOf p o
    → IfDone r (Did when k v p q) → IfDone r (Did when k v o q)
did_if when k v o p q (Ok done) seen did = did_earlier when k v o p q done seen did
did_if when k v o p q (Err f) seen did = tt

answered_earlier : (k : ℕ) (o p q : PassView) (done : PutOutcome) → HasSeenAllOf p o
    → IfAnswered done (λ answer. AnswerHasMoment p q Insert k answer)
    → IfAnswered done (λ answer. AnswerHasMoment o q Insert k answer)
answered_earlier k o p q put.Inserted seen m = moment_since o p q Insert k _ seen m
answered_earlier k o p q (put.Replaced old) seen m = moment_since o p q Insert k _ seen m
answered_earlier k o p q (put.Other found) seen m = moment_since o p q Insert k _ seen m
answered_earlier k o p q put.Absent seen m = tt

answered_if : (k : ℕ) (o p q : PassView) (r : Result PutOutcome CallFault) → HasSeenAllOf p o
    → IfDone r (λ done. IfAnswered done (λ answer. AnswerHasMoment p q Insert k answer))
    → IfDone r (λ done. IfAnswered done (λ answer. AnswerHasMoment o q Insert k answer))
answered_if k o p q (Ok done) seen m = answered_earlier k o p q done seen m
answered_if k o p q (Err f) seen m = tt

-- ---- one put

in_put : (a b x : ℕ) → b ≤ a + x + 10 → b ≤ a + (x + 10)
in_put a b x few = omega (arith, few)

put_left : (L : Layout) (t : ℕ) (when : Condition) (k v : ℕ) (w z : WorkerView) (r : Result PutOutcome CallFault)
    → w.pending ≡ None → SaysPut L t when k v w z r → IsLeft Insert k w z r
put_left L t when k v w z (Ok done) none says = says.told.1
put_left L t when k v w z (Err fault.Busy) none says = says.told.1
put_left L t when k v w z (Err fault.Pending) none says = none_there w.pending none says.told.0
put_left L t when k v w z (Err fault.Full) none says = (refl, says.told.0.1, says.told.1)
put_left L t when k v w z (Err fault.NoMemory) none says =
    (λ no. (let which = no in cc), says.told.0.1, says.told.1)
put_left L t when k v w z (Err fault.Unfinished) none says = absurd says.told
put_left L t when k v w z (Err fault.Pinned) none says = absurd says.told

-- what one of them leaves
abbrev PutsOnce : Layout → ℕ → Condition → ℕ → ℕ → WorkerView → WorkerView → Result PutOutcome CallFault → Type 0
PutsOnce L t when k v w z r = AnswersPut when k v (put_bound t L) t w z r × KeepsStores w z

pub puts_once : (L : Layout) (t : ℕ) (when : Condition) (k v : ℕ) (w z : WorkerView)
    (r : Result PutOutcome CallFault) → w.held ≡ None → w.pending ≡ None → SaysTryPut L t when k v w z r
    → PutsOnce L t when k v w z r
puts_once L t when k v w z r free none try = by try.says
  where
    asked : SaysPut L t when k v w z r → PutsOnce L t when k v w z r
    asked says = (
      record {
        map = says.map;
        moment = says.moment;
        left = put_left L t when k v w z r none says;
        won = says.won;
        on = record {
          same = says.same;
          past = says.past;
          queues = lose_by_call w.pass.view.number w.queues z.queues says.queues;
          steps = in_put (length w.pass.view.log) (length z.pass.view.log) _ says.steps;
          held = says.held;
          fit = says.fit;
        };
        busy = λ is. insert_met w.pass z.pass t says.past (try.busy is);
        alone = λ runs is. (let none' = fails_busy 1 1 t z r is (try.alone runs) in omega (arith, none'));
        frees = says.frees;
      },
      says.stores,
    )

    by : Asked (SaysPut L t when k v) w z r → PutsOnce L t when k v w z r
    by (inl pinned) = none_there w.held free pinned.0
    by (inr did) = asked did.1

-- ---- puts in a row

module _ (b : TreeView) (h : Options) (when : Condition) (k v : ℕ) where
  abbrev one : ℕ
  one = put_bound h.tries b.layout

  pub not_yet_put : (w : WorkerView) → w.pending ≡ None → w.held ≡ None → PutsWereBusy b h 0 w w
  not_yet_put w none free =
      let nothing = zero-mul one in
      let none_tried = zero-mul h.tries in
      record {
        onward = onward_more 0 (0 * one) w w (omega (arith, nothing)) (onward_itself w none free);
        met = subst (MetInterference Insert w.pass w.pass) (sym none_tried) (met_nothing Insert w.pass);
        stores = stores_same w.pass.view.stores w.pass.view.stores refl;
        frees = refl;
      }

  pub put_again : (n : ℕ) (w x z : WorkerView) → PutsWereBusy b h n w x
      → PutsOnce b.layout h.tries when k v x z (Err fault.Busy) → PutsWereBusy b h (n + 1) w z
  put_again n w x z first (a, more) =
      let steps = add-mul n 1 one in
      let tries = add-mul n 1 h.tries in
      record {
        onward = onward_more (n * one + one) ((n + 1) * one) w z (omega (arith, steps))
            (onward_then (n * one) one w x z first.onward (record { on = a.on; none = a.left; won = a.won }));
        met = subst (MetInterference Insert w.pass z.pass) (omega (arith, tries)) (met_then Insert (n * h.tries) h.tries
            w.pass x.pass z.pass (number_of_pass w.pass x.pass first.onward.on.same) first.met (a.busy refl));
        stores = stores_through w.pass.view.stores x.pass.view.stores z.pass.view.stores first.stores more;
        frees = a.frees ∙ first.frees;
      }

  -- the last of at most `rounds` puts, after n that were busy
  pub put_last : (n rounds : ℕ) (w x z : WorkerView) (r : Result PutOutcome CallFault) → n + 1 ≤ rounds
      → (r ≡ Err fault.Busy → n + 1 ≡ rounds) → PutsWereBusy b h n w x
      → PutsOnce b.layout h.tries when k v x z r → PutsIn b h when k v rounds w z r
  put_last n rounds w x z r few all first (a, more) =
      let steps = add-mul n 1 one in
      let tries = add-mul n 1 h.tries in
      let one_more : n * h.tries + h.tries ≡ (n + 1) * h.tries = omega (arith, tries) in
      let le = mul-le-mul_right one few in
      record {
        answers = record {
          map = did_if when k v w.pass x.pass z.pass r first.onward.on.past a.map;
          moment = answered_if k w.pass x.pass z.pass r first.onward.on.past a.moment;
          left = left_since Insert k w x z r first.onward.on.past first.onward.none a.left;
          won = wins_after (links_of r) 0 w x z first.onward.won a.won;
          on = goes_more (n * one + one) (rounds * one) w z (omega (arith, steps, le))
              (goes_then w x z first.onward.on a.on);
          busy = λ is. subst (MetInterference Insert w.pass z.pass) (one_more ∙ ap (λ (j : ℕ). j * h.tries) (all is))
              (met_then Insert (n * h.tries) h.tries w.pass x.pass z.pass
              (number_of_pass w.pass x.pass first.onward.on.same) first.met (a.busy is));
          alone = λ runs is. all_none rounds h.tries (a.alone (runs_on w x z first.onward.on a.on runs) is);
          frees = a.frees ∙ first.frees;
        };
        stores = stores_through w.pass.view.stores x.pass.view.stores z.pass.view.stores first.stores more;
      }

  -- ---- the whole call

  -- why a put failed alone
  put_fails : (most : ℕ) (y z : WorkerView) (r : Result PutOutcome CallFault)
      → AnswersPut when k v most ((h.rounds + 1) * h.tries) y z r → RunsAlone y.pass z.pass
      → IfErr r (FailsAlone 1 1 h.tries z)
  put_fails most y z (Ok done) a runs = tt
  put_fails most y z (Err fault.Busy) a runs =
      let none = none_each (h.rounds + 1) h.tries (omega arith) (a.alone runs refl) in omega (arith, none)
  put_fails most y z (Err fault.Unfinished) a runs = absurd (let no = a.left.0 in cc)
  put_fails most y z (Err fault.Full) a runs = found_ever y.pass z.pass a.left.2
  put_fails most y z (Err fault.NoMemory) a runs = a.left.2
  put_fails most y z (Err fault.Pending) a runs = subst IsSome (sym a.left.1) a.left.0
  put_fails most y z (Err fault.Pinned) a runs = absurd a.left

  pub puts_then : (w y : WorkerView) (answer : Bool) → Finishes b h w y (Ok answer)
      → (z : WorkerView) (r : Result PutOutcome CallFault) → PutsIn b h when k v (h.rounds + 1) y z r
      → ManagesPut b h when k v w z r
  puts_then w y answer f z r puts =
      let came : IsOnward (rounds_bound b h (h.rounds + 1)) w y =
      finished b h w y answer f in
      let a = puts.answers in
      let round = round_bound h.tries b.layout in
      let sum = mul-add (h.rounds + 1) round one in
      record {
        answers = record {
          map = did_if when k v w.pass y.pass z.pass r came.on.past a.map;
          moment = answered_if k w.pass y.pass z.pass r came.on.past a.moment;
          left = left_since Insert k w y z r came.on.past came.none a.left;
          won = wins_after (links_of r) 0 w y z came.won a.won;
          on = goes_more ((h.rounds + 1) * round + (h.rounds + 1) * one) ((h.rounds + 1) * (round + one)) w z
              (omega (arith, sum)) (goes_then w y z came.on a.on);
          busy = λ is. met_since Insert ((h.rounds + 1) * h.tries) w.pass y.pass z.pass
              (record { same = came.on.same; past = came.on.past }) (a.busy is);
          alone = λ runs is. a.alone (runs_on w y z came.on a.on runs) is;
          frees = a.frees ∙ f.frees;
        };
        begins = λ other. (y.pass, finishes_first b h w y answer f, a.map);
        stores = λ none. subst (λ (x : WorkerView). KeepsStores x z)
            (finished_nothing b h w y answer none f) puts.stores;
        alone = λ runs. put_fails ((h.rounds + 1) * one) y z r a (runs_on w y z came.on a.on runs);
        pending = λ is. none_there y.pending came.none (subst (IsLeft Insert k y z) is a.left).0;
      }

  -- if the remove of an earlier call is not finished, nothing is put
  pub pending_put : (w z : WorkerView) → Finishes b h w z (Err fault.Unfinished)
      → ManagesPut b h when k v w z (Err fault.Pending)
  pending_put w z f =
      let round = round_bound h.tries b.layout in
      let sum = mul-add (h.rounds + 1) round one in
      record {
        answers = record {
          map = tt;
          moment = tt;
          left = (f.told.0, f.told.1);
          won = f.won;
          on = goes_more ((h.rounds + 1) * round) ((h.rounds + 1) * (round + one)) w z (omega (arith, sum)) f.on;
          busy = λ is. absurd (let no = is in cc);
          alone = λ runs is. absurd (let no = is in cc);
          frees = f.frees;
        };
        begins = λ other. absurd (other refl);
        stores = λ none. none_there w.pending none f.told.0;
        alone = λ runs. subst IsSome (sym f.told.1) f.told.0;
        pending = λ is. f.lost refl;
      }
