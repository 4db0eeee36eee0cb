-- What managed calls of a map leave, by what each part of them leaves.
use Rattle.std.proofs.Common.{◌≡◌, ◌≢◌, ◌≤◌, inl, inr, ℕ, ◌+◌, ◌*◌, Bool, true, false, List, [], ◌∷◌, ◌++◌, append_assoc, length, refl, sym, ap, subst, ◌∙◌, arith}
use Rattle.std.specs.Prelude.{Option, Some, None, IsSome, Result, Ok, Err, IfOk, IfErr}
use Rattle.std.proofs.Math.Nat.{add-mul, mul-add, zero-mul, mul-le-mul_right}
use Rattle.std.proofs.lemmas.List.{length-append}
use Rattle.std.proofs.lemmas.Option.{none-some}
use Rattle.nm_edge.specs.Layouts.{Layout}
use Rattle.nm_model.specs.declared.event.Op.{Op}
use Rattle.nm_model.specs.declared.event.Op.TheVariants.{Has, Insert, Delete}
use Rattle.nm_model.specs.declared.trace.Turn.{Turn}
use Rattle.nm_progress.specs.Alone.{IsAlone}
use Rattle.nm_progress.specs.Walked.{ManyWereBusy}
use Rattle.nm_progress.proofs.RunningAlone.{alone_later}
use Rattle.nm_steps.specs.declared.view.Stored.{Stored}
use Rattle.nm_steps.specs.Rules.{Extends}
use Rattle.nm_steps.specs.Steps.{TreeView, PassView, HasSeenAllOf, IsSamePass}
use Rattle.nm_steps.proofs.Seeing.{seen_itself, stores_same, stores_through}
use Rattle.nm_walks.specs.Bounds.{reach}
use Rattle.nm_calls.specs.InTurns.{GiveUp as GiveUpInTurns}
use Rattle.nm_calls.specs.Maps.{HasTaken, MapGave, WasTaken}
use Rattle.nm_calls.specs.PlainWalks.{most_looks}
use Rattle.nm_calls.specs.declared.fault.CallFault.{CallFault}
use Rattle.nm_calls.specs.declared.fault.CallFault.TheVariants as fault
use Rattle.nm_calls.proofs.MadeLeaves.{put_earlier}
use Rattle.nm_calls.proofs.MapMoments.{holds_longer}
use Rattle.nm_tree.specs.Answers.{FailsAlone, FreesNone, IfTaken, freed_in}
use Rattle.nm_tree.proofs.Unfreed.{in_turns_unfreed, seen_frees_none}
use Rattle.nm_tree.specs.Calls.{LeavesGet}
use Rattle.nm_tree.specs.Workers.{WorkerView}
use Rattle.nm_set.specs.Asked.{Asked}
use Rattle.nm_set.specs.declared.managed.Options.{Options}
use Rattle.nm_set.specs.Managed.{IsLeft, ManagesIn, MetInterference, SaysManaged, round_bound}
use Rattle.nm_set.specs.MapRounds.{GetsIn, KeepsStores, LooksWereBusy, MovesValue, SaysRemoved}
use Rattle.nm_set.specs.Maps.{AnswersGet, ManagesGet, PopsValue, SaysChange, TookMeanwhile, look_bound}
use Rattle.nm_set.specs.Rounds.{AnswersIn, Finishes, IsOnward, Removes, rounds_bound}
use Rattle.nm_set.proofs.Managing.{finished, finished_nothing, finishes_first, goes_more, goes_then, left_since, lose_same, manages_in, met_nothing, met_since, met_then, never_full, never_unfinished, none_there, number_of_pass, onward_itself, onward_more, onward_then, wins_after}

-- ---- an earlier moment

-- what had been seen earlier is no longer
shorter : (o p : PassView) → HasSeenAllOf p o → length o.view.past ≤ length p.view.past
shorter o p seen =
    let n = ap (λ (ts : List Turn). length ts) seen.goes_on.is ∙ length-append o.view.past seen.goes_on.more in
    omega (arith, n)

-- a map gave an answer after all that had been seen earlier, too; and so a key was taken
pub gave_earlier : (o p q : PassView) (k : ℕ) (answer : Option ℕ) → HasSeenAllOf p o → MapGave p q k answer
    → MapGave o q k answer
gave_earlier o p q k answer seen gave = record {
  so_far = gave.so_far;
  rest = gave.rest;
  are = gave.are;
  later = (let later = gave.later in let few = shorter o p seen in omega (arith, later, few));
  pinned = gave.pinned;
  gives = gave.gives;
  stored = gave.stored;
}

taken_since : (L : Layout) (first was now : List Turn) (stores : List Stored) (w k v : ℕ) → length first ≤ length was
    → WasTaken L was now stores w k v → WasTaken L first now stores w k v
taken_since L first was now stores w k v few taken = record {
  so_far = taken.so_far;
  flag = taken.flag;
  rest = taken.rest;
  are = taken.are;
  pin = taken.pin;
  later = (let later = taken.later in omega (arith, later, few));
  call = taken.call;
  first = taken.first;
  extends = taken.extends;
  is = taken.is;
  stored = taken.stored;
  won = taken.won;
}

taken_earlier : (o p q : PassView) (k v : ℕ) → HasSeenAllOf p o → HasTaken p q k v → HasTaken o q k v
taken_earlier o p q k v seen = taken_since q.view.layout o.view.past p.view.past q.view.past q.view.stores
    q.view.number k v (shorter o p seen)

-- it was taken by what is seen later, too
taken_later : (L : Layout) (was now later : List Turn) (stores : List Stored) (w k v : ℕ) → Extends later now
    → WasTaken L was now stores w k v → WasTaken L was later stores w k v
taken_later L was now later stores w k v more taken = record {
  so_far = taken.so_far;
  flag = taken.flag;
  rest = taken.rest ++ more.more;
  are = more.is ∙ (ap (λ (ts : List Turn). ts ++ more.more) taken.are
      ∙ append_assoc taken.so_far (taken.flag ∷ taken.rest) more.more);
  pin = taken.pin;
  later = taken.later;
  call = taken.call;
  first = taken.first;
  extends = taken.extends;
  is = taken.is;
  stored = holds_longer L taken.so_far now later taken.first more taken.stored;
  won = taken.won;
}

gave_if : (o p q : PassView) (k : ℕ) (r : Result (Option ℕ) CallFault) → HasSeenAllOf p o → IfOk r (MapGave p q k)
    → IfOk r (MapGave o q k)
gave_if o p q k (Ok answer) seen gave = gave_earlier o p q k answer seen gave
gave_if o p q k (Err f) seen gave = tt

-- what holds of a remove whose leaf is flagged, by what holds of each
if_each : (r : Result Bool CallFault) {P Q : Type 0} → (P → Q) → IfTaken r P → IfTaken r Q
if_each (Ok true) grows p = grows p
if_each (Ok false) grows p = tt
if_each (Err fault.Unfinished) grows p = grows p
if_each (Err fault.Busy) grows p = tt
if_each (Err fault.Full) grows p = tt
if_each (Err fault.NoMemory) grows p = tt
if_each (Err fault.Pending) grows p = tt
if_each (Err fault.Pinned) grows p = tt

if_any : (r : Result Bool CallFault) {P : Type 0} → P → IfTaken r P
if_any (Ok true) p = p
if_any (Ok false) p = tt
if_any (Err fault.Unfinished) p = p
if_any (Err fault.Busy) p = tt
if_any (Err fault.Full) p = tt
if_any (Err fault.NoMemory) p = tt
if_any (Err fault.Pending) p = tt
if_any (Err fault.Pinned) p = tt

pub moves_earlier : (op : Op) (k v t : ℕ) (o p q : PassView) (r : Result Bool CallFault) → HasSeenAllOf p o
    → MovesValue op k v t p q r → MovesValue op k v t o q r
moves_earlier Has k v t o p q r seen moves = tt
moves_earlier Insert k v t o p q r seen (puts, finds) =
    (λ is. put_earlier o p q k v seen (puts is), λ is. gave_earlier o p q k (Some t) seen (finds is))
moves_earlier Delete k v t o p q r seen moves = if_each r (taken_earlier o p q k t seen) moves

-- a call that is busy has moved no value
pub took_now : (o p q : PassView) (k t : ℕ) (r : Result Bool CallFault) → HasSeenAllOf p o
    → IfTaken r (HasTaken p q k t) → IfTaken r (TookMeanwhile o q k t)
took_now o p q k t r seen taken = if_each r (λ had.
    record { stores = q.view.stores; taken = taken_earlier o p q k t seen had }) taken

pub took_before : (o p x q : PassView) (k t : ℕ) (r : Result Bool CallFault) → HasSeenAllOf p o → HasTaken p x k t
    → HasSeenAllOf q x → IsSamePass x q → IfTaken r (TookMeanwhile o q k t)
took_before o p x q k t r seen had until same = if_any r (record {
  stores = x.view.stores;
  taken = subst (λ (s : PassView). WasTaken s.view.layout o.view.past q.view.past x.view.stores s.view.number k t)
      (sym same)
      (taken_later x.view.layout o.view.past x.view.past q.view.past x.view.stores x.view.number k t until.goes_on
      (taken_earlier o p x k t seen had));
})

-- ---- pops

-- what a managed remove of a set says, and one of a map
pub removed_from_set : (b : TreeView) (h : Options) (k : ℕ) (w z : WorkerView) (r : Result Bool CallFault)
    → SaysManaged Delete b h k w z r → SaysRemoved b h k w z r
removed_from_set b h k w z r (inl pinned) = inl pinned
removed_from_set b h k w z r (inr (free, m)) =
    inr (free, record { answers = m.answers; alone = m.alone; pending = λ is. m.pending (inr is) })

pub removed_from_map : (b : TreeView) (h : Options) (k : ℕ) (w z : WorkerView) (r : Result Bool CallFault)
    → SaysChange Delete b h k w z r → SaysRemoved b h k w z r
removed_from_map b h k w z r (inl pinned) = inl pinned
removed_from_map b h k w z r (inr (free, m)) =
    inr (free, record { answers = m.answers; alone = m.alone; pending = λ is. m.pending (inr is) })

-- which frees no node
pub change_frees_none : (b : TreeView) (h : Options) (k : ℕ) (w z : WorkerView) (r : Result Bool CallFault)
    → SaysChange Delete b h k w z r → FreesNone w z
change_frees_none b h k w z r (inl pinned) = ap (λ (v : WorkerView). freed_in v.pass.view.log) pinned.2
change_frees_none b h k w z r (inr did) = did.1.frees refl

-- a pop took a value after all that had been seen earlier, too
pub pops_earlier : (o p q : PassView) (v : ℕ) (r : Result (Option ℕ) CallFault) → HasSeenAllOf p o
    → PopsValue p q v r → PopsValue o q v r
pops_earlier o p q v (Ok (Some k)) seen took = record {
  stores = took.stores;
  taken = taken_since q.view.layout
      o.view.past p.view.past q.view.past took.stores q.view.number k v (shorter o p seen) took.taken;
}
pops_earlier o p q v (Ok None) seen took = tt
pops_earlier o p q v (Err f) seen took = tt

-- ---- look-ups of a value in a row

in_looks : (a b t x : ℕ) → b ≤ a + 3 * t + x + 2 → b ≤ a + (3 * t + x + 2)
in_looks a b t x few = omega (arith, few)

get_left : (L : Layout) (t k : ℕ) (w z : WorkerView) (r : Result (Option ℕ) CallFault) → w.pending ≡ None
    → LeavesGet L t k w z r → IsLeft Has k w z r
get_left L t k w z (Ok answer) none l = l.did.0.1
get_left L t k w z (Err fault.Busy) none l = l.did.0.1
get_left L t k w z (Err fault.Pending) none l = none_there w.pending none l.did.0
get_left L t k w z (Err fault.Full) none l = absurd l.did
get_left L t k w z (Err fault.NoMemory) none l = absurd l.did
get_left L t k w z (Err fault.Unfinished) none l = absurd l.did
get_left L t k w z (Err fault.Pinned) none l = absurd l.did

met_once : (p q : PassView) (t : ℕ) → 1 ≤ t → ManyWereBusy p q t → MetInterference Has p q 1
met_once p q t some (inl none) = absurd (omega (arith, some, none))
met_once p q t some (inr (inl moved)) = (moved.turns, moved.is, let many = moved.moved in omega (arith, many, some))
met_once p q t some (inr (inr (shape, r))) = (r.turns, r.is, let many = r.reshaped in omega (arith, many))

-- a look-up of a value frees no node
get_frees_none : (L : Layout) (t k : ℕ) (w z : WorkerView) (r : Result (Option ℕ) CallFault) → LeavesGet L t k w z r
    → FreesNone w z
get_frees_none L t k w z r l = seen_frees_none (GiveUpInTurns L (k ∷ [])) (in_turns_unfreed L (k ∷ [])) t
    (most_looks (reach L) 1) w z r l.did

-- one of them
abbrev GetsOnce : Layout → ℕ → ℕ → WorkerView → WorkerView → Result (Option ℕ) CallFault → Type 0
GetsOnce L t k w z r = AnswersGet k (look_bound t L) 1 t w z r × KeepsStores w z × FreesNone w z

pub gets_once : (L : Layout) (t k : ℕ) (w z : WorkerView) (r : Result (Option ℕ) CallFault) → w.held ≡ None
    → w.pending ≡ None → Asked (LeavesGet L t k) w z r → GetsOnce L t k w z r
gets_once L t k w z r free none (inl pinned) = none_there w.held free pinned.0
gets_once L t k w z r free none (inr did) =
    let l = did.1 in (
      record {
        moment = l.moment;
        left = get_left L t k w z r none l;
        won = l.won;
        on = record {
          same = l.same;
          past = l.past;
          queues = lose_same w.pass.view.number w.queues z.queues l.queues;
          steps = in_looks (length w.pass.view.log) (length z.pass.view.log) t (most_looks (reach L) 1) l.steps;
          held = l.held;
          fit = l.fit;
        };
        busy = λ is some. met_once w.pass z.pass t some (l.interfered is);
        alone = λ mine is. l.alone mine is;
      },
      l.stores,
      get_frees_none L t k w z r l,
    )

module _ (b : TreeView) (h : Options) where
  abbrev one : ℕ
  one = look_bound h.tries b.layout

  pub not_yet_looked : (w : WorkerView) → w.pending ≡ None → w.held ≡ None → LooksWereBusy b h 0 w w
  not_yet_looked w none free =
      let nothing = zero-mul one in
      record {
        onward = onward_more 0 (0 * one) w w (omega (arith, nothing)) (onward_itself w none free);
        met = λ some. met_nothing Has w.pass;
        stores = stores_same w.pass.view.stores w.pass.view.stores refl;
        frees = refl;
      }

  pub looked_again : (k n : ℕ) (w x z : WorkerView) → LooksWereBusy b h n w x
      → GetsOnce b.layout h.tries k x z (Err fault.Busy) → LooksWereBusy b h (n + 1) w z
  looked_again k n w x z first (a, more, none) =
      let steps = add-mul n 1 one in
      record {
        onward = onward_more (n * one + one) ((n + 1) * one) w z (omega (arith, steps))
            (onward_then (n * one) one w x z first.onward (record { on = a.on; none = a.left; won = a.won }));
        met = λ some. met_then Has n 1 w.pass x.pass z.pass (number_of_pass w.pass x.pass first.onward.on.same)
            (first.met some) (a.busy refl some);
        stores = stores_through w.pass.view.stores x.pass.view.stores z.pass.view.stores first.stores more;
        frees = none ∙ first.frees;
      }

  -- the last of at most `rounds` look-ups, after n that were busy
  pub looked_last : (k n rounds : ℕ) (w x z : WorkerView) (r : Result (Option ℕ) CallFault) → n + 1 ≤ rounds
      → (r ≡ Err fault.Busy → n + 1 ≡ rounds) → LooksWereBusy b h n w x → GetsOnce b.layout h.tries k x z r
      → GetsIn b h k rounds w z r
  looked_last k n rounds w x z r few all first (a, more, none) =
      let steps = add-mul n 1 one in
      let le = mul-le-mul_right one few in
      record {
        answers = record {
          moment = gave_if w.pass x.pass z.pass k r first.onward.on.past a.moment;
          left = left_since Has k w x z r first.onward.on.past first.onward.none a.left;
          won = wins_after 0 0 w x z first.onward.won a.won;
          on = goes_more (n * one + one) (rounds * one) w z (omega (arith, steps, le))
              (goes_then w x z first.onward.on a.on);
          busy = λ is some. subst (MetInterference Has w.pass z.pass) (all is)
              (met_then Has n 1 w.pass x.pass z.pass (number_of_pass w.pass x.pass first.onward.on.same)
              (first.met some) (a.busy is some));
          alone = λ mine is. a.alone (alone_later w.pass x.pass z.pass first.onward.on.same first.onward.on.past
              a.on.past mine) is;
        };
        stores = stores_through w.pass.view.stores x.pass.view.stores z.pass.view.stores first.stores more;
        frees = none ∙ first.frees;
      }

  -- one look-up that is not busy, or the only one
  pub gets_at_once : (k : ℕ) (w z : WorkerView) (r : Result (Option ℕ) CallFault) → w.pending ≡ None → w.held ≡ None
      → (r ≡ Err fault.Busy → h.rounds ≡ 0) → GetsOnce b.layout h.tries k w z r → GetsIn b h k (h.rounds + 1) w z r
  gets_at_once k w z r none free only once = looked_last k 0 (h.rounds + 1) w w z r (omega arith)
      (λ is. let no = only is in omega (arith, no)) (not_yet_looked w none free) once

  -- n look-ups after one that was busy
  pub gets_at_last : (k n : ℕ) (w x z : WorkerView) (r : Result (Option ℕ) CallFault)
      → GetsOnce b.layout h.tries k w x (Err fault.Busy) → GetsIn b h k n x z r → GetsIn b h k (1 + n) w z r
  gets_at_last k n w x z r (first, seen, none) gets =
      let a = gets.answers in
      let steps = add-mul 1 n one in
      record {
        answers = record {
          moment = gave_if w.pass x.pass z.pass k r first.on.past a.moment;
          left = left_since Has k w x z r first.on.past first.left a.left;
          won = wins_after 0 0 w x z first.won a.won;
          on = goes_more (one + n * one) ((1 + n) * one) w z (omega (arith, steps)) (goes_then w x z first.on a.on);
          busy = λ is some. met_then Has 1 n w.pass x.pass z.pass (number_of_pass w.pass x.pass first.on.same)
              (first.busy refl some) (a.busy is some);
          alone = λ mine is. a.alone (alone_later w.pass x.pass z.pass first.on.same first.on.past a.on.past mine) is;
        };
        stores = stores_through w.pass.view.stores x.pass.view.stores z.pass.view.stores seen gets.stores;
        frees = gets.frees ∙ none;
      }

-- ---- the three calls

-- why a look-up failed alone
get_fails : (b : TreeView) (h : Options) (k n : ℕ) (y z : WorkerView) (r : Result (Option ℕ) CallFault)
    → AnswersGet k n (h.rounds + 1) h.tries y z r → IsAlone y.pass z.pass → IfErr r (FailsAlone 1 1 h.tries z)
get_fails b h k n y z (Ok answer) a mine = tt
get_fails b h k n y z (Err fault.Busy) a mine = let none = a.alone mine refl in omega (arith, none)
get_fails b h k n y z (Err fault.Unfinished) a mine = absurd (let no = a.left.0 in cc)
get_fails b h k n y z (Err fault.Full) a mine = absurd (let no = a.left.0 in cc)
get_fails b h k n y z (Err fault.NoMemory) a mine = a.left.2
get_fails b h k n y z (Err fault.Pending) a mine = subst IsSome (sym a.left.1) a.left.0
get_fails b h k n y z (Err fault.Pinned) a mine = absurd a.left

module _ (b : TreeView) (h : Options) (k : ℕ) (w y : WorkerView) (answer : Bool)
    (f : Finishes b h w y (Ok answer)) where
  abbrev came : IsOnward (rounds_bound b h (h.rounds + 1)) w y
  came = finished b h w y answer f

  pub gets_then : (z : WorkerView) (r : Result (Option ℕ) CallFault) → GetsIn b h k (h.rounds + 1) y z r
      → ManagesGet b h k w z r
  gets_then z r gets =
      let a = gets.answers in
      let round = round_bound h.tries b.layout in
      let looks = look_bound h.tries b.layout in
      let sum = mul-add (h.rounds + 1) round looks in
      record {
        answers = record {
          moment = gave_if w.pass y.pass z.pass k r came.on.past a.moment;
          left = left_since Has k w y z r came.on.past came.none a.left;
          won = wins_after 0 0 w y z came.won a.won;
          on = goes_more ((h.rounds + 1) * round + (h.rounds + 1) * looks) ((h.rounds + 1) * (round + looks)) w z
              (omega (arith, sum)) (goes_then w y z came.on a.on);
          busy = λ is some. met_since Has (h.rounds + 1) w.pass y.pass z.pass
              (record { same = came.on.same; past = came.on.past }) (a.busy is some);
          alone = λ mine is. a.alone (alone_later w.pass y.pass z.pass came.on.same came.on.past a.on.past mine) is;
        };
        begins = λ other. (y.pass, finishes_first b h w y answer f, a.moment);
        stores = λ none. subst (λ (v : WorkerView). KeepsStores v z)
            (finished_nothing b h w y answer none f) gets.stores;
        alone = λ mine. get_fails b h k ((h.rounds + 1) * looks) y z r a
            (alone_later w.pass y.pass z.pass came.on.same came.on.past a.on.past mine);
        pending = λ is. none_there y.pending came.none (subst (IsLeft Has k y z) is a.left).0;
        frees = gets.frees ∙ f.frees;
      }

  pub inserts_then : (z : WorkerView) (r : Result Bool CallFault) → FreesNone y z
      → AnswersIn b h Insert k (h.rounds + 1) y z r → ManagesIn true b h Insert k w z r
  inserts_then z r none a = manages_in true b h Insert k (h.rounds + 1) (h.rounds + 1) w y z r (omega arith) came
      (finishes_first b h w y answer f) a
      (λ is. (left_since {A = Bool} Insert k w y z (Err fault.Full) came.on.past came.none
      (subst (IsLeft Insert k y z) is a.left)).2)
      (never_unfinished Insert k _ _ y z r (λ is. (let no = is in cc)) a) (λ map. none ∙ f.frees)

  pub removes_then : (z : WorkerView) (r : Result Bool CallFault) → FreesNone y z → Removes b h k y z r
      → ManagesIn true b h Delete k w z r
  removes_then z r none a = manages_in true b h Delete k (h.rounds + 1) (2 * h.rounds + 2) w y z r (omega arith) came
      (finishes_first b h w y answer f) a.answers
      (never_full Delete k _ _ y z r (λ is. (let no = is in cc)) a.answers) a.lost (λ map. none ∙ f.frees)

-- ---- a look-up with nothing to do first

get_had_none : (L : Layout) (t k : ℕ) (w z : WorkerView) (r : Result (Option ℕ) CallFault) → r ≢ Err fault.Pending
    → LeavesGet L t k w z r → w.pending ≡ None
get_had_none L t k w z (Ok answer) other l = l.did.0.0
get_had_none L t k w z (Err fault.Busy) other l = l.did.0.0
get_had_none L t k w z (Err fault.Pending) other l = absurd (other refl)
get_had_none L t k w z (Err fault.Full) other l = absurd l.did
get_had_none L t k w z (Err fault.NoMemory) other l = absurd l.did
get_had_none L t k w z (Err fault.Unfinished) other l = absurd l.did
get_had_none L t k w z (Err fault.Pinned) other l = absurd l.did

pub unless_pending : (f : CallFault) → f ≢ fault.Pending
    → ◌≢◌ {A = Result (Option ℕ) CallFault} (Err f) (Err fault.Pending)
unless_pending f other is = other (let same = is in cc)

-- a look-up that failed for another reason than an earlier remove was busy
pub get_failed : (L : Layout) (t k : ℕ) (w z : WorkerView) (f : CallFault) → f ≢ fault.Pending
    → LeavesGet L t k w z (Err f) → (f ≡ fault.Busy) × (w.pending ≡ None) × (z.pending ≡ None)
get_failed L t k w z fault.Busy other l = (refl, l.did.0.0, l.did.0.1)
get_failed L t k w z fault.Pending other l = absurd (other refl)
get_failed L t k w z fault.Full other l = absurd l.did
get_failed L t k w z fault.NoMemory other l = absurd l.did
get_failed L t k w z fault.Unfinished other l = absurd l.did
get_failed L t k w z fault.Pinned other l = absurd l.did

pub pending_gets : (L : Layout) (t k : ℕ) (w z : WorkerView) (f : CallFault) → f ≡ fault.Pending
    → LeavesGet L t k w z (Err f) → z ≡ w
pending_gets L t k w z f is l = (subst (λ (g : CallFault). LeavesGet L t k w z (Err g)) is l).did.1

pub gets_now : (b : TreeView) (h : Options) (k : ℕ) (w z : WorkerView) (r : Result (Option ℕ) CallFault)
    → w.held ≡ None → w.pending ≡ None → GetsIn b h k (h.rounds + 1) w z r → ManagesGet b h k w z r
gets_now b h k w z r free none gets =
    let a = gets.answers in
    let round = round_bound h.tries b.layout in
    let looks = look_bound h.tries b.layout in
    let sum = mul-add (h.rounds + 1) round looks in
    record {
      answers = record {
        moment = a.moment;
        left = a.left;
        won = a.won;
        on = goes_more ((h.rounds + 1) * looks) ((h.rounds + 1) * (round + looks)) w z (omega (arith, sum)) a.on;
        busy = a.busy;
        alone = a.alone;
      };
      begins = λ other. (
        w.pass,
        record {
          after = seen_itself w.pass;
          earlier = λ u is o had. absurd
              (none-some u (sym none ∙ is));
        },
        a.moment,
      );
      stores = λ none'. gets.stores;
      alone = λ mine. get_fails b h k ((h.rounds + 1) * looks) w z r a mine;
      pending = λ is. none_there w.pending none (subst (IsLeft Has k w z) is a.left).0;
      frees = gets.frees;
    }

-- a look-up that was answered, or the only one, which was busy
pub got_at_once : (b : TreeView) (h : Options) (k : ℕ) (w z : WorkerView) (r : Result (Option ℕ) CallFault)
    → w.held ≡ None → r ≢ Err fault.Pending → (r ≡ Err fault.Busy → h.rounds ≡ 0)
    → LeavesGet b.layout h.tries k w z r → ManagesGet b h k w z r
got_at_once b h k w z r free other only l =
    let none = get_had_none b.layout h.tries k w z r other l in
    gets_now b h k w z r free none (gets_at_once b h k w z r none free only
    (gets_once b.layout h.tries k w z r free none (inr (free, l))))

-- if the remove of an earlier call is not finished, nothing is looked up
pub pending_get : (b : TreeView) (h : Options) (k : ℕ) (w z : WorkerView)
    → Finishes b h w z (Err fault.Unfinished) → ManagesGet b h k w z (Err fault.Pending)
pending_get b h k w z f =
    let round = round_bound h.tries b.layout in
    let looks = look_bound h.tries b.layout in
    let sum = mul-add (h.rounds + 1) round looks in
    record {
      answers = record {
        moment = tt;
        left = (f.told.0, f.told.1);
        won = f.won;
        on = goes_more ((h.rounds + 1) * round) ((h.rounds + 1) * (round + looks)) w z (omega (arith, sum)) f.on;
        busy = λ is. absurd (let no = is in cc);
        alone = λ mine is. absurd (let no = is in cc);
      };
      begins = λ other. absurd (other refl);
      stores = λ none. none_there w.pending none f.told.0;
      alone = λ mine. subst IsSome (sym f.told.1) f.told.0;
      pending = λ is. f.lost refl;
      frees = f.frees;
    }
