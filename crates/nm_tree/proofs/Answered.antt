-- What a call of the tree shows of its worker, by the answer of the function below it.
use Rattle.std.proofs.Common.{◌≡◌, ◌⊎◌, inl, inr, ◌+◌, ◌*◌, arith, ℕ, Bool, List, ◌++◌, refl, sym, subst}
use Rattle.std.specs.Prelude.{Result, Ok, Err, IfOk, IfErr, IsErrOf, IsSome}
use Rattle.std.proofs.lemmas.List.Elements.{Contains-append_right}
use Rattle.nm_edge.specs.Layouts.{Layout}
use Rattle.nm_model.specs.declared.event.Event.TheVariants.{Claim, Look}
use Rattle.nm_model.specs.declared.event.Field.TheVariants.{Birth}
use Rattle.nm_model.specs.declared.reply.Reply.TheVariants.{BirthIs, Taken}
use Rattle.nm_model.specs.declared.trace.Turn.{Turn}
use Rattle.nm_model.specs.Step.{last_number}
use Rattle.nm_steps.specs.Steps.{PassView}
use Rattle.nm_model.specs.Walks.{Entry}
use Rattle.nm_calls.specs.declared.fault.CallFault.{CallFault}
use Rattle.nm_calls.specs.declared.fault.CallFault.TheVariants as fault
use Rattle.nm_calls.specs.Calls.{HasDid, HasMissed}
use Rattle.nm_calls.specs.Inserts.{InsertDid}
use Rattle.nm_calls.specs.PlainWalks.{LooksUnderPin, PlainMissed}
use Rattle.nm_calls.specs.Scans.{count_of}
use Rattle.nm_calls.specs.declared.scanning.Scanned.{Scanned}
use Rattle.nm_puts.specs.declared.putting.Condition.{Condition}
use Rattle.nm_puts.specs.declared.putting.PutOutcome.{PutOutcome}
use Rattle.nm_puts.specs.Puts.{PutDid}
use Rattle.nm_tree.specs.Answers.{IsFree, LacksRoom, HasTold, HasAnswered, InsertTold, HasInserted, FailsAlone, FindsNoSlot, FoundNoSlot, HasMade}
use Rattle.nm_tree.specs.Looked.{HasSeenMore}
use Rattle.nm_tree.specs.Workers.{WorkerView}

-- what holds of each error holds where there is this one
pub of_error : {X P : Type 0} (r : Result X CallFault) (f : CallFault) → IsErrOf r f → IfErr r (λ e. P) → P
of_error {X} {P} r f is holds = subst (λ (s : Result X CallFault). IfErr s (λ e. P)) is holds

-- ---- why a call failed that ran alone

pub look_fails : (tries : ℕ) (z : WorkerView) (r : Result Bool CallFault) → IfErr r (λ e. e ≡ fault.Busy)
    → (IsErrOf r fault.Busy → tries ≡ 0) → IfErr r (FailsAlone 1 1 tries z)
look_fails tries z (Ok b) busy none = tt
look_fails tries z (Err e) busy none = subst (FailsAlone 1 1 tries z) (sym busy)
    (let zero = none (let P : CallFault → Type 0 = λ f. IsErrOf {T = Bool} (Err f) fault.Busy in
    subst P (sym busy) refl) in omega (arith, zero))

-- a worker that found no slot since a moment found none in all
pub found_ever : (p q : PassView) → FoundNoSlot p q → FindsNoSlot q.view.layout.nodes q.view.number q.view.past
found_ever p q (turns, is, finds) = λ s low high. subst
    (λ (ts : List Turn). HasMade q.view.number ts (Claim s) Taken
    ⊎ HasMade q.view.number ts (Look s Birth) (BirthIs last_number)) (sym is) (by s (finds s low high))
  where
    by : (s : ℕ) → HasMade q.view.number turns (Claim s) Taken
        ⊎ HasMade q.view.number turns (Look s Birth) (BirthIs last_number)
        → HasMade q.view.number (p.view.past ++ turns) (Claim s) Taken
        ⊎ HasMade q.view.number (p.view.past ++ turns) (Look s Birth) (BirthIs last_number)
    by s (inl made) = inl (Contains-append_right p.view.past turns _ made)
    by s (inr made) = inr (Contains-append_right p.view.past turns _ made)

pub insert_fails : {A : Type 0} (tries : ℕ) (w z : WorkerView) (r : Result A CallFault) → InsertTold w z r
    → (IsErrOf r fault.Busy → tries ≡ 0) → IfErr r (FailsAlone 1 1 tries z)
insert_fails tries w z (Ok a) told none = tt
insert_fails tries w z (Err fault.Busy) told none = let zero = none refl in omega (arith, zero)
insert_fails tries w z (Err fault.Unfinished) told none = absurd told
insert_fails tries w z (Err fault.Full) told none = found_ever w.pass z.pass told.1
insert_fails tries w z (Err fault.NoMemory) told none = told.1
insert_fails tries w z (Err fault.Pending) told none = subst (λ (v : WorkerView). IsSome v.pending) (sym told.1) told.0
insert_fails tries w z (Err fault.Pinned) told none = absurd told

-- ---- what a call shows of its worker

module _ (L : Layout) (tries k : ℕ) (w z : WorkerView) (free : IsFree w z) where
  pub has_told : (r : Result Bool CallFault) → IfErr r (λ e. e ≡ fault.Busy) → HasTold w z r
  has_told (Ok b) busy = free
  has_told (Err e) busy = subst (λ (f : CallFault). HasTold w z (Err f)) (sym busy) free

  pub has_answered : (r : Result Bool CallFault) → IfOk r (HasDid L tries k w.pass.view.log z.pass.view.log)
      → IfErr r (λ e. HasMissed L tries k w.pass.view.log z.pass.view.log) → IfErr r (λ e. e ≡ fault.Busy)
      → HasAnswered L tries k w z r
  has_answered (Ok b) did missed busy = (free, did)
  has_answered (Err e) did missed busy = subst (λ (f : CallFault). HasAnswered L tries k w z (Err f)) (sym busy)
      (free, missed)

  pub insert_told : (r : Result Bool CallFault) → (IsErrOf r fault.Full → FoundNoSlot w.pass z.pass)
      → (IsErrOf r fault.NoMemory → LacksRoom z) → InsertDid w.fit L tries k w.pass.view.log z.pass.view.log r
      → InsertTold w z r
  insert_told (Ok b) full lacks did = free
  insert_told (Err fault.Busy) full lacks did = free
  insert_told (Err fault.Full) full lacks did = (free, full refl)
  insert_told (Err fault.NoMemory) full lacks did = (free, lacks refl)
  insert_told (Err fault.Pending) full lacks did = absurd did.3
  insert_told (Err fault.Pinned) full lacks did = absurd did.3
  insert_told (Err fault.Unfinished) full lacks did = absurd did.3

  pub has_inserted : (r : Result Bool CallFault) → InsertDid w.fit L tries k w.pass.view.log z.pass.view.log r
      → HasInserted L tries k w z r
  has_inserted (Ok b) did = (free, did)
  has_inserted (Err fault.Busy) did = (free, did)
  has_inserted (Err fault.Full) did = (free, did)
  has_inserted (Err fault.NoMemory) did = (free, did)
  has_inserted (Err fault.Pending) did = absurd did.3
  has_inserted (Err fault.Pinned) did = absurd did.3
  has_inserted (Err fault.Unfinished) did = absurd did.3

  pub put_told : (when : Condition) (r : Result PutOutcome CallFault)
      → (IsErrOf r fault.Full → FoundNoSlot w.pass z.pass) → (IsErrOf r fault.NoMemory → LacksRoom z)
      → PutDid w.fit L tries when k w.pass.view.log z.pass.view.log r → InsertTold w z r
  put_told when (Ok p) full lacks did = free
  put_told when (Err fault.Busy) full lacks did = free
  put_told when (Err fault.Full) full lacks did = (free, full refl)
  put_told when (Err fault.NoMemory) full lacks did = (free, lacks refl)
  put_told when (Err fault.Pending) full lacks did = absurd did.3
  put_told when (Err fault.Pinned) full lacks did = absurd did.3
  put_told when (Err fault.Unfinished) full lacks did = absurd did.3

pub has_looked : {X : Type 0} (GivesUp : List Entry → List Entry → Type 0) (tries most : ℕ) (w z : WorkerView)
    → IsFree w z → (r : Result X CallFault) → IfOk r (λ x. LooksUnderPin tries most w.pass.view.log z.pass.view.log)
    → IfErr r (λ e. PlainMissed GivesUp tries w.pass.view.log z.pass.view.log) → IfErr r (λ e. e ≡ fault.Busy)
    → HasSeenMore GivesUp tries most w z r
has_looked GivesUp tries most w z free (Ok x) did missed busy = (free, did)
has_looked {X} GivesUp tries most w z free (Err e) did missed busy = subst
    (λ (f : CallFault). HasSeenMore {X = X} GivesUp tries most w z (Err f)) (sym busy) (free, missed)

pub has_scanned : (GivesUp : List Entry → List Entry → Type 0) (tries each : ℕ) (w z : WorkerView) → IsFree w z
    → (r : Result Scanned CallFault) → IfOk r (λ s. LooksUnderPin tries ((s.count + tries) * each) w.pass.view.log
    z.pass.view.log) → IfErr r (λ e. PlainMissed GivesUp tries w.pass.view.log z.pass.view.log)
    → IfErr r (λ e. e ≡ fault.Busy)
    → HasSeenMore GivesUp tries ((count_of r + tries) * each) w z r
has_scanned GivesUp tries each w z free (Ok s) did missed busy = (free, did)
has_scanned GivesUp tries each w z free (Err e) did missed busy = subst
    (λ (f : CallFault). HasSeenMore {X = Scanned} GivesUp tries ((0 + tries) * each) w z (Err f)) (sym busy)
    (free, missed)
