-- What a call leaves, by what it answered.
use Rattle.std.proofs.Common.{◌≡◌, ℕ, inl, inr, refl, sym, subst}
use Rattle.std.specs.Prelude.{◌⊎◌, Bool, List, Result, Err}
use Rattle.nm_edge.specs.Layouts.{Layout}
use Rattle.nm_model.specs.Walks.{Entry}
use Rattle.nm_steps.specs.Steps.{TreeView}
use Rattle.nm_calls.specs.Deletes.{DeleteDid}
use Rattle.nm_calls.specs.declared.fault.CallFault.{CallFault}
use Rattle.nm_calls.specs.declared.fault.CallFault.TheVariants as fault
use Rattle.nm_tree.specs.Answers.{HasInserted, HasDeleted, HasFinished}
use Rattle.nm_tree.specs.Workers.{WorkerView}

pub inserted_so : (b d : TreeView) (tries k : ℕ) (w v z : WorkerView) (r s : Result Bool CallFault) → b ≡ d → w ≡ v
    → s ≡ r → HasInserted b.layout tries k w z r → HasInserted d.layout tries k v z s
inserted_so b d tries k w v z r s tree worker answer did =
    let P : TreeView → Type 0 = λ x. HasInserted x.layout tries k v z s in
    let Q : WorkerView → Type 0 = λ x. HasInserted b.layout tries k x z s in
    let R : Result Bool CallFault → Type 0 = λ x. HasInserted b.layout tries k w z x in
    subst P tree (subst Q worker (subst R (sym answer) did))

pub deleted_so : (b d : TreeView) (tries k : ℕ) (w v z : WorkerView) (r : Result Bool CallFault) → b ≡ d → w ≡ v
    → HasDeleted b.layout tries k w z r → HasDeleted d.layout tries k v z r
deleted_so b d tries k w v z r tree worker did =
    let P : TreeView → Type 0 = λ x. HasDeleted x.layout tries k v z r in
    let Q : WorkerView → Type 0 = λ x. HasDeleted b.layout tries k x z r in
    subst P tree (subst Q worker did)

pub finished_so : (b d : TreeView) (tries : ℕ) (w v z : WorkerView) (r : Result Bool CallFault) → b ≡ d → w ≡ v
    → HasFinished b.layout tries w z r → HasFinished d.layout tries v z r
finished_so b d tries w v z r tree worker did =
    let P : TreeView → Type 0 = λ x. HasFinished x.layout tries v z r in
    let Q : WorkerView → Type 0 = λ x. HasFinished b.layout tries x z r in
    subst P tree (subst Q worker did)

-- the errors of a delete
pub two_faults : (L : Layout) (tries k : ℕ) (old new : List Entry) (e : CallFault)
    → DeleteDid L tries k old new (Err e) → (e ≡ fault.Busy) ⊎ (e ≡ fault.NoMemory)
two_faults L tries k old new fault.Busy did = inl refl
two_faults L tries k old new fault.NoMemory did = inr refl
two_faults L tries k old new fault.Full (pinned, epoch, pin, none) = elim none [ ]
two_faults L tries k old new fault.Unfinished (pinned, epoch, pin, none) = elim none [ ]
two_faults L tries k old new fault.Pending (pinned, epoch, pin, none) = elim none [ ]
two_faults L tries k old new fault.Pinned (pinned, epoch, pin, none) = elim none [ ]
