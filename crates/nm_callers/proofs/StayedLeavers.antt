-- A worker that does not resign because its key is pending, and is taken again.
use Rattle.std.proofs.Common.{◌≡◌, ◌∙◌, ℕ, Bool, true, false, refl, sym, subst}
use Rattle.std.specs.Prelude.{Option, Some, IsSome, Ok}
use Rattle.std.proofs.lemmas.Option.{same_Some}
use Rattle.nm_tree.specs.Answers.{FinishTold}
use Rattle.nm_tree.specs.Workers.{WorkerView}
use Rattle.nm_tree.specs.declared.resigning.ResignReason.{ResignReason}
use Rattle.nm_tree.specs.declared.resigning.ResignReason.TheVariants as because
use Rattle.nm_set.specs.Posts.{IsSentBack, ReturnedView}
use Rattle.nm_set.specs.Seats.{MemberView}
use Rattle.nm_set.proofs.Managing.{none_there}

-- a worker is handed back with a pending key
pub sent_back : (m : MemberView) (i : ℕ) (why : ResignReason) (o : Option ReturnedView) (r : ReturnedView)
    → why ≡ because.Pending → o ≡ Some r → IsSentBack m i why o → IsSentBack m i because.Pending (Some r)
sent_back m i why o r pends is sent =
    subst (λ (x : Option ReturnedView). IsSentBack m i because.Pending x) is
    (subst (λ (x : ResignReason). IsSentBack m i x o) pends sent)

-- and it is the one that is taken again, so the remove that it finishes was pending
pub finished_own : (m : MemberView) (i : ℕ) (r : ReturnedView) (y z : WorkerView) (finished : Bool)
    → IsSentBack m i because.Pending (Some r) → r.worker ≡ Some y → FinishTold y z (Ok finished) → finished ≡ true
finished_own m i r y z true sent is told = refl
finished_own m i r y z false (tree, w, resident, some, returned) is told = none_there y.pending told.0
    (subst (λ (v : WorkerView). IsSome v.pending) (same_Some w y (sym returned.worker ∙ is)) some)
