-- What two calls by an attached worker keep.
use Rattle.std.proofs.Common.{◌≡◌, ℕ, Bool, subst}
use Rattle.std.specs.Prelude.{Ok, Result}
use Rattle.nm_calls.specs.declared.fault.CallFault.{CallFault}
use Rattle.nm_model.specs.declared.event.Op.TheVariants.{Has, Insert}
use Rattle.nm_set.specs.declared.managed.Options.{Options}
use Rattle.nm_set.specs.declared.fault.InsertFault.{InsertFault}
use Rattle.nm_set.specs.Managed.{of_insert}
use Rattle.nm_shared.proofs.Borrowed.{Keeps, keeps_on, managed_keeps}
use Rattle.nm_steps.specs.Steps.{TreeView}
use Rattle.nm_tree.specs.Workers.{WorkerView}
use Rattle.nm_callers.specs.AnyThread.{InsertedThenFound}

pub keeps_both : (b : TreeView) (h : Options) (k : ℕ) (r f : Result Bool CallFault) (w z : WorkerView)
    → InsertedThenFound b h k r f w z → Keeps w z
keeps_both b h k r f w z both = keeps_on w both.between z
    (managed_keeps Insert b h k w both.between r both.inserted)
    (managed_keeps Has b h k both.between z f both.found)

-- both calls had an answer
pub both_answered : (b : TreeView) (h : Options) (k : ℕ) (r : Result Bool InsertFault) (f : Result Bool CallFault)
    (x y : Bool) (w z : WorkerView) → r ≡ Ok x → f ≡ Ok y → InsertedThenFound b h k (of_insert r) f w z
    → InsertedThenFound b h k (Ok x) (Ok y) w z
both_answered b h k r f x y w z inserted found both =
    subst (λ (a : Result Bool CallFault). InsertedThenFound b h k (Ok x) a w z) found
    (subst (λ (a : Result Bool InsertFault). InsertedThenFound b h k (of_insert a) f w z) inserted both)
