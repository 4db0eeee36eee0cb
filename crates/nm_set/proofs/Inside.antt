-- What was done with the tree and the worker that a member holds, of the member.
use Rattle.std.proofs.Common.{◌≡◌, subst}
use Rattle.nm_steps.specs.Steps.{TreeView}
use Rattle.nm_tree.specs.Workers.{WorkerView}
use Rattle.nm_set.specs.Seats.{MemberView}

-- s is what it holds, m the member as it is seen, and b the tree as it was asked for
pub of_member : (P : TreeView → WorkerView → Type 0) (s m : MemberView) (b : TreeView) → s ≡ m → b ≡ s.tree
    → P b s.worker → P m.tree m.worker
of_member P s m b seen tree did = subst (λ (x : MemberView). P x.tree x.worker) seen
    (subst (λ (d : TreeView). P d s.worker) tree did)
