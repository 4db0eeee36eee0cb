-- What a worker keeps over looks: its queue with its counts, and a leaf that it has flagged.
use Rattle.std.proofs.Common.{ℕ, ap, ◌∙◌}
use Rattle.nm_edge.specs.declared.node.NodeId.{NodeId}
use Rattle.nm_model.specs.declared.event.Op.TheVariants.{Delete}
use Rattle.nm_model.specs.declared.knowledge.Brief.{Brief}
use Rattle.nm_order.specs.Facts.Fact.{KnowsSlot, IsBorn, CallIs}
use Rattle.nm_steps.specs.Steps.{TreeView, PassView}
use Rattle.nm_epoch.specs.declared.collecting.HeldQueue.{HeldQueue}
use Rattle.nm_walks.specs.Telling.{GoesOn, OnlyLooks}
use Rattle.nm_calls.specs.Deletes.{IsRemoving}
use Rattle.nm_tests.specs.Plays.{IsPendingFor}
use Rattle.nm_walks.proofs.Adding.{Adds}
use Rattle.nm_walks.proofs.KeptLedgers.{holds_on}
use Rattle.nm_walks.proofs.GoingOn.{pinned_still, own_still}

pub removing_still : (p q : PassView) (k : ℕ) (n : NodeId) → IsRemoving p k n → GoesOn p q → OnlyLooks p q
    → IsRemoving q k n
removing_still p q k n r on only = record {
  run = on.run;
  pinned = pinned_still p q on r.pinned;
  root = on.keeps (KnowsSlot 1) r.root;
  known = on.keeps (KnowsSlot 2) r.known;
  call = on.keeps (CallIs Delete k) r.call;
  flagged = only.flagged ∙ r.flagged;
  born = on.keeps (IsBorn n.slot n.birth) r.born;
  labelled = ap (λ (b : Brief). b.unlabelled) only.epochs ∙ r.labelled;
}

pub pending_still : {m : ℕ} (b : TreeView) (p q : PassView) (h : HeldQueue) (k : ℕ) (n : NodeId)
    → IsPendingFor b p h k n → GoesOn p q → OnlyLooks p q → Adds 0 0 0 m p.view.log q.view.log → IsPendingFor b q h k n
pending_still b p q h k n pending on only adds = record {
  own = own_still b p q pending.own on.same;
  kept = holds_on p q h on.same only.ledgers adds pending.kept;
  removing = removing_still p q k n pending.removing on only;
}
