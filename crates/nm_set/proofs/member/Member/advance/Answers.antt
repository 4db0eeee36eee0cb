use Rattle.nm_tree.specs.Calls.{LeavesAdvance}
use Rattle.nm_set.proofs.Inside.{of_member}
use Rattle.nm_set.proofs.member.Member.advance.Goals as goal

pub returns-clause-says : goal.returns-clause-says
returns-clause-says g c = of_member (λ b v. LeavesAdvance b.layout.workers v c.advance.new.worker c.advance.result) _
    _ _ c.self.view_is c.tree.ensures c.advance.ensures
