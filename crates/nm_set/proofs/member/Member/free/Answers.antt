use Rattle.nm_tree.specs.Calls.{LeavesCollect}
use Rattle.nm_set.proofs.Inside.{of_member}
use Rattle.nm_set.proofs.member.Member.free.Goals as goal

pub returns-clause-says : goal.returns-clause-says
returns-clause-says g c = of_member (λ b v. LeavesCollect b.layout.nodes v c.collect.new.worker c.collect.result) _ _
    _ c.self.view_is c.tree.ensures c.collect.ensures
