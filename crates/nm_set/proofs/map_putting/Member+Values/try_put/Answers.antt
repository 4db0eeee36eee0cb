use Rattle.std.proofs.Common.{rules, ◌≡◌, inr}
use Rattle.std.specs.Prelude.{None}
use Rattle.nm_tree.specs.Putting.{LeavesPut}
use Rattle.nm_set.proofs.Inside.{of_member}
use Rattle.nm_set.proofs.map_putting.Member+Values.try_put.Goals as goal

pub returns-clause-says : goal.returns-clause-says
returns-clause-says c =
    let left = of_member (λ b v. LeavesPut b.layout c.args.tries c.args.condition c.args.key c.args.value v
    c.put.new.worker c.put.result) _ _ _ c.self.view_is c.tree.ensures c.put.ensures.leaves in
    let free : c.args.self.now.worker.held ≡ None = search rules in
    record { says = inr (free, left.says); busy = left.interfered; alone = left.alone }
