use Rattle.std.proofs.Common.{arith}
use Rattle.std.specs.Prelude.{Some}
use Rattle.nm_pool.proofs.AnyOrder.{wider}
use Rattle.nm_pool.proofs.claims.claim_near.Goals as goal

pub returns-in-Some-clause-part : goal.returns-in-Some-clause-part
returns-in-Some-clause-part c =
    let nodes = c.args.shared.now.layout.nodes in
    let part = c.in-Some.ensures.part in
    let least = part.least in
    let most = part.most in
    wider 1 nodes nodes c.args.pass.now.view.log c.claim_shown.new.pass.view.log (Some c.in-Some.node)
    (omega (arith, least, most)) part

pub returns-clause-part : goal.returns-clause-part
returns-clause-part c = rw c.some_node.ensures (c.claim_in_turn.ensures.part c.args.pass.now.view.log
    c.in_default.ensures.part)
