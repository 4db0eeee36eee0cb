use Rattle.nm_puts.proofs.NewLeaves.{has_new_leaf}
use Rattle.nm_puts.proofs.leaves.claim_leaf.Goals as goal

pub returns-clause-has : goal.returns-clause-has
returns-clause-has c =
    let e = c.claim.ensures in
    has_new_leaf c.args.pass.now c.claim.new.pass c.claim.result e.others e.made e.new
