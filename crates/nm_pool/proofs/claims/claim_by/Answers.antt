use Rattle.nm_edge.specs.declared.placement.Fit.TheVariants as fit
use Rattle.nm_pool.proofs.Steps.{claim_steps}
use Rattle.nm_pool.proofs.claims.claim_by.Goals as goal

pub returns-in-NextFit-clause-steps : goal.returns-in-NextFit-clause-steps
returns-in-NextFit-clause-steps c = claim_steps fit.NextFit c.args.shared.now.layout.nodes c.args.pass.now.view.log
    c.claim_near.new.pass.view.log c.claim_near.result c.claim_near.ensures.part
