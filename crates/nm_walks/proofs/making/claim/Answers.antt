use Rattle.nm_walks.proofs.Claiming.{claim_keeps, only_claims, part_after}
use Rattle.nm_walks.proofs.Makes.{makes_go_on}
use Rattle.nm_walks.proofs.making.claim.Goals as goal

pub returns-clause-others : goal.returns-clause-others
returns-clause-others c =
    let p = c.args.pass.now in
    let q = c.claim_by.new.pass in
    let nodes = c.args.shared.now.layout.nodes in
    let o = c.claim_by.result in
    let e = c.claim_by.ensures in
    claim_keeps p q c.args.placement.now nodes o e.on.same e.part
    (record { fits = c.know_run.ensures.fits; run = c.know_run.ensures.run }) (part_after p q e.on.same e.on.run)

pub returns-clause-only : goal.returns-clause-only
returns-clause-only c =
    let p = c.args.pass.now in
    let q = c.claim_by.new.pass in
    let nodes = c.args.shared.now.layout.nodes in
    let o = c.claim_by.result in
    let e = c.claim_by.ensures in
    only_claims p q c.args.placement.now nodes o e.on.same e.part
    (record { fits = c.know_run.ensures.fits; run = c.know_run.ensures.run }) (part_after p q e.on.same e.on.run)
    e.learned

pub returns-clause-on : goal.returns-clause-on
returns-clause-on c =
    let e = c.claim_by.ensures in
    makes_go_on c.args.pass.now c.claim_by.new.pass (returns-clause-only c) e.on.same e.on.past e.on.stores
    e.on.run
