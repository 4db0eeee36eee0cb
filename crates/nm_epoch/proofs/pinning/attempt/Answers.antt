use Rattle.nm_epoch.proofs.Allowed.{may_announce}
use Rattle.nm_epoch.proofs.Trying.{announced, announced_may, at_won, tries_lost, sees_lost, won_try, lost_try, try_keeps, no_label}
use Rattle.nm_steps.specs.Steps.{pin_reply}
use Rattle.nm_epoch.proofs.pinning.attempt.Goals as goal

pub announce-announced-requires-clause-may : goal.announce-announced-requires-clause-may
announce-announced-requires-clause-may c = may_announce c.args.pass.now c.requires.trying.seen
    c.requires.trying.unpinned

pub confirm-requires-clause-may : goal.confirm-requires-clause-may
confirm-requires-clause-may c = announced_may c.announce-announced.result c.announce-announced.new.pass c.args.by.now
    (announced c.args.pass.now c.announce-announced.new.pass c.announce-announced.result
    c.announce-announced.ensures.step c.requires.trying) c.requires.key

pub confirm-requires-clause-announced : goal.confirm-requires-clause-announced
confirm-requires-clause-announced c = announced c.args.pass.now c.announce-announced.new.pass
    c.announce-announced.result c.announce-announced.ensures.step c.requires.trying

pub returns-clause-won : goal.returns-clause-won
returns-clause-won c = won_try c.args.pass.now c.announce-announced.new.pass c.confirm.new.pass c.args.by.now
    c.announce-announced.result c.confirm.result c.announce-announced.ensures.step c.confirm.ensures.took.step

pub returns-clause-lost : goal.returns-clause-lost
returns-clause-lost c = lost_try c.args.pass.now c.announce-announced.new.pass c.confirm.new.pass c.args.by.now
    c.announce-announced.result c.confirm.result c.announce-announced.ensures.step c.confirm.ensures.took.step

pub returns-clause-at : goal.returns-clause-at
returns-clause-at c = at_won c.announce-announced.new.pass c.confirm.new.pass c.args.by.now
    c.announce-announced.result c.confirm.result (announced c.args.pass.now c.announce-announced.new.pass
    c.announce-announced.result c.announce-announced.ensures.step c.requires.trying) c.confirm.ensures.same
    c.confirm.ensures.took.step

pub returns-clause-trying : goal.returns-clause-trying
returns-clause-trying c = tries_lost c.announce-announced.new.pass c.confirm.new.pass c.args.by.now
    c.announce-announced.result c.confirm.result (announced c.args.pass.now c.announce-announced.new.pass
    c.announce-announced.result c.announce-announced.ensures.step c.requires.trying) c.confirm.ensures.took.step

pub returns-clause-last : goal.returns-clause-last
returns-clause-last c = sees_lost c.announce-announced.new.pass c.confirm.new.pass c.args.by.now c.confirm.result
    c.confirm.ensures.took.step

pub returns-clause-hands : goal.returns-clause-hands
returns-clause-hands c = try_keeps c.args.pass.now c.announce-announced.new.pass c.confirm.new.pass c.args.by.now
    c.announce-announced.result (pin_reply c.confirm.result) c.announce-announced.ensures.step
    c.confirm.ensures.took.step (no_label c.confirm.result)
