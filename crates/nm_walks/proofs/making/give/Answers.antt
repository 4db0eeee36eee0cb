use Rattle.std.proofs.Common.{refl}
use Rattle.nm_walks.proofs.Looks.{goes_on}
use Rattle.nm_walks.proofs.Claiming.{only_given, is_given, given_others}
use Rattle.nm_steps.proofs.Seeing.{seen_by_turn}
use Rattle.nm_walks.proofs.making.give.Goals as goal

pub returns-clause-on : goal.returns-clause-on
returns-clause-on c = goes_on c.args.pass.now c.give.new.pass _ _ c.give.ensures.step
    (seen_by_turn _ _ _ _ c.give.ensures.past) c.give.ensures.stores refl refl c.give.ensures.run.fits
    c.give.ensures.run.run

pub returns-clause-given : goal.returns-clause-given
returns-clause-given c = is_given c.args.pass.now c.give.new.pass c.args.node.slot c.give.ensures.step
    (record { fits = c.know_run.ensures.fits; run = c.know_run.ensures.run })

pub returns-clause-others : goal.returns-clause-others
returns-clause-others c = given_others c.args.pass.now c.give.new.pass c.args.node.slot c.give.ensures.step
    (record { fits = c.know_run.ensures.fits; run = c.know_run.ensures.run })

pub returns-clause-only : goal.returns-clause-only
returns-clause-only c = only_given c.args.pass.now c.give.new.pass c.args.node.slot c.give.ensures.step
