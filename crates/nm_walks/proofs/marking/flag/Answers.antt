use Rattle.std.proofs.Common.{refl}
use Rattle.nm_steps.proofs.Seeing.{seen_by_turn}
use Rattle.nm_walks.proofs.Looks.{goes_on}
use Rattle.nm_walks.proofs.Marks.{may_flag, flags_won, flags_lost, only_flags}
use Rattle.nm_walks.proofs.marking.flag.Goals as goal

pub flag-won-requires-clause-may : goal.flag-won-requires-clause-may
flag-won-requires-clause-may c = may_flag c.args.pass.now c.args.parent c.args.side c.args.leaf c.requires.pinned.run
    c.requires.pinned.pin c.requires.found

pub returns-clause-on : goal.returns-clause-on
returns-clause-on c = goes_on c.args.pass.now c.flag-won.new.pass _ _ c.flag-won.ensures.step
    (seen_by_turn _ _ _ _ c.flag-won.ensures.past) c.flag-won.ensures.stores refl refl c.know_run.ensures.fits
    c.know_run.ensures.run

pub returns-clause-only : goal.returns-clause-only
returns-clause-only c = only_flags c.args.pass.now c.flag-won.new.pass c.args.parent c.args.side c.args.leaf
    c.flag-won.result c.flag-won.ensures.step

pub returns-clause-won : goal.returns-clause-won
returns-clause-won c = flags_won c.args.pass.now c.flag-won.new.pass c.args.parent c.args.side c.args.leaf
    c.know_run.ensures.fits c.know_run.ensures.run c.flag-won.result c.flag-won.ensures.step

pub returns-clause-lost : goal.returns-clause-lost
returns-clause-lost c = flags_lost c.args.pass.now c.flag-won.new.pass c.args.parent c.args.side c.args.leaf
    c.know_run.ensures.fits c.know_run.ensures.run c.flag-won.result c.flag-won.ensures.step
    c.requires.found.knows_parent
