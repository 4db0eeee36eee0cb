use Rattle.std.proofs.Common.{refl}
use Rattle.nm_walks.proofs.Cuts.{may_splice, splices_won, splices_lost, only_cuts}
use Rattle.nm_steps.proofs.Seeing.{seen_by_turn}
use Rattle.nm_walks.proofs.Looks.{goes_on}
use Rattle.nm_walks.proofs.marking.splice.Goals as goal

pub splice-won-requires-clause-may : goal.splice-won-requires-clause-may
splice-won-requires-clause-may c = may_splice c.args.pass.now c.args.seek_record.now.ancestor
    c.args.seek_record.now.above c.args.seek_record.now.successor c.args.seek_record.now.parent c.args.keep
    c.args.kept c.requires.pinned.run c.requires.pinned.pin c.requires.frozen

pub splice-won-requires-clause-kept : goal.splice-won-requires-clause-kept
splice-won-requires-clause-kept c = c.requires.frozen.kept_so.0

pub returns-clause-on : goal.returns-clause-on
returns-clause-on c = goes_on c.args.pass.now c.splice-won.new.pass _ _ c.splice-won.ensures.step
    (seen_by_turn _ _ _ _ c.splice-won.ensures.past) c.splice-won.ensures.stores refl refl c.know_run.ensures.fits
    c.know_run.ensures.run

pub returns-clause-only : goal.returns-clause-only
returns-clause-only c = only_cuts c.args.pass.now c.splice-won.new.pass c.args.seek_record.now.ancestor
    c.args.seek_record.now.above c.args.seek_record.now.successor c.args.seek_record.now.parent c.args.keep
    c.splice-won.result c.splice-won.ensures.step

pub returns-clause-won : goal.returns-clause-won
returns-clause-won c = splices_won c.args.pass.now c.splice-won.new.pass c.args.seek_record.now.ancestor
    c.args.seek_record.now.above c.args.seek_record.now.successor c.args.seek_record.now.parent c.args.keep
    c.know_run.ensures.fits c.know_run.ensures.run c.splice-won.result c.splice-won.ensures.step

pub returns-clause-lost : goal.returns-clause-lost
returns-clause-lost c = splices_lost c.args.pass.now c.splice-won.new.pass c.args.seek_record.now.ancestor
    c.args.seek_record.now.above c.args.seek_record.now.successor c.args.seek_record.now.parent c.args.keep
    c.know_run.ensures.fits c.know_run.ensures.run c.splice-won.result c.splice-won.ensures.step
    c.requires.frozen.knows_ancestor
