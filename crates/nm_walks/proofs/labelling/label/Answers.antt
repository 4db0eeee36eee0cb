use Rattle.std.proofs.Common.{refl}
use Rattle.nm_walks.proofs.Answering.{only_labels}
use Rattle.nm_walks.proofs.Looks.{goes_on}
use Rattle.nm_steps.proofs.Seeing.{seen_by_turn}
use Rattle.nm_walks.proofs.labelling.label.Goals as goal

pub returns-clause-on : goal.returns-clause-on
returns-clause-on c = goes_on c.args.pass.now c.label.new.pass _ _ c.label.ensures.took.step
    (seen_by_turn _ _ _ _ c.label.ensures.took.past) c.label.ensures.took.stores refl refl
    c.label.ensures.took.run.fits c.label.ensures.took.run.run

pub returns-clause-only : goal.returns-clause-only
returns-clause-only c = only_labels c.args.pass.now c.label.new.pass c.label.result c.label.ensures.took.step
