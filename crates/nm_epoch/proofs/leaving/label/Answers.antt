use Rattle.nm_epoch.proofs.Left.{labelled_after}
use Rattle.nm_epoch.proofs.Labels.{takes_labels, drafts_stay}
use Rattle.nm_epoch.proofs.leaving.label.Goals as goal

pub returns-clause-labelled : goal.returns-clause-labelled
returns-clause-labelled c = labelled_after c.args.pass.now c.sight.new.pass c.in-Labelled.epoch
    c.in-Labelled.ensures.took.step

pub returns-clause-private : goal.returns-clause-private
returns-clause-private c = drafts_stay c.args.pass.now c.sight.new.pass c.in-Labelled.epoch
    c.in-Labelled.ensures.took.step

pub returns-clause-queues : goal.returns-clause-queues
returns-clause-queues c = takes_labels c.args.pass.now c.sight.new.pass c.in-Labelled.epoch
    c.in-Labelled.ensures.took.step
