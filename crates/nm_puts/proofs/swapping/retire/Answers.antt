use Rattle.std.proofs.Common.{ap, refl}
use Rattle.nm_steps.proofs.Seeing.{seen_by_turn}
use Rattle.nm_walks.proofs.Answering.{only_labels}
use Rattle.nm_walks.proofs.Looks.{goes_on}
use Rattle.nm_puts.proofs.Retiring.{holds_labelled}
use Rattle.nm_puts.proofs.swapping.retire.Goals as goal

pub returns-clause-retires : goal.returns-clause-retires
returns-clause-retires c = record {
  epoch = c.label-epoch.result;
  took = c.label-epoch.ensures.took;
  only = only_labels c.args.pass.now c.label-epoch.new.pass c.label-epoch.result c.label-epoch.ensures.took.step;
}

pub returns-clause-on : goal.returns-clause-on
returns-clause-on c =
    let took = c.label-epoch.ensures.took in
    goes_on c.args.pass.now c.label-epoch.new.pass _ _ took.step (seen_by_turn _ _ _ _ took.past) took.stores refl refl
    took.run.fits took.run.run

pub returns-clause-kept : goal.returns-clause-kept
returns-clause-kept c =
    holds_labelled c.args.pass.now c.label-epoch.new.pass c.label-epoch.result c.label-epoch.ensures.took.step
    c.label-epoch.ensures.queues c.args.held.now _ c.args.leaf refl refl (ap
    (λ q. q.items) c.push_reserved.ensures.queue)
    c.requires.kept
