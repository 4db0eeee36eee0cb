use Rattle.std.proofs.Common.{ap}
use Rattle.nm_steps.specs.Steps.{PassView}
use Rattle.nm_puts.proofs.NewLeaves.{given_back}
use Rattle.nm_puts.proofs.leaves.give_leaf_back.Goals as goal

pub returns-clause-part : goal.returns-clause-part
returns-clause-part c = ap (λ (s : PassView). s.view.log) c.give.ensures.step

pub returns-clause-given : goal.returns-clause-given
returns-clause-given c = λ o has.
    given_back o c.args.pass.now c.give.new.pass c.args.leaf.now has c.give.ensures.given c.give.ensures.others
