use Rattle.nm_callers.proofs.RadixLookups.{busy_by_pins, few_steps}
use Rattle.nm_callers.proofs.radix.look_in_radix.Goals as goal

pub returns-clause-busy : goal.returns-clause-busy
returns-clause-busy c is = busy_by_pins c.args.tree.now.layout c.requires.radix c.args.tries c.args.key
    c.args.worker.now c.has.new.worker c.has.result c.has.ensures.leaves.did is

pub returns-clause-steps : goal.returns-clause-steps
returns-clause-steps c = few_steps c.args.tree.now.layout c.requires.radix c.args.tries
    c.args.worker.now.pass.view.log c.has.new.worker.pass.view.log c.has.ensures.says.steps
