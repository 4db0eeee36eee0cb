use Rattle.std.proofs.Common.{arith, ◌<◌, subst, Bool}
use Rattle.std.specs.Prelude.{Result, IfErr}
use Rattle.nm_calls.specs.declared.fault.CallFault.{CallFault}
use Rattle.nm_tree.specs.Answers.{FailsAlone}
use Rattle.nm_callers.proofs.alone.look_alone.Goals as goal

pub returns : goal.returns
returns c alone busy =
    let less = subst (λ (r : Result Bool CallFault). IfErr r (FailsAlone 1 1 c.args.tries c.has.new.worker)) busy
    (c.has.ensures.leaves.alone alone) in
    let some = c.requires.some in
    omega (arith, less, some)
