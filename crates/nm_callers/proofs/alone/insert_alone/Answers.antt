use Rattle.std.proofs.Common.{arith, ◌<◌, subst, Bool}
use Rattle.std.specs.Prelude.{Result, IfErr}
use Rattle.nm_calls.specs.declared.fault.CallFault.{CallFault}
use Rattle.nm_tree.specs.Answers.{FailsAlone}
use Rattle.nm_callers.proofs.alone.insert_alone.Goals as goal

pub returns : goal.returns
returns c runs busy =
    let less = subst (λ (r : Result Bool CallFault). IfErr r (FailsAlone 1 1 c.args.tries c.insert.new.worker)) busy
    (c.insert.ensures.leaves.alone runs) in
    let some = c.requires.some in
    omega (arith, less, some)
