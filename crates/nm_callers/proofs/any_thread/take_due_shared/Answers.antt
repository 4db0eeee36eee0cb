use Rattle.std.proofs.Common.{ℕ, ◌<◌, subst}
use Rattle.std.specs.Prelude.{IfSome, Ok, Option}
use Rattle.nm_edge.specs.Keys.{IsKey}
use Rattle.nm_shared.specs.Sharing.{SaysSharedPop}
use Rattle.nm_callers.proofs.SharedCalls.{took_due}
use Rattle.nm_callers.proofs.any_thread.take_due_shared.Goals as goal

pub returns-clause-took : goal.returns-clause-took
returns-clause-took c =
    let b = c.args.set.now in
    let h = c.args.options.now in
    let z = c.pop_shared-caller.result.0 in
    took_due b h c.args.caller z c.args.below c.in-Some.taken
    (subst (λ (o : Option (Option ℕ)). IfSome o (λ (x : Option ℕ).
    SaysSharedPop (λ j. IsKey j × (j < c.args.below)) ◌<◌ b h c.args.caller z (Ok x)))
    c.in-Some.is c.pop_shared-caller.ensures.says)
