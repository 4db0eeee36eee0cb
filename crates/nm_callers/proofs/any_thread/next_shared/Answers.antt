use Rattle.std.proofs.Common.{ℕ, subst}
use Rattle.std.specs.Prelude.{IfSome, Ok, Option}
use Rattle.nm_shared.specs.Sharing.{SaysSharedNext}
use Rattle.nm_callers.proofs.SharedCalls.{found_next}
use Rattle.nm_callers.proofs.any_thread.next_shared.Goals as goal

pub returns-clause-found : goal.returns-clause-found
returns-clause-found c =
    let b = c.args.set.now in
    let h = c.args.options.now in
    let z = c.look_on_shared-caller.result.0 in
    found_next b h c.args.caller z c.args.least c.in-Some.found
    (subst (λ (o : Option (Option ℕ)). IfSome o (λ (x : Option ℕ). SaysSharedNext b h c.args.least c.args.caller z
    (Ok x)))
    c.in-Some.is c.look_on_shared-caller.ensures.says)
