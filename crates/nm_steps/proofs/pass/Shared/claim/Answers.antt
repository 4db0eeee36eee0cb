use Rattle.std.proofs.Common.{rules}
use Rattle.nm_steps.proofs.Asking.{claim_slot}
use Rattle.nm_steps.proofs.ClaimedSlots.{claimed_new}
use Rattle.nm_steps.proofs.Noting.{ready, tied_after, takes_step}
use Rattle.nm_steps.proofs.pass.Shared.claim.Goals as goal

pub pool-place-requires : goal.pool-place-requires
pool-place-requires c = let slot = claim_slot _ _ _ c.args.slot c.requires.may in search (rules, slot)

pub clear-found-requires-clause-ready : goal.clear-found-requires-clause-ready
clear-found-requires-clause-ready c = rw (← c.self.view_is)
    (ready _ _ _ _ _ _ _ _ _ c.self.invariant.laid c.pass.invariant (search rules) (search rules)
    (rw (← c.pass.view_is) at c.requires.may) (search rules) tt)

pub invariant_of-pass : goal.invariant_of-pass
invariant_of-pass c = tied_after _ _ _ _ _ _ _ _ c.pass.invariant (rw (← c.pass.view_is) at c.requires.may)
    c.clear-found.ensures (search rules)

pub returns-clause-new : goal.returns-clause-new
returns-clause-new c = λ won. rw (← c.pass.view_is)
    (claimed_new _ _ _ c.args.slot c.clear-found.result c.clear-found.ensures.found
    (rw (← c.pass.view_is) at c.requires.may) (search rules))

pub returns-clause-took : goal.returns-clause-took
returns-clause-took c = takes_step _ _ _ _ _ _ _ _ _ c.pass.invariant (rw (← c.pass.view_is) at c.requires.may)
    c.clear-found.ensures (search rules) c.pass.view_is
