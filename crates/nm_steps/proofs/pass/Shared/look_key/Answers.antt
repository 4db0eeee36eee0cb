use Rattle.std.proofs.Common.{rules}
use Rattle.nm_steps.proofs.Asking.{look_slot}
use Rattle.nm_steps.proofs.Noting.{ready, tied_after, takes_step}
use Rattle.nm_steps.proofs.pass.Shared.look_key.Goals as goal

pub key-word-requires : goal.key-word-requires
key-word-requires c = let slot = look_slot _ _ _ c.args.slot _ c.requires.may in search (rules, slot)

pub load-requires-clause-ready : goal.load-requires-clause-ready
load-requires-clause-ready c = rw (← c.self.view_is)
    (ready _ _ _ _ _ _ _ _ _ c.self.invariant.laid c.pass.invariant (search rules) (search rules)
    (rw (← c.pass.view_is) at c.requires.may) (search rules) tt)

pub invariant_of-pass : goal.invariant_of-pass
invariant_of-pass c = tied_after _ _ _ _ _ _ _ _ c.pass.invariant (rw (← c.pass.view_is) at c.requires.may)
    c.load.ensures (search rules)

pub returns : goal.returns
returns c = takes_step _ _ _ _ _ _ _ _ _ c.pass.invariant (rw (← c.pass.view_is) at c.requires.may) c.load.ensures
    (search rules) c.pass.view_is
