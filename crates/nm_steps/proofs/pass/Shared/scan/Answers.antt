use Rattle.std.proofs.Common.{rules}
use Rattle.nm_steps.proofs.Asking.{scan_below}
use Rattle.nm_steps.proofs.Noting.{ready, tied_after, takes_step}
use Rattle.nm_steps.proofs.pass.Shared.scan.Goals as goal

pub announcement-word-requires : goal.announcement-word-requires
announcement-word-requires c = let below = scan_below _ _ _ c.args.worker c.requires.may in search (rules, below)

pub load-found-requires-clause-ready : goal.load-found-requires-clause-ready
load-found-requires-clause-ready c = rw (← c.self.view_is)
    (ready _ _ _ _ _ _ _ _ _ c.self.invariant.laid c.pass.invariant (search rules) (search rules)
    (rw (← c.pass.view_is) at c.requires.may) c.announcement-word.ensures tt)

pub invariant_of-pass : goal.invariant_of-pass
invariant_of-pass c = tied_after _ _ _ _ _ _ _ _ c.pass.invariant (rw (← c.pass.view_is) at c.requires.may)
    c.load-found.ensures (search rules)

pub returns : goal.returns
returns c = takes_step _ _ _ _ _ _ _ _ _ c.pass.invariant (rw (← c.pass.view_is) at c.requires.may)
    c.load-found.ensures (search rules) c.pass.view_is
