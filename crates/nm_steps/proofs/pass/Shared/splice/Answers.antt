use Rattle.std.proofs.Common.{rules, refl}
use Rattle.nm_steps.proofs.Asking.{splice_slot, finds_edge}
use Rattle.nm_steps.proofs.Noting.{ready, tied_after, takes_step}
use Rattle.nm_steps.proofs.pass.Shared.splice.Goals as goal

pub edge-word-requires : goal.edge-word-requires
edge-word-requires c =
    let slot = splice_slot _ _ _ c.args.chain.ancestor c.args.chain.side c.args.chain.successor c.args.chain.parent
    c.args.chain.keep c.requires.may in search (rules, slot)

pub exchange-found-requires-clause-ready : goal.exchange-found-requires-clause-ready
exchange-found-requires-clause-ready c = rw (← c.self.view_is)
    (ready _ _ _ _ _ _ _ _ _ c.self.invariant.laid c.pass.invariant (search rules) (search rules)
    (rw (← c.pass.view_is) at c.requires.may) (search rules) tt)

pub edge_of-requires : goal.edge_of-requires
edge_of-requires c = finds_edge _ _ _ _ _ c.args.chain.ancestor c.args.chain.side c.exchange-found.ensures.found refl
    refl (splice_slot _ _ _ c.args.chain.ancestor c.args.chain.side c.args.chain.successor c.args.chain.parent
    c.args.chain.keep (rw (← c.pass.view_is) at c.requires.may))

pub invariant_of-pass : goal.invariant_of-pass
invariant_of-pass c = tied_after _ _ _ _ _ _ _ _ c.pass.invariant (rw (← c.pass.view_is) at c.requires.may)
    c.exchange-found.ensures (search rules)

pub invariant_of-pass-2 : goal.invariant_of-pass-2
invariant_of-pass-2 c = tied_after _ _ _ _ _ _ _ _ c.pass.invariant (rw (← c.pass.view_is) at c.requires.may)
    c.exchange-found.ensures (search rules)

pub returns : goal.returns
returns c = takes_step _ _ _ _ _ _ _ _ _ c.pass.invariant (rw (← c.pass.view_is) at c.requires.may)
    c.exchange-found.ensures (search rules) c.pass.view_is

pub returns-then-found-old : goal.returns-then-found-old
returns-then-found-old c = takes_step _ _ _ _ _ _ _ _ _ c.pass.invariant (rw (← c.pass.view_is) at c.requires.may)
    c.exchange-found.ensures (search rules) c.pass.view_is
