use Rattle.std.proofs.Common.{rules, refl}
use Rattle.nm_steps.proofs.Asking.{flag_slot, flag_leaf, finds_edge}
use Rattle.nm_steps.proofs.Noting.{ready, tied_after, takes_step}
use Rattle.nm_steps.proofs.pass.Shared.flag.Goals as goal

pub edge-word-requires : goal.edge-word-requires
edge-word-requires c = let slot = flag_slot _ _ _ c.args.parent c.args.side c.args.leaf c.requires.may in
    search (rules, slot)

pub word_flagged-requires : goal.word_flagged-requires
word_flagged-requires c = flag_leaf _ _ _ c.args.parent c.args.side c.args.leaf
    (rw (← c.pass.view_is) at c.requires.may)

pub exchange-found-requires-clause-ready : goal.exchange-found-requires-clause-ready
exchange-found-requires-clause-ready c = rw (← c.self.view_is)
    (ready _ _ _ _ _ _ _ _ _ c.self.invariant.laid c.pass.invariant (search rules) (search rules)
    (rw (← c.pass.view_is) at c.requires.may) (search rules) tt)

pub edge_of-requires : goal.edge_of-requires
edge_of-requires c = finds_edge _ _ _ _ _ c.args.parent c.args.side c.exchange-found.ensures.found refl refl
    (flag_slot _ _ _ c.args.parent c.args.side c.args.leaf (rw (← c.pass.view_is) at c.requires.may))

pub invariant_of-pass : goal.invariant_of-pass
invariant_of-pass c = tied_after _ _ _ _ _ _ _ _ c.pass.invariant (rw (← c.pass.view_is) at c.requires.may)
    c.exchange-found.ensures (search rules)

pub returns : goal.returns
returns c = takes_step _ _ _ _ _ _ _ _ _ c.pass.invariant (rw (← c.pass.view_is) at c.requires.may)
    c.exchange-found.ensures (search rules) c.pass.view_is
