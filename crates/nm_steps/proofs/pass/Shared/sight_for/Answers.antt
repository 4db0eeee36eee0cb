use Rattle.std.proofs.Common.{rules}
use Rattle.nm_steps.proofs.Noting.{ready, tied_after, takes_step}
use Rattle.nm_steps.specs.Rules.{knowledge, known_births}
use Rattle.nm_steps.proofs.Sighting.{noted_pin, noted_miss}
use Rattle.nm_steps.proofs.pass.Shared.sight_for.Goals as goal

pub load-found-requires-clause-ready : goal.load-found-requires-clause-ready
load-found-requires-clause-ready c = rw (← c.self.view_is)
    (ready _ _ _ _ _ _ _ _ _ c.self.invariant.laid c.pass.invariant (search rules) (search rules)
    (rw (← c.pass.view_is) at c.requires.may) c.epoch-word.ensures tt)

pub invariant_of-pass : goal.invariant_of-pass
invariant_of-pass c = tied_after _ _ _ _ _ _ _ _ c.pass.invariant (rw (← c.pass.view_is) at c.requires.may)
    c.load-found.ensures (noted_pin c.pass.inside.seat.me.0.layout (knowledge c.pass.inside.seat.me.0)
    (known_births c.pass.inside.seat.me.0) c.args.op c.args.key c.pass.inside.brief c.args.announced
    c.load-found.result c.pass.invariant.brief_is (rw (← c.pass.view_is) at c.requires.unpinned)
    (rw (← c.pass.view_is) at c.requires.announcement) (rw (← c.pass.view_is) at c.requires.labelled) (search rules))

pub invariant_of-pass-else-found-announced : goal.invariant_of-pass-else-found-announced
invariant_of-pass-else-found-announced c = tied_after _ _ _ _ _ _ _ _ c.pass.invariant
    (rw (← c.pass.view_is) at c.requires.may) c.load-found.ensures
    (noted_miss c.pass.inside.seat.me.0.layout (knowledge c.pass.inside.seat.me.0)
    (known_births c.pass.inside.seat.me.0) c.args.op c.args.key c.pass.inside.brief c.args.announced
    c.load-found.result c.pass.invariant.brief_is (rw (← c.pass.view_is) at c.requires.unpinned)
    (rw (← c.pass.view_is) at c.requires.announcement) (rw (← c.pass.view_is) at c.requires.labelled) (search rules))

pub returns-then-found-announced-clause-took : goal.returns-then-found-announced-clause-took
returns-then-found-announced-clause-took c = takes_step _ _ _ _ _ _ _ _ _ c.pass.invariant
    (rw (← c.pass.view_is) at c.requires.may) c.load-found.ensures (search rules) c.pass.view_is

pub returns-else-found-announced-clause-took : goal.returns-else-found-announced-clause-took
returns-else-found-announced-clause-took c = takes_step _ _ _ _ _ _ _ _ _ c.pass.invariant
    (rw (← c.pass.view_is) at c.requires.may) c.load-found.ensures (search rules) c.pass.view_is
