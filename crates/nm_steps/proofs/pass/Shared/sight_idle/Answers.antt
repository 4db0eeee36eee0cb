use Rattle.std.proofs.Common.{rules}
use Rattle.nm_steps.proofs.Noting.{ready, tied_after, may_sight, takes_step}
use Rattle.nm_steps.specs.Rules.{knowledge, known_births}
use Rattle.nm_steps.proofs.Sighting.{noted_idle}
use Rattle.nm_steps.proofs.pass.Shared.sight_idle.Goals as goal

pub load-epoch-requires-clause-ready : goal.load-epoch-requires-clause-ready
load-epoch-requires-clause-ready c = rw (← c.self.view_is)
    (ready _ _ _ _ _ _ _ _ _ c.self.invariant.laid c.pass.invariant (search rules) (search rules) (may_sight _ _ _)
    c.epoch-word.ensures tt)

pub invariant_of-pass : goal.invariant_of-pass
invariant_of-pass c = tied_after _ _ _ _ _ _ _ _ c.pass.invariant (may_sight _ _ _) c.load-epoch.ensures
    (noted_idle c.pass.inside.seat.me.0.layout (knowledge c.pass.inside.seat.me.0)
    (known_births c.pass.inside.seat.me.0) c.pass.inside.brief c.load-epoch.result c.pass.invariant.brief_is
    (rw (← c.pass.view_is) at c.requires.unpinned) (rw (← c.pass.view_is) at c.requires.silent)
    (rw (← c.pass.view_is) at c.requires.labelled))

pub returns : goal.returns
returns c = takes_step _ _ _ _ _ _ _ _ _ c.pass.invariant (may_sight _ _ _) c.load-epoch.ensures (search rules)
    c.pass.view_is
