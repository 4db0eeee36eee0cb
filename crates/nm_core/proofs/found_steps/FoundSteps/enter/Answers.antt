use Rattle.std.proofs.Common.{refl}
use Rattle.nm_core.proofs.ChainLemmas.{remembers_place}
use Rattle.nm_core.proofs.found_steps.FoundSteps.enter.Goals as goal

pub returns : goal.returns
returns c known h = rw c.in_ok-push.ensures.items
    (remembers_place known c.self.inside.steps.items c.unknown.result (rw c.unknown.ensures refl) (rw c.self.view_is h))
