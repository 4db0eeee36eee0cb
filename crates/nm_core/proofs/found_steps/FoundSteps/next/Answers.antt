use Rattle.std.proofs.Common.{rules}
use Rattle.nm_core.proofs.ChainLemmas.{remembers_at}
use Rattle.nm_core.proofs.found_steps.FoundSteps.next.Goals as goal

pub returns-in-Some : goal.returns-in-Some
returns-in-Some c known h = rw (← c.if-step-node.true)
    (remembers_at known c.self.inside.steps.items c.args.node.now.index c.in-Some.step.now (search rules)
    (search rules) c.if-step-ne0.true (rw c.self.view_is h))
