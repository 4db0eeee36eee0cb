use Rattle.nm_core.proofs.ChainLemmas.{remembers_step}
use Rattle.nm_core.proofs.found_steps.FoundSteps.learn.Goals as goal

pub returns-then-is_at : goal.returns-then-is_at
returns-then-is_at c known is h =
    remembers_step known c.self.inside.steps.items c.args.node.now.index
    (record { slot = c.args.node.now.slot; next = c.args.next.now }) is (rw c.self.view_is h)
