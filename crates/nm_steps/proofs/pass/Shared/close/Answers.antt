use Rattle.std.proofs.Common.{sym, ◌∙◌}
use Rattle.nm_steps.proofs.Endings.{ended, ended_long, ended_with_values}
use Rattle.nm_steps.proofs.pass.Shared.close.Goals as goal

pub returns-clause-ends : goal.returns-clause-ends
returns-clause-ends c = rw (← c.self.view_is, ← c.pass.view_is)
    (ended _ _ _ _ _ _ c.words.ensures (rw c.self.invariant.laid.key_is at c.close_with.ensures.values.2))

pub returns-clause-long : goal.returns-clause-long
returns-clause-long c = rw (← c.self.view_is) (ended_long _ _ _
    (ended _ _ _ _ _ _ c.words.ensures (rw c.self.invariant.laid.key_is at c.close_with.ensures.values.2)))

-- a table with values has as many slots as nodes
pub returns-clause-values : goal.returns-clause-values
returns-clause-values c = rw (← c.self.view_is, ← c.pass.view_is)
    (λ values. ended_with_values _ _ _ _ _ _ c.words.ensures
    (rw c.self.invariant.laid.key_is at c.close_with.ensures.values.2)
    (sym c.close_with.result.slots.ok.0 ∙ (c.close_with.ensures.counts.1 ∙ values.slots_are)))
