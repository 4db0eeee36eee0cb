use Rattle.nm_steps.proofs.pass.Pass.know_pooled_slots.Goals as goal

pub returns : goal.returns
returns c = rw (← c.self.view_is) c.self.invariant.private
