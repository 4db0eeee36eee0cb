use Rattle.nm_steps.proofs.pass.Pass.know_stores.Goals as goal

pub returns : goal.returns
returns c = rw (← c.self.view_is) c.self.invariant.stored
