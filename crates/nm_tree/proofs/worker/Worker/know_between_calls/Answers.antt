use Rattle.nm_tree.proofs.worker.Worker.know_between_calls.Goals as goal

pub returns : goal.returns
returns c = rw (← c.self.view_is) c.self.invariant.between
