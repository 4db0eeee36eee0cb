use Rattle.nm_calls.proofs.TakingActs.{maps_of_seen}
use Rattle.nm_tree.proofs.worker.Worker.know_map.Goals as goal

pub returns : goal.returns
returns c = rw (← c.self.view_is) (maps_of_seen c.self.inside.pass.view c.know_run.ensures.fits c.know_run.ensures.seen)
