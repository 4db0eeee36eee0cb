use Rattle.nm_calls.proofs.TakingActs.{maps_of_seen}
use Rattle.nm_set.proofs.map_calls.Member+Values.know_map.Goals as goal

pub returns : goal.returns
returns c = maps_of_seen c.args.self.now.worker.pass.view c.know_run.ensures.fits c.know_run.ensures.seen
