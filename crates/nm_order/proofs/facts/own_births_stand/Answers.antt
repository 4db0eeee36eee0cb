use Rattle.nm_order.proofs.LinkedBirths.{own_births_stand as in_every_run}
use Rattle.nm_order.proofs.facts.own_births_stand.Goals as goal

pub returns : goal.returns
returns c = in_every_run
