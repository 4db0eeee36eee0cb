use Rattle.std.proofs.Common.{ap, ◌∙◌}
use Rattle.std.proofs.Math.Seq.{map-set_same}
use Rattle.nm_model.specs.Searches.{Search}
use Rattle.nm_model.specs.Rooms.{Roomy}
use Rattle.nm_core.proofs.searches.Searches.make_room.Goals as goal

abbrev tells : Roomy → Search
tells s = s.tells

pub returns-clause-same : goal.returns-clause-same
returns-clause-same c = rw (← c.self.view_is) (map-set_same tells c.self.inside.by_worker.items c.args.worker
    c.make_room.new.self c.index_mut.result.now (c.make_room.ensures.same ∙ ap tells c.index_mut.ensures.value))
