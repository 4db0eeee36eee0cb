use Rattle.std.proofs.Common.{ap, sym, ◌∙◌, map, set}
use Rattle.std.proofs.lemmas.List.{map-set, get_or-map}
use Rattle.nm_model.specs.Searches.{Search, idle, searched}
use Rattle.nm_model.specs.Rooms.{Roomy}
use Rattle.nm_core.proofs.searches.Searches.learn.Goals as goal

abbrev tells : Roomy → Search
tells s = s.tells

pub returns : goal.returns
returns c = rw (← c.self.view_is)
    (map-set tells c.self.inside.by_worker.items c.args.worker c.learn.new.self
    ∙ ap (λ t. set (map tells c.self.inside.by_worker.items) c.args.worker t)
    (c.learn.ensures ∙ ap (λ s. searched s c.args.event.now c.args.reply.now)
    (ap tells c.index_mut.ensures.value ∙ sym (get_or-map tells c.self.inside.by_worker.items c.args.worker
    c.index_mut.result.now idle (rw c.self.view_is c.requires.is_there)))))
