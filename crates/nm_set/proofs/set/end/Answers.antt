use Rattle.nm_set.proofs.SetEnds.{own_all}
use Rattle.nm_set.proofs.set.end.Goals as goal

pub end-requires : goal.end-requires
end-requires g c = record { own = own_all c.args.site.tree c.args.workers.items c.requires.own }
