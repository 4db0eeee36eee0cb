use Rattle.std.proofs.Common.{◌∙◌, sym, true≢false}
use Rattle.nm_set.proofs.MapManaging.{change_frees_none, removed_from_map, removed_from_set}
use Rattle.nm_set.proofs.member.Member.remove_popped.Goals as goal

pub returns-then-in_map-clause-says : goal.returns-then-in_map-clause-says
returns-then-in_map-clause-says g c = removed_from_map c.args.self.now.tree c.args.options.now c.args.key
    c.args.self.now.worker c.remove_managed.new.self.worker c.remove_managed.result c.remove_managed.ensures.says

pub returns-else-in_map-clause-says : goal.returns-else-in_map-clause-says
returns-else-in_map-clause-says g c = removed_from_set c.args.self.now.tree c.args.options.now c.args.key
    c.args.self.now.worker c.remove_freeing.new.self.worker c.remove_freeing.result c.remove_freeing.ensures.says

pub returns-then-in_map-clause-frees : goal.returns-then-in_map-clause-frees
returns-then-in_map-clause-frees g c = λ map. change_frees_none c.args.self.now.tree c.args.options.now c.args.key
    c.args.self.now.worker c.remove_managed.new.self.worker c.remove_managed.result c.remove_managed.ensures.says

pub returns-else-in_map-clause-frees : goal.returns-else-in_map-clause-frees
returns-else-in_map-clause-frees g c = λ map. absurd (true≢false (sym map ∙ c.if-in_map.false))
