use Rattle.std.proofs.Common.{◌∙◌}
use Rattle.nm_set.proofs.FirstLooks.{taken_off, new_itself}
use Rattle.nm_callers.proofs.fresh.look_in_new.Goals as goal

pub look_first-found-requires : goal.look_first-found-requires
look_first-found-requires c =
    let b = c.in-Ok.set.tree in
    let f = c.in-Ok.set.fit in
    let m = c.in_ok-member.member in
    record {
      new = new_itself b f m (taken_off b f c.in-Ok.others.items c.pop.new.self.items m
          c.in_ok-member.ensures.items c.in-Ok.ensures.new).1;
    }

pub returns-clause-own : goal.returns-clause-own
returns-clause-own c =
    let one = (taken_off c.in-Ok.set.tree c.in-Ok.set.fit c.in-Ok.others.items c.pop.new.self.items
    c.in_ok-member.member c.in_ok-member.ensures.items c.in-Ok.ensures.new).1 in
    c.look_first-found.ensures.tree ∙ one.1.tree

pub returns-clause-others : goal.returns-clause-others
returns-clause-others c = (taken_off c.in-Ok.set.tree c.in-Ok.set.fit c.in-Ok.others.items c.pop.new.self.items
    c.in_ok-member.member c.in_ok-member.ensures.items c.in-Ok.ensures.new).0
