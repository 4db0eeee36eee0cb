use Rattle.std.proofs.Common.{◌∙◌, ap}
use Rattle.nm_edge.specs.Layouts.{Layout}
use Rattle.nm_steps.specs.Steps.{TreeView}
use Rattle.nm_set.proofs.FirstLooks.{taken_off, new_itself}
use Rattle.nm_callers.proofs.fresh.look_in_new_of_one.Goals as goal

pub look_only-requires : goal.look_only-requires
look_only-requires c =
    let b = c.in-Ok._set.tree in
    let f = c.in-Ok._set.fit in
    let m = c.in_ok-member.member in
    let one = (taken_off b f c.in-Ok.members.items c.pop.new.self.items m c.in_ok-member.ensures.items
    c.in-Ok.ensures.new).1 in
    record {
      new = new_itself b f m one;
      one = ap (λ (d : TreeView). d.layout.workers) one.1.tree
          ∙ ap (λ (l : Layout). l.workers) c.in-Ok.ensures.open.layout;
    }
