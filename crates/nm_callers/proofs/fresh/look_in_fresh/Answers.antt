use Rattle.std.proofs.Common.{rules, ◌∙◌, ap}
use Rattle.nm_edge.specs.Layouts.{Layout}
use Rattle.nm_steps.specs.Steps.{TreeView}
use Rattle.nm_set.proofs.FirstLooks.{new_itself}
use Rattle.nm_callers.proofs.fresh.look_in_fresh.Goals as goal

pub look_only-requires : goal.look_only-requires
look_only-requires c =
    let b = c.in-Ok.set.tree in
    let f = c.in-Ok.set.fit in
    let m = c.in-Ok-member.member in
    let first = c.in-Ok-member.ensures.first (search rules) in
    record {
      new = new_itself b f m (0, first);
      one = ap (λ (d : TreeView). d.layout.workers) first.tree
          ∙ ap (λ (l : Layout). l.workers) c.in-Ok.ensures.open.layout;
    }
