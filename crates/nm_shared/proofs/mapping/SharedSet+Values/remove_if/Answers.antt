use Rattle.std.proofs.Common.{◌∙◌}
use Rattle.nm_set.specs.MapRemoves.{SaysRemoveIf}
use Rattle.nm_shared.proofs.Borrowed.{remove_if_keeps, back_after, said_by}
use Rattle.nm_shared.proofs.mapping.SharedSet+Values.remove_if.Goals as goal

pub give_back-requires : goal.give_back-requires
give_back-requires c = record {
  back = back_after c.args.self.now c.args.caller _ _ _ c.in-Ok.loan
      (c.deref_mut.ensures.value ∙ c.worker.view_is) c.in-Ok.ensures.lent c.remove_if-told.ensures.tree
      (remove_if_keeps c.deref_mut.result.now.tree c.args.options.now c.args.key c.args.expected _ _ _
      c.remove_if-told.ensures.says);
}

pub returns-in-Ok-clause-says : goal.returns-in-Ok-clause-says
returns-in-Ok-clause-says c = said_by c.args.self.now c.args.caller _ _ _ c.in-Ok.loan
    (c.deref_mut.ensures.value ∙ c.worker.view_is) c.in-Ok.ensures.lent c.remove_if-told.ensures.tree
    (remove_if_keeps c.deref_mut.result.now.tree c.args.options.now c.args.key c.args.expected _ _ _
    c.remove_if-told.ensures.says)
    (λ b w z. SaysRemoveIf b c.args.options.now c.args.key c.args.expected w z c.remove_if-told.result)
    c.give_back.result c.remove_if-told.ensures.says c.give_back.ensures.visits c.give_back.ensures.note
