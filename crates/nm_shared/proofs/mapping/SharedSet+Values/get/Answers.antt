use Rattle.std.proofs.Common.{◌∙◌}
use Rattle.nm_set.specs.Maps.{SaysGet}
use Rattle.nm_shared.proofs.Borrowed.{get_keeps, back_after, said_by}
use Rattle.nm_shared.proofs.mapping.SharedSet+Values.get.Goals as goal

pub give_back-requires : goal.give_back-requires
give_back-requires c = record {
  back = back_after c.args.self.now c.args.caller _ _ _ c.in-Ok.loan
      (c.deref_mut.ensures.value ∙ c.worker.view_is) c.in-Ok.ensures.lent c.get-told.ensures.tree
      (get_keeps c.deref_mut.result.now.tree c.args.options.now c.args.key _ _ _ c.get-told.ensures.says);
}

pub returns-in-Ok-clause-says : goal.returns-in-Ok-clause-says
returns-in-Ok-clause-says c = said_by c.args.self.now c.args.caller _ _ _ c.in-Ok.loan
    (c.deref_mut.ensures.value ∙ c.worker.view_is) c.in-Ok.ensures.lent c.get-told.ensures.tree
    (get_keeps c.deref_mut.result.now.tree c.args.options.now c.args.key _ _ _ c.get-told.ensures.says)
    (λ b w z. SaysGet b c.args.options.now c.args.key w z c.get-told.result)
    c.give_back.result (c.get-told.ensures.says) c.give_back.ensures.visits c.give_back.ensures.note
