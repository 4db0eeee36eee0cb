use Rattle.std.proofs.Common.{◌∙◌}
use Rattle.nm_set.specs.MapPuts.{SaysManagedPut}
use Rattle.nm_shared.proofs.Borrowed.{put_keeps, back_after, said_by}
use Rattle.nm_shared.proofs.mapping.SharedSet+Values.put.Goals as goal

pub give_back-requires : goal.give_back-requires
give_back-requires c = record {
  back = back_after c.args.self.now c.args.caller _ _ _ c.in-Ok.loan
      (c.deref_mut.ensures.value ∙ c.worker.view_is) c.in-Ok.ensures.lent c.put-told.ensures.tree
      (put_keeps c.deref_mut.result.now.tree c.args.options.now c.args.condition c.args.key c.args.value _ _ _
      c.put-told.ensures.says);
}

pub returns-in-Ok-clause-says : goal.returns-in-Ok-clause-says
returns-in-Ok-clause-says c = said_by c.args.self.now c.args.caller _ _ _ c.in-Ok.loan
    (c.deref_mut.ensures.value ∙ c.worker.view_is) c.in-Ok.ensures.lent c.put-told.ensures.tree
    (put_keeps c.deref_mut.result.now.tree c.args.options.now c.args.condition c.args.key c.args.value _ _ _
    c.put-told.ensures.says)
    (λ b w z. SaysManagedPut b c.args.options.now c.args.condition c.args.key c.args.value w z c.put-told.result)
    c.give_back.result c.put-told.ensures.says c.give_back.ensures.visits c.give_back.ensures.note
