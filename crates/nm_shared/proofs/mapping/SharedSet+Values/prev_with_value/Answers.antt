use Rattle.std.proofs.Common.{◌∙◌}
use Rattle.nm_shared.specs.SharedMaps.{PrevEntry}
use Rattle.nm_shared.proofs.Borrowed.{prev_keeps, back_after, said_by}
use Rattle.nm_shared.proofs.mapping.SharedSet+Values.prev_with_value.Goals as goal

pub give_back-requires : goal.give_back-requires
give_back-requires c = record {
  back = back_after c.args.self.now c.args.caller _ _ _ c.in-Ok.loan
      (c.deref_mut.ensures.value ∙ c.worker.view_is) c.in-Ok.ensures.lent c.prev_with_value-told.ensures.tree
      (prev_keeps c.deref_mut.result.now.tree.layout c.args.options.now.tries c.args.key _ _ _
      c.prev_with_value-told.ensures.says);
}

pub returns-in-Ok-clause-says : goal.returns-in-Ok-clause-says
returns-in-Ok-clause-says c = said_by c.args.self.now c.args.caller _ _ _ c.in-Ok.loan
    (c.deref_mut.ensures.value ∙ c.worker.view_is) c.in-Ok.ensures.lent c.prev_with_value-told.ensures.tree
    (prev_keeps c.deref_mut.result.now.tree.layout c.args.options.now.tries c.args.key _ _ _
    c.prev_with_value-told.ensures.says)
    (λ b w z. PrevEntry b.layout c.args.options.now.tries c.args.key c.prev_with_value-told.new.value w z
    c.prev_with_value-told.result)
    c.give_back.result
    (record { says = c.prev_with_value-told.ensures.says; finds = c.prev_with_value-told.ensures.finds })
    c.give_back.ensures.visits c.give_back.ensures.note
