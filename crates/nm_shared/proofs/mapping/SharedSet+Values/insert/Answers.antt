use Rattle.std.proofs.Common.{◌∙◌}
use Rattle.nm_model.specs.declared.event.Op.TheVariants.{Insert}
use Rattle.nm_shared.specs.SharedMaps.{InsertsValue}
use Rattle.nm_shared.proofs.Borrowed.{change_keeps, back_after, said_by}
use Rattle.nm_shared.proofs.mapping.SharedSet+Values.insert.Goals as goal

pub give_back-requires : goal.give_back-requires
give_back-requires c = record {
  back = back_after c.args.self.now c.args.caller _ _ _ c.in-Ok.loan
      (c.deref_mut.ensures.value ∙ c.worker.view_is) c.in-Ok.ensures.lent c.insert-told.ensures.tree
      (change_keeps Insert c.deref_mut.result.now.tree c.args.options.now c.args.key _ _ _ c.insert-told.ensures.says);
}

pub returns-in-Ok-clause-says : goal.returns-in-Ok-clause-says
returns-in-Ok-clause-says c = said_by c.args.self.now c.args.caller _ _ _ c.in-Ok.loan
    (c.deref_mut.ensures.value ∙ c.worker.view_is) c.in-Ok.ensures.lent c.insert-told.ensures.tree
    (change_keeps Insert c.deref_mut.result.now.tree c.args.options.now c.args.key _ _ _ c.insert-told.ensures.says)
    (λ b w z. InsertsValue b c.args.options.now c.args.key c.args.value c.insert-told.new.found w z
    c.insert-told.result)
    c.give_back.result
    (record {
      says = c.insert-told.ensures.says;
      puts = c.insert-told.ensures.puts;
      finds =
          c.insert-told.ensures.finds;
    })
    c.give_back.ensures.visits c.give_back.ensures.note
