use Rattle.std.proofs.Common.{◌∙◌}
use Rattle.nm_model.specs.declared.event.Op.TheVariants.{Delete}
use Rattle.nm_shared.specs.SharedMaps.{TakesValue}
use Rattle.nm_shared.proofs.Borrowed.{change_keeps, back_after, said_by}
use Rattle.nm_shared.proofs.mapping.SharedSet+Values.remove.Goals as goal

pub give_back-requires : goal.give_back-requires
give_back-requires c = record {
  back = back_after c.args.self.now c.args.caller _ _ _ c.in-Ok.loan
      (c.deref_mut.ensures.value ∙ c.worker.view_is) c.in-Ok.ensures.lent c.remove-told.ensures.tree
      (change_keeps Delete c.deref_mut.result.now.tree c.args.options.now c.args.key _ _ _ c.remove-told.ensures.says);
}

pub returns-in-Ok-clause-says : goal.returns-in-Ok-clause-says
returns-in-Ok-clause-says c = said_by c.args.self.now c.args.caller _ _ _ c.in-Ok.loan
    (c.deref_mut.ensures.value ∙ c.worker.view_is) c.in-Ok.ensures.lent c.remove-told.ensures.tree
    (change_keeps Delete c.deref_mut.result.now.tree c.args.options.now c.args.key _ _ _ c.remove-told.ensures.says)
    (λ b w z. TakesValue b c.args.options.now c.args.key c.remove-told.new.taken w z c.remove-told.result)
    c.give_back.result
    (record { says = c.remove-told.ensures.says; takes = c.remove-told.ensures.takes })
    c.give_back.ensures.visits c.give_back.ensures.note
