use Rattle.std.proofs.Common.{◌∙◌}
use Rattle.nm_shared.specs.SharedMaps.{GetsMany}
use Rattle.nm_shared.proofs.Borrowed.{get_many_keeps, back_after, said_by}
use Rattle.nm_shared.proofs.mapping.SharedSet+Values.get_many.Goals as goal

pub give_back-requires : goal.give_back-requires
give_back-requires c = record {
  back = back_after c.args.self.now c.args.caller _ _ _ c.in-Ok.loan
      (c.deref_mut.ensures.value ∙ c.worker.view_is) c.in-Ok.ensures.lent c.get_under_pin-told.ensures.tree
      (get_many_keeps c.deref_mut.result.now.tree.layout c.args.options.now.tries c.args.queries.now
      c.get_under_pin-told.new.queries _ _ _ c.get_under_pin-told.ensures.says);
}

pub returns-in-Ok-clause-says : goal.returns-in-Ok-clause-says
returns-in-Ok-clause-says c = said_by c.args.self.now c.args.caller _ _ _ c.in-Ok.loan
    (c.deref_mut.ensures.value ∙ c.worker.view_is) c.in-Ok.ensures.lent c.get_under_pin-told.ensures.tree
    (get_many_keeps c.deref_mut.result.now.tree.layout c.args.options.now.tries c.args.queries.now
    c.get_under_pin-told.new.queries _ _ _ c.get_under_pin-told.ensures.says)
    (λ b w z. GetsMany b.layout c.args.options.now.tries c.args.queries.now c.get_under_pin-told.new.queries w z
    c.get_under_pin-told.result)
    c.give_back.result c.get_under_pin-told.ensures.says c.give_back.ensures.visits c.give_back.ensures.note
