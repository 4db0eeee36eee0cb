use Rattle.std.proofs.Common.{◌∙◌, ◌<◌, ◌≤◌}
use Rattle.nm_edge.specs.Keys.{IsKey}
use Rattle.nm_shared.specs.SharedMaps.{PopsEntry}
use Rattle.nm_shared.proofs.Borrowed.{pop_keeps, back_after, said_by}
use Rattle.nm_shared.proofs.mapping.SharedSet+Values.pop_last_from.Goals as goal

pub give_back-requires : goal.give_back-requires
give_back-requires c = record {
  back = back_after c.args.self.now c.args.caller _ _ _ c.in-Ok.loan
      (c.deref_mut.ensures.value ∙ c.worker.view_is) c.in-Ok.ensures.lent c.pop_last_from-told.ensures.tree
      (pop_keeps (λ j. IsKey j × (c.args.from ≤ j)) (λ j key. key < j) c.deref_mut.result.now.tree c.args.options.now
      _ _ _ c.pop_last_from-told.ensures.says);
}

pub returns-in-Ok-clause-says : goal.returns-in-Ok-clause-says
returns-in-Ok-clause-says c = said_by c.args.self.now c.args.caller _ _ _ c.in-Ok.loan
    (c.deref_mut.ensures.value ∙ c.worker.view_is) c.in-Ok.ensures.lent c.pop_last_from-told.ensures.tree
    (pop_keeps (λ j. IsKey j × (c.args.from ≤ j)) (λ j key. key < j) c.deref_mut.result.now.tree c.args.options.now _
    _ _ c.pop_last_from-told.ensures.says)
    (λ b w z. PopsEntry (λ j. IsKey j × (c.args.from ≤ j)) (λ j key. key < j) b c.args.options.now
    c.pop_last_from-told.new.taken w z c.pop_last_from-told.result)
    c.give_back.result
    (record {
      says = c.pop_last_from-told.ensures.says;
      takes = c.pop_last_from-told.ensures.takes;
      frees =
          c.pop_last_from-told.ensures.frees;
    })
    c.give_back.ensures.visits c.give_back.ensures.note
