use Rattle.std.proofs.Common.{◌∙◌}
use Rattle.nm_edge.specs.declared.edge.Side.TheVariants.{Right}
use Rattle.nm_calls.specs.MapScans.{keys_of}
use Rattle.nm_shared.specs.SharedMaps.{ScansEntries}
use Rattle.nm_shared.proofs.Borrowed.{scan_keeps, back_after, said_by}
use Rattle.nm_shared.proofs.mapping.SharedSet+Values.scan_with_values.Goals as goal

pub give_back-requires : goal.give_back-requires
give_back-requires c = record {
  back = back_after c.args.self.now c.args.caller _ _ _ c.in-Ok.loan
      (c.deref_mut.ensures.value ∙ c.worker.view_is) c.in-Ok.ensures.lent c.scan_with_values-told.ensures.tree
      (scan_keeps Right c.deref_mut.result.now.tree.layout c.args.options.now.tries c.args.from c.args.below
      (keys_of c.args.out.now) (keys_of c.scan_with_values-told.new.out) _ _ _ c.scan_with_values-told.ensures.says);
}

pub returns-in-Ok-clause-says : goal.returns-in-Ok-clause-says
returns-in-Ok-clause-says c = said_by c.args.self.now c.args.caller _ _ _ c.in-Ok.loan
    (c.deref_mut.ensures.value ∙ c.worker.view_is) c.in-Ok.ensures.lent c.scan_with_values-told.ensures.tree
    (scan_keeps Right c.deref_mut.result.now.tree.layout c.args.options.now.tries c.args.from c.args.below
    (keys_of c.args.out.now) (keys_of c.scan_with_values-told.new.out) _ _ _ c.scan_with_values-told.ensures.says)
    (λ b w z. ScansEntries Right b.layout c.args.options.now.tries c.args.from c.args.below c.args.out.now
    c.scan_with_values-told.new.out w z c.scan_with_values-told.result)
    c.give_back.result
    (record {
      says = c.scan_with_values-told.ensures.says;
      finds = c.scan_with_values-told.ensures.finds;
      kept =
          c.scan_with_values-told.ensures.kept;
    })
    c.give_back.ensures.visits c.give_back.ensures.note
