use Rattle.std.proofs.Common.{◌∙◌}
use Rattle.nm_set.specs.Maps.{LeavesReclaim}
use Rattle.nm_shared.proofs.Borrowed.{reclaim_keeps, back_after, said_by}
use Rattle.nm_shared.proofs.mapping.SharedSet+Values.reclaim.Goals as goal

pub give_back-requires : goal.give_back-requires
give_back-requires c = record {
  back = back_after c.args.self.now c.args.caller _ _ _ c.in-Ok.loan
      (c.deref_mut.ensures.value ∙ c.worker.view_is) c.in-Ok.ensures.lent c.reclaim-told.ensures.tree
      (reclaim_keeps c.deref_mut.result.now.tree.layout c.args.out.now c.reclaim-told.new.out _ _ _ _
      c.reclaim-told.ensures.says);
}

pub returns-in-Ok-clause-says : goal.returns-in-Ok-clause-says
returns-in-Ok-clause-says c = said_by c.args.self.now c.args.caller _ _ _ c.in-Ok.loan
    (c.deref_mut.ensures.value ∙ c.worker.view_is) c.in-Ok.ensures.lent c.reclaim-told.ensures.tree
    (reclaim_keeps c.deref_mut.result.now.tree.layout c.args.out.now c.reclaim-told.new.out _ _ _ _
    c.reclaim-told.ensures.says)
    (λ b w z. LeavesReclaim b.layout c.args.out.now c.reclaim-told.new.out w z c.reclaim-told.result.behind
    c.reclaim-told.result.handed)
    c.give_back.result (c.reclaim-told.ensures.says) c.give_back.ensures.visits c.give_back.ensures.note
