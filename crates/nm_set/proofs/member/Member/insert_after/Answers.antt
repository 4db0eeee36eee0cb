use Rattle.std.proofs.Common.{refl, subst}
use Rattle.nm_tree.specs.Workers.{WorkerView}
use Rattle.nm_set.specs.Rounds.{ManagesInsert}
use Rattle.nm_set.proofs.Managing.{insert_failed, inserts_tidy, pending_insert}
use Rattle.nm_set.proofs.member.Member.insert_after.Goals as goal

pub insert_untidy-requires : goal.insert_untidy-requires
insert_untidy-requires g c = record { free = c.requires.begun.1.says.held }

pub retry_insert-requires : goal.retry_insert-requires
retry_insert-requires g c = record {
  begun = (
    c.requires.begun.0,
    (insert_failed c.args.self.now.tree.layout c.args.options.now.tries c.args.key c.requires.begun.0
        c.args.self.now.worker c.args.fault (c.if-is_pending.ensures.no refl) c.requires.begun.1).1,
  );
}

pub returns-then-is_pending-clause-says : goal.returns-then-is_pending-clause-says
returns-then-is_pending-clause-says g c = λ w free known few l.
    subst (λ (v : WorkerView). ManagesInsert c.args.self.now.tree c.args.options.now c.args.key v
    c.insert_untidy.new.self.worker c.insert_untidy.result)
    (pending_insert c.args.self.now.tree.layout c.args.options.now.tries c.args.key w c.args.self.now.worker
    c.args.fault (c.if-is_pending.ensures.yes refl) l) c.insert_untidy.ensures.says

pub returns-else-is_pending-clause-says : goal.returns-else-is_pending-clause-says
returns-else-is_pending-clause-says g c = λ w free known few l.
    let failed = insert_failed c.args.self.now.tree.layout c.args.options.now.tries c.args.key w
    c.args.self.now.worker c.args.fault (c.if-is_pending.ensures.no refl) l in
    inserts_tidy c.args.self.now.tree c.args.options.now c.args.key w c.retry_insert.new.self.worker free failed.0
    few known c.retry_insert.result (c.retry_insert.ensures.says w known failed.1)
