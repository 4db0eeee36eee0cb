use Rattle.std.proofs.Common.{refl, subst}
use Rattle.nm_model.specs.declared.event.Op.TheVariants.{Delete}
use Rattle.nm_tree.specs.Workers.{WorkerView}
use Rattle.nm_set.specs.Managed.{Manages}
use Rattle.nm_set.proofs.Managing.{delete_failed, pending_delete, removes_tidy}
use Rattle.nm_set.proofs.member.Member.remove_after.Goals as goal

pub remove_untidy-requires : goal.remove_untidy-requires
remove_untidy-requires g c = record { free = c.requires.begun.1.says.held }

pub retry_remove-requires : goal.retry_remove-requires
retry_remove-requires g c = record {
  begun = (
    c.requires.begun.0,
    (delete_failed c.args.self.now.tree.layout c.args.options.now.tries c.args.key c.requires.begun.0
        c.args.self.now.worker c.args.fault (c.if-is_pending.ensures.no refl) c.requires.begun.1).1,
  );
}

pub returns-then-is_pending-clause-says : goal.returns-then-is_pending-clause-says
returns-then-is_pending-clause-says g c = λ w free idle few l.
    subst (λ (v : WorkerView). Manages c.args.self.now.tree c.args.options.now Delete c.args.key v
    c.remove_untidy.new.self.worker c.remove_untidy.result)
    (pending_delete c.args.self.now.tree.layout c.args.options.now.tries c.args.key w c.args.self.now.worker
    c.args.fault (c.if-is_pending.ensures.yes refl) l) c.remove_untidy.ensures.says

pub returns-else-is_pending-clause-says : goal.returns-else-is_pending-clause-says
returns-else-is_pending-clause-says g c = λ w free idle few l.
    let failed = delete_failed c.args.self.now.tree.layout c.args.options.now.tries c.args.key w
    c.args.self.now.worker c.args.fault (c.if-is_pending.ensures.no refl) l in
    removes_tidy c.args.self.now.tree c.args.options.now c.args.key w c.retry_remove.new.self.worker free failed.0
    few c.retry_remove.result (c.retry_remove.ensures.says w idle failed.0 failed.1)
