use Rattle.std.proofs.Common.{◌≡◌, ◌∙◌, subst}
use Rattle.std.specs.Prelude.{None, Ok, Err}
use Rattle.nm_model.specs.declared.event.Op.TheVariants.{Delete}
use Rattle.nm_steps.specs.Steps.{TreeView}
use Rattle.nm_tree.specs.Workers.{IsIdle, WorkerView}
use Rattle.nm_set.specs.Managed.{Answers, round_bound}
use Rattle.nm_set.specs.Rounds.{Removes}
use Rattle.nm_set.proofs.Managing.{answered, removes_after, removes_plain}
use Rattle.nm_set.proofs.member.Member.remove_untidy.Goals as goal

pub returns-in-Ok-clause-says : goal.returns-in-Ok-clause-says
returns-in-Ok-clause-says g c =
    let b = c.args.self.now.tree in
    let h = c.args.options.now in
    let k = c.args.key in
    let w = c.args.self.now.worker in
    let y = c.make_tidy.new.self.worker in
    let z = c.ask.new.self.worker in
    let a = subst (λ (d : TreeView). Answers Delete k (round_bound h.tries d.layout) h.tries y z (Ok c.in-Ok.answer))
    c.make_tidy.ensures.tree c.in-Ok.ensures.says in
    removes_after b h k w y z (Ok c.in-Ok.answer) c.in_ok-make_tidy.ensures.ready
    (removes_plain b h k y z (Ok c.in-Ok.answer) (λ is. (let no = is in cc))
    (answered b h Delete k y z c.in-Ok.answer a))

pub returns-in-Err-clause-says : goal.returns-in-Err-clause-says
returns-in-Err-clause-says g c =
    let b = c.args.self.now.tree in
    let h = c.args.options.now in
    let k = c.args.key in
    let w = c.args.self.now.worker in
    let y = c.make_tidy.new.self.worker in
    let x = c.ask.new.self.worker in
    let z = c.retry_remove.new.self.worker in
    let r = c.retry_remove.result in
    let ready = c.in_ok-make_tidy.ensures.ready in
    let P : TreeView → Type 0 = λ d. (v : WorkerView) → IsIdle v → v.pending ≡ None
    → Answers Delete k (round_bound h.tries d.layout) h.tries v x (Err c.in-Err.fault) → Removes d h k v z r in
    let a = subst (λ (d : TreeView). Answers Delete k (round_bound h.tries d.layout) h.tries y x
    (Err c.in-Err.fault)) c.make_tidy.ensures.tree c.in-Err.ensures.says in
    removes_after b h k w y z r ready (subst P (c.ask.ensures.tree ∙ c.make_tidy.ensures.tree)
    c.retry_remove.ensures.says y c.know_run.ensures.idle ready.onward.none a)
