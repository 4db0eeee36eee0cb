use Rattle.std.proofs.Common.{◌∙◌, ◌+◌, subst, arith}
use Rattle.std.specs.Prelude.{Ok, Err}
use Rattle.nm_model.specs.declared.event.Op.TheVariants.{Insert}
use Rattle.nm_steps.specs.Steps.{TreeView}
use Rattle.nm_tree.specs.Workers.{WorkerView}
use Rattle.nm_set.specs.Managed.{Answers, round_bound}
use Rattle.nm_set.specs.Rounds.{Inserts, IsKnown}
use Rattle.nm_set.proofs.Managing.{inserts_at_once, inserts_manage}
use Rattle.nm_set.proofs.member.Member.insert_untidy.Goals as goal

pub returns-in-Ok-clause-says : goal.returns-in-Ok-clause-says
returns-in-Ok-clause-says g c =
    let b = c.args.self.now.tree in
    let h = c.args.options.now in
    let k = c.args.key in
    let w = c.args.self.now.worker in
    let y = c.make_tidy.new.self.worker in
    let z = c.ask.new.self.worker in
    let ready = c.in_default.ensures.ready in
    let a = subst (λ (d : TreeView). Answers Insert k (round_bound h.tries d.layout) h.tries y z (Ok c.in-Ok.answer))
    c.make_tidy.ensures.tree c.in-Ok.ensures.says in
    let known : IsKnown w = record {
      seen = c.know_run.ensures.seen;
      between = c.know_run.ensures.between;
      fits =
          c.know_run.ensures.fits;
    } in
    let tidy : IsKnown y = record {
      seen = c.know_run-2.ensures.seen;
      between = c.know_run-2.ensures.between;
      fits =
          c.know_run-2.ensures.fits;
    } in
    inserts_manage b h k (h.rounds + 2) w y z (Ok c.in-Ok.answer) (omega arith) known tidy ready.onward
    (ready.prepares Insert) (inserts_at_once b h k y z c.in-Ok.answer a)

pub returns-in-Err-ask-clause-says : goal.returns-in-Err-ask-clause-says
returns-in-Err-ask-clause-says g c =
    let b = c.args.self.now.tree in
    let h = c.args.options.now in
    let k = c.args.key in
    let w = c.args.self.now.worker in
    let y = c.make_tidy.new.self.worker in
    let x = c.ask.new.self.worker in
    let z = c.retry_insert.new.self.worker in
    let r = c.retry_insert.result in
    let ready = c.in_default.ensures.ready in
    let P : TreeView → Type 0 = λ d. (v : WorkerView) → IsKnown v
    → Answers Insert k (round_bound h.tries d.layout) h.tries v x (Err c.in-Err-ask.fault)
    → Inserts d h k v z r in
    let a = subst (λ (d : TreeView). Answers Insert k (round_bound h.tries d.layout) h.tries y x
    (Err c.in-Err-ask.fault)) c.make_tidy.ensures.tree c.in-Err-ask.ensures.says in
    let known : IsKnown w = record {
      seen = c.know_run.ensures.seen;
      between = c.know_run.ensures.between;
      fits =
          c.know_run.ensures.fits;
    } in
    let tidy : IsKnown y = record {
      seen = c.know_run-2.ensures.seen;
      between = c.know_run-2.ensures.between;
      fits =
          c.know_run-2.ensures.fits;
    } in
    inserts_manage b h k (h.rounds + 2) w y z r (omega arith) known tidy ready.onward (ready.prepares Insert)
    (subst P (c.ask.ensures.tree ∙ c.make_tidy.ensures.tree) c.retry_insert.ensures.says y tidy a)
