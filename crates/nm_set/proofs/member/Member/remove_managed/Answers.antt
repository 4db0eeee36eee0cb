use Rattle.std.proofs.Common.{rules, ◌≡◌, ◌∙◌, ◌+◌, inr, refl, sym, subst, Bool}
use Rattle.std.specs.Prelude.{None, Err, Result}
use Rattle.nm_model.specs.declared.event.Op.TheVariants.{Delete}
use Rattle.nm_steps.specs.Steps.{TreeView}
use Rattle.nm_steps.specs.Values.{HasValues}
use Rattle.nm_calls.specs.Maps.{HasTaken}
use Rattle.nm_calls.specs.declared.fault.CallFault.{CallFault}
use Rattle.nm_tree.specs.Answers.{IfTaken}
use Rattle.nm_set.specs.Rounds.{AnswersIn, Finishes}
use Rattle.nm_set.proofs.Managing.{finish_err, finished, pending_manages, removes_at_last, removes_plain}
use Rattle.nm_set.proofs.MapManaging.{removes_then, took_before, took_now}
use Rattle.nm_set.proofs.member.Member.remove_managed.Goals as goal

pub returns-then-not-is_unfinished-clause-says : goal.returns-then-not-is_unfinished-clause-says
returns-then-not-is_unfinished-clause-says g c =
    let b = c.args.self.now.tree in
    let h = c.args.options.now in
    let k = c.args.key in
    let w = c.args.self.now.worker in
    let y = c.finish_with_retries.new.self.worker in
    let z = c.ask_value_with_retries-told.new.self.worker in
    let r = c.ask_value_with_retries-told.result in
    let free : w.held ≡ None = search rules in
    let a = subst (λ (d : TreeView). AnswersIn d h Delete k (h.rounds + 1) y z r) c.finish_with_retries.ensures.tree
    c.ask_value_with_retries-told.ensures.says in
    inr (
      free,
      removes_then b h k w y c.in-Ok._done c.in-Ok.ensures.says z r
          c.ask_value_with_retries-told.ensures.frees (removes_plain b h k y z r
          (c.if-not-is_unfinished.ensures.no refl)
          a),
    )

pub returns-then-not-is_unfinished-clause-takes : goal.returns-then-not-is_unfinished-clause-takes
returns-then-not-is_unfinished-clause-takes g c =
    let w = c.args.self.now.worker in
    let y = c.finish_with_retries.new.self.worker in
    let z = c.ask_value_with_retries-told.new.self.worker in
    let has : HasValues c.finish_with_retries.new.self.tree = subst HasValues
    (sym c.finish_with_retries.ensures.tree) c.requires.values in
    took_now w.pass y.pass z.pass c.args.key c.ask_value_with_retries-told.new.found
    c.ask_value_with_retries-told.result c.in-Ok.ensures.says.on.past
    (c.ask_value_with_retries-told.ensures.moves has)

pub returns-clause-says : goal.returns-clause-says
returns-clause-says g c =
    let b = c.args.self.now.tree in
    let h = c.args.options.now in
    let k = c.args.key in
    let w = c.args.self.now.worker in
    let y = c.finish_with_retries.new.self.worker in
    let x = c.ask_value_with_retries-told.new.self.worker in
    let z = c.finish_with_retries-2.new.self.worker in
    let r = c.finish_with_retries-2.result in
    let free : w.held ≡ None = search rules in
    let came = c.finish_with_retries.ensures.tree in
    let P : Result Bool CallFault → Type 0 = λ q. AnswersIn b h Delete k (h.rounds + 1) y x q in
    let flagged = subst P (c.if-not-is_unfinished.ensures.yes refl)
    (subst (λ (d : TreeView). AnswersIn d h Delete k (h.rounds + 1) y x c.ask_value_with_retries-told.result)
    came c.ask_value_with_retries-told.ensures.says) in
    let last = subst (λ (d : TreeView). Finishes d h x z r)
    (c.ask_value_with_retries-told.ensures.tree ∙ came) c.finish_with_retries-2.ensures.says in
    let none = (finished b h w y c.in-Ok._done c.in-Ok.ensures.says).none in
    inr (
      free,
      removes_then b h k w y c.in-Ok._done c.in-Ok.ensures.says z r
          (last.frees ∙ c.ask_value_with_retries-told.ensures.frees)
          (removes_at_last b h k y x z c.know_run.ensures.idle none flagged r last),
    )

pub returns-clause-takes : goal.returns-clause-takes
returns-clause-takes g c =
    let w = c.args.self.now.worker in
    let y = c.finish_with_retries.new.self.worker in
    let x = c.ask_value_with_retries-told.new.self.worker in
    let z = c.finish_with_retries-2.new.self.worker in
    let t = c.ask_value_with_retries-told.new.found in
    let has : HasValues c.finish_with_retries.new.self.tree = subst HasValues
    (sym c.finish_with_retries.ensures.tree) c.requires.values in
    let last = c.finish_with_retries-2.ensures.says in
    let taken = subst (λ (q : Result Bool CallFault). IfTaken q (HasTaken y.pass x.pass c.args.key t))
    (c.if-not-is_unfinished.ensures.yes refl) (c.ask_value_with_retries-told.ensures.moves has) in
    took_before w.pass y.pass x.pass z.pass c.args.key t c.finish_with_retries-2.result c.in-Ok.ensures.says.on.past
    taken last.on.past last.on.same

pub returns-in_default-clause-says : goal.returns-in_default-clause-says
returns-in_default-clause-says g c =
    let b = c.args.self.now.tree in
    let h = c.args.options.now in
    let w = c.args.self.now.worker in
    let z = c.finish_with_retries.new.self.worker in
    let free : w.held ≡ None = search rules in
    let f = c.in_default.ensures.says in
    inr (
      free,
      pending_manages b h Delete c.args.key w z
          (subst (λ (g : CallFault). Finishes b h w z (Err g))
          (finish_err b h w z c.in_default.field-0 f) f),
    )
