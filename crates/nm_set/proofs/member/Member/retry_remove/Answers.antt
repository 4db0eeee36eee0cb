use Rattle.std.proofs.Common.{◌+◌, Bool, refl, subst}
use Rattle.std.specs.Prelude.{Result}
use Rattle.nm_model.specs.declared.event.Op.TheVariants.{Delete}
use Rattle.nm_steps.specs.Steps.{TreeView}
use Rattle.nm_calls.specs.declared.fault.CallFault.{CallFault}
use Rattle.nm_set.specs.Rounds.{AnswersIn, Finishes}
use Rattle.nm_set.proofs.Managing.{removes_at_last, removes_plain}
use Rattle.nm_set.proofs.member.Member.retry_remove.Goals as goal

pub returns-then-not-is_unfinished-clause-says : goal.returns-then-not-is_unfinished-clause-says
returns-then-not-is_unfinished-clause-says g c = λ w idle none first.
    removes_plain c.args.self.now.tree c.args.options.now c.args.key w c.retry-told.new.self.worker
    c.retry-told.result (c.if-not-is_unfinished.ensures.no refl) (c.retry-told.ensures.says w first)

pub returns-clause-says : goal.returns-clause-says
returns-clause-says g c = λ w idle none first.
    let b = c.args.self.now.tree in
    let h = c.args.options.now in
    let k = c.args.key in
    let x = c.retry-told.new.self.worker in
    let z = c.finish_with_retries.new.self.worker in
    let r = c.finish_with_retries.result in
    let flagged = subst (λ (q : Result Bool CallFault). AnswersIn b h Delete k (h.rounds + 1) w x q)
    (c.if-not-is_unfinished.ensures.yes refl) (c.retry-told.ensures.says w first) in
    removes_at_last b h k w x z idle none flagged r
    (subst (λ (d : TreeView). Finishes d h x z r) c.retry-told.ensures.tree
    c.finish_with_retries.ensures.says)
