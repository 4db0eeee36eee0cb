use Rattle.std.proofs.Common.{refl, subst}
use Rattle.nm_steps.specs.Steps.{TreeView}
use Rattle.nm_set.specs.Rounds.{IsRelieved}
use Rattle.nm_set.proofs.Managing.{ready_as_is, ready_relieved}
use Rattle.nm_set.proofs.member.Member.make_tidy.Goals as goal

pub returns-then-has_many_waiting-clause-ready : goal.returns-then-has_many_waiting-clause-ready
returns-then-has_many_waiting-clause-ready g c =
    let b = c.args.self.now.tree in
    let x = c.finish_with_retries.new.self.worker in
    let z = c.relieve.new.self.worker in
    ready_relieved b c.args.options.now c.args.self.now.worker x c.in-Ok._done c.in-Ok.ensures.says z
    c.relieve.result (subst (λ (d : TreeView). IsRelieved d.layout x z c.relieve.result)
    c.finish_with_retries.ensures.tree c.relieve.ensures.did)

pub returns-else-has_many_waiting-clause-ready : goal.returns-else-has_many_waiting-clause-ready
returns-else-has_many_waiting-clause-ready g c = ready_as_is c.args.self.now.tree c.args.options.now
    c.args.self.now.worker c.finish_with_retries.new.self.worker c.in-Ok._done c.in-Ok.ensures.says
    (c.if-has_many_waiting.ensures.no refl)
