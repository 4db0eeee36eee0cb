use Rattle.std.proofs.Common.{◌≡◌, false, List, ap, subst}
use Rattle.nm_model.specs.declared.trace.Turn.{Turn}
use Rattle.nm_steps.specs.declared.view.View.{View}
use Rattle.nm_callers.specs.Meanwhile.{NoneInserted}
use Rattle.nm_callers.proofs.Answered.{if_answered}
use Rattle.nm_callers.proofs.ToldMembers.{looks_first}
use Rattle.nm_callers.proofs.fresh.look_first.Goals as goal

pub returns-clause-missed : goal.returns-clause-missed
returns-clause-missed c none =
    let m = c.args.member.now in
    let z = c.contains.new.self.worker in
    let nothing = ap (λ (v : View). v.past) c.requires.new.1.new.1 in
    if_answered c.contains.result c.ok.result (λ answer. answer ≡ false) c.ok.ensures.value
    (looks_first m.tree c.args.options.now c.args.key m.worker z c.contains.result c.contains.ensures.says
    (subst (λ (ts : List Turn). NoneInserted z.pass.view.layout ts z.pass.view.past c.args.key) nothing none))
