use Rattle.std.proofs.Common.{◌≡◌, Bool, false, subst}
use Rattle.std.specs.Prelude.{Ok}
use Rattle.nm_model.specs.declared.event.Op.TheVariants.{Delete}
use Rattle.nm_set.specs.Managed.{SaysManaged}
use Rattle.nm_callers.proofs.Answered.{if_answered}
use Rattle.nm_callers.proofs.ToldMembers.{looks_then, seen_behind, seen_both}
use Rattle.nm_callers.specs.Meanwhile.{NoneInserted}
use Rattle.nm_callers.proofs.TwoAnswers.{deleted_then_missed}
use Rattle.nm_callers.proofs.members.remove_then_miss.Goals as goal

pub returns-in-Ok-true-clause-missed : goal.returns-in-Ok-true-clause-missed
returns-in-Ok-true-clause-missed c none =
    let b = c.args.member.now.tree in
    let h = c.args.options.now in
    let k = c.args.key in
    let w = c.args.member.now.worker in
    let x = c.remove.new.self.worker in
    let removed = subst (λ (answer : Bool). SaysManaged Delete b h k w x (Ok answer)) c.in-Ok-true.field-0-test
    c.in-Ok-true.ensures.says in
    if_answered c.contains.result c.ok.result (λ answer. answer ≡ false) c.ok.ensures.value
    (looks_then NoneInserted Delete false deleted_then_missed b c.remove.new.self.tree h k w x
    c.contains.new.self.worker c.contains.result removed c.contains.ensures.says none)

pub returns-in-Ok-true-clause-past : goal.returns-in-Ok-true-clause-past
returns-in-Ok-true-clause-past c =
    seen_both Delete c.args.member.now.tree c.remove.new.self.tree c.args.options.now c.args.key
    c.args.member.now.worker c.remove.new.self.worker c.contains.new.self.worker c.remove.result c.contains.result
    c.remove.ensures.says c.contains.ensures.says

pub returns-in_default-clause-past : goal.returns-in_default-clause-past
returns-in_default-clause-past c = seen_behind Delete c.args.member.now.tree c.args.options.now c.args.key
    c.args.member.now.worker c.remove.new.self.worker c.remove.result c.remove.ensures.says

pub returns-in_default-2-clause-past : goal.returns-in_default-2-clause-past
returns-in_default-2-clause-past c = seen_behind Delete c.args.member.now.tree c.args.options.now c.args.key
    c.args.member.now.worker c.remove.new.self.worker c.remove.result c.remove.ensures.says
