use Rattle.std.proofs.Common.{◌≡◌, Bool, true, subst}
use Rattle.std.specs.Prelude.{Ok}
use Rattle.nm_model.specs.declared.event.Op.TheVariants.{Insert}
use Rattle.nm_set.specs.Managed.{SaysManaged, of_insert}
use Rattle.nm_callers.proofs.Answered.{if_answered}
use Rattle.nm_callers.proofs.ToldMembers.{looks_then, seen_behind, seen_both}
use Rattle.nm_callers.specs.Meanwhile.{NoneDeleted}
use Rattle.nm_callers.proofs.TwoAnswers.{inserted_then_found}
use Rattle.nm_callers.proofs.members.add_then_find.Goals as goal

pub returns-in-Ok-true-clause-found : goal.returns-in-Ok-true-clause-found
returns-in-Ok-true-clause-found c none =
    let b = c.args.member.now.tree in
    let h = c.args.options.now in
    let k = c.args.key in
    let w = c.args.member.now.worker in
    let x = c.insert.new.self.worker in
    let added = subst (λ (answer : Bool). SaysManaged Insert b h k w x (Ok answer)) c.in-Ok-true.field-0-test
    c.in-Ok-true.ensures.says in
    if_answered c.contains.result c.ok.result (λ answer. answer ≡ true) c.ok.ensures.value
    (looks_then NoneDeleted Insert true inserted_then_found b c.insert.new.self.tree h k w x
    c.contains.new.self.worker c.contains.result added c.contains.ensures.says none)

pub returns-in-Ok-true-clause-past : goal.returns-in-Ok-true-clause-past
returns-in-Ok-true-clause-past c =
    seen_both Insert c.args.member.now.tree c.insert.new.self.tree c.args.options.now c.args.key
    c.args.member.now.worker c.insert.new.self.worker c.contains.new.self.worker (of_insert c.insert.result)
    c.contains.result c.insert.ensures.says c.contains.ensures.says

pub returns-in_default-clause-past : goal.returns-in_default-clause-past
returns-in_default-clause-past c = seen_behind Insert c.args.member.now.tree c.args.options.now c.args.key
    c.args.member.now.worker c.insert.new.self.worker (of_insert c.insert.result) c.insert.ensures.says

pub returns-in_default-2-clause-past : goal.returns-in_default-2-clause-past
returns-in_default-2-clause-past c = seen_behind Insert c.args.member.now.tree c.args.options.now c.args.key
    c.args.member.now.worker c.insert.new.self.worker (of_insert c.insert.result) c.insert.ensures.says
