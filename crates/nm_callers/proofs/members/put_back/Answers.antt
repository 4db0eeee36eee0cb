use Rattle.std.proofs.Common.{Bool, true, subst}
use Rattle.std.specs.Prelude.{Ok}
use Rattle.nm_model.specs.declared.event.Op.TheVariants.{Delete}
use Rattle.nm_set.specs.Managed.{SaysManaged}
use Rattle.nm_callers.proofs.ToldMembers.{moment_of, puts_back}
use Rattle.nm_callers.proofs.members.put_back.Goals as goal

pub returns-in-Ok-true-clause-back : goal.returns-in-Ok-true-clause-back
returns-in-Ok-true-clause-back c =
    let b = c.args.member.now.tree in
    let h = c.args.options.now in
    let k = c.args.key in
    let w = c.args.member.now.worker in
    let x = c.remove.new.self.worker in
    let removed = subst (λ (answer : Bool). SaysManaged Delete b h k w x (Ok answer)) c.in-Ok-true.field-0-test
    c.in-Ok-true.ensures.says in
    puts_back k w x c.add_then_find.new.member.worker c.add_then_find.result
    (moment_of Delete b h k w x (Ok true) removed) c.add_then_find.ensures.found
