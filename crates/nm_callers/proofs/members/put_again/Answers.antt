use Rattle.std.proofs.Common.{Bool, true, subst}
use Rattle.std.specs.Prelude.{Ok}
use Rattle.nm_model.specs.declared.event.Op.TheVariants.{Insert}
use Rattle.nm_set.specs.Managed.{SaysManaged}
use Rattle.nm_callers.proofs.ToldMembers.{moment_of, puts_again}
use Rattle.nm_callers.proofs.members.put_again.Goals as goal

pub returns-in-Ok-true-clause-again : goal.returns-in-Ok-true-clause-again
returns-in-Ok-true-clause-again c =
    let b = c.args.member.now.tree in
    let h = c.args.options.now in
    let k = c.args.key in
    let w = c.args.member.now.worker in
    let y = c.insert.new.self.worker in
    let added = subst (λ (answer : Bool). SaysManaged Insert b h k w y (Ok answer)) c.in-Ok-true.field-0-test
    c.in-Ok-true.ensures.says in
    puts_again k w y c.put_back.new.member.worker c.put_back.result (moment_of Insert b h k w y (Ok true) added)
    c.put_back.ensures.back
