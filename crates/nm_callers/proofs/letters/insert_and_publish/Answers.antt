use Rattle.std.proofs.Common.{Bool, sym, subst}
use Rattle.std.specs.Prelude.{IfSome, Ok}
use Rattle.nm_model.specs.declared.event.Op.TheVariants.{Insert}
use Rattle.nm_set.specs.Seats.{MemberView}
use Rattle.nm_set.specs.Managed.{SaysManaged}
use Rattle.nm_callers.specs.Letters.{HasWritten}
use Rattle.nm_callers.proofs.LettersRead.{has_written}
use Rattle.nm_callers.proofs.letters.insert_and_publish.Goals as goal

pub returns-in-Ok-true-clause-written : goal.returns-in-Ok-true-clause-written
returns-in-Ok-true-clause-written c =
    let b = c.args.member.tree in
    let h = c.args.options.now in
    let k = c.args.key in
    let w = c.args.member.worker in
    let z = c.insert-told.new.self.worker in
    let did = subst (λ (answer : Bool). SaysManaged Insert b h k w z (Ok answer)) c.in-Ok-true.field-0-test
    c.in-Ok-true.ensures.says in
    subst (λ (m : MemberView). IfSome c.publish-stamp.result (HasWritten k w m.worker))
    (sym c.publish-stamp.ensures.same)
    (has_written b h k w z c.publish-stamp.result did c.know_run.ensures.seen c.know_run.ensures.between
    c.publish-stamp.ensures.tally)
