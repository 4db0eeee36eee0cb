use Rattle.std.proofs.Common.{◌≡◌, ◌∙◌, subst, sym}
use Rattle.nm_model.specs.declared.event.Op.TheVariants.{Delete}
use Rattle.nm_set.specs.Seats.{MemberView}
use Rattle.nm_shared.specs.Sharing.{IsBorrowed}
use Rattle.nm_shared.proofs.Borrowed.{says_shared}
use Rattle.nm_shared.proofs.shared_set.SharedSet+Keys.remove.Goals as goal

pub returns-in-Ok-clause-says : goal.returns-in-Ok-clause-says
returns-in-Ok-clause-says c =
    let m : MemberView = c.deref_mut.result.now in
    let same : m ≡ c.in-Ok.worker = c.deref_mut.ensures.value ∙ c.worker.view_is in
    let lent : IsBorrowed c.args.self.now c.args.caller m c.in-Ok.loan =
    subst (λ (n : MemberView). IsBorrowed c.args.self.now c.args.caller n c.in-Ok.loan)
    (sym same) c.in-Ok.ensures.lent in
    says_shared Delete c.args.options.now c.args.key c.remove-told.result c.args.self.now c.args.caller
    c.give_back.result
    m c.remove-told.new.self c.in-Ok.loan lent c.remove-told.ensures.tree c.remove-told.ensures.says
    c.give_back.ensures.visits c.give_back.ensures.note
