use Rattle.std.proofs.Common.{◌≡◌, ◌∙◌, subst, sym}
use Rattle.nm_model.specs.declared.event.Op.TheVariants.{Insert}
use Rattle.nm_set.specs.Managed.{of_insert}
use Rattle.nm_set.specs.Seats.{MemberView}
use Rattle.nm_shared.specs.Sharing.{IsBorrowed}
use Rattle.nm_shared.proofs.Borrowed.{managed_keeps, may_come_back, says_shared}
use Rattle.nm_shared.proofs.shared_set.SharedSet+Keys.insert.Goals as goal

pub give_back-requires : goal.give_back-requires
give_back-requires c =
    let m : MemberView = c.deref_mut.result.now in
    let same : m ≡ c.in-Ok.worker = c.deref_mut.ensures.value ∙ c.worker.view_is in
    let lent : IsBorrowed c.args.self.now c.args.caller m c.in-Ok.loan =
    subst (λ (n : MemberView). IsBorrowed c.args.self.now c.args.caller n c.in-Ok.loan)
    (sym same) c.in-Ok.ensures.lent in
    record {
      back = may_come_back c.args.self.now c.args.caller m c.insert-told.new.self c.in-Ok.loan lent
          c.insert-told.ensures.tree (managed_keeps Insert m.tree c.args.options.now c.args.key m.worker
          c.insert-told.new.self.worker (of_insert c.insert-told.result) c.insert-told.ensures.says);
    }

pub returns-in-Ok-clause-says : goal.returns-in-Ok-clause-says
returns-in-Ok-clause-says c =
    let m : MemberView = c.deref_mut.result.now in
    let same : m ≡ c.in-Ok.worker = c.deref_mut.ensures.value ∙ c.worker.view_is in
    let lent : IsBorrowed c.args.self.now c.args.caller m c.in-Ok.loan =
    subst (λ (n : MemberView). IsBorrowed c.args.self.now c.args.caller n c.in-Ok.loan)
    (sym same) c.in-Ok.ensures.lent in
    says_shared Insert c.args.options.now c.args.key
    (of_insert c.insert-told.result) c.args.self.now c.args.caller c.give_back.result
    m c.insert-told.new.self c.in-Ok.loan lent c.insert-told.ensures.tree c.insert-told.ensures.says
    c.give_back.ensures.visits c.give_back.ensures.note
