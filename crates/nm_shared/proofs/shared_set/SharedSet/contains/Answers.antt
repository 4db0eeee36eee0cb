use Rattle.std.proofs.Common.{◌≡◌, ◌∙◌, subst, sym}
use Rattle.nm_model.specs.declared.event.Op.TheVariants.{Has}
use Rattle.nm_set.specs.Seats.{MemberView}
use Rattle.nm_shared.specs.Sharing.{IsBorrowed}
use Rattle.nm_shared.proofs.Borrowed.{back_after, managed_keeps, says_shared}
use Rattle.nm_shared.proofs.shared_set.SharedSet.contains.Goals as goal

pub give_back-requires : goal.give_back-requires
give_back-requires g c = record {
  back = back_after c.args.self.now c.args.caller _ _ _ c.in-Ok.loan
      (c.deref_mut.ensures.value ∙ c.worker.view_is) c.in-Ok.ensures.lent c.contains-told.ensures.tree
      (managed_keeps Has c.deref_mut.result.now.tree c.args.options.now c.args.key _ _ _ c.contains-told.ensures.says);
}

pub returns-in-Ok-clause-says : goal.returns-in-Ok-clause-says
returns-in-Ok-clause-says g c =
    let m : MemberView = c.deref_mut.result.now in
    let same : m ≡ c.in-Ok.worker = c.deref_mut.ensures.value ∙ c.worker.view_is in
    let lent : IsBorrowed c.args.self.now c.args.caller m c.in-Ok.loan =
    subst (λ (n : MemberView). IsBorrowed c.args.self.now c.args.caller n c.in-Ok.loan)
    (sym same) c.in-Ok.ensures.lent in
    says_shared Has c.args.options.now c.args.key c.contains-told.result c.args.self.now c.args.caller
    c.give_back.result
    m c.contains-told.new.self c.in-Ok.loan lent c.contains-told.ensures.tree c.contains-told.ensures.says
    c.give_back.ensures.visits c.give_back.ensures.note
