use Rattle.std.proofs.Common.{◌≡◌, ◌∙◌, ◌<◌, subst, sym}
use Rattle.nm_edge.specs.Keys.{IsKey}
use Rattle.nm_set.specs.Popping.{SaysManagedPopOf}
use Rattle.nm_set.specs.Seats.{MemberView}
use Rattle.nm_shared.specs.Sharing.{IsBorrowed}
use Rattle.nm_shared.proofs.Borrowed.{pop_keeps, may_come_back, says_visited}
use Rattle.nm_shared.proofs.popping.SharedSet+Keys.pop_first.Goals as goal

pub give_back-requires : goal.give_back-requires
give_back-requires c =
    let m : MemberView = c.deref_mut.result.now in
    let same : m ≡ c.in-Ok.worker = c.deref_mut.ensures.value ∙ c.worker.view_is in
    let lent : IsBorrowed c.args.self.now c.args.caller m c.in-Ok.loan =
    subst (λ (n : MemberView). IsBorrowed c.args.self.now c.args.caller n c.in-Ok.loan) (sym same)
    c.in-Ok.ensures.lent in
    record {
      back = may_come_back c.args.self.now c.args.caller m c.pop_first-told.new.self c.in-Ok.loan lent
          c.pop_first-told.ensures.tree
          (pop_keeps IsKey ◌<◌ m.tree c.args.options.now m.worker c.pop_first-told.new.self.worker
          c.pop_first-told.result c.pop_first-told.ensures.says);
    }

pub returns-in-Ok-clause-says : goal.returns-in-Ok-clause-says
returns-in-Ok-clause-says c =
    let m : MemberView = c.deref_mut.result.now in
    let same : m ≡ c.in-Ok.worker = c.deref_mut.ensures.value ∙ c.worker.view_is in
    let lent : IsBorrowed c.args.self.now c.args.caller m c.in-Ok.loan =
    subst (λ (n : MemberView). IsBorrowed c.args.self.now c.args.caller n c.in-Ok.loan) (sym same)
    c.in-Ok.ensures.lent in
    says_visited (λ b w z. SaysManagedPopOf IsKey ◌<◌ b c.args.options.now w z c.pop_first-told.result)
    c.args.self.now c.args.caller c.give_back.result
    m c.pop_first-told.new.self c.in-Ok.loan lent c.pop_first-told.ensures.tree
    (pop_keeps IsKey ◌<◌ m.tree c.args.options.now m.worker c.pop_first-told.new.self.worker c.pop_first-told.result
    c.pop_first-told.ensures.says) c.pop_first-told.ensures.says
    c.give_back.ensures.visits c.give_back.ensures.note
