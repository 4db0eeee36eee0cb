use Rattle.std.proofs.Common.{◌≡◌, ◌∙◌, subst, sym}
use Rattle.nm_set.specs.InTurns.{AskedMany}
use Rattle.nm_set.specs.Seats.{MemberView}
use Rattle.nm_shared.specs.Sharing.{IsBorrowed}
use Rattle.nm_shared.proofs.Borrowed.{many_keeps, may_come_back, says_visited}
use Rattle.nm_shared.proofs.shared_set.SharedSet.contains_many.Goals as goal

pub give_back-requires : goal.give_back-requires
give_back-requires g c =
    let m : MemberView = c.deref_mut.result.now in
    let same : m ≡ c.in-Ok.worker = c.deref_mut.ensures.value ∙ c.worker.view_is in
    let lent : IsBorrowed c.args.self.now c.args.caller m c.in-Ok.loan =
    subst (λ (n : MemberView). IsBorrowed c.args.self.now c.args.caller n c.in-Ok.loan) (sym same)
    c.in-Ok.ensures.lent in
    record {
      back = may_come_back c.args.self.now c.args.caller m c.contains_many-told.new.self c.in-Ok.loan lent
          c.contains_many-told.ensures.tree
          (many_keeps m.tree.layout c.args.options.now.tries c.args.queries.now c.contains_many-told.new.queries
          m.worker c.contains_many-told.new.self.worker c.contains_many-told.result
          c.contains_many-told.ensures.says);
    }

pub returns-in-Ok-clause-says : goal.returns-in-Ok-clause-says
returns-in-Ok-clause-says g c =
    let m : MemberView = c.deref_mut.result.now in
    let same : m ≡ c.in-Ok.worker = c.deref_mut.ensures.value ∙ c.worker.view_is in
    let lent : IsBorrowed c.args.self.now c.args.caller m c.in-Ok.loan =
    subst (λ (n : MemberView). IsBorrowed c.args.self.now c.args.caller n c.in-Ok.loan) (sym same)
    c.in-Ok.ensures.lent in
    says_visited (λ b w z. AskedMany b.layout c.args.options.now.tries c.args.queries.now
    c.contains_many-told.new.queries w z c.contains_many-told.result) c.args.self.now c.args.caller c.give_back.result
    m c.contains_many-told.new.self c.in-Ok.loan lent c.contains_many-told.ensures.tree
    (many_keeps m.tree.layout c.args.options.now.tries c.args.queries.now c.contains_many-told.new.queries m.worker
    c.contains_many-told.new.self.worker c.contains_many-told.result c.contains_many-told.ensures.says)
    c.contains_many-told.ensures.says
    c.give_back.ensures.visits c.give_back.ensures.note
