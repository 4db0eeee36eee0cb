use Rattle.std.proofs.Common.{◌≡◌, ◌∙◌, subst, sym}
use Rattle.nm_edge.specs.declared.edge.Side.TheVariants.{Right}
use Rattle.nm_set.specs.Scanning.{AskedScan}
use Rattle.nm_set.specs.Seats.{MemberView}
use Rattle.nm_shared.specs.Sharing.{IsBorrowed}
use Rattle.nm_shared.proofs.Borrowed.{scan_keeps, may_come_back, says_visited}
use Rattle.nm_shared.proofs.shared_set.SharedSet.scan.Goals as goal

pub give_back-requires : goal.give_back-requires
give_back-requires g c =
    let m : MemberView = c.deref_mut.result.now in
    let same : m ≡ c.in-Ok.worker = c.deref_mut.ensures.value ∙ c.worker.view_is in
    let lent : IsBorrowed c.args.self.now c.args.caller m c.in-Ok.loan =
    subst (λ (n : MemberView). IsBorrowed c.args.self.now c.args.caller n c.in-Ok.loan) (sym same)
    c.in-Ok.ensures.lent in
    record {
      back = may_come_back c.args.self.now c.args.caller m c.scan-told.new.self c.in-Ok.loan lent
          c.scan-told.ensures.tree
          (scan_keeps Right m.tree.layout c.args.options.now.tries c.args.from c.args.below c.args.out.now
          c.scan-told.new.out m.worker c.scan-told.new.self.worker c.scan-told.result c.scan-told.ensures.says);
    }

pub returns-in-Ok-clause-says : goal.returns-in-Ok-clause-says
returns-in-Ok-clause-says g c =
    let m : MemberView = c.deref_mut.result.now in
    let same : m ≡ c.in-Ok.worker = c.deref_mut.ensures.value ∙ c.worker.view_is in
    let lent : IsBorrowed c.args.self.now c.args.caller m c.in-Ok.loan =
    subst (λ (n : MemberView). IsBorrowed c.args.self.now c.args.caller n c.in-Ok.loan) (sym same)
    c.in-Ok.ensures.lent in
    says_visited (λ b w z. AskedScan Right b.layout c.args.options.now.tries c.args.from c.args.below c.args.out.now
    c.scan-told.new.out w z c.scan-told.result) c.args.self.now c.args.caller c.give_back.result
    m c.scan-told.new.self c.in-Ok.loan lent c.scan-told.ensures.tree
    (scan_keeps Right m.tree.layout c.args.options.now.tries c.args.from c.args.below c.args.out.now
    c.scan-told.new.out m.worker c.scan-told.new.self.worker c.scan-told.result c.scan-told.ensures.says)
    c.scan-told.ensures.says
    c.give_back.ensures.visits c.give_back.ensures.note
