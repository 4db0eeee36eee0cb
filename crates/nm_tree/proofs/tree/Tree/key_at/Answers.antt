use Rattle.std.proofs.Common.{◌≡◌, ℕ, subst}
use Rattle.std.specs.Prelude.{Option, SomeIff}
use Rattle.nm_edge.specs.Keys.{IsKey}
use Rattle.nm_tree.specs.Calls.{LeavesNext, LeavesPrev}
use Rattle.nm_tree.proofs.Taking.{finds_first, finds_last}
use Rattle.nm_tree.proofs.tree.Tree.key_at.Goals as goal

pub returns-in-First : goal.returns-in-First
returns-in-First c =
    let least : c.unwrap.result ≡ 0 = (subst (λ (o : Option ℕ). SomeIff o (IsKey 0) 0) c.unwrap.ensures
    c.new.ensures).1 in
    finds_first c.args.end c.args.self.now.layout c.args.tries c.args.worker.now c.next.new.worker c.next.result
    c.in-First.is
    (subst (λ (k : ℕ). LeavesNext c.args.self.now.layout c.args.tries k c.args.worker.now c.next.new.worker
    c.next.result) least c.next.ensures)

pub returns-in-Last : goal.returns-in-Last
returns-in-Last c =
    let greatest : c.unwrap-in-Last.result ≡ 18446744073709551612 =
    (subst (λ (o : Option ℕ). SomeIff o (IsKey 18446744073709551612) 18446744073709551612)
    c.unwrap-in-Last.ensures c.new-in-Last.ensures).1 in
    finds_last c.args.end c.args.self.now.layout c.args.tries c.args.worker.now c.prev.new.worker c.prev.result
    c.in-Last.is
    (subst (λ (k : ℕ). LeavesPrev c.args.self.now.layout c.args.tries k c.args.worker.now c.prev.new.worker
    c.prev.result) greatest c.prev.ensures)
