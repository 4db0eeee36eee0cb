use Rattle.std.proofs.Common.{rules, ◌≡◌, ◌*◌, ℕ, subst}
use Rattle.nm_edge.specs.declared.edge.Side.TheVariants.{Left, Right}
use Rattle.nm_walks.specs.Bounds.{reach}
use Rattle.nm_calls.specs.NearKeys.{GiveUp}
use Rattle.nm_calls.specs.PlainWalks.{most_looks}
use Rattle.nm_tree.specs.Calls.{LeavesNext, LeavesPrev}
use Rattle.nm_tree.proofs.Taking.{finds_first, finds_last}
use Rattle.nm_tree.proofs.Unfreed.{near_unfreed, seen_frees_none}
use Rattle.nm_set.proofs.Inside.{of_member}
use Rattle.nm_set.proofs.member.Member.key_at.Goals as goal

pub returns-in-First-clause-frees : goal.returns-in-First-clause-frees
returns-in-First-clause-frees g c =
    let L = c.args.self.now.tree.layout in
    let k = c.unwrap.result in
    let w = c.args.self.now.worker in
    let z = c.next.new.worker in
    let r = c.next.result in
    let did = of_member (λ b v. LeavesNext b.layout c.args.tries k v z r) _ _ _ c.self.view_is c.tree-tree.ensures
    c.next.ensures in
    seen_frees_none (GiveUp Right L c.args.tries k) (near_unfreed L Right c.args.tries k) c.args.tries
    (c.args.tries * most_looks (reach L) 1) w z r did.did

pub returns-in-Last-clause-frees : goal.returns-in-Last-clause-frees
returns-in-Last-clause-frees g c =
    let L = c.args.self.now.tree.layout in
    let k = c.unwrap-in-Last.result in
    let w = c.args.self.now.worker in
    let z = c.prev.new.worker in
    let r = c.prev.result in
    let did = of_member (λ b v. LeavesPrev b.layout c.args.tries k v z r) _ _ _ c.self.view_is c.tree-tree.ensures
    c.prev.ensures in
    seen_frees_none (GiveUp Left L c.args.tries k) (near_unfreed L Left c.args.tries k) c.args.tries
    (c.args.tries * most_looks (reach L) 1) w z r did.did

pub returns-in-First-clause-says : goal.returns-in-First-clause-says
returns-in-First-clause-says g c =
    let L = c.args.self.now.tree.layout in
    let w = c.args.self.now.worker in
    let z = c.next.new.worker in
    let r = c.next.result in
    let did = of_member (λ b v. LeavesNext b.layout c.args.tries c.unwrap.result v z r) _ _ _ c.self.view_is
    c.tree-tree.ensures c.next.ensures in
    let least : c.unwrap.result ≡ 0 = search rules in
    finds_first c.args.end L c.args.tries w z r c.in-First.is
    (subst (λ (k : ℕ). LeavesNext L c.args.tries k w z r) least did)

pub returns-in-Last-clause-says : goal.returns-in-Last-clause-says
returns-in-Last-clause-says g c =
    let L = c.args.self.now.tree.layout in
    let w = c.args.self.now.worker in
    let z = c.prev.new.worker in
    let r = c.prev.result in
    let did = of_member (λ b v. LeavesPrev b.layout c.args.tries c.unwrap-in-Last.result v z r) _ _ _ c.self.view_is
    c.tree-tree.ensures c.prev.ensures in
    let greatest : c.unwrap-in-Last.result ≡ 18446744073709551612 = search rules in
    finds_last c.args.end L c.args.tries w z r c.in-Last.is
    (subst (λ (k : ℕ). LeavesPrev L c.args.tries k w z r) greatest did)
