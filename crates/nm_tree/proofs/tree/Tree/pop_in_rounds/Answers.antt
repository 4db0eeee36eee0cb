use Rattle.std.proofs.Common.{ℕ, Bool, subst}
use Rattle.std.specs.Prelude.{Option, Ok}
use Rattle.nm_tree.specs.Calls.{LeavesDelete}
use Rattle.nm_tree.specs.Popping.{Finds}
use Rattle.nm_tree.proofs.Taking.{may_still, may_near, one_more}
use Rattle.nm_tree.proofs.tree.Tree.pop_in_rounds.Goals as goal

pub delete-requires : goal.delete-requires
delete-requires c = may_near c.args.end c.args.self.now c.args.tries c.loop-round.worker c.key_at.new.worker
    c.key_at.result c.loop-round.invariant.may c.key_at.ensures

pub loop-round-preserved : goal.loop-round-preserved
loop-round-preserved c =
    let L = c.args.self.now.layout in
    let w = c.loop-round.worker in
    let y = c.key_at.new.worker in
    let z = c.delete.new.worker in
    let key = c.in-Some.key in
    let found = subst (λ (o : Option ℕ). Finds c.args.end L c.args.tries w y (Ok o)) c.in-Some.is c.in_ok-key.ensures in
    let did = subst (λ (b : Bool). LeavesDelete L c.args.tries key y z (Ok b)) c.if-branch.false
    c.in_ok-delete.ensures.leaves in
    record {
      may = may_still c.args.self.now y z (may_near c.args.end c.args.self.now c.args.tries w y c.key_at.result
          c.loop-round.invariant.may c.key_at.ensures) did.says.same did.says.held;
      lost = one_more c.args.end L c.args.tries c.loop-round._round c.args.worker.now w y z key
          c.loop-round.invariant.lost found did;
    }
