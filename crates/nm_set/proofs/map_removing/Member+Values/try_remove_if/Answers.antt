use Rattle.std.proofs.Common.{rules, ◌≡◌, inr}
use Rattle.std.specs.Prelude.{None}
use Rattle.nm_calls.specs.Maps.{HasTaken}
use Rattle.nm_tree.specs.Answers.{IfTaken}
use Rattle.nm_tree.specs.Calls.{LeavesDelete}
use Rattle.nm_tree.specs.Removing.{AsDelete, IfOther, SaysOther}
use Rattle.nm_set.specs.Asked.{SaysTryRemove}
use Rattle.nm_set.proofs.Inside.{of_member}
use Rattle.nm_tree.proofs.RemovesIf.{as_if}
use Rattle.nm_set.proofs.map_removing.Member+Values.try_remove_if.Goals as goal

pub returns-clause-says : goal.returns-clause-says
returns-clause-says c =
    let L = c.args.self.now.tree.layout in
    let t = c.args.tries in
    let k = c.args.key in
    let v = c.args.expected in
    let w = c.args.self.now.worker in
    let z = c.delete_if.new.worker in
    let r = c.delete_if.result in
    let free : w.held ≡ None = search rules in
    let leaves = of_member (λ b w. AsDelete r (LeavesDelete b.layout t k w z)) _ _ _ c.self.view_is c.tree.ensures
    c.delete_if.ensures.leaves in
    record {
      says = as_if (LeavesDelete L t k w z) (SaysTryRemove L t k w z) r
          (λ d same l. record {
            says = inr (free, l.says);
            busy = l.interfered;
            unfinished = l.lost;
            alone = l.alone;
          }) leaves;
      takes = of_member (λ b w. AsDelete r (λ d. IfTaken d (HasTaken w.pass z.pass k v))) _ _ _ c.self.view_is
          c.tree.ensures c.delete_if.ensures.takes;
      other = of_member (λ b w. IfOther r (SaysOther b.layout t k v w z)) _ _ _ c.self.view_is c.tree.ensures
          c.delete_if.ensures.other;
    }
