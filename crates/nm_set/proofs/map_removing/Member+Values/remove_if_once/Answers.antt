use Rattle.nm_calls.specs.Maps.{HasTaken}
use Rattle.nm_tree.specs.Answers.{IfTaken}
use Rattle.nm_tree.specs.Calls.{LeavesDelete}
use Rattle.nm_tree.specs.Removing.{AsDelete, IfOther, SaysOther}
use Rattle.nm_set.proofs.Inside.{of_member}
use Rattle.nm_set.proofs.MapRemoving.{removes_once}
use Rattle.nm_set.proofs.map_removing.Member+Values.remove_if_once.Goals as goal

pub returns-clause-says : goal.returns-clause-says
returns-clause-says c =
    let t = c.args.tries in
    let k = c.args.key in
    let v = c.args.expected in
    let z = c.delete_if.new.worker in
    let r = c.delete_if.result in
    let leaves = of_member (λ b w. AsDelete r (LeavesDelete b.layout t k w z)) _ _ _ c.self.view_is c.tree.ensures
    c.delete_if.ensures.leaves in
    let takes = of_member (λ b w. AsDelete r (λ d. IfTaken d (HasTaken w.pass z.pass k v))) _ _ _ c.self.view_is
    c.tree.ensures c.delete_if.ensures.takes in
    let other = of_member (λ b w. IfOther r (SaysOther b.layout t k v w z)) _ _ _ c.self.view_is c.tree.ensures
    c.delete_if.ensures.other in
    removes_once c.args.self.now.tree.layout t k v c.args.self.now.worker z r c.requires.none leaves takes other
