use Rattle.std.proofs.Common.{refl, sym, subst, Bool}
use Rattle.std.specs.Prelude.{IsErrOf, Result}
use Rattle.nm_calls.specs.declared.fault.CallFault.{CallFault}
use Rattle.nm_calls.specs.declared.fault.CallFault.TheVariants as fault
use Rattle.nm_tree.specs.Calls.{LeavesFinish}
use Rattle.nm_tree.proofs.Unfreed.{finish_frees_none}
use Rattle.nm_set.proofs.Inside.{of_member}
use Rattle.nm_set.proofs.member.Member.finish.Goals as goal

pub returns-clause-says : goal.returns-clause-says
returns-clause-says g c =
    let w = c.args.self.now.worker in
    let z = c.finish.new.worker in
    let r = c.finish.result in
    let l = of_member (λ b v. LeavesFinish b.layout c.args.tries v z r) _ _ _ c.self.view_is c.tree.ensures
    c.finish.ensures.leaves in
    record {
      says = l.says;
      unfinished = λ is. l.lost (subst (λ (q : Result Bool CallFault). IsErrOf q fault.Unfinished) (sym is) refl);
      alone = l.alone;
      frees = finish_frees_none c.args.self.now.tree.layout c.args.tries w z r l.did;
    }
