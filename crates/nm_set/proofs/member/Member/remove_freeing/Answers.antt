use Rattle.std.proofs.Common.{rules, ◌≡◌, inr, refl, Bool}
use Rattle.std.specs.Prelude.{Result, Ok, None}
use Rattle.nm_model.specs.declared.event.Op.TheVariants.{Delete}
use Rattle.nm_tree.specs.Calls.{LeavesDelete}
use Rattle.nm_set.proofs.Inside.{of_member}
use Rattle.nm_set.proofs.Managing.{had_none_delete, delete_answers, answered, removes_plain, removes_tidy}
use Rattle.nm_set.proofs.member.Member.remove_freeing.Goals as goal

pub returns-in-Ok-clause-says : goal.returns-in-Ok-clause-says
returns-in-Ok-clause-says g c =
    let b = c.args.self.now.tree in
    let h = c.args.options.now in
    let k = c.args.key in
    let w = c.args.self.now.worker in
    let z = c.delete.new.worker in
    let r : Result Bool _ = Ok c.in-Ok.answer in
    let free : w.held ≡ None = search rules in
    let l = of_member (λ d v. LeavesDelete d.layout h.tries k v z r) _ _ _ c.self.view_is c.tree.ensures
    c.in-Ok.ensures.leaves in
    let none = had_none_delete b.layout h.tries k w z r (λ is. let no = is in cc) l in
    let once = delete_answers b.layout h.tries k w z r none l in
    inr (
      free,
      removes_tidy b h k w z free none (c.if-has_many_waiting.ensures.no refl) r
          (removes_plain b h k w z r (λ is. (let no = is in cc)) (answered b h Delete k w z c.in-Ok.answer once)),
    )
