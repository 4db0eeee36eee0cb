use Rattle.std.proofs.Common.{rules, ◌≡◌, inr, refl, ap, subst, Bool}
use Rattle.std.specs.Prelude.{Result, Ok, Err, None}
use Rattle.nm_steps.specs.Steps.{TreeView}
use Rattle.nm_tree.specs.Calls.{LeavesInsert}
use Rattle.nm_set.specs.Rounds.{IsKnown, ManagesInsert}
use Rattle.nm_set.specs.Seats.{MemberView}
use Rattle.nm_set.proofs.Inside.{of_member}
use Rattle.nm_set.proofs.Managing.{had_none_insert, insert_answers, inserts_at_once, inserts_tidy}
use Rattle.nm_set.proofs.managed.Member+Keys.insert.Goals as goal

pub returns-in-Ok-clause-says : goal.returns-in-Ok-clause-says
returns-in-Ok-clause-says c =
    let b = c.args.self.now.tree in
    let h = c.args.options.now in
    let k = c.args.key in
    let w = c.args.self.now.worker in
    let z = c.insert.new.worker in
    let r : Result Bool _ = Ok c.in-Ok.answer in
    let free : w.held ≡ None = search rules in
    let l = of_member (λ d v. LeavesInsert d.layout h.tries k v z r) _ _ _ c.self.view_is c.tree.ensures
    c.in-Ok.ensures.leaves in
    let none = had_none_insert b.layout h.tries k w z r (λ is. let no = is in cc) l in
    let once = insert_answers b.layout h.tries k w z r none l in
    let known : IsKnown w = record {
      seen = c.know_run.ensures.seen;
      between = c.know_run.ensures.between;
      fits =
          c.know_run.ensures.fits;
    } in
    inr (
      free,
      (inserts_tidy b h k w z free none (c.if-has_many_waiting.ensures.no refl) known (Ok c.in-Ok.answer)
          (inserts_at_once b h k w z c.in-Ok.answer once)).0,
    )

-- what was done after a first try that failed
after_failed : (c : goal.After-insert_after) → ManagesInsert c.args.self.now.tree c.args.options.now c.args.key
    c.args.self.now.worker c.insert_after.new.self.worker c.insert_after.result
after_failed c =
    let b = c.args.self.now.tree in
    let h = c.args.options.now in
    let w = c.args.self.now.worker in
    let m = c.insert.new.worker in
    let z = c.insert_after.new.self.worker in
    let r = c.insert_after.result in
    let free : w.held ≡ None = search rules in
    let known : IsKnown w = record {
      seen = c.know_run.ensures.seen;
      between = c.know_run.ensures.between;
      fits =
          c.know_run.ensures.fits;
    } in
    let l = of_member (λ d v. LeavesInsert d.layout h.tries c.args.key v m (Err c.in-Err.fault)) _ _ _ c.self.view_is
    c.tree.ensures c.in-Err.ensures.leaves in
    subst
    (λ (d : TreeView). LeavesInsert d.layout h.tries c.args.key w m (Err c.in-Err.fault)
    → ManagesInsert d h c.args.key w z r)
    (ap (λ (x : MemberView). x.tree) c.self.view_is)
    (c.insert_after.ensures.says w free known (c.if-has_many_waiting.ensures.no refl)) l

pub returns-in-Err-clause-says : goal.returns-in-Err-clause-says
returns-in-Err-clause-says c = inr (search rules, (after_failed c).0)

pub returns-in-Err-clause-full : goal.returns-in-Err-clause-full
returns-in-Err-clause-full c = (after_failed c).1
