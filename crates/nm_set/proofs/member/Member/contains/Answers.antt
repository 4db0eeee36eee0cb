use Rattle.std.proofs.Common.{rules, ◌≡◌, ◌∙◌, inr, subst, Bool}
use Rattle.std.specs.Prelude.{Result, Ok, Err, None}
use Rattle.nm_model.specs.declared.event.Op.TheVariants.{Has}
use Rattle.nm_steps.specs.Steps.{TreeView}
use Rattle.nm_tree.specs.Calls.{LeavesHas}
use Rattle.nm_tree.specs.Workers.{WorkerView}
use Rattle.nm_tree.proofs.Unfreed.{has_frees_none}
use Rattle.nm_set.specs.Managed.{Manages}
use Rattle.nm_set.specs.Seats.{MemberView}
use Rattle.nm_set.proofs.Inside.{of_member}
use Rattle.nm_set.proofs.Managing.{answered, has_answers, had_none_has, looks_at_once}
use Rattle.nm_set.proofs.member.Member.contains.Goals as goal

pub contains_after-requires : goal.contains_after-requires
contains_after-requires g c = record {
  begun = (
    c.self.inside.sealed.worker,
    subst (λ (b : TreeView). LeavesHas b.layout c.args.options.now.tries
        c.args.key c.self.inside.sealed.worker c.has.new.worker (Err c.in-Err.fault)) c.tree.ensures
        c.in-Err.ensures.leaves,
  );
}

-- the first look-up freed no node
pub returns-in-Ok-clause-frees : goal.returns-in-Ok-clause-frees
returns-in-Ok-clause-frees g c =
    let b = c.args.self.now.tree in
    let h = c.args.options.now in
    let z = c.has.new.worker in
    let r : Result Bool _ = Ok c.in-Ok.answer in
    let l = of_member (λ d v. LeavesHas d.layout h.tries c.args.key v z r) _ _ _ c.self.view_is c.tree.ensures
    c.in-Ok.ensures.leaves in
    has_frees_none b.layout h.tries c.args.key c.args.self.now.worker z r l.did

pub returns-in-Err-clause-frees : goal.returns-in-Err-clause-frees
returns-in-Err-clause-frees g c =
    let b = c.args.self.now.tree in
    let h = c.args.options.now in
    let m = c.has.new.worker in
    let r : Result Bool _ = Err c.in-Err.fault in
    let l = of_member (λ d v. LeavesHas d.layout h.tries c.args.key v m r) _ _ _ c.self.view_is c.tree.ensures
    c.in-Err.ensures.leaves in
    c.contains_after.ensures.frees ∙ has_frees_none b.layout h.tries c.args.key c.args.self.now.worker m r l.did

pub returns-in-Ok-clause-says : goal.returns-in-Ok-clause-says
returns-in-Ok-clause-says g c =
    let b = c.args.self.now.tree in
    let h = c.args.options.now in
    let k = c.args.key in
    let w = c.args.self.now.worker in
    let z = c.has.new.worker in
    let r : Result Bool _ = Ok c.in-Ok.answer in
    let free : w.held ≡ None = search rules in
    let l = of_member (λ d v. LeavesHas d.layout h.tries k v z r) _ _ _ c.self.view_is c.tree.ensures
    c.in-Ok.ensures.leaves in
    let none = had_none_has b.layout h.tries k w z r (λ is. let no = is in cc) l in
    inr (
      free,
      looks_at_once b h k w z r free none (answered b h Has k w z c.in-Ok.answer
          (has_answers b.layout h.tries k w z r none l)),
    )

pub returns-in-Err-clause-says : goal.returns-in-Err-clause-says
returns-in-Err-clause-says g c =
    let b = c.args.self.now.tree in
    let h = c.args.options.now in
    let k = c.args.key in
    let w = c.args.self.now.worker in
    let m = c.has.new.worker in
    let z = c.contains_after.new.self.worker in
    let free : w.held ≡ None = search rules in
    let l = of_member (λ d v. LeavesHas d.layout h.tries k v m (Err c.in-Err.fault)) _ _ _ c.self.view_is
    c.tree.ensures c.in-Err.ensures.leaves in
    let P : MemberView → Type 0 = λ s. (v : WorkerView) → v.held ≡ None
    → LeavesHas s.tree.layout h.tries k v m (Err c.in-Err.fault)
    → Manages s.tree h Has k v z c.contains_after.result in
    inr (free, subst P c.self.view_is c.contains_after.ensures.says w free l)
