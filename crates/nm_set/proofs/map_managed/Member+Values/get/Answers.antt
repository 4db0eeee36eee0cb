use Rattle.std.proofs.Common.{rules, ◌≡◌, inr, subst, ℕ}
use Rattle.std.specs.Prelude.{Option, Result, Ok, Err, None}
use Rattle.nm_steps.specs.Steps.{TreeView}
use Rattle.nm_tree.specs.Calls.{LeavesGet}
use Rattle.nm_tree.specs.Workers.{WorkerView}
use Rattle.nm_set.specs.Maps.{ManagesGet}
use Rattle.nm_set.specs.Seats.{MemberView}
use Rattle.nm_set.proofs.Inside.{of_member}
use Rattle.nm_set.proofs.MapManaging.{got_at_once}
use Rattle.nm_set.proofs.map_managed.Member+Values.get.Goals as goal

pub get_after-requires : goal.get_after-requires
get_after-requires c = record {
  begun = (
    c.self.inside.sealed.worker,
    subst (λ (b : TreeView). LeavesGet b.layout c.args.options.now.tries
        c.args.key c.self.inside.sealed.worker c.get.new.worker (Err c.in-Err.fault)) c.tree.ensures c.in-Err.ensures,
  );
}

pub returns-in-Ok-clause-says : goal.returns-in-Ok-clause-says
returns-in-Ok-clause-says c =
    let b = c.args.self.now.tree in
    let h = c.args.options.now in
    let k = c.args.key in
    let w = c.args.self.now.worker in
    let z = c.get.new.worker in
    let r : Result (Option ℕ) _ = Ok c.in-Ok.found in
    let free : w.held ≡ None = search rules in
    let l = of_member (λ d v. LeavesGet d.layout h.tries k v z r) _ _ _ c.self.view_is c.tree.ensures c.in-Ok.ensures in
    inr (free, got_at_once b h k w z r free (λ is. let no = is in cc) (λ is. absurd (let no = is in cc)) l)

pub returns-in-Err-clause-says : goal.returns-in-Err-clause-says
returns-in-Err-clause-says c =
    let b = c.args.self.now.tree in
    let h = c.args.options.now in
    let k = c.args.key in
    let w = c.args.self.now.worker in
    let m = c.get.new.worker in
    let z = c.get_after.new.self.worker in
    let free : w.held ≡ None = search rules in
    let l = of_member (λ d v. LeavesGet d.layout h.tries k v m (Err c.in-Err.fault)) _ _ _ c.self.view_is
    c.tree.ensures c.in-Err.ensures in
    let P : MemberView → Type 0 = λ s. (v : WorkerView) → v.held ≡ None
    → LeavesGet s.tree.layout h.tries k v m (Err c.in-Err.fault) → ManagesGet s.tree h k v z c.get_after.result in
    inr (free, subst P c.self.view_is c.get_after.ensures.says w free l)
