use Rattle.std.proofs.Common.{◌∙◌, ◌+◌, ℕ, refl, subst, arith}
use Rattle.std.specs.Prelude.{Option, Result}
use Rattle.nm_steps.specs.Steps.{TreeView}
use Rattle.nm_calls.specs.declared.fault.CallFault.{CallFault}
use Rattle.nm_tree.specs.Calls.{LeavesGet}
use Rattle.nm_set.specs.Asked.{Asked}
use Rattle.nm_set.proofs.MapManaging.{gets_once, looked_again, looked_last, not_yet_looked}
use Rattle.nm_set.proofs.map_managed.Member+Values.get_again.Goals as goal

pub loop-round-init : goal.loop-round-init
loop-round-init c = record {
  tree = refl;
  busy = not_yet_looked c.args.self.now.tree c.args.options.now
      c.args.self.now.worker c.requires.none c.requires.free;
}

pub loop-round-preserved : goal.loop-round-preserved
loop-round-preserved c =
    let at = c.loop-round in
    let b = c.args.self.now.tree in
    let h = c.args.options.now in
    let k = c.args.key in
    let x = at.self.worker in
    let z = c.get_apart-told.new.self.worker in
    let r = c.get_apart-told.result in
    let on = at.invariant.busy.onward in
    let says = subst (λ (d : TreeView). Asked (LeavesGet d.layout h.tries k) x z r) at.invariant.tree
    c.get_apart-told.ensures.says in
    let busy = subst (λ (q : Result (Option ℕ) CallFault). Asked (LeavesGet b.layout h.tries k) x z q)
    (c.if-not-is_busy.ensures.yes refl) says in
    record {
      tree = c.get_apart-told.ensures.tree ∙ at.invariant.tree;
      busy = looked_again b h k at._round c.args.self.now.worker x z at.invariant.busy
          (gets_once b.layout h.tries k x z _ on.on.held on.none busy);
    }

pub returns-then-not-is_busy-clause-says : goal.returns-then-not-is_busy-clause-says
returns-then-not-is_busy-clause-says c =
    let at = c.loop-round in
    let b = c.args.self.now.tree in
    let h = c.args.options.now in
    let k = c.args.key in
    let x = at.self.worker in
    let z = c.get_apart-told.new.self.worker in
    let r = c.get_apart-told.result in
    let on = at.invariant.busy.onward in
    let says = subst (λ (d : TreeView). Asked (LeavesGet d.layout h.tries k) x z r) at.invariant.tree
    c.get_apart-told.ensures.says in
    looked_last b h k at._round (h.rounds + 1) c.args.self.now.worker x z r (omega (arith, c.loop-round-test.true))
    (λ is. absurd (c.if-not-is_busy.ensures.no refl is)) at.invariant.busy
    (gets_once b.layout h.tries k x z r on.on.held on.none says)

pub returns-clause-says : goal.returns-clause-says
returns-clause-says c =
    let at = c.loop-round in
    let b = c.args.self.now.tree in
    let h = c.args.options.now in
    let k = c.args.key in
    let x = at.self.worker in
    let z = c.get_apart.new.self.worker in
    let r = c.get_apart.result in
    let past = c.loop-round-test.false in
    let within = at.auto._round-end in
    let on = at.invariant.busy.onward in
    let says = subst (λ (d : TreeView). Asked (LeavesGet d.layout h.tries k) x z r) at.invariant.tree
    c.get_apart.ensures.says in
    looked_last b h k at._round (h.rounds + 1) c.args.self.now.worker x z r (omega (arith, within))
    (λ is. omega (arith, past, within)) at.invariant.busy (gets_once b.layout h.tries k x z r on.on.held on.none says)
