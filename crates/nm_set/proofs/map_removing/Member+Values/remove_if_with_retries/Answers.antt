use Rattle.std.proofs.Common.{◌∙◌, ◌+◌, refl, subst, arith}
use Rattle.std.specs.Prelude.{Result}
use Rattle.nm_model.specs.declared.event.Op.TheVariants.{Delete}
use Rattle.nm_steps.specs.Steps.{TreeView}
use Rattle.nm_calls.specs.declared.fault.CallFault.{CallFault}
use Rattle.nm_tree.specs.declared.removing.RemoveOutcome.{RemoveOutcome}
use Rattle.nm_set.specs.MapRemoves.{RemovesOnce}
use Rattle.nm_set.proofs.Managing.{busy_again, not_yet_busy}
use Rattle.nm_set.proofs.MapRemoving.{removes_last}
use Rattle.nm_set.proofs.map_removing.Member+Values.remove_if_with_retries.Goals as goal

pub loop-round-init : goal.loop-round-init
loop-round-init c = record {
  tree = refl;
  busy = not_yet_busy c.args.self.now.tree c.args.options.now Delete c.args.self.now.worker c.requires.none
      c.requires.free;
  frees = refl;
}

pub remove_if_once-told-requires : goal.remove_if_once-told-requires
remove_if_once-told-requires c = record {
  free = c.loop-round.invariant.busy.onward.on.held;
  none = c.loop-round.invariant.busy.onward.none;
}

pub remove_if_once-requires : goal.remove_if_once-requires
remove_if_once-requires c = record {
  free = c.loop-round.invariant.busy.onward.on.held;
  none = c.loop-round.invariant.busy.onward.none;
}

pub loop-round-preserved : goal.loop-round-preserved
loop-round-preserved c =
    let at = c.loop-round in
    let b = c.args.self.now.tree in
    let h = c.args.options.now in
    let k = c.args.key in
    let x = at.self.worker in
    let z = c.remove_if_once-told.new.self.worker in
    let says = subst (λ (d : TreeView). RemovesOnce d.layout h.tries k c.args.expected x z c.remove_if_once-told.result)
    at.invariant.tree c.remove_if_once-told.ensures.says in
    let busy = subst (λ (q : Result RemoveOutcome CallFault). RemovesOnce b.layout h.tries k c.args.expected x z q)
    (c.if-not-is_busy.ensures.yes refl) says in
    record {
      tree = c.remove_if_once-told.ensures.tree ∙ at.invariant.tree;
      busy = busy_again b h Delete k at._round c.args.self.now.worker x z at.invariant.busy busy.answers;
      frees = busy.frees ∙ at.invariant.frees;
    }

pub returns-then-not-is_busy-clause-says : goal.returns-then-not-is_busy-clause-says
returns-then-not-is_busy-clause-says c =
    let at = c.loop-round in
    let h = c.args.options.now in
    let k = c.args.key in
    let v = c.args.expected in
    let x = at.self.worker in
    let z = c.remove_if_once-told.new.self.worker in
    let r = c.remove_if_once-told.result in
    removes_last c.args.self.now.tree h k v at._round (h.rounds + 1) c.args.self.now.worker x z r
    (omega (arith, c.loop-round-test.true)) (λ is. absurd (c.if-not-is_busy.ensures.no refl is)) at.invariant.busy
    at.invariant.frees (subst (λ (d : TreeView). RemovesOnce d.layout h.tries k v x z r) at.invariant.tree
    c.remove_if_once-told.ensures.says)

pub returns-clause-says : goal.returns-clause-says
returns-clause-says c =
    let at = c.loop-round in
    let h = c.args.options.now in
    let k = c.args.key in
    let v = c.args.expected in
    let x = at.self.worker in
    let z = c.remove_if_once.new.self.worker in
    let r = c.remove_if_once.result in
    let past = c.loop-round-test.false in
    let within = at.auto._round-end in
    removes_last c.args.self.now.tree h k v at._round (h.rounds + 1) c.args.self.now.worker x z r
    (omega (arith, within)) (λ is. omega (arith, past, within)) at.invariant.busy at.invariant.frees
    (subst (λ (d : TreeView). RemovesOnce d.layout h.tries k v x z r) at.invariant.tree c.remove_if_once.ensures.says)
