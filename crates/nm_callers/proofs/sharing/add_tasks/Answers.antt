use Rattle.std.proofs.Common.{rules, ◌≡◌, ◌+◌, ◌∙◌, Bool, true, false, ℕ, sym, subst, arith}
use Rattle.std.specs.Prelude.{Ok}
use Rattle.nm_model.specs.declared.event.Op.TheVariants.{Insert}
use Rattle.nm_tree.specs.Workers.{WorkerView}
use Rattle.nm_set.specs.Managed.{SaysManaged}
use Rattle.nm_callers.specs.Queues.{HasWorked}
use Rattle.nm_callers.proofs.Working.{adds_none, adds_one}
use Rattle.nm_callers.proofs.sharing.add_tasks.Goals as goal
use Rattle.nm_callers.proofs.sharing.add_tasks.Goals.{then-new, else-new}

pub loop-task-preserved : goal.loop-task-preserved
loop-task-preserved c =
    let b = c.loop-task.member.tree in
    let h = c.args.options.now in
    let k = c.task-item.result in
    let w : WorkerView = c.args.member.now.worker in
    let x : WorkerView = c.loop-task.member.worker in
    let z : WorkerView = c.insert.new.self.worker in
    let n : ℕ = c.loop-task.added in
    let tree = c.insert.ensures.tree ∙ c.loop-task.invariant.tree in
    let few = c.loop-task.invariant.few in
    elim c.if-new.branch [
      | then-new t ↦ let yes : c.in-Ok.new ≡ true = search (rules, t.if-new) in
          let more : c.if-new.added ≡ n + 1 = search (rules, t.added-is) in
          record {
            tree = tree;
            did = subst (λ (m : ℕ). HasWorked w z m 0) (sym more)
                (adds_one b h k w x z n c.loop-task.invariant.did
                (subst (λ (a : Bool). SaysManaged Insert b h k x z (Ok a)) yes c.in-Ok.ensures.says));
            few = omega (arith, few, more);
          }
      | else-new t ↦ let no' : c.in-Ok.new ≡ false = search (rules, t.if-new) in
          let same : c.if-new.added ≡ n = search (rules, t.added-is) in
          record {
            tree = tree;
            did = subst (λ (m : ℕ). HasWorked w z m 0) (sym same)
                (adds_none b h k w x z n c.loop-task.invariant.did
                (subst (λ (a : Bool). SaysManaged Insert b h k x z (Ok a)) no' c.in-Ok.ensures.says));
            few = omega (arith, few, same);
          }
    ]
