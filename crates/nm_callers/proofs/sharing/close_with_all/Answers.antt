use Rattle.std.proofs.Common.{◌≡◌, ◌∙◌, List, [], ◌∷◌, ◌++◌, sym, ap, subst}
use Rattle.nm_steps.specs.Steps.{TreeView}
use Rattle.nm_tree.specs.Workers.{WorkerView}
use Rattle.nm_set.specs.Seats.{SetView}
use Rattle.nm_callers.specs.Queues.{AddUp}
use Rattle.nm_callers.proofs.AddedUp.{Settled, added_up}
use Rattle.nm_callers.proofs.sharing.close_with_all.Goals as goal

pub returns-in-Ok-close : goal.returns-in-Ok-close
returns-in-Ok-close c =
    let s : SetView = c.keep-3.new.self in
    let x : WorkerView = c.args.first.worker in
    let y : WorkerView = c.args.second.worker in
    let z : WorkerView = c.args.third.worker in
    let one = c.in-Ok.ensures.kept in
    let two = c.in-Ok-keep.ensures.kept in
    let three = c.in-Ok-keep-2.ensures.kept in
    let of_kept : SetView → List WorkerView = λ t. t.kept in
    let kept : s.kept ≡ x ∷ y ∷ z ∷ [] = ap of_kept three
    ∙ ap (λ (ws : List WorkerView). ws ++ z ∷ [])
    (ap of_kept two ∙ ap (λ (ws : List WorkerView). ws ++ y ∷ [])
    (ap of_kept one ∙ ap (λ (ws : List WorkerView). ws ++ x ∷ []) c.requires.new)) in
    let of_tree : SetView → TreeView = λ t. t.tree in
    let tree : s.tree ≡ c.args.set.tree = ap of_tree three ∙ (ap of_tree two ∙ ap of_tree one) in
    let workers : 3 ≡ s.tree.layout.workers = sym (ap (λ (b : TreeView). b.layout.workers) tree ∙ c.requires.three) in
    let r1 = c.know_run.ensures in
    let r2 = c.know_run-2.ensures in
    let r3 = c.know_run-3.ensures in
    let settled : Settled s.tree.layout 0 (x ∷ y ∷ z ∷ []) = (
      c.requires.first.number,
      c.requires.first.settled,
      r1.idle,
      r1.turns,
      (
        c.requires.second.number,
        c.requires.second.settled,
        r2.idle,
        r2.turns,
        (
          c.requires.third.number,
          c.requires.third.settled,
          r3.idle,
          r3.turns,
          workers,
        ),
      ),
    ) in
    subst (λ (ws : List WorkerView). AddUp ws c.in-Ok-close.report.keys.items) kept
    (added_up s c.in-Ok-close.report (subst (λ (ws : List WorkerView). Settled s.tree.layout 0 ws) (sym kept) settled)
    c.in-Ok-close.ensures.says)
