use Rattle.std.proofs.Common.{◌≡◌, ◌∙◌, List, [], ◌∷◌, ◌++◌, sym, ap, subst}
use Rattle.nm_steps.specs.Steps.{TreeView}
use Rattle.nm_tree.specs.Workers.{WorkerView}
use Rattle.nm_set.specs.Seats.{SetView}
use Rattle.nm_callers.specs.Queues.{AddUp}
use Rattle.nm_callers.proofs.AddedUp.{Settled, added_up}
use Rattle.nm_callers.proofs.coming_back.close_after_return.Goals as goal

pub returns-in-Ok : goal.returns-in-Ok
returns-in-Ok c =
    let s : SetView = c.return_and_keep-2.new.set in
    let x : WorkerView = c.args.first.worker in
    let y : WorkerView = c.args.second.worker in
    let one = c.return_and_keep.ensures c.if-not-return_and_keep.false in
    let two = c.return_and_keep-2.ensures c.if-not-return_and_keep-2.false in
    let of_kept : SetView → List WorkerView = λ t. t.kept in
    let kept : s.kept ≡ x ∷ y ∷ [] = ap of_kept two
    ∙ ap (λ (ws : List WorkerView). ws ++ y ∷ [])
    (ap of_kept one ∙ ap (λ (ws : List WorkerView). ws ++ x ∷ []) c.requires.new) in
    let of_tree : SetView → TreeView = λ t. t.tree in
    let tree : s.tree ≡ c.args.set.tree = ap of_tree two ∙ ap of_tree one in
    let workers : 2 ≡ s.tree.layout.workers = sym (ap (λ (b : TreeView). b.layout.workers) tree ∙ c.requires.two) in
    let r1 = c.know_run.ensures in
    let r2 = c.know_run-2.ensures in
    let settled : Settled s.tree.layout 0 (x ∷ y ∷ []) = (
      c.requires.first.number,
      c.requires.first.settled,
      r1.idle,
      r1.turns,
      (c.requires.second.number, c.requires.second.settled, r2.idle, r2.turns, workers),
    ) in
    subst (λ (ws : List WorkerView). AddUp ws c.in-Ok.report.keys.items) kept
    (added_up s c.in-Ok.report (subst (λ (ws : List WorkerView). Settled s.tree.layout 0 ws) (sym kept) settled)
    c.in-Ok.ensures.says)
