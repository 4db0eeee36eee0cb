-- No more nodes wait than there are nodes, so there may be room for more.
use Rattle.std.proofs.Common.{◌≡◌, ◌≤◌, List, length, arith, ap, subst, ◌∙◌}
use Rattle.nm_edge.specs.Layouts.{Layout}
use Rattle.nm_order.proofs.HeldSlots.{hands_are_apart}
use Rattle.nm_steps.specs.Rules.{knowledge}
use Rattle.nm_steps.specs.Steps.{TreeView, PassView, IsOf, IsSamePass}
use Rattle.nm_epoch.specs.Collecting.{IsQueueOf}
use Rattle.nm_epoch.specs.declared.collecting.Entry.{Entry as Waiting}
use Rattle.nm_epoch.proofs.FewFreed.{few_waiting}
use Rattle.nm_epoch.specs.declared.collecting.HeldQueue.{HeldQueue}
use Rattle.nm_walks.specs.Cleanups.{HoldsCuts}
use Rattle.nm_walks.specs.Telling.{IsInRun}
use Rattle.nm_walks.proofs.Looks.{enough}

few_of_nodes : (p : PassView) (es : List Waiting) → IsInRun p → IsQueueOf (knowledge p.view) p.view.number es
    → length es ≤ p.view.layout.nodes
few_of_nodes p es run queue =
    let low = enough p.view.layout run.fits in
    let few = few_waiting p.view.layout (knowledge p.view) p.view.number es
    (hands_are_apart p.view.layout low p.view.number p.view.log run.run.is_part) (omega (arith, low)) queue in
    omega (arith, few)

-- the queue may grow
pub may_grow_more : (p : PassView) (es : List Waiting) → IsInRun p → IsQueueOf (knowledge p.view) p.view.number es
    → length es ≤ 536870912
may_grow_more p es run queue =
    let few = few_of_nodes p es run queue in
    let most = run.fits.most in
    omega (arith, few, most)

-- the own queue does not outgrow the table
pub few_in_table : (b : TreeView) (o p : PassView) (h : HeldQueue) → IsOf b o → IsSamePass o p → IsInRun p
    → HoldsCuts p h → length h.queue.items ≤ b.layout.nodes
few_in_table b o p h own same run kept =
    let layout : p.view.layout ≡ b.layout = ap (λ (s : PassView). s.view.layout) same ∙ own.layout in
    subst (λ (L : Layout). length h.queue.items ≤ L.nodes) layout (few_of_nodes p h.queue.items run kept.queue)
