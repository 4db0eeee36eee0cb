use Rattle.std.proofs.Common.{◌≡◌, ◌∙◌, ℕ, List, subst, sym, ap, arith}
use lib.Seq.{take_all}
use Rattle.nm_epoch.specs.declared.collecting.HeldQueue.{HeldQueue}
use Rattle.nm_tree.specs.Workers.{WorkerView, HaveFewBlocks, AreFewIn, blocks_in}
use Rattle.nm_tree.proofs.QueueLists.{few_in_all}
use Rattle.nm_tree.proofs.worker.Worker.queue_blocks.Goals as goal

pub returns-clause-few : goal.returns-clause-few
returns-clause-few c =
    let few : HaveFewBlocks c.args.self.now.queues = subst (λ (w : WorkerView). HaveFewBlocks w.queues)
    c.self.view_is c.self.invariant.between.blocks in
    let these = c.deref-held-items.result.now in
    let over = c.loop-held-test.false in
    let sum : c.loop-held.blocks ≡ blocks_in these = c.loop-held.invariant.sum
    ∙ ap (λ (hs : List HeldQueue). blocks_in hs) (take_all c.loop-held.held-index these (omega (arith, over))) in
    let all : c.loop-held.blocks ≡ blocks_in c.args.self.now.queues = sum
    ∙ ap (λ (hs : List HeldQueue). blocks_in hs)
    (c.deref-held-items.ensures.value ∙ ap (λ (w : WorkerView). w.queues) c.self.view_is) in
    subst (λ (n : ℕ). AreFewIn n c.args.self.now.queues) (sym all) (few_in_all c.args.self.now.queues few)
