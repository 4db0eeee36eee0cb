use Rattle.std.proofs.Common.{◌≡◌, ◌∷◌, [], ◌++◌, ◌+◌, ◌-◌, ◌*◌, refl, sym, subst, arith}
use Rattle.nm_limbo.specs.Queue.{block_queue, block_queue_of, IsQueue}
use Rattle.nm_limbo.proofs.Queues.{IsReady, ready, ready_full, full_requires, place_in, push_made, queue_balanced}
use Rattle.nm_limbo.proofs.queue.BlockQueue.push_reserved.Given.{Over}
use Rattle.nm_limbo.proofs.queue.BlockQueue.push_reserved.Goals as goal
use Rattle.nm_limbo.proofs.queue.BlockQueue.push_reserved.Goals.{then-filled-blocks, else-filled-blocks}

pub take_block-requires : goal.take_block-requires
take_block-requires g c =
    let q = c.self.inside in let blocks = c.blocks-2.ensures in
    full_requires q.used q.empty q.popped q.len q.alloc c.args.self.now c.self.invariant c.self.view_is
    (omega (arith, c.if-filled-blocks.true, blocks.blocks, blocks.places)) c.requires

-- the fields once the item is written
written : (g : Over) (c : goal.After-self-1 g)
    → IsQueue c.write.new.self c.if-filled-blocks.self-inside.empty c.if-filled-blocks.self-inside.popped
    (c.if-filled-blocks.self-inside.len + 1) c.if-filled-blocks.self-inside.alloc
    × (block_queue_of c.write.new.self c.if-filled-blocks.self-inside.empty c.if-filled-blocks.self-inside.popped
    (c.if-filled-blocks.self-inside.len + 1) ≡ block_queue (c.args.self.now.items ++ c.args.item ∷ [])
    (c.args.self.now.spare - 1) c.args.self.now.blocks)
written g c =
    let q = c.self.inside in let now = c.args.self.now in let j = c.if-filled-blocks.self-inside in
    let blocks = c.blocks-2.ensures in
    let is : IsReady j.used j.empty j.popped j.len j.alloc now × (j.popped ≡ q.popped)
    × (j.len ≡ q.len) = elim c.if-filled-blocks.branch [
      | then-filled-blocks w ↦ subst (λ k. IsReady k.used k.empty k.popped k.len k.alloc now × (k.popped ≡ q.popped)
          × (k.len ≡ q.len)) (sym w.self-inside-is) (
            ready_full q.used q.empty q.popped q.len q.alloc now w.take_block.new.self w.take_block.new.from
                c.self.invariant c.self.view_is (omega (arith, w.if-filled-blocks.true, blocks.blocks, blocks.places))
                c.requires w.take_block.ensures.from w.take_block.ensures.list,
            refl,
            refl,
          )
      | else-filled-blocks w ↦ subst (λ k. IsReady k.used k.empty k.popped k.len k.alloc now × (k.popped ≡ q.popped)
          × (k.len ≡ q.len)) (sym w.self-inside-is) (
            ready q.used q.empty q.popped q.len q.alloc now c.self.invariant c.self.view_is
                (omega (
                  arith,
                  w.if-filled-blocks.false,
                  blocks.blocks,
                  blocks.places,
                  c.self.invariant.0.0,
                  c.self.invariant.1.whole,
                )),
            refl,
            refl,
          )
    ] in
    let at = place_in j.used j.empty j.popped j.len j.alloc now (q.popped + q.len + 32 - 32 * c.blocks-3.result) is.0
    (omega (arith, is.1, is.2, c.blocks-3.ensures.blocks)) in
    push_made j.used j.empty j.popped j.len j.alloc now _ c.args.item c.write.new.self is.0 at.2 c.write.ensures

pub invariant_of-self : goal.invariant_of-self
invariant_of-self g c = (written g c).0

pub returns-clause-queue : goal.returns-clause-queue
returns-clause-queue g c = (written g c).1

pub returns-clause-balanced : goal.returns-clause-balanced
returns-clause-balanced g c =
    let j = c.if-filled-blocks.self-inside in
    queue_balanced c.write.new.self j.empty j.popped (j.len + 1) j.alloc _ (written g c).0 refl
