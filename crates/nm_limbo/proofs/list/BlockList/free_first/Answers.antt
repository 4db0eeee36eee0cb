use Rattle.std.proofs.Common.{◌≡◌, None, length, replicate, ap, ◌∙◌, subst, sym, arith}
use Rattle.nm_limbo.proofs.Lists.{take_empty, drop_empty}
use Rattle.nm_limbo.proofs.list.BlockList.free_first.Goals as goal

pub pop_block-room-requires : goal.pop_block-room-requires
pop_block-room-requires g c =
    let some = c.loop-self-test.true in let blocks = c.blocks-in-loop-self.ensures in (
      omega (arith, blocks.blocks),
      take_empty c.loop-self.self.slots 32 c.loop-self.invariant.1
          (omega (arith, blocks.blocks, blocks.places)),
    )

pub and-receipt-requires : goal.and-receipt-requires
and-receipt-requires g c =
    let deed = c.pop_block-room.ensures.deed in let kept = c.loop-self.invariant in (
      deed.0,
      deed.1 ∙ kept.0 ∙ c.requires.1,
      omega (
        arith,
        kept.2,
        c.blocks-in-loop-self.ensures.blocks,
        c.loop-self-test.true,
        c.blocks-2.ensures.blocks,
      ),
    )

pub loop-self-preserved : goal.loop-self-preserved
loop-self-preserved g c =
    let left = c.pop_block-room.ensures.list in let kept = c.loop-self.invariant in
    let blocks = ap (λ l. l.blocks) left in (
      ap (λ l. l.alloc) left ∙ kept.0,
      subst (λ cs. cs ≡ replicate (length cs) None) (sym (ap (λ l. l.slots) left))
          (drop_empty c.loop-self.self.slots 32 kept.1),
      omega (arith, kept.2, blocks, c.and-receipt.ensures, c.blocks-in-loop-self.ensures.blocks, c.loop-self-test.true),
      omega (arith, blocks, c.blocks-in-loop-self.ensures.blocks, c.loop-self-test.true),
    )
