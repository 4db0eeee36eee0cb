use Rattle.std.proofs.Common.{◌≡◌, sym, ◌∙◌, Some}
use Rattle.nm_epoch.specs.Collecting.{ripe_front}
use Rattle.nm_epoch.proofs.OneQueue.{may_collect, collecting_on, dropped_front}
use Rattle.nm_steps.proofs.Seeing.{continues_then, continues_by}
use Rattle.nm_epoch.proofs.collecting.collect_front.Goals as goal

pub free-requires-clause-may : goal.free-requires-clause-may
free-requires-clause-may c =
    may_collect c.args.epoch c.args.held.now.origin c.args.pass.now c.loop-node.pass c.args.held.now.queue.items
    c.loop-node.held.queue.items c.in-Some.node c.loop-node.invariant.on.run c.loop-node.invariant.collecting
    c.requires.seen
    (sym c.next_ripe.ensures ∙ c.in-Some.is)

pub loop-node-preserved : goal.loop-node-preserved
loop-node-preserved c =
    let ripe : ripe_front c.args.epoch c.loop-node.held.queue.items ≡ Some c.in-Some.node = sym c.next_ripe.ensures
    ∙ c.in-Some.is in
    let front = dropped_front c.args.epoch c.loop-node.held.queue.items c.drop_front.new.queue.items c.in-Some.node
    c.drop_front.ensures.items ripe in
    record {
      collecting = collecting_on c.args.epoch c.args.held.now.origin c.args.pass.now c.loop-node.pass c.free.new.pass
          c.args.held.now.queue.items c.loop-node.held.queue.items c.drop_front.new.queue.items front.0 c.in-Some.node
          c.loop-node.invariant.on.run c.loop-node.invariant.collecting ripe c.free.ensures.step front.1;
      on = continues_then _ _ _ c.loop-node.invariant.on (continues_by _ _ _ _ c.free.ensures);
      blocks = c.drop_front.ensures.blocks ∙ c.loop-node.invariant.blocks;
      origin = c.loop-node.invariant.origin;
      counts = c.loop-node.invariant.counts;
      fit = c.keep.ensures ∙ c.loop-node.invariant.fit;
    }
