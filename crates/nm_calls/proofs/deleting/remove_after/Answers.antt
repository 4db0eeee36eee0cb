use Rattle.std.proofs.Common.{◌-◌, inl, arith, subst}
use Rattle.nm_edge.specs.declared.node.NodeId.{NodeId}
use Rattle.nm_calls.specs.Deletes.{IsRemoval, leaf_of}
use Rattle.nm_walks.proofs.GoingOn.{goes_then}
use Rattle.nm_calls.proofs.Removals.{removing_on, removal_after}
use Rattle.nm_calls.proofs.Rooms.{takes_then, takes_fills}
use Rattle.nm_calls.proofs.Waiting.{may_grow_more}
use Rattle.nm_calls.proofs.deleting.remove_after.Goals as goal

pub returns-then-cleanup-clause-part : goal.returns-then-cleanup-clause-part
returns-then-cleanup-clause-part c =
    let w = c.cleanup.ensures.won c.if-cleanup.true in
    inl (
      c.if-flagged-eq0.false,
      w.nodes,
      w.epoch,
      w.part,
      w.leaf c.args.flagged.now.end.seek_record.edge.slot
          c.args.flagged.now.birth c.requires.edge c.requires.removing.born,
    )

pub remove-requires-clause-removing : goal.remove-requires-clause-removing
remove-requires-clause-removing c =
    rw c.leaf_at-leaf.ensures (removing_on c.args.pass.now c.cleanup.new.pass c.args.key
    (leaf_of c.args.flagged.now.end c.args.flagged.now.birth) c.requires.removing c.cleanup.ensures.on
    c.cleanup.ensures.only)

pub returns-clause-part : goal.returns-clause-part
returns-clause-part c =
    let f = c.args.flagged.now in
    let mid = c.cleanup.new.pass.view.log in
    let lost = (c.cleanup.ensures.lost c.if-cleanup.false).part in
    let some = c.if-flagged-eq0.false in
    removal_after c.args.shared.now.layout c.args.key f c.args.workspace.now.chain.items (f.left - 1)
    c.args.pass.now.view.log mid c.remove.new.pass.view.log c.remove.result (omega (arith, some))
    lost
    (subst (λ (n : NodeId). IsRemoval c.args.shared.now.layout c.args.key n (f.left - 1) mid
    c.remove.new.pass.view.log c.remove.result) c.leaf_at-leaf.ensures c.remove.ensures.part)

pub make_room-requires : goal.make_room-requires
make_room-requires c = record {
  few = may_grow_more c.args.pass.now c.args.held.now.queue.items
      c.requires.removing.run c.requires.kept.queue;
}

pub returns-then-cleanup-clause-blocks : goal.returns-then-cleanup-clause-blocks
returns-then-cleanup-clause-blocks c = takes_fills c.args.held.now.queue c.make_room.new.queue
    c.cleanup.new.held.queue c.make_room.ensures.blocks c.cleanup.ensures.fills

pub returns-clause-blocks : goal.returns-clause-blocks
returns-clause-blocks c =
    takes_then c.args.held.now.queue c.cleanup.new.held.queue c.remove.new.held.queue
    (takes_fills c.args.held.now.queue c.make_room.new.queue c.cleanup.new.held.queue c.make_room.ensures.blocks
    c.cleanup.ensures.fills) c.remove.ensures.blocks

pub returns-clause-on : goal.returns-clause-on
returns-clause-on c = goes_then c.args.pass.now c.cleanup.new.pass c.remove.new.pass c.cleanup.ensures.on
    c.remove.ensures.on
