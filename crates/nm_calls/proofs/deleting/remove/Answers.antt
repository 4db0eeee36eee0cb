use Rattle.std.proofs.Common.{add-one, ◌∙◌}
use Rattle.nm_walks.proofs.GoingOn.{goes_then}
use Rattle.nm_calls.proofs.Removals.{cleans_then, removing_on}
use Rattle.nm_calls.proofs.Rooms.{takes_then, takes_fills}
use Rattle.nm_calls.proofs.Waiting.{may_grow_more}
use Rattle.nm_calls.proofs.deleting.remove.Goals as goal

pub loop-round-preserved : goal.loop-round-preserved
loop-round-preserved c = record {
  lost = rw add-one (
    c.loop-round.pass.view.log,
    c.loop-round.invariant.lost,
    c.try_remove.ensures.lost
        c.if-try_remove.false,
  );
  removing = removing_on c.loop-round.pass c.try_remove.new.pass c.args.pending.now.key c.args.pending.now.leaf
      c.loop-round.invariant.removing c.try_remove.ensures.on c.try_remove.ensures.only;
  on = goes_then c.args.pass.now c.loop-round.pass c.try_remove.new.pass c.loop-round.invariant.on
      c.try_remove.ensures.on;
  only = cleans_then c.args.pass.now c.loop-round.pass c.try_remove.new.pass c.loop-round.invariant.on.same
      c.loop-round.invariant.only c.try_remove.ensures.only;
  blocks = takes_fills c.args.held.now.queue c.make_room.new.queue c.try_remove.new.held.queue
      (takes_then c.args.held.now.queue c.loop-round.held.queue c.make_room.new.queue c.loop-round.invariant.blocks
      c.make_room.ensures.blocks) c.try_remove.ensures.fills;
  kept = c.try_remove.ensures.kept;
  fit = c.try_remove.ensures.fit ∙ c.loop-round.invariant.fit;
}

pub make_room-requires : goal.make_room-requires
make_room-requires c = record {
  few = may_grow_more c.loop-round.pass c.loop-round.held.queue.items
      c.loop-round.invariant.on.run c.loop-round.invariant.kept.queue;
}

pub returns-then-not-make_room-clause-blocks : goal.returns-then-not-make_room-clause-blocks
returns-then-not-make_room-clause-blocks c = takes_then c.args.held.now.queue c.loop-round.held.queue
    c.make_room.new.queue c.loop-round.invariant.blocks c.make_room.ensures.blocks

pub returns-then-try_remove-clause-blocks : goal.returns-then-try_remove-clause-blocks
returns-then-try_remove-clause-blocks c = takes_fills c.args.held.now.queue c.make_room.new.queue
    c.try_remove.new.held.queue (takes_then c.args.held.now.queue c.loop-round.held.queue c.make_room.new.queue
    c.loop-round.invariant.blocks c.make_room.ensures.blocks) c.try_remove.ensures.fills

pub returns-then-try_remove-clause-on : goal.returns-then-try_remove-clause-on
returns-then-try_remove-clause-on c = goes_then c.args.pass.now c.loop-round.pass c.try_remove.new.pass
    c.loop-round.invariant.on c.try_remove.ensures.on
