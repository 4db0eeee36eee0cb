use Rattle.std.proofs.Common.{add-one, arith, ◌∙◌}
use Rattle.nm_model.specs.declared.event.Op.TheVariants.{Delete}
use Rattle.nm_walks.proofs.GoingOn.{goes_then, call_still}
use Rattle.nm_calls.proofs.Removals.{injects_then}
use Rattle.nm_calls.proofs.Forks.{going_continues}
use Rattle.nm_calls.proofs.TakenValues.{read_since}
use Rattle.nm_calls.proofs.Rooms.{takes_then, takes_fills, later_refused}
use Rattle.nm_calls.proofs.Waiting.{may_grow_more}
use Rattle.nm_calls.proofs.deleting.inject.Goals as goal

pub try_flag-requires-clause-call : goal.try_flag-requires-clause-call
try_flag-requires-clause-call c = call_still Delete c.args.key c.args.pass.now c.loop-round.pass
    c.loop-round.invariant.on c.requires.call

pub make_room_for-requires : goal.make_room_for-requires
make_room_for-requires c = record {
  few = may_grow_more c.loop-round.pass c.loop-round.held.queue.items c.loop-round.invariant.on.run
      c.loop-round.invariant.kept.queue;
  first = c.loop-round.invariant.first;
}

pub loop-round-preserved : goal.loop-round-preserved
loop-round-preserved c = record {
  lost = rw add-one (
    c.try_flag.new.workspace.chain.items,
    c.loop-round.pass.view.log,
    c.loop-round.invariant.lost,
    c.in-Lost.ensures.part,
  );
  on = goes_then c.args.pass.now c.loop-round.pass c.try_flag.new.pass c.loop-round.invariant.on c.try_flag.ensures.on;
  only = injects_then c.args.pass.now c.loop-round.pass c.try_flag.new.pass c.loop-round.invariant.on.same
      c.loop-round.invariant.only c.try_flag.ensures.only;
  unflagged = c.in-Lost.ensures.shows ∙ c.loop-round.invariant.unflagged;
  first = λ none'. omega (arith, none');
  blocks = takes_fills c.args.held.now.queue c.make_room_for.new.queue c.try_flag.new.held.queue
      (takes_then c.args.held.now.queue c.loop-round.held.queue c.make_room_for.new.queue c.loop-round.invariant.blocks
      c.make_room_for.ensures.blocks) c.try_flag.ensures.fills;
  kept = c.try_flag.ensures.kept;
  fit = c.try_flag.ensures.fit ∙ c.loop-round.invariant.fit;
}

pub returns-then-not-make_room_for-clause-part : goal.returns-then-not-make_room_for-clause-part
returns-then-not-make_room_for-clause-part c = (
  c.loop-round.round,
  later_refused c.loop-round.round c.loop-round.held.queue c.make_room_for.new.queue c.loop-round.invariant.first
      c.make_room_for.ensures.more (c.make_room_for.ensures.refused c.if-not-make_room_for.true),
  c.loop-round-test.true,
  c.loop-round.invariant.lost,
)

pub returns-then-not-make_room_for-clause-blocks : goal.returns-then-not-make_room_for-clause-blocks
returns-then-not-make_room_for-clause-blocks c = takes_then c.args.held.now.queue c.loop-round.held.queue
    c.make_room_for.new.queue c.loop-round.invariant.blocks c.make_room_for.ensures.blocks

pub returns-in-Absent-clause-blocks : goal.returns-in-Absent-clause-blocks
returns-in-Absent-clause-blocks c = takes_fills c.args.held.now.queue c.make_room_for.new.queue
    c.try_flag.new.held.queue (takes_then c.args.held.now.queue c.loop-round.held.queue c.make_room_for.new.queue
    c.loop-round.invariant.blocks c.make_room_for.ensures.blocks) c.try_flag.ensures.fills

pub returns-in-Flagged-clause-blocks : goal.returns-in-Flagged-clause-blocks
returns-in-Flagged-clause-blocks c = takes_fills c.args.held.now.queue c.make_room_for.new.queue
    c.try_flag.new.held.queue (takes_then c.args.held.now.queue c.loop-round.held.queue c.make_room_for.new.queue
    c.loop-round.invariant.blocks c.make_room_for.ensures.blocks) c.try_flag.ensures.fills

pub returns-in-Absent-clause-on : goal.returns-in-Absent-clause-on
returns-in-Absent-clause-on c = goes_then c.args.pass.now c.loop-round.pass c.try_flag.new.pass
    c.loop-round.invariant.on c.try_flag.ensures.on

pub returns-in-Absent-clause-only : goal.returns-in-Absent-clause-only
returns-in-Absent-clause-only c = injects_then c.args.pass.now c.loop-round.pass c.try_flag.new.pass
    c.loop-round.invariant.on.same c.loop-round.invariant.only c.try_flag.ensures.only

pub returns-in-Flagged-clause-on : goal.returns-in-Flagged-clause-on
returns-in-Flagged-clause-on c = goes_then c.args.pass.now c.loop-round.pass c.try_flag.new.pass
    c.loop-round.invariant.on c.try_flag.ensures.on

pub returns-in-Flagged-clause-only : goal.returns-in-Flagged-clause-only
returns-in-Flagged-clause-only c = injects_then c.args.pass.now c.loop-round.pass c.try_flag.new.pass
    c.loop-round.invariant.on.same c.loop-round.invariant.only c.try_flag.ensures.only

pub returns-in-Flagged-clause-read : goal.returns-in-Flagged-clause-read
returns-in-Flagged-clause-read c = λ values.
    read_since c.args.pass.now c.loop-round.pass c.try_flag.new.pass c.args.key c.try_flag.new.value
    (going_continues c.args.pass.now c.loop-round.pass c.loop-round.invariant.on) (c.in-Flagged.ensures.read values)
