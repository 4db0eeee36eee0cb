use Rattle.std.proofs.Common.{add-one, arith, subst, ◌∙◌}
use Rattle.nm_model.specs.declared.event.Op.TheVariants.{Delete}
use Rattle.nm_walks.proofs.GoingOn.{call_still, goes_then}
use Rattle.nm_calls.specs.declared.deleting.Injected.{Injected}
use Rattle.nm_calls.specs.Deletes.{IfFlagged, IsFlagTry, ShowsFlag}
use Rattle.nm_calls.specs.Maps.{HasReadFlagged}
use Rattle.nm_calls.proofs.Forks.{going_continues}
use Rattle.nm_calls.proofs.Removals.{injects_then}
use Rattle.nm_calls.proofs.Rooms.{takes_fills, takes_then}
use Rattle.nm_calls.proofs.TakenValues.{read_since}
use Rattle.nm_calls.proofs.Waiting.{may_grow_more}
use Rattle.nm_puts.proofs.removing.inject_if.Goals as goal

pub make_room_for-requires-clause-few : goal.make_room_for-requires-clause-few
make_room_for-requires-clause-few c = may_grow_more c.loop-round.pass c.loop-round.held.queue.items
    c.loop-round.invariant.on.run c.loop-round.invariant.kept.queue

pub try_flag_if-requires-clause-call : goal.try_flag_if-requires-clause-call
try_flag_if-requires-clause-call c = call_still Delete c.args.key c.args.pass.now c.loop-round.pass
    c.loop-round.invariant.on c.requires.call

pub loop-round-preserved : goal.loop-round-preserved
loop-round-preserved c =
    let o = c.args.pass.now in
    let p = c.loop-round.pass in
    let q = c.try_flag_if.new.pass in
    let chain = c.try_flag_if.new.workspace.chain.items in
    let shows = subst (λ (i : Injected). ShowsFlag c.args.key chain p q i) c.in-Ok-Lost.field-0-is
    c.in-Ok-Lost.ensures.shows in
    record {
      lost = rw add-one (
        chain,
        p.view.log,
        c.loop-round.invariant.lost,
        subst (λ (i : Injected). IsFlagTry c.args.shared.now.layout c.args.key chain p.view.log q.view.log i)
            c.in-Ok-Lost.field-0-is c.in-Ok-Lost.ensures.part,
      );
      on = goes_then o p q c.loop-round.invariant.on c.try_flag_if.ensures.on;
      only = injects_then o p q c.loop-round.invariant.on.same c.loop-round.invariant.only c.try_flag_if.ensures.only;
      unflagged = shows ∙ c.loop-round.invariant.unflagged;
      first = λ none'. omega (arith, none');
      blocks = takes_fills c.args.held.now.queue c.make_room_for.new.queue c.try_flag_if.new.held.queue
          (takes_then c.args.held.now.queue c.loop-round.held.queue c.make_room_for.new.queue
          c.loop-round.invariant.blocks c.make_room_for.ensures.blocks) c.try_flag_if.ensures.fills;
      kept = c.try_flag_if.ensures.kept;
      fit = c.try_flag_if.ensures.fit ∙ c.loop-round.invariant.fit;
    }

pub returns-in-Ok-Absent-clause-on : goal.returns-in-Ok-Absent-clause-on
returns-in-Ok-Absent-clause-on c = goes_then c.args.pass.now c.loop-round.pass c.try_flag_if.new.pass
    c.loop-round.invariant.on c.try_flag_if.ensures.on

pub returns-in-Ok-Absent-clause-only : goal.returns-in-Ok-Absent-clause-only
returns-in-Ok-Absent-clause-only c = injects_then c.args.pass.now c.loop-round.pass c.try_flag_if.new.pass
    c.loop-round.invariant.on.same c.loop-round.invariant.only c.try_flag_if.ensures.only

pub returns-in-Ok-Flagged-clause-on : goal.returns-in-Ok-Flagged-clause-on
returns-in-Ok-Flagged-clause-on c = goes_then c.args.pass.now c.loop-round.pass c.try_flag_if.new.pass
    c.loop-round.invariant.on c.try_flag_if.ensures.on

pub returns-in-Ok-Flagged-clause-only : goal.returns-in-Ok-Flagged-clause-only
returns-in-Ok-Flagged-clause-only c = injects_then c.args.pass.now c.loop-round.pass c.try_flag_if.new.pass
    c.loop-round.invariant.on.same c.loop-round.invariant.only c.try_flag_if.ensures.only

pub returns-in-Ok-Flagged-clause-read : goal.returns-in-Ok-Flagged-clause-read
returns-in-Ok-Flagged-clause-read c =
    let p = c.loop-round.pass in
    let q = c.try_flag_if.new.pass in
    read_since c.args.pass.now p q c.args.key c.args.expected
    (going_continues c.args.pass.now p c.loop-round.invariant.on)
    (subst (λ (i : Injected). IfFlagged i (HasReadFlagged p q c.args.key c.args.expected)) c.in-Ok-Flagged.field-0-is
    c.in-Ok-Flagged.ensures.read)

pub returns-in-Err-clause-on : goal.returns-in-Err-clause-on
returns-in-Err-clause-on c = goes_then c.args.pass.now c.loop-round.pass c.try_flag_if.new.pass
    c.loop-round.invariant.on c.try_flag_if.ensures.on
