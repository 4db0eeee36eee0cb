use Rattle.std.proofs.Common.{add-one, arith, ap, subst, ◌∙◌}
use Rattle.nm_edge.specs.declared.placement.Fit.{Fit}
use Rattle.nm_model.specs.declared.event.Event.TheVariants.{Leave}
use Rattle.nm_model.specs.declared.event.Op.TheVariants.{Insert}
use Rattle.nm_model.specs.declared.reply.Reply.TheVariants.{Departed}
use Rattle.nm_order.specs.Facts.Fact.{CallIs}
use Rattle.nm_steps.specs.Steps.{PassView}
use Rattle.nm_walks.proofs.GoingOn.{call_still, goes_then, own_still, pinned_in_still}
use Rattle.nm_calls.proofs.Forks.{continued}
use Rattle.nm_calls.proofs.KeptLedgers.{holds_with_room}
use Rattle.nm_calls.proofs.Moments.{no_call_on}
use Rattle.nm_calls.proofs.Rooms.{later_refused, takes_fills, takes_then}
use Rattle.nm_calls.proofs.Waiting.{may_grow_more}
use Rattle.nm_puts.specs.declared.putting.Attempt.TheVariants as attempt
use Rattle.nm_puts.specs.Puts.{IsPutTry, leave_of}
use Rattle.nm_puts.proofs.EndedPuts.{changed_nothing, does_then, is_leave, kept_left, ledgers_left, may_end_with, private_left}
use Rattle.nm_puts.proofs.TriedPuts.{does_since, nothing_then, private_since, puts_then, shows_since}
use Rattle.nm_puts.proofs.putting.put_pinned.Goals as goal

pub make_room_for-requires : goal.make_room_for-requires
make_room_for-requires c = record {
  few = may_grow_more c.loop-round.pass c.loop-round.held.queue.items c.loop-round.invariant.on.run
      c.loop-round.invariant.kept.queue;
  first = c.loop-round.invariant.first;
}

-- ---- the try of a round

pub try_by-requires-clause-pinned : goal.try_by-requires-clause-pinned
try_by-requires-clause-pinned c = pinned_in_still c.args.shared.now c.args.pass.now c.loop-round.pass
    c.loop-round.invariant.on c.requires.pinned

pub try_by-requires-clause-call : goal.try_by-requires-clause-call
try_by-requires-clause-call c = call_still Insert c.args.key c.args.pass.now c.loop-round.pass
    c.loop-round.invariant.on c.requires.call

pub try_by-requires-clause-unlinked : goal.try_by-requires-clause-unlinked
try_by-requires-clause-unlinked c = c.loop-round.invariant.nothing.linked ∙ c.requires.unchanged.unlinked

pub try_by-requires-clause-unswapped : goal.try_by-requires-clause-unswapped
try_by-requires-clause-unswapped c = c.loop-round.invariant.nothing.swapped ∙ c.requires.unchanged.unswapped

pub try_by-requires-clause-kept : goal.try_by-requires-clause-kept
try_by-requires-clause-kept c =
    holds_with_room c.loop-round.pass c.loop-round.held c.make_room_for.new.queue c.make_room_for.ensures.items
    c.loop-round.invariant.kept

pub loop-round-preserved : goal.loop-round-preserved
loop-round-preserved c = record {
  lost = rw add-one (
    c.loop-round.pass.view.log,
    c.loop-round.invariant.lost,
    subst (λ (f : Fit). IsPutTry f c.args.shared.now.layout c.args.condition c.args.key c.loop-round.pass.view.log
        c.try_by.new.pass.view.log attempt.Lost)
        c.loop-round.invariant.fit c.in-Lost.ensures.part,
  );
  on = goes_then c.args.pass.now c.loop-round.pass c.try_by.new.pass c.loop-round.invariant.on c.try_by.ensures.on;
  only = puts_then c.args.pass.now c.loop-round.pass c.try_by.new.pass c.loop-round.invariant.on.same
      c.loop-round.invariant.only c.try_by.ensures.only;
  nothing = nothing_then c.args.pass.now c.loop-round.pass c.try_by.new.pass c.loop-round.invariant.nothing
      c.in-Lost.ensures.shows;
  private = private_since c.args.pass.now c.loop-round.pass c.try_by.new.pass c.loop-round.invariant.private
      c.try_by.ensures.private;
  first = λ none'. omega (arith, none');
  blocks = takes_fills c.args.held.now.queue c.make_room_for.new.queue c.try_by.new.held.queue
      (takes_then c.args.held.now.queue c.loop-round.held.queue c.make_room_for.new.queue
      c.loop-round.invariant.blocks c.make_room_for.ensures.blocks) c.try_by.ensures.fills;
  kept = c.try_by.ensures.kept;
  fit = c.try_by.ensures.fit ∙ c.loop-round.invariant.fit;
}

-- ---- it has a result

pub conclude-requires-clause-own : goal.conclude-requires-clause-own
conclude-requires-clause-own c =
    own_still c.args.shared.now c.args.pass.now c.try_by.new.pass c.requires.pinned.own
    (goes_then c.args.pass.now c.loop-round.pass c.try_by.new.pass c.loop-round.invariant.on c.try_by.ensures.on).same

pub conclude-requires-clause-labelled : goal.conclude-requires-clause-labelled
conclude-requires-clause-labelled c = c.try_by.ensures.only.labelled
    (c.loop-round.invariant.only.labelled c.requires.unchanged.labelled)

pub conclude-requires-clause-shown : goal.conclude-requires-clause-shown
conclude-requires-clause-shown c =
    let o = c.args.pass.now in
    let l = c.loop-round.pass in
    let q = c.try_by.new.pass in
    may_end_with c.args.key o q c.in-Done.put c.requires.unchanged
    (puts_then o l q c.loop-round.invariant.on.same c.loop-round.invariant.only c.try_by.ensures.only)
    ((goes_then o l q c.loop-round.invariant.on c.try_by.ensures.on).keeps
    (CallIs Insert c.args.key) c.requires.call.call)
    (shows_since c.args.key o l q (attempt.Done c.in-Done.put) c.loop-round.invariant.nothing c.in-Done.ensures.shows)

pub returns-in-Done-clause-on : goal.returns-in-Done-clause-on
returns-in-Done-clause-on c =
    let o = c.args.pass.now in
    continued o c.try_by.new.pass c.conclude.new.pass (leave_of c.in-Done.put) Departed
    (goes_then o c.loop-round.pass c.try_by.new.pass c.loop-round.invariant.on c.try_by.ensures.on)
    c.conclude.ensures.took

pub returns-in-Done-clause-part : goal.returns-in-Done-clause-part
returns-in-Done-clause-part c = (
  c.try_by.new.pass.view.log,
  (
    c.loop-round.round,
    c.loop-round.pass.view.log,
    c.loop-round-test.true,
    c.loop-round.invariant.lost,
    subst (λ (f : Fit). IsPutTry f c.args.shared.now.layout c.args.condition c.args.key c.loop-round.pass.view.log
        c.try_by.new.pass.view.log (attempt.Done c.in-Done.put))
        c.loop-round.invariant.fit c.in-Done.ensures.part,
  ),
  ap (λ (s : PassView). s.view.log) c.conclude.ensures.took.step,
)

pub returns-in-Done-clause-does : goal.returns-in-Done-clause-does
returns-in-Done-clause-does c =
    let o = c.args.pass.now in
    let l = c.loop-round.pass in
    let q = c.try_by.new.pass in
    does_then c.args.condition c.args.key c.args.value o q c.conclude.new.pass c.in-Done.put c.requires.pinned.run
    c.requires.call.call c.know_run.ensures.seen
    (goes_then o l q c.loop-round.invariant.on c.try_by.ensures.on)
    (does_since c.args.condition c.args.key c.args.value o l q
    (attempt.Done c.in-Done.put) c.loop-round.invariant.on.past c.in-Done.ensures.does)
    c.conclude.ensures.took

pub returns-in-Done-clause-moment : goal.returns-in-Done-clause-moment
returns-in-Done-clause-moment c = λ p had.
    let o = c.args.pass.now in
    let q = c.try_by.new.pass in
    let on = goes_then o c.loop-round.pass q c.loop-round.invariant.on c.try_by.ensures.on in
    c.conclude.ensures.moment p c.args.key (no_call_on p o q had on.same on.past) (on.keeps
    (CallIs Insert c.args.key) c.requires.call.call)

pub returns-in-Done-clause-rests : goal.returns-in-Done-clause-rests
returns-in-Done-clause-rests c = c.conclude.ensures.rests

pub returns-in-Done-clause-private : goal.returns-in-Done-clause-private
returns-in-Done-clause-private c =
    let o = c.args.pass.now in
    let l = c.loop-round.pass in
    let q = c.try_by.new.pass in
    private_left o q c.conclude.new.pass (leave_of c.in-Done.put) (is_leave c.in-Done.put) c.requires.unchanged
    (goes_then o l q c.loop-round.invariant.on c.try_by.ensures.on)
    (puts_then o l q c.loop-round.invariant.on.same c.loop-round.invariant.only c.try_by.ensures.only)
    c.conclude.ensures.took c.conclude.ensures.hands
    (private_since o l q c.loop-round.invariant.private c.try_by.ensures.private)

pub returns-in-Done-clause-kept : goal.returns-in-Done-clause-kept
returns-in-Done-clause-kept c =
    let o = c.args.pass.now in
    let l = c.loop-round.pass in
    let q = c.try_by.new.pass in
    kept_left o q c.conclude.new.pass (leave_of c.in-Done.put) (is_leave c.in-Done.put) c.requires.unchanged
    (goes_then o l q c.loop-round.invariant.on c.try_by.ensures.on)
    (puts_then o l q c.loop-round.invariant.on.same c.loop-round.invariant.only c.try_by.ensures.only)
    c.conclude.ensures.took c.conclude.ensures.hands c.try_by.new.held c.try_by.ensures.kept

pub returns-in-Done-clause-blocks : goal.returns-in-Done-clause-blocks
returns-in-Done-clause-blocks c =
    takes_fills c.args.held.now.queue c.make_room_for.new.queue c.try_by.new.held.queue
    (takes_then c.args.held.now.queue c.loop-round.held.queue c.make_room_for.new.queue
    c.loop-round.invariant.blocks c.make_room_for.ensures.blocks) c.try_by.ensures.fills

pub returns-in-Done-clause-ledgers : goal.returns-in-Done-clause-ledgers
returns-in-Done-clause-ledgers c =
    let o = c.args.pass.now in
    let l = c.loop-round.pass in
    let q = c.try_by.new.pass in
    ledgers_left o q c.conclude.new.pass (leave_of c.in-Done.put) (is_leave c.in-Done.put) c.requires.unchanged
    (goes_then o l q c.loop-round.invariant.on c.try_by.ensures.on)
    (puts_then o l q c.loop-round.invariant.on.same c.loop-round.invariant.only c.try_by.ensures.only)
    c.conclude.ensures.took c.conclude.ensures.hands

-- ---- no slot

pub leave-requires-in-Full-clause-unchanged : goal.leave-requires-in-Full-clause-unchanged
leave-requires-in-Full-clause-unchanged c =
    let o = c.args.pass.now in
    let l = c.loop-round.pass in
    let q = c.try_by.new.pass in
    changed_nothing o q c.requires.unchanged
    (puts_then o l q c.loop-round.invariant.on.same c.loop-round.invariant.only c.try_by.ensures.only)
    (nothing_then o l q c.loop-round.invariant.nothing c.in-Full.ensures.shows)

pub leave-requires-in-Full-clause-own : goal.leave-requires-in-Full-clause-own
leave-requires-in-Full-clause-own c =
    own_still c.args.shared.now c.args.pass.now c.try_by.new.pass c.requires.pinned.own
    (goes_then c.args.pass.now c.loop-round.pass c.try_by.new.pass c.loop-round.invariant.on c.try_by.ensures.on).same

pub returns-in-Full-clause-on : goal.returns-in-Full-clause-on
returns-in-Full-clause-on c =
    let o = c.args.pass.now in
    continued o c.try_by.new.pass c.leave-in-Full.new.pass Leave Departed
    (goes_then o c.loop-round.pass c.try_by.new.pass c.loop-round.invariant.on c.try_by.ensures.on)
    c.leave-in-Full.ensures.took

pub returns-in-Full-clause-part : goal.returns-in-Full-clause-part
returns-in-Full-clause-part c = (
  c.try_by.new.pass.view.log,
  (
    c.loop-round.round,
    c.loop-round.pass.view.log,
    c.loop-round-test.true,
    c.loop-round.invariant.lost,
    subst (λ (f : Fit). IsPutTry f c.args.shared.now.layout c.args.condition c.args.key c.loop-round.pass.view.log
        c.try_by.new.pass.view.log attempt.Full)
        c.loop-round.invariant.fit c.in-Full.ensures.part,
  ),
  ap (λ (s : PassView). s.view.log) c.leave-in-Full.ensures.took.step,
)

pub returns-in-Full-clause-rests : goal.returns-in-Full-clause-rests
returns-in-Full-clause-rests c = c.leave-in-Full.ensures.rests

pub returns-in-Full-clause-private : goal.returns-in-Full-clause-private
returns-in-Full-clause-private c =
    let o = c.args.pass.now in
    let l = c.loop-round.pass in
    let q = c.try_by.new.pass in
    private_left o q c.leave-in-Full.new.pass Leave tt c.requires.unchanged
    (goes_then o l q c.loop-round.invariant.on c.try_by.ensures.on)
    (puts_then o l q c.loop-round.invariant.on.same c.loop-round.invariant.only c.try_by.ensures.only)
    c.leave-in-Full.ensures.took c.leave-in-Full.ensures.hands
    (private_since o l q c.loop-round.invariant.private c.try_by.ensures.private)

pub returns-in-Full-clause-kept : goal.returns-in-Full-clause-kept
returns-in-Full-clause-kept c =
    let o = c.args.pass.now in
    let l = c.loop-round.pass in
    let q = c.try_by.new.pass in
    kept_left o q c.leave-in-Full.new.pass Leave tt c.requires.unchanged
    (goes_then o l q c.loop-round.invariant.on c.try_by.ensures.on)
    (puts_then o l q c.loop-round.invariant.on.same c.loop-round.invariant.only c.try_by.ensures.only)
    c.leave-in-Full.ensures.took c.leave-in-Full.ensures.hands c.try_by.new.held c.try_by.ensures.kept

pub returns-in-Full-clause-blocks : goal.returns-in-Full-clause-blocks
returns-in-Full-clause-blocks c =
    takes_fills c.args.held.now.queue c.make_room_for.new.queue c.try_by.new.held.queue
    (takes_then c.args.held.now.queue c.loop-round.held.queue c.make_room_for.new.queue
    c.loop-round.invariant.blocks c.make_room_for.ensures.blocks) c.try_by.ensures.fills

pub returns-in-Full-clause-ledgers : goal.returns-in-Full-clause-ledgers
returns-in-Full-clause-ledgers c =
    let o = c.args.pass.now in
    let l = c.loop-round.pass in
    let q = c.try_by.new.pass in
    ledgers_left o q c.leave-in-Full.new.pass Leave tt c.requires.unchanged
    (goes_then o l q c.loop-round.invariant.on c.try_by.ensures.on)
    (puts_then o l q c.loop-round.invariant.on.same c.loop-round.invariant.only c.try_by.ensures.only)
    c.leave-in-Full.ensures.took c.leave-in-Full.ensures.hands

-- ---- no room

pub leave-requires-clause-unchanged : goal.leave-requires-clause-unchanged
leave-requires-clause-unchanged c =
    changed_nothing c.args.pass.now c.loop-round.pass c.requires.unchanged c.loop-round.invariant.only
    c.loop-round.invariant.nothing

pub leave-requires-clause-own : goal.leave-requires-clause-own
leave-requires-clause-own c = own_still c.args.shared.now c.args.pass.now c.loop-round.pass c.requires.pinned.own
    c.loop-round.invariant.on.same

pub returns-then-not-make_room_for-clause-on : goal.returns-then-not-make_room_for-clause-on
returns-then-not-make_room_for-clause-on c =
    continued c.args.pass.now c.loop-round.pass c.leave.new.pass Leave Departed c.loop-round.invariant.on
    c.leave.ensures.took

pub returns-then-not-make_room_for-clause-part : goal.returns-then-not-make_room_for-clause-part
returns-then-not-make_room_for-clause-part c = (
  c.loop-round.round,
  c.loop-round.pass.view.log,
  later_refused c.loop-round.round c.loop-round.held.queue c.make_room_for.new.queue c.loop-round.invariant.first
      c.make_room_for.ensures.more
      (c.make_room_for.ensures.refused c.if-not-make_room_for.true),
  c.loop-round-test.true,
  c.loop-round.invariant.lost,
  ap (λ (s : PassView). s.view.log) c.leave.ensures.took.step,
)

pub returns-then-not-make_room_for-clause-private : goal.returns-then-not-make_room_for-clause-private
returns-then-not-make_room_for-clause-private c =
    private_left c.args.pass.now c.loop-round.pass c.leave.new.pass Leave tt c.requires.unchanged
    c.loop-round.invariant.on c.loop-round.invariant.only
    c.leave.ensures.took c.leave.ensures.hands c.loop-round.invariant.private

pub returns-then-not-make_room_for-clause-kept : goal.returns-then-not-make_room_for-clause-kept
returns-then-not-make_room_for-clause-kept c =
    kept_left c.args.pass.now c.loop-round.pass c.leave.new.pass Leave tt c.requires.unchanged
    c.loop-round.invariant.on c.loop-round.invariant.only
    c.leave.ensures.took c.leave.ensures.hands _
    (holds_with_room c.loop-round.pass c.loop-round.held c.make_room_for.new.queue c.make_room_for.ensures.items
    c.loop-round.invariant.kept)

pub returns-then-not-make_room_for-clause-blocks : goal.returns-then-not-make_room_for-clause-blocks
returns-then-not-make_room_for-clause-blocks c =
    takes_then c.args.held.now.queue c.loop-round.held.queue c.make_room_for.new.queue c.loop-round.invariant.blocks
    c.make_room_for.ensures.blocks

pub returns-then-not-make_room_for-clause-ledgers : goal.returns-then-not-make_room_for-clause-ledgers
returns-then-not-make_room_for-clause-ledgers c =
    ledgers_left c.args.pass.now c.loop-round.pass c.leave.new.pass Leave tt c.requires.unchanged
    c.loop-round.invariant.on c.loop-round.invariant.only
    c.leave.ensures.took c.leave.ensures.hands

-- ---- each try was lost

pub leave-requires-2-clause-unchanged : goal.leave-requires-2-clause-unchanged
leave-requires-2-clause-unchanged c =
    changed_nothing c.args.pass.now c.loop-round.pass c.requires.unchanged c.loop-round.invariant.only
    c.loop-round.invariant.nothing

pub leave-requires-2-clause-own : goal.leave-requires-2-clause-own
leave-requires-2-clause-own c = own_still c.args.shared.now c.args.pass.now c.loop-round.pass c.requires.pinned.own
    c.loop-round.invariant.on.same

pub returns-clause-on : goal.returns-clause-on
returns-clause-on c =
    continued c.args.pass.now c.loop-round.pass c.leave-2.new.pass Leave Departed c.loop-round.invariant.on
    c.leave-2.ensures.took

pub returns-clause-private : goal.returns-clause-private
returns-clause-private c =
    private_left c.args.pass.now c.loop-round.pass c.leave-2.new.pass Leave tt c.requires.unchanged
    c.loop-round.invariant.on c.loop-round.invariant.only
    c.leave-2.ensures.took c.leave-2.ensures.hands c.loop-round.invariant.private

pub returns-clause-kept : goal.returns-clause-kept
returns-clause-kept c =
    kept_left c.args.pass.now c.loop-round.pass c.leave-2.new.pass Leave tt c.requires.unchanged
    c.loop-round.invariant.on c.loop-round.invariant.only
    c.leave-2.ensures.took c.leave-2.ensures.hands c.loop-round.held c.loop-round.invariant.kept

pub returns-clause-ledgers : goal.returns-clause-ledgers
returns-clause-ledgers c =
    ledgers_left c.args.pass.now c.loop-round.pass c.leave-2.new.pass Leave tt c.requires.unchanged
    c.loop-round.invariant.on c.loop-round.invariant.only
    c.leave-2.ensures.took c.leave-2.ensures.hands
