use Rattle.std.proofs.Common.{true, false, add-one, arith, refl, ap, subst, ◌∙◌}
use Rattle.std.specs.Prelude.{Option, None}
use Rattle.nm_model.specs.declared.event.Event.TheVariants.{Leave, LeaveWith}
use Rattle.nm_model.specs.declared.reply.Reply.TheVariants.{Departed}
use Rattle.nm_model.specs.declared.event.Op.TheVariants.{Insert}
use Rattle.nm_model.specs.declared.knowledge.Brief.{Brief}
use Rattle.nm_model.specs.Searches.{Search}
use Rattle.nm_order.specs.Facts.Fact.{CallIs}
use Rattle.nm_walks.specs.declared.making.NewNodes.{NewNodes}
use Rattle.nm_edge.specs.declared.placement.Fit.{Fit}
use Rattle.nm_calls.specs.declared.inserting.Attempt.TheVariants as attempt
use Rattle.nm_walks.specs.Growing.{HasNewNodes}
use Rattle.nm_calls.specs.Inserts.{IsTry}
use Rattle.nm_steps.specs.Steps.{PassView}
use Rattle.nm_calls.proofs.AddingInserts.{back_adds}
use Rattle.nm_walks.proofs.GoingOn.{goes_then, call_still}
use Rattle.nm_walks.proofs.ShortWalks.{key_of_call}
use Rattle.nm_walks.proofs.KeptLedgers.{holds_on}
use Rattle.nm_calls.proofs.KeptLedgers.{holds_left, holds_with_room}
use Rattle.nm_calls.proofs.Moments.{no_call_on}
use Rattle.nm_calls.proofs.Forks.{if_ready, none_left, tries_then, found_answer, continued}
use Rattle.nm_calls.proofs.Rooms.{takes_then, takes_fills, later_refused}
use Rattle.nm_calls.proofs.Waiting.{may_grow_more}
use Rattle.nm_calls.proofs.InsertedValues.{inserted_then}
use Rattle.nm_calls.proofs.MadeLeaves.{put_earlier, put_then}
use Rattle.nm_calls.proofs.inserting.insert_pinned.Goals as goal

pub returns-then-not-make_room_for-clause-private : goal.returns-then-not-make_room_for-clause-private
returns-then-not-make_room_for-clause-private c =
    none_left c.args.pass.now c.give_back.new.pass c.leave.new.pass c.leave.ensures.hands.private
    (c.give_back.ensures.given c.args.pass.now c.loop-round.invariant.has)

pub try_insert-requires-clause-call : goal.try_insert-requires-clause-call
try_insert-requires-clause-call c = call_still Insert c.args.key c.args.pass.now c.loop-round.pass
    c.loop-round.invariant.on c.requires.call

pub try_insert-requires-clause-unswapped : goal.try_insert-requires-clause-unswapped
try_insert-requires-clause-unswapped c = c.loop-round.invariant.only.swapped ∙ c.requires.unchanged.unswapped

pub give_back_and_read-requires-clause-ready : goal.give_back_and_read-requires-clause-ready
give_back_and_read-requires-clause-ready c = if_ready c.args.pass.now c.try_insert.new.pass
    c.try_insert.new.new_nodes (c.try_insert.ensures.has c.args.pass.now c.loop-round.invariant.has)

pub answer-requires-clause-shown : goal.answer-requires-clause-shown
answer-requires-clause-shown c =
    let shows = c.in-Found.ensures.shows in
    found_answer c.try_insert.new.pass c.give_back_and_read.new.pass c.args.key c.give_back_and_read.ensures.on
    (ap (λ (s : Search). s.linked) c.give_back_and_read.ensures.only.search)
    (shows.1 ∙ c.loop-round.invariant.unlinked)
    (c.try_insert.ensures.on.keeps (CallIs Insert c.args.key)
    (c.loop-round.invariant.on.keeps (CallIs Insert c.args.key) c.requires.call.call)) (c.in-Found.leaf, shows.0)

pub returns-in-Found-clause-private : goal.returns-in-Found-clause-private
returns-in-Found-clause-private c =
    none_left c.args.pass.now c.give_back_and_read.new.pass c.answer.new.pass c.answer.ensures.hands.private
    (c.give_back_and_read.ensures.given c.args.pass.now
    (c.try_insert.ensures.has c.args.pass.now c.loop-round.invariant.has))

pub returns-in-Linked-clause-private : goal.returns-in-Linked-clause-private
returns-in-Linked-clause-private c =
    none_left c.args.pass.now c.try_insert.new.pass c.answer-in-Linked.new.pass c.answer-in-Linked.ensures.hands.private
    (subst (λ (f : Option NewNodes). HasNewNodes c.args.pass.now c.try_insert.new.pass f) c.in-Linked.ensures.part.4
    (c.try_insert.ensures.has c.args.pass.now c.loop-round.invariant.has))

pub returns-in-Full-clause-private : goal.returns-in-Full-clause-private
returns-in-Full-clause-private c =
    none_left c.args.pass.now c.try_insert.new.pass c.leave-in-Full.new.pass c.leave-in-Full.ensures.hands.private
    (subst (λ (f : Option NewNodes). HasNewNodes c.args.pass.now c.try_insert.new.pass f) c.in-Full.ensures.part.6
    (c.try_insert.ensures.has c.args.pass.now c.loop-round.invariant.has))

pub loop-round-preserved : goal.loop-round-preserved
loop-round-preserved c = record {
  lost = rw add-one (
    c.loop-round.new_nodes,
    c.loop-round.pass.view.log,
    c.loop-round.invariant.lost,
    subst
        (λ (f : Fit). IsTry f c.args.shared.now.layout c.args.key c.loop-round.new_nodes c.try_insert.new.new_nodes
        c.loop-round.pass.view.log c.try_insert.new.pass.view.log attempt.Lost) c.loop-round.invariant.fit
        c.in-Lost.ensures.part,
  );
  on = goes_then c.args.pass.now c.loop-round.pass c.try_insert.new.pass c.loop-round.invariant.on
      c.try_insert.ensures.on;
  only = tries_then c.args.pass.now c.loop-round.pass c.try_insert.new.pass c.loop-round.invariant.on.same
      c.loop-round.invariant.only c.try_insert.ensures.only;
  unlinked = c.in-Lost.ensures.shows ∙ c.loop-round.invariant.unlinked;
  has = c.try_insert.ensures.has c.args.pass.now c.loop-round.invariant.has;
  first = λ none'. omega (arith, none');
  blocks = takes_fills c.args.held.now.queue c.make_room_for.new.queue c.try_insert.new.held.queue
      (takes_then c.args.held.now.queue c.loop-round.held.queue c.make_room_for.new.queue c.loop-round.invariant.blocks
      c.make_room_for.ensures.blocks) c.try_insert.ensures.fills;
  kept = c.try_insert.ensures.kept;
  fit = c.try_insert.ensures.fit ∙ c.loop-round.invariant.fit;
}

pub returns-clause-private : goal.returns-clause-private
returns-clause-private c =
    none_left c.args.pass.now c.give_back-2.new.pass c.leave-2.new.pass c.leave-2.ensures.hands.private
    (c.give_back-2.ensures.given c.args.pass.now c.loop-round.invariant.has)

pub make_room_for-requires : goal.make_room_for-requires
make_room_for-requires c = record {
  few = may_grow_more c.loop-round.pass c.loop-round.held.queue.items c.loop-round.invariant.on.run
      c.loop-round.invariant.kept.queue;
  first = c.loop-round.invariant.first;
}

pub returns-in-Found-clause-moment : goal.returns-in-Found-clause-moment
returns-in-Found-clause-moment c = λ o had.
    let call = CallIs Insert c.args.key in
    let round = no_call_on o c.args.pass.now c.loop-round.pass had c.loop-round.invariant.on.same
    c.loop-round.invariant.on.past in
    let tried = no_call_on o c.loop-round.pass c.try_insert.new.pass round c.try_insert.ensures.on.same
    c.try_insert.ensures.on.past in
    c.answer.ensures.moment o Insert c.args.key (no_call_on o c.try_insert.new.pass c.give_back_and_read.new.pass
    tried c.give_back_and_read.ensures.on.same c.give_back_and_read.ensures.on.past)
    (c.give_back_and_read.ensures.on.keeps call (c.try_insert.ensures.on.keeps call
    (c.loop-round.invariant.on.keeps call c.requires.call.call)))

pub returns-in-Linked-clause-moment : goal.returns-in-Linked-clause-moment
returns-in-Linked-clause-moment c = λ o had.
    let call = CallIs Insert c.args.key in
    let round = no_call_on o c.args.pass.now c.loop-round.pass had c.loop-round.invariant.on.same
    c.loop-round.invariant.on.past in
    c.answer-in-Linked.ensures.moment o Insert c.args.key
    (no_call_on o c.loop-round.pass c.try_insert.new.pass round c.try_insert.ensures.on.same
    c.try_insert.ensures.on.past)
    (c.try_insert.ensures.on.keeps call (c.loop-round.invariant.on.keeps call c.requires.call.call))

pub returns-then-not-make_room_for-clause-part : goal.returns-then-not-make_room_for-clause-part
returns-then-not-make_room_for-clause-part c = (
  c.loop-round.round,
  c.loop-round.new_nodes,
  c.loop-round.pass.view.log,
  c.give_back.new.pass.view.log,
  later_refused c.loop-round.round c.loop-round.held.queue c.make_room_for.new.queue c.loop-round.invariant.first
      c.make_room_for.ensures.more (c.make_room_for.ensures.refused c.if-not-make_room_for.true),
  c.loop-round-test.true,
  c.loop-round.invariant.lost,
  c.give_back.ensures.part,
  ap (λ (s : PassView). s.view.log) c.leave.ensures.took.step,
)

pub returns-then-not-make_room_for-clause-blocks : goal.returns-then-not-make_room_for-clause-blocks
returns-then-not-make_room_for-clause-blocks c = takes_then c.args.held.now.queue c.loop-round.held.queue
    c.make_room_for.new.queue c.loop-round.invariant.blocks c.make_room_for.ensures.blocks

pub returns-in-Found-clause-blocks : goal.returns-in-Found-clause-blocks
returns-in-Found-clause-blocks c = takes_fills c.args.held.now.queue c.make_room_for.new.queue
    c.try_insert.new.held.queue (takes_then c.args.held.now.queue c.loop-round.held.queue c.make_room_for.new.queue
    c.loop-round.invariant.blocks c.make_room_for.ensures.blocks) c.try_insert.ensures.fills

pub returns-in-Linked-clause-blocks : goal.returns-in-Linked-clause-blocks
returns-in-Linked-clause-blocks c = takes_fills c.args.held.now.queue c.make_room_for.new.queue
    c.try_insert.new.held.queue (takes_then c.args.held.now.queue c.loop-round.held.queue c.make_room_for.new.queue
    c.loop-round.invariant.blocks c.make_room_for.ensures.blocks) c.try_insert.ensures.fills

pub returns-in-Full-clause-blocks : goal.returns-in-Full-clause-blocks
returns-in-Full-clause-blocks c = takes_fills c.args.held.now.queue c.make_room_for.new.queue
    c.try_insert.new.held.queue (takes_then c.args.held.now.queue c.loop-round.held.queue c.make_room_for.new.queue
    c.loop-round.invariant.blocks c.make_room_for.ensures.blocks) c.try_insert.ensures.fills

pub returns-in-Full-clause-part : goal.returns-in-Full-clause-part
returns-in-Full-clause-part c =
    let h : IsTry c.args.workspace.now.placement c.args.shared.now.layout c.args.key c.loop-round.new_nodes
    c.try_insert.new.new_nodes c.loop-round.pass.view.log c.try_insert.new.pass.view.log attempt.Full =
    subst (λ (f : Fit). IsTry f c.args.shared.now.layout c.args.key c.loop-round.new_nodes c.try_insert.new.new_nodes
    c.loop-round.pass.view.log c.try_insert.new.pass.view.log attempt.Full) c.loop-round.invariant.fit
    c.in-Full.ensures.part in
    let full : IsTry c.args.workspace.now.placement c.args.shared.now.layout c.args.key c.loop-round.new_nodes None
    c.loop-round.pass.view.log c.try_insert.new.pass.view.log attempt.Full =
    (h.0, h.1, h.2, h.3, h.4, h.5, refl, h.7) in (
      c.try_insert.new.pass.view.log,
      (
        c.loop-round.round,
        c.loop-round.new_nodes,
        c.loop-round.pass.view.log,
        c.loop-round-test.true,
        c.loop-round.invariant.lost,
        full,
      ),
      ap (λ (s : PassView). s.view.log)
          c.leave-in-Full.ensures.took.step,
    )

pub returns-in-Found-clause-on : goal.returns-in-Found-clause-on
returns-in-Found-clause-on c =
    let o = c.args.pass.now in
    let back = c.give_back_and_read.new.pass in
    let tried = goes_then o c.loop-round.pass c.try_insert.new.pass c.loop-round.invariant.on c.try_insert.ensures.on in
    continued o back c.answer.new.pass (LeaveWith false) Departed
    (goes_then o c.try_insert.new.pass back tried c.give_back_and_read.ensures.on) c.answer.ensures.took

pub returns-in-Linked-clause-on : goal.returns-in-Linked-clause-on
returns-in-Linked-clause-on c =
    let o = c.args.pass.now in
    continued o c.try_insert.new.pass c.answer-in-Linked.new.pass (LeaveWith true) Departed
    (goes_then o c.loop-round.pass c.try_insert.new.pass c.loop-round.invariant.on c.try_insert.ensures.on)
    c.answer-in-Linked.ensures.took

pub returns-in-Full-clause-on : goal.returns-in-Full-clause-on
returns-in-Full-clause-on c =
    let o = c.args.pass.now in
    continued o c.try_insert.new.pass c.leave-in-Full.new.pass Leave Departed
    (goes_then o c.loop-round.pass c.try_insert.new.pass c.loop-round.invariant.on c.try_insert.ensures.on)
    c.leave-in-Full.ensures.took

pub returns-in-Found-clause-part : goal.returns-in-Found-clause-part
returns-in-Found-clause-part c =
    let h : IsTry c.args.workspace.now.placement c.args.shared.now.layout c.args.key c.loop-round.new_nodes
    c.try_insert.new.new_nodes c.loop-round.pass.view.log c.try_insert.new.pass.view.log
    (attempt.Found c.in-Found.leaf) =
    subst (λ (f : Fit). IsTry f c.args.shared.now.layout c.args.key c.loop-round.new_nodes c.try_insert.new.new_nodes
    c.loop-round.pass.view.log c.try_insert.new.pass.view.log (attempt.Found c.in-Found.leaf))
    c.loop-round.invariant.fit c.in-Found.ensures.part in (
      c.try_insert.new.new_nodes,
      c.try_insert.new.pass.view.log,
      c.give_back_and_read.new.pass.view.log,
      c.in-Found.leaf,
      (
        c.loop-round.round,
        c.loop-round.new_nodes,
        c.loop-round.pass.view.log,
        c.loop-round-test.true,
        c.loop-round.invariant.lost,
        h,
      ),
      c.give_back_and_read.ensures.part,
      ap
          (λ (s : PassView). s.view.log) c.answer.ensures.took.step,
    )

pub returns-in-Linked-clause-part : goal.returns-in-Linked-clause-part
returns-in-Linked-clause-part c =
    let h : IsTry c.args.workspace.now.placement c.args.shared.now.layout c.args.key c.loop-round.new_nodes
    c.try_insert.new.new_nodes c.loop-round.pass.view.log c.try_insert.new.pass.view.log attempt.Linked =
    subst (λ (f : Fit). IsTry f c.args.shared.now.layout c.args.key c.loop-round.new_nodes c.try_insert.new.new_nodes
    c.loop-round.pass.view.log c.try_insert.new.pass.view.log attempt.Linked) c.loop-round.invariant.fit
    c.in-Linked.ensures.part in
    let linked : IsTry c.args.workspace.now.placement c.args.shared.now.layout c.args.key c.loop-round.new_nodes None
    c.loop-round.pass.view.log c.try_insert.new.pass.view.log attempt.Linked = (h.0, h.1, h.2, h.3, refl) in (
      c.try_insert.new.pass.view.log,
      (
        c.loop-round.round,
        c.loop-round.new_nodes,
        c.loop-round.pass.view.log,
        c.loop-round-test.true,
        c.loop-round.invariant.lost,
        linked,
      ),
      ap (λ (s : PassView). s.view.log)
          c.answer-in-Linked.ensures.took.step,
    )

pub returns-then-not-make_room_for-clause-on : goal.returns-then-not-make_room_for-clause-on
returns-then-not-make_room_for-clause-on c =
    let o = c.args.pass.now in
    continued o c.give_back.new.pass c.leave.new.pass Leave Departed
    (goes_then o c.loop-round.pass c.give_back.new.pass c.loop-round.invariant.on c.give_back.ensures.on)
    c.leave.ensures.took

pub returns-clause-on : goal.returns-clause-on
returns-clause-on c =
    let o = c.args.pass.now in
    continued o c.give_back-2.new.pass c.leave-2.new.pass Leave Departed
    (goes_then o c.loop-round.pass c.give_back-2.new.pass c.loop-round.invariant.on c.give_back-2.ensures.on)
    c.leave-2.ensures.took

pub returns-then-not-make_room_for-clause-kept : goal.returns-then-not-make_room_for-clause-kept
returns-then-not-make_room_for-clause-kept c =
    let room = holds_with_room c.loop-round.pass c.loop-round.held c.make_room_for.new.queue
    c.make_room_for.ensures.items c.loop-round.invariant.kept in
    holds_left c.give_back.new.pass c.leave.new.pass _ Leave tt c.leave.ensures.took c.leave.ensures.hands
    (ap (λ (b : Brief). b.unlabelled) c.give_back.ensures.only.epochs
    ∙ (c.loop-round.invariant.only.labelled c.requires.unchanged.labelled))
    (holds_on c.loop-round.pass c.give_back.new.pass _ c.give_back.ensures.on.same c.give_back.ensures.only.ledgers
    (back_adds c.loop-round.new_nodes c.loop-round.pass.view.log c.give_back.new.pass.view.log
    c.give_back.ensures.part) room)

pub returns-in-Found-clause-kept : goal.returns-in-Found-clause-kept
returns-in-Found-clause-kept c =
    holds_left c.give_back_and_read.new.pass c.answer.new.pass _ (LeaveWith false) tt c.answer.ensures.took
    c.answer.ensures.hands (ap (λ (b : Brief). b.unlabelled) c.give_back_and_read.ensures.only.epochs
    ∙ (c.try_insert.ensures.only.labelled (c.loop-round.invariant.only.labelled c.requires.unchanged.labelled)))
    (holds_on c.try_insert.new.pass c.give_back_and_read.new.pass _ c.give_back_and_read.ensures.on.same
    c.give_back_and_read.ensures.only.ledgers (back_adds c.try_insert.new.new_nodes c.try_insert.new.pass.view.log
    c.give_back_and_read.new.pass.view.log c.give_back_and_read.ensures.part) c.try_insert.ensures.kept)

pub returns-in-Linked-clause-kept : goal.returns-in-Linked-clause-kept
returns-in-Linked-clause-kept c = holds_left c.try_insert.new.pass c.answer-in-Linked.new.pass _ (LeaveWith true) tt
    c.answer-in-Linked.ensures.took c.answer-in-Linked.ensures.hands
    (c.try_insert.ensures.only.labelled (c.loop-round.invariant.only.labelled c.requires.unchanged.labelled))
    c.try_insert.ensures.kept

pub returns-in-Full-clause-kept : goal.returns-in-Full-clause-kept
returns-in-Full-clause-kept c = holds_left c.try_insert.new.pass c.leave-in-Full.new.pass _ Leave tt
    c.leave-in-Full.ensures.took c.leave-in-Full.ensures.hands
    (c.try_insert.ensures.only.labelled (c.loop-round.invariant.only.labelled c.requires.unchanged.labelled))
    c.try_insert.ensures.kept

pub returns-clause-kept : goal.returns-clause-kept
returns-clause-kept c =
    holds_left c.give_back-2.new.pass c.leave-2.new.pass _ Leave tt c.leave-2.ensures.took c.leave-2.ensures.hands
    (ap (λ (b : Brief). b.unlabelled) c.give_back-2.ensures.only.epochs
    ∙ (c.loop-round.invariant.only.labelled c.requires.unchanged.labelled))
    (holds_on c.loop-round.pass c.give_back-2.new.pass _ c.give_back-2.ensures.on.same
    c.give_back-2.ensures.only.ledgers (back_adds c.loop-round.new_nodes c.loop-round.pass.view.log
    c.give_back-2.new.pass.view.log c.give_back-2.ensures.part) c.loop-round.invariant.kept)

pub returns-in-Linked-clause-stored : goal.returns-in-Linked-clause-stored
returns-in-Linked-clause-stored c = λ values _. inserted_then c.try_insert.new.pass c.answer-in-Linked.new.pass true
    c.args.key c.args.value (c.in-Linked.ensures.stored values refl) c.answer-in-Linked.ensures.took

pub returns-in-Linked-clause-put : goal.returns-in-Linked-clause-put
returns-in-Linked-clause-put c = λ values _.
    put_then c.args.pass.now c.try_insert.new.pass c.answer-in-Linked.new.pass (LeaveWith true) Departed c.args.key
    c.args.value
    (put_earlier c.args.pass.now c.loop-round.pass c.try_insert.new.pass c.args.key c.args.value
    c.loop-round.invariant.on.past (c.in-Linked.ensures.put values refl)) c.answer-in-Linked.ensures.took

pub give_back_and_read-requires-clause-ended : goal.give_back_and_read-requires-clause-ended
give_back_and_read-requires-clause-ended c = (c.args.key, c.in-Found.ensures.shows.0)

pub returns-in-Found-clause-finds : goal.returns-in-Found-clause-finds
returns-in-Found-clause-finds c = λ values _.
    let tried = goes_then c.args.pass.now c.loop-round.pass c.try_insert.new.pass c.loop-round.invariant.on
    c.try_insert.ensures.on in
    record {
      at = c.give_back_and_read.new.pass;
      since = goes_then c.args.pass.now c.try_insert.new.pass c.give_back_and_read.new.pass tried
          c.give_back_and_read.ensures.on;
      is_key = key_of_call c.args.pass.now c.requires.pinned.run Insert c.args.key c.requires.call.call;
      read = c.give_back_and_read.ensures.read values c.args.key c.in-Found.ensures.shows.0;
      leaves = c.answer.ensures.took;
    }
