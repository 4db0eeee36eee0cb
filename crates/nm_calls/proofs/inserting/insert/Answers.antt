use Rattle.std.proofs.Common.{rules, refl, ap}
use Rattle.nm_model.specs.declared.event.Op.TheVariants.{Insert}
use Rattle.nm_steps.proofs.Seeing.{seen_all}
use Rattle.nm_model.specs.Searches.{Search}
use Rattle.nm_calls.specs.Moments.{HadNoCall}
use Rattle.nm_calls.proofs.Moments.{none_begun}
use Rattle.nm_calls.proofs.Adding.{has_won, pin_adds, moved_adds}
use Rattle.nm_calls.proofs.AddingInserts.{insert_did, insert_wins, insert_steps}
use Rattle.nm_walks.proofs.KeptLedgers.{holds_on}
use Rattle.nm_calls.proofs.KeptLedgers.{holds_with_room}
use Rattle.nm_calls.proofs.Rooms.{takes_then}
use Rattle.nm_calls.proofs.Waiting.{may_grow_more, few_in_table}
use Rattle.nm_calls.proofs.FoundValues.{found_was}
use Rattle.nm_calls.proofs.MadeLeaves.{put_earlier}
use Rattle.nm_calls.proofs.inserting.insert.Goals as goal

pub returns-clause-after : goal.returns-clause-after
returns-clause-after c =
    let L = c.args.shared.now.layout in
    let old = c.args.pass.now.view.log in
    let a = c.pin_for.new.pass.view.log in
    let new = c.insert_pinned.new.pass.view.log in
    let part = c.insert_pinned.ensures.part in
    record {
      same = search rules;
      past = search (rules, seen_all);
      did = insert_did c.args.workspace.now.placement L c.args.tries c.args.key old new c.insert_pinned.result
          (a, c.in-Ok._epoch, c.in-Ok.ensures.pinned, part);
      moment = (
          let pinned : HadNoCall c.args.pass.now c.pin_for.new.pass =
          record {
            same = c.pin_for.ensures.on.same;
            past = c.pin_for.ensures.on.past;
            call = none_begun
                c.args.pass.now c.know_run.ensures.seen c.know_run.ensures.fits
                (ap (λ (s : Search). s.call) c.requires.rests.idle);
          } in
          c.insert_pinned.ensures.moment c.args.pass.now pinned
          );
      won = insert_wins c.args.workspace.now.placement L c.args.tries c.args.key old a new c.in-Ok._epoch
          c.in-Ok.ensures.pinned c.insert_pinned.result part;
      steps = insert_steps c.args.workspace.now.placement L c.args.tries c.args.key old a new c.in-Ok._epoch
          c.in-Ok.ensures.pinned c.insert_pinned.result part;
      run = search rules;
      rests = search rules;
      private = search rules;
      ledgers = search rules;
    }

pub returns-in_default-clause-after : goal.returns-in_default-clause-after
returns-in_default-clause-after c = record {
  same = search rules;
  past = search (rules, seen_all);
  did = search rules;
  moment = search rules;
  won = has_won _ _ (moved_adds Insert c.args.key c.args.tries c.args.pass.now.view.log c.pin_for.new.pass.view.log
      c.in_default.ensures.moved);
  steps = search rules;
  run = search rules;
  rests = search rules;
  private = search rules;
  ledgers = search rules;
}

pub returns-in_default-clause-kept : goal.returns-in_default-clause-kept
returns-in_default-clause-kept c = holds_on _ _ _ c.pin_for.ensures.on.same
    (c.pin_for.ensures.hands.ledgers c.requires.rests.labelled)
    (moved_adds Insert c.args.key c.args.tries c.args.pass.now.view.log c.pin_for.new.pass.view.log
    c.in_default.ensures.moved) (holds_with_room _ _ _ c.make_room.ensures.items c.requires.kept)

pub insert_pinned-requires-clause-kept : goal.insert_pinned-requires-clause-kept
insert_pinned-requires-clause-kept c = holds_on _ _ _ c.pin_for.ensures.on.same
    (c.pin_for.ensures.hands.ledgers c.requires.rests.labelled)
    (pin_adds Insert c.args.key c.args.tries c.args.pass.now.view.log c.pin_for.new.pass.view.log c.in-Ok._epoch
    c.in-Ok.ensures.pinned) (holds_with_room _ _ _ c.make_room.ensures.items c.requires.kept)

pub make_room-requires : goal.make_room-requires
make_room-requires c = record {
  few = may_grow_more c.args.pass.now c.args.held.now.queue.items
      (record { fits = c.know_run.ensures.fits; run = c.know_run.ensures.run }) c.requires.kept.queue;
}

pub returns-clause-blocks : goal.returns-clause-blocks
returns-clause-blocks c = takes_then c.args.held.now.queue c.make_room.new.queue c.insert_pinned.new.held.queue
    c.make_room.ensures.blocks c.insert_pinned.ensures.blocks

pub returns-then-tries-eq0-clause-few : goal.returns-then-tries-eq0-clause-few
returns-then-tries-eq0-clause-few c = few_in_table c.args.shared.now c.args.pass.now c.args.pass.now c.args.held.now
    c.requires.own refl (record { fits = c.know_run.ensures.fits; run = c.know_run.ensures.run }) c.requires.kept

pub returns-then-not-make_room-clause-few : goal.returns-then-not-make_room-clause-few
returns-then-not-make_room-clause-few c = rw c.make_room.ensures.items
    (few_in_table c.args.shared.now c.args.pass.now c.args.pass.now c.args.held.now c.requires.own refl
    (record { fits = c.know_run.ensures.fits; run = c.know_run.ensures.run }) c.requires.kept)

pub returns-in_default-clause-few : goal.returns-in_default-clause-few
returns-in_default-clause-few c = rw c.make_room.ensures.items
    (few_in_table c.args.shared.now c.args.pass.now c.args.pass.now c.args.held.now c.requires.own refl
    (record { fits = c.know_run.ensures.fits; run = c.know_run.ensures.run }) c.requires.kept)

pub returns-clause-few : goal.returns-clause-few
returns-clause-few c = few_in_table c.args.shared.now c.args.pass.now c.insert_pinned.new.pass
    c.insert_pinned.new.held c.requires.own (search rules) c.insert_pinned.ensures.on.run c.insert_pinned.ensures.kept

pub returns-clause-put : goal.returns-clause-put
returns-clause-put c = λ values is. put_earlier c.args.pass.now c.pin_for.new.pass c.insert_pinned.new.pass
    c.args.key c.args.value c.pin_for.ensures.on.past (c.insert_pinned.ensures.put values is)

pub returns-clause-finds : goal.returns-clause-finds
returns-clause-finds c = λ values is.
    found_was c.args.pass.now c.pin_for.new.pass c.insert_pinned.new.pass c.know_run.ensures.seen
    c.know_run.ensures.fits c.requires.rests.unpinned c.pin_for.ensures.on c.args.key
    c.insert_pinned.new.workspace.found (c.insert_pinned.ensures.finds values is)
