use Rattle.std.proofs.Common.{rules, refl, ap}
use Rattle.nm_steps.proofs.Seeing.{seen_all}
use Rattle.nm_model.specs.Searches.{Search}
use Rattle.nm_calls.specs.Moments.{HadNoCall}
use Rattle.nm_calls.proofs.Moments.{none_begun}
use Rattle.nm_calls.proofs.Removals.{delete_did, lacks_room}
use Rattle.nm_model.specs.declared.event.Op.TheVariants.{Delete}
use Rattle.nm_calls.proofs.Adding.{has_won, pin_adds, moved_adds}
use Rattle.nm_calls.proofs.AddingDeletes.{delete_wins, delete_steps}
use Rattle.nm_walks.proofs.KeptLedgers.{holds_on}
use Rattle.nm_calls.proofs.KeptLedgers.{holds_with_room}
use Rattle.nm_calls.proofs.Rooms.{takes_then}
use Rattle.nm_calls.proofs.Waiting.{may_grow_more, few_in_table}
use Rattle.nm_calls.proofs.TakenValues.{if_taken}
use Rattle.nm_calls.proofs.deleting.delete.Goals as goal

pub returns-clause-after : goal.returns-clause-after
returns-clause-after c =
    let L = c.args.shared.now.layout in
    let old = c.args.pass.now.view.log in
    let a = c.pin_for.new.pass.view.log in
    let new = c.delete_pinned.new.pass.view.log in
    let part = c.delete_pinned.ensures.part in
    record {
      same = search rules;
      past = search (rules, seen_all);
      did = delete_did L c.args.tries c.args.key old new c.delete_pinned.result
          (a, c.in-Ok._epoch, c.in-Ok.ensures.pinned, part);
      moment = (
          let pinned : HadNoCall c.args.pass.now c.pin_for.new.pass =
          record {
            same = c.pin_for.ensures.on.same;
            past = c.pin_for.ensures.on.past;
            call = none_begun
                c.args.pass.now c.know_run.ensures.seen c.know_run.ensures.fits
                (ap (λ (s : Search). s.call) c.requires.rests.idle);
          } in
          c.delete_pinned.ensures.moment c.args.pass.now pinned
          );
      won = delete_wins L c.args.tries c.args.key old a new c.in-Ok._epoch c.in-Ok.ensures.pinned
          c.delete_pinned.result part;
      steps = delete_steps L c.args.tries c.args.key old a new c.in-Ok._epoch c.in-Ok.ensures.pinned
          c.delete_pinned.result part;
      run = search rules;
      stands = search rules;
      private = search rules;
      ledgers = search rules;
    }

pub returns-in_default-clause-after : goal.returns-in_default-clause-after
returns-in_default-clause-after c = record {
  same = search rules;
  past = search (rules, seen_all);
  did = search rules;
  moment = search rules;
  won = has_won _ _ (moved_adds Delete c.args.key c.args.tries c.args.pass.now.view.log c.pin_for.new.pass.view.log
      c.in_default.ensures.moved);
  steps = search rules;
  run = search rules;
  stands = search rules;
  private = search rules;
  ledgers = search rules;
}

pub returns-in_default-clause-kept : goal.returns-in_default-clause-kept
returns-in_default-clause-kept c = holds_on _ _ _ c.pin_for.ensures.on.same
    (c.pin_for.ensures.hands.ledgers c.requires.rests.labelled)
    (moved_adds Delete c.args.key c.args.tries c.args.pass.now.view.log c.pin_for.new.pass.view.log
    c.in_default.ensures.moved) (holds_with_room _ _ _ c.make_room.ensures.items c.requires.kept)

pub delete_pinned-requires-clause-kept : goal.delete_pinned-requires-clause-kept
delete_pinned-requires-clause-kept c = holds_on _ _ _ c.pin_for.ensures.on.same
    (c.pin_for.ensures.hands.ledgers c.requires.rests.labelled)
    (pin_adds Delete c.args.key c.args.tries c.args.pass.now.view.log c.pin_for.new.pass.view.log c.in-Ok._epoch
    c.in-Ok.ensures.pinned) (holds_with_room _ _ _ c.make_room.ensures.items c.requires.kept)

pub make_room-requires : goal.make_room-requires
make_room-requires c = record {
  few = may_grow_more c.args.pass.now c.args.held.now.queue.items
      (record { fits = c.know_run.ensures.fits; run = c.know_run.ensures.run }) c.requires.kept.queue;
}

pub returns-clause-refused : goal.returns-clause-refused
returns-clause-refused c =
    let a = c.pin_for.new.pass.view.log in
    let new = c.delete_pinned.new.pass.view.log in
    lacks_room c.args.shared.now.layout c.args.tries c.args.key c.args.pass.now.view.log a new c.in-Ok._epoch
    c.delete_pinned.new.held.queue.spare c.delete_pinned.result c.in-Ok.ensures.pinned
    c.delete_pinned.ensures.refused

pub returns-clause-blocks : goal.returns-clause-blocks
returns-clause-blocks c = takes_then c.args.held.now.queue c.make_room.new.queue c.delete_pinned.new.held.queue
    c.make_room.ensures.blocks c.delete_pinned.ensures.blocks

pub returns-then-tries-eq0-clause-few : goal.returns-then-tries-eq0-clause-few
returns-then-tries-eq0-clause-few c = few_in_table c.args.shared.now c.args.pass.now c.args.pass.now c.args.held.now
    c.requires.own refl (record { fits = c.know_run.ensures.fits; run = c.know_run.ensures.run }) c.requires.kept

pub returns-then-not-make_room-clause-few : goal.returns-then-not-make_room-clause-few
returns-then-not-make_room-clause-few c = rw c.make_room.ensures.items
    (few_in_table c.args.shared.now c.args.pass.now c.args.pass.now c.args.held.now c.requires.own refl
    (record { fits = c.know_run.ensures.fits; run = c.know_run.ensures.run }) c.requires.kept)

pub returns-in_default-clause-few : goal.returns-in_default-clause-few
returns-in_default-clause-few c = rw c.make_room.ensures.items
    (few_in_table c.args.shared.now c.args.pass.now c.args.pass.now c.args.held.now c.requires.own refl
    (record { fits = c.know_run.ensures.fits; run = c.know_run.ensures.run }) c.requires.kept)

pub returns-clause-few : goal.returns-clause-few
returns-clause-few c = few_in_table c.args.shared.now c.args.pass.now c.delete_pinned.new.pass
    c.delete_pinned.new.held c.requires.own (search rules) c.delete_pinned.ensures.on.run c.delete_pinned.ensures.kept

pub returns-clause-taken : goal.returns-clause-taken
returns-clause-taken c = λ values.
    if_taken c.args.pass.now c.pin_for.new.pass c.delete_pinned.new.pass c.args.key c.delete_pinned.new.value
    c.know_run.ensures.seen c.know_run.ensures.fits (ap (λ (s : Search). s.call) c.requires.rests.idle)
    c.pin_for.ensures.on c.delete_pinned.result (c.delete_pinned.ensures.read values)
