use Rattle.std.proofs.Common.{◌+◌, ◌*◌, inl, inr, refl, ap, arith}
use Rattle.nm_model.specs.declared.event.Op.TheVariants.{Insert}
use Rattle.nm_model.specs.Maps.{get}
use Rattle.nm_model.specs.Searches.{Search}
use Rattle.nm_steps.proofs.Seeing.{same_then, seen_through}
use Rattle.nm_walks.proofs.KeptLedgers.{holds_on}
use Rattle.nm_calls.specs.Moments.{HadNoCall}
use Rattle.nm_calls.proofs.Adding.{has_won, moved_adds, pin_adds}
use Rattle.nm_calls.proofs.KeptLedgers.{holds_with_room}
use Rattle.nm_calls.proofs.Moments.{none_begun}
use Rattle.nm_calls.proofs.Rooms.{takes_then}
use Rattle.nm_calls.proofs.Waiting.{few_in_table, may_grow_more}
use Rattle.nm_puts.proofs.AddingPuts.{put_did, put_steps, put_wins, within_puts}
use Rattle.nm_puts.proofs.EndedPuts.{if_did, ledgers_in_call, private_in_call}
use Rattle.nm_puts.proofs.TriedPuts.{same_ledgers}
use Rattle.nm_puts.proofs.putting.put.Goals as goal

pub make_room-requires : goal.make_room-requires
make_room-requires c = record {
  few = may_grow_more c.args.pass.now c.args.held.now.queue.items
      (record { fits = c.know_run.ensures.fits; run = c.know_run.ensures.run }) c.requires.kept.queue;
}

pub put_pinned-requires-clause-kept : goal.put_pinned-requires-clause-kept
put_pinned-requires-clause-kept c =
    holds_on _ _ _ c.pin_for.ensures.on.same (c.pin_for.ensures.hands.ledgers c.requires.rests.labelled)
    (pin_adds Insert c.args.key c.args.tries c.args.pass.now.view.log c.pin_for.new.pass.view.log c.in-Ok._epoch
    c.in-Ok.ensures.pinned)
    (holds_with_room _ _ _ c.make_room.ensures.items c.requires.kept)

pub returns-clause-after : goal.returns-clause-after
returns-clause-after c =
    let o = c.args.pass.now in
    let a = c.pin_for.new.pass in
    let q = c.put_pinned.new.pass in
    let fit = c.args.workspace.now.placement in
    let L = c.args.shared.now.layout in
    let r = c.put_pinned.result in
    let part = c.put_pinned.ensures.part in
    let pin = c.in-Ok.ensures.pinned in
    record {
      same = same_then o a q c.pin_for.ensures.on.same c.put_pinned.ensures.on.same;
      past = seen_through o a q c.pin_for.ensures.on.past c.put_pinned.ensures.on.past;
      did = put_did fit L c.args.tries c.args.condition c.args.key o.view.log q.view.log r
          (a.view.log, c.in-Ok._epoch, pin, part);
      map = if_did c.args.condition c.args.key c.args.value o a q r c.know_run.ensures.seen c.know_run.ensures.fits
          c.requires.rests.unpinned
          c.pin_for.ensures.on c.put_pinned.ensures.does;
      moment = (
          let pinned : HadNoCall o a = record {
            same = c.pin_for.ensures.on.same;
            past = c.pin_for.ensures.on.past;
            call = none_begun o c.know_run.ensures.seen c.know_run.ensures.fits
                (ap (λ (s : Search). s.call) c.requires.rests.idle);
          } in
          c.put_pinned.ensures.moment o pinned
          );
      won = put_wins fit L c.args.tries c.args.condition c.args.key o.view.log a.view.log q.view.log
          c.in-Ok._epoch pin r part;
      steps = put_steps fit L c.args.tries c.args.condition c.args.key o.view.log a.view.log q.view.log
          c.in-Ok._epoch pin r part;
      run = inr c.put_pinned.ensures.on.run;
      rests = c.put_pinned.ensures.rests;
      private = private_in_call o a q c.pin_for.ensures.hands c.put_pinned.ensures.private;
      ledgers = ledgers_in_call o a q c.pin_for.ensures.on.same c.pin_for.ensures.hands c.requires.rests.labelled
          c.put_pinned.ensures.ledgers;
    }

pub returns-clause-few : goal.returns-clause-few
returns-clause-few c =
    few_in_table c.args.shared.now c.args.pass.now c.put_pinned.new.pass c.put_pinned.new.held c.requires.own
    (same_then c.args.pass.now c.pin_for.new.pass c.put_pinned.new.pass c.pin_for.ensures.on.same
    c.put_pinned.ensures.on.same)
    c.put_pinned.ensures.on.run c.put_pinned.ensures.kept

pub returns-clause-blocks : goal.returns-clause-blocks
returns-clause-blocks c = takes_then c.args.held.now.queue c.make_room.new.queue c.put_pinned.new.held.queue
    c.make_room.ensures.blocks c.put_pinned.ensures.blocks

-- ---- there was no try, or no room

pub returns-then-tries-eq0-clause-few : goal.returns-then-tries-eq0-clause-few
returns-then-tries-eq0-clause-few c =
    few_in_table c.args.shared.now c.args.pass.now c.args.pass.now c.args.held.now c.requires.own refl
    (record { fits = c.know_run.ensures.fits; run = c.know_run.ensures.run }) c.requires.kept

pub returns-then-not-make_room-clause-few : goal.returns-then-not-make_room-clause-few
returns-then-not-make_room-clause-few c =
    rw c.make_room.ensures.items
    (few_in_table c.args.shared.now c.args.pass.now c.args.pass.now c.args.held.now c.requires.own refl
    (record { fits = c.know_run.ensures.fits; run = c.know_run.ensures.run }) c.requires.kept)

-- ---- the pin was lost

pub returns-in_default-clause-few : goal.returns-in_default-clause-few
returns-in_default-clause-few c =
    rw c.make_room.ensures.items
    (few_in_table c.args.shared.now c.args.pass.now c.args.pass.now c.args.held.now c.requires.own refl
    (record { fits = c.know_run.ensures.fits; run = c.know_run.ensures.run }) c.requires.kept)

pub returns-in_default-clause-kept : goal.returns-in_default-clause-kept
returns-in_default-clause-kept c =
    holds_on _ _ _ c.pin_for.ensures.on.same (c.pin_for.ensures.hands.ledgers c.requires.rests.labelled)
    (moved_adds Insert c.args.key c.args.tries c.args.pass.now.view.log c.pin_for.new.pass.view.log
    c.in_default.ensures.moved)
    (holds_with_room _ _ _ c.make_room.ensures.items c.requires.kept)

pub returns-in_default-clause-after : goal.returns-in_default-clause-after
returns-in_default-clause-after c =
    let o = c.args.pass.now in
    let a = c.pin_for.new.pass in
    let adds = moved_adds Insert c.args.key c.args.tries o.view.log a.view.log c.in_default.ensures.moved in
    record {
      same = c.pin_for.ensures.on.same;
      past = c.pin_for.ensures.on.past;
      did = inr (inl (c.if-tries-eq0.false, c.in_default.ensures.moved));
      map = tt;
      moment = tt;
      won = has_won _ _ adds;
      steps = within_puts c.args.shared.now.layout c.args.tries
          (2 * c.args.tries + 2) o.view.log a.view.log adds.steps (omega arith);
      run = inr c.pin_for.ensures.on.run;
      rests = c.in_default.ensures.rests;
      private = λ s. ap (λ m. get m s) c.pin_for.ensures.hands.private;
      ledgers = same_ledgers o a (c.pin_for.ensures.hands.ledgers c.requires.rests.labelled);
    }
