use Rattle.std.proofs.Common.{rules, inr, refl, ap, ◌∙◌}
use Rattle.std.specs.Prelude.{Result}
use Rattle.nm_model.specs.declared.event.Op.TheVariants.{Delete}
use Rattle.nm_model.specs.Searches.{Search}
use Rattle.nm_steps.proofs.Seeing.{same_then, seen_all, seen_through}
use Rattle.nm_walks.proofs.KeptLedgers.{holds_on}
use Rattle.nm_calls.specs.declared.deleting.Deletion.{Deletion}
use Rattle.nm_calls.specs.declared.fault.CallFault.{CallFault}
use Rattle.nm_calls.specs.Deletes.{AfterDelete, DeleteFinishes, IfDone, IfTaken, RestsOrRemoves}
use Rattle.nm_calls.specs.Maps.{HasReadFlagged, HasTaken}
use Rattle.nm_calls.specs.Moments.{AnswerHasMoment, HadNoCall}
use Rattle.nm_calls.proofs.Adding.{has_won, moved_adds, pin_adds}
use Rattle.nm_calls.proofs.AddingDeletes.{delete_steps, delete_wins}
use Rattle.nm_calls.proofs.KeptLedgers.{holds_with_room}
use Rattle.nm_calls.proofs.Moments.{none_begun}
use Rattle.nm_calls.proofs.Removals.{delete_did}
use Rattle.nm_calls.proofs.TakenValues.{if_taken}
use Rattle.nm_calls.proofs.Waiting.{few_in_table, may_grow_more}
use Rattle.nm_puts.specs.Removing.{AfterOther, FoundOther}
use Rattle.nm_puts.proofs.EndedPuts.{ledgers_in_call}
use Rattle.nm_puts.proofs.FoundOthers.{as_both, as_if, if_other, other_steps, other_was, other_wins}
use Rattle.nm_puts.proofs.removing.delete_if.Goals as goal

pub make_room-requires : goal.make_room-requires
make_room-requires c = record {
  few = may_grow_more c.args.pass.now c.args.held.now.queue.items
      (record { fits = c.know_run.ensures.fits; run = c.know_run.ensures.run }) c.requires.kept.queue;
}

pub delete_if_pinned-requires-clause-kept : goal.delete_if_pinned-requires-clause-kept
delete_if_pinned-requires-clause-kept c = holds_on _ _ _ c.pin_for.ensures.on.same
    (c.pin_for.ensures.hands.ledgers c.requires.rests.labelled)
    (pin_adds Delete c.args.key c.args.tries c.args.pass.now.view.log c.pin_for.new.pass.view.log c.in-Ok._epoch
    c.in-Ok.ensures.pinned) (holds_with_room _ _ _ c.make_room.ensures.items c.requires.kept)

-- ---- the tries were made

pub returns-clause-after : goal.returns-clause-after
returns-clause-after c =
    let L = c.args.shared.now.layout in
    let k = c.args.key in
    let tries = c.args.tries in
    let o = c.args.pass.now in
    let a = c.pin_for.new.pass in
    let q = c.delete_if_pinned.new.pass in
    let r = c.delete_if_pinned.result in
    let epoch = c.in-Ok._epoch in
    let pin = c.in-Ok.ensures.pinned in
    let pinned : HadNoCall o a = record {
      same = c.pin_for.ensures.on.same;
      past = c.pin_for.ensures.on.past;
      call = none_begun o c.know_run.ensures.seen c.know_run.ensures.fits
          (ap (λ (s : Search). s.call) c.requires.rests.idle);
    } in
    let Part : Result Deletion CallFault → Type 0 = DeleteFinishes L tries k a.view.log q.view.log in
    let Moment : Result Deletion CallFault → Type 0 = λ d. IfDone d (AnswerHasMoment o q Delete k) in
    let Stands : Result Deletion CallFault → Type 0 = RestsOrRemoves k q in
    as_if (λ d. Part d × (Moment d × Stands d)) (AfterDelete L tries k o q) r
    (λ d h. record {
      same = same_then o a q c.pin_for.ensures.on.same c.delete_if_pinned.ensures.on.same;
      past = seen_through o a q c.pin_for.ensures.on.past c.delete_if_pinned.ensures.on.past;
      did = delete_did L tries k o.view.log q.view.log d (a.view.log, epoch, pin, h.0);
      moment = h.1.0;
      won = delete_wins L tries k o.view.log a.view.log q.view.log epoch pin d h.0;
      steps = delete_steps L tries k o.view.log a.view.log q.view.log epoch pin d h.0;
      run = inr c.delete_if_pinned.ensures.on.run;
      stands = h.1.1;
      private = c.delete_if_pinned.ensures.private ∙ c.pin_for.ensures.hands.private;
      ledgers = ledgers_in_call o a q c.pin_for.ensures.on.same c.pin_for.ensures.hands c.requires.rests.labelled
          c.delete_if_pinned.ensures.ledgers;
    })
    (as_both Part (λ d. Moment d × Stands d) r c.delete_if_pinned.ensures.part
    (as_both Moment Stands r (c.delete_if_pinned.ensures.moment o pinned) c.delete_if_pinned.ensures.stands))

pub returns-clause-taken : goal.returns-clause-taken
returns-clause-taken c =
    let o = c.args.pass.now in
    let a = c.pin_for.new.pass in
    let q = c.delete_if_pinned.new.pass in
    let k = c.args.key in
    let v = c.args.expected in
    as_if (λ d. IfTaken d (HasReadFlagged a q k v)) (λ d. IfTaken d (HasTaken o q k v)) c.delete_if_pinned.result
    (λ d h. if_taken o a q k v c.know_run.ensures.seen c.know_run.ensures.fits
    (ap (λ (s : Search). s.call) c.requires.rests.idle) c.pin_for.ensures.on d h) c.delete_if_pinned.ensures.read

pub returns-clause-other : goal.returns-clause-other
returns-clause-other c =
    let L = c.args.shared.now.layout in
    let k = c.args.key in
    let v = c.args.expected in
    let tries = c.args.tries in
    let o = c.args.pass.now in
    let a = c.pin_for.new.pass in
    let q = c.delete_if_pinned.new.pass in
    let epoch = c.in-Ok._epoch in
    let pin = c.in-Ok.ensures.pinned in
    if_other (FoundOther L tries k v a q) (AfterOther L tries k v o q) c.delete_if_pinned.result
    (λ found h. record {
      same = same_then o a q c.pin_for.ensures.on.same c.delete_if_pinned.ensures.on.same;
      past = seen_through o a q c.pin_for.ensures.on.past c.delete_if_pinned.ensures.on.past;
      other = h.other;
      map = other_was o a q c.know_run.ensures.seen c.know_run.ensures.fits c.requires.rests.unpinned
          c.pin_for.ensures.on k found h.read;
      did = (a.view.log, epoch, h.ended, pin, h.finds, h.leaves);
      won = other_wins L tries k o.view.log a.view.log h.ended q.view.log epoch pin h.finds h.leaves;
      steps = other_steps L tries k o.view.log a.view.log h.ended q.view.log epoch pin h.finds h.leaves;
      run = c.delete_if_pinned.ensures.on.run;
      rests = h.rests;
      private = c.delete_if_pinned.ensures.private ∙ c.pin_for.ensures.hands.private;
      ledgers = ledgers_in_call o a q c.pin_for.ensures.on.same c.pin_for.ensures.hands c.requires.rests.labelled
          c.delete_if_pinned.ensures.ledgers;
    }) c.delete_if_pinned.ensures.other

pub returns-clause-few : goal.returns-clause-few
returns-clause-few c = few_in_table c.args.shared.now c.args.pass.now c.delete_if_pinned.new.pass
    c.delete_if_pinned.new.held c.requires.own (same_then c.args.pass.now c.pin_for.new.pass
    c.delete_if_pinned.new.pass c.pin_for.ensures.on.same c.delete_if_pinned.ensures.on.same)
    c.delete_if_pinned.ensures.on.run c.delete_if_pinned.ensures.kept

-- ---- there was no try, or no room

pub returns-then-tries-eq0-clause-few : goal.returns-then-tries-eq0-clause-few
returns-then-tries-eq0-clause-few c = few_in_table c.args.shared.now c.args.pass.now c.args.pass.now c.args.held.now
    c.requires.own refl (record { fits = c.know_run.ensures.fits; run = c.know_run.ensures.run }) c.requires.kept

pub returns-then-not-make_room-clause-few : goal.returns-then-not-make_room-clause-few
returns-then-not-make_room-clause-few c = rw c.make_room.ensures.items
    (few_in_table c.args.shared.now c.args.pass.now c.args.pass.now c.args.held.now c.requires.own refl
    (record { fits = c.know_run.ensures.fits; run = c.know_run.ensures.run }) c.requires.kept)

-- ---- the pin was lost

pub returns-in_default-clause-after : goal.returns-in_default-clause-after
returns-in_default-clause-after c = record {
  same = search rules;
  past = search (rules, seen_all);
  did = search rules;
  moment = search rules;
  won = has_won _ _ (moved_adds Delete c.args.key c.args.tries c.args.pass.now.view.log c.pin_for.new.pass.view.log
      c.in_default.ensures.moved);
  steps = search rules;
  run = search rules;
  stands = search rules;
  private = search rules;
  ledgers = search rules;
}

pub returns-in_default-clause-kept : goal.returns-in_default-clause-kept
returns-in_default-clause-kept c = holds_on _ _ _ c.pin_for.ensures.on.same
    (c.pin_for.ensures.hands.ledgers c.requires.rests.labelled)
    (moved_adds Delete c.args.key c.args.tries c.args.pass.now.view.log c.pin_for.new.pass.view.log
    c.in_default.ensures.moved) (holds_with_room _ _ _ c.make_room.ensures.items c.requires.kept)

pub returns-in_default-clause-few : goal.returns-in_default-clause-few
returns-in_default-clause-few c = rw c.make_room.ensures.items
    (few_in_table c.args.shared.now c.args.pass.now c.args.pass.now c.args.held.now c.requires.own refl
    (record { fits = c.know_run.ensures.fits; run = c.know_run.ensures.run }) c.requires.kept)
