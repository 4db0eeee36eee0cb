use Rattle.std.proofs.Common.{rules, ap, refl}
use Rattle.nm_epoch.proofs.Allowed.{may_leave}
use Rattle.nm_epoch.proofs.Left.{rests_after_leave, seen_after_leave}
use Rattle.nm_epoch.proofs.Trying.{sees, rests_on, tries_on, moved}
use Rattle.nm_epoch.specs.Tries.{LostTries, confirming, after_sight}
use Rattle.nm_steps.specs.Steps.{PassView}
use Rattle.nm_epoch.proofs.Unpinned.{rests_now}
use Rattle.nm_model.specs.declared.event.Event.TheVariants.{Sight}
use Rattle.nm_model.specs.declared.reply.Reply.TheVariants.{Saw}
use Rattle.nm_epoch.proofs.KeptHands.{hands_kept, kept_on}
use Rattle.nm_epoch.proofs.Left.{leave_keeps}
use Rattle.nm_steps.proofs.Seeing.{continues_by}
use Rattle.nm_epoch.proofs.pinning.pin_by.Goals as goal

pub sight_idle-first-requires-clause-labelled : goal.sight_idle-first-requires-clause-labelled
sight_idle-first-requires-clause-labelled c = (rests_now c.args.pass.now c.know_run.ensures.run
    c.know_run.ensures.fits c.requires.unpinned).labelled

pub returns-then-tries-eq0-clause-last : goal.returns-then-tries-eq0-clause-last
returns-then-tries-eq0-clause-last c = sees c.args.pass.now c.sight_idle-first.new.pass c.sight_idle-first.result
    c.sight_idle-first.ensures.step

pub returns-then-tries-eq0-clause-rests : goal.returns-then-tries-eq0-clause-rests
returns-then-tries-eq0-clause-rests c = rests_on c.args.pass.now c.sight_idle-first.new.pass
    c.sight_idle-first.result (rests_now c.args.pass.now c.know_run.ensures.run c.know_run.ensures.fits
    c.requires.unpinned) c.sight_idle-first.ensures.step

pub loop-round-init : goal.loop-round-init
loop-round-init c = record {
  on = continues_by _ _ _ _ c.sight_idle-first.ensures;
  tries = search rules;
  trying = tries_on c.args.pass.now c.sight_idle-first.new.pass c.sight_idle-first.result
      (rests_now c.args.pass.now c.know_run.ensures.run c.know_run.ensures.fits c.requires.unpinned)
      c.sight_idle-first.ensures.step;
  hands = hands_kept c.args.pass.now c.sight_idle-first.new.pass Sight (Saw c.sight_idle-first.result)
      c.sight_idle-first.ensures.step refl (λ _. refl);
  last = sees c.args.pass.now c.sight_idle-first.new.pass c.sight_idle-first.result c.sight_idle-first.ensures.step;
}

pub leave-requires-clause-may : goal.leave-requires-clause-may
leave-requires-clause-may c =
    let t = c.loop-round.invariant.trying in may_leave c.loop-round.pass t.labelled (ap (λ s. s.linked) t.idle)
    (ap (λ s. s.swapped) t.idle) (ap (λ s. s.flagged) t.idle)

pub returns-clause-moved : goal.returns-clause-moved
returns-clause-moved c =
    let lost : LostTries (confirming c.args.by.now) c.args.tries
    (after_sight c.args.pass.now.view.log c.sight_idle-first.result) c.loop-round.pass.view.log = search
    (rules, c.loop-round.invariant.tries) in
    moved (confirming c.args.by.now) c.args.tries c.args.pass.now.view.log c.loop-round.pass.view.log
    c.leave.new.pass.view.log c.sight_idle-first.result c.if-tries-eq0.false lost
    (ap (λ (s : PassView). s.view.log) c.leave.ensures.step)

pub returns-clause-last : goal.returns-clause-last
returns-clause-last c = seen_after_leave c.loop-round.pass c.leave.new.pass c.loop-round.epoch c.leave.ensures.step
    c.loop-round.invariant.last

pub returns-clause-rests : goal.returns-clause-rests
returns-clause-rests c = rests_after_leave c.loop-round.pass c.leave.new.pass c.leave.ensures.step
    c.loop-round.invariant.trying.labelled

pub returns-then-tries-eq0-clause-hands : goal.returns-then-tries-eq0-clause-hands
returns-then-tries-eq0-clause-hands c = hands_kept c.args.pass.now c.sight_idle-first.new.pass Sight
    (Saw c.sight_idle-first.result) c.sight_idle-first.ensures.step refl (λ _. refl)

pub returns-in-Ok-clause-hands : goal.returns-in-Ok-clause-hands
returns-in-Ok-clause-hands c = kept_on c.args.pass.now c.loop-round.pass c.attempt.new.pass
    c.loop-round.invariant.hands c.in-Ok.ensures.hands

pub returns-clause-hands : goal.returns-clause-hands
returns-clause-hands c = kept_on c.args.pass.now c.loop-round.pass c.leave.new.pass c.loop-round.invariant.hands
    (leave_keeps c.loop-round.pass c.leave.new.pass c.leave.ensures.step)
