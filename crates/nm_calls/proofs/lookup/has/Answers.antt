use Rattle.std.proofs.Common.{rules, ◌≡◌, ◌+◌, ◌*◌, length, nat_eq, refl, ap, subst, ◌∙◌, arith}
use Rattle.std.proofs.Math.Nat.{mul-le-mul_right}
use Rattle.std.specs.Prelude.{Some}
use Rattle.nm_model.specs.declared.knowledge.Brief.{Brief}
use Rattle.nm_model.specs.declared.event.Op.TheVariants.{Has}
use Rattle.nm_model.specs.Searches.{Search}
use Rattle.nm_order.specs.Facts.Fact.{KnowsSlot, CallIs}
use Rattle.nm_order.specs.Facts.Since.{ThePin}
use Rattle.nm_steps.specs.Steps.{PassView}
use Rattle.nm_epoch.proofs.Allowed.{may_leave}
use Rattle.nm_steps.proofs.Seeing.{seen_all}
use Rattle.nm_walks.proofs.GoingOn.{only_then, pinned_in_still}
use Rattle.nm_calls.proofs.LookUps.{is_pinned, knows_second, call_is, shows_found, missed}
use Rattle.nm_walks.proofs.Adding.{adds_then, adds_these}
use Rattle.nm_calls.proofs.Adding.{most, has_won, cuts_none, within_call, mul_below, pin_adds, moved_adds, lost_walks_add, finds_adds}
use Rattle.nm_walks.specs.Bounds.{reach}
use Rattle.nm_calls.specs.Moments.{HadNoCall}
use Rattle.nm_walks.specs.Walks.{Finds}
use Rattle.nm_calls.proofs.Moments.{no_call_on, none_begun}
use Rattle.nm_calls.proofs.lookup.has.Goals as goal

pub find-requires-clause-pinned : goal.find-requires-clause-pinned
find-requires-clause-pinned c = pinned_in_still c.args.shared.now c.pin_for.new.pass c.loop-walk.pass
    c.loop-walk.invariant.on
    (record {
      own = search rules;
      run = search rules;
      pin = is_pinned c.pin_for.new.pass c.in-Ok._epoch Has
          c.args.key c.in-Ok.ensures.at;
    })

pub find-requires-clause-known : goal.find-requires-clause-known
find-requires-clause-known c = c.loop-walk.invariant.on.keeps (KnowsSlot 2)
    (knows_second c.pin_for.new.pass c.in-Ok._epoch Has c.args.key c.in-Ok.ensures.at)

pub answer-requires-clause-labelled : goal.answer-requires-clause-labelled
answer-requires-clause-labelled c =
    let only = only_then c.pin_for.new.pass c.loop-walk.pass c.find.new.pass c.loop-walk.invariant.only
    c.in-Some.ensures.only in
    ap (λ (b : Brief). b.unlabelled) only.epochs ∙ c.in-Ok.ensures.at.labelled

pub answer-requires-clause-shown : goal.answer-requires-clause-shown
answer-requires-clause-shown c =
    let found = c.in-Some.ensures.found in
    let call = c.loop-walk.invariant.on.keeps (CallIs Has c.args.key)
    (call_is c.pin_for.new.pass c.in-Ok._epoch Has c.args.key c.in-Ok.ensures.at) in
    shows_found c.find.new.pass c.args.key c.in-Some.found found.0 found.1 found.2 _
    (c.in-Some.ensures.on.keeps (CallIs Has c.args.key) call)
    (rw (← c.get.ensures.number) (found.3 ThePin (Has, rw c.get.ensures.number call)))
    (rw c.get-in-Some.ensures.number refl)

pub unpin-requires-clause-may : goal.unpin-requires-clause-may
unpin-requires-clause-may c =
    let at = c.in-Ok.ensures.at in
    let only = c.loop-walk.invariant.only in
    may_leave c.loop-walk.pass (ap (λ (b : Brief). b.unlabelled) only.epochs ∙ at.labelled)
    (only.linked ∙ ap (λ (s : Search). s.linked) at.begun)
    (only.swapped ∙ ap (λ (s : Search). s.swapped) at.begun)
    (only.flagged ∙ ap (λ (s : Search). s.flagged) at.begun)

pub returns : goal.returns
returns c =
    let L = c.args.shared.now.layout in
    let tries = c.args.tries in
    let old = c.args.pass.now.view.log in
    let a = c.pin_for.new.pass.view.log in
    let p = c.loop-walk.pass.view.log in
    let new = c.unpin.new.pass.view.log in
    let left = ap (λ (s : PassView). s.view.log) c.unpin.ensures.took.step in
    let pin = pin_adds Has c.args.key tries old a c.in-Ok._epoch c.in-Ok.ensures.pinned in
    let lost = lost_walks_add L c.args.key c.loop-walk._walk a p c.loop-walk.invariant.lost in
    let last = adds_these _ p new left in
    let added = adds_then old a new pin (adds_then a p new lost last) in
    record {
      same = search rules;
      past = search (rules, seen_all);
      did = search rules;
      moment = search rules;
      busy = search rules;
      missed = (
          let past = c.loop-walk-test.false in
          let within = c.loop-walk.auto._walk-end in
          let all : c.loop-walk._walk ≡ tries = omega (arith, past, within) in
          missed L tries c.args.key old a p new c.in-Ok._epoch c.if-tries-eq0.false c.in-Ok.ensures.pinned
          (rw (← all) c.loop-walk.invariant.lost) left
          );
      won = has_won old new added;
      uncut = cuts_none old new added;
      steps = (
          let pin_steps = pin.steps in
          let lost_steps = lost.steps in
          let last_steps = last.steps in
          let few = mul-le-mul_right (most (reach L)) c.loop-walk.auto._walk-end in
          within_call L tries (length old) (length new) (2 * tries + tries * most (reach L) + 10)
          (omega (arith, pin_steps, lost_steps, last_steps, few)) (omega arith)
          );
      rests = search rules;
      hands = search rules;
    }

pub returns-in_default : goal.returns-in_default
returns-in_default c =
    let added = moved_adds Has c.args.key c.args.tries c.args.pass.now.view.log c.pin_for.new.pass.view.log
    c.in_default.ensures.moved in
    record {
      same = search rules;
      past = search (rules, seen_all);
      did = search rules;
      moment = search rules;
      busy = search rules;
      missed = search rules;
      won = has_won _ _ added;
      uncut = cuts_none _ _ added;
      steps = search rules;
      rests = search rules;
      hands = search rules;
    }

pub returns-in-Some : goal.returns-in-Some
returns-in-Some c =
    let L = c.args.shared.now.layout in
    let tries = c.args.tries in
    let old = c.args.pass.now.view.log in
    let a = c.pin_for.new.pass.view.log in
    let p = c.loop-walk.pass.view.log in
    let q = c.find.new.pass.view.log in
    let new = c.answer.new.pass.view.log in
    let found = c.in-Some.found in
    let left = ap (λ (s : PassView). s.view.log) c.answer.ensures.took.step in
    let pin = pin_adds Has c.args.key tries old a c.in-Ok._epoch c.in-Ok.ensures.pinned in
    let lost = lost_walks_add L c.args.key c.loop-walk._walk a p c.loop-walk.invariant.lost in
    let last = adds_these _ q new left in
    let walks = finds_adds L c.get.result p q (Some found) c.in-Some.ensures.walk in
    let added = adds_then old a new pin (adds_then a p new lost (adds_then p q new walks last)) in
    record {
      same = search rules;
      past = search (rules, seen_all);
      did = (
          let walk = subst (λ k. Finds L k p q (Some found)) c.get.ensures.number c.in-Some.ensures.walk in
          record {
            pinned = a;
            epoch = c.in-Ok._epoch;
            pin = c.in-Ok.ensures.pinned;
            broken = c.loop-walk._walk;
            few = c.loop-walk-test.true;
            begun = p;
            lost = c.loop-walk.invariant.lost;
            ended = q;
            seek_record = walk.0;
            chain = walk.1;
            key = found;
            walk = walk.2;
            answers = ap (nat_eq found) c.get-in-Some.ensures.number;
            leaves = left;
          }
          );
      moment = (
          let o = c.args.pass.now in
          let begun = c.pin_for.new.pass in
          let call = call_is begun c.in-Ok._epoch Has c.args.key c.in-Ok.ensures.at in
          let pinned : HadNoCall o begun = record {
            same = c.pin_for.ensures.on.same;
            past =
                c.pin_for.ensures.on.past;
            call = none_begun o c.know_run.ensures.seen c.know_run.ensures.fits
                (ap (λ (s : Search). s.call) c.requires.rests.idle);
          } in
          let walked = no_call_on o c.loop-walk.pass c.find.new.pass
          (no_call_on o begun c.loop-walk.pass pinned c.loop-walk.invariant.on.same
          c.loop-walk.invariant.on.past) c.find.ensures.on.same c.find.ensures.on.past in
          c.answer.ensures.moment o Has c.args.key walked
          (c.in-Some.ensures.on.keeps (CallIs Has c.args.key)
          (c.loop-walk.invariant.on.keeps (CallIs Has c.args.key) call))
          );
      busy = search rules;
      missed = search rules;
      won = has_won old new added;
      uncut = cuts_none old new added;
      steps = (
          let pin_steps = pin.steps in
          let lost_steps = lost.steps in
          let walk_steps = c.find.ensures.steps in
          let last_steps = last.steps in
          let few = mul_below c.loop-walk._walk tries (most (reach L)) c.loop-walk-test.true in
          within_call L tries (length old) (length new) (2 * tries + tries * most (reach L) + 10)
          (omega (arith, pin_steps, lost_steps, walk_steps, last_steps, few)) (omega arith)
          );
      rests = search rules;
      hands = search rules;
    }
