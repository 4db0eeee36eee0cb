use Rattle.std.proofs.Common.{rules, map, length, ap, arith}
use Rattle.nm_steps.specs.Steps.{PassView}
use Rattle.nm_steps.proofs.Seeing.{seen_all}
use Rattle.nm_walks.specs.Bounds.{reach}
use Rattle.nm_calls.specs.declared.scan_plan.What.TheVariants.{Keys}
use Rattle.nm_calls.specs.InTurns.{GiveUp, key_of, most_looks}
use Rattle.nm_calls.specs.PlainWalks.{LooksUnderPin, WasSo}
use Rattle.nm_calls.proofs.Adding.{has_won, cuts_none, plain_moved_adds}
use Rattle.nm_calls.proofs.InTurnsLooks.{all_in_all, all_were_so}
use Rattle.nm_calls.proofs.PlainLooks.{was_so, may_end, call_adds, pin_missed, walks_missed}
use Rattle.nm_calls.proofs.many.has_many.Goals as goal

pub returns-in_default : goal.returns-in_default
returns-in_default c = record {
  same = search rules;
  past = search (rules, seen_all);
  did = search rules;
  keys = search rules;
  moment = search rules;
  busy = search rules;
  missed = pin_missed (GiveUp c.args.shared.now.layout (map key_of c.args.queries.now)) c.args.tries
      c.args.pass.now.view.log c.pin.new.pass.view.log c.if-tries-eq0.false c.in_default.ensures.moved;
  won = has_won _ _ (plain_moved_adds c.args.tries c.args.pass.now.view.log c.pin.new.pass.view.log
      c.in_default.ensures.moved);
  uncut = cuts_none _ _ (plain_moved_adds c.args.tries c.args.pass.now.view.log c.pin.new.pass.view.log
      c.in_default.ensures.moved);
  steps = search rules;
  rests = search rules;
  hands = search rules;
}

pub unpin-requires-clause-may : goal.unpin-requires-clause-may
unpin-requires-clause-may c = may_end c.in-Ok._epoch c.pin.new.pass c.walk_all-ended.new.pass c.in-Ok.ensures.at
    c.walk_all-ended.ensures.only

pub returns-then-ended : goal.returns-then-ended
returns-then-ended c =
    let most = most_looks (reach c.args.shared.now.layout) (length c.args.queries.now) in
    let old = c.args.pass.now.view.log in
    let new = c.unpin.new.pass.view.log in
    let did : LooksUnderPin c.args.tries most old new =
    record {
      pinned = c.pin.new.pass.view.log;
      epoch = c.in-Ok._epoch;
      pin = c.in-Ok.ensures.pinned;
      looked =
          c.walk_all-ended.new.pass.view.log;
      looks = c.walk_all-ended.ensures.looks;
      leaves = ap
          (λ (s : PassView). s.view.log) c.unpin.ensures.took.step;
    } in
    let added = call_adds c.args.tries most old new did in
    record {
      same = search rules;
      past = search (rules, seen_all);
      did = search rules;
      keys = search rules;
      moment = (
          let o = c.args.pass.now in
          let p = c.walk_all-ended.new.pass in
          let q = c.unpin.new.pass in
          let walked = c.walk_all-ended.ensures in
          all_were_so Keys p (WasSo o q)
          (was_so o c.pin.new.pass p q c.know_run.ensures.seen c.know_run.ensures.fits c.requires.rests.unpinned
          c.pin.ensures.on walked.on c.know_run-2.ensures.seen c.unpin.ensures.took) c.walk_all-ended.new.queries
          (all_in_all Keys (length c.pin.new.pass.view.log) 0 p c.walk_all-ended.new.queries walked.under_way)
          (walked.ended c.if-ended.true)
          );
      busy = search rules;
      missed = search rules;
      won = has_won _ _ added;
      uncut = cuts_none _ _ added;
      steps = (let few = added.steps in omega (arith, few));
      rests = search rules;
      hands = search rules;
    }

pub returns-else-ended : goal.returns-else-ended
returns-else-ended c =
    let most = most_looks (reach c.args.shared.now.layout) (length c.args.queries.now) in
    let old = c.args.pass.now.view.log in
    let new = c.unpin.new.pass.view.log in
    let did : LooksUnderPin c.args.tries most old new =
    record {
      pinned = c.pin.new.pass.view.log;
      epoch = c.in-Ok._epoch;
      pin = c.in-Ok.ensures.pinned;
      looked =
          c.walk_all-ended.new.pass.view.log;
      looks = c.walk_all-ended.ensures.looks;
      leaves = ap
          (λ (s : PassView). s.view.log) c.unpin.ensures.took.step;
    } in
    let added = call_adds c.args.tries most old new did in
    record {
      same = search rules;
      past = search (rules, seen_all);
      did = search rules;
      keys = search rules;
      moment = search rules;
      busy = search rules;
      missed = walks_missed (GiveUp c.args.shared.now.layout (map key_of c.args.queries.now)) c.args.tries old
          c.pin.new.pass.view.log c.walk_all-ended.new.pass.view.log new c.in-Ok._epoch c.in-Ok.ensures.pinned
          (c.walk_all-ended.ensures.given_up c.if-ended.false) did.leaves;
      won = has_won _ _ added;
      uncut = cuts_none _ _ added;
      steps = (let few = added.steps in omega (arith, few));
      rests = search rules;
      hands = search rules;
    }
