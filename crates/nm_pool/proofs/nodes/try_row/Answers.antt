use Rattle.std.proofs.Common.{rules, ◌-◌, ◌<◌, arith}
use Rattle.nm_steps.specs.Rules.{knowledge}
use Rattle.nm_pool.specs.Claims.{PassedOver}
use Rattle.nm_steps.proofs.Seeing.{continues_then}
use Rattle.nm_pool.proofs.PrivateSlots.{one_more, learns_both}
use Rattle.nm_pool.proofs.Looks.{passed_by_look, learns_nothing}
use Rattle.nm_pool.proofs.nodes.try_row.Goals as goal

pub returns-then-shown-from-clause-part : goal.returns-then-shown-from-clause-part
returns-then-shown-from-clause-part c =
    let from = c.args.from in
    let shown = c.pass_row-shown.result in (
      omega arith,
      omega arith,
      passed_by_look from (shown - from) c.args.pass.now.view.log c.pass_row-shown.new.pass.view.log
          c.pass_row-shown.ensures.passed,
    )

pub returns-in-Got-clause-part : goal.returns-in-Got-clause-part
returns-in-Got-clause-part c =
    let from = c.args.from in
    let shown = c.pass_row-shown.result in
    record {
      least = omega arith;
      below = grind arith;
      before = c.pass_row-shown.new.pass.view.log;
      passed = passed_by_look from (shown - from) c.args.pass.now.view.log c.pass_row-shown.new.pass.view.log
          c.pass_row-shown.ensures.passed;
      made = search rules;
    }

pub returns : goal.returns
returns c =
    let from = c.args.from in
    let shown = c.pass_row-shown.result in
    let mid = c.pass_row-shown.new.pass.view in
    let new = c.try_slot.new.pass.view in
    let over : PassedOver shown mid.log new.log = search rules in
    let less : shown < c.args.to = grind arith in
    record {
      on = continues_then _ _ _ c.pass_row-shown.ensures.on c.try_slot.ensures.on;
      part = (
        omega arith,
        omega (arith, less),
        one_more PassedOver from shown c.args.pass.now.view.log mid.log new.log c.pass_row-shown.ensures.least
            (passed_by_look from (shown - from) c.args.pass.now.view.log mid.log c.pass_row-shown.ensures.passed) over,
      );
      made = tt;
      new = tt;
      learned = learns_both (knowledge c.args.pass.now.view) (knowledge mid) (knowledge new)
          (learns_nothing _ _ c.pass_row-shown.ensures.learned) c.try_slot.ensures.learned;
    }
