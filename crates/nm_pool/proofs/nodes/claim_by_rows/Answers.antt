use Rattle.std.proofs.Common.{arith}
use Rattle.nm_steps.specs.Rules.{knowledge}
use Rattle.nm_pool.specs.Claims.{PassedOver}
use Rattle.nm_pool.proofs.PrivateSlots.{learns_both}
use Rattle.nm_pool.proofs.Looks.{below_then, claims_behind}
use Rattle.nm_steps.proofs.Seeing.{continues_then}
use Rattle.nm_pool.proofs.nodes.claim_by_rows.Goals as goal

pub returns-in-Ok-clause-part : goal.returns-in-Ok-clause-part
returns-in-Ok-clause-part c = claims_behind c.args.from c.loop-slot.slot c.args.to c.args.pass.now.view.log
    c.loop-slot.pass.view.log c.try_row.new.pass.view.log c.in-Ok.node c.loop-slot.invariant.least
    c.loop-slot.invariant.passed c.in-Ok.ensures.part

pub loop-slot-preserved : goal.loop-slot-preserved
loop-slot-preserved c =
    let slot = c.loop-slot.slot in
    let part = c.in-Err.ensures.part in
    let more = part.0 in
    let least = c.loop-slot.invariant.least in
    record {
      on = continues_then _ _ _ c.loop-slot.invariant.on c.try_row.ensures.on;
      least = omega (arith, more, least);
      within = part.1;
      passed = below_then PassedOver c.args.from slot c.in-Err.next c.args.pass.now.view.log
          c.loop-slot.pass.view.log c.try_row.new.pass.view.log least (omega (arith, more))
          c.loop-slot.invariant.passed part.2;
      learned = learns_both _ (knowledge c.loop-slot.pass.view) _ c.loop-slot.invariant.learned
          c.try_row.ensures.learned;
    }
