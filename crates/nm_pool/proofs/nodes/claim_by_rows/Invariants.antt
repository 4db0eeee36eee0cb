use Rattle.std.proofs.Common.{◌≤◌, ◌-◌}
use Rattle.nm_steps.specs.Rules.{knowledge}
use Rattle.nm_pool.specs.Claims.{DoneBelow, LearnsSlots, PassedOver}
use Rattle.nm_steps.specs.Steps.{Continues}
use Rattle.nm_pool.proofs.nodes.claim_by_rows.Given as goal

abbrev pub invariant-loop-slot : goal.invariant-loop-slot
invariant-loop-slot l = record {
  on : Continues l.fn.pass l.pass;
  least : l.from ≤ l.slot;
  within : l.slot ≤ l.to;
  passed : DoneBelow PassedOver l.from l.slot l.fn.pass.view.log l.pass.view.log;
  learned : LearnsSlots (knowledge l.fn.pass.view) (knowledge l.pass.view);
}

abbrev pub decreases-loop-slot : goal.decreases-loop-slot
decreases-loop-slot l = l.to - l.slot
