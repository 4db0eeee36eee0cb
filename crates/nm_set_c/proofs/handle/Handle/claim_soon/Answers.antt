use Rattle.std.proofs.Common.{◌∙◌}
use Rattle.nm_set_c.specs.Handles.{held_by}
use Rattle.nm_set_c.proofs.Holds.{refused_same}
use Rattle.nm_set_c.proofs.handle.Handle.claim_soon.Goals as goal

pub loop-preserved : goal.loop-preserved
loop-preserved c = refused_same (held_by c.loop.self) (held_by c.claim.new.self) c.in-Err-InUse.field-0
    (c.in-Err-InUse.ensures).refused ∙ c.loop.invariant
