use Rattle.std.proofs.Common.{None}
use Rattle.nm_epoch.proofs.Left.{pinned_may_still_leave}
use Rattle.nm_tests.proofs.passes.epochs.round.Goals as goal

pub unpin-requires-clause-may : goal.unpin-requires-clause-may
unpin-requires-clause-may c = pinned_may_still_leave c.pin.new.pass c.advance.new.pass c.in-Ok.field-0 None
    c.in-Ok.ensures.at c.advance.ensures.after.settles
