use Rattle.std.proofs.Common.{None}
use Rattle.nm_epoch.proofs.Left.{pinned_may_still_leave}
use Rattle.nm_tests.proofs.passes.epochs.a_pin_holds_the_epoch_back.Goals as goal

pub unpin-requires-clause-may : goal.unpin-requires-clause-may
unpin-requires-clause-may g c = pinned_may_still_leave c.pin.new.pass c.behind-2.new.pass c.in-Ok.pinned None
    c.in-Ok.ensures.at c.behind-2.ensures.after.settles
