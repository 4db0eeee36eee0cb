use Rattle.nm_epoch.proofs.Allowed.{may_leave}
use Rattle.nm_calls.proofs.leaving.leave.Goals as goal

pub unpin-requires-clause-may : goal.unpin-requires-clause-may
unpin-requires-clause-may c =
    may_leave c.args.pass.now c.requires.unchanged.labelled c.requires.unchanged.unlinked
    c.requires.unchanged.unswapped c.requires.unchanged.unflagged
