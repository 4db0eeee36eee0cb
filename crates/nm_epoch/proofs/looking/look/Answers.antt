use Rattle.nm_epoch.proofs.Allowed.{may_scan}
use Rattle.nm_epoch.proofs.looking.look.Goals as goal

pub scan-requires-clause-may : goal.scan-requires-clause-may
scan-requires-clause-may c = may_scan c.args.pass.now c.args.worker (rw c.requires.own.layout c.requires.there)
    c.requires.seen
