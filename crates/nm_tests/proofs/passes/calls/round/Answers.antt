use Rattle.nm_epoch.proofs.Left.{rests_still}
use Rattle.nm_tests.proofs.passes.calls.round.Goals as goal

pub returns-clause-rests : goal.returns-clause-rests
returns-clause-rests c = rests_still c.has-found.new.pass c.advance.new.pass c.has-found.ensures.rests
    c.advance.ensures.after.settles
