use Rattle.nm_epoch.proofs.Allowed.{leave_labelled}
use Rattle.nm_epoch.proofs.Left.{rests_after_leave}
use Rattle.nm_epoch.proofs.Left.{leave_keeps}
use Rattle.nm_epoch.proofs.leaving.unpin.Goals as goal

pub returns-clause-rests : goal.returns-clause-rests
returns-clause-rests c = rests_after_leave c.args.pass.now c.leave.new.pass c.leave.ensures.step
    (leave_labelled c.args.pass.now c.requires.may)

pub returns-clause-hands : goal.returns-clause-hands
returns-clause-hands c = leave_keeps c.args.pass.now c.leave.new.pass c.leave.ensures.step
