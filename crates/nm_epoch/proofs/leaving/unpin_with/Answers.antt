use Rattle.nm_epoch.proofs.Allowed.{leave_with_labelled}
use Rattle.nm_epoch.proofs.Left.{rests_after_answer}
use Rattle.nm_epoch.proofs.Left.{answer_keeps}
use Rattle.nm_epoch.proofs.leaving.unpin_with.Goals as goal

pub returns-clause-rests : goal.returns-clause-rests
returns-clause-rests c = rests_after_answer c.args.pass.now c.leave_with.new.pass c.args.answer
    c.leave_with.ensures.step (leave_with_labelled c.args.pass.now c.args.answer c.requires.may)

pub returns-clause-hands : goal.returns-clause-hands
returns-clause-hands c = answer_keeps c.args.pass.now c.leave_with.new.pass c.args.answer c.leave_with.ensures.step
