use Rattle.nm_calls.proofs.Answering.{may_answer_so}
use Rattle.nm_calls.proofs.Moments.{moment_of}
use Rattle.nm_calls.proofs.leaving.answer.Goals as goal

pub unpin_with-requires-clause-may : goal.unpin_with-requires-clause-may
unpin_with-requires-clause-may c = may_answer_so c.args.pass.now c.args.answer c.requires.labelled c.requires.shown

pub returns-clause-moment : goal.returns-clause-moment
returns-clause-moment c = λ o op k had call. moment_of o c.args.pass.now c.unpin_with.new.pass op k c.args.answer had
    c.know_run.ensures.fits call c.unpin_with.ensures.took.step c.unpin_with.ensures.took.past c.know_run-2.ensures.seen
