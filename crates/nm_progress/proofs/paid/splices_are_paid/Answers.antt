use Rattle.nm_progress.proofs.SplicesPaid.{splices_are_paid as proof_0, splices_are_paid_since as proof_1}
use Rattle.nm_progress.proofs.paid.splices_are_paid.Goals as goal

pub returns-clause-all : goal.returns-clause-all
returns-clause-all c = proof_0

pub returns-clause-since : goal.returns-clause-since
returns-clause-since c = proof_1
