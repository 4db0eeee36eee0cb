use Rattle.nm_laws.proofs.Stays.{nothing_else_cuts, only_splices_answer_cuts}
use Rattle.nm_laws.proofs.laws.nothing_else_cuts.Goals as goal

pub returns-clause-others : goal.returns-clause-others
returns-clause-others c = nothing_else_cuts

pub returns-clause-splices : goal.returns-clause-splices
returns-clause-splices c = only_splices_answer_cuts
