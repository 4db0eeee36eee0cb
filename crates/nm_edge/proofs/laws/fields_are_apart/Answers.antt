use Rattle.nm_edge.proofs.Words.{fields_apart, fields_within}
use Rattle.nm_edge.proofs.laws.fields_are_apart.Goals as goal

pub returns-clause-apart : goal.returns-clause-apart
returns-clause-apart c = fields_apart

pub returns-clause-within : goal.returns-clause-within
returns-clause-within c = fields_within
