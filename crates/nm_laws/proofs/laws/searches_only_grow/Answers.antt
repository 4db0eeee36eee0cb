use Rattle.nm_laws.proofs.SearchesGrow.{only_grow}
use Rattle.nm_laws.proofs.laws.searches_only_grow.Goals as goal

pub returns : goal.returns
returns c = only_grow
