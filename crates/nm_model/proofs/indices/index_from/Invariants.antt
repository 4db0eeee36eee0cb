use Rattle.nm_model.specs.Indexing.{Covers}
use Rattle.nm_model.proofs.indices.index_from.Given as goal

-- the entries so far are noted
abbrev pub invariant-loop-index : goal.invariant-loop-index
invariant-loop-index l = Covers l.indices l.entries l.index
