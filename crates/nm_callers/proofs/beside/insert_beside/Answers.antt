use Rattle.nm_callers.proofs.GettingOn.{got_on}
use Rattle.nm_callers.proofs.beside.insert_beside.Goals as goal

pub returns : goal.returns
returns c busy = got_on _ _ c.args.tries c.insert.ensures.leaves.says.past (c.insert.ensures.leaves.interfered busy)
