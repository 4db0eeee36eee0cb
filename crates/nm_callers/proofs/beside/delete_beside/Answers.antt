use Rattle.nm_callers.proofs.GettingOn.{got_on}
use Rattle.nm_callers.proofs.beside.delete_beside.Goals as goal

pub returns : goal.returns
returns c busy = got_on _ _ c.args.tries c.delete.ensures.leaves.says.past (c.delete.ensures.leaves.interfered busy)
