use Rattle.std.proofs.Common.{arith}
use Rattle.nm_pool.proofs.Allowing.{may_give}
use Rattle.nm_pool.proofs.nodes.put.Goals as goal

pub give-requires-clause-may : goal.give-requires-clause-may
give-requires-clause-may c = let range = c.know_pooled_slots.ensures c.args.slot c.requires.private in
    let low = range.0 in may_give _ _ _ c.args.slot (omega (arith, low)) range.1 c.requires.private
