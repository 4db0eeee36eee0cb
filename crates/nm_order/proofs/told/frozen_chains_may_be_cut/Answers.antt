use Rattle.nm_order.proofs.FrozenChains.{frozen_chains_may_be_cut as each_frozen_chain_may_be_cut}
use Rattle.nm_order.proofs.told.frozen_chains_may_be_cut.Goals as goal

pub returns : goal.returns
returns c = each_frozen_chain_may_be_cut
