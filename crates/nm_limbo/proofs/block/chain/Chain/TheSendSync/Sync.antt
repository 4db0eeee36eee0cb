use denote.RattleType.{RattleType}
use denote.Param.Send.{IsSync}
use Rattle.core.specs.declared.alloc.Allocator.{Ghosts}
use Rattle.nm_limbo.proofs.Crosses.{Chain-sync}
use Rattle.nm_limbo.specs.contracts.block.chain.Chain.{the_row}

pub sync : (R A : RattleType) (g : Ghosts A.Denot) → IsSync R → IsSync (the_row R A g)
sync R A g = Chain-sync R A g
