use denote.RattleType.{RattleType}
use denote.Param.Send.{IsSend, Frees}
use Rattle.core.specs.declared.alloc.Allocator.{Ghosts}
use Rattle.nm_limbo.proofs.Crosses.{Chain-send}
use Rattle.nm_limbo.specs.contracts.block.chain.Chain.{the_row}

pub send : (R A : RattleType) (g : Ghosts A.Denot) → IsSend R → IsSend A → Frees g g.dealloc_token
    → IsSend (the_row R A g)
send R A g s t = Chain-send R A g s
