-- A `&` to the blocks reaches each item. Assumes `Logic`.
use mathlib.Core.List.{[], ◌++◌}
use base.Fml.{Incl-trans}
use contract.BorrowLft.{meet_⊑_left}
use denote.RattleType.{RattleType}
use denote.RawPtr.{RawPtr}
use denote.Param.Laws.{Laws}
use denote.Param.Shared.{copy_shared}
use denote.Struct.Laws.{field_copy}
use denote.Struct.Lending.{of_Lends}
use Rattle.core.specs.declared.alloc.Allocator.{Ghosts}
use Rattle.core.specs.contracts.marker.PhantomData as marker
use Rattle.nm_limbo.specs.contracts.block.chain.Chain as C
use Rattle.nm_limbo.proofs.block.chain.Chain.TheLaw.Statement.{statement}
use Rattle.nm_limbo.proofs.Sharing.{chain_lent_laws, Lends-chain}

pub shares : (R A : RattleType) (g : Ghosts A.Denot) (L : Laws R) (P : Laws A) → statement R A g L P
shares R A g L P =
    of_Lends (C.struct R A g) (C.the_codes R.Denot A.Denot R.coded A.coded (marker.the_row RawPtr).coded)
    (C.the_heap R A g) (C.the_lent R A g)
    (λ d p. chain_lent_laws R L.shr_laws d.blocks d.slots)
    (copy_shared (marker.the_field RawPtr) (field_copy (marker.the_type RawPtr) tt), tt)
    (λ M 𝓤 𝓛 d p. Lends-chain 𝓛 (C.the_row R A g).lives R L
    (Incl-trans (meet_⊑_left (R.lives ++ (A.lives ++ [])) _) (meet_⊑_left R.lives (A.lives ++ [])))
    (g.dealloc_token d.alloc) d.blocks d.slots)
