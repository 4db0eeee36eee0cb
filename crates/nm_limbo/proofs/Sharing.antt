-- A `&` to the blocks of a list is made where one to an item is. Assumes `Logic`.
use Rattle.std.specs.Prelude.{List, [], ◌∷◌, Option, take, drop}
use seplogic.Ra.Ura.{Ura}
use base.Fml.{Lft, Fml, Incl, ftrue, fsep}
use mir.Syntax.{Ty}
use types.Logic.{Logic}
use denote.RattleType.{RattleType, RowLaws}
use denote.Param.Laws.{Laws}
use denote.RawPtr.{Ptr}
use denote.Sharing.{ShrLaws}
use denote.SharingLaws.{beside_shr_laws, nothing_shr_laws}
use denote.Struct.Lending.{Lends, Lends-both, Lends-first, Lends-nothing}
use Rattle.circular_buffer.specs.Ownership.{cells_own, cells_lent}
use Rattle.circular_buffer.proofs.Sharing.{cells_lent_laws, Lends-cells}
use Rattle.nm_limbo.specs.Ownership.{places_of, places_own, links_own, deeds_own, chain_owns, chain_lent}

pub chain_lent_laws : (R : RattleType) → RowLaws R → (ps : List Ptr) (cs : List (Option R.Denot))
    → ShrLaws (chain_lent R ps cs)
chain_lent_laws R L [] cs = nothing_shr_laws
chain_lent_laws R L (p ∷ ps) cs = beside_shr_laws _ _ (cells_lent_laws R L (places_of R p) (take 32 cs))
    (chain_lent_laws R L ps (drop 32 cs))

module _ {M : Type 1} {𝓤 : Ura M} (𝓛 : Logic 𝓤) (l : Lft) (R : RattleType) (L : Laws R) (inc : Incl l R.lives) where
  Lends-places : (ps : List Ptr) (cs : List (Option R.Denot)) → Lends 𝓛 (places_own R ps cs) (chain_lent R ps cs) l
  Lends-places [] cs = Lends-nothing 𝓛 ftrue l
  Lends-places (p ∷ ps) cs =
      Lends-both 𝓛 (cells_own R (places_of R p) (take 32 cs)) (places_own R ps (drop 32 cs))
      (cells_lent R (places_of R p) (take 32 cs)) (chain_lent R ps (drop 32 cs)) l
      (Lends-cells 𝓛 l R L inc (places_of R p) (take 32 cs)) (Lends-places ps (drop 32 cs))

  pub Lends-chain : (token : Ty → Ptr → Fml) (ps : List Ptr) (cs : List (Option R.Denot))
      → Lends 𝓛 (chain_owns R token ps cs) (chain_lent R ps cs) l
  Lends-chain token ps cs = Lends-first 𝓛 (places_own R ps cs) (fsep (links_own ps) (deeds_own R token ps))
      (chain_lent R ps cs) l (Lends-places ps cs)
