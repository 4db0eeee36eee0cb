-- What the parts of a list of blocks own and lend, at items of the row R.
use Rattle.std.specs.Prelude.{ℕ, List, [], ◌∷◌, take, drop, replicate, Option, None}
use base.Fraction.{full_share}
use base.Fml.{Lft, Fml, ftrue, fsep, fwand}
use mir.Syntax.{Ty, ty_ptr, ty_array, ty_struct, tcons, tnil}
use mir.Raw.{raw}
use prog.Memory.{align, up}
use denote.RattleType.{RattleType}
use denote.Memory.{lone}
use denote.Sharing.{nothing, beside}
use denote.RawPtr.{Ptr, RawPtr, lies_at, room_for, ◌+ₚ◌}
use Rattle.circular_buffer.specs.Ownership.{cells_own, cells_lent}
use Rattle.nm_limbo.specs.Blocks.{first_block_of}

-- the address of the link in the block at p
abbrev pub next_of : Ptr → Ptr
next_of p = p +ₚ 0

-- the block at p leads on to the one at q
abbrev pub link_owns : Ptr → Ptr → Fml
link_owns p q = lies_at RawPtr full_share (next_of p) q

-- each block leads on to the next one, and the last to none
abbrev pub links_own : List Ptr → Fml
links_own [] = ftrue
links_own (p ∷ ps) = fsep (link_owns p (first_block_of ps)) (links_own ps)

module _ (R : RattleType) where
  -- the 32 places of a block, as the code writes their type
  abbrev pub places_type : Ty
  places_type = ty_array (lone R.mir) 32

  -- the type of `Block`, as the machine sees it
  abbrev pub block_type : Ty
  block_type = ty_struct [] (tcons ty_ptr (tcons (raw places_type) tnil))

  -- the offset of the places in a block
  abbrev pub places_offset : ℕ
  places_offset = up (align places_type) 8

  abbrev pub places_of : Ptr → Ptr
  places_of p = p +ₚ places_offset

  -- the link and the places of a block, with nothing in them
  abbrev pub room_owns : Ptr → Fml
  room_owns p = fsep (room_for ty_ptr (next_of p)) (cells_own R (places_of p) (replicate 32 None))

  -- the allocator's token, and that the empty link and places make the whole block
  abbrev pub deed_owns : (Ty → Ptr → Fml) → Ptr → Fml
  deed_owns token p = fsep (token block_type p) (fwand (room_owns p) (room_for block_type p))

  abbrev pub deeds_own : (Ty → Ptr → Fml) → List Ptr → Fml
  deeds_own token [] = ftrue
  deeds_own token (p ∷ ps) = fsep (deed_owns token p) (deeds_own token ps)

  -- the places of the blocks, 32 in each
  abbrev pub places_own : List Ptr → List (Option R.Denot) → Fml
  places_own [] cs = ftrue
  places_own (p ∷ ps) cs = fsep (cells_own R (places_of p) (take 32 cs))
      (places_own ps (drop 32 cs))

  abbrev pub chain_owns : (Ty → Ptr → Fml) → List Ptr → List (Option R.Denot) → Fml
  chain_owns token ps cs = fsep (places_own ps cs) (fsep (links_own ps) (deeds_own token ps))

  -- what a `&` holds of the places
  abbrev pub chain_lent : List Ptr → List (Option R.Denot) → Lft → Fml
  chain_lent [] cs = nothing
  chain_lent (p ∷ ps) cs = beside (cells_lent R (places_of p) (take 32 cs))
      (chain_lent ps (drop 32 cs))
