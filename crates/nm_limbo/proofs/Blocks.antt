-- What `allocate` and `deallocate` share: a block is cut into its link and its places, and made of
-- them again. Assumes `Logic`.
use Prim.Native.Nat.{ℕ, ◌+◌, ◌*◌, ◌<◌, ◌^◌}
use mathlib.Core.List.{List, [], ◌∷◌}
use lib.ListN.{length, replicate}
use seplogic.Ra.Ura.{Ura}
use mir.Syntax.{Ty, Tys, Sym, ty_ptr, ty_array, ty_struct, tcons, tnil}
use base.Logic.{SProp, ent, sep, wand, apply∗}
use base.Fml.{Fml, ftrue, fwand, froom}
use prog.Model.{rooms_at}
use types.Logic.{Logic, sem}
use types.Kit.{‵, raw, ◌⊛◌, ◌$◌, ◌∵◌, !, qed, by, move, drop, use1, use2, group, split, split3, assume, fsplit, fjoin, flt_i, flt_l, done}
use denote.RattleType.{RattleType}
use denote.Param.{layout}
use denote.RawPtr.{Ptr, block_ptr, room_for}
use denote.Steps.{nothing}
use Rattle.std.specs.Prelude.{Option, None}
use Rattle.core.proofs.mem.Param.{El, R, el_x, elτ}
use Rattle.core.proofs.alloc.Calls.{Al}
use Rattle.core.proofs.slots.Leases.{P}
use Rattle.std_alloc.proofs.RawLayout.{as_written}
use Rattle.circular_buffer.specs.Ownership.{slots}
use Rattle.circular_buffer.proofs.Memory.{sz, of_room, to_room}
use Rattle.nm_limbo.specs.Ownership.{block_type, places_offset, room_owns}
use Rattle.nm_limbo.specs.contracts.block.Block as Block
use Rattle.nm_limbo.specs.contracts.block.BlockPtr as BlockPtr
use Rattle.nm_limbo.specs.contracts.block.Room as Room
use Rattle.nm_limbo.specs.contracts.block.Deed as Deed

module _ (E : El) where
  abbrev pub Bp : RattleType
  Bp = BlockPtr.the_row (R E)

  abbrev pub Rm : RattleType
  Rm = Room.the_row (R E)

  -- the block's type as the code writes it, and as the allocator is asked for it
  abbrev pub written : Ty
  written = layout (Block.the_row (R E))

  abbrev pub block : Ty
  block = block_type (R E)

  abbrev pub Rejoins : Ptr → Fml
  Rejoins p = fwand (room_owns (R E) p) (room_for block p)

module _ (E : El) (Z : Al) where
  abbrev pub Dd : RattleType
  Dd = Deed.the_row (R E) (P E Z) Z.g

module _ (E : El) {M : Type 1} {𝓤 : Ura M} (𝓛 : Logic 𝓤) (b o : ℕ) where
  open 𝓛 use {H}

  abbrev ν : Sym
  ν = (Block.the_type (R E)).name

  abbrev fields : Tys
  fields = tcons ty_ptr (tcons (ty_array (elτ E) 32) tnil)

  abbrev at : ℕ
  at = o + places_offset (R E)

  abbrev Joins : SProp 𝓤
  Joins = wand 𝓤 (rooms_at 𝓤 H fields 0 b o) (H.room (ty_struct ν fields) b o)

  rejoins : ent 𝓤 Joins (sem 𝓛 (Rejoins E (block_ptr b o)))
  rejoins =
      qed 𝓛 (raw Joins ∷ []) ∵ assume ! (‵ (room_owns (R E) (block_ptr b o))) $ fsplit ! $ move ! (1 ∷ []) $ fsplit !
      $ flt_l ! (λ small.
      use1 𝓛 (‵ (froom (ty_array (elτ E) 32) b at)) (to_room E 𝓛 b 32 at) $ nothing ! $ move ! (2 ∷ 1 ∷ 0 ∷ []) $
      group ! 3 $
      use2 𝓛 (‵ (froom (ty_struct ν fields) b o)) (apply∗ 𝓤 (rooms_at 𝓤 H fields 0 b o)
      (H.room (ty_struct ν fields) b o)) $ by ! (𝓛.laws.room-raw (ty_struct ν fields) b o))

  pub block_cut : 32 * sz E < 2 ^ 63 → ent 𝓤 (H.room (block E) b o)
      (sep 𝓤 (sem 𝓛 (room_owns (R E) (block_ptr b o))) (sem 𝓛 (Rejoins E (block_ptr b o))))
  block_cut small =
      let none : List (Option (el_x E)) = replicate 32 None in
      qed 𝓛 (‵ (froom (block E) b o) ∷ []) ∵ as_written ! (ty_struct ν fields) b o $
      use1 𝓛 ((‵ (froom ty_ptr b (o + 0)) ⊛ ‵ (froom (ty_array (elτ E) 32) b at) ⊛ ‵ ftrue) ⊛ raw Joins)
      (𝓛.laws.room_fields ν fields b o) $ split ! $ split3 ! $ move ! (2 ∷ []) $ drop ! $
      move ! (1 ∷ []) $ use1 𝓛 (‵ (slots (R E) b at none)) (of_room E 𝓛 b 32 at) $ flt_i ! (length none * sz E)
      (2 ^ 63) small $ fjoin ! $ move ! (1 ∷ 0 ∷ []) $ fjoin ! $
      move ! (1 ∷ []) $ use1 𝓛 (‵ (Rejoins E (block_ptr b o))) rejoins $ move ! (1 ∷ []) $ done !

  pub block_glue : ent 𝓤 (sep 𝓤 (sem 𝓛 (room_owns (R E) (block_ptr b o))) (sem 𝓛 (Rejoins E (block_ptr b o))))
      (H.room (block E) b o)
  block_glue = apply∗ 𝓤 (sem 𝓛 (room_owns (R E) (block_ptr b o))) (H.room (block E) b o)
