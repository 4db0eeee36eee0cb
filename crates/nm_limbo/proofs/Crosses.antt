-- A list of blocks may cross threads as its items and its allocator may.
use Rattle.std.specs.Prelude.{ℕ, ◌+◌, List, [], ◌∷◌, take, drop, replicate, Option, Some, None}
use Rattle.std.specs.Mem.{type_size}
use base.Fraction.{full_share}
use base.Shift.{Keyless}
use mir.Syntax.{Ty}
use denote.RattleType.{RattleType}
use denote.RawPtr.{Ptr, RawPtr, block_ptr, null_ptr, room_for}
use denote.Struct.Struct.{exits_of}
use denote.Struct.Owning.{shape, fields, to}
use denote.Param.Send.{IsSend, IsSync, Common, AllSend, part_keyless, owning_send, struct_send, struct_sync, sendable}
use Rattle.core.specs.declared.alloc.Allocator.{Ghosts}
use Rattle.std_alloc.proofs.SendSync.{FreesAnywhere, quiet, lies}
use Rattle.circular_buffer.specs.Ownership.{slots, slots_lent, cells_own, cells_lent}
use Rattle.nm_limbo.specs.Ownership.{next_of, places_of, links_own, places_own, deeds_own, room_owns, chain_lent}
use Rattle.nm_limbo.specs.contracts.block.chain.Chain as Chain

room : (τ : Ty) (p : Ptr) → Keyless (room_for τ p)
room τ (block_ptr b o) = tt
room τ null_ptr = tt

pointer_send : IsSend RawPtr
pointer_send = search sendable

links-Keyless : (ps : List Ptr) → Keyless (links_own ps)
links-Keyless [] = tt
links-Keyless (p ∷ ps) = (lies RawPtr pointer_send (next_of p) _, links-Keyless ps)

module _ (R : RattleType) where
  slots-Keyless : IsSend R → (b o : ℕ) (cs : List (Option R.Denot)) → Keyless (slots R b o cs)
  slots-Keyless s b o [] = tt
  slots-Keyless s b o (Some x ∷ cs) = (part_keyless R s full_share x b o, slots-Keyless s b (o + type_size R) cs)
  slots-Keyless s b o (None ∷ cs) = (tt, slots-Keyless s b (o + type_size R) cs)

  cells-Keyless : IsSend R → (p : Ptr) (cs : List (Option R.Denot)) → Keyless (cells_own R p cs)
  cells-Keyless s (block_ptr b o) cs = (tt, slots-Keyless s b o cs)
  cells-Keyless s null_ptr cs = tt

  places-Keyless : IsSend R → (ps : List Ptr) (cs : List (Option R.Denot)) → Keyless (places_own R ps cs)
  places-Keyless s [] cs = tt
  places-Keyless s (p ∷ ps) cs = (cells-Keyless s (places_of R p) (take 32 cs), places-Keyless s ps (drop 32 cs))

  empty-Keyless : IsSend R → (p : Ptr) → Keyless (room_owns R p)
  empty-Keyless s p = (room _ (next_of p), cells-Keyless s (places_of R p) (replicate 32 None))

  slots_lent-Common : IsSync R → (b o : ℕ) (cs : List (Option R.Denot)) → Common (slots_lent R b o cs)
  slots_lent-Common y b o [] κ = tt
  slots_lent-Common y b o (Some x ∷ cs) κ = (y.shared x b o κ, slots_lent-Common y b (o + type_size R) cs κ)
  slots_lent-Common y b o (None ∷ cs) κ = (tt, slots_lent-Common y b (o + type_size R) cs κ)

  cells_lent-Common : IsSync R → (p : Ptr) (cs : List (Option R.Denot)) → Common (cells_lent R p cs)
  cells_lent-Common y (block_ptr b o) cs κ = (tt, slots_lent-Common y b o cs κ)
  cells_lent-Common y null_ptr cs κ = tt

  chain_lent-Common : IsSync R → (ps : List Ptr) (cs : List (Option R.Denot)) → Common (chain_lent R ps cs)
  chain_lent-Common y [] cs κ = tt
  chain_lent-Common y (p ∷ ps) cs κ = (
    cells_lent-Common y (places_of R p) (take 32 cs) κ,
    chain_lent-Common y ps
        (drop 32 cs) κ,
  )

  module _ (A : RattleType) (g : Ghosts A.Denot) where
    deeds-Keyless : IsSend R → FreesAnywhere A.Denot g → (a : A.Denot) (ps : List Ptr)
        → Keyless (deeds_own R (g.dealloc_token a) ps)
    deeds-Keyless s f a [] = tt
    deeds-Keyless s f a (p ∷ ps) = ((f.frees a _ p, (empty-Keyless s p, room _ p)), deeds-Keyless s f a ps)

    pub Chain-send : IsSend R → FreesAnywhere A.Denot g → IsSend (Chain.the_row R A g)
    Chain-send s f =
        let O = Chain.the_type R A g in let all : AllSend (fields O) = (search sendable, tt) in
        owning_send O all (λ d. (
          places-Keyless s d.blocks d.slots,
          (links-Keyless d.blocks, deeds-Keyless s f d.alloc d.blocks),
        ))
        (λ k. quiet (to O) (exits_of k (fields O)) ((struct_send (shape O) all).leaving k))

    pub Chain-sync : IsSync R → IsSync (Chain.the_row R A g)
    Chain-sync y = let O = Chain.the_type R A g in
        record {
          shared = λ d b o κ. (
            (struct_sync (shape O) (search sendable, tt)).shared (to O d) b o κ,
            chain_lent-Common y d.blocks d.slots κ,
          );
        }
