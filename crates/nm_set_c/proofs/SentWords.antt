-- The words of a closed tree, and so the values of a closed map, may go from thread to thread.
use Rattle.std.proofs.Common.{Bool, true, false, List, [], ◌∷◌}
use mir.Syntax.{Ty, ty_array}
use mir.Raw.{raw}
use base.Fml.{Fml}
use base.Shift.{Keyless}
use denote.Builtin.{RawPtr, usize}
use denote.Memory.{lone}
use denote.Param.Send.{IsSend, AllSend, owning_send, struct_send, sendable}
use denote.RattleType.{RattleType}
use denote.RawPtr.{Ptr, block_ptr, null_ptr, in_block, room_for, ◌+ₚ◌}
use denote.Struct.Owning.{shape, fields, to}
use denote.Struct.Struct.{exits_of}
use Rattle.core.specs.Mem.Slots.{lease_heap, lease_len, lease_ptr, slots_filled, slots_items, slots_ptr}
use Rattle.core.specs.Mem.Slots.Ownership.{bytes_of, slot, slots}
use Rattle.core.specs.contracts.slots.Lease as lease
use Rattle.core.specs.contracts.slots.Slots as places
use Rattle.std.proofs.Crossing as heap
use Rattle.std.specs.contracts.alloc.Global as Heap
use Rattle.std.specs.contracts.impls.GlobalAllocator.TheImpl.{ghosts}
use Rattle.std_alloc.proofs.SendSync.{quiet, lies}

pointer_send : IsSend RawPtr
pointer_send = search sendable

number_send : IsSend usize
number_send = search sendable

-- ---- a row of places, each of which holds a value or none

room : (τ : Ty) (p : Ptr) → Keyless (room_for τ p)
room τ (block_ptr b o) = tt
room τ null_ptr = tt

inside : (p : Ptr) (F : Fml) → Keyless F → Keyless (in_block p F)
inside (block_ptr b o) F k = k
inside null_ptr F k = tt

one : (R : RattleType) → IsSend R → (f : Bool) (p : Ptr) (x : R.Denot) → Keyless (slot R f p x)
one R s true p x = lies R s p x
one R s false p x = room (raw (lone R.mir)) p

each : (R : RattleType) → IsSend R → (p : Ptr) (xs : List R.Denot) (fs : List Bool) → Keyless (slots R p xs fs)
each R s p [] fs = tt
each R s p (x ∷ xs) [] = tt
each R s p (x ∷ xs) (f ∷ fs) = (one R s f p x, each R s (p +ₚ bytes_of R) xs fs)

pub slots_send : (R : RattleType) → IsSend R → IsSend (places.the_row R)
slots_send R s =
    let O = places.the_type R in
    let all : AllSend (fields O) = (pointer_send, (number_send, tt)) in
    owning_send O all (λ d. (tt, inside (slots_ptr d) _ (each R s (slots_ptr d) (slots_items d) (slots_filled d))))
    (λ k. quiet (to O) (exits_of k (fields O)) ((struct_send (shape O) all).leaving k))

-- ---- the right to free their block

pub lease_send : (R : RattleType) → IsSend (lease.the_row R Heap.the_row ghosts)
lease_send R =
    let O = lease.the_type R Heap.the_row ghosts in
    let all : AllSend (fields O) = (pointer_send, (number_send, (search sendable, tt))) in
    owning_send O all (λ d. heap.frees.frees (lease_heap d) (raw (ty_array (lone R.mir) (lease_len d))) (lease_ptr d))
    (λ k. quiet (to O) (exits_of k (fields O)) ((struct_send (shape O) all).leaving k))

pub ruleset sent_words = (slots_send, lease_send)
