-- A place may go to another thread, as the owner that it holds may.
use mir.Raw.{raw}
use base.Shift.{Keyless}
use denote.Memory.{lone}
use denote.RawPtr.{Ptr}
use denote.Struct.Struct.{exits_of}
use denote.Struct.Owning.{shape, fields, to}
use denote.Param.Send.{IsSend, AllSend, owning_send, struct_send, sendable}
use Rattle.std.specs.Prelude.{Option, Some, None}
use Rattle.std.specs.Global.{Global}
use Rattle.std.proofs.Crossing as heap
use Rattle.std_alloc.proofs.SendSync.{quiet, lies}
use Rattle.std.proofs.alloc.Global.TheSendSync as global
use Rattle.nm_set_c.specs.contracts.owner.Owner as inner
use Rattle.nm_set_c.proofs.Sending.{owner_send}
use Rattle.nm_set_c.specs.Places.{owned_at}
use Rattle.nm_set_c.specs.contracts.place.Place.{the_row, the_type}

held : (a : Global) (p : Ptr) (x : Option inner.the_row.Denot) → Keyless (owned_at a p x)
held a p None = tt
held a p (Some x) = (lies inner.the_row owner_send p x, heap.frees.frees a (raw (lone inner.the_row.mir)) p)

pub send : IsSend the_row
send =
    let all : AllSend (fields the_type) = (search sendable, (global.the_field_send, tt)) in
    owning_send the_type all (λ d. held d.alloc d.at d.held)
    (λ k. quiet (to the_type) (exits_of k (fields the_type)) ((struct_send (shape the_type) all).leaving k))
