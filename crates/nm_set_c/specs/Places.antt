-- What a handle owns.
use base.Fml.{Fml, feq}
use base.Stored.{Coded}
use denote.RawPtr.{Ptr, null_ptr}
use Rattle.std.specs.Prelude.{Option, Some, None}
use Rattle.std.specs.Coded.{coded_option}
use Rattle.std.specs.Box.Ownership.{box_owns}
use Rattle.std.specs.Global.{Global}
use Rattle.std.specs.contracts.impls.GlobalAllocator.TheImpl.{ghosts}
use Rattle.nm_set_c.specs.contracts.owner.Owner.{the_row}

-- what the first word of a handle owns: nothing if the word is null, else the box of its owner
abbrev pub owned_at : Global → Ptr → Option the_row.Denot → Fml
owned_at alloc p None = feq Ptr p null_ptr
owned_at alloc p (Some x) = box_owns (ghosts.dealloc_token alloc) the_row p x

abbrev pub coded_owner : Coded (Option the_row.Denot)
coded_owner = coded_option the_row.coded
