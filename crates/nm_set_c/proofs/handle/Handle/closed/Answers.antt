use Rattle.std.proofs.Common.{refl}
use Rattle.nm_set_c.proofs.Holds.{is_closed}
use Rattle.nm_set_c.proofs.handle.Handle.closed.Goals as goal

pub returns : goal.returns
returns c = is_closed (record { place = c.closed.result; in_use = 0 }) c.closed.ensures refl
