use Rattle.std.proofs.Common.{◌∙◌, ap}
use Rattle.nm_set_c.specs.declared.place.Place.{Place}
use Rattle.nm_set_c.proofs.Holds.{is_closed}
use Rattle.nm_set_c.proofs.handle.Handle.shut.Goals as goal

pub returns : goal.returns
returns c = is_closed c.leave.new.self
    (ap (λ (p : Place). p.held) c.leave.ensures.place ∙ c.requires.emptied) c.leave.ensures.used
