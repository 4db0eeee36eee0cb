use Rattle.std.proofs.Common.{◌∙◌, ap}
use Rattle.nm_set_c.specs.declared.place.Place.{Place}
use Rattle.nm_set_c.proofs.Holds.{is_open}
use Rattle.nm_set_c.proofs.handle.Handle.put.Goals as goal

pub returns : goal.returns
returns c = is_open c.leave.new.self c.args.owner.value
    (ap (λ (p : Place). p.held) c.leave.ensures.place ∙ c.fill.ensures.held) c.leave.ensures.used
