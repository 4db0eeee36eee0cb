use Rattle.std.proofs.Common.{sym, ap, ◌∙◌}
use Rattle.nm_set_c.specs.Handles.{held_by}
use Rattle.nm_set_c.specs.declared.place.Place.{Place}
use Rattle.nm_set_c.proofs.Holds.{is_closed, is_open, not_opened_used, not_opened_open}
use Rattle.nm_set_c.proofs.handle.Handle.reserve.Goals as goal

pub returns-in_default-clause-refused : goal.returns-in_default-clause-refused
returns-in_default-clause-refused c = not_opened_used c.args.self.now c.enter.new.self c.in_default.ensures.refused
    c.enter.ensures.place c.enter.ensures.used

pub returns-in-Some-take-clause-refused : goal.returns-in-Some-take-clause-refused
returns-in-Some-take-clause-refused c =
    not_opened_open c.in-Some-take.owner.value (held_by c.args.self.now) (held_by c.put.new.self)
    (is_open c.args.self.now c.in-Some-take.owner.value
    (ap (λ (p : Place). p.held) (sym c.enter.ensures.place) ∙ c.in-Some-take.ensures.taken) c.in-Some.ensures.free)
    c.put.ensures

pub returns-in-None-clause-reserved : goal.returns-in-None-clause-reserved
returns-in-None-clause-reserved c = is_closed c.args.self.now
    (ap (λ (p : Place). p.held) (sym c.enter.ensures.place) ∙ c.in-None.ensures.taken) c.in-Some.ensures.free
