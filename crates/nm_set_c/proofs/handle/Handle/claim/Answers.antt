use Rattle.std.proofs.Common.{◌≡◌, sym, ap, ◌∙◌}
use Rattle.nm_set_c.specs.Handles.{held_by}
use Rattle.nm_set_c.specs.declared.place.Place.{Place}
use Rattle.nm_set_c.proofs.Holds.{is_closed, is_open, refused_used, refused_closed}
use Rattle.nm_set_c.proofs.handle.Handle.claim.Goals as goal

pub returns-in_default-clause-refused : goal.returns-in_default-clause-refused
returns-in_default-clause-refused c =
    refused_used c.args.self.now c.enter.new.self c.in_default.ensures.refused c.enter.ensures.place
    c.enter.ensures.used

pub returns-in-Some-take-clause-claimed : goal.returns-in-Some-take-clause-claimed
returns-in-Some-take-clause-claimed c = is_open c.args.self.now c.in-Some-take.owner.value
    (ap (λ (p : Place). p.held) (sym c.enter.ensures.place) ∙ c.in-Some-take.ensures.taken) c.in-Some.ensures.free

pub returns-in-None-clause-refused : goal.returns-in-None-clause-refused
returns-in-None-clause-refused c = refused_closed (held_by c.args.self.now) (held_by c.leave.new.self)
    (is_closed c.args.self.now
    (ap (λ (p : Place). p.held) (sym c.enter.ensures.place) ∙ c.in-None.ensures.taken) c.in-Some.ensures.free)
    (is_closed c.leave.new.self (ap (λ (p : Place). p.held) c.leave.ensures.place ∙ c.take.ensures.left)
    c.leave.ensures.used)
