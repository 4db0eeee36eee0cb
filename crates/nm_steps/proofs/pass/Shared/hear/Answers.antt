use Rattle.std.proofs.Common.{rules, ap, arith, ◌∙◌, ◌≡◌, subst}
use Rattle.nm_edge.specs.Layouts.{IsLayout}
use Rattle.nm_steps.proofs.Cutting.{hears}
use Rattle.nm_steps.proofs.HeardPasses.{heard_tied, heard_view, heard_past, heard_note, heard_stored, heard_of_stores}
use Rattle.nm_steps.proofs.Tying.{may_tie, seen_with_values}
use Rattle.nm_steps.proofs.pass.Shared.hear.Goals as goal

pub join_seat-requires : goal.join_seat-requires
join_seat-requires c = (
  search rules,
  search rules,
  c.note.invariant.1,
  omega
      (arith, c.self.invariant.laid.words_are),
  hears _ _ _ _ _ c.note.invariant.0,
)

-- the view that has heard is as it was but for what it heard
pub load-requires : goal.load-requires
load-requires c =
    may_tie _ _ _ _ _ c.self.invariant.laid (search rules)
    (ap (λ m. m.0.resigned) c.join_seat.ensures.2 ∙ c.pass.invariant.alive)
    (ap (λ m. m.1) c.join_seat.ensures.2 ∙ c.pass.invariant.empty)
    (ap (λ m. m.0.layout) c.join_seat.ensures.2 ∙ search rules) c.epoch-epoch.ensures

pub invariant_of-pass : goal.invariant_of-pass
invariant_of-pass c = heard_tied c.pass.inside.seat c.join_seat.new.seat c.load.new.seat _ _ _
    c.note.inside.seat.me.0 c.pass.invariant c.join_seat.ensures.2 c.load.ensures.2.0 c.load.ensures.2.1
    c.load.ensures.2.2 c.load.ensures.2.4

pub returns-clause-same : goal.returns-clause-same
returns-clause-same c = rw (← c.pass.view_is) (λ i. record {
  table = (c.load.ensures.0 ∙ c.join_seat.ensures.0) i;
  seat = (c.load.ensures.1 ∙ c.join_seat.ensures.1) i;
  view = heard_view c.pass.inside.seat c.join_seat.new.seat c.load.new.seat _ _ _ c.note.inside.seat.me.0
      c.pass.invariant c.join_seat.ensures.2 c.load.ensures.2.0 c.load.ensures.2.1 i;
})

pub returns-clause-past : goal.returns-clause-past
returns-clause-past c = record {
  goes_on = rw (← c.pass.view_is)
      (heard_past c.pass.inside.seat c.join_seat.new.seat c.load.new.seat _ _ _ c.note.inside.seat.me.0
      c.pass.invariant c.join_seat.ensures.2 c.load.ensures.2.0 c.load.ensures.2.1);
}

pub returns-clause-heard : goal.returns-clause-heard
returns-clause-heard c = rw (← c.note.view_is) (heard_note c.pass.inside.seat c.join_seat.new.seat c.load.new.seat _
    _ _ c.note.inside.seat.me.0 c.pass.invariant c.join_seat.ensures.2 c.load.ensures.2.0 c.load.ensures.2.1)

pub returns-clause-stores : goal.returns-clause-stores
returns-clause-stores c = rw (← c.pass.view_is) (heard_stored c.pass.inside.seat c.join_seat.new.seat c.load.new.seat
    _ _ _ c.note.inside.seat.me.0 c.pass.invariant c.join_seat.ensures.2 c.load.ensures.2.0 c.load.ensures.2.1)

pub returns-clause-heard_stores : goal.returns-clause-heard_stores
returns-clause-heard_stores c = rw (← c.note.view_is)
    (heard_of_stores c.pass.inside.seat c.join_seat.new.seat c.load.new.seat _ _ _ c.note.inside.seat.me.0
    c.pass.invariant c.join_seat.ensures.2 c.load.ensures.2.0 c.load.ensures.2.1)

pub returns-clause-values : goal.returns-clause-values
returns-clause-values c = rw (← c.self.view_is) (λ values. seen_with_values _ _
    (subst IsLayout (let same : c.pass.inside.seat.me.0.layout ≡ c.self.inside.layout = search rules in same)
    c.pass.invariant.fits) values c.load.ensures.2.5)
