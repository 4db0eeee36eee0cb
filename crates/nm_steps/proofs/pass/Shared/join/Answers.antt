use Rattle.std.proofs.Common.{rules, sym, ap, subst, arith, ◌∙◌, ◌≡◌}
use Rattle.nm_edge.specs.Layouts.{IsLayout}
use Rattle.nm_steps.specs.Rules.{knowledge}
use Rattle.nm_steps.specs.Steps.{PassView, HasEmptyHands}
use Rattle.nm_steps.proofs.Cutting.{joins}
use Rattle.nm_steps.proofs.JoinedPasses.{joined_tied, joined_view, joined_past, joined_heard, joined_stored, joined_of_stores}
use Rattle.nm_steps.proofs.Tying.{may_tie, seen_with_values}
use Rattle.nm_steps.proofs.pass.Shared.join.Goals as goal

pub join_seat-requires : goal.join_seat-requires
join_seat-requires c = (
  search rules,
  search rules,
  c.other.invariant.empty,
  omega (arith, c.self.invariant.laid.words_are),
  joins _ _ _ _ _ c.pass.invariant.alive c.other.invariant.alive
      (subst (λ (p : PassView). HasEmptyHands (knowledge p.view)) (sym c.other.view_is) c.requires.hands),
)

-- the joined view's layout is the table's, and it is alive
pub load-requires : goal.load-requires
load-requires c =
    may_tie _ _ _ _ _ c.self.invariant.laid (search rules)
    (ap (λ m. m.0.resigned) c.join_seat.ensures.2 ∙ c.pass.invariant.alive)
    (ap (λ m. m.1) c.join_seat.ensures.2 ∙ c.pass.invariant.empty)
    (ap (λ m. m.0.layout) c.join_seat.ensures.2 ∙ search rules) c.epoch-epoch.ensures

pub invariant_of-result : goal.invariant_of-result
invariant_of-result c = joined_tied c.pass.inside.seat c.join_seat.new.seat c.load.new.seat _ _ _
    c.other.inside.seat.me.0 c.pass.invariant c.join_seat.ensures.2 c.load.ensures.2.0 c.load.ensures.2.1
    c.load.ensures.2.2 c.load.ensures.2.4

pub returns-clause-joined : goal.returns-clause-joined
returns-clause-joined c = rw (← c.pass.view_is, ← c.other.view_is) (λ i. record {
  table = (c.load.ensures.0 ∙ c.join_seat.ensures.0) i;
  seat = (c.load.ensures.1 ∙ c.join_seat.ensures.1) i;
  view = joined_view c.pass.inside.seat c.join_seat.new.seat c.load.new.seat _ _ _ c.other.inside.seat.me.0
      c.pass.invariant c.join_seat.ensures.2 c.load.ensures.2.0 c.load.ensures.2.1 i;
})

pub returns-clause-past : goal.returns-clause-past
returns-clause-past c = record {
  goes_on = rw (← c.pass.view_is)
      (joined_past c.pass.inside.seat c.join_seat.new.seat c.load.new.seat _ _ _ c.other.inside.seat.me.0
      c.pass.invariant c.join_seat.ensures.2 c.load.ensures.2.0 c.load.ensures.2.1);
}

pub returns-clause-heard : goal.returns-clause-heard
returns-clause-heard c = record {
  goes_on = rw (← c.other.view_is)
      (joined_heard c.pass.inside.seat c.join_seat.new.seat c.load.new.seat _ _ _ c.other.inside.seat.me.0
      c.pass.invariant c.join_seat.ensures.2 c.load.ensures.2.0 c.load.ensures.2.1);
}

pub returns-clause-stores : goal.returns-clause-stores
returns-clause-stores c = rw (← c.pass.view_is) (joined_stored c.pass.inside.seat c.join_seat.new.seat
    c.load.new.seat _ _ _ c.other.inside.seat.me.0 c.pass.invariant c.join_seat.ensures.2 c.load.ensures.2.0
    c.load.ensures.2.1)

pub returns-clause-heard_stores : goal.returns-clause-heard_stores
returns-clause-heard_stores c = rw (← c.other.view_is)
    (joined_of_stores c.pass.inside.seat c.join_seat.new.seat c.load.new.seat _ _ _ c.other.inside.seat.me.0
    c.pass.invariant c.join_seat.ensures.2 c.load.ensures.2.0 c.load.ensures.2.1)

pub returns-clause-values : goal.returns-clause-values
returns-clause-values c = rw (← c.self.view_is) (λ values. seen_with_values _ _
    (subst IsLayout (let same : c.pass.inside.seat.me.0.layout ≡ c.self.inside.layout = search rules in same)
    c.pass.invariant.fits) values c.load.ensures.2.5)
