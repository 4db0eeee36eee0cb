use Rattle.std.proofs.Common.{rules, arith}
use Rattle.nm_steps.proofs.Cutting.{writes_down}
use Rattle.nm_steps.proofs.pass.Shared.note.Goals as goal

pub split_seat-requires : goal.split_seat-requires
split_seat-requires c = (search rules, omega (arith, c.self.invariant.laid.words_are), writes_down _ _ _)

pub returns-clause-same : goal.returns-clause-same
returns-clause-same c = rw (← c.pass.view_is) (λ i.
    record { table = c.split_seat.ensures.0 i; seat = c.split_seat.ensures.1 i; view = (c.split_seat.ensures.2 i).0 })
