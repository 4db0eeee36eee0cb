use Rattle.std.proofs.Common.{◌≡◌, ◌∙◌, ◌+◌, ◌≤◌, ◌<◌, ℕ, ap, arith}
use Rattle.nm_lending.specs.Views.{CallerView, NoneIsLent}
use Rattle.nm_lending.proofs.Passes.{in_next_part, none_of_both, none_of_some}
use Rattle.nm_lending.proofs.lending.Lending.lend_between.Goals as goal

pub loop-seat-preserved : goal.loop-seat-preserved
loop-seat-preserved g c =
    let inv = c.loop-seat.invariant in
    let seat : ℕ = c.loop-seat.seat in
    let refused : NoneIsLent c.loop-seat.caller (λ i. i ≡ seat) c.in-Err.back = c.in-Err.ensures.refused in
    record {
      table = ap (λ (v : CallerView g.row.T.Denot g.row.C.Denot). v.table) refused.more ∙ inv.table;
      site = ap (λ (v : CallerView g.row.T.Denot g.row.C.Denot). v.site) refused.more ∙ inv.site;
      visits = ap (λ (v : CallerView g.row.T.Denot g.row.C.Denot). v.visits) refused.more ∙ inv.visits;
      none = none_of_both c.args.caller c.loop-seat.caller c.in-Err.back
          (λ i. (c.args.from ≤ i) × (i < seat)) (λ i. i ≡ seat) (λ i. (c.args.from ≤ i) × (i < seat + 1))
          inv.none refused (in_next_part c.args.from seat);
    }

pub returns-clause-refused : goal.returns-clause-refused
returns-clause-refused g c =
    let seat : ℕ = c.loop-seat.seat in
    none_of_some c.args.caller c.loop-seat.caller (λ i. (c.args.from ≤ i) × (i < seat))
    (λ i. (c.args.from ≤ i) × (i < c.args.below))
    (λ i t. let low = t.1 in (t.0, omega (arith, low, c.loop-seat-test.false))) c.loop-seat.invariant.none
