use Rattle.std.proofs.Common.{◌≡◌, ◌≤◌, ◌<◌, ◌⊎◌, ℕ, inl, inr}
use Rattle.nm_lending.specs.Views.{NoneIsLent}
use Rattle.nm_lending.proofs.Passes.{in_one_part, none_of_both, of_error}
use Rattle.nm_lending.proofs.lending.Lending.lend_near.Goals.{then-first-seats, else-first-seats}
use Rattle.nm_lending.proofs.lending.Lending.lend_near.Goals as goal

pub returns-clause-refused : goal.returns-clause-refused
returns-clause-refused g c =
    let seats : ℕ = c.seats-seats.result in
    let least : ℕ = c.if-first-seats.least in
    let is : (least ≡ c.args.first) ⊎ (least ≡ seats) = elim c.if-first-seats.branch [
      | then-first-seats w ↦ inl w.least-is
      | else-first-seats w ↦ inr w.least-is
    ] in
    of_error c.lend_between-2.result (NoneIsLent c.in-Err.caller (λ i. (0 ≤ i) × (i < least)))
    (NoneIsLent c.args.caller (λ i. (i < c.args.self.now.table.words) × (i < 4294967295)))
    (λ d second. none_of_both c.args.caller c.in-Err.caller d (λ i. (c.args.first ≤ i) × (i < seats))
    (λ i. (0 ≤ i) × (i < least)) (λ i. (i < c.args.self.now.table.words) × (i < 4294967295)) c.in-Err.ensures.refused
    second (λ i t. in_one_part c.args.first least seats i is (c.seats-seats.ensures.all i t.0 t.1)))
    c.lend_between-2.ensures.refused
