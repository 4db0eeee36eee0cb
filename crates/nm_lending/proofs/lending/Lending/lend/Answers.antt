use Rattle.std.proofs.Common.{◌≡◌, ◌/◌, ℕ}
use Rattle.nm_lending.specs.Visits.{sitting}
use Rattle.nm_lending.specs.Views.{IsAnother, NoneIsLent}
use Rattle.nm_lending.proofs.Moves.{odd_sits}
use Rattle.nm_lending.proofs.Passes.{away_then, of_error}
use Rattle.nm_lending.proofs.lending.Lending.lend.Goals as goal

pub returns-clause-refused : goal.returns-clause-refused
returns-clause-refused g c =
    let found : ℕ = c.look-found.result in
    let after = c.look-found.new.caller in
    of_error c.take.result (IsAnother after c.args.seat (found / 2)) (NoneIsLent c.args.caller (λ i. i ≡ c.args.seat))
    (λ d other. away_then c.args.caller after d c.args.seat found (found / 2) c.look-found.ensures
    (odd_sits found c.if-found-eq0.false) other) c.take.ensures.refused
