use Rattle.std.proofs.Common.{rules}
use Rattle.nm_lending.proofs.Moves.{begins}
use Rattle.nm_lending.proofs.lending.Lending.new.Goals as goal

pub new-requires : goal.new-requires
new-requires g c = begins g.P.LendRule.resident g.P.LendRule.goes c.args.site.now c.as_slice.result.now
    c.args.values.items (search rules) c.requires
