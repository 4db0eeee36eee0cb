use Rattle.std.proofs.Common.{rules}
use Rattle.nm_lending.proofs.Moves.{comes}
use Rattle.nm_lending.proofs.lending.Lending.caller.Goals as goal

pub load_new_seat-pass-requires : goal.load_new_seat-pass-requires
load_new_seat-pass-requires g c = (
  search rules,
  comes g.P.LendRule.resident g.P.LendRule.goes
      c.self.inside.table.shared.key c.self.inside.table.shared.table_id.slots 0,
)
