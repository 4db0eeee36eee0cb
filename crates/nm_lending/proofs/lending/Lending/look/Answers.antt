use Rattle.std.proofs.Common.{◌∙◌, ◌<◌, sym, ap, subst}
use Rattle.atomic_table.specs.Seated.{TableId}
use Rattle.nm_lending.specs.Views.{CallerView, LendingView}
use Rattle.nm_lending.proofs.Moves.{looks}
use Rattle.nm_lending.proofs.lending.Lending.look.Goals as goal

pub load-requires : goal.load-requires
load-requires g c =
    let own = ap (λ (s : LendingView g.row.C.Denot). s.table) c.self.view_is in
    let same = ap (λ (t : CallerView g.row.T.Denot g.row.C.Denot). t.table) c.caller.view_is
    ∙ (c.requires.table ∙ sym own) in (
      same,
      subst (λ (t : TableId). c.args.seat < t.words) (sym own) c.requires.within,
      looks g.P.LendRule.resident
          g.P.LendRule.goes c.self.inside.table.shared.key c.self.inside.table.shared.table_id.slots
          c.caller.inside.pass.id c.args.seat c.caller.inside.pass.me,
    )
