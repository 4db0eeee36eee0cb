use Rattle.std.proofs.Common.{◌∙◌, ◌<◌, sym, ap, subst}
use Rattle.atomic_table.specs.Seated.{TableId}
use Rattle.nm_lending.specs.declared.knowing.Known.{Known}
use Rattle.nm_lending.specs.Views.{CallerView, LendingView}
use Rattle.nm_lending.proofs.Moves.{joins}
use Rattle.nm_lending.proofs.lending.Lending.join.Goals as goal

pub join_seat-requires : goal.join_seat-requires
join_seat-requires g c =
    let own = ap (λ (s : LendingView g.row.C.Denot). s.table) c.self.view_is in
    let same = ap (λ (t : CallerView g.row.T.Denot g.row.C.Denot). t.table) c.caller.view_is
    ∙ (c.requires.table ∙ sym own) in
    let same' = ap (λ (t : CallerView g.row.T.Denot g.row.C.Denot). t.table) c.other.view_is
    ∙ (c.requires.other ∙ sym own) in (
      same,
      same',
      c.other.invariant.has,
      subst (λ (t : TableId). 0 < t.words) (sym own) c.requires.within,
      joins g.P.LendRule.resident g.P.LendRule.goes c.self.inside.table.shared.key c.caller.inside.pass.id
          c.other.inside.pass.id c.caller.inside.pass.me.0 c.other.inside.pass.me.0
          (ap (λ (v : Known g.row.T.Denot g.row.C.Denot). v.out) c.caller.invariant.knows)
          (ap (λ (v : Known g.row.T.Denot g.row.C.Denot). v.out) c.other.invariant.knows),
    )
