use Rattle.std.proofs.Common.{◌≡◌, ◌∙◌, ◌<◌, sym, ap, subst}
use Rattle.atomic_table.specs.Seated.{TableId}
use Rattle.nm_lending.specs.Views.{LoanView, LendingView}
use Rattle.nm_lending.proofs.Moves.{gives_up}
use Rattle.nm_lending.proofs.Passes.{has_word, idle_again}
use Rattle.nm_lending.proofs.lending.Lending.retire.Goals as goal

pub store-requires : goal.store-requires
store-requires g c =
    let loan = c.loan.inside in
    let same : loan.pass.table_id ≡ c.self.inside.table.shared.table_id =
    ap (λ (l : LoanView g.row.T.Denot g.row.C.Denot). l.table) c.loan.view_is
    ∙ (c.requires.table ∙ sym (ap (λ (s : LendingView g.row.C.Denot). s.table) c.self.view_is)) in (
      same,
      has_word loan.pass.table_id c.self.inside.table.shared.table_id loan.seat same c.self.invariant
          c.loan.invariant.within,
      gives_up g.P.LendRule.resident g.P.LendRule.goes c.self.inside.table.shared.key
          c.self.inside.table.shared.table_id.slots loan.pass.id loan.seat loan.turn loan.pass.me
          c.loan.invariant.value c.loan.invariant.left
          (subst (λ (t : TableId). loan.seat < t.slots) same c.loan.invariant.within)
          c.loan.invariant.knows c.loan.invariant.has,
    )

pub invariant_of-result : goal.invariant_of-result
invariant_of-result g c = idle_again c.store.new.seat c.loan.inside.pass.me c.loan.inside.seat c.loan.invariant.left
    c.loan.inside.pass.me.0.visits c.loan.inside.pass.me.0.looks c.store.ensures.2 c.loan.invariant.has
