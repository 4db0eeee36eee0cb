use Rattle.std.proofs.Common.{◌≡◌, ◌∙◌, ◌<◌, ◌+◌, ◌*◌, ℕ, suc, sym, ap, subst, arith}
use Rattle.std.specs.Prelude.{Some}
use Rattle.atomic_table.specs.Seated.{TableId}
use Rattle.nm_lending.specs.declared.knowing.Known.{Known}
use Rattle.nm_lending.specs.Views.{LoanView, LendingView}
use Rattle.nm_lending.proofs.Moves.{gives_value}
use Rattle.nm_lending.proofs.Passes.{has_word, loan_still, puts, back_again}
use Rattle.nm_lending.proofs.lending.Lending.give_back.Goals as goal

pub store-requires : goal.store-requires
store-requires g c =
    let loan = c.loan.inside in
    let left = ap (λ (l : LoanView g.row.T.Denot g.row.C.Denot). l.table) c.loan.view_is in
    let own = ap (λ (s : LendingView g.row.C.Denot). s.table) c.self.view_is in
    let same : c.loan.inside.pass.table_id ≡ c.self.inside.table.shared.table_id = left
    ∙ (c.requires.table ∙ sym own) in
    let less = has_word c.loan.inside.pass.table_id c.self.inside.table.shared.table_id c.loan.inside.seat same
    c.self.invariant c.loan.invariant.within in
    let within : c.loan.inside.seat < c.self.inside.table.shared.table_id.slots = subst
    (λ (t : TableId). c.loan.inside.seat < t.slots) same c.loan.invariant.within in
    let site = sym (ap (λ (s : LendingView g.row.C.Denot). s.site) c.self.view_is) in
    let seat = sym (ap (λ (l : LoanView g.row.T.Denot g.row.C.Denot). l.seat) c.loan.view_is) in
    let same_turn : c.loan.inside.turn ≡ c.args.loan.turn =
    ap (λ (l : LoanView g.row.T.Denot g.row.C.Denot). l.turn) c.loan.view_is in
    let next : c.args.loan.turn + 1 ≡ suc c.loan.inside.turn = omega (arith, same_turn) in
    let here = subst (λ (d : g.row.C.Denot). g.P.LendRule.resident d c.loan.inside.seat (suc c.loan.inside.turn)
    c.args.value) site (subst (λ (p : ℕ × ℕ). g.P.LendRule.resident c.args.self.now.site p.0 p.1 c.args.value)
    (λ l. (seat l, next l)) c.requires.resident) in
    let was : c.loan.inside.pass.me.0.value ≡ Some c.loan.invariant.value =
    ap (λ (v : Known g.row.T.Denot g.row.C.Denot). v.value) c.loan.invariant.knows in
    let taken : c.args.loan.taken ≡ Some c.loan.invariant.value =
    sym (ap (λ (l : LoanView g.row.T.Denot g.row.C.Denot). l.taken) c.loan.view_is) ∙ was in
    let on = subst (λ (d : g.row.C.Denot). g.P.LendRule.goes d c.loan.invariant.value c.args.value) site
    (c.requires.goes c.loan.invariant.value taken) in (
      c.exchange.ensures.0 ∙ same,
      less,
      gives_value g.P.LendRule.resident g.P.LendRule.goes c.self.inside.table.shared.key
          c.self.inside.table.shared.table_id.slots c.exchange.new.seat.id c.loan.inside.seat c.loan.inside.turn
          (2 * c.loan.inside.turn + 3) c.exchange.new.seat.me c.loan.invariant.value c.args.value
          c.exchange.new.seat.me.0.visits within (omega arith)
          (loan_still c.exchange.new.seat.me c.loan.inside.pass.me c.loan.inside.seat c.loan.inside.turn
          c.loan.invariant.value (Some c.args.value) c.exchange.ensures.3 c.loan.invariant.knows)
          (puts c.exchange.new.seat.me c.loan.inside.pass.me c.loan.inside.seat
          (Some c.args.value) c.loan.invariant.left c.exchange.ensures.3 c.loan.invariant.has) here on,
    )

pub invariant_of-result : goal.invariant_of-result
invariant_of-result g c =
    let m = c.exchange.new.seat.me in
    back_again c.store.new.seat m c.loan.inside.seat c.loan.inside.turn (c.loan.inside.turn + 1) c.loan.invariant.value
    c.args.value _ _ c.store.ensures.2
    (loan_still m c.loan.inside.pass.me c.loan.inside.seat c.loan.inside.turn c.loan.invariant.value
    (Some c.args.value) c.exchange.ensures.3 c.loan.invariant.knows)
    (puts m c.loan.inside.pass.me c.loan.inside.seat (Some c.args.value) c.loan.invariant.left c.exchange.ensures.3
    c.loan.invariant.has) (omega arith)
    (subst (λ (t : TableId). c.loan.inside.seat < t.slots) (sym (c.store.ensures.0 ∙ c.exchange.ensures.0))
    c.loan.invariant.within)
