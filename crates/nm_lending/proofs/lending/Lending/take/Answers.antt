use Rattle.std.proofs.Common.{rules, ◌≡◌, ◌∙◌, ◌*◌, ◌+◌, ◌<◌, List, [], ◌∷◌, ℕ, refl, sym, ap, subst}
use Rattle.std.specs.Prelude.{Option, Some, None}
use Rattle.atomic_table.specs.Table.{rest}
use Rattle.nm_lending.specs.declared.knowing.Known.{Known}
use Rattle.nm_lending.specs.Views.{CallerView, IsLent, LendingView, LoanView}
use Rattle.nm_lending.proofs.Moves.{takes_value, same_value, no_value}
use Rattle.nm_lending.proofs.Passes.{has_slot, holds, found, is_loan, is_lent, knows_same, holds_same}
use Rattle.nm_lending.proofs.lending.Lending.take.Goals as goal

pub compare_exchange-found-requires : goal.compare_exchange-found-requires
compare_exchange-found-requires g c = (
  search rules,
  search rules,
  takes_value g.P.LendRule.resident
      g.P.LendRule.goes c.self.inside.table.shared.key c.self.inside.table.shared.table_id.slots c.caller.inside.pass.id
      c.args.seat (2 * c.args.turn + 1) c.caller.inside.pass.me c.args.turn refl,
)

pub exchange-requires : goal.exchange-requires
exchange-requires g c =
    let up = c.compare_exchange-found.ensures.2.0 c.if-found-old.false c.args.turn refl in (
      search rules,
      (
        Some up.0,
        holds c.compare_exchange-found.new.seat.me.1 c.caller.inside.pass.me.1 c.args.seat (Some up.0)
            (holds_same up.1),
      ),
    )

pub invariant_of-result-in-Some : goal.invariant_of-result-in-Some
invariant_of-result-in-Some g c =
    let up = c.compare_exchange-found.ensures.2.0 c.if-found-old.false c.args.turn refl in
    let table = ap (λ (l : CallerView g.row.T.Denot g.row.C.Denot). l.table) c.caller.view_is in
    let same : c.exchange.new.seat.table_id ≡ c.args.self.now.table = c.exchange.ensures.0
    ∙ (c.compare_exchange-found.ensures.0 ∙ (table ∙ c.requires.table)) in
    let own = ap (λ (s : LendingView g.row.C.Denot). s.table) c.self.view_is in
    let less : c.args.seat < c.exchange.new.seat.table_id.slots = has_slot c.exchange.new.seat.table_id
    c.self.inside.table.shared.table_id c.args.self.now.table c.args.seat same own c.self.invariant
    c.requires.within in
    let empty : rest c.compare_exchange-found.new.seat.me.1 ≡ [] = ap rest (holds_same up.1) ∙ c.caller.invariant.has in
    is_loan c.exchange.new.seat c.compare_exchange-found.new.seat.me.0 c.args.seat c.args.turn None up.0
    c.caller.inside.pass.me.0.site c.caller.inside.pass.me.0.visits c.caller.inside.pass.me.0.looks
    (c.exchange.ensures.3 ∙ ap (λ (l : List (ℕ × Option g.row.T.Denot)).
    (c.compare_exchange-found.new.seat.me.0, (c.args.seat, None) ∷ l)) empty) (knows_same up.1) less c.requires.few

pub unreachable-requires : goal.unreachable-requires
unreachable-requires g c =
    let up = c.compare_exchange-found.ensures.2.0 c.if-found-old.false c.args.turn refl in
    let is = found c.compare_exchange-found.new.seat.me.1 c.caller.inside.pass.me.1 c.args.seat (Some up.0)
    c.exchange.result (holds_same up.1) c.exchange.ensures.2 in
    no_value c.exchange.result up.0 c.in-None.is is

pub returns-clause-lent : goal.returns-clause-lent
returns-clause-lent g c =
    let up = c.compare_exchange-found.ensures.2.0 c.if-found-old.false c.args.turn refl in
    let is = found c.compare_exchange-found.new.seat.me.1 c.caller.inside.pass.me.1 c.args.seat (Some up.0)
    c.exchange.result (holds_same up.1) c.exchange.ensures.2 in
    let same = same_value up.0 c.in-Some.value (sym is ∙ c.in-Some.is) in
    let view = c.caller.view_is in
    let table = ap (λ (l : CallerView g.row.T.Denot g.row.C.Denot). l.table) view in
    let site = ap (λ (l : CallerView g.row.T.Denot g.row.C.Denot). l.site) view ∙ c.requires.site in
    let visits = ap (λ (l : CallerView g.row.T.Denot g.row.C.Denot). l.visits) view in
    let knows : c.exchange.new.seat.me.0 ≡ _ = knows_same c.exchange.ensures.3 ∙ knows_same up.1 in
    let here : (d : g.row.C.Denot) → c.caller.inside.pass.me.0.site ≡ Some d
    → g.P.LendRule.resident d c.args.seat c.args.turn c.in-Some.value = λ d e. subst
    (λ (x : g.row.T.Denot). g.P.LendRule.resident d c.args.seat c.args.turn x) same (up.2.here d e) in
    let loan : LoanView g.row.T.Denot g.row.C.Denot = record {
      table = c.exchange.new.seat.table_id;
      site = c.exchange.new.seat.me.0.site;
      seat = c.args.seat;
      turn =
          c.args.turn;
      taken = c.exchange.new.seat.me.0.value;
      visits = c.exchange.new.seat.me.0.visits;
    } in
    subst (λ bs. IsLent g.P.LendRule.resident c.args.self.now c.args.seat bs c.in-Some.value loan) visits
    (is_lent g.P.LendRule.resident c.args.self.now c.exchange.new.seat.me.0 c.caller.inside.pass.me.0.site c.args.seat
    c.args.turn up.0 c.in-Some.value c.caller.inside.pass.me.0.visits c.caller.inside.pass.me.0.looks loan
    (c.exchange.ensures.0 ∙ (c.compare_exchange-found.ensures.0 ∙ (table ∙ c.requires.table))) site refl refl refl refl
    refl knows same here)

pub returns-clause-same : goal.returns-clause-same
returns-clause-same g c x left seat turn =
    let up = c.compare_exchange-found.ensures.2.0 c.if-found-old.false c.args.turn refl in
    let is = found c.compare_exchange-found.new.seat.me.1 c.caller.inside.pass.me.1 c.args.seat (Some up.0)
    c.exchange.result (holds_same up.1) c.exchange.ensures.2 in
    let same = same_value up.0 c.in-Some.value (sym is ∙ c.in-Some.is) in
    let view = c.caller.view_is in
    let knows = c.caller.invariant.knows in
    sym same ∙ up.2.same x (ap (λ (v : Known g.row.T.Denot g.row.C.Denot). v.out) knows)
    (ap (λ (l : CallerView g.row.T.Denot g.row.C.Denot). l.left) view ∙ left)
    (ap (λ (v : Known g.row.T.Denot g.row.C.Denot). v.seat) knows
    ∙ (ap (λ (l : CallerView g.row.T.Denot g.row.C.Denot). l.seat) view ∙ seat))
    (ap (λ (v : Known g.row.T.Denot g.row.C.Denot). v.turn) knows
    ∙ (ap (λ (l : CallerView g.row.T.Denot g.row.C.Denot). l.turn) view ∙ turn))
