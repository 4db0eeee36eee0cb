use Rattle.std.proofs.Common.{◌≡◌, ℕ, ◌+◌, ◌-◌, ◌≤◌, List, subst, ap, ◌∙◌, arith}
use Rattle.nm_edge.specs.Layouts.{Layout}
use Rattle.nm_model.specs.Walks.{Entry}
use Rattle.nm_steps.specs.Steps.{PassView}
use Rattle.nm_steps.specs.Rows.{DoneInTurn, FoundTaken, shown_taken}
use Rattle.nm_steps.specs.Rules.{knowledge}
use Rattle.nm_steps.proofs.Rows.{left_by_look, few_shown}
use Rattle.nm_steps.proofs.pass.Shared.pass_row.Goals as goal

pub overflow_add-result : goal.overflow_add-result
overflow_add-result c =
    let few = few_shown c.look_at_row-found.result c.args.from c.args.most in
    let is = c.taken_in_row.ensures in
    let high = c.requires.high in
    let nodes : c.pass.inside.seat.me.0.layout.nodes
    ≡ c.args.self.now.layout.nodes = ap (λ (p : PassView). p.view.layout.nodes) c.pass.view_is
    ∙ ap (λ (l : Layout). l.nodes) c.requires.own.layout in
    let most = c.pass.invariant.fits.most in
    let less : c.args.from + c.taken_in_row.result ≤ 4294967295 = omega (arith, few, is, high, nodes, most) in
    grind (arith, less)

pub invariant_of-pass : goal.invariant_of-pass
invariant_of-pass c =
    let high = c.requires.high in
    let nodes : c.pass.inside.seat.me.0.layout.nodes
    ≡ c.args.self.now.layout.nodes = ap (λ (p : PassView). p.view.layout.nodes) c.pass.view_is
    ∙ ap (λ (l : Layout). l.nodes) c.requires.own.layout in
    (left_by_look _ _ _ _ _ _ _ _ c.pass.invariant c.requires.low (omega (arith, high, nodes))
    c.look_at_row-found.ensures).tied

pub returns-clause-on : goal.returns-clause-on
returns-clause-on c =
    let high = c.requires.high in
    let nodes : c.pass.inside.seat.me.0.layout.nodes
    ≡ c.args.self.now.layout.nodes = ap (λ (p : PassView). p.view.layout.nodes) c.pass.view_is
    ∙ ap (λ (l : Layout). l.nodes) c.requires.own.layout in
    rw (← c.pass.view_is) (left_by_look _ _ _ _ _ _ _ _ c.pass.invariant c.requires.low (omega (arith, high, nodes))
    c.look_at_row-found.ensures).on

pub returns-clause-most : goal.returns-clause-most
returns-clause-most c =
    let few = few_shown c.look_at_row-found.result c.args.from c.args.most in
    let is = c.taken_in_row.ensures in
    omega (arith, few, is)

pub returns-clause-passed : goal.returns-clause-passed
returns-clause-passed c =
    let high = c.requires.high in
    let nodes : c.pass.inside.seat.me.0.layout.nodes
    ≡ c.args.self.now.layout.nodes = ap (λ (p : PassView). p.view.layout.nodes) c.pass.view_is
    ∙ ap (λ (l : Layout). l.nodes) c.requires.own.layout in
    let is = c.taken_in_row.ensures in
    let count : shown_taken c.look_at_row-found.result c.args.from c.args.most
    ≡ c.args.from + c.taken_in_row.result - c.args.from = omega (arith, is) in
    let old : c.pass.inside.seat.me.0.log ≡ c.args.pass.now.view.log = ap (λ (p : PassView). p.view.log)
    c.pass.view_is in
    subst (λ (k : ℕ). DoneInTurn FoundTaken c.args.from k c.args.pass.now.view.log
    c.look_at_row-found.new.seat.me.0.log) count
    (subst (λ (log : List Entry). DoneInTurn FoundTaken c.args.from
    (shown_taken c.look_at_row-found.result c.args.from c.args.most) log c.look_at_row-found.new.seat.me.0.log) old
    (left_by_look _ _ _ _ _ _ _ _ c.pass.invariant c.requires.low (omega (arith, high, nodes))
    c.look_at_row-found.ensures).passed)

pub returns-clause-learned : goal.returns-clause-learned
returns-clause-learned c =
    let high = c.requires.high in
    let nodes : c.pass.inside.seat.me.0.layout.nodes
    ≡ c.args.self.now.layout.nodes = ap (λ (p : PassView). p.view.layout.nodes) c.pass.view_is
    ∙ ap (λ (l : Layout). l.nodes) c.requires.own.layout in
    (left_by_look _ _ _ _ _ _ _ _ c.pass.invariant c.requires.low (omega (arith, high, nodes))
    c.look_at_row-found.ensures).learned ∙ ap (λ (p : PassView). knowledge p.view) c.pass.view_is
