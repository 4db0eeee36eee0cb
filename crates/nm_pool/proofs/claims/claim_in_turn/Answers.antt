use Rattle.std.proofs.Common.{◌≡◌, ◌+◌, ap, sym, subst, ◌∙◌, arith}
use Rattle.std.specs.Prelude.{None, Some}
use Rattle.nm_edge.specs.Layouts.{Layout}
use Rattle.nm_pool.specs.Claims.{IsClaimBetween, IsNearClaim}
use Rattle.nm_pool.proofs.AnyOrder.{in_answer, near_above, near_below, near_nowhere}
use Rattle.nm_pool.proofs.claims.claim_in_turn.Goals as goal

pub returns-in-Some-clause-part : goal.returns-in-Some-clause-part
returns-in-Some-clause-part c =
    let nodes : c.nodes-nodes.result ≡ c.args.shared.now.layout.nodes = c.nodes-nodes.ensures.nodes
    ∙ ap (λ (l : Layout). l.nodes) c.layout.ensures in
    let a = c.args.pass.now.view.log in
    let b = c.claim_by_rows.new.pass.view.log in
    let first = c.first-first.result in
    let high = c.first-first.ensures.high in
    let node = c.in-Some.node in
    let up : IsClaimBetween first (c.args.shared.now.layout.nodes + 1) a b (Some node) = subst
    (λ n. IsClaimBetween first (n + 1) a b (Some node)) nodes c.in-Some.ensures.part in
    λ old few. subst (IsNearClaim c.args.shared.now.layout.nodes old b) (sym (in_answer node up.before b up.made))
    (near_above c.args.shared.now.layout.nodes first old a c.first-first.ensures.low (omega (arith, high, nodes)) few
    b node up)

pub returns-in_default-claim_by_rows-clause-part :
    goal.returns-in_default-claim_by_rows-clause-part
returns-in_default-claim_by_rows-clause-part c =
    let nodes : c.nodes-nodes.result ≡ c.args.shared.now.layout.nodes = c.nodes-nodes.ensures.nodes
    ∙ ap (λ (l : Layout). l.nodes) c.layout.ensures in
    let a = c.args.pass.now.view.log in
    let b = c.claim_by_rows.new.pass.view.log in
    let first = c.first-first.result in
    let high = c.first-first.ensures.high in
    λ old few. near_nowhere c.args.shared.now.layout.nodes first old a c.first-first.ensures.low
    (omega (arith, high, nodes)) few b c.claim_by_rows-2.new.pass.view.log
    (subst (λ n. IsClaimBetween first (n + 1) a b None) nodes c.in_default.ensures.part)
    c.in_default-claim_by_rows.ensures.part

pub returns-clause-part : goal.returns-clause-part
returns-clause-part c =
    let nodes : c.nodes-nodes.result ≡ c.args.shared.now.layout.nodes = c.nodes-nodes.ensures.nodes
    ∙ ap (λ (l : Layout). l.nodes) c.layout.ensures in
    let a = c.args.pass.now.view.log in
    let b = c.claim_by_rows.new.pass.view.log in
    let first = c.first-first.result in
    let high = c.first-first.ensures.high in
    let node = c.in-Some-claim_by_rows.node in
    let new = c.claim_by_rows-2.new.pass.view.log in
    let around = c.in-Some-claim_by_rows.ensures.part in
    λ old few. subst (IsNearClaim c.args.shared.now.layout.nodes old new)
    (sym (in_answer node around.before new around.made))
    (near_below c.args.shared.now.layout.nodes first old a c.first-first.ensures.low (omega (arith, high, nodes)) few
    b new
    (subst (λ n. IsClaimBetween first (n + 1) a b None) nodes c.in_default.ensures.part) node around)
