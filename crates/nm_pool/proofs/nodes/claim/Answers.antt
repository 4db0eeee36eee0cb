use Rattle.std.proofs.Common.{◌≡◌, ◌+◌, ap, sym, subst, ◌∙◌}
use Rattle.std.specs.Prelude.{None, Some}
use Rattle.nm_edge.specs.Layouts.{Layout}
use Rattle.nm_edge.specs.declared.placement.Fit.TheVariants as fit
use Rattle.nm_pool.specs.Claims.{IsClaim, IsClaimBetween, node_in}
use Rattle.nm_pool.proofs.AnyOrder.{in_answer, is_lowest}
use Rattle.nm_pool.proofs.Looks.{row_then}
use Rattle.nm_pool.proofs.Steps.{claim_steps}
use Rattle.nm_pool.proofs.nodes.claim.Goals as goal

pub returns-in-Ok-clause-part : goal.returns-in-Ok-clause-part
returns-in-Ok-clause-part c =
    let nodes : c.nodes-nodes.result ≡ c.args.shared.now.layout.nodes = c.nodes-nodes.ensures.nodes
    ∙ ap (λ (l : Layout). l.nodes) c.layout.ensures in
    let old = c.args.pass.now.view.log in
    let new = c.try_row.new.pass.view.log in
    let node = c.in-Ok.node in
    let claim : IsClaimBetween 6 (c.args.shared.now.layout.nodes + 1) old new (Some node) = subst
    (λ n. IsClaimBetween 6 (n + 1) old new (Some node)) nodes c.in-Ok.ensures.part in
    subst (IsClaim c.args.shared.now.layout.nodes old new) (sym (in_answer node claim.before new claim.made))
    (is_lowest c.args.shared.now.layout.nodes old new (Some node) claim)

pub returns-in-Ok-clause-steps : goal.returns-in-Ok-clause-steps
returns-in-Ok-clause-steps c = claim_steps fit.FirstFit c.args.shared.now.layout.nodes c.args.pass.now.view.log
    c.try_row.new.pass.view.log (node_in c.in-Ok.node) (returns-in-Ok-clause-part c)

pub returns-in_default-clause-part : goal.returns-in_default-clause-part
returns-in_default-clause-part c =
    let nodes : c.nodes-nodes.result ≡ c.args.shared.now.layout.nodes = c.nodes-nodes.ensures.nodes
    ∙ ap (λ (l : Layout). l.nodes) c.layout.ensures in
    let old = c.args.pass.now.view.log in
    let new = c.claim_by_rows.new.pass.view.log in
    is_lowest c.args.shared.now.layout.nodes old new None
    (subst (λ n. IsClaimBetween 6 (n + 1) old new None) nodes
    (row_then 6 c.in-Err.next (c.nodes-nodes.result + 1) old c.try_row.new.pass.view.log new None
    c.in-Err.ensures.part c.in_default.ensures.part))

pub returns-in_default-clause-steps : goal.returns-in_default-clause-steps
returns-in_default-clause-steps c = claim_steps fit.FirstFit c.args.shared.now.layout.nodes c.args.pass.now.view.log
    c.claim_by_rows.new.pass.view.log None (returns-in_default-clause-part c)

pub returns-clause-part : goal.returns-clause-part
returns-clause-part c =
    let nodes : c.nodes-nodes.result ≡ c.args.shared.now.layout.nodes = c.nodes-nodes.ensures.nodes
    ∙ ap (λ (l : Layout). l.nodes) c.layout.ensures in
    let old = c.args.pass.now.view.log in
    let new = c.claim_by_rows.new.pass.view.log in
    let node = c.in-Some.node in
    let claim : IsClaimBetween 6 (c.args.shared.now.layout.nodes + 1) old new (Some node) = subst
    (λ n. IsClaimBetween 6 (n + 1) old new (Some node)) nodes
    (row_then 6 c.in-Err.next (c.nodes-nodes.result + 1) old c.try_row.new.pass.view.log new (Some node)
    c.in-Err.ensures.part c.in-Some.ensures.part) in
    subst (IsClaim c.args.shared.now.layout.nodes old new) (sym (in_answer node claim.before new claim.made))
    (is_lowest c.args.shared.now.layout.nodes old new (Some node) claim)

pub returns-clause-steps : goal.returns-clause-steps
returns-clause-steps c = claim_steps fit.FirstFit c.args.shared.now.layout.nodes c.args.pass.now.view.log
    c.claim_by_rows.new.pass.view.log (node_in c.in-Some.node) (returns-clause-part c)
