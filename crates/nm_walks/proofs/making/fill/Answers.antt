use Rattle.std.proofs.Common.{rules, refl, sym, ap, subst, ◌∙◌, ◌≤◌, arith}
use Rattle.nm_edge.specs.declared.edge.Side.TheVariants.{Left, Right}
use Rattle.nm_model.specs.declared.event.Field.TheVariants.{Key as KeyOf, Edge as EdgeOn}
use Rattle.nm_model.specs.declared.knowledge.Draft.{Draft}
use Rattle.nm_model.specs.Learning.{filled_in}
use Rattle.nm_steps.specs.Steps.{PassView}
use Rattle.nm_steps.proofs.Seeing.{seen_all, stores_same}
use Rattle.std.specs.Prelude.{Some}
use Rattle.nm_walks.proofs.Makes.{fillable, fillable_still, may_fill_key, may_fill_edge, filled_there, filled_draft, filled_others, only_filled, both_make, makes_go_on}
use Rattle.nm_walks.proofs.Makes.{log_longer, not_stored_after}
use Rattle.nm_walks.proofs.making.fill.Goals as goal

pub fill_key-requires-clause-may : goal.fill_key-requires-clause-may
fill_key-requires-clause-may c = may_fill_key c.args.pass.now c.args.slot
    (fillable c.args.pass.now c.args.slot c.requires.born c.know_pooled_slots.ensures) _

pub fill_edge-requires-clause-may : goal.fill_edge-requires-clause-may
fill_edge-requires-clause-may c =
    let p = c.args.pass.now in
    let q = c.fill_key.new.pass in
    let s = c.args.slot in
    may_fill_edge q s (fillable_still p q s KeyOf _ c.fill_key.ensures.step refl
    (fillable p s c.requires.born c.know_pooled_slots.ensures))
    Left c.args.node.now.left (subst (λ (x : PassView). c.args.node.now.left ≤ x.view.layout.nodes)
    (sym c.fill_key.ensures.step) c.requires.left)

pub fill_edge-requires-2-clause-may : goal.fill_edge-requires-2-clause-may
fill_edge-requires-2-clause-may c =
    let p = c.args.pass.now in
    let q = c.fill_key.new.pass in
    let r = c.fill_edge.new.pass in
    let s = c.args.slot in
    may_fill_edge r s (fillable_still q r s (EdgeOn Left) c.args.node.now.left c.fill_edge.ensures.step refl
    (fillable_still p q s KeyOf _ c.fill_key.ensures.step refl
    (fillable p s c.requires.born c.know_pooled_slots.ensures)))
    Right c.args.node.now.right (subst (λ (x : PassView). c.args.node.now.right ≤ x.view.layout.nodes)
    (sym c.fill_edge.ensures.step) (subst (λ (x : PassView). c.args.node.now.right ≤ x.view.layout.nodes)
    (sym c.fill_key.ensures.step) c.requires.right))

pub returns-clause-filled : goal.returns-clause-filled
returns-clause-filled c =
    let p = c.args.pass.now in
    let q = c.fill_key.new.pass in
    let r = c.fill_edge.new.pass in
    let s = c.args.slot in
    filled_there r c.fill_edge-2.new.pass s (EdgeOn Right) c.args.node.now.right c.fill_edge-2.ensures.step
    ∙ ap (λ (d : Draft). Some (filled_in d (EdgeOn Right) c.args.node.now.right))
    (filled_draft q r s (EdgeOn Left) c.args.node.now.left c.fill_edge.ensures.step
    ∙ ap (λ (d : Draft). filled_in d (EdgeOn Left) c.args.node.now.left)
    (filled_draft p q s KeyOf _ c.fill_key.ensures.step))

pub returns-clause-others : goal.returns-clause-others
returns-clause-others c =
    let p = c.args.pass.now in
    let q = c.fill_key.new.pass in
    let r = c.fill_edge.new.pass in
    let s = c.args.slot in
    λ x ne. filled_others r c.fill_edge-2.new.pass s (EdgeOn Right) c.args.node.now.right c.fill_edge-2.ensures.step
    x ne
    ∙ (filled_others q r s (EdgeOn Left) c.args.node.now.left c.fill_edge.ensures.step x ne
    ∙ filled_others p q s KeyOf _ c.fill_key.ensures.step x ne)

pub returns-clause-only : goal.returns-clause-only
returns-clause-only c =
    let p = c.args.pass.now in
    let q = c.fill_key.new.pass in
    let r = c.fill_edge.new.pass in
    let s = c.args.slot in
    let t = c.fill_edge-2.new.pass in
    both_make p r t (both_make p q r (only_filled p q s KeyOf _ c.fill_key.ensures.step)
    (only_filled q r s (EdgeOn Left) c.args.node.now.left c.fill_edge.ensures.step))
    (only_filled r t s (EdgeOn Right) c.args.node.now.right c.fill_edge-2.ensures.step)

pub returns-clause-on : goal.returns-clause-on
returns-clause-on c =
    let p = c.args.pass.now in
    let r = c.fill_edge.new.pass in
    let t = c.fill_edge-2.new.pass in
    makes_go_on p t (returns-clause-only c) (search rules) (search (rules, seen_all))
    (stores_same t.view.stores p.view.stores (c.fill_edge-2.ensures.stores
    ∙ (c.fill_edge.ensures.stores ∙ c.fill_key.ensures.stores))) c.fill_edge-2.ensures.run

pub returns-clause-once : goal.returns-clause-once
returns-clause-once c =
    let p = c.args.pass.now in
    let q = c.fill_key.new.pass in
    let r = c.fill_edge.new.pass in
    let t = c.fill_edge-2.new.pass in
    not_stored_after p t (search rules) (omega (
      arith,
      log_longer p q _ _ c.fill_key.ensures.step,
      log_longer q r _ _
          c.fill_edge.ensures.step,
      log_longer r t _ _ c.fill_edge-2.ensures.step,
    ))
    (c.fill_edge-2.ensures.stores ∙ (c.fill_edge.ensures.stores ∙ c.fill_key.ensures.stores)) c.know_stores.ensures
