use Rattle.std.proofs.Common.{inl, inr, refl, ap, subst, ◌∙◌, ◌≤◌, arith}
use Rattle.std.specs.Prelude.{is_some}
use Rattle.nm_edge.specs.Layouts.{Layout}
use Rattle.nm_model.specs.Maps.{get}
use Rattle.nm_steps.specs.Rules.{knowledge}
use Rattle.nm_steps.specs.Steps.{PassView}
use Rattle.nm_walks.proofs.GoingOn.{goes_then, own_still}
use Rattle.nm_walks.proofs.Makes.{both_make}
use Rattle.nm_walks.proofs.ValueLooks.{filled_by_value, goes_by_value, just_stored, only_by_value}
use Rattle.nm_walks.proofs.making.fill_leaf.Goals as goal

pub fill_value-requires-clause-own : goal.fill_value-requires-clause-own
fill_value-requires-clause-own c = own_still c.args.shared.now c.args.pass.now c.fill.new.pass c.requires.own
    c.fill.ensures.on.same

pub fill_value-requires-clause-private : goal.fill_value-requires-clause-private
fill_value-requires-clause-private c = ap is_some c.fill.ensures.filled

pub fill_value-requires-clause-slot : goal.fill_value-requires-clause-slot
fill_value-requires-clause-slot c =
    let own = own_still c.args.shared.now c.args.pass.now c.fill.new.pass c.requires.own c.fill.ensures.on.same in
    let pooled = c.know_pooled_slots.ensures c.args.slot (ap is_some c.fill.ensures.filled) in
    let low = pooled.0 in
    (omega (arith, low), subst (λ (L : Layout). c.args.slot ≤ L.nodes) own.layout pooled.1)

pub fill_value-requires-clause-once : goal.fill_value-requires-clause-once
fill_value-requires-clause-once c = c.fill.ensures.once

pub returns-clause-steps : goal.returns-clause-steps
returns-clause-steps c = filled_by_value c.args.pass.now c.fill.new.pass c.fill_value.new.pass _ _ _ _
    c.fill.ensures.steps c.fill_value.ensures.looks

pub returns-clause-on : goal.returns-clause-on
returns-clause-on c = goes_then c.args.pass.now c.fill.new.pass c.fill_value.new.pass c.fill.ensures.on
    (goes_by_value c.fill.new.pass c.fill_value.new.pass c.fill_value.ensures.looks c.fill.ensures.on.run.fits)

pub returns-clause-filled : goal.returns-clause-filled
returns-clause-filled c = ap (λ (z : PassView). get (knowledge z.view).drafts c.args.slot)
    c.fill_value.ensures.looks.same ∙ c.fill.ensures.filled

pub returns-clause-others : goal.returns-clause-others
returns-clause-others c = λ s ne. ap (λ (z : PassView). get (knowledge z.view).drafts s)
    c.fill_value.ensures.looks.same ∙ c.fill.ensures.others s ne

pub returns-clause-only : goal.returns-clause-only
returns-clause-only c = both_make c.args.pass.now c.fill.new.pass c.fill_value.new.pass c.fill.ensures.only
    (only_by_value c.fill.new.pass c.fill_value.new.pass c.fill_value.ensures.looks)

pub returns-clause-stored : goal.returns-clause-stored
returns-clause-stored c = inr (just_stored c.fill.new.pass c.fill_value.new.pass c.args.slot c.args.value
    c.fill_value.ensures.looks c.fill_value.ensures.stored)

pub returns-then-not-has_values-clause-stored : goal.returns-then-not-has_values-clause-stored
returns-then-not-has_values-clause-stored c = inl (c.if-not-has_values.ensures.no refl)
