use Rattle.std.proofs.Common.{rules, refl, ap, subst, sym, ◌∙◌}
use Rattle.std.specs.Prelude.{is_some}
use Rattle.nm_edge.specs.Layouts.{Layout, IsLayout}
use Rattle.nm_order.specs.Facts.Fact.{KnowsSlot}
use Rattle.nm_steps.proofs.Seeing.{seen_by_turn}
use Rattle.nm_walks.specs.Making.{IsRouter}
use Rattle.nm_walks.specs.Growing.{inner_of}
use Rattle.nm_walks.proofs.Forks.{inserting}
use Rattle.nm_walks.proofs.GoingOn.{goes_then, pinned_in_still}
use Rattle.nm_walks.proofs.Linking.{may_link, link_goes_on, if_won, if_lost}
use Rattle.nm_walks.proofs.ValueLooks.{has_stored, if_linked_leaf, if_linked_value, may_link_stored}
use Rattle.nm_walks.proofs.growing.grow.Goals as goal

pub link-linked-requires-clause-may : goal.link-linked-requires-clause-may
link-linked-requires-clause-may c =
    let s = c.args.end.now.seek_record in
    let f = c.args.new_nodes.now in
    let p = c.fill_leaf.new.pass in
    let on = goes_then c.args.pass.now c.fill.new.pass p c.fill.ensures.on c.fill_leaf.ensures.on in
    let pinned = pinned_in_still c.args.shared.now c.args.pass.now p on c.requires.pinned in
    rw c.slot-leaf.ensures (may_link p s.parent s.side s.edge.slot f.internal.slot f.leaf.slot
    (inserting c.args.pass.now c.fill.new.pass c.fill_leaf.new.pass c.args.key c.args.end.now c.args.new_nodes.now
    c.node_over-node.result c.requires.may
    (subst (λ b. IsRouter b c.args.key c.args.end.now.key c.node_over-node.result.key)
    (c.is_radix-radix.ensures ∙ (ap (λ (L : Layout). L.radix) c.layout.ensures
    ∙ sym (ap (λ (L : Layout). L.radix) c.requires.pinned.own.layout))) c.node_over-node.ensures.key)
    (c.node_over-node.ensures.node ∙ ap (λ n. inner_of c.args.key c.args.end.now.key c.node_over-node.result.key n
    c.args.new_nodes.now.leaf.slot) c.slot-leaf.ensures) c.fill.ensures.on c.fill.ensures.only
    c.fill.ensures.filled c.fill.ensures.others
    c.fill_leaf.ensures.on c.fill_leaf.ensures.only c.fill_leaf.ensures.filled c.fill_leaf.ensures.others)
    pinned.run pinned.pin (on.keeps (KnowsSlot s.parent) c.requires.may.parent)
    (on.keeps (KnowsSlot s.edge.slot) c.requires.may.known) c.know_pooled_slots.ensures)

pub returns-clause-on : goal.returns-clause-on
returns-clause-on c =
    let s = c.args.end.now.seek_record in
    let f = c.args.new_nodes.now in
    let p = c.fill_leaf.new.pass in
    goes_then c.args.pass.now p c.link-linked.new.pass
    (goes_then c.args.pass.now c.fill.new.pass p c.fill.ensures.on c.fill_leaf.ensures.on)
    (link_goes_on p c.link-linked.new.pass s.parent s.side c.slot-leaf.result f.internal.slot f.leaf.slot
    c.link-linked.result c.link-linked.ensures.step (seen_by_turn _ _ _ _ c.link-linked.ensures.past)
    c.link-linked.ensures.stores c.know_run.ensures.fits c.know_run.ensures.run)

pub returns-clause-call : goal.returns-clause-call
returns-clause-call c =
    let won = if_won c.fill_leaf.new.pass c.link-linked.new.pass c.args.end.now.seek_record.parent
    c.args.end.now.seek_record.side c.args.end.now.seek_record.edge.slot c.args.new_nodes.now.internal.slot
    c.args.new_nodes.now.leaf.slot c.link-linked.result c.fill_leaf.ensures.on.run
    (inserting c.args.pass.now c.fill.new.pass c.fill_leaf.new.pass c.args.key c.args.end.now c.args.new_nodes.now
    c.node_over-node.result c.requires.may
    (subst (λ b. IsRouter b c.args.key c.args.end.now.key c.node_over-node.result.key)
    (c.is_radix-radix.ensures ∙ (ap (λ (L : Layout). L.radix) c.layout.ensures
    ∙ sym (ap (λ (L : Layout). L.radix) c.requires.pinned.own.layout))) c.node_over-node.ensures.key)
    (c.node_over-node.ensures.node ∙ ap (λ n. inner_of c.args.key c.args.end.now.key c.node_over-node.result.key n
    c.args.new_nodes.now.leaf.slot) c.slot-leaf.ensures) c.fill.ensures.on c.fill.ensures.only
    c.fill.ensures.filled c.fill.ensures.others
    c.fill_leaf.ensures.on c.fill_leaf.ensures.only c.fill_leaf.ensures.filled c.fill_leaf.ensures.others)
    (rw c.slot-leaf.ensures at c.link-linked.ensures.step) in
    let lost = if_lost c.fill_leaf.new.pass c.link-linked.new.pass c.args.end.now.seek_record.parent
    c.args.end.now.seek_record.side c.args.end.now.seek_record.edge.slot c.args.new_nodes.now.internal.slot
    c.args.new_nodes.now.leaf.slot c.link-linked.result (rw c.slot-leaf.ensures at c.link-linked.ensures.step)
    (c.fill_leaf.ensures.on.keeps (KnowsSlot c.args.end.now.seek_record.parent)
    (c.fill.ensures.on.keeps (KnowsSlot c.args.end.now.seek_record.parent) c.requires.may.parent))
    c.know_run.ensures.fits c.know_run.ensures.run in
    search (rules, won, lost)

pub returns-clause-won : goal.returns-clause-won
returns-clause-won c =
    let won = if_won c.fill_leaf.new.pass c.link-linked.new.pass c.args.end.now.seek_record.parent
    c.args.end.now.seek_record.side c.args.end.now.seek_record.edge.slot c.args.new_nodes.now.internal.slot
    c.args.new_nodes.now.leaf.slot c.link-linked.result c.fill_leaf.ensures.on.run
    (inserting c.args.pass.now c.fill.new.pass c.fill_leaf.new.pass c.args.key c.args.end.now c.args.new_nodes.now
    c.node_over-node.result c.requires.may
    (subst (λ b. IsRouter b c.args.key c.args.end.now.key c.node_over-node.result.key)
    (c.is_radix-radix.ensures ∙ (ap (λ (L : Layout). L.radix) c.layout.ensures
    ∙ sym (ap (λ (L : Layout). L.radix) c.requires.pinned.own.layout))) c.node_over-node.ensures.key)
    (c.node_over-node.ensures.node ∙ ap (λ n. inner_of c.args.key c.args.end.now.key c.node_over-node.result.key n
    c.args.new_nodes.now.leaf.slot) c.slot-leaf.ensures) c.fill.ensures.on c.fill.ensures.only
    c.fill.ensures.filled c.fill.ensures.others
    c.fill_leaf.ensures.on c.fill_leaf.ensures.only c.fill_leaf.ensures.filled c.fill_leaf.ensures.others)
    (rw c.slot-leaf.ensures at c.link-linked.ensures.step) in
    search (rules, won)

pub returns-clause-lost : goal.returns-clause-lost
returns-clause-lost c =
    let lost = if_lost c.fill_leaf.new.pass c.link-linked.new.pass c.args.end.now.seek_record.parent
    c.args.end.now.seek_record.side c.args.end.now.seek_record.edge.slot c.args.new_nodes.now.internal.slot
    c.args.new_nodes.now.leaf.slot c.link-linked.result (rw c.slot-leaf.ensures at c.link-linked.ensures.step)
    (c.fill_leaf.ensures.on.keeps (KnowsSlot c.args.end.now.seek_record.parent)
    (c.fill.ensures.on.keeps (KnowsSlot c.args.end.now.seek_record.parent) c.requires.may.parent))
    c.know_run.ensures.fits c.know_run.ensures.run in
    search (rules, lost)

pub link-linked-requires-clause-stored : goal.link-linked-requires-clause-stored
link-linked-requires-clause-stored c =
    let s = c.args.end.now.seek_record in
    let f = c.args.new_nodes.now in
    let i = inserting c.args.pass.now c.fill.new.pass c.fill_leaf.new.pass c.args.key c.args.end.now
    c.args.new_nodes.now c.node_over-node.result c.requires.may
    (subst (λ b. IsRouter b c.args.key c.args.end.now.key c.node_over-node.result.key)
    (c.is_radix-radix.ensures ∙ (ap (λ (L : Layout). L.radix) c.layout.ensures
    ∙ sym (ap (λ (L : Layout). L.radix) c.requires.pinned.own.layout))) c.node_over-node.ensures.key)
    (c.node_over-node.ensures.node ∙ ap (λ n. inner_of c.args.key c.args.end.now.key c.node_over-node.result.key n
    c.args.new_nodes.now.leaf.slot) c.slot-leaf.ensures) c.fill.ensures.on c.fill.ensures.only
    c.fill.ensures.filled c.fill.ensures.others
    c.fill_leaf.ensures.on c.fill_leaf.ensures.only c.fill_leaf.ensures.filled c.fill_leaf.ensures.others in
    rw c.slot-leaf.ensures (may_link_stored c.args.shared.now c.fill_leaf.new.pass s.parent s.side s.edge.slot
    f.internal.slot f.leaf.slot c.args.value i c.fill_leaf.ensures.stored)

pub returns-clause-stored : goal.returns-clause-stored
returns-clause-stored c = λ values.
    if_linked_value c.link-linked.result c.fill_leaf.new.pass c.link-linked.new.pass _ _
    c.args.new_nodes.now.leaf.slot c.args.value
    (has_stored c.args.shared.now c.fill_leaf.new.pass c.args.new_nodes.now.leaf.slot c.args.value
    (subst (λ (L : Layout). IsLayout L) c.requires.pinned.own.layout c.requires.pinned.run.fits) values
    c.fill_leaf.ensures.stored) c.link-linked.ensures

pub returns-clause-leaf : goal.returns-clause-leaf
returns-clause-leaf c =
    let s = c.args.end.now.seek_record in
    let f = c.args.new_nodes.now in
    let i = inserting c.args.pass.now c.fill.new.pass c.fill_leaf.new.pass c.args.key c.args.end.now
    c.args.new_nodes.now c.node_over-node.result c.requires.may
    (subst (λ b. IsRouter b c.args.key c.args.end.now.key c.node_over-node.result.key)
    (c.is_radix-radix.ensures ∙ (ap (λ (L : Layout). L.radix) c.layout.ensures
    ∙ sym (ap (λ (L : Layout). L.radix) c.requires.pinned.own.layout))) c.node_over-node.ensures.key)
    (c.node_over-node.ensures.node ∙ ap (λ n. inner_of c.args.key c.args.end.now.key c.node_over-node.result.key n
    c.args.new_nodes.now.leaf.slot) c.slot-leaf.ensures) c.fill.ensures.on c.fill.ensures.only
    c.fill.ensures.filled c.fill.ensures.others
    c.fill_leaf.ensures.on c.fill_leaf.ensures.only c.fill_leaf.ensures.filled c.fill_leaf.ensures.others in
    if_linked_leaf c.link-linked.result c.args.pass.now c.fill_leaf.new.pass c.link-linked.new.pass s.parent s.side
    s.edge.slot f.internal.slot f.leaf.slot c.args.key _ i c.fill_leaf.ensures.filled refl
    (c.know_pooled_slots.ensures f.leaf.slot (ap is_some c.fill_leaf.ensures.filled))
    (goes_then c.args.pass.now c.fill.new.pass c.fill_leaf.new.pass c.fill.ensures.on c.fill_leaf.ensures.on).past
    (rw c.slot-leaf.ensures at c.link-linked.ensures)
