use Rattle.std.proofs.Common.{◌≤◌, sym, ap, subst, ◌∙◌, arith}
use Rattle.nm_edge.specs.Layouts.{IsLayout, Layout}
use Rattle.nm_edge.specs.declared.node.NodeId.{NodeId}
use Rattle.nm_model.specs.declared.event.Event.TheVariants.{Sight}
use Rattle.nm_model.specs.declared.event.Op.TheVariants.{Insert}
use Rattle.nm_model.specs.declared.reply.Reply.TheVariants.{Labelled}
use Rattle.nm_order.specs.Facts.Fact.{CallIs, IsBorn}
use Rattle.nm_steps.specs.Rules.{value_of}
use Rattle.nm_steps.specs.Steps.{PassView}
use Rattle.nm_steps.proofs.Seeing.{continues_then}
use Rattle.nm_walks.proofs.GoingOn.{goes_then, pinned_in_still}
use Rattle.nm_walks.proofs.ValueLooks.{goes_by_value, has_stored}
use Rattle.nm_calls.proofs.Forks.{going_continues}
use Rattle.nm_puts.proofs.LaterValues.{value_later}
use Rattle.nm_puts.proofs.ReplacedValues.{has_replaced, has_swapped_leaf, replaced_then}
use Rattle.nm_puts.proofs.Retiring.{holds_then}
use Rattle.nm_puts.proofs.SwapSteps.{took_out}
use Rattle.nm_puts.proofs.TriedSwaps.{has_swapped, is_swapping, just_stored, kept_so, then_by_value, under_swap}
use Rattle.nm_puts.proofs.UnderPins.{leaf_is_high, under_then}
use Rattle.nm_puts.proofs.swapping.try_swap.Goals as goal

pub swap-requires-clause-may : goal.swap-requires-clause-may
swap-requires-clause-may c =
    let b = c.look_birth-birth in
    let f = c.fill_leaf in
    rw c.slot-leaf.ensures
    (is_swapping c.args.pass.now b.new.pass f.new.pass c.args.key b.result c.args.end.now c.args.new.now
    c.requires.may b.ensures.on b.ensures.only
    (rw c.slot-leaf.ensures at b.ensures.born) f.ensures.on f.ensures.only f.ensures.filled)

pub swap-requires-clause-stored : goal.swap-requires-clause-stored
swap-requires-clause-stored c =
    let fits = subst IsLayout c.requires.pinned.own.layout c.requires.pinned.run.fits in
    just_stored c.fill_leaf.new.pass c.args.new.now.slot c.args.value
    (has_stored c.args.shared.now c.fill_leaf.new.pass c.args.new.now.slot c.args.value fits c.requires.values
    c.fill_leaf.ensures.stored)

pub look_value-old-requires-clause-slot : goal.look_value-old-requires-clause-slot
look_value-old-requires-clause-slot c =
    let may = c.requires.may in
    let s = c.args.end.now.seek_record in
    let within = leaf_is_high c.args.pass.now c.requires.pinned.run c.know_run.ensures.seen
    c.args.key s.edge.slot may.is_key (s.parent, s.side, may.ended) in
    let high = within.0 in
    rw c.slot-leaf.ensures (
      omega (arith, high),
      subst
          (λ (L : Layout). s.edge.slot ≤ L.nodes) c.requires.pinned.own.layout within.1,
    )

pub retire-requires-clause-kept : goal.retire-requires-clause-kept
retire-requires-clause-kept c =
    let p = c.args.pass.now in
    let b = c.look_birth-birth in
    let f = c.fill_leaf in
    let s = c.swap.new.pass in
    let r = c.args.end.now in
    let new = c.args.new.now in
    let won = c.in_ok-swap.ensures.won b.result (f.ensures.on.keeps
    (IsBorn c.slot-leaf.result b.result) b.ensures.born) in
    then_by_value s c.look_value-old.new.pass c.args.held.now _ c.look_value-old.ensures.looks
    (holds_then f.new.pass s _ _ new.slot _ won c.args.held.now
    (kept_so p b.new.pass f.new.pass c.args.key b.result r new
    (rw c.slot-leaf.ensures at b.ensures.step) f.ensures.steps c.args.held.now
    b.ensures.on b.ensures.only f.ensures.on f.ensures.only c.requires.kept))

pub returns-clause-on : goal.returns-clause-on
returns-clause-on c =
    let p = c.args.pass.now in
    let b = c.look_birth-birth.new.pass in
    let f = c.fill_leaf.new.pass in
    let s = c.swap.new.pass in
    let z = c.look_value-old.new.pass in
    goes_then p b c.retire.new.pass c.look_birth-birth.ensures.on
    (goes_then b f c.retire.new.pass c.fill_leaf.ensures.on
    (goes_then f s c.retire.new.pass c.swap.ensures.on
    (goes_then s z c.retire.new.pass
    (goes_by_value s z c.look_value-old.ensures.looks c.know_run-2.ensures.fits) c.retire.ensures.on)))

pub returns-clause-won : goal.returns-clause-won
returns-clause-won c =
    let p = c.args.pass.now in
    let b = c.look_birth-birth in
    let f = c.fill_leaf in
    let r = c.args.end.now in
    let new = c.args.new.now in
    let won = rw c.slot-leaf.ensures at (c.in_ok-swap.ensures.won b.result
    (f.ensures.on.keeps (IsBorn c.slot-leaf.result b.result) b.ensures.born)) in
    has_swapped p b.new.pass f.new.pass c.swap.new.pass c.look_value-old.new.pass c.retire.new.pass
    c.args.key b.result r new
    f.ensures.on.run b.ensures.on b.ensures.only f.ensures.on f.ensures.only f.ensures.others
    (rw c.slot-leaf.ensures at b.ensures.step) f.ensures.steps won c.look_value-old.ensures.looks
    c.retire.ensures.retires

pub returns-clause-replaced : goal.returns-clause-replaced
returns-clause-replaced c =
    let p = c.args.pass.now in
    let b = c.look_birth-birth in
    let f = c.fill_leaf in
    let s = c.swap.new.pass in
    let z = c.look_value-old in
    let k = c.args.key in
    let v = c.args.value in
    let may = c.requires.may in
    let e = c.args.end.now.seek_record in
    let leaf : NodeId = record { slot = c.slot-leaf.result; birth = b.result } in
    let on = goes_then p b.new.pass f.new.pass b.ensures.on f.ensures.on in
    let fits = subst IsLayout c.requires.pinned.own.layout c.requires.pinned.run.fits in
    let took = took_out f.new.pass s e.parent e.side leaf.slot c.args.new.now.slot b.result (f.ensures.on.keeps
    (IsBorn c.slot-leaf.result b.result) b.ensures.born) c.in_ok-swap.ensures.took in
    let within = leaf_is_high p c.requires.pinned.run c.know_run.ensures.seen k e.edge.slot may.is_key
    (e.parent, e.side, may.ended) in
    replaced_then p z.new.pass c.retire.new.pass Sight (Labelled c.retire.ensures.retires.epoch) k z.result v
    (has_replaced p s z.new.pass c.know_run-2.ensures.fits c.know_run-2.ensures.seen leaf
    c.args.new.now.slot k v z.result
    (has_swapped_leaf p f.new.pass s e.parent e.side leaf c.args.new.now.slot k v on.past on.run
    (pinned_in_still c.args.shared.now p f.new.pass on c.requires.pinned).pin (on.keeps
    (CallIs Insert k) may.call)
    (has_stored c.args.shared.now f.new.pass c.args.new.now.slot v fits c.requires.values f.ensures.stored) took)
    z.ensures.looks z.ensures.value (rw c.slot-leaf.ensures within.0)
    (rw c.slot-leaf.ensures (subst (λ (x : PassView). e.edge.slot ≤ x.view.layout.nodes)
    (sym (goes_then p f.new.pass s on c.swap.ensures.on).same) within.1)))
    c.retire.ensures.retires.took

pub returns-clause-was : goal.returns-clause-was
returns-clause-was c = λ m v was.
    let p = c.args.pass.now in
    let b = c.look_birth-birth in
    let f = c.fill_leaf in
    let s = c.swap.new.pass in
    let z = c.look_value-old in
    let on = goes_then p b.new.pass z.new.pass b.ensures.on (goes_then b.new.pass f.new.pass z.new.pass f.ensures.on
    (goes_then f.new.pass s z.new.pass c.swap.ensures.on
    (goes_by_value s z.new.pass z.ensures.looks c.know_run-2.ensures.fits))) in
    let fits = subst (λ (x : PassView). IsLayout x.view.layout) was.on.same c.know_run.ensures.fits in
    let under = under_swap p b.new.pass f.new.pass c.args.key b.result c.args.end.now c.args.new.now
    (rw c.slot-leaf.ensures at b.ensures.step) f.ensures.steps s z.new.pass _
    (rw c.slot-leaf.ensures at c.swap.ensures.took.step) z.ensures.looks in
    let later = value_later m z.new.pass fits (continues_then m p z.new.pass was.on (going_continues p z.new.pass on))
    (under_then m.view.log p.view.log z.new.pass.view.log was.under under) z.ensures.looks.seen c.args.key v
    c.requires.may.is_key was.read in
    z.ensures.value ∙ (ap (value_of z.new.pass.view.stores) (c.slot-leaf.ensures ∙ sym was.at) ∙ sym later)
