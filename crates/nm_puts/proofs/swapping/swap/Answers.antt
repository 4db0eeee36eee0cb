use Rattle.std.proofs.Common.{inr, refl}
use Rattle.nm_steps.proofs.Seeing.{seen_by_turn}
use Rattle.nm_walks.proofs.Looks.{goes_on}
use Rattle.nm_walks.proofs.ShortWalks.{key_of_call}
use Rattle.nm_model.specs.declared.event.Op.TheVariants.{Insert}
use Rattle.nm_puts.proofs.SwapSteps.{if_swap_lost, if_swap_won, may_swap}
use Rattle.nm_puts.proofs.UnderPins.{leaf_is_high, leaf_is_known}
use Rattle.nm_puts.proofs.swapping.swap.Goals as goal

pub swap-won-requires-clause-may : goal.swap-won-requires-clause-may
swap-won-requires-clause-may c =
    let p = c.args.pass.now in
    let may = c.requires.may in
    let run = c.requires.pinned.run in
    let key = key_of_call p run Insert may.key may.call in
    may_swap p c.args.parent c.args.side c.args.leaf c.args.new may run c.requires.pinned.pin
    (leaf_is_known p run c.know_run.ensures.seen may.key c.args.leaf key (c.args.parent, c.args.side, may.ended))
    (leaf_is_high p run c.know_run.ensures.seen may.key c.args.leaf key (c.args.parent, c.args.side, may.ended)).0
    c.know_pooled_slots.ensures

pub swap-won-requires-clause-stored : goal.swap-won-requires-clause-stored
swap-won-requires-clause-stored c = inr c.requires.stored

pub returns-clause-on : goal.returns-clause-on
returns-clause-on c =
    goes_on c.args.pass.now c.swap-won.new.pass _ _ c.swap-won.ensures.step
    (seen_by_turn _ _ _ _ c.swap-won.ensures.past)
    c.swap-won.ensures.stores refl refl c.know_run-2.ensures.fits c.know_run-2.ensures.run

pub returns-clause-won : goal.returns-clause-won
returns-clause-won c =
    if_swap_won c.args.pass.now c.swap-won.new.pass c.args.parent c.args.side c.args.leaf c.args.new
    c.know_run-2.ensures.fits c.know_run-2.ensures.run c.swap-won.result c.requires.pinned.run c.swap-won.ensures.step

pub returns-clause-lost : goal.returns-clause-lost
returns-clause-lost c =
    if_swap_lost c.args.pass.now c.swap-won.new.pass c.args.parent c.args.side c.args.leaf c.args.new
    c.know_run-2.ensures.fits c.know_run-2.ensures.run c.swap-won.result c.swap-won.ensures.step
    c.requires.may.knows_parent
