use Rattle.std.proofs.Common.{subst, ◌∙◌}
use Rattle.nm_walks.specs.Telling.{Tells}
use Rattle.nm_walks.specs.Rooms.{FillsUp}
use Rattle.nm_epoch.specs.declared.collecting.HeldQueue.{HeldQueue}
use Rattle.nm_walks.proofs.Adding.{adds_these}
use Rattle.nm_walks.proofs.GoingOn.{goes_then, own_still, pinned_in_still}
use Rattle.nm_walks.proofs.KeptLedgers.{holds_on}
use Rattle.nm_walks.proofs.Standing.{at_kept}
use Rattle.nm_calls.proofs.Adding.{claim_by_adds}
use Rattle.nm_calls.proofs.Forks.{none_left}
use Rattle.nm_calls.proofs.Rooms.{fills_none}
use Rattle.nm_puts.proofs.ReplacedValues.{replaced_since}
use Rattle.nm_puts.proofs.TriedPuts.{cleans_nothing, cleans_puts, ended_still, makes_nothing, makes_puts, may_swap_there, nothing_then, puts_then, rest_puts, still_new, swapped_in, was_before}
use Rattle.nm_puts.proofs.putting.replace_at.Goals as goal

-- ---- no slot

pub returns-in_default-clause-part : goal.returns-in_default-clause-part
returns-in_default-clause-part c = c.in_default.ensures.part

pub returns-in_default-clause-shows : goal.returns-in_default-clause-shows
returns-in_default-clause-shows c = makes_nothing c.args.pass.now c.claim_leaf.new.pass c.claim_leaf.ensures.only

pub returns-in_default-clause-on : goal.returns-in_default-clause-on
returns-in_default-clause-on c = c.claim_leaf.ensures.on

pub returns-in_default-clause-only : goal.returns-in_default-clause-only
returns-in_default-clause-only c = makes_puts c.args.pass.now c.claim_leaf.new.pass c.claim_leaf.ensures.only

pub returns-in_default-clause-private : goal.returns-in_default-clause-private
returns-in_default-clause-private c = c.in_default.ensures.has

pub returns-in_default-clause-kept : goal.returns-in_default-clause-kept
returns-in_default-clause-kept c =
    holds_on c.args.pass.now c.claim_leaf.new.pass _ c.claim_leaf.ensures.on.same c.claim_leaf.ensures.only.ledgers
    (claim_by_adds c.args.workspace.now.placement c.args.shared.now.layout.nodes _ _ c.claim_leaf.result
    c.claim_leaf.ensures.part) c.requires.kept

pub returns-in_default-clause-fills : goal.returns-in_default-clause-fills
returns-in_default-clause-fills c = fills_none c.args.held.now.queue

-- ---- the swap

pub try_swap-requires-clause-pinned : goal.try_swap-requires-clause-pinned
try_swap-requires-clause-pinned c = pinned_in_still c.args.shared.now c.args.pass.now c.claim_leaf.new.pass
    c.claim_leaf.ensures.on c.requires.pinned

pub try_swap-requires-clause-may : goal.try_swap-requires-clause-may
try_swap-requires-clause-may c =
    may_swap_there c.args.pass.now c.claim_leaf.new.pass c.args.key c.args.end.now c.args.workspace.now.chain.items
    c.in-Some.new
    c.requires.may c.claim_leaf.ensures.on c.claim_leaf.ensures.only c.in-Some.ensures.has

pub try_swap-requires-clause-kept : goal.try_swap-requires-clause-kept
try_swap-requires-clause-kept c =
    holds_on c.args.pass.now c.claim_leaf.new.pass _ c.claim_leaf.ensures.on.same c.claim_leaf.ensures.only.ledgers
    (claim_by_adds c.args.workspace.now.placement c.args.shared.now.layout.nodes _ _ c.claim_leaf.result
    c.claim_leaf.ensures.part) c.requires.kept

pub returns-in-Ok-clause-part : goal.returns-in-Ok-clause-part
returns-in-Ok-clause-part c =
    let won = c.in-Ok.ensures.won in
    (c.in-Some.new, won.birth, won.epoch, c.claim_leaf.new.pass.view.log, c.in-Some.ensures.part, won.part)

pub returns-in-Ok-clause-does : goal.returns-in-Ok-clause-does
returns-in-Ok-clause-does c =
    replaced_since c.args.pass.now c.claim_leaf.new.pass c.try_swap.new.pass c.args.key c.in-Ok.old c.args.value
    c.claim_leaf.ensures.on.past
    c.in-Ok.ensures.replaced

pub returns-in-Ok-clause-was : goal.returns-in-Ok-clause-was
returns-in-Ok-clause-was c = λ m v was.
    c.in-Ok.ensures.was m v
    (was_before m c.args.pass.now c.claim_leaf.new.pass c.args.key c.args.end.now.seek_record.edge.slot v
    c.args.workspace.now.placement
    c.args.shared.now.layout.nodes c.in-Some.new was c.claim_leaf.ensures.on c.in-Some.ensures.part)

pub returns-in-Ok-clause-on : goal.returns-in-Ok-clause-on
returns-in-Ok-clause-on c = goes_then c.args.pass.now c.claim_leaf.new.pass c.try_swap.new.pass c.claim_leaf.ensures.on
    c.try_swap.ensures.on

pub returns-in-Ok-clause-shows : goal.returns-in-Ok-clause-shows
returns-in-Ok-clause-shows c = (
  ended_still c.args.pass.now c.try_swap.new.pass c.args.key c.args.end.now c.args.workspace.now.chain.items
      c.requires.may
      (returns-in-Ok-clause-on c),
  c.in-Ok.ensures.won.rest.linked ∙ (makes_nothing c.args.pass.now c.claim_leaf.new.pass
      c.claim_leaf.ensures.only).linked,
)

pub returns-in-Ok-clause-only : goal.returns-in-Ok-clause-only
returns-in-Ok-clause-only c =
    puts_then c.args.pass.now c.claim_leaf.new.pass c.try_swap.new.pass c.claim_leaf.ensures.on.same
    (makes_puts c.args.pass.now c.claim_leaf.new.pass c.claim_leaf.ensures.only)
    (rest_puts c.claim_leaf.new.pass c.try_swap.new.pass c.in-Ok.ensures.won.rest)

pub returns-in-Ok-clause-private : goal.returns-in-Ok-clause-private
returns-in-Ok-clause-private c =
    swapped_in c.args.pass.now c.claim_leaf.new.pass c.try_swap.new.pass c.args.key c.args.end.now c.in-Some.new
    c.in-Some.ensures.has
    c.in-Ok.ensures.won

pub returns-in-Ok-clause-kept : goal.returns-in-Ok-clause-kept
returns-in-Ok-clause-kept c = c.try_swap.ensures.kept

pub returns-in-Ok-clause-fills : goal.returns-in-Ok-clause-fills
returns-in-Ok-clause-fills c = c.try_swap.ensures.fills

-- ---- the swap was lost

pub give_leaf_back-requires-clause-own : goal.give_leaf_back-requires-clause-own
give_leaf_back-requires-clause-own c =
    own_still c.args.shared.now c.args.pass.now c.try_swap.new.pass c.requires.pinned.own
    (goes_then c.args.pass.now c.claim_leaf.new.pass c.try_swap.new.pass c.claim_leaf.ensures.on
    c.try_swap.ensures.on).same

pub give_leaf_back-requires-clause-birth : goal.give_leaf_back-requires-clause-birth
give_leaf_back-requires-clause-birth c = c.in-Err.ensures.lost.new_birth

pub help-requires-clause-pinned : goal.help-requires-clause-pinned
help-requires-clause-pinned c =
    let p = c.args.pass.now in
    let q = c.claim_leaf.new.pass in
    let s = c.try_swap.new.pass in
    let b = c.give_leaf_back.new.pass in
    pinned_in_still c.args.shared.now p b
    (goes_then p q b c.claim_leaf.ensures.on
    (goes_then q s b c.try_swap.ensures.on c.give_leaf_back.ensures.on)) c.requires.pinned

pub help-requires-clause-at : goal.help-requires-clause-at
help-requires-clause-at c =
    let p = c.args.pass.now in
    let q = c.claim_leaf.new.pass in
    let s = c.try_swap.new.pass in
    let b = c.give_leaf_back.new.pass in
    let on = goes_then p q b c.claim_leaf.ensures.on
    (goes_then q s b c.try_swap.ensures.on c.give_leaf_back.ensures.on) in
    at_kept (Tells p) (Tells b)
    (λ fact holds. on.keeps fact holds) c.args.end.now.seek_record c.args.workspace.now.chain.items c.requires.may.at

pub help-requires-clause-few : goal.help-requires-clause-few
help-requires-clause-few c = c.requires.may.few

pub help-requires-clause-room : goal.help-requires-clause-room
help-requires-clause-room c = rw c.in-Err.ensures.untouched c.requires.room

pub help-requires-clause-kept : goal.help-requires-clause-kept
help-requires-clause-kept c =
    holds_on c.try_swap.new.pass c.give_leaf_back.new.pass c.try_swap.new.held c.give_leaf_back.ensures.on.same
    c.give_leaf_back.ensures.only.ledgers
    (adds_these _ c.try_swap.new.pass.view.log c.give_leaf_back.new.pass.view.log c.give_leaf_back.ensures.part)
    c.try_swap.ensures.kept

pub returns-in-Err-clause-part : goal.returns-in-Err-clause-part
returns-in-Err-clause-part c =
    let lost = c.in-Err.ensures.lost in (
      c.in-Some.new,
      lost.birth,
      c.in-Err.found,
      c.claim_leaf.new.pass.view.log,
      c.try_swap.new.pass.view.log,
      c.give_leaf_back.new.pass.view.log,
      c.in-Some.ensures.part,
      lost.part,
      c.give_leaf_back.ensures.part,
      c.help.ensures.part,
    )

pub returns-in-Err-clause-on : goal.returns-in-Err-clause-on
returns-in-Err-clause-on c =
    let p = c.args.pass.now in
    let q = c.claim_leaf.new.pass in
    let s = c.try_swap.new.pass in
    let b = c.give_leaf_back.new.pass in
    let h = c.help.new.pass in
    goes_then p q h c.claim_leaf.ensures.on (goes_then q s h c.try_swap.ensures.on
    (goes_then s b h c.give_leaf_back.ensures.on c.help.ensures.on))

pub returns-in-Err-clause-shows : goal.returns-in-Err-clause-shows
returns-in-Err-clause-shows c =
    let p = c.args.pass.now in
    let q = c.claim_leaf.new.pass in
    let s = c.try_swap.new.pass in
    let b = c.give_leaf_back.new.pass in
    let h = c.help.new.pass in
    let lost = c.in-Err.ensures.lost in
    nothing_then p s h (nothing_then p q s (makes_nothing p q c.claim_leaf.ensures.only)
    (record { linked = lost.rest.linked; swapped = lost.swapped }))
    (nothing_then s b h (makes_nothing s b c.give_leaf_back.ensures.only) (cleans_nothing b h c.help.ensures.only))

pub returns-in-Err-clause-only : goal.returns-in-Err-clause-only
returns-in-Err-clause-only c =
    let p = c.args.pass.now in
    let q = c.claim_leaf.new.pass in
    let s = c.try_swap.new.pass in
    let b = c.give_leaf_back.new.pass in
    let h = c.help.new.pass in
    puts_then p q h c.claim_leaf.ensures.on.same (makes_puts p q c.claim_leaf.ensures.only)
    (puts_then q s h c.try_swap.ensures.on.same (rest_puts q s c.in-Err.ensures.lost.rest)
    (puts_then s b h c.give_leaf_back.ensures.on.same (makes_puts s b c.give_leaf_back.ensures.only)
    (cleans_puts b h c.help.ensures.only)))

pub returns-in-Err-clause-private : goal.returns-in-Err-clause-private
returns-in-Err-clause-private c =
    let p = c.args.pass.now in
    let q = c.claim_leaf.new.pass in
    let s = c.try_swap.new.pass in
    let b = c.give_leaf_back.new.pass in
    none_left p b c.help.new.pass c.help.ensures.only.private
    (c.give_leaf_back.ensures.given p
    (still_new p q s c.args.key c.args.end.now c.in-Some.new c.in-Err.found c.in-Some.ensures.has
    c.in-Err.ensures.lost))

pub returns-in-Err-clause-kept : goal.returns-in-Err-clause-kept
returns-in-Err-clause-kept c = c.help.ensures.kept

pub returns-in-Err-clause-fills : goal.returns-in-Err-clause-fills
returns-in-Err-clause-fills c = subst
    (λ (h : HeldQueue). FillsUp h.queue c.help.new.held.queue) c.in-Err.ensures.untouched c.help.ensures.fills
