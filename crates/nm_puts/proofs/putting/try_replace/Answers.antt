use Rattle.std.proofs.Common.{inl, inr, refl, ap}
use Rattle.nm_model.specs.declared.event.Op.TheVariants.{Insert}
use Rattle.nm_model.specs.Maps.{get}
use Rattle.nm_walks.proofs.GoingOn.{goes_then, pinned_in_still}
use Rattle.nm_walks.proofs.KeptLedgers.{holds_on}
use Rattle.nm_walks.proofs.ShortWalks.{key_of_call}
use Rattle.nm_calls.proofs.Adding.{seeks_adds}
use Rattle.nm_calls.proofs.Rooms.{fills_none}
use Rattle.nm_puts.proofs.TriedPuts.{does_since, ended_other, looks_nothing, looks_puts, may_replace, private_since, puts_then, shows_since, walks_leaf}
use Rattle.nm_puts.proofs.putting.try_replace.Goals as goal

pub seek-requires-clause-key : goal.seek-requires-clause-key
seek-requires-clause-key c = rw c.get-sought.ensures.number
    (key_of_call c.args.pass.now c.requires.pinned.run Insert c.args.key c.requires.call.call)

-- ---- the walk was broken off

pub returns-in_default-clause-part : goal.returns-in_default-clause-part
returns-in_default-clause-part c =
    inl (
      refl,
      (
        c.seek.new.chain.items,
        walks_leaf c.args.condition c.requires.there _ _ _ _ _ _
            (rw c.get-sought.ensures.number at c.in_default.ensures.walk),
      ),
    )

pub returns-in_default-clause-kept : goal.returns-in_default-clause-kept
returns-in_default-clause-kept c =
    holds_on c.args.pass.now c.seek.new.pass c.args.held.now c.seek.ensures.on.same c.seek.ensures.only.ledgers
    (seeks_adds c.args.shared.now.layout c.get-sought.result c.args.pass.now.view.log c.seek.new.pass.view.log
    c.seek.new.chain.items
    c.seek.result c.seek.ensures.walk) c.requires.kept

pub returns-in_default-clause-shows : goal.returns-in_default-clause-shows
returns-in_default-clause-shows c = looks_nothing c.args.pass.now c.seek.new.pass c.seek.ensures.only

pub returns-in_default-clause-only : goal.returns-in_default-clause-only
returns-in_default-clause-only c = looks_puts c.args.pass.now c.seek.new.pass c.seek.ensures.only

pub returns-in_default-clause-private : goal.returns-in_default-clause-private
returns-in_default-clause-private c = λ s. ap (λ m. get m s) c.seek.ensures.only.private

pub returns-in_default-clause-fills : goal.returns-in_default-clause-fills
returns-in_default-clause-fills c = fills_none c.args.held.now.queue

-- ---- the key is absent

pub returns-then-end-sought-clause-part : goal.returns-then-end-sought-clause-part
returns-then-end-sought-clause-part c =
    let other = rw c.get-sought.ensures.number at c.if-end-sought.true in
    inr (
      c.in-Some.end,
      c.seek.new.chain.items,
      c.seek.new.pass.view.log,
      c.in-Some.ensures.came.few,
      walks_leaf c.args.condition c.requires.there _ _ _ _ _ _
          (rw c.get-sought.ensures.number at c.in-Some.ensures.walk),
      inr (inr (inr (other, c.requires.there, refl, refl))),
    )

pub returns-then-end-sought-clause-does : goal.returns-then-end-sought-clause-does
returns-then-end-sought-clause-does c =
    ended_other c.args.pass.now c.seek.new.pass c.args.key c.in-Some.end c.requires.call.call
    (rw c.get-sought.ensures.number at c.in-Some.ensures.came.found)
    (rw c.get-sought.ensures.number at c.if-end-sought.true)

pub returns-then-end-sought-clause-kept : goal.returns-then-end-sought-clause-kept
returns-then-end-sought-clause-kept c =
    holds_on c.args.pass.now c.seek.new.pass c.args.held.now c.seek.ensures.on.same c.seek.ensures.only.ledgers
    (seeks_adds c.args.shared.now.layout c.get-sought.result c.args.pass.now.view.log c.seek.new.pass.view.log
    c.seek.new.chain.items
    c.seek.result c.seek.ensures.walk) c.requires.kept

pub returns-then-end-sought-clause-shows : goal.returns-then-end-sought-clause-shows
returns-then-end-sought-clause-shows c = looks_nothing c.args.pass.now c.seek.new.pass c.seek.ensures.only

pub returns-then-end-sought-clause-only : goal.returns-then-end-sought-clause-only
returns-then-end-sought-clause-only c = looks_puts c.args.pass.now c.seek.new.pass c.seek.ensures.only

pub returns-then-end-sought-clause-private : goal.returns-then-end-sought-clause-private
returns-then-end-sought-clause-private c = λ s. ap (λ m. get m s) c.seek.ensures.only.private

pub returns-then-end-sought-clause-fills : goal.returns-then-end-sought-clause-fills
returns-then-end-sought-clause-fills c = fills_none c.args.held.now.queue

-- ---- the leaf has the key

pub replace_when-requires-clause-pinned : goal.replace_when-requires-clause-pinned
replace_when-requires-clause-pinned c = pinned_in_still c.args.shared.now c.args.pass.now c.seek.new.pass
    c.seek.ensures.on c.requires.pinned

pub replace_when-requires-clause-may : goal.replace_when-requires-clause-may
replace_when-requires-clause-may c =
    let came = rw c.get-sought.ensures.number at c.in-Some.ensures.came in
    rw c.get-sought.ensures.number
    (may_replace c.args.pass.now c.seek.new.pass c.args.key c.in-Some.end c.seek.new.chain.items
    c.requires.pinned.run c.requires.call.call
    c.requires.unlinked c.requires.unswapped c.seek.ensures.on c.seek.ensures.only came.ended.at came.few came.found
    (rw c.get-sought.ensures.number at c.if-end-sought.false))

pub replace_when-requires-clause-same : goal.replace_when-requires-clause-same
replace_when-requires-clause-same c = c.if-end-sought.false

pub replace_when-requires-clause-kept : goal.replace_when-requires-clause-kept
replace_when-requires-clause-kept c =
    holds_on c.args.pass.now c.seek.new.pass c.args.held.now c.seek.ensures.on.same c.seek.ensures.only.ledgers
    (seeks_adds c.args.shared.now.layout c.get-sought.result c.args.pass.now.view.log c.seek.new.pass.view.log
    c.seek.new.chain.items
    c.seek.result c.seek.ensures.walk) c.requires.kept

pub returns-clause-part : goal.returns-clause-part
returns-clause-part c =
    inr (
      c.in-Some.end,
      c.seek.new.chain.items,
      c.seek.new.pass.view.log,
      c.in-Some.ensures.came.few,
      walks_leaf c.args.condition c.requires.there _ _ _ _ _ _
          (rw c.get-sought.ensures.number at c.in-Some.ensures.walk),
      rw c.get-sought.ensures.number at c.replace_when.ensures.part,
    )

pub returns-clause-does : goal.returns-clause-does
returns-clause-does c =
    does_since c.args.condition c.args.key c.args.value c.args.pass.now c.seek.new.pass c.replace_when.new.pass
    c.replace_when.result
    c.seek.ensures.on.past (rw c.get-sought.ensures.number at c.replace_when.ensures.does)

pub returns-clause-shows : goal.returns-clause-shows
returns-clause-shows c =
    shows_since c.args.key c.args.pass.now c.seek.new.pass c.replace_when.new.pass c.replace_when.result
    (looks_nothing c.args.pass.now c.seek.new.pass c.seek.ensures.only)
    (rw c.get-sought.ensures.number at c.replace_when.ensures.shows)

pub returns-clause-on : goal.returns-clause-on
returns-clause-on c = goes_then c.args.pass.now c.seek.new.pass c.replace_when.new.pass c.seek.ensures.on
    c.replace_when.ensures.on

pub returns-clause-only : goal.returns-clause-only
returns-clause-only c =
    puts_then c.args.pass.now c.seek.new.pass c.replace_when.new.pass c.seek.ensures.on.same
    (looks_puts c.args.pass.now c.seek.new.pass c.seek.ensures.only) c.replace_when.ensures.only

pub returns-clause-private : goal.returns-clause-private
returns-clause-private c =
    private_since c.args.pass.now c.seek.new.pass c.replace_when.new.pass (λ s. ap
    (λ m. get m s) c.seek.ensures.only.private)
    c.replace_when.ensures.private

pub returns-clause-kept : goal.returns-clause-kept
returns-clause-kept c = c.replace_when.ensures.kept

pub returns-clause-fills : goal.returns-clause-fills
returns-clause-fills c = c.replace_when.ensures.fills
