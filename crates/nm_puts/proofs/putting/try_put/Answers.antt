use Rattle.std.proofs.Common.{inl, inr, refl, ap}
use Rattle.std.specs.Prelude.{Some}
use Rattle.nm_model.specs.declared.event.Op.TheVariants.{Insert}
use Rattle.nm_model.specs.Maps.{get}
use Rattle.nm_walks.specs.Telling.{Tells}
use Rattle.nm_walks.proofs.GoingOn.{goes_then, own_still, pinned_in_still}
use Rattle.nm_walks.proofs.KeptLedgers.{holds_on, holds_so}
use Rattle.nm_walks.proofs.ShortWalks.{key_of_call}
use Rattle.nm_walks.proofs.Standing.{at_kept}
use Rattle.nm_calls.proofs.Adding.{link_counts, stops_adds}
use Rattle.nm_calls.proofs.AddingInserts.{back_adds, fork_adds, grows_lost, grows_won}
use Rattle.nm_calls.proofs.Forks.{linked_fork, lost_fork, may_grow, none_left}
use Rattle.nm_calls.proofs.InsertedValues.{inserted}
use Rattle.nm_calls.proofs.MadeLeaves.{put_by_link, put_earlier}
use Rattle.nm_calls.proofs.Rooms.{fills_none}
use Rattle.nm_puts.specs.declared.putting.Condition.TheVariants as condition
use Rattle.nm_puts.specs.Replaced.{HasReplaced}
use Rattle.nm_puts.proofs.ReplacedValues.{replaced_since}
use Rattle.nm_puts.proofs.TriedPuts.{always_expects_none, cleans_nothing, cleans_puts, grows_puts, if_replaced, looks_nothing, looks_puts, makes_nothing, makes_puts, may_replace, no_other, nothing_then, private_since, puts_then, replaced_does, shows_since}
use Rattle.nm_puts.proofs.putting.try_put.Goals as goal

pub seek_place-requires-clause-key : goal.seek_place-requires-clause-key
seek_place-requires-clause-key c = rw c.get-sought.ensures.number
    (key_of_call c.args.pass.now c.requires.pinned.run Insert c.args.key c.requires.call.call)

-- ---- the walk was broken off

pub returns-in_default-clause-part : goal.returns-in_default-clause-part
returns-in_default-clause-part c = inl (
  refl,
  (c.seek_place.new.chain.items, rw c.get-sought.ensures.number at c.in_default.ensures.walk),
)

pub returns-in_default-clause-kept : goal.returns-in_default-clause-kept
returns-in_default-clause-kept c =
    holds_on c.args.pass.now c.seek_place.new.pass c.args.held.now c.seek_place.ensures.on.same
    c.seek_place.ensures.only.ledgers
    (stops_adds c.args.shared.now.layout c.get-sought.result c.args.pass.now.view.log c.seek_place.new.pass.view.log
    c.seek_place.new.chain.items
    c.seek_place.result c.seek_place.ensures.walk) c.requires.kept

pub returns-in_default-clause-shows : goal.returns-in_default-clause-shows
returns-in_default-clause-shows c = looks_nothing c.args.pass.now c.seek_place.new.pass c.seek_place.ensures.only

pub returns-in_default-clause-only : goal.returns-in_default-clause-only
returns-in_default-clause-only c = looks_puts c.args.pass.now c.seek_place.new.pass c.seek_place.ensures.only

pub returns-in_default-clause-private : goal.returns-in_default-clause-private
returns-in_default-clause-private c = λ s. ap (λ m. get m s) c.seek_place.ensures.only.private

pub returns-in_default-clause-fills : goal.returns-in_default-clause-fills
returns-in_default-clause-fills c = fills_none c.args.held.now.queue

-- ---- the leaf has the key

pub replace_at-requires-clause-pinned : goal.replace_at-requires-clause-pinned
replace_at-requires-clause-pinned c = pinned_in_still c.args.shared.now c.args.pass.now c.seek_place.new.pass
    c.seek_place.ensures.on c.requires.pinned

pub replace_at-requires-clause-may : goal.replace_at-requires-clause-may
replace_at-requires-clause-may c =
    let came = rw c.get-sought.ensures.number at c.in-Some.ensures.came in
    let same = rw c.get-sought.ensures.number at c.if-end-sought.true in
    rw c.get-sought.ensures.number
    (may_replace c.args.pass.now c.seek_place.new.pass c.args.key c.in-Some.end c.seek_place.new.chain.items
    c.requires.pinned.run c.requires.call.call
    c.requires.unlinked c.requires.unswapped c.seek_place.ensures.on c.seek_place.ensures.only came.at came.few
    (came.found same) same)

pub replace_at-requires-clause-kept : goal.replace_at-requires-clause-kept
replace_at-requires-clause-kept c =
    holds_on c.args.pass.now c.seek_place.new.pass c.args.held.now c.seek_place.ensures.on.same
    c.seek_place.ensures.only.ledgers
    (stops_adds c.args.shared.now.layout c.get-sought.result c.args.pass.now.view.log c.seek_place.new.pass.view.log
    c.seek_place.new.chain.items
    c.seek_place.result c.seek_place.ensures.walk) c.requires.kept

pub returns-then-end-sought-clause-part : goal.returns-then-end-sought-clause-part
returns-then-end-sought-clause-part c =
    inr (
      c.in-Some.end,
      c.seek_place.new.chain.items,
      c.seek_place.new.pass.view.log,
      c.in-Some.ensures.came.few,
      (rw c.get-sought.ensures.number at c.in-Some.ensures.walk),
      inl (
        rw c.get-sought.ensures.number at c.if-end-sought.true,
        rw c.get-sought.ensures.number at c.replace_at.ensures.part,
      ),
    )

pub returns-then-end-sought-clause-does : goal.returns-then-end-sought-clause-does
returns-then-end-sought-clause-does c =
    let p = c.args.pass.now in
    let m = c.seek_place.new.pass in
    let q = c.replace_at.new.pass in
    let k = c.args.key in
    let v = c.args.value in
    let a = c.replace_at.result in
    replaced_does c.args.workspace.now.placement c.args.shared.now.layout condition.Always k v c.in-Some.end
    c.seek_place.new.chain.items
    m.view.log q.view.log p q a (rw c.get-sought.ensures.number at c.replace_at.ensures.part)
    (if_replaced (λ old. HasReplaced m q k old v) (λ old. HasReplaced p q k old v)
    (λ old h. replaced_since p m q k old v c.seek_place.ensures.on.past h) a
    (rw c.get-sought.ensures.number at c.replace_at.ensures.does))
    (no_other condition.Always always_expects_none a)

pub returns-then-end-sought-clause-shows : goal.returns-then-end-sought-clause-shows
returns-then-end-sought-clause-shows c =
    shows_since c.args.key c.args.pass.now c.seek_place.new.pass c.replace_at.new.pass c.replace_at.result
    (looks_nothing c.args.pass.now c.seek_place.new.pass c.seek_place.ensures.only)
    (rw c.get-sought.ensures.number at c.replace_at.ensures.shows)

pub returns-then-end-sought-clause-on : goal.returns-then-end-sought-clause-on
returns-then-end-sought-clause-on c = goes_then c.args.pass.now c.seek_place.new.pass c.replace_at.new.pass
    c.seek_place.ensures.on c.replace_at.ensures.on

pub returns-then-end-sought-clause-only : goal.returns-then-end-sought-clause-only
returns-then-end-sought-clause-only c =
    puts_then c.args.pass.now c.seek_place.new.pass c.replace_at.new.pass c.seek_place.ensures.on.same
    (looks_puts c.args.pass.now c.seek_place.new.pass c.seek_place.ensures.only) c.replace_at.ensures.only

pub returns-then-end-sought-clause-private : goal.returns-then-end-sought-clause-private
returns-then-end-sought-clause-private c =
    private_since c.args.pass.now c.seek_place.new.pass c.replace_at.new.pass (λ s. ap
    (λ m. get m s) c.seek_place.ensures.only.private)
    c.replace_at.ensures.private

pub returns-then-end-sought-clause-kept : goal.returns-then-end-sought-clause-kept
returns-then-end-sought-clause-kept c = c.replace_at.ensures.kept

pub returns-then-end-sought-clause-fills : goal.returns-then-end-sought-clause-fills
returns-then-end-sought-clause-fills c = c.replace_at.ensures.fills

-- ---- too few slots

pub returns-in_default-claim_new_nodes-clause-part : goal.returns-in_default-claim_new_nodes-clause-part
returns-in_default-claim_new_nodes-clause-part c =
    inr (
      c.in-Some.end,
      c.seek_place.new.chain.items,
      c.seek_place.new.pass.view.log,
      c.in-Some.ensures.came.few,
      (rw c.get-sought.ensures.number at c.in-Some.ensures.walk),
      inr (inl (
        rw c.get-sought.ensures.number at c.if-end-sought.false,
        refl,
        c.in_default-claim_new_nodes.ensures.part,
      )),
    )

pub returns-in_default-claim_new_nodes-clause-shows : goal.returns-in_default-claim_new_nodes-clause-shows
returns-in_default-claim_new_nodes-clause-shows c =
    nothing_then c.args.pass.now c.seek_place.new.pass c.claim_new_nodes.new.pass
    (looks_nothing c.args.pass.now c.seek_place.new.pass c.seek_place.ensures.only)
    (makes_nothing c.seek_place.new.pass c.claim_new_nodes.new.pass c.claim_new_nodes.ensures.only)

pub returns-in_default-claim_new_nodes-clause-on : goal.returns-in_default-claim_new_nodes-clause-on
returns-in_default-claim_new_nodes-clause-on c =
    goes_then c.args.pass.now c.seek_place.new.pass c.claim_new_nodes.new.pass c.seek_place.ensures.on
    c.claim_new_nodes.ensures.on

pub returns-in_default-claim_new_nodes-clause-only : goal.returns-in_default-claim_new_nodes-clause-only
returns-in_default-claim_new_nodes-clause-only c =
    puts_then c.args.pass.now c.seek_place.new.pass c.claim_new_nodes.new.pass c.seek_place.ensures.on.same
    (looks_puts c.args.pass.now c.seek_place.new.pass c.seek_place.ensures.only)
    (makes_puts c.seek_place.new.pass c.claim_new_nodes.new.pass c.claim_new_nodes.ensures.only)

pub returns-in_default-claim_new_nodes-clause-private : goal.returns-in_default-claim_new_nodes-clause-private
returns-in_default-claim_new_nodes-clause-private c =
    private_since c.args.pass.now c.seek_place.new.pass c.claim_new_nodes.new.pass (λ s. ap
    (λ m. get m s) c.seek_place.ensures.only.private)
    c.in_default-claim_new_nodes.ensures.has

pub returns-in_default-claim_new_nodes-clause-kept : goal.returns-in_default-claim_new_nodes-clause-kept
returns-in_default-claim_new_nodes-clause-kept c =
    holds_on c.seek_place.new.pass c.claim_new_nodes.new.pass c.args.held.now c.claim_new_nodes.ensures.on.same
    c.claim_new_nodes.ensures.only.ledgers
    (fork_adds c.args.workspace.now.placement c.args.shared.now.layout.nodes _ _ c.claim_new_nodes.result
    c.claim_new_nodes.ensures.part)
    (holds_on c.args.pass.now c.seek_place.new.pass c.args.held.now c.seek_place.ensures.on.same
    c.seek_place.ensures.only.ledgers
    (stops_adds c.args.shared.now.layout c.get-sought.result c.args.pass.now.view.log c.seek_place.new.pass.view.log
    c.seek_place.new.chain.items
    c.seek_place.result c.seek_place.ensures.walk) c.requires.kept)

pub returns-in_default-claim_new_nodes-clause-fills : goal.returns-in_default-claim_new_nodes-clause-fills
returns-in_default-claim_new_nodes-clause-fills c = fills_none c.args.held.now.queue

-- ---- the link

pub grow-requires-clause-pinned : goal.grow-requires-clause-pinned
grow-requires-clause-pinned c =
    pinned_in_still c.args.shared.now c.args.pass.now c.claim_new_nodes.new.pass
    (goes_then c.args.pass.now c.seek_place.new.pass c.claim_new_nodes.new.pass c.seek_place.ensures.on
    c.claim_new_nodes.ensures.on) c.requires.pinned

pub grow-requires-clause-may : goal.grow-requires-clause-may
grow-requires-clause-may c =
    let p = c.args.pass.now in
    let r = c.seek_place.new.pass in
    let q = c.claim_new_nodes.new.pass in
    let on = goes_then p r q c.seek_place.ensures.on c.claim_new_nodes.ensures.on in
    rw c.get-sought.ensures.number
    (may_grow c.args.shared.now p r q c.args.key c.in-Some.end c.seek_place.new.chain.items
    c.in-Some-claim_new_nodes.made
    (own_still c.args.shared.now p q c.requires.pinned.own on.same).layout c.requires.call.call c.requires.unlinked
    c.requires.unswapped
    c.seek_place.ensures.on c.seek_place.ensures.only (rw c.get-sought.ensures.number at c.in-Some.ensures.came)
    (rw c.get-sought.ensures.number at c.in-Some.ensures.place)
    (rw c.get-sought.ensures.number at c.if-end-sought.false)
    c.claim_new_nodes.ensures.on c.claim_new_nodes.ensures.only c.in-Some-claim_new_nodes.ensures.has.ready)

pub returns-in-Ok-clause-part : goal.returns-in-Ok-clause-part
returns-in-Ok-clause-part c =
    inr (
      c.in-Some.end,
      c.seek_place.new.chain.items,
      c.seek_place.new.pass.view.log,
      c.in-Some.ensures.came.few,
      (rw c.get-sought.ensures.number at c.in-Some.ensures.walk),
      inr (inl (
        rw c.get-sought.ensures.number at c.if-end-sought.false,
        refl,
        (
          c.in-Some-claim_new_nodes.made,
          c.claim_new_nodes.new.pass.view.log,
          c.in-Some-claim_new_nodes.ensures.part,
          (rw c.get-sought.ensures.number at c.in-Ok.ensures.won).part,
        ),
      )),
    )

pub returns-in-Ok-clause-does : goal.returns-in-Ok-clause-does
returns-in-Ok-clause-does c =
    let p = c.args.pass.now in
    let r = c.seek_place.new.pass in
    let q = c.claim_new_nodes.new.pass in
    let s = c.grow.new.pass in
    let made = c.in-Some-claim_new_nodes.made in
    let stored = c.in-Ok.ensures.stored c.requires.values in (
      inserted c.args.shared.now.layout.radix q s c.args.key c.args.value c.in-Some.end made
          (rw c.get-sought.ensures.number at c.in-Ok.ensures.won) stored,
      put_earlier p q s c.args.key c.args.value (goes_then p r q c.seek_place.ensures.on
          c.claim_new_nodes.ensures.on).past
          (put_by_link q s made.leaf.slot c.args.key c.args.value c.know_run.ensures.fits c.know_run.ensures.seen
          (rw c.get-sought.ensures.number at c.in-Ok.ensures.leaf) stored),
    )

pub returns-in-Ok-clause-shows : goal.returns-in-Ok-clause-shows
returns-in-Ok-clause-shows c = (rw c.get-sought.ensures.number at c.in-Ok.ensures.won).linked

pub returns-in-Ok-clause-on : goal.returns-in-Ok-clause-on
returns-in-Ok-clause-on c =
    let q = c.claim_new_nodes.new.pass in
    let s = c.grow.new.pass in
    goes_then c.args.pass.now c.seek_place.new.pass s c.seek_place.ensures.on
    (goes_then c.seek_place.new.pass q s c.claim_new_nodes.ensures.on c.grow.ensures.on)

pub returns-in-Ok-clause-only : goal.returns-in-Ok-clause-only
returns-in-Ok-clause-only c =
    let p = c.args.pass.now in
    let r = c.seek_place.new.pass in
    let q = c.claim_new_nodes.new.pass in
    let s = c.grow.new.pass in
    puts_then p r s c.seek_place.ensures.on.same (looks_puts p r c.seek_place.ensures.only)
    (puts_then r q s c.claim_new_nodes.ensures.on.same (makes_puts r q c.claim_new_nodes.ensures.only)
    (grows_puts q s c.grow.ensures.call))

pub returns-in-Ok-clause-private : goal.returns-in-Ok-clause-private
returns-in-Ok-clause-private c =
    private_since c.args.pass.now c.seek_place.new.pass c.grow.new.pass
    (λ s. ap (λ m. get m s) c.seek_place.ensures.only.private)
    (linked_fork c.args.shared.now.layout.radix c.seek_place.new.pass c.claim_new_nodes.new.pass c.grow.new.pass
    c.args.key c.in-Some.end
    c.in-Some-claim_new_nodes.made c.in-Some-claim_new_nodes.ensures.has
    (rw c.get-sought.ensures.number at c.in-Ok.ensures.won))

pub returns-in-Ok-clause-kept : goal.returns-in-Ok-clause-kept
returns-in-Ok-clause-kept c =
    let p = c.claim_new_nodes.new.pass in
    let q = c.grow.new.pass in
    let grown = grows_won c.args.shared.now.layout.radix c.args.key c.in-Some.end
    c.in-Some-claim_new_nodes.made p.view.log q.view.log
    (rw c.get-sought.ensures.number at c.in-Ok.ensures.won).part in
    let was = holds_on c.seek_place.new.pass p c.args.held.now c.claim_new_nodes.ensures.on.same
    c.claim_new_nodes.ensures.only.ledgers
    (fork_adds c.args.workspace.now.placement c.args.shared.now.layout.nodes _ _ c.claim_new_nodes.result
    c.claim_new_nodes.ensures.part)
    (holds_on c.args.pass.now c.seek_place.new.pass c.args.held.now c.seek_place.ensures.on.same
    c.seek_place.ensures.only.ledgers
    (stops_adds c.args.shared.now.layout c.get-sought.result c.args.pass.now.view.log c.seek_place.new.pass.view.log
    c.seek_place.new.chain.items
    c.seek_place.result c.seek_place.ensures.walk) c.requires.kept) in
    holds_so p q c.args.held.now _ c.grow.ensures.on.same c.grow.ensures.call.ledgers
    (link_counts _ _ p.view.log q.view.log grown c.saturating_add-held.ensures was.counted) refl was

pub returns-in-Ok-clause-fills : goal.returns-in-Ok-clause-fills
returns-in-Ok-clause-fills c = fills_none c.args.held.now.queue

-- ---- the link was lost

pub give_back-requires-clause-own : goal.give_back-requires-clause-own
give_back-requires-clause-own c =
    let q = c.claim_new_nodes.new.pass in
    let s = c.grow.new.pass in
    own_still c.args.shared.now c.args.pass.now s c.requires.pinned.own
    (goes_then c.args.pass.now c.seek_place.new.pass s c.seek_place.ensures.on
    (goes_then c.seek_place.new.pass q s c.claim_new_nodes.ensures.on c.grow.ensures.on)).same

pub give_back-requires-clause-ready : goal.give_back-requires-clause-ready
give_back-requires-clause-ready c = (rw c.get-sought.ensures.number at c.in-Err.ensures.lost).ready

pub help-requires-clause-pinned : goal.help-requires-clause-pinned
help-requires-clause-pinned c =
    let p = c.args.pass.now in
    let r = c.seek_place.new.pass in
    let q = c.claim_new_nodes.new.pass in
    let s = c.grow.new.pass in
    let b = c.give_back.new.pass in
    pinned_in_still c.args.shared.now p b
    (goes_then p r b c.seek_place.ensures.on (goes_then r q b c.claim_new_nodes.ensures.on
    (goes_then q s b c.grow.ensures.on c.give_back.ensures.on))) c.requires.pinned

pub help-requires-clause-at : goal.help-requires-clause-at
help-requires-clause-at c =
    let r = c.seek_place.new.pass in
    let q = c.claim_new_nodes.new.pass in
    let s = c.grow.new.pass in
    let b = c.give_back.new.pass in
    let on = goes_then r q b c.claim_new_nodes.ensures.on (goes_then q s b c.grow.ensures.on c.give_back.ensures.on) in
    at_kept (Tells r) (Tells b)
    (λ fact holds. on.keeps fact holds) c.in-Some.end.seek_record c.seek_place.new.chain.items c.in-Some.ensures.came.at

pub help-requires-clause-few : goal.help-requires-clause-few
help-requires-clause-few c = c.in-Some.ensures.came.few

pub help-requires-clause-kept : goal.help-requires-clause-kept
help-requires-clause-kept c =
    let p = c.claim_new_nodes.new.pass in
    let q = c.grow.new.pass in
    holds_on q c.give_back.new.pass c.args.held.now c.give_back.ensures.on.same c.give_back.ensures.only.ledgers
    (back_adds (Some c.in-Some-claim_new_nodes.made) q.view.log c.give_back.new.pass.view.log c.give_back.ensures.part)
    (holds_on p q c.args.held.now c.grow.ensures.on.same c.grow.ensures.call.ledgers
    (grows_lost c.args.shared.now.layout.radix c.args.key c.in-Some.end c.in-Some-claim_new_nodes.made
    c.in-Err.found p.view.log q.view.log
    (rw c.get-sought.ensures.number at c.in-Err.ensures.lost).part)
    (holds_on c.seek_place.new.pass p c.args.held.now c.claim_new_nodes.ensures.on.same
    c.claim_new_nodes.ensures.only.ledgers
    (fork_adds c.args.workspace.now.placement c.args.shared.now.layout.nodes _ _ c.claim_new_nodes.result
    c.claim_new_nodes.ensures.part)
    (holds_on c.args.pass.now c.seek_place.new.pass c.args.held.now c.seek_place.ensures.on.same
    c.seek_place.ensures.only.ledgers
    (stops_adds c.args.shared.now.layout c.get-sought.result c.args.pass.now.view.log c.seek_place.new.pass.view.log
    c.seek_place.new.chain.items
    c.seek_place.result c.seek_place.ensures.walk) c.requires.kept)))

pub returns-in-Err-clause-part : goal.returns-in-Err-clause-part
returns-in-Err-clause-part c =
    inr (
      c.in-Some.end,
      c.seek_place.new.chain.items,
      c.seek_place.new.pass.view.log,
      c.in-Some.ensures.came.few,
      (rw c.get-sought.ensures.number at c.in-Some.ensures.walk),
      inr (inl (
        rw c.get-sought.ensures.number at c.if-end-sought.false,
        refl,
        (
          c.in-Some-claim_new_nodes.made,
          c.in-Err.found,
          c.claim_new_nodes.new.pass.view.log,
          c.grow.new.pass.view.log,
          c.give_back.new.pass.view.log,
          c.in-Some-claim_new_nodes.ensures.part,
          (rw c.get-sought.ensures.number at c.in-Err.ensures.lost).part,
          c.give_back.ensures.part,
          c.help.ensures.part,
        ),
      )),
    )

pub returns-in-Err-clause-shows : goal.returns-in-Err-clause-shows
returns-in-Err-clause-shows c =
    let p = c.args.pass.now in
    let r = c.seek_place.new.pass in
    let q = c.claim_new_nodes.new.pass in
    let s = c.grow.new.pass in
    let b = c.give_back.new.pass in
    let h = c.help.new.pass in
    nothing_then p r h (looks_nothing p r c.seek_place.ensures.only)
    (nothing_then r q h (makes_nothing r q c.claim_new_nodes.ensures.only)
    (nothing_then q s h (record {
      linked =
          (rw c.get-sought.ensures.number at c.in-Err.ensures.lost).linked;
      swapped = c.grow.ensures.call.swapped;
    })
    (nothing_then s b h (makes_nothing s b c.give_back.ensures.only) (cleans_nothing b h c.help.ensures.only))))

pub returns-in-Err-clause-on : goal.returns-in-Err-clause-on
returns-in-Err-clause-on c =
    let r = c.seek_place.new.pass in
    let q = c.claim_new_nodes.new.pass in
    let s = c.grow.new.pass in
    let b = c.give_back.new.pass in
    let h = c.help.new.pass in
    goes_then c.args.pass.now r h c.seek_place.ensures.on
    (goes_then r q h c.claim_new_nodes.ensures.on (goes_then q s h c.grow.ensures.on
    (goes_then s b h c.give_back.ensures.on c.help.ensures.on)))

pub returns-in-Err-clause-only : goal.returns-in-Err-clause-only
returns-in-Err-clause-only c =
    let p = c.args.pass.now in
    let r = c.seek_place.new.pass in
    let q = c.claim_new_nodes.new.pass in
    let s = c.grow.new.pass in
    let b = c.give_back.new.pass in
    let h = c.help.new.pass in
    puts_then p r h c.seek_place.ensures.on.same (looks_puts p r c.seek_place.ensures.only)
    (puts_then r q h c.claim_new_nodes.ensures.on.same (makes_puts r q c.claim_new_nodes.ensures.only)
    (puts_then q s h c.grow.ensures.on.same (grows_puts q s c.grow.ensures.call)
    (puts_then s b h c.give_back.ensures.on.same (makes_puts s b c.give_back.ensures.only)
    (cleans_puts b h c.help.ensures.only))))

pub returns-in-Err-clause-private : goal.returns-in-Err-clause-private
returns-in-Err-clause-private c =
    let r = c.seek_place.new.pass in
    let made = c.in-Some-claim_new_nodes.made in
    private_since c.args.pass.now r c.help.new.pass (λ s. ap (λ m. get m s) c.seek_place.ensures.only.private)
    (none_left r c.give_back.new.pass c.help.new.pass c.help.ensures.only.private
    (c.give_back.ensures.given r
    (lost_fork c.args.shared.now.layout.radix r c.claim_new_nodes.new.pass c.grow.new.pass c.args.key
    c.in-Some.end made c.in-Err.found
    c.in-Some-claim_new_nodes.ensures.has (rw c.get-sought.ensures.number at c.in-Err.ensures.lost))))

pub returns-in-Err-clause-kept : goal.returns-in-Err-clause-kept
returns-in-Err-clause-kept c = c.help.ensures.kept

pub returns-in-Err-clause-fills : goal.returns-in-Err-clause-fills
returns-in-Err-clause-fills c = c.help.ensures.fills
