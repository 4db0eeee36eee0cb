use Rattle.std.proofs.Common.{rules, inl, inr, refl, sym, subst}
use Rattle.nm_model.specs.declared.event.Op.TheVariants.{Insert}
use Rattle.nm_order.specs.Facts.Since.{ThePin}
use Rattle.nm_order.specs.Facts.Fact.{EndedAt}
use Rattle.nm_walks.specs.Telling.{Tells}
use Rattle.nm_walks.specs.Growing.{HasNewNodes, HoldsNewNodes}
use Rattle.nm_walks.proofs.GoingOn.{goes_then}
use Rattle.nm_walks.proofs.Standing.{at_kept}
use Rattle.nm_walks.proofs.ShortWalks.{key_of_call}
use Rattle.nm_calls.proofs.Forks.{kept_fork, lost_fork, linked_fork, held_fork, may_grow}
use Rattle.nm_calls.proofs.Adding.{link_counts, stops_adds}
use Rattle.nm_walks.proofs.KeptLedgers.{holds_on, holds_so}
use Rattle.nm_calls.proofs.AddingInserts.{readied_adds, grows_won, grows_lost}
use Rattle.nm_calls.proofs.InsertedValues.{inserted}
use Rattle.nm_calls.proofs.MadeLeaves.{put_by_link, put_earlier}
use Rattle.nm_calls.proofs.inserting.try_insert.Goals as goal

pub returns-then-end-sought-clause-shows : goal.returns-then-end-sought-clause-shows
returns-then-end-sought-clause-shows c =
    let e = c.in-Some.end in
    let ended = (rw c.get-sought.ensures.number at c.in-Some.ensures.came).found
    (rw c.get-sought.ensures.number at c.if-end-sought.true) ThePin (Insert, c.requires.call.call) in
    rw c.slot-leaf.ensures (
      (
        e.seek_record.parent,
        e.seek_record.side,
        subst
            (λ n. Tells c.seek_place.new.pass (EndedAt ThePin c.args.key e.seek_record.edge.slot e.seek_record.parent
            e.seek_record.side n)) (rw c.get-sought.ensures.number at c.if-end-sought.true) ended,
      ),
      c.seek_place.ensures.only.linked,
    )

pub returns-in_default-ready-clause-has : goal.returns-in_default-ready-clause-has
returns-in_default-ready-clause-has c = λ o has. c.ready.ensures.has o
    (kept_fork o c.args.pass.now c.seek_place.new.pass c.args.new_nodes.now c.seek_place.ensures.on.same
    c.seek_place.ensures.only.private has)

pub grow-requires-clause-may : goal.grow-requires-clause-may
grow-requires-clause-may c =
    let o = c.requires.new_nodes.0 in
    let has = c.ready.ensures.has o (kept_fork o c.args.pass.now c.seek_place.new.pass c.args.new_nodes.now
    c.seek_place.ensures.on.same c.seek_place.ensures.only.private c.requires.new_nodes.1) in
    let made = held_fork o c.ready.new.pass c.ready.new.new_nodes c.in-Some-ready.made c.in-Some-ready.ensures.part.0
    has in
    rw c.get-sought.ensures.number
    (may_grow c.args.shared.now c.args.pass.now c.seek_place.new.pass c.ready.new.pass c.args.key c.in-Some.end
    c.seek_place.new.chain.items c.in-Some-ready.made
    (search rules) c.requires.call.call c.requires.unlinked c.requires.unswapped
    c.seek_place.ensures.on c.seek_place.ensures.only (rw c.get-sought.ensures.number at c.in-Some.ensures.came)
    (rw c.get-sought.ensures.number at c.in-Some.ensures.place)
    (rw c.get-sought.ensures.number at c.if-end-sought.false) c.ready.ensures.on c.ready.ensures.only made.ready)

pub help-requires-clause-at : goal.help-requires-clause-at
help-requires-clause-at c =
    let on = goes_then c.seek_place.new.pass c.ready.new.pass c.grow.new.pass c.ready.ensures.on c.grow.ensures.on in
    at_kept (Tells c.seek_place.new.pass) (Tells c.grow.new.pass) (λ fact holds. on.keeps fact holds)
    c.in-Some.end.seek_record c.seek_place.new.chain.items c.in-Some.ensures.came.at

pub returns-in-Ok-clause-on : goal.returns-in-Ok-clause-on
returns-in-Ok-clause-on c =
    let q = c.grow.new.pass in
    goes_then c.args.pass.now c.seek_place.new.pass q c.seek_place.ensures.on
    (goes_then c.seek_place.new.pass c.ready.new.pass q c.ready.ensures.on c.grow.ensures.on)

pub returns-in-Err-clause-on : goal.returns-in-Err-clause-on
returns-in-Err-clause-on c =
    let q = c.help.new.pass in
    let grown = goes_then c.ready.new.pass c.grow.new.pass q c.grow.ensures.on c.help.ensures.on in
    goes_then c.args.pass.now c.seek_place.new.pass q c.seek_place.ensures.on
    (goes_then c.seek_place.new.pass c.ready.new.pass q c.ready.ensures.on grown)

pub returns-in-Ok-clause-has : goal.returns-in-Ok-clause-has
returns-in-Ok-clause-has c = λ o has.
    let there = c.ready.ensures.has o (kept_fork o c.args.pass.now c.seek_place.new.pass c.args.new_nodes.now
    c.seek_place.ensures.on.same c.seek_place.ensures.only.private has) in
    linked_fork c.args.shared.now.layout.radix o c.ready.new.pass c.grow.new.pass c.args.key c.in-Some.end
    c.in-Some-ready.made (held_fork o c.ready.new.pass c.ready.new.new_nodes c.in-Some-ready.made
    c.in-Some-ready.ensures.part.0 there) (rw c.get-sought.ensures.number at c.in-Ok.ensures.won)

pub returns-in-Err-clause-has : goal.returns-in-Err-clause-has
returns-in-Err-clause-has c = λ o has.
    let there = c.ready.ensures.has o (kept_fork o c.args.pass.now c.seek_place.new.pass c.args.new_nodes.now
    c.seek_place.ensures.on.same c.seek_place.ensures.only.private has) in
    let is = c.in-Some-ready.ensures.part.0 in
    let now : HoldsNewNodes o c.grow.new.pass c.in-Some-ready.made =
    lost_fork c.args.shared.now.layout.radix o c.ready.new.pass c.grow.new.pass c.args.key c.in-Some.end
    c.in-Some-ready.made c.in-Err.found (held_fork o c.ready.new.pass c.ready.new.new_nodes c.in-Some-ready.made is
    there) (rw c.get-sought.ensures.number at c.in-Err.ensures.lost) in
    kept_fork o c.grow.new.pass c.help.new.pass c.ready.new.new_nodes c.help.ensures.on.same
    c.help.ensures.only.private (subst (λ f. HasNewNodes o c.grow.new.pass f) (sym is) now)

pub returns-in_default-clause-kept : goal.returns-in_default-clause-kept
returns-in_default-clause-kept c = holds_on _ _ _ c.seek_place.ensures.on.same c.seek_place.ensures.only.ledgers
    (stops_adds c.args.shared.now.layout c.args.key c.args.pass.now.view.log c.seek_place.new.pass.view.log
    c.seek_place.new.chain.items c.seek_place.result (rw c.get-sought.ensures.number at c.seek_place.ensures.walk))
    c.requires.kept

pub returns-then-end-sought-clause-kept : goal.returns-then-end-sought-clause-kept
returns-then-end-sought-clause-kept c = holds_on _ _ _ c.seek_place.ensures.on.same c.seek_place.ensures.only.ledgers
    (stops_adds c.args.shared.now.layout c.args.key c.args.pass.now.view.log c.seek_place.new.pass.view.log
    c.seek_place.new.chain.items c.seek_place.result (rw c.get-sought.ensures.number at c.seek_place.ensures.walk))
    c.requires.kept

pub returns-in_default-ready-clause-kept : goal.returns-in_default-ready-clause-kept
returns-in_default-ready-clause-kept c =
    holds_on c.seek_place.new.pass c.ready.new.pass _ c.ready.ensures.on.same c.ready.ensures.only.ledgers
    (readied_adds c.args.workspace.now.placement c.args.shared.now.layout.nodes c.args.new_nodes.now
    c.ready.new.new_nodes c.ready.result c.seek_place.new.pass.view.log c.ready.new.pass.view.log c.ready.ensures.part)
    (holds_on _ _ _ c.seek_place.ensures.on.same c.seek_place.ensures.only.ledgers
    (stops_adds c.args.shared.now.layout c.args.key c.args.pass.now.view.log c.seek_place.new.pass.view.log
    c.seek_place.new.chain.items c.seek_place.result (rw c.get-sought.ensures.number at c.seek_place.ensures.walk))
    c.requires.kept)

pub help-requires-clause-kept : goal.help-requires-clause-kept
help-requires-clause-kept c =
    holds_on c.ready.new.pass c.grow.new.pass _ c.grow.ensures.on.same c.grow.ensures.call.ledgers
    (grows_lost c.args.shared.now.layout.radix c.args.key c.in-Some.end c.in-Some-ready.made c.in-Err.found
    c.ready.new.pass.view.log c.grow.new.pass.view.log (rw c.get-sought.ensures.number at c.in-Err.ensures.lost).part)
    (holds_on c.seek_place.new.pass c.ready.new.pass _ c.ready.ensures.on.same c.ready.ensures.only.ledgers
    (readied_adds c.args.workspace.now.placement c.args.shared.now.layout.nodes c.args.new_nodes.now
    c.ready.new.new_nodes c.ready.result c.seek_place.new.pass.view.log c.ready.new.pass.view.log c.ready.ensures.part)
    (holds_on _ _ _ c.seek_place.ensures.on.same c.seek_place.ensures.only.ledgers
    (stops_adds c.args.shared.now.layout c.args.key c.args.pass.now.view.log c.seek_place.new.pass.view.log
    c.seek_place.new.chain.items c.seek_place.result (rw c.get-sought.ensures.number at c.seek_place.ensures.walk))
    c.requires.kept))

pub returns-in-Ok-clause-kept : goal.returns-in-Ok-clause-kept
returns-in-Ok-clause-kept c =
    let p = c.ready.new.pass in
    let q = c.grow.new.pass in
    let grown = grows_won c.args.shared.now.layout.radix c.args.key c.in-Some.end c.in-Some-ready.made p.view.log
    q.view.log (rw c.get-sought.ensures.number at c.in-Ok.ensures.won).part in
    let was = holds_on c.seek_place.new.pass p c.args.held.now c.ready.ensures.on.same c.ready.ensures.only.ledgers
    (readied_adds c.args.workspace.now.placement c.args.shared.now.layout.nodes c.args.new_nodes.now
    c.ready.new.new_nodes c.ready.result c.seek_place.new.pass.view.log c.ready.new.pass.view.log c.ready.ensures.part)
    (holds_on _ _ _ c.seek_place.ensures.on.same c.seek_place.ensures.only.ledgers
    (stops_adds c.args.shared.now.layout c.args.key c.args.pass.now.view.log c.seek_place.new.pass.view.log
    c.seek_place.new.chain.items c.seek_place.result (rw c.get-sought.ensures.number at c.seek_place.ensures.walk))
    c.requires.kept) in
    holds_so p q c.args.held.now _ c.grow.ensures.on.same c.grow.ensures.call.ledgers
    (link_counts _ _ p.view.log q.view.log grown c.saturating_add-held.ensures was.counted) refl was

pub returns-in-Err-clause-part : goal.returns-in-Err-clause-part
returns-in-Err-clause-part c =
    let r = c.in-Some.end in
    let ready = c.in-Some-ready.ensures.part in
    inr (
      c.in-Some-ready.made,
      r,
      c.seek_place.new.chain.items,
      c.in-Err.found,
      c.grow.new.pass.view.log,
      record {
        ended = c.seek_place.new.pass.view.log;
        walk = (rw c.get-sought.ensures.number at c.in-Some.ensures.walk);
        other = (rw c.get-sought.ensures.number at c.if-end-sought.false);
        claimed = c.ready.new.pass.view.log;
        readies = ready.1;
        grows = (rw c.get-sought.ensures.number at c.in-Err.ensures.lost).part;
      },
      ready.0,
      c.help.ensures.part,
    )

pub seek_place-requires-clause-key : goal.seek_place-requires-clause-key
seek_place-requires-clause-key c = rw c.get-sought.ensures.number
    (key_of_call c.args.pass.now c.requires.pinned.run Insert c.args.key c.requires.call.call)

pub returns-in_default-clause-part : goal.returns-in_default-clause-part
returns-in_default-clause-part c = inl (
  c.seek_place.new.chain.items,
  (rw c.get-sought.ensures.number at c.in_default.ensures.walk),
  refl,
)

pub returns-in_default-ready-clause-on : goal.returns-in_default-ready-clause-on
returns-in_default-ready-clause-on c = goes_then c.args.pass.now c.seek_place.new.pass c.ready.new.pass
    c.in-Some.ensures.on c.ready.ensures.on

pub returns-in-Ok-clause-stored : goal.returns-in-Ok-clause-stored
returns-in-Ok-clause-stored c = λ values _. inserted c.args.shared.now.layout.radix c.ready.new.pass c.grow.new.pass
    c.args.key c.args.value c.in-Some.end c.in-Some-ready.made
    (rw c.get-sought.ensures.number at c.in-Ok.ensures.won) (c.in-Ok.ensures.stored values)

pub returns-in-Ok-clause-put : goal.returns-in-Ok-clause-put
returns-in-Ok-clause-put c = λ values _.
    put_earlier c.args.pass.now c.ready.new.pass c.grow.new.pass c.args.key c.args.value
    (goes_then c.args.pass.now c.seek_place.new.pass c.ready.new.pass c.seek_place.ensures.on c.ready.ensures.on).past
    (put_by_link c.ready.new.pass c.grow.new.pass c.in-Some-ready.made.leaf.slot c.args.key c.args.value
    c.know_run.ensures.fits c.know_run.ensures.seen (rw c.get-sought.ensures.number at c.in-Ok.ensures.leaf)
    (c.in-Ok.ensures.stored values))

pub returns-then-end-sought-clause-part : goal.returns-then-end-sought-clause-part
returns-then-end-sought-clause-part c = (
  c.in-Some.end,
  c.seek_place.new.chain.items,
  (rw c.get-sought.ensures.number at c.in-Some.ensures.walk),
  (rw c.get-sought.ensures.number at c.if-end-sought.true),
  sym c.slot-leaf.ensures,
  refl,
)
