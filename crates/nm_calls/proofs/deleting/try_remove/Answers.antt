use Rattle.std.proofs.Common.{inl, inr, ◌∙◌}
use Rattle.nm_order.specs.Facts.Fact.{IsBorn}
use Rattle.nm_calls.proofs.Removals.{elsewhere_shows, found_flagged, cleanup_shows}
use Rattle.nm_calls.proofs.Adding.{seeks_adds}
use Rattle.nm_walks.proofs.GoingOn.{goes_then}
use Rattle.nm_walks.proofs.KeptLedgers.{holds_on}
use Rattle.nm_calls.proofs.deleting.try_remove.Goals as goal

pub returns-then-not-leads_to-clause-removed : goal.returns-then-not-leads_to-clause-removed
returns-then-not-leads_to-clause-removed c = λ yes. (
  c.in-Some.end,
  c.seek.new.chain.items,
  inl (
    (rw c.get-key.ensures.number at c.in-Some.ensures.walk),
    c.leads_to.ensures.no c.if-not-leads_to.true,
  ),
)

pub returns-then-not-leads_to-clause-shows : goal.returns-then-not-leads_to-clause-shows
returns-then-not-leads_to-clause-shows c = λ yes.
    let e = c.in-Some.end in
    elsewhere_shows c.args.pass.now c.seek.new.pass c.args.pending.now.key c.args.pending.now.leaf
    e.seek_record.edge.slot e.seek_record.parent e.key e.seek_record.side c.requires.removing
    c.seek.ensures.only.flagged (rw c.get-key.ensures.number at c.in-Some.ensures.came.found)
    (c.leads_to.ensures.no c.if-not-leads_to.true)

pub returns-clause-removed : goal.returns-clause-removed
returns-clause-removed c = λ yes.
    let w = c.cleanup.ensures.won yes in
    let e = c.in-Some.end in
    let n = c.args.pending.now.leaf in
    let edge = found_flagged c.args.pass.now c.seek.new.pass c.args.pending.now.key n e.seek_record.edge.slot
    e.seek_record.parent e.key e.seek_record.side c.requires.removing c.seek.ensures.on.run
    c.seek.ensures.only.flagged (rw c.get-key.ensures.number at c.in-Some.ensures.came.found)
    (c.leads_to.ensures.yes c.if-not-leads_to.false) in (
      c.in-Some.end,
      c.seek.new.chain.items,
      inr (
        c.seek.new.pass.view.log,
        w.nodes,
        w.epoch,
        (rw c.get-key.ensures.number at c.in-Some.ensures.walk),
        c.leads_to.ensures.yes c.if-not-leads_to.false,
        w.part,
        w.leaf c.args.pending.now.leaf.slot c.args.pending.now.leaf.birth edge
            (c.seek.ensures.on.keeps (IsBorn c.args.pending.now.leaf.slot c.args.pending.now.leaf.birth)
            c.requires.removing.born),
      ),
    )

pub returns-clause-shows : goal.returns-clause-shows
returns-clause-shows c = λ yes.
    let e = c.in-Some.end in
    let n = c.args.pending.now.leaf in
    let p = c.seek.new.pass in
    let edge = found_flagged c.args.pass.now p c.args.pending.now.key n e.seek_record.edge.slot e.seek_record.parent
    e.key e.seek_record.side c.requires.removing c.seek.ensures.on.run c.seek.ensures.only.flagged
    (rw c.get-key.ensures.number at c.in-Some.ensures.came.found)
    (c.leads_to.ensures.yes c.if-not-leads_to.false) in
    cleanup_shows p c.cleanup.new.pass e.seek_record c.seek.new.chain.items _ _ c.args.pending.now.key n
    (c.cleanup.ensures.won yes) (c.seek.ensures.only.flagged ∙ c.requires.removing.flagged)
    c.cleanup.ensures.only.flagged edge
    (c.seek.ensures.on.keeps (IsBorn n.slot n.birth) c.requires.removing.born)

pub returns-in_default-clause-kept : goal.returns-in_default-clause-kept
returns-in_default-clause-kept c = holds_on _ _ _ c.seek.ensures.on.same c.seek.ensures.only.ledgers
    (seeks_adds c.args.shared.now.layout c.get-key.result c.args.pass.now.view.log c.seek.new.pass.view.log
    c.seek.new.chain.items c.seek.result c.seek.ensures.walk) c.requires.kept

pub returns-then-not-leads_to-clause-kept : goal.returns-then-not-leads_to-clause-kept
returns-then-not-leads_to-clause-kept c = holds_on _ _ _ c.seek.ensures.on.same c.seek.ensures.only.ledgers
    (seeks_adds c.args.shared.now.layout c.get-key.result c.args.pass.now.view.log c.seek.new.pass.view.log
    c.seek.new.chain.items c.seek.result c.seek.ensures.walk) c.requires.kept

pub cleanup-requires-clause-kept : goal.cleanup-requires-clause-kept
cleanup-requires-clause-kept c = holds_on _ _ _ c.seek.ensures.on.same c.seek.ensures.only.ledgers
    (seeks_adds c.args.shared.now.layout c.get-key.result c.args.pass.now.view.log c.seek.new.pass.view.log
    c.seek.new.chain.items c.seek.result c.seek.ensures.walk) c.requires.kept

pub returns-clause-lost : goal.returns-clause-lost
returns-clause-lost c = λ no. inr (
  c.in-Some.end,
  c.seek.new.chain.items,
  c.seek.new.pass.view.log,
  (rw c.get-key.ensures.number at c.in-Some.ensures.walk),
  c.leads_to.ensures.yes c.if-not-leads_to.false,
  (c.cleanup.ensures.lost no).part,
)

pub returns-clause-on : goal.returns-clause-on
returns-clause-on c = goes_then c.args.pass.now c.seek.new.pass c.cleanup.new.pass c.seek.ensures.on
    c.cleanup.ensures.on
