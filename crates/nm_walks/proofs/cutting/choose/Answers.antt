use Rattle.std.proofs.Common.{refl, sym, ◌∙◌, true≢false}
use Rattle.nm_order.specs.Facts.Fact.{KnowsSlot, IsFlagged}
use Rattle.nm_order.proofs.ToldLaws.{twice_other}
use Rattle.nm_walks.proofs.cutting.choose.Goals as goal

pub look_edge-off-requires-clause-known : goal.look_edge-off-requires-clause-known
look_edge-off-requires-clause-known c = c.look_edge-on.ensures.on.keeps (KnowsSlot c.args.seek_record.now.parent)
    c.requires.known

pub returns-then-flag-clause-flagged : goal.returns-then-flag-clause-flagged
returns-then-flag-clause-flagged c =
    rw (c.other-across.ensures, twice_other c.args.seek_record.now.side, c.slot.ensures)
    (c.look_edge-off.ensures.on.keeps (IsFlagged c.args.seek_record.now.parent c.args.seek_record.now.side
    c.look_edge-on.result.slot) (c.look_edge-on.ensures.told.learned.flagged (sym c.flag.ensures ∙ c.if-flag.true)))

pub returns-then-flag-clause-again : goal.returns-then-flag-clause-again
returns-then-flag-clause-again c to flag = rw (
  c.other-across.ensures,
  c.slot.ensures,
  (c.look_edge-on.ensures.told.again to flag).1,
) refl

pub returns-then-flag-2-clause-again : goal.returns-then-flag-2-clause-again
returns-then-flag-2-clause-again c to flag = absurd
    (true≢false (sym (c.look_edge-on.ensures.told.again to flag).0 ∙ (sym c.flag.ensures ∙ c.if-flag.false)))

pub returns-else-flag-2-clause-again : goal.returns-else-flag-2-clause-again
returns-else-flag-2-clause-again c to flag = absurd
    (true≢false (sym (c.look_edge-on.ensures.told.again to flag).0 ∙ (sym c.flag.ensures ∙ c.if-flag.false)))
