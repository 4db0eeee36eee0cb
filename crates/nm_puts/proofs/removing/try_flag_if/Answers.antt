use Rattle.std.proofs.Common.{ℕ, List, ◌≡◌, arith, subst, sym, ◌∙◌}
use Rattle.std.specs.Prelude.{Some}
use Rattle.nm_model.specs.declared.event.Op.TheVariants.{Delete}
use Rattle.nm_model.specs.Walks.{Entry}
use Rattle.nm_order.specs.Facts.Since.{ThePin}
use Rattle.nm_walks.specs.Walks.{Seeks}
use Rattle.nm_walks.proofs.GoingOn.{goes_then, own_still}
use Rattle.nm_walks.proofs.KeptLedgers.{holds_on}
use Rattle.nm_calls.specs.Deletes.{IfFlagged, ShowsFlag}
use Rattle.nm_calls.specs.Maps.{HasReadFlagged}
use Rattle.nm_calls.proofs.Adding.{seeks_adds}
use Rattle.nm_calls.proofs.Forks.{going_continues}
use Rattle.nm_calls.proofs.Removals.{may_flag_there, shows_since}
use Rattle.nm_calls.proofs.TakenValues.{if_flagged, read_since}
use Rattle.nm_puts.specs.Removing.{FindsKey}
use Rattle.nm_puts.proofs.ExpectedValues.{if_err, if_ok}
use Rattle.nm_puts.proofs.removing.try_flag_if.Goals as goal

pub returns-in_default-clause-kept : goal.returns-in_default-clause-kept
returns-in_default-clause-kept c = holds_on _ _ _ c.seek.ensures.on.same c.seek.ensures.only.ledgers
    (seeks_adds c.args.shared.now.layout c.get-sought.result c.args.pass.now.view.log c.seek.new.pass.view.log
    c.seek.new.chain.items c.seek.result c.seek.ensures.walk) c.requires.kept

-- ---- the leaf has another key

pub returns-then-end-sought-clause-part : goal.returns-then-end-sought-clause-part
returns-then-end-sought-clause-part c = (
  c.in-Some.end,
  (rw c.get-sought.ensures.number at c.in-Some.ensures.walk),
  (rw c.get-sought.ensures.number at c.if-end-sought.true),
)

pub returns-then-end-sought-clause-shows : goal.returns-then-end-sought-clause-shows
returns-then-end-sought-clause-shows c =
    let e = c.in-Some.end in (
      (
        e.seek_record.edge.slot,
        e.key,
        (rw c.get-sought.ensures.number at c.if-end-sought.true),
        (
          e.seek_record.parent,
          e.seek_record.side,
          (rw c.get-sought.ensures.number at c.in-Some.ensures.came.found)
              ThePin (Delete, c.requires.call.call),
        ),
      ),
      c.seek.ensures.only.flagged ∙ c.requires.unflagged,
    )

pub returns-then-end-sought-clause-kept : goal.returns-then-end-sought-clause-kept
returns-then-end-sought-clause-kept c = holds_on _ _ _ c.seek.ensures.on.same c.seek.ensures.only.ledgers
    (seeks_adds c.args.shared.now.layout c.get-sought.result c.args.pass.now.view.log c.seek.new.pass.view.log
    c.seek.new.chain.items c.seek.result c.seek.ensures.walk) c.requires.kept

-- ---- the leaf has the key

pub flag_if-requires-clause-may : goal.flag_if-requires-clause-may
flag_if-requires-clause-may c =
    let low = c.get-sought.ensures.fits in
    may_flag_there c.args.pass.now c.seek.new.pass c.get-sought.result c.args.shared.now.layout c.in-Some.end
    c.seek.new.chain.items (own_still c.args.shared.now c.args.pass.now c.seek.new.pass c.requires.pinned.own
    c.seek.ensures.on.same).layout (rw (← c.get-sought.ensures.number) at c.requires.call.call)
    c.requires.unflagged (omega (arith, low)) c.seek.ensures.on c.seek.ensures.only
    c.in-Some.ensures.came.ended c.in-Some.ensures.came.high c.in-Some.ensures.came.found c.if-end-sought.false

pub flag_if-requires-clause-kept : goal.flag_if-requires-clause-kept
flag_if-requires-clause-kept c = holds_on _ _ _ c.seek.ensures.on.same c.seek.ensures.only.ledgers
    (seeks_adds c.args.shared.now.layout c.get-sought.result c.args.pass.now.view.log c.seek.new.pass.view.log
    c.seek.new.chain.items c.seek.result c.seek.ensures.walk) c.requires.kept

pub returns-clause-part : goal.returns-clause-part
returns-clause-part c =
    rw c.get-sought.ensures.number at (c.flag_if.ensures.part c.args.pass.now.view.log c.in-Some.ensures.walk
    c.if-end-sought.false)

pub returns-clause-shows : goal.returns-clause-shows
returns-clause-shows c =
    let o = c.args.pass.now in
    let p = c.seek.new.pass in
    let q = c.flag_if.new.pass in
    let chain = c.flag_if.new.workspace.chain.items in
    rw c.get-sought.ensures.number at (if_ok (ShowsFlag c.get-sought.result chain p q)
    (ShowsFlag c.get-sought.result chain o q)
    (λ i h. shows_since c.get-sought.result chain o p q i c.seek.ensures.only.flagged h)
    c.flag_if.result c.flag_if.ensures.shows)

pub returns-clause-read : goal.returns-clause-read
returns-clause-read c =
    let o = c.args.pass.now in
    let p = c.seek.new.pass in
    let q = c.flag_if.new.pass in
    let v = c.args.expected in
    if_ok (λ i. IfFlagged i (HasReadFlagged p q c.get-sought.result v))
    (λ i. IfFlagged i (HasReadFlagged o q c.args.key v))
    (λ i. if_flagged (HasReadFlagged p q c.get-sought.result v) (HasReadFlagged o q c.args.key v)
    (λ h. read_since o p q c.args.key v (going_continues o p c.seek.ensures.on)
    (subst (λ (j : ℕ). HasReadFlagged p q j v) c.get-sought.ensures.number h)) i)
    c.flag_if.result c.flag_if.ensures.read

pub returns-clause-finds : goal.returns-clause-finds
returns-clause-finds c =
    let old = c.args.pass.now.view.log in
    let mid = c.seek.new.pass.view.log in
    let new = c.flag_if.new.pass.view.log in
    if_err (λ found. new ≡ mid) (λ found. FindsKey c.args.shared.now.layout c.args.key old new)
    (λ found same. (
      c.in-Some.end,
      c.seek.new.chain.items,
      subst (λ (l : List Entry). Seeks c.args.shared.now.layout c.args.key old l c.seek.new.chain.items
          (Some c.in-Some.end)) (sym same) (rw c.get-sought.ensures.number at c.in-Some.ensures.walk),
      (rw c.get-sought.ensures.number at c.if-end-sought.false),
    ))
    c.flag_if.result c.flag_if.ensures.none

pub returns-clause-on : goal.returns-clause-on
returns-clause-on c = goes_then c.args.pass.now c.seek.new.pass c.flag_if.new.pass c.seek.ensures.on
    c.flag_if.ensures.on
