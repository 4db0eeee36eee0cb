use Rattle.std.proofs.Common.{List, ◌≡◌, ◌≤◌, inl, inr, refl, ap, subst, ◌∙◌, arith}
use Rattle.nm_edge.specs.Layouts.{Layout}
use Rattle.nm_model.specs.Maps.{get}
use Rattle.nm_model.specs.Walks.{Entry}
use Rattle.nm_order.specs.Facts.Since.{ThePin}
use Rattle.nm_order.specs.Facts.Fact.{EndedAt}
use Rattle.nm_steps.specs.Rules.{knowledge}
use Rattle.nm_steps.specs.Steps.{PassView}
use Rattle.nm_walks.proofs.GoingOn.{goes_then, pinned_in_still}
use Rattle.nm_walks.proofs.KeptLedgers.{holds_on}
use Rattle.nm_walks.proofs.ValueLooks.{goes_by_value, looks_by_value}
use Rattle.nm_calls.proofs.Adding.{adds_none}
use Rattle.nm_calls.proofs.FoundValues.{read_found}
use Rattle.nm_calls.proofs.Rooms.{fills_none}
use Rattle.nm_puts.specs.declared.putting.Condition.TheVariants as condition
use Rattle.nm_puts.specs.Puts.{IsExpected, ReplacesAt}
use Rattle.nm_puts.specs.Replaced.{HasReplaced}
use Rattle.nm_puts.proofs.ReplacedValues.{replaced_since}
use Rattle.nm_puts.proofs.TriedPuts.{ended_still, expected_is, if_replaced, looks_nothing, looks_puts, private_since, puts_then, replace_later, replaced_does, shows_since, was_just_read}
use Rattle.nm_puts.proofs.UnderPins.{leaf_is_high}
use Rattle.nm_puts.proofs.putting.replace_if.Goals as goal

pub look_value-found-requires-clause-slot : goal.look_value-found-requires-clause-slot
look_value-found-requires-clause-slot c =
    let may = c.requires.may in
    let s = c.args.end.now.seek_record in
    let within = leaf_is_high c.args.pass.now c.requires.pinned.run c.know_run.ensures.seen
    c.args.key s.edge.slot may.is_key (s.parent, s.side, may.ended) in
    let high = within.0 in
    rw c.slot.ensures (
      omega (arith, high),
      subst
          (λ (L : Layout). s.edge.slot ≤ L.nodes) c.requires.pinned.own.layout within.1,
    )

-- ---- another value

pub returns-then-found-expected-clause-part : goal.returns-then-found-expected-clause-part
returns-then-found-expected-clause-part c =
    inr (inr (inl (
      c.requires.same,
      (c.args.expected, c.look_value-found.result, refl, c.if-found-expected.true, refl),
      ap (λ (x : PassView). x.view.log) c.look_value-found.ensures.looks.same,
    )))

pub returns-then-found-expected-clause-on : goal.returns-then-found-expected-clause-on
returns-then-found-expected-clause-on c = goes_by_value c.args.pass.now c.look_value-found.new.pass
    c.look_value-found.ensures.looks c.know_run.ensures.fits

pub returns-then-found-expected-clause-does : goal.returns-then-found-expected-clause-does
returns-then-found-expected-clause-does c =
    let p = c.args.pass.now in
    let m = c.look_value-found.new.pass in
    let s = c.args.end.now.seek_record in
    let on = goes_by_value p m c.look_value-found.ensures.looks c.know_run.ensures.fits in
    read_found m on.run c.args.key s.edge.slot c.look_value-found.result
    (s.parent, s.side, on.keeps (EndedAt ThePin c.args.key s.edge.slot s.parent s.side c.args.key) c.requires.may.ended)
    c.look_value-found.ensures.looks.seen (rw (← c.slot.ensures) c.look_value-found.ensures.value)

pub returns-then-found-expected-clause-shows : goal.returns-then-found-expected-clause-shows
returns-then-found-expected-clause-shows c =
    let p = c.args.pass.now in
    let m = c.look_value-found.new.pass in
    let on = goes_by_value p m c.look_value-found.ensures.looks c.know_run.ensures.fits in (
      ended_still p m c.args.key c.args.end.now c.args.workspace.now.chain.items c.requires.may on,
      (looks_by_value p m c.look_value-found.ensures.looks).linked,
    )

pub returns-then-found-expected-clause-only : goal.returns-then-found-expected-clause-only
returns-then-found-expected-clause-only c =
    looks_puts c.args.pass.now c.look_value-found.new.pass
    (looks_by_value c.args.pass.now c.look_value-found.new.pass c.look_value-found.ensures.looks)

pub returns-then-found-expected-clause-private : goal.returns-then-found-expected-clause-private
returns-then-found-expected-clause-private c = λ s. ap (λ (x : PassView). get
    (knowledge x.view).drafts s) c.look_value-found.ensures.looks.same

pub returns-then-found-expected-clause-kept : goal.returns-then-found-expected-clause-kept
returns-then-found-expected-clause-kept c =
    let p = c.args.pass.now in
    let m = c.look_value-found.new.pass in
    let looks = c.look_value-found.ensures.looks in
    holds_on p m c.args.held.now (goes_by_value p m looks c.know_run.ensures.fits).same
    (looks_by_value p m looks).ledgers
    (adds_none p.view.log m.view.log (ap (λ (x : PassView). x.view.log) looks.same)) c.requires.kept

pub returns-then-found-expected-clause-fills : goal.returns-then-found-expected-clause-fills
returns-then-found-expected-clause-fills c = fills_none c.args.held.now.queue

-- ---- the expected value

pub replace_at-requires-clause-pinned : goal.replace_at-requires-clause-pinned
replace_at-requires-clause-pinned c =
    let p = c.args.pass.now in
    let m = c.look_value-found.new.pass in
    pinned_in_still c.args.shared.now p m
    (goes_by_value p m c.look_value-found.ensures.looks c.know_run.ensures.fits) c.requires.pinned

pub replace_at-requires-clause-may : goal.replace_at-requires-clause-may
replace_at-requires-clause-may c =
    let p = c.args.pass.now in
    let m = c.look_value-found.new.pass in
    let looks = c.look_value-found.ensures.looks in
    replace_later p m c.args.key c.args.end.now c.args.workspace.now.chain.items c.requires.may
    (goes_by_value p m looks c.know_run.ensures.fits) (looks_by_value p m looks)

pub replace_at-requires-clause-kept : goal.replace_at-requires-clause-kept
replace_at-requires-clause-kept c =
    let p = c.args.pass.now in
    let m = c.look_value-found.new.pass in
    let looks = c.look_value-found.ensures.looks in
    holds_on p m c.args.held.now (goes_by_value p m looks c.know_run.ensures.fits).same
    (looks_by_value p m looks).ledgers
    (adds_none p.view.log m.view.log (ap (λ (x : PassView). x.view.log) looks.same)) c.requires.kept

pub returns-clause-part : goal.returns-clause-part
returns-clause-part c =
    inl (
      c.requires.same,
      subst (λ (l : List Entry). ReplacesAt c.args.workspace.now.placement c.args.shared.now.layout c.args.key
          c.args.end.now
          c.args.workspace.now.chain.items l c.replace_at.new.pass.view.log c.replace_at.result)
          (ap (λ (x : PassView). x.view.log) c.look_value-found.ensures.looks.same) c.replace_at.ensures.part,
    )

pub returns-clause-does : goal.returns-clause-does
returns-clause-does c =
    let p = c.args.pass.now in
    let m = c.look_value-found.new.pass in
    let q = c.replace_at.new.pass in
    let k = c.args.key in
    let v = c.args.value in
    let a = c.replace_at.result in
    let s = c.args.end.now.seek_record in
    let on = goes_by_value p m c.look_value-found.ensures.looks c.know_run.ensures.fits in
    let was = c.replace_at.ensures.was m c.look_value-found.result
    (was_just_read m k s.edge.slot c.look_value-found.result on.run c.requires.may.is_key
    (s.parent, s.side, on.keeps (EndedAt ThePin k s.edge.slot s.parent s.side k) c.requires.may.ended)
    c.look_value-found.ensures.looks.seen (rw (← c.slot.ensures) c.look_value-found.ensures.value)) in
    replaced_does c.args.workspace.now.placement c.args.shared.now.layout
    (condition.IfItIs c.args.expected) k v c.args.end.now
    c.args.workspace.now.chain.items m.view.log q.view.log p q a c.replace_at.ensures.part
    (if_replaced (λ old. HasReplaced m q k old v) (λ old. HasReplaced p q k old v)
    (λ old h. replaced_since p m q k old v on.past h) a c.replace_at.ensures.does)
    (if_replaced (λ old. old ≡ c.look_value-found.result) (IsExpected (condition.IfItIs c.args.expected))
    (λ old h e is. h ∙ (c.if-found-expected.false ∙ expected_is c.args.expected e is)) a was)

pub returns-clause-shows : goal.returns-clause-shows
returns-clause-shows c =
    let p = c.args.pass.now in
    let m = c.look_value-found.new.pass in
    shows_since c.args.key p m c.replace_at.new.pass c.replace_at.result
    (looks_nothing p m (looks_by_value p m c.look_value-found.ensures.looks)) c.replace_at.ensures.shows

pub returns-clause-on : goal.returns-clause-on
returns-clause-on c =
    let p = c.args.pass.now in
    let m = c.look_value-found.new.pass in
    goes_then p m c.replace_at.new.pass
    (goes_by_value p m c.look_value-found.ensures.looks c.know_run.ensures.fits) c.replace_at.ensures.on

pub returns-clause-only : goal.returns-clause-only
returns-clause-only c =
    let p = c.args.pass.now in
    let m = c.look_value-found.new.pass in
    let looks = c.look_value-found.ensures.looks in
    puts_then p m c.replace_at.new.pass (goes_by_value p m looks c.know_run.ensures.fits).same
    (looks_puts p m (looks_by_value p m looks)) c.replace_at.ensures.only

pub returns-clause-private : goal.returns-clause-private
returns-clause-private c =
    private_since c.args.pass.now c.look_value-found.new.pass c.replace_at.new.pass
    (λ s. ap (λ (x : PassView). get
    (knowledge x.view).drafts s) c.look_value-found.ensures.looks.same) c.replace_at.ensures.private
