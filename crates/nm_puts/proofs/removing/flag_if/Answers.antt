use Rattle.std.proofs.Common.{ℕ, List, ap, subst, sym, ◌∙◌}
use Rattle.std.specs.Prelude.{Some}
use Rattle.nm_model.specs.Walks.{Entry}
use Rattle.nm_order.specs.Facts.Since.{ThePin}
use Rattle.nm_order.specs.Facts.Fact.{EndedAt}
use Rattle.nm_steps.specs.Steps.{PassView}
use Rattle.nm_walks.specs.Telling.{Tells}
use Rattle.nm_walks.specs.Walks.{Seeks}
use Rattle.nm_walks.proofs.Standing.{at_kept}
use Rattle.nm_walks.proofs.ValueLooks.{goes_by_value, looks_by_value}
use Rattle.nm_calls.proofs.FoundValues.{read_found}
use Rattle.nm_puts.specs.Swaps.{ValueWas}
use Rattle.nm_puts.proofs.ExpectedValues.{flag_later, read_expected}
use Rattle.nm_puts.proofs.TriedPuts.{was_just_read}
use Rattle.nm_puts.proofs.removing.flag_if.Goals as goal

pub returns-then-found-expected-clause-other : goal.returns-then-found-expected-clause-other
returns-then-found-expected-clause-other c =
    let p = c.args.pass.now in
    let m = c.look_value-found.new.pass in
    let s = c.args.end.now.seek_record in
    let looks = c.look_value-found.ensures.looks in
    let on = goes_by_value p m looks c.know_run.ensures.fits in
    record {
      other = c.if-found-expected.true;
      read = read_found m on.run c.args.key s.edge.slot c.look_value-found.result (
        s.parent,
        s.side,
        on.keeps (EndedAt ThePin c.args.key s.edge.slot s.parent s.side c.args.key) c.requires.may.ended,
      )
          looks.seen (rw (← c.slot.ensures) c.look_value-found.ensures.value);
      unflagged = (looks_by_value p m looks).flagged ∙ c.requires.may.unflagged;
    }

pub flag_or_help-requires-clause-may : goal.flag_or_help-requires-clause-may
flag_or_help-requires-clause-may c =
    let p = c.args.pass.now in
    let m = c.look_value-found.new.pass in
    let looks = c.look_value-found.ensures.looks in
    flag_later p m c.args.key c.args.end.now c.requires.may (goes_by_value p m looks c.know_run.ensures.fits)
    (looks_by_value p m looks)

pub flag_or_help-requires-clause-at : goal.flag_or_help-requires-clause-at
flag_or_help-requires-clause-at c =
    let p = c.args.pass.now in
    let m = c.look_value-found.new.pass in
    let on = goes_by_value p m c.look_value-found.ensures.looks c.know_run.ensures.fits in
    at_kept (Tells p) (Tells m) (λ fact holds. on.keeps fact holds) c.args.end.now.seek_record
    c.args.workspace.now.chain.items c.requires.at

pub returns-clause-part : goal.returns-clause-part
returns-clause-part c = λ before walk same.
    c.flag_or_help.ensures.part before
    (subst (λ (l : List Entry). Seeks c.args.shared.now.layout c.args.key before l c.args.workspace.now.chain.items
    (Some c.args.end.now)) (sym (ap (λ (x : PassView). x.view.log) c.look_value-found.ensures.looks.same)) walk) same

pub returns-clause-read : goal.returns-clause-read
returns-clause-read c =
    let p = c.args.pass.now in
    let m = c.look_value-found.new.pass in
    let k = c.args.key in
    let s = c.args.end.now.seek_record in
    let looks = c.look_value-found.ensures.looks in
    let on = goes_by_value p m looks c.know_run.ensures.fits in
    let was = was_just_read m k s.edge.slot c.look_value-found.result on.run c.requires.key
    (s.parent, s.side, on.keeps (EndedAt ThePin k s.edge.slot s.parent s.side k) c.requires.may.ended) looks.seen
    (rw (← c.slot.ensures) c.look_value-found.ensures.value) in
    read_expected p m c.flag_or_help.new.pass k c.args.expected c.flag_or_help.new.value c.args.end.now c.requires.key
    (subst (λ (n : ℕ). ValueWas m m k s.edge.slot n) c.if-found-expected.false was) on c.flag_or_help.ensures.on
    c.flag_or_help.result c.flag_or_help.ensures.won (c.flag_or_help.ensures.sees c.requires.values)
    (c.flag_or_help.ensures.read c.requires.values)
