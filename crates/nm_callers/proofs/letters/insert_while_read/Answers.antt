use Rattle.std.proofs.Common.{◌≡◌, ◌∙◌, sym, ap, subst}
use Rattle.std.specs.Prelude.{Option, IfSome}
use Rattle.nm_edge.specs.Layouts.{Layout}
use Rattle.nm_steps.specs.Rules.{Extends}
use Rattle.nm_steps.specs.Steps.{TreeView, PassView}
use Rattle.nm_set.specs.declared.posting.Stamp.{Stamp}
use Rattle.nm_callers.specs.Letters.{HasWritten}
use Rattle.nm_callers.specs.Meanwhile.{NoneDeleted}
use Rattle.nm_callers.proofs.LettersRead.{finds}
use Rattle.nm_callers.proofs.letters.insert_while_read.Goals as goal

pub returns-in-Some : goal.returns-in-Some
returns-in-Some g c =
    let w = c.args.first.worker in
    let z = c.write_and_read-written.result.0.member.worker in
    let x = c.write_and_read-written.result.1.member.worker in
    let v = c.hear.new.self.worker in
    let wrote = subst (λ (o : Option Stamp). IfSome o (HasWritten c.args.key w z)) c.in-Some.is
    c.write_and_read-written.ensures.written in
    let on : Extends v.pass.view.past z.pass.view.past = subst (Extends v.pass.view.past)
    (ap (λ n. n.past) c.note-note.ensures.note) c.hear.ensures.heard in
    let tree = c.write_and_read-written.ensures.second
    ∙ (sym c.requires.same ∙ sym c.write_and_read-written.ensures.first) in
    let layout : z.pass.view.layout ≡ v.pass.view.layout = c.know_run.ensures.own.own.layout
    ∙ (ap (λ (d : TreeView). d.layout) (sym tree ∙ sym c.hear.ensures.tree)
    ∙ sym c.know_run-3.ensures.own.own.layout) in
    let layout' : x.pass.view.layout ≡ v.pass.view.layout = c.know_run-2.ensures.own.own.layout
    ∙ (ap (λ (d : TreeView). d.layout) (sym c.hear.ensures.tree) ∙ sym c.know_run-3.ensures.own.own.layout) in
    record {
      found = λ none. finds c.letters_are_in_order.ensures c.args.key w z x v c.in-Some.field-0
          c.write_and_read-written.result.1.found wrote c.requires.unlinked c.requires.unflagged
          c.write_and_read-written.ensures.found c.know_run.ensures.seen c.know_run-3.ensures.seen
          c.know_run-3.ensures.turns c.know_run-3.ensures.fits on c.hear.ensures.past.goes_on layout layout'
          (subst (λ (l : Layout). NoneDeleted l w.pass.view.past v.pass.view.past c.args.key)
          (ap (λ (p : PassView). p.view.layout) (sym wrote.same) ∙ layout) none);
    }
