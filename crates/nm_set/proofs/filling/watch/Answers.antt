use Rattle.std.proofs.Common.{◌≡◌, ◌∙◌, [], ap, subst}
use Rattle.nm_order.specs.Logs.{part_of}
use Rattle.nm_steps.specs.declared.view.View.{View}
use Rattle.nm_steps.specs.Rules.{Extends}
use Rattle.nm_steps.specs.Steps.{PassView}
use Rattle.nm_set.proofs.Rests.{no_turns}
use Rattle.nm_set.proofs.filling.watch.Goals as goal

pub returns-clause-rested : goal.returns-clause-rested
returns-clause-rested c =
    let w = c.args.other.worker.pass in
    let z = c.hear.new.self.worker.pass in
    let log : z.view.log ≡ [] = ap (λ (p : PassView). p.view.log) c.hear.ensures.same
    ∙ ap (λ (v : View). v.log) c.requires.new.1.new.1 in
    let number : z.view.number ≡ w.view.number = ap (λ (p : PassView). p.view.number) c.hear.ensures.same in
    let none = subst (λ n. part_of n z.view.past ≡ []) number (c.know_run.ensures.seen.is_part ∙ log) in
    no_turns w.view.number z.view.past c.args.filler.now.worker.pass.view.past
    (subst (Extends z.view.past) (ap (λ n. n.past) c.note-note.ensures.note) c.hear.ensures.heard) none
