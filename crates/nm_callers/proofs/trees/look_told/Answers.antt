use Rattle.std.proofs.Common.{◌≡◌, true, false, sym, ap, ◌∙◌}
use Rattle.nm_model.specs.declared.event.Op.TheVariants.{Has, Insert, Delete}
use Rattle.nm_steps.specs.Steps.{PassView}
use Rattle.nm_steps.proofs.Seeing.{seen_through}
use Rattle.nm_calls.specs.Moments.{AnswerHasMoment}
use Rattle.nm_callers.specs.Meanwhile.{NoneDeleted, NoneInserted}
use Rattle.nm_callers.proofs.Answered.{each_ok}
use Rattle.nm_callers.proofs.ToldWorkers.{looks_behind, told_so}
use Rattle.nm_callers.proofs.TwoAnswers.{inserted_then_found, deleted_then_missed}
use Rattle.nm_callers.proofs.trees.look_told.Goals as goal

pub returns-clause-told : goal.returns-clause-told
returns-clause-told c = seen_through c.args.one.now.pass c.tell_worker.new.to.pass c.has.new.worker.pass
    c.tell_worker.ensures.heard c.has.ensures.says.past

pub returns-clause-moment : goal.returns-clause-moment
returns-clause-moment c = looks_behind c.has.result c.args.one.now.pass c.tell_worker.new.to.pass
    c.has.new.worker.pass c.args.key c.tell_worker.ensures.heard c.has.ensures.says.moment

pub returns-clause-found : goal.returns-clause-found
returns-clause-found c start moment none =
    let one = c.args.one.now.pass in
    let two = c.has.new.worker.pass in
    let same : one.view.layout ≡ two.view.layout = c.requires.one.layout
    ∙ (sym c.requires.two.layout ∙ sym (ap (λ (z : PassView). z.view.layout) c.has.ensures.says.same
    ∙ ap (λ (z : PassView). z.view.layout) c.tell_worker.ensures.to)) in
    each_ok c.has.result (AnswerHasMoment one two Has c.args.key) _ (λ answer look.
    told_so NoneDeleted Insert true inserted_then_found c.args.key start one two same (returns-clause-told c) answer
    look moment none) (returns-clause-moment c)

pub returns-clause-missed : goal.returns-clause-missed
returns-clause-missed c start moment none =
    let one = c.args.one.now.pass in
    let two = c.has.new.worker.pass in
    let same : one.view.layout ≡ two.view.layout = c.requires.one.layout
    ∙ (sym c.requires.two.layout ∙ sym (ap (λ (z : PassView). z.view.layout) c.has.ensures.says.same
    ∙ ap (λ (z : PassView). z.view.layout) c.tell_worker.ensures.to)) in
    each_ok c.has.result (AnswerHasMoment one two Has c.args.key) _ (λ answer look.
    told_so NoneInserted Delete false deleted_then_missed c.args.key start one two same (returns-clause-told c)
    answer look moment none) (returns-clause-moment c)
