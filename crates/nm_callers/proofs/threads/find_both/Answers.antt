use Rattle.std.proofs.Common.{◌≡◌, ◌∙◌, Bool, List, true, sym, ap, subst}
use Rattle.std.specs.Prelude.{IfSome, IfOk, Result}
use Rattle.nm_edge.specs.Layouts.{Layout}
use Rattle.nm_model.specs.declared.event.Op.TheVariants.{Has, Insert}
use Rattle.nm_model.specs.declared.trace.Turn.{Turn}
use Rattle.nm_steps.specs.Rules.{Extends}
use Rattle.nm_steps.specs.Steps.{PassView, HasSeenAllOf}
use Rattle.nm_steps.proofs.Growing.{goes_on_itself}
use Rattle.nm_calls.specs.Moments.{AnswerHasMoment}
use Rattle.nm_model.specs.Histories.{HasHistory}
use Rattle.nm_callers.specs.Meanwhile.{NoneDeleted}
use Rattle.nm_callers.proofs.Answered.{if_answered, each_ok}
use Rattle.nm_callers.proofs.ToldWorkers.{told_in}
use Rattle.nm_callers.proofs.TwoAnswers.{inserted_then_found}
use Rattle.nm_callers.proofs.threads.find_both.Goals as goal

-- what one inserted is found by a look-up that `last` goes on from
finds : {E : Type 0} (r : Result Bool E) (L : Layout) (start one after : PassView) (last : List Turn) {k : _}
    → one.view.layout ≡ L → after.view.layout ≡ L → HasSeenAllOf after one → IfOk r (AnswerHasMoment one after Has k)
    → AnswerHasMoment start one Insert k true → Extends last after.view.past → HasHistory L last
    → NoneDeleted L start.view.past last k → IfOk r (λ b. b ≡ true)
finds r L start one after last {k} first second told look moment on history none =
    each_ok r (AnswerHasMoment one after Has k) (λ b. b ≡ true) (λ answer answered.
    told_in NoneDeleted Insert true inserted_then_found k start one after last (first ∙ sym second) told on
    (subst (λ (l : Layout). HasHistory l last) (sym second) history) answer answered moment
    (subst (λ (l : Layout). NoneDeleted l start.view.past last k) (sym second) none)) look

pub returns-clause-first : goal.returns-clause-first
returns-clause-first c start moment none =
    let mid = c.look_told.new.two.pass in
    let final = c.look_told-2.new.two.pass in
    let same = ap (λ (z : PassView). z.view.layout) c.look_told.ensures.two ∙ c.requires.reader.layout in
    let last = ap (λ (z : PassView). z.view.layout) c.look_told-2.ensures.two ∙ same in
    let history = subst (λ (l : Layout). HasHistory l final.view.past) last c.know_run.ensures.turns.plain_set in
    subst (λ o. IfSome o (λ b. b ≡ true)) c.in_ok-first.was
    (if_answered c.look_told.result c.ok.result (λ b. b ≡ true) c.ok.ensures.value
    (finds c.look_told.result c.args.tree.now.layout start c.args.one.now.pass mid final.view.past
    c.requires.one.layout same c.look_told.ensures.told c.look_told.ensures.moment moment
    c.look_told-2.ensures.past.goes_on history none))

pub returns-clause-second : goal.returns-clause-second
returns-clause-second c start moment none =
    let final = c.look_told-2.new.two.pass in
    let last = ap (λ (z : PassView). z.view.layout) c.look_told-2.ensures.two
    ∙ (ap (λ (z : PassView). z.view.layout) c.look_told.ensures.two ∙ c.requires.reader.layout) in
    let history = subst (λ (l : Layout). HasHistory l final.view.past) last c.know_run.ensures.turns.plain_set in
    subst (λ o. IfSome o (λ b. b ≡ true)) c.in_ok-second.was
    (if_answered c.look_told-2.result c.ok-2.result (λ b. b ≡ true) c.ok-2.ensures.value
    (finds c.look_told-2.result c.args.tree.now.layout start c.args.two.now.pass final final.view.past
    c.requires.two.layout last c.look_told-2.ensures.told c.look_told-2.ensures.moment moment
    (goes_on_itself final.view.past) history none))
