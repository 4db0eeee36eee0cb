use Rattle.std.proofs.Common.{◌≡◌, ◌∙◌, Bool, true, sym, ap, subst, arith}
use Rattle.nm_edge.specs.Layouts.{Layout}
use Rattle.nm_model.specs.declared.event.Op.TheVariants.{Has, Insert}
use Rattle.nm_steps.specs.Steps.{PassView, HasHeard}
use Rattle.nm_calls.specs.Moments.{AnswerHasMoment}
use Rattle.nm_walks.specs.WonCounts.{won_flags}
use Rattle.nm_tree.specs.Running.{HasSeenTurns}
use Rattle.nm_tree.specs.Workers.{WorkerView}
use Rattle.nm_callers.proofs.Answered.{each_ok, if_answered}
use Rattle.nm_callers.proofs.Pairs.{found_alone}
use Rattle.nm_callers.proofs.trees.insert_then_find_alone.Goals as goal

pub returns : goal.returns
returns c =
    let start = c.args.inserter.now.pass in
    let one = c.insert.new.worker.pass in
    let before = c.tell_worker.new.to.pass in
    let after = c.has-found.new.worker.pass in
    let last = c.tell_worker-2.new.to.pass in
    let heard : HasHeard one last = subst (λ (w : WorkerView). HasHeard w.pass last) c.tell_worker.ensures.from
    c.tell_worker-2.ensures.to in
    let inserted = subst (λ (b : Bool). AnswerHasMoment start one Insert c.args.key b) c.in-Ok-true.field-0-test
    c.in-Ok-true.ensures.says.moment in
    let says = c.insert.ensures.says in
    let looks = c.has-found.ensures.says in
    let layout_one : one.view.layout ≡ c.args.tree.now.layout = ap (λ (p : PassView). p.view.layout) says.same
    ∙ c.requires.inserter.layout in
    let layout_two : after.view.layout ≡ c.args.tree.now.layout = ap (λ (p : PassView). p.view.layout) looks.same
    ∙ (ap (λ (p : PassView). p.view.layout) c.tell_worker.ensures.to ∙ c.requires.reader.layout) in
    let number_one : one.view.number ≡ start.view.number = ap (λ (p : PassView). p.view.number) says.same in
    let number_two : after.view.number ≡ c.args.reader.now.pass.view.number = ap (λ (p : PassView). p.view.number)
    looks.same ∙ ap (λ (p : PassView). p.view.number) c.tell_worker.ensures.to in
    let heard_flags : won_flags before.view.log ≡ won_flags c.args.reader.now.pass.view.log = ap
    (λ (p : PassView). won_flags p.view.log) c.tell_worker.ensures.to in
    let won_one = says.won.flags in
    let won_two = looks.won.flags in
    let first_none = c.requires.first_unflagged in
    let second_none = c.requires.unflagged in
    record {
      found = if_answered c.has-found.result c.ok.result (λ b. b ≡ true) c.ok.ensures.value
          (each_ok c.has-found.result (AnswerHasMoment before after Has c.args.key) (λ (b : Bool). b ≡ true)
          (λ answer look.
          found_alone c.args.key start one before after last
          (ap (λ (l : Layout). l.workers) layout_two ∙ c.requires.pair) (layout_one ∙ sym layout_two)
          (λ e. c.requires.apart (sym number_one ∙ (e ∙ number_two)))
          inserted answer look c.tell_worker.ensures.heard looks.past heard c.tell_worker-2.ensures.heard
          c.know_run.ensures.turns (subst (λ (w : WorkerView). HasSeenTurns w.pass.view) c.tell_worker-2.ensures.from
          c.know_run-3.ensures.turns) c.know_run-2.ensures.turns
          (omega (arith, won_one, first_none)) (omega (arith, won_two, heard_flags, second_none))) looks.moment);
    }
