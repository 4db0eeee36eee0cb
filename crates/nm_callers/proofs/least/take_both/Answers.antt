use Rattle.std.proofs.Common.{◌<◌, ℕ, ◌∙◌, sym, ap, subst, arith}
use Rattle.std.specs.Prelude.{Option}
use Rattle.nm_edge.specs.Layouts.{Layout}
use Rattle.nm_steps.specs.Steps.{PassView}
use Rattle.nm_steps.proofs.Growing.{goes_on_itself, goes_on_through}
use Rattle.nm_steps.proofs.Seeing.{seen_through}
use Rattle.nm_tree.specs.Popping.{Takes}
use Rattle.nm_tree.proofs.Taking.{no_shorter}
use Rattle.nm_callers.specs.Taking.{StandsThroughout}
use Rattle.nm_callers.proofs.Schedulers.{passes_none, takes_apart}
use Rattle.nm_callers.proofs.least.take_both.Goals as goal

pub returns-clause-apart : goal.returns-clause-apart
returns-clause-apart c =
    let w = c.args.one.now.pass in
    let x = c.pop_first.new.worker.pass in
    let y = c.tell_worker.new.to.pass in
    let z = c.pop_first-2.new.worker.pass in
    let took = subst (λ (o : Option ℕ). Takes ◌<◌ w x o) c.in-Ok-Some.field-0-is c.in-Ok-Some.ensures.says.took in
    let takes = subst (λ (o : Option ℕ). Takes ◌<◌ y z o) c.in-Ok-Some-pop_first.field-0-is
    c.in-Ok-Some-pop_first.ensures.says.took in
    takes_apart c.in-Ok-Some.first c.in-Ok-Some-pop_first.second w x y z took takes c.tell_worker.ensures.heard
    c.pop_first-2.ensures.says.past
    ((ap (λ (p : PassView). p.view.layout) c.pop_first.ensures.says.same ∙ c.requires.one.own.layout)
    ∙ sym (ap (λ (p : PassView). p.view.layout) c.pop_first-2.ensures.says.same ∙ c.tell_worker.ensures.own.layout))

pub returns-clause-passed : goal.returns-clause-passed
returns-clause-passed c k is stands =
    let w = c.args.one.now.pass in
    let x = c.pop_first.new.worker.pass in
    let y = c.tell_worker.new.to.pass in
    let z = c.pop_first-2.new.worker.pass in
    let took = subst (λ (o : Option ℕ). Takes ◌<◌ w x o) c.in-Ok-Some.field-0-is c.in-Ok-Some.ensures.says.took in
    let takes = subst (λ (o : Option ℕ). Takes ◌<◌ y z o) c.in-Ok-Some-pop_first.field-0-is
    c.in-Ok-Some-pop_first.ensures.says.took in
    let heard = c.tell_worker.ensures.heard in
    let on = c.pop_first-2.ensures.says.past in
    let layout = (ap (λ (p : PassView). p.view.layout) c.pop_first-2.ensures.says.same
    ∙ c.tell_worker.ensures.own.layout) ∙ sym (ap (λ (p : PassView). p.view.layout)
    c.pop_first.ensures.says.same ∙ c.requires.one.own.layout) in (
      passes_none w w x z.view.past c.in-Ok-Some.first k (omega arith)
          (goes_on_through z.view.past y.view.past x.view.past on.goes_on heard.goes_on) took is
          (subst (λ (l : Layout). StandsThroughout l w.view.past z.view.past k) layout stands),
      passes_none w y z z.view.past c.in-Ok-Some-pop_first.second k
          (no_shorter y.view.past w.view.past (seen_through w x y c.pop_first.ensures.says.past heard).goes_on)
          (goes_on_itself z.view.past) takes is stands,
    )
