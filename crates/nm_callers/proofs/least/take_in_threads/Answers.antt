use Rattle.std.proofs.Common.{◌<◌, ◌≡◌, ◌≢◌, ℕ, ◌∙◌, sym, ap, subst}
use Rattle.std.specs.Prelude.{Option, Some, IfSome}
use Rattle.nm_edge.specs.Layouts.{Layout}
use Rattle.nm_steps.specs.Steps.{PassView}
use Rattle.nm_steps.proofs.Growing.{goes_on_through}
use Rattle.nm_model.specs.Histories.{HasHistory}
use Rattle.nm_tree.specs.Popping.{Takes}
use Rattle.nm_tree.proofs.Taking.{no_shorter}
use Rattle.nm_callers.specs.Taking.{StandsThroughout}
use Rattle.nm_callers.proofs.Schedulers.{passes_none, taken_apart}
use Rattle.nm_callers.proofs.least.take_in_threads.Goals as goal

pub returns-clause-apart : goal.returns-clause-apart
returns-clause-apart g c start early soon none =
    let w = c.args.one.pass in
    let x = c.take_at_once-first.result.0.worker.pass in
    let y = c.args.two.pass in
    let z = c.take_at_once-first.result.1.worker.pass in
    let mid = c.tell_worker.new.to.pass in
    let last = c.tell_worker-2.new.to.pass in
    let did = c.take_at_once-first.ensures in
    let took = subst (λ (o : Option ℕ). IfSome o (λ key. Takes ◌<◌ w x (Some key))) c.in_ok-first.was did.first in
    let takes = subst (λ (o : Option ℕ). IfSome o (λ key. Takes ◌<◌ y z (Some key))) c.in_ok-second.was did.second in
    let number = ap (λ (p : PassView). p.view.number) did.one in
    let number' = ap (λ (p : PassView). p.view.number) did.two in
    let other : x.view.number ≢ z.view.number = λ same. c.requires.others (sym number ∙ (same ∙ number')) in
    taken_apart c.args.tree.now.layout start w x y z last.view.past c.in_ok-first.field-0 c.in_ok-second.field-0
    other (ap (λ (p : PassView). p.view.layout) did.one ∙ c.requires.one.own.layout)
    (ap (λ (p : PassView). p.view.layout) did.two ∙ c.requires.two.own.layout)
    took takes early soon (goes_on_through last.view.past mid.view.past x.view.past
    c.tell_worker-2.ensures.past.goes_on c.tell_worker.ensures.heard.goes_on) c.tell_worker-2.ensures.heard.goes_on
    (subst (λ (l : Layout). HasHistory l last.view.past) c.tell_worker-2.ensures.own.layout
    c.know_run.ensures.turns.plain_set) none

pub returns-clause-passed : goal.returns-clause-passed
returns-clause-passed g c start early soon k is stands =
    let w = c.args.one.pass in
    let x = c.take_at_once-first.result.0.worker.pass in
    let y = c.args.two.pass in
    let z = c.take_at_once-first.result.1.worker.pass in
    let mid = c.tell_worker.new.to.pass in
    let last = c.tell_worker-2.new.to.pass in
    let did = c.take_at_once-first.ensures in
    let took = subst (λ (o : Option ℕ). IfSome o (λ key. Takes ◌<◌ w x (Some key))) c.in_ok-first.was did.first in
    let takes = subst (λ (o : Option ℕ). IfSome o (λ key. Takes ◌<◌ y z (Some key))) c.in_ok-second.was did.second in
    let L = c.args.tree.now.layout in
    let layout : x.view.layout ≡ L = ap (λ (p : PassView). p.view.layout) did.one ∙ c.requires.one.own.layout in
    let layout' : z.view.layout ≡ L = ap (λ (p : PassView). p.view.layout) did.two ∙ c.requires.two.own.layout in (
      passes_none start w x last.view.past c.in_ok-first.field-0 k
          (no_shorter w.view.past start.view.past early.goes_on)
          (goes_on_through last.view.past mid.view.past x.view.past c.tell_worker-2.ensures.past.goes_on
          c.tell_worker.ensures.heard.goes_on) took is
          (subst (λ (l : Layout). StandsThroughout l start.view.past last.view.past k) (sym layout) stands),
      passes_none start y z last.view.past c.in_ok-second.field-0 k
          (no_shorter y.view.past start.view.past soon.goes_on) c.tell_worker-2.ensures.heard.goes_on takes is
          (subst (λ (l : Layout). StandsThroughout l start.view.past last.view.past k) (sym layout') stands),
    )
