use Rattle.std.proofs.Common.{◌∙◌, ◌<◌, ℕ, sym, ap, subst, arith}
use Rattle.std.specs.Prelude.{Option, Some, Ok}
use Rattle.nm_edge.specs.Layouts.{Layout}
use Rattle.nm_steps.specs.Rules.{Extends}
use Rattle.nm_steps.specs.Steps.{TreeView, HasSeenAllOf}
use Rattle.nm_steps.proofs.Growing.{goes_on_itself, goes_on_through}
use Rattle.nm_steps.proofs.Seeing.{seen_through}
use Rattle.nm_tree.proofs.Taking.{no_shorter}
use Rattle.nm_set.specs.Popping.{SaysManagedPop}
use Rattle.nm_set.specs.Seats.{IsOwn, MemberView}
use Rattle.nm_callers.specs.Taking.{StandsThroughout}
use Rattle.nm_callers.proofs.Schedulers.{passes_none, takes_apart}
use Rattle.nm_callers.proofs.ToldMembers.{has_popped}
use Rattle.nm_callers.proofs.queue.take_two_tasks.Goals as goal

pub returns-clause-apart : goal.returns-clause-apart
returns-clause-apart c =
    let h = c.args.options.now in
    let w = c.args.one.now.worker in
    let first : MemberView = c.pop_first.new.self in
    let x = first.worker in
    let y = c.hear.new.self.worker in
    let z = c.pop_first-2.new.self.worker in
    let took = has_popped c.args.one.now.tree h c.in-Ok-Some.first w x
    (subst (λ (o : Option ℕ). SaysManagedPop ◌<◌ c.args.one.now.tree h w x (Ok o)) c.in-Ok-Some.field-0-is
    c.in-Ok-Some.ensures.says) in
    let takes = has_popped c.hear.new.self.tree h c.in-Ok-Some-pop_first.second y z
    (subst (λ (o : Option ℕ). SaysManagedPop ◌<◌ c.hear.new.self.tree h y z (Ok o))
    c.in-Ok-Some-pop_first.field-0-is c.in-Ok-Some-pop_first.ensures.says) in
    let told : HasSeenAllOf y.pass x.pass = record {
      goes_on = subst (Extends y.pass.view.past)
          (ap (λ n. n.past) c.note-note.ensures.note) c.hear.ensures.heard;
    } in
    let own : IsOwn first.tree first.worker = subst (λ (m : MemberView). IsOwn m.tree m.worker)
    c.note-note.ensures.same c.know_run.ensures.own in
    let tree = c.pop_first.ensures.tree ∙ (c.requires.same
    ∙ (sym c.hear.ensures.tree ∙ sym c.pop_first-2.ensures.tree)) in
    let layout = own.own.layout ∙ (ap (λ (e : TreeView). e.layout) tree ∙ sym c.know_run-2.ensures.own.own.layout) in
    takes_apart c.in-Ok-Some.first c.in-Ok-Some-pop_first.second w.pass x.pass y.pass z.pass took.took takes.took
    told takes.on.past layout

pub returns-clause-passed : goal.returns-clause-passed
returns-clause-passed c k is stands =
    let h = c.args.options.now in
    let w = c.args.one.now.worker in
    let first : MemberView = c.pop_first.new.self in
    let x = first.worker in
    let y = c.hear.new.self.worker in
    let z = c.pop_first-2.new.self.worker in
    let took = has_popped c.args.one.now.tree h c.in-Ok-Some.first w x
    (subst (λ (o : Option ℕ). SaysManagedPop ◌<◌ c.args.one.now.tree h w x (Ok o)) c.in-Ok-Some.field-0-is
    c.in-Ok-Some.ensures.says) in
    let takes = has_popped c.hear.new.self.tree h c.in-Ok-Some-pop_first.second y z
    (subst (λ (o : Option ℕ). SaysManagedPop ◌<◌ c.hear.new.self.tree h y z (Ok o))
    c.in-Ok-Some-pop_first.field-0-is c.in-Ok-Some-pop_first.ensures.says) in
    let told : HasSeenAllOf y.pass x.pass = record {
      goes_on = subst (Extends y.pass.view.past)
          (ap (λ n. n.past) c.note-note.ensures.note) c.hear.ensures.heard;
    } in
    let own : IsOwn first.tree first.worker = subst (λ (m : MemberView). IsOwn m.tree m.worker)
    c.note-note.ensures.same c.know_run.ensures.own in
    let tree = c.pop_first.ensures.tree ∙ (c.requires.same
    ∙ (sym c.hear.ensures.tree ∙ sym c.pop_first-2.ensures.tree)) in
    let layout = own.own.layout ∙ (ap (λ (e : TreeView). e.layout) tree ∙ sym c.know_run-2.ensures.own.own.layout) in (
      passes_none w.pass w.pass x.pass z.pass.view.past c.in-Ok-Some.first k (omega arith)
          (goes_on_through z.pass.view.past y.pass.view.past x.pass.view.past takes.on.past.goes_on told.goes_on)
          took.took is (subst (λ (l : Layout). StandsThroughout l w.pass.view.past z.pass.view.past k) (sym layout)
          stands),
      passes_none w.pass y.pass z.pass z.pass.view.past c.in-Ok-Some-pop_first.second k
          (no_shorter y.pass.view.past w.pass.view.past (seen_through w.pass x.pass y.pass took.on.past told).goes_on)
          (goes_on_itself z.pass.view.past) takes.took is stands,
    )
