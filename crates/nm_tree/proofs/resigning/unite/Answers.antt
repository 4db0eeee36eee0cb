use Rattle.std.proofs.Common.{◌≡◌, ℕ, ◌+◌, ◌≤◌, List, length, ap, sym, ◌∙◌, subst, arith}
use Rattle.nm_steps.specs.declared.view.View.{View}
use Rattle.nm_steps.specs.Rules.{joined}
use Rattle.nm_steps.specs.Steps.{TreeView, PassView, IsOf, HasJoined}
use Rattle.nm_steps.specs.Ties.{StandsInRun}
use Rattle.nm_epoch.specs.declared.collecting.HeldQueue.{HeldQueue}
use Rattle.nm_tree.specs.Resigning.{merged, place_in}
use Rattle.nm_tree.specs.Workers.{WorkerView, IsWorker, pending_in, held_in}
use Rattle.nm_tree.proofs.Staying.{seeing, sees_more}
use Rattle.nm_tree.proofs.United.{empty_hands, few_queues, united}
use Rattle.nm_tree.proofs.resigning.unite.Goals as goal

pub join-pass-requires-clause-hands : goal.join-pass-requires-clause-hands
join-pass-requires-clause-hands c = empty_hands _ c.leaver.invariant.between

-- both are of one tree, and then of one layout
layouts : (b : TreeView) (h g h' g' : WorkerView) → h ≡ h' → g ≡ g' → IsOf b h'.pass → IsOf b g'.pass
    → h.pass.view.layout ≡ g.pass.view.layout
layouts b h g h' g' first second own other = ap (λ (x : WorkerView). x.pass.view.layout) first
    ∙ (own.layout ∙ (sym other.layout ∙ sym (ap (λ (x : WorkerView). x.pass.view.layout) second)))

-- the run of both, by the heir as one that had seen before what both have seen then
in_run : (p o q : PassView) → HasJoined p o q → StandsInRun q.view → StandsInRun (joined (seeing q p).view o.view)
in_run p o q is run = let P : View → Type 0 = λ v. StandsInRun v in subst P (ap (λ (x : PassView). x.view) is) run

module _ (h g : WorkerView) (home home' : ℕ) (is : IsWorker h home) (more : IsWorker g home')
    (same : h.pass.view.layout ≡ g.pass.view.layout)
    (q : PassView) (joins : HasJoined h.pass g.pass q) (run : StandsInRun q.view) where
  seen : IsWorker (record h { pass = seeing q h.pass }) home
  seen = sees_more q h home is

  few_of_both : length h.queues + length g.queues ≤ h.pass.view.layout.workers
  few_of_both = few_queues (record h { pass = seeing q h.pass }) g home home' seen more same
      (in_run h.pass g.pass q joins run)

  both : IsWorker (record h { pass = q; queues = merged h.queues g.queues })
      (place_in h.pass.view.number (merged h.queues g.queues))
  both =
      let P : PassView → Type 0 = λ x. IsWorker (record h { pass = x; queues = merged h.queues g.queues })
      (place_in h.pass.view.number (merged h.queues g.queues)) in
      subst P (sym joins) (united (record h { pass = seeing q h.pass }) g home home' seen more same
      (in_run h.pass g.pass q joins run))

pub take_over-requires : goal.take_over-requires
take_over-requires c = record {
  room =
      let few = few_of_both _ _ _ _ c.heir.invariant.0 c.leaver.invariant
      (layouts _ _ _ _ _ c.heir.view_is c.leaver.view_is c.requires.heir c.requires.leaver) c.join-pass.result
      c.join-pass.ensures.joined c.join-pass.ensures.run in let room = c.heir.invariant.1 in
      omega (arith, few, room);
}

pub invariant_of-result : goal.invariant_of-result
invariant_of-result c =
    let hs : List HeldQueue = merged c.heir.inside.queues.items c.leaver.inside.queues.items in
    let n = pending_in c.heir.inside.standing in
    let e = held_in c.heir.inside.standing in
    let f = c.heir.inside.workspace.value.placement in
    let v = c.heir.inside.pass.view in
    let all = both _ _ c.heir.inside.home c.leaver.inside.home c.heir.invariant.0 c.leaver.invariant
    (layouts _ _ _ _ _ c.heir.view_is c.leaver.view_is c.requires.heir c.requires.leaver) c.join-pass.result
    c.join-pass.ensures.joined c.join-pass.ensures.run in
    let home : c.place_of-home.result ≡ place_in v.number hs =
    c.place_of-home.ensures.place
    ∙ (ap (λ (l : List HeldQueue). place_in c.number.result l) (c.as_slice.ensures.value ∙ c.take_over.ensures.queues)
    ∙ ap (λ (k : ℕ). place_in k hs) (c.number.ensures.number
    ∙ ap (λ (q : PassView). q.view.number) c.join-pass.ensures.joined)) in
    let W : List HeldQueue → ℕ → Type 0 = λ l k. IsWorker
    (record { pass = c.join-pass.result; queues = l; pending = n; held = e; fit = f }) k in (
      subst (λ (k : ℕ). W c.take_over.new.queues.items k) (sym home)
          (subst (λ (l : List HeldQueue). W l (place_in v.number hs)) (sym c.take_over.ensures.queues) all),
      (let same = ap (λ (q : PassView). q.view.layout.workers) c.join-pass.ensures.joined in
          omega (arith, same, c.take_over.ensures.capacity, c.heir.invariant.1)),
    )

pub returns-clause-between : goal.returns-clause-between
returns-clause-between c = (invariant_of-result c).0.between
