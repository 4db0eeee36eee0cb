use Rattle.std.proofs.Common.{◌≡◌, ◌∙◌, ◌<◌, ◌≤◌, inl, inr, ℕ, suc, List, [], ◌∷◌, length, length-append, sym, ap, subst, arith}
use Rattle.std.specs.Prelude.{◌⊎◌}
use Rattle.std.proofs.lemmas.Bool.{cases_lt}
use Rattle.nm_order.specs.Logs.{part_of}
use Rattle.nm_edge.specs.declared.placement.Fit.{Fit}
use Rattle.nm_steps.specs.declared.view.View.{View}
use Rattle.nm_steps.specs.Steps.{TreeView, PassView}
use Rattle.nm_set.specs.Filling.{HasWatched, HaveWatched}
use Rattle.nm_set.specs.Seats.{AreNewMembers, MemberView}
use Rattle.nm_set.proofs.NewMembers.{one_watcher}
use Rattle.nm_set.proofs.filling.show.Goals as goal

pub loop-other-preserved : goal.loop-other-preserved
loop-other-preserved c =
    let i = c.loop-other.invariant in
    let m : MemberView = c.args.filler.now in
    let b : TreeView = m.tree in
    let f : Fit = m.worker.fit in
    let p : PassView = m.worker.pass in
    let before : List MemberView = c.loop-other.shown.items in
    let n : ℕ = length before in
    let o : MemberView = c.in-Some.other in
    let r : MemberView = c.watch.result in
    let first = c.in-Some.ensures.steps.0 in
    let more = c.push_reserved.ensures.items in
    let new = subst (AreNewMembers b f n) first i.left in
    let number : o.worker.pass.view.number ≡ n = ap (λ (v : View). v.number) new.0.new.1 in
    let one : HasWatched b f p n r = subst (λ (j : ℕ). HasWatched b f p j r) number
    (subst (λ (x : MemberView). HasWatched x.tree x.worker.fit x.worker.pass o.worker.pass.view.number r)
    i.same c.watch.ensures.watched) in
    let rested : part_of n p.view.past ≡ [] = subst (λ (j : ℕ). part_of j p.view.past ≡ []) number
    (subst (λ (x : MemberView). part_of o.worker.pass.view.number x.worker.pass.view.past ≡ []) i.same
    c.watch.ensures.rested) in
    let longer : length c.push_reserved.new.self.items
    ≡ suc n = omega (arith, ap (λ (ms : List MemberView). length ms) more, length-append before (r ∷ [])) in
    record {
      same = c.watch.ensures.same ∙ i.same;
      watched = subst (HaveWatched b f p 0) (sym more) (one_watcher b f p 0 before n r (omega arith) i.watched one);
      left = subst (λ (j : ℕ). AreNewMembers b f j c.next.new.self.rest.items) (sym longer) new.1;
      all = omega (arith, longer, ap (λ (ms : List MemberView). length ms) first, i.all);
      room = omega (arith, i.room, c.push_reserved.ensures.capacity);
      rested = λ j less. by p n i.rested rested j (omega (arith, less, longer)) (cases_lt j n);
    }
  where
    by : (p : PassView) (n : ℕ) → ((j : ℕ) → j < n → part_of j p.view.past ≡ []) → part_of n p.view.past ≡ []
        → (j : ℕ) → j < suc n → (j < n) ⊎ (n ≤ j) → part_of j p.view.past ≡ []
    by p n before one j less (inl low) = before j low
    by p n before one j less (inr up) = let same : n ≡ j = omega (arith, less, up) in
        subst (λ (j : ℕ). part_of j p.view.past ≡ []) same one
