use Rattle.std.proofs.Common.{◌≡◌, ◌∙◌, ℕ, [], ◌∷◌, sym, ap, subst}
use Rattle.std.specs.Arc.{arc_value}
use Rattle.nm_steps.specs.Steps.{TreeView}
use Rattle.nm_tree.specs.Workers.{AreNew, WorkerView}
use Rattle.nm_set.specs.Seats.{HomeView, IsNewMember, SetView, site_in}
use Rattle.nm_set.specs.States.{open_set, standing_of}
use Rattle.nm_set.specs.declared.set.State.{State}
use Rattle.nm_set.proofs.set.Set.attach.Goals as goal

pub returns-in-Some-clause-first : goal.returns-in-Some-clause-first
returns-in-Some-clause-first g c none' =
    let h : HomeView = arc_value c.in-Open.home in
    let set : SetView = c.args.self.now in
    let kept = c.self.inside.kept.items in
    let seen : open_set (site_in h) kept ≡ set = ap (λ (s : State). standing_of s kept) (sym c.in-Open.is)
    ∙ c.self.view_is in
    let tree : h.tree ≡ set.tree = ap (λ (s : SetView). s.tree) seen in
    let fit : h.fit ≡ set.fit = ap (λ (s : SetView). s.fit) seen in
    let same : c.deref.result.now ≡ h = c.deref.ensures ∙ c.in-Ok.ensures in
    let w : WorkerView = c.in-Some.sealed.worker in
    let is : c.of.result.worker ≡ w = c.of.ensures.worker in
    let first = c.in-Some.ensures.first (sym c.of.ensures.returns ∙ none') in
    let k : ℕ = first.0 in
    let new : AreNew h.tree k (w ∷ []) = subst (λ (x : HomeView). AreNew x.tree k (w ∷ [])) same first.1 in
    let here : AreNew set.tree k (w ∷ []) = subst (λ (b : TreeView). AreNew b k (w ∷ [])) tree new in
    let member : IsNewMember set.tree set.fit k c.of.result = record {
      tree = c.of.ensures.tree ∙ (ap (λ (x : HomeView). x.tree) c.in-Ok.ensures ∙ tree);
      fit = ap (λ (v : WorkerView). v.fit) is
          ∙ (c.in-Some.ensures.taken.fit ∙ (ap (λ (x : HomeView). x.fit) same ∙ fit));
      new = subst (λ (v : WorkerView). AreNew set.tree k (v ∷ [])) (sym is) here;
    } in
    (k, member)
