use Rattle.std.proofs.Common.{◌≡◌, ◌∙◌, List, [], ◌∷◌, ◌++◌, sym, ap, subst}
use Rattle.nm_steps.specs.Steps.{TreeView}
use Rattle.nm_tree.specs.Workers.{WorkerView}
use Rattle.nm_set.specs.Seats.{AreOwn, HomeView}
use Rattle.nm_set.specs.declared.home.Site.{Site}
use Rattle.nm_set.proofs.Seating.{own_both, own_residents}
use Rattle.nm_set.proofs.home.Home.gather_behind.Goals as goal

pub returns-clause-own : goal.returns-clause-own
returns-clause-own c =
    let b : TreeView = c.args.self.tree in
    let worker : WorkerView = c.args.sealed.worker in
    let rest : List WorkerView = c.gather.ensures.0 in
    let same : c.self.inside.seats.site.tree ≡ b = ap (λ (s : Site). s.tree) c.self.invariant.0
    ∙ ap (λ (h : HomeView). h.tree) c.self.view_is in
    let others = subst (λ (d : TreeView). AreOwn d rest) same
    (own_residents c.self.inside.seats.site rest c.gather.ensures.2) in
    let before = c.stay_with.ensures.items ∙ ap (λ (ws : List WorkerView). ws ++ worker ∷ []) c.self.invariant.4 in
    subst (AreOwn b) (sym (c.gather.ensures.1 ∙ ap (λ (ws : List WorkerView). ws ++ rest) before))
    (own_both b (worker ∷ []) rest (c.requires.own, tt) others)
