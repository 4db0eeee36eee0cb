use Rattle.std.proofs.Common.{◌≡◌, ◌∙◌, List, sym, ap, subst}
use Rattle.std.specs.Arc.{arc_value}
use Rattle.nm_tree.specs.Workers.{WorkerView}
use Rattle.nm_set.specs.declared.home.Site.{Site}
use Rattle.nm_set.specs.declared.set.State.{State}
use Rattle.nm_set.specs.Seats.{AreOwn, HomeView, site_in}
use Rattle.nm_set.specs.States.{site_of, standing_of, open_set}
use Rattle.nm_set.proofs.SetEnds.{Gathers, closes, hands_out, refuses, had_gathered, gathered_now, as_before}
use Rattle.nm_set.proofs.set.Set.end.Goals as goal

had : (g : _) (c : goal.After-end g) → Gathers c.args.self c.in-Closing.site c.self.inside.kept.items
had g c =
    let s = c.args.self in
    let ws : List WorkerView = c.self.inside.kept.items in
    had_gathered s c.in-Closing.site ws (subst (λ (x : State). standing_of x ws ≡ s) c.in-Closing.is c.self.view_is)
    (subst (λ (x : State). AreOwn (site_of x).tree ws) c.in-Closing.is c.self.invariant.0)

pub returns-in-Closing-clause-says : goal.returns-in-Closing-clause-says
returns-in-Closing-clause-says g c =
    closes c.args.self c.in-Closing.site c.self.inside.kept.items (had g c) c.end.result c.end.ensures.says

pub returns-in-Closing-clause-values : goal.returns-in-Closing-clause-values
returns-in-Closing-clause-values g c = hands_out c.args.self c.in-Closing.site c.self.inside.kept.items (had g c)
    c.end.result c.end.ensures.values

pub returns-in-Closing-clause-refused : goal.returns-in-Closing-clause-refused
returns-in-Closing-clause-refused g c = refuses c.args.self c.in-Closing.site c.self.inside.kept.items (had g c)
    c.end.result c.end.ensures.refused c.end.ensures.reason

gathers : (g : _) (c : goal.After-end-in-Ok g) → Gathers c.args.self c.gather-site.result.0 c.gather-site.result.1.items
gathers g c =
    let s = c.args.self in
    let kept : List WorkerView = c.self.inside.kept.items in
    let ws : List WorkerView = c.gather-site.result.1.items in
    let home = arc_value c.in-Open.home in
    let there = subst (λ (x : State). standing_of x kept ≡ s) c.in-Open.is c.self.view_is in
    let own = subst (λ (x : HomeView). AreOwn x.tree ws) c.in-Ok.ensures.ok c.gather-site.ensures.own in
    subst (λ (x : Site). Gathers s x ws) (sym (c.gather-site.ensures.site ∙ ap site_in c.in-Ok.ensures.ok))
    (gathered_now s (site_in home) kept ws there c.gather-site.ensures.kept own)

pub returns-in-Ok-clause-says : goal.returns-in-Ok-clause-says
returns-in-Ok-clause-says g c =
    closes c.args.self c.gather-site.result.0 c.gather-site.result.1.items
    (gathers g c) c.end-in-Ok.result c.end-in-Ok.ensures.says

pub returns-in-Ok-clause-values : goal.returns-in-Ok-clause-values
returns-in-Ok-clause-values g c = hands_out c.args.self c.gather-site.result.0 c.gather-site.result.1.items
    (gathers g c) c.end-in-Ok.result c.end-in-Ok.ensures.values

pub returns-in-Ok-clause-refused : goal.returns-in-Ok-clause-refused
returns-in-Ok-clause-refused g c = refuses c.args.self c.gather-site.result.0 c.gather-site.result.1.items
    (gathers g c) c.end-in-Ok.result c.end-in-Ok.ensures.refused c.end-in-Ok.ensures.reason

pub returns-in-Err-clause-refused : goal.returns-in-Err-clause-refused
returns-in-Err-clause-refused g c =
    let s = c.args.self in
    let home = arc_value c.in-Open.home in
    let kept : List WorkerView = c.self.inside.kept.items in
    as_before s c.left_open.result.set (site_in home) kept
    (subst (λ (x : State). standing_of x kept ≡ s) c.in-Open.is c.self.view_is)
    (c.left_open.ensures.set ∙ ap (λ a. open_set (site_in (arc_value a)) kept) c.in-Err.ensures.err)
    c.left_open.result.reason c.left_open.ensures.told
