use Rattle.std.proofs.Common.{◌≡◌, ap, sym, ◌∙◌, subst}
use Rattle.nm_edge.specs.Layouts.{Layout}
use Rattle.nm_edge.specs.Words.{words as all_words}
use Rattle.nm_model.specs.Reports.{counts, keys}
use Rattle.nm_tree.specs.Ended.{IsEndOf, end_of}
use Rattle.nm_steps.specs.Steps.{TreeView, Ends}
use Rattle.nm_steps.specs.Values.{EndsWithValues, HasValues}
use Rattle.nm_steps.specs.declared.view.View.{View}
use Rattle.nm_tree.specs.Closing.{StandsForAll}
use Rattle.nm_tree.specs.MapReports.{AreLeavesOf}
use Rattle.nm_tree.specs.Workers.{WorkerView}
use Rattle.nm_tree.proofs.Closed.{GoesOnFromAll, StoresGoOnFromAll, closed}
use Rattle.nm_tree.proofs.ClosedMaps.{ends_map}
use Rattle.nm_tree.proofs.closing.close_all.Goals as goal

pub returns-clause-closed : goal.returns-clause-closed
returns-clause-closed c =
    let room : c.args.room ≡ c.args.tree.layout = c.requires.room in
    let P : Layout → Type 0 = λ L. (e : IsEndOf L c.close-words.result.core)
    → c.read-keys.result.keys.items ≡ keys (end_of L c.close-words.result.core e) in
    let Q : Layout → Type 0 = λ L. (e : IsEndOf L c.close-words.result.core)
    → c.read-keys.result.free ≡ (counts (end_of L c.close-words.result.core e)).pool in
    let R : Layout → Type 0 = λ L. (e : IsEndOf L c.close-words.result.core)
    → c.read-keys.result.reached ≡ (counts (end_of L c.close-words.result.core e)).reached in
    let S : TreeView → Type 0 = λ b. Ends b.layout c.close-words.result.core c.pass.inside.pass.view in
    closed c.args.tree _ c.pass.inside.home c.args.workers.items c.read-keys.result.keys.items
    c.read-keys.result.free c.read-keys.result.reached c.close-words.result.core c.pass.invariant.0
    (subst (λ (v : View). StandsForAll c.args.workers.items v)
    (sym (ap (λ (h : WorkerView). h.pass.view) c.pass.view_is)) c.unite_all.ensures.joined)
    (subst (λ (v : View). GoesOnFromAll v.past c.args.workers.items)
    (sym (ap (λ (h : WorkerView). h.pass.view) c.pass.view_is)) c.unite_all.ensures.seen)
    (ap (λ (h : WorkerView). h.queues) c.pass.view_is ∙ c.unite_all.ensures.queues)
    c.requires.all
    c.unite_all.ensures.runs
    (subst S c.tree.view_is c.close-words.ensures.ends)
    (record { fits = c.know_run.ensures.fits; run = c.know_run.ensures.run })
    (subst P room c.read-keys.ensures.keys)
    (subst Q room c.read-keys.ensures.free)
    (subst R room c.read-keys.ensures.reached)

pub returns-clause-says : goal.returns-clause-says
returns-clause-says c = (returns-clause-closed c).says

pub returns-clause-values : goal.returns-clause-values
returns-clause-values c = λ has.
    let room : c.args.room ≡ c.args.tree.layout = c.requires.room in
    let P : Layout → Type 0 = λ L. (e : IsEndOf L c.close-words.result.core)
    → c.read-keys.result.keys.items ≡ keys (end_of L c.close-words.result.core e) in
    let Q : Layout → Type 0 = λ L. (e : IsEndOf L c.close-words.result.core)
    → c.read-keys.result.free ≡ (counts (end_of L c.close-words.result.core e)).pool in
    let R : Layout → Type 0 = λ L. (e : IsEndOf L c.close-words.result.core)
    → c.read-keys.result.reached ≡ (counts (end_of L c.close-words.result.core e)).reached in
    let S : Layout → Type 0 = λ L. (e : IsEndOf L c.close-words.result.core)
    → AreLeavesOf L (end_of L c.close-words.result.core e).memory c.read-keys.result.keys.items
    c.read-keys.result.leaves.items in
    let V : TreeView → Type 0 = λ b. HasValues b → EndsWithValues b.layout c.close-words.result
    c.pass.inside.pass.view in
    ends_map c.args.tree _ c.pass.inside.home c.args.workers.items c.read-keys.result.keys.items
    c.read-keys.result.leaves.items c.read-keys.result.free c.read-keys.result.reached c.close-words.result
    c.pass.invariant.0
    (subst (λ (v : View). StandsForAll c.args.workers.items v)
    (sym (ap (λ (h : WorkerView). h.pass.view) c.pass.view_is)) c.unite_all.ensures.joined)
    (subst (λ (v : View). GoesOnFromAll v.past c.args.workers.items)
    (sym (ap (λ (h : WorkerView). h.pass.view) c.pass.view_is)) c.unite_all.ensures.seen)
    (subst (λ (v : View). StoresGoOnFromAll v.stores c.args.workers.items)
    (sym (ap (λ (h : WorkerView). h.pass.view) c.pass.view_is)) c.unite_all.ensures.stores)
    (ap (λ (h : WorkerView). h.queues) c.pass.view_is ∙ c.unite_all.ensures.queues)
    c.requires.all
    c.unite_all.ensures.runs
    (subst V c.tree.view_is c.close-words.ensures.values has)
    (record { fits = c.know_run.ensures.fits; run = c.know_run.ensures.run })
    (subst P room c.read-keys.ensures.keys)
    (subst Q room c.read-keys.ensures.free)
    (subst R room c.read-keys.ensures.reached)
    (subst S room c.read-keys.ensures.leaves)
    c.layout-layout.result
    (c.layout-layout.ensures ∙ ap (λ (b : TreeView). b.layout) c.tree.view_is)
    (c.close-words.ensures.long ∙ ap (λ (b : TreeView). all_words b.layout) c.tree.view_is)
