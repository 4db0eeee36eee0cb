use Rattle.std.proofs.Common.{◌≡◌, ℕ, ◌-◌, ◌<◌, List, length, sym, ap, subst, ◌∙◌}
use Rattle.std.specs.Prelude.{◌↔◌, AllPairs, Contains}
use Rattle.nm_edge.specs.Layouts.{Layout}
use Rattle.nm_model.specs.Memory.{infinity_0}
use Rattle.nm_model.specs.Reports.{counts, keys, tree_slots}
use Rattle.nm_model.specs.Acts.{InSet}
use Rattle.nm_tree.specs.Ended.{IsEndOf, end_of}
use Rattle.nm_tree.specs.MapReports.{AreLeavesOf}
use Rattle.nm_tree.proofs.Ends.{layout_is, keys_tell, keys_ascend}
use Rattle.nm_tree.proofs.reporting.read.Goals as goal

pub returns-clause-keys : goal.returns-clause-keys
returns-clause-keys c = subst (λ (l : Layout). (e : IsEndOf l c.args.words.now.core)
    → c.walk-visited.new.found.items ≡ keys (end_of l c.args.words.now.core e)) c.room.view_is
    c.walk-visited.ensures.keys

pub returns-clause-set : goal.returns-clause-set
returns-clause-set c = subst (λ (l : Layout). (e : IsEndOf l c.args.words.now.core) (k : ℕ)
    → Contains c.walk-visited.new.found.items k ↔ InSet (end_of l c.args.words.now.core e).memory k
    × (k < infinity_0)) c.room.view_is (λ e.
    subst (λ (ks : List ℕ). (k : ℕ) → Contains ks k
    ↔ InSet (end_of c.room.inside.layout c.args.words.now.core e).memory k × (k < infinity_0))
    (sym (c.walk-visited.ensures.keys e)) (keys_tell c.room.inside.layout c.args.words.now.core e))

pub returns-clause-leaves : goal.returns-clause-leaves
returns-clause-leaves c = subst (λ (l : Layout). (e : IsEndOf l c.args.words.now.core)
    → AreLeavesOf l (end_of l c.args.words.now.core e).memory c.walk-visited.new.found.items
    c.walk-visited.new.leaves.items) c.room.view_is c.walk-visited.ensures.leaves

pub returns-clause-ascending : goal.returns-clause-ascending
returns-clause-ascending c =
    let e = subst (λ (l : Layout). IsEndOf l c.args.words.now.core) (sym c.room.view_is) c.requires in
    subst (λ (ks : List ℕ). AllPairs (λ j k. j < k) ks) (sym (c.walk-visited.ensures.keys e))
    (keys_ascend c.room.inside.layout c.args.words.now.core e)

pub returns-clause-free : goal.returns-clause-free
returns-clause-free c = subst (λ (l : Layout). (e : IsEndOf l c.args.words.now.core)
    → c.count_free.result ≡ (counts (end_of l c.args.words.now.core e)).pool) c.room.view_is c.count_free.ensures

pub returns-clause-reached : goal.returns-clause-reached
returns-clause-reached c = subst (λ (l : Layout). (e : IsEndOf l c.args.words.now.core)
    → c.saturating_sub.result ≡ (counts (end_of l c.args.words.now.core e)).reached) c.room.view_is (λ e.
    c.saturating_sub.ensures ∙ ap (λ (n : ℕ). n - 5) (c.walk-visited.ensures.visited e
    ∙ ap (λ (l : Layout). length (tree_slots l.nodes (end_of c.room.inside.layout c.args.words.now.core e).memory 1))
    (sym (layout_is c.room.inside.layout c.args.words.now.core e))))
