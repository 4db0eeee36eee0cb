use Rattle.std.proofs.Common.{◌≡◌, ◌<◌, ℕ, ap, inl, inr, sym, ◌∙◌, arith}
use Rattle.std.specs.Prelude.{◌⊎◌, nat_lt, slice_index}
use Rattle.nm_edge.specs.Layouts.{Layout}
use Rattle.nm_tree.specs.MapReports.{MapValuesView}
use Rattle.nm_tree.proofs.BareSlots.{leaf_is_bare, no_leaf}
use Rattle.nm_tree.proofs.map_closing.MapValues.is_leaf.Goals.{then-slot-eq0-via-then-slot-eq0, then-slot-eq0-via-else-slot-eq0+then-slot-nodes}
use Rattle.nm_tree.proofs.map_closing.MapValues.is_leaf.Goals as goal

pub returns-then-slot-eq0 : goal.returns-then-slot-eq0
returns-then-slot-eq0 c =
    let L : Layout = c.self.inside.layout in
    let why : (c.args.slot ≡ 0) ⊎ (L.nodes < c.args.slot) = elim c.then-slot-eq0.branch [
      | then-slot-eq0-via-then-slot-eq0 w ↦ inl w.if-slot-eq0.true
      | then-slot-eq0-via-else-slot-eq0+then-slot-nodes w ↦ inr
          (let more = w.if-slot-nodes.true in let is = w.nodes.ensures.nodes in omega (arith, more, is))
    ] in
    sym (no_leaf c.args.self.now L c.self.inside.words.core c.args.slot
    (ap (λ (v : MapValuesView). v.bare) (sym c.self.view_is)) why)

pub returns : goal.returns
returns c =
    let L : Layout = c.self.inside.layout in
    let low = c.if-slot-eq0.false in
    let high = c.if-slot-nodes.false in
    let is = c.nodes.ensures.nodes in
    ap (λ (n : ℕ). nat_lt n 4) (c.word.ensures ∙ ap (slice_index c.self.inside.words.core) c.edge-word.ensures)
    ∙ sym (leaf_is_bare c.args.self.now L c.self.inside.words.core c.args.slot
    (ap (λ (v : MapValuesView). v.bare) (sym c.self.view_is)) (omega (arith, low)) (omega (arith, high, is)))
