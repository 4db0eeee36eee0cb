-- What was so of a node that waits in a closed map, right before it was cut off.
use Rattle.std.proofs.Common.{◌≡◌, ◌-◌, ℕ, Bool, true, zero, suc, List, ◌∷◌, [], refl, ap, sym, ◌∙◌, arith}
use Rattle.std.specs.Prelude.{Contains, Some, slice_get}
use Rattle.std.proofs.lemmas.Option.{same_Some}
use Rattle.nm_edge.specs.Layouts.{Layout}
use Rattle.nm_edge.specs.declared.node.NodeId.{NodeId}
use Rattle.nm_epoch.specs.declared.collecting.Entry.{Entry}
use Rattle.nm_model.specs.declared.trace.Turn.{Turn}
use Rattle.nm_model.specs.Headline.{nodes_cut_of, slots_of, words_after}
use Rattle.nm_model.specs.Memory.{is_leaf, node}
use Rattle.nm_steps.specs.declared.view.Stored.{Stored}
use Rattle.nm_steps.proofs.Growing.{goes_on_itself}
use Rattle.nm_steps.proofs.Seeing.{stores_same}
use Rattle.nm_tree.specs.MapReports.{WaitingLeavesHaveTheirValues, WaitingNodesWereReached, Waits}

slot_among : (ns : List NodeId) (n : NodeId) → Contains ns n → Contains (slots_of ns) n.slot
slot_among [] n c = absurd (let below = c.1 in omega (arith, below))
slot_among (m ∷ ms) n (zero, below, at) = (zero, omega arith, ap (λ (x : NodeId). x.slot) at)
slot_among (m ∷ ms) n (suc i, below, at) =
    let there = slot_among ms n (i, omega (arith, below), at) in
    (suc there.0, (let less = there.1 in omega (arith, less)), there.2)

pub waiting_nodes_were_reached : WaitingNodesWereReached
waiting_nodes_were_reached L turns stores slots bare e h w =
    (((h.cuts w.before w.since w.cut w.are).just e.node.slot).1
    (slot_among (nodes_cut_of w.cut.outcome) e.node w.cuts)).was

was_leaf : (L : Layout) (turns : List Turn) (stores : List Stored) (slots : List ℕ) (bare : List Bool) (e : Entry)
    → (w : Waits L turns stores slots bare e) → slice_get bare (e.node.slot - 1) ≡ Some true
    → is_leaf (node (words_after L w.before) e.node.slot) ≡ true
was_leaf L turns stores slots bare e w is_bare = same_Some _ true (sym w.leaf ∙ is_bare)

pub waiting_leaves_have_their_values : WaitingLeavesHaveTheirValues
waiting_leaves_have_their_values b ws queues kept keyed slots bare free reached e c w is_bare v at = record {
  before = w.before;
  cut = w.cut;
  since = w.since;
  are = w.are;
  cuts = w.cuts;
  high = w.slot.0;
  reached = waiting_nodes_were_reached b.layout c.says.turns c.stores slots bare e c.says.headline.headline w;
  leaf = was_leaf b.layout c.says.turns c.stores slots bare e w is_bare;
  first = c.stores;
  extends = stores_same c.stores c.stores refl;
  stored = record {
    until = c.says.turns;
    from = record { more = w.cut ∷ w.since; is = w.are };
    ends = goes_on_itself c.says.turns;
    held = c.held;
    linked = c.linked;
    swapped = c.swapped;
    order = c.order;
  };
  has_value = same_Some _ v (sym (w.value (was_leaf b.layout c.says.turns c.stores slots bare e w is_bare)) ∙ at);
}
