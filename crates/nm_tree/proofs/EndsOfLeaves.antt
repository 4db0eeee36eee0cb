-- Each node that was reached is at one place when its tree is closed.
use Rattle.std.proofs.Common.{◌≡◌, inl, inr, ℕ, zero, suc, List, [], ◌∷◌, map, length, refl, sym, ap, ◌∙◌}
use Rattle.std.specs.Prelude.{Some, slice_get}
use Rattle.std.proofs.lemmas.Bool.{cases_lt}
use Rattle.std.proofs.lemmas.Option.{none-some, same_Some}
use Rattle.nm_edge.specs.declared.node.NodeId.{NodeId}
use Rattle.nm_model.specs.declared.trace.Turn.{Turn}
use Rattle.nm_model.specs.Headline.{words_after}
use Rattle.nm_model.specs.Memory.{named}
use Rattle.nm_epoch.specs.declared.collecting.Entry.{Entry}
use Rattle.nm_epoch.specs.declared.collecting.HeldQueue.{HeldQueue}
use Rattle.nm_calls.specs.StoredLeaves.{IsAtOnePlace, LeafIsAt, LeafPlace}
use Rattle.nm_calls.specs.StoredLeaves.LeafPlace.{IsFreed, OnPath, Waits}
use Rattle.nm_calls.proofs.StoredLeaves.{reached_node_is_placed, stored_values_are_at_one_place}
use Rattle.nm_steps.specs.Steps.{TreeView}
use Rattle.nm_tree.specs.Closing.{OfEachClosed, SaysClosed}
use Rattle.nm_tree.specs.Once.{EachReachedNodeEndsOnce, EachStoredValueEndsOnce, NodeEndsAt, NodeEndsOnce}
use Rattle.nm_tree.specs.Workers.{WorkerView}
use Rattle.nm_tree.proofs.OfClosed.{no_waits, queue_at}

-- ---- entries of a queue, and its nodes

entry_at : (es : List Entry) (i : ℕ) (n : NodeId) → slice_get (map (λ (e : Entry). e.node) es) i ≡ Some n
    → (e : Entry) × (slice_get es i ≡ Some e) × (e.node ≡ n)
entry_at [] zero n is = absurd (none-some n is)
entry_at [] (suc i) n is = absurd (none-some n is)
entry_at (e ∷ es) zero n is = (e, refl, same_Some e.node n is)
entry_at (e ∷ es) (suc i) n is = entry_at es i n is

node_at : (es : List Entry) (i : ℕ) (e : Entry) → slice_get es i ≡ Some e
    → slice_get (map (λ (x : Entry). x.node) es) i ≡ Some e.node
node_at [] zero e is = absurd (none-some e is)
node_at [] (suc i) e is = absurd (none-some e is)
node_at (x ∷ es) zero e is = ap (λ (y : Entry). Some y.node) (same_Some x e is)
node_at (x ∷ es) (suc i) e is = node_at es i e is

none_at : (i : ℕ) (n : NodeId) → slice_get [] i ≡ Some n → ⊥
none_at zero n at = none-some n at
none_at (suc i) n at = none-some n at

-- ---- places of all turns, and places at the end

module _ (b : TreeView) (ws : List WorkerView) (queues : List HeldQueue) (kept : List ℕ) (free reached : ℕ)
    (is : SaysClosed b ws queues kept free reached) (n : NodeId) where
  abbrev turns : List Turn
  turns = is.turns

  forth : (p : LeafPlace) → LeafIsAt b.layout turns n p → NodeEndsAt b.layout turns queues n p
  forth (OnPath path) here = here
  forth (IsFreed i) here = here
  forth (Waits w i) here = elim (cases_lt w (length queues)) [
    | inl below ↦ let q = queue_at queues w below in
        let e = entry_at q.0.queue.items i n (ap (λ (ns : List NodeId). slice_get ns i)
        (is.headline.waiting w q.0 q.1) ∙ here) in
        (q.0, e.0, q.1, e.1, e.2)
    | inr past ↦ absurd (none_at i n (sym (ap (λ (ns : List NodeId). slice_get ns i)
        (no_waits b ws queues kept free reached is w past)) ∙ here))
  ]

  back : (p : LeafPlace) → NodeEndsAt b.layout turns queues n p → LeafIsAt b.layout turns n p
  back (OnPath path) here = here
  back (IsFreed i) here = here
  back (Waits w i) (h, e, is_queue, is_entry, same) =
      ap (λ (ns : List NodeId). slice_get ns i) (sym (is.headline.waiting w h is_queue))
      ∙ (node_at h.queue.items i e is_entry ∙ ap (λ (m : NodeId). Some m) same)

  ends_once : IsAtOnePlace b.layout turns n → NodeEndsOnce b.layout turns queues n
  ends_once one = record {
    place = one.place;
    here = forth one.place one.here;
    only = λ other at. one.only other
        (back other at);
  }

pub each_reached_node_ends_once : OfEachClosed EachReachedNodeEndsOnce
each_reached_node_ends_once b ws queues kept free reached is so_far rest are x low most there =
    ends_once b ws queues kept free reached is (named (words_after b.layout so_far) x)
    (reached_node_is_placed b.layout is.turns is.headline.headline so_far rest are x low most there)

pub each_stored_value_ends_once : OfEachClosed EachStoredValueEndsOnce
each_stored_value_ends_once b ws queues kept free reached is was stores held x there leaf of =
    ends_once b ws queues kept free reached is leaf
    (stored_values_are_at_one_place b.layout is.turns is.headline.headline was stores held x there leaf of)
