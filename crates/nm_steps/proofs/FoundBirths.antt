-- What memory a word was read of; and a birth that is read is no greater than the greatest.
use Rattle.std.proofs.Common.{◌≡◌, ℕ, ◌≤◌, false, List, sym, ap, subst, ◌∙◌, arith}
use Rattle.nm_edge.specs.Layouts.{Layout}
use Rattle.nm_edge.specs.Edges.{IsEdge}
use Rattle.nm_edge.specs.Words.{IsSlot, at_birth}
use Rattle.nm_edge.specs.declared.edge.Side.{Side}
use Rattle.nm_model.specs.declared.event.Event.{Event}
use Rattle.nm_model.specs.Memory.{node, Memory, edge}
use Rattle.nm_model.specs.Step.{last_number}
use Rattle.nm_model.specs.Runs.{State, start}
use Rattle.nm_model.specs.Walks.{Entry}
use Rattle.nm_model.specs.Ordered.{ordered, after_in}
use Rattle.nm_laws.proofs.Reachable.{layout_kept}
use Rattle.nm_order.proofs.OrderedLaws.{IsOrdered, each_ordered}
use Rattle.nm_steps.specs.Packing.{Fits, InRange, StateFits, StateIsInRange, word_at, touched_field, NullEdgesAreUnmarked}
use Rattle.nm_steps.proofs.PackedEvents.{each_state_fits}
use Rattle.nm_steps.proofs.PackedReads.{each_word_is_its_field}
use Rattle.nm_steps.proofs.PackedSizes.{each_state_in_range}
use Rattle.nm_steps.proofs.MarkedEdges.{each_null_unmarked}
use Rattle.nm_steps.specs.Rules.{is_store, IsFound}

-- a word that is found was read of a memory that fits the layout, with its numbers in range
pub record ReadOf (L : Layout) (w : ℕ) (e : Event) (n : ℕ) : Type 0 where
  pub memory : Memory
  pub fits : Fits L memory
  pub range : InRange L memory
  pub marks : (x : ℕ) (side : Side) → IsEdge (edge memory x side)
  pub is : n ≡ word_at L memory (touched_field w e)

pub read_of : (L : Layout) (w : ℕ) (log : List Entry) (e : Event) (n : ℕ) → IsFound L w log e n → is_store e ≡ false
    → ReadOf L w e n
read_of L w log e n f loads = record {
  memory = s.memory;
  fits = subst (λ (l : Layout). Fits l s.memory) same
      (subst StateFits (sym o.leads) (each_state_fits L enough o.events));
  range = subst (λ (l : Layout). InRange l s.memory) same
      (subst StateIsInRange (sym o.leads) (each_state_in_range L enough o.events));
  marks = subst NullEdgesAreUnmarked (sym o.leads) (each_null_unmarked L enough o.events);
  is = f.word loads;
}
  where
    enough : 5 ≤ L.nodes
    enough = let least = f.fits.least in omega arith

    o : IsOrdered L (after_in (ordered L) f.turns)
    o = each_ordered L enough f.turns f.keys

    s : State
    s = (after_in (ordered L) f.turns).state

    same : s.layout ≡ L
    same = ap (λ (t : State). t.layout) o.leads ∙ layout_kept (start L) o.events

pub finds_birth : (L : Layout) (w : ℕ) (log : List Entry) (e : Event) (n x : ℕ) → IsFound L w log e n
    → is_store e ≡ false → touched_field w e ≡ at_birth x → IsSlot L x → n ≤ last_number
finds_birth L w log e n x f loads at slot =
    let r = read_of L w log e n f loads in
    let is : n ≡ (node r.memory x).birth = r.is ∙ (ap (word_at L r.memory) at
    ∙ each_word_is_its_field L r.memory (at_birth x) r.fits slot) in
    let most = r.range.births x in omega (arith, most, is)
