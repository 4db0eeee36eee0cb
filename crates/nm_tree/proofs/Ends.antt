-- What the words at the end of a run tell of the state there.
use Rattle.std.proofs.Common.{◌≡◌, ℕ, ◌-◌, ◌≤◌, ◌<◌, ◌^◌, ◌%◌, ◌==◌, Bool, true, false, cond, List, length, refl, sym, ap, ◌∙◌, subst, arith}
use Rattle.std.specs.Prelude.{bit_and, not, slice_index}
use Rattle.std.proofs.lemmas.Bool.{ne_eqb}
use Rattle.std.proofs.lemmas.Nat.{pow_pos}
use Rattle.nm_edge.specs.Edges.{edge_in, is_word}
use Rattle.nm_edge.specs.Layouts.{Layout}
use Rattle.nm_edge.specs.Words.{Field, at_edge, IsField, IsSlot, pool_place, word, words}
use Rattle.nm_edge.specs.declared.edge.Side.{Side}
use Rattle.nm_edge.proofs.Packing.{packed_is_word, packed_word}
use Rattle.nm_edge.proofs.Words.{fields_within}
use Rattle.nm_model.specs.Memory.{child, edge, in_pool}
use Rattle.nm_model.specs.Reports.{tree_slots}
use Rattle.nm_model.specs.Laws.{OfEachState}
use Rattle.nm_model.specs.Lawful.{CountsAddUp}
use Rattle.nm_model.specs.Runs.{State, start}
use Rattle.nm_model.specs.Ordered.{ordered, after_in}
use Rattle.nm_laws.proofs.Counts.{each_state_adds_up}
use Rattle.nm_laws.proofs.Lawful.{lawful}
use Rattle.nm_laws.proofs.Reachable.{layout_kept}
use Rattle.nm_order.specs.Intervals.{KeysAscend, KeysTellTheSet}
use Rattle.nm_order.proofs.OrderedLaws.{IsOrdered, each_ordered, each_core_tells_the_set, each_key_ascends}
use Rattle.nm_steps.specs.Packing.{Fits, InRange, StateFits, StateIsInRange, NullEdgesAreUnmarked, field_word}
use Rattle.nm_steps.proofs.PackedEvents.{each_state_fits}
use Rattle.nm_steps.proofs.PackedSizes.{each_state_in_range}
use Rattle.nm_steps.proofs.PackedReads.{each_field_has_a_word, each_word_is_its_field, each_bit_is_its_slot}
use Rattle.nm_steps.proofs.MarkedEdges.{each_null_unmarked}
use Rattle.nm_tree.specs.Ended.{IsEndOf, end_of}

module _ (L : Layout) (ws : List ℕ) (e : IsEndOf L ws) where
  abbrev s : State
  s = end_of L ws e

  enough : 5 ≤ L.nodes
  enough = let least = e.fits.least in omega arith

  o : IsOrdered L (after_in (ordered L) e.turns)
  o = each_ordered L enough e.turns e.keys

  -- a law of all runs holds at this end
  pub holds : (P : State → Type 0) → OfEachState P → P s
  holds P law = subst P (sym o.leads) (law L enough o.events)

  pub layout_is : s.layout ≡ L
  layout_is = ap (λ (t : State). t.layout) o.leads ∙ layout_kept (start L) o.events

  pub fits : Fits L s.memory
  fits = subst (λ (l : Layout). Fits l s.memory) layout_is (holds StateFits each_state_fits)

  pub in_range : InRange L s.memory
  in_range = subst (λ (l : Layout). InRange l s.memory) layout_is (holds StateIsInRange each_state_in_range)

  pub low_child : (x : ℕ) (side : Side) → child s.memory x side ≤ L.nodes
  low_child x side = in_range.edges x side

  pub unmarked : NullEdgesAreUnmarked s
  unmarked = holds NullEdgesAreUnmarked each_null_unmarked

  pub long : length ws ≡ words L
  long = ap (λ (l : List ℕ). length l) e.words_are ∙ each_field_has_a_word L s.memory fits

  -- each word is its field
  pub tells : (f : Field) → IsField L f → slice_index ws (word L f) ≡ field_word s.memory f
  tells f is = ap (λ (l : List ℕ). slice_index l (word L f)) e.words_are ∙ each_word_is_its_field L s.memory f fits is

  pub within : (f : Field) → IsField L f → word L f < length ws
  within f is = subst (λ (n : ℕ). word L f < n) (sym long) (fields_within L f is)

  -- each edge is found in its word, which is an edge's
  pub is_told_by_a_word : (x : ℕ) (side : Side) → IsSlot L x → is_word (slice_index ws (word L (at_edge x side))) ≡ true
  is_told_by_a_word x side is = ap is_word (tells (at_edge x side) is)
      ∙ packed_is_word (edge s.memory x side) (unmarked x side)
      (let low = in_range.edges x side in let few = e.fits.most in omega (arith, low, few))

  pub edge_told : (x : ℕ) (side : Side) → IsSlot L x
      → edge_in (slice_index ws (word L (at_edge x side))) ≡ edge s.memory x side
  edge_told x side is = ap edge_in (tells (at_edge x side) is) ∙ packed_word (edge s.memory x side)

  -- a slot's bit is set where the slot is in the pool
  pub bit_told : (x : ℕ) → IsSlot L x → not (bit_and (slice_index ws (pool_place L x).word) (pool_place L x).mask
      == 0) ≡ in_pool s.memory x
  bit_told x is = ap (λ (n : ℕ). not (n == 0)) (ap
      (λ (l : List ℕ). bit_and (slice_index l (pool_place L x).word) (pool_place L x).mask) e.words_are
      ∙ each_bit_is_its_slot L s.memory x fits is) ∙ go (in_pool s.memory x)
    where
      go : (b : Bool) → not (cond b (pool_place L x).mask 0 == 0) ≡ b
      go true = ap not (ne_eqb (2 ^ ((x - 1) % 64)) 0 (let some = pow_pos ((x - 1) % 64) in omega (arith, some)))
      go false = refl

  -- the fixed slots are not in the pool, nor is slot 0
  pub pooled_above : (x : ℕ) → in_pool s.memory x ≡ true → 6 ≤ x
  pooled_above = holds (λ t. (x : ℕ) → in_pool t.memory x ≡ true → 6 ≤ x)
      (λ l room turns x is. let k = lawful l room turns in (k.law.tree.pools x is).0)

  -- no more slots are reached than there are
  pub few_reached : length (tree_slots L.nodes s.memory 1) ≤ L.nodes
  few_reached =
      let sum = subst (λ (l : Layout). length (tree_slots l.nodes s.memory 1) - 5 ≤ l.nodes - 5) layout_is
      (let adds = holds CountsAddUp each_state_adds_up in omega (arith, adds)) in
      omega (arith, sum, enough)

  -- the keys are the set, and ascend
  pub keys_tell : KeysTellTheSet (after_in (ordered L) e.turns)
  keys_tell = each_core_tells_the_set L enough e.turns e.keys

  pub keys_ascend : KeysAscend (after_in (ordered L) e.turns)
  keys_ascend = each_key_ascends L enough e.turns e.keys
