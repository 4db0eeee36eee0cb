-- What an event that a worker may take tells of its worker and its arguments.
use Rattle.std.proofs.Common.{◌≡◌, ℕ, ◌^◌, ◌<◌, ◌≤◌, Bool, true, false, not, ◌||◌, ◌&&◌, zero, suc, get_or, cond, List, [], ◌∷◌, refl, sym, ap, subst, ◌∙◌, true≢false, arith}
use Rattle.std.specs.Prelude.{Option, Some, None, IsSome, is_none, is_some, nat_lt, unwrap_or}
use Rattle.std.proofs.lemmas.Bool.{or_parts, leb-false}
use Rattle.std.proofs.lemmas.Option.{none-some}
use Rattle.nm_edge.specs.Edges.{Edge, edge_in, is_word, unpacked, word_of}
use Rattle.nm_edge.specs.Layouts.{Layout, IsLayout}
use Rattle.nm_edge.specs.Words.{IsSlot, IsField, at_edge}
use Rattle.nm_edge.specs.declared.edge.Side.{Side}
use Rattle.nm_model.specs.declared.event.Field.{Field}
use Rattle.nm_model.specs.declared.event.Event.{Event}
use Rattle.nm_model.specs.declared.event.Event.TheVariants.{Sight, SightFor, Announce, Leave, LeaveWith, Scan, Advance, Claim, Give, Look, Fill, Link, Flag, Tag, Splice, Swap, Join}
use Rattle.nm_model.specs.declared.event.Field.TheVariants.{Key, Edge as EdgeOn, Birth}
use Rattle.nm_model.specs.declared.memory.Node.{Node}
use Rattle.nm_model.specs.Memory.{Memory, edge, blank, opening}
use Rattle.nm_model.specs.Knowledge.{Knowledge, draft_of, is_private}
use Rattle.nm_model.specs.Step.{refusal, outside, is_edge, others_scanned, is_held_back, last_number}
use Rattle.nm_model.specs.Runs.{of}
use Rattle.nm_model.specs.Walks.{Entry}
use Rattle.nm_model.specs.Ordered.{ordered, after_in}
use Rattle.nm_model.specs.Lawful.{EpochsAgree}
use Rattle.nm_laws.proofs.Steps.{passed}
use Rattle.nm_laws.proofs.EachState.{each_epoch_agrees}
use Rattle.nm_order.specs.Hands.{IsPooled}
use Rattle.nm_order.specs.Logs.{known_by, IsLogOf}
use Rattle.nm_order.proofs.HeldSlots.{hands_are_apart}
use Rattle.nm_order.proofs.PartsOfRuns.{logs_tell}
use Rattle.nm_order.proofs.OrderedLaws.{IsOrdered, each_ordered}
use Rattle.nm_steps.specs.Packing.{StateIsInRange, word_at, field_of, touched_field}
use Rattle.nm_steps.proofs.PackedReads.{each_word_is_its_field}
use Rattle.nm_edge.proofs.Packing.{unpacked_word}
use Rattle.nm_edge.proofs.Words.{places_are_rows}
use Rattle.nm_steps.proofs.PackedSizes.{each_state_in_range}
use Rattle.nm_laws.proofs.TreeSteps.{high_from}
use Rattle.nm_steps.specs.Rules.{is_store, IsFound}
use Rattle.nm_steps.specs.Steps.{May, IsAsLooked}
use Rattle.nm_steps.proofs.FoundBirths.{ReadOf, read_of}

some_of : (o : Option ℕ) → is_none o ≡ false → IsSome o
some_of None h = absurd (true≢false h)
some_of (Some x) h = refl

module _ (L : Layout) (w : ℕ) (log : List Entry) where
  abbrev k : Knowledge
  k = known_by L w log

  pub announce_seen : May L w log Announce → IsSome k.brief.seen
  unfolding refusal
  announce_seen may = some_of k.brief.seen (or_parts (is_none k.brief.seen) (is_some k.brief.pin)
      (passed _ _ _ (may.allowed (opening L) tt)).0).0

  pub advance_seen : May L w log Advance → IsSome k.brief.seen
  unfolding refusal
  advance_seen may = some_of k.brief.seen (or_parts (is_none k.brief.seen)
      (not (others_scanned w k.scanned) || is_held_back k.brief.pin k.brief.seen)
      (passed _ _ _ (may.allowed (opening L) tt)).0).0

  pub scan_below : (u : ℕ) → May L w log (Scan u) → u < L.workers
  unfolding refusal
  scan_below u may = leb-false L.workers u (passed _ _ _ (may.allowed (opening L) tt)).0

  -- the epoch last read is no greater than the greatest
  pub seen_small : IsLayout L → IsLogOf L w log → (e : ℕ) → k.brief.seen ≡ Some e → e ≤ last_number
  seen_small fits l e is =
      let enough : 5 ≤ L.nodes = (let least = fits.least in omega arith) in
      let o : IsOrdered L (after_in (ordered L) l.turns) = each_ordered L enough l.turns l.keys in
      let agree : EpochsAgree (after_in (ordered L) l.turns).state = subst EpochsAgree (sym o.leads)
      (each_epoch_agrees L enough o.events) in
      let range : StateIsInRange (after_in (ordered L) l.turns).state = subst StateIsInRange (sym o.leads)
      (each_state_in_range L enough o.events) in
      let at : (of (after_in (ordered L) l.turns).state w).brief.seen
      ≡ Some e = ap (λ (x : Knowledge). x.brief.seen)
      (logs_tell L l.turns w l.worker ∙ ap (known_by L w) l.is_part) ∙ is in
      let below = agree.sights w e at in let top = range.epoch in omega (arith, below, top)

  -- private slots are ones of the pool's range
  pub private_pooled : IsLayout L → IsLogOf L w log → (x : ℕ) → is_private k x ≡ true → IsPooled L x
  private_pooled fits l = (hands_are_apart L (let least = fits.least in omega arith) w log l).private

-- ---- slots

slot_of : (low n s : ℕ) → 1 ≤ low → outside low n s ≡ false → (1 ≤ s) × (s ≤ n)
slot_of low n s some h = let is = high_from low n s h in (let a = is.0 in omega (arith, a, some), is.1)

module _ (L : Layout) (w : ℕ) (log : List Entry) where
  pub claim_slot : (s : ℕ) → May L w log (Claim s) → IsSlot L s
  unfolding refusal
  claim_slot s may = slot_of 6 L.nodes s (omega arith) (passed _ _ _ (may.allowed (opening L) tt)).0

  pub give_slot : (s : ℕ) → May L w log (Give s) → IsSlot L s
  unfolding refusal
  give_slot s may = slot_of 6 L.nodes s (omega arith) (passed _ _ _ (may.allowed (opening L) tt)).0

  pub look_slot : (s : ℕ) (f : Field) → May L w log (Look s f) → IsSlot L s
  unfolding refusal
  look_slot s f may = slot_of 1 L.nodes s (omega arith) (passed _ _ _ (may.allowed (opening L) tt)).0

  pub link_slot : (p : ℕ) (side : Side) (leaf new : ℕ) → May L w log (Link p side leaf new) → IsSlot L p
  unfolding refusal
  link_slot p side leaf new may = slot_of 1 L.nodes p (omega arith)
      (or_parts (outside 1 L.nodes p) (outside 1 L.nodes leaf || outside 6 L.nodes new)
      (passed _ _ _ (may.allowed (opening L) tt)).0).0

  pub flag_slot : (p : ℕ) (side : Side) (leaf : ℕ) → May L w log (Flag p side leaf) → IsSlot L p
  unfolding refusal
  flag_slot p side leaf may = slot_of 1 L.nodes p (omega arith)
      (or_parts (outside 1 L.nodes p) (outside 6 L.nodes leaf) (passed _ _ _ (may.allowed (opening L) tt)).0).0

  pub tag_slot : (p : ℕ) (side : Side) → May L w log (Tag p side) → IsSlot L p
  unfolding refusal
  tag_slot p side may = slot_of 1 L.nodes p (omega arith) (passed _ _ _ (may.allowed (opening L) tt)).0

  pub splice_slot : (a : ℕ) (side : Side) (s p : ℕ) (keep : Side) → May L w log (Splice a side s p keep) → IsSlot L a
  unfolding refusal
  splice_slot a side s p keep may = slot_of 1 L.nodes a (omega arith)
      (or_parts (outside 1 L.nodes a) (outside 6 L.nodes s || outside 6 L.nodes p)
      (passed _ _ _ (may.allowed (opening L) tt)).0).0

  pub swap_slot : (p : ℕ) (side : Side) (leaf new : ℕ) → May L w log (Swap p side leaf new) → IsSlot L p
  unfolding refusal
  swap_slot p side leaf new may = slot_of 1 L.nodes p (omega arith)
      (or_parts (outside 1 L.nodes p) (outside 6 L.nodes leaf || outside 6 L.nodes new)
      (passed _ _ _ (may.allowed (opening L) tt)).0).0

-- the last of so many nodes and one
abbrev last_of : ℕ → Node → List Node
last_of zero n = n ∷ []
last_of (suc s) n = blank ∷ last_of s n

at_last : (s : ℕ) (n : Node) → get_or (last_of s n) s blank ≡ n
at_last zero n = refl
at_last (suc s) n = at_last s n

module _ (L : Layout) (w : ℕ) (log : List Entry) where
  -- a fill is allowed in a memory in which its slot has the birth that was looked at
  abbrev looked_at : ℕ → Memory
  looked_at s = record (opening L) {
    nodes = last_of s
        (record blank { birth = unwrap_or (draft_of (known_by L w log) s).looked 0 });
  }

  is_as_looked : (s : ℕ) (f : Field) (v : ℕ) → IsAsLooked (known_by L w log) (looked_at s) (Fill s f v)
  is_as_looked s Key v = tt
  is_as_looked s (EdgeOn side) v = tt
  is_as_looked s Birth v = λ b is. ap (λ (n : Node). n.birth) (at_last s _) ∙ ap (λ o. unwrap_or o 0) is

  fill_allowed : (s : ℕ) (f : Field) (v : ℕ) → May L w log (Fill s f v)
      → (outside 6 L.nodes s || (is_edge f && nat_lt L.nodes v)) ≡ false
  unfolding refusal
  fill_allowed s f v may = (passed _ _ _ (may.allowed (looked_at s) (is_as_looked s f v))).0

  pub fill_slot : (s : ℕ) (f : Field) (v : ℕ) → May L w log (Fill s f v) → IsSlot L s
  fill_slot s f v may = slot_of 6 L.nodes s (omega arith)
      (or_parts (outside 6 L.nodes s) (is_edge f && nat_lt L.nodes v) (fill_allowed s f v may)).0

  -- the leaf of a flag is a slot
  pub flag_leaf : (p : ℕ) (side : Side) (leaf : ℕ) → May L w log (Flag p side leaf) → 1 ≤ leaf
  unfolding refusal
  flag_leaf p side leaf may = (slot_of 6 L.nodes leaf (omega arith)
      (or_parts (outside 1 L.nodes p) (outside 6 L.nodes leaf) (passed _ _ _ (may.allowed (opening L) tt)).0).1).0

-- ---- words of edges

-- where an edge's word is found, it is that of an edge
pub finds_edge : (L : Layout) (w : ℕ) (log : List Entry) (e : Event) (n x : ℕ) (side : Side) → IsFound L w log e n
    → is_store e ≡ false → touched_field w e ≡ at_edge x side → IsSlot L x → is_word n ≡ true
finds_edge L w log e n x side f loads at slot = is_some_true (is_word n) (edge_in n) (edge r.memory x side)
    (ap unpacked found_is ∙ unpacked_word (edge r.memory x side) (r.marks x side)
    (let size = r.range.edges x side in let most = f.fits.most in
    let below : (edge r.memory x side).slot < 2 ^ 32 = omega (arith, size, most) in below))
  where
    r : ReadOf L w e n
    r = read_of L w log e n f loads

    found_is : n ≡ word_of (edge r.memory x side)
    found_is = r.is ∙ (ap (word_at L r.memory) at ∙ each_word_is_its_field L r.memory (at_edge x side) r.fits slot)

    is_some_true : (b : Bool) (e d : Edge) → cond b (Some e) None ≡ Some d → b ≡ true
    is_some_true true e d h = refl
    is_some_true false e d h = absurd (none-some d h)

-- ---- the word of an event is one of the layout's

module _ (L : Layout) (w : ℕ) (log : List Entry) (own : w < L.workers) where
  of_node : (s : ℕ) (f : Field) → IsSlot L s → IsField L (field_of s f)
  of_node s Key slot = slot
  of_node s (EdgeOn side) slot = slot
  of_node s Birth slot = slot

  pub within : (e : Event) → May L w log e → IsField L (touched_field w e)
  within Sight may = tt
  within (SightFor op key) may = tt
  within Announce may = own
  within Leave may = own
  within (LeaveWith answer) may = own
  within (Scan u) may = scan_below L w log u may
  within Advance may = tt
  within (Claim s) may = places_are_rows L s (claim_slot L w log s may)
  within (Give s) may = places_are_rows L s (give_slot L w log s may)
  within (Look s f) may = of_node s f (look_slot L w log s f may)
  within (Fill s f v) may = of_node s f (fill_slot L w log s f v may)
  within (Link p side leaf new) may = link_slot L w log p side leaf new may
  within (Flag p side leaf) may = flag_slot L w log p side leaf may
  within (Tag p side) may = tag_slot L w log p side may
  within (Splice a side s p keep) may = splice_slot L w log a side s p keep may
  within (Swap p side leaf new) may = swap_slot L w log p side leaf new may
  within (Join v) may = absurd may.births
