-- Each event that is allowed touches one word: in every state of every run.
use Rattle.std.proofs.Common.{◌≡◌, ℕ, ◌+◌, ◌*◌, ◌==◌, inl, inr, Bool, true, false, cond, ◌&&◌, ◌||◌, refl, sym, ap, ◌∙◌, arith}
use Rattle.std.specs.Prelude.{Option, Some, None, nat_lt, bit_or, slice_index, slice_set}
use Rattle.std.proofs.lemmas.Bool.{or_parts, leb-false, false_from_ne_true}
use Rattle.std.proofs.lemmas.List.{set-get_or}
use Rattle.nm_edge.specs.Edges.{Edge, word_of, to, is_to, tagged}
use Rattle.nm_edge.specs.Layouts.{Layout}
use Rattle.nm_edge.specs.Words.{at_epoch, at_edge, IsField, IsSlot, word, pool_place}
use Rattle.nm_edge.specs.declared.edge.Side.{Side}
use Rattle.nm_edge.proofs.Words.{fields_within, places_are_rows}
use Rattle.nm_model.specs.declared.event.Event.{Event}
use Rattle.nm_model.specs.declared.event.Event.TheVariants.{Sight, SightFor, Announce, Leave, LeaveWith, Scan, Advance, Claim, Give, Look, Fill, Link, Flag, Tag, Splice, Swap, Join}
use Rattle.nm_model.specs.declared.event.Field.{Field as NodeField}
use Rattle.nm_model.specs.declared.event.Field.TheVariants.{Key, Edge as EdgeOn, Birth}
use Rattle.nm_model.specs.declared.reply.Refused.{Refused}
use Rattle.nm_model.specs.Maps.{is_number}
use Rattle.nm_model.specs.Memory.{Memory, node, edge, put_node, with_edge}
use Rattle.nm_model.specs.Knowledge.{read}
use Rattle.nm_model.specs.Step.{outside, is_edge, exchanged, filled, kept, refusal, write}
use Rattle.nm_model.specs.Runs.{State, of, start, refusal_of, refused, applied, unless_refused, next, after}
use Rattle.nm_model.specs.Laws.{OfEachState}
use Rattle.nm_steps.specs.Packing.{Fits, words_of, word_at, field_of, touched_field, filling, left_word, with_word, AtMostOne, StateFits, FixedBitsAreZero, EventsTouchOneWord, AtMostOneWordChanges}
use Rattle.nm_laws.proofs.Steps.{Allowed, allowed, passed}
use Rattle.nm_laws.proofs.TreeSteps.{Lawful, high_from, tag_not_null}
use Rattle.nm_laws.proofs.Lawful.{IsLawful, lawful}
use Rattle.nm_steps.proofs.EdgeWords.{word_to, word_flagged, word_is_to, word_tagged}
use Rattle.nm_steps.proofs.PackedReads.{all_words, field_read, each_bit_is_its_slot}
use Rattle.nm_steps.proofs.PackedWrites.{announcement_written, key_written, edge_written, birth_written, taking_clears_a_bit, giving_sets_a_bit}

-- ---- words that are read alone, exchanged or filled

-- what a look or a scan leaves
unchanged : (L : Layout) (m : Memory) (i : ℕ) → words_of L m ≡ slice_set (words_of L m) i (slice_index (words_of L m) i)
unchanged L m i = sym (set-get_or (words_of L m) i 0)

exchange_written : (L : Layout) (m : Memory) (p : ℕ) (side : Side) (s n : ℕ) (e : Edge) → Fits L m → IsSlot L p
    → word_of e ≡ n
    → words_of L (exchanged m p side s e) ≡ with_word L m (at_edge p side)
    (cond (word_at L m (at_edge p side) == 4 * s) n (word_at L m (at_edge p side)))
exchange_written L m p side s n e fits h is =
    go (is_to (edge m p side) s)
    ∙ ap (λ b. with_word L m (at_edge p side) (cond b n (word_at L m (at_edge p side))))
    (sym (ap (λ k. k == 4 * s) (field_read L m fits (at_edge p side) h) ∙ word_is_to (edge m p side) s))
  where
    go : (b : Bool) → words_of L (cond b (put_node m p (with_edge (node m p) side e)) m)
        ≡ with_word L m (at_edge p side) (cond b n (word_at L m (at_edge p side)))
    go true = edge_written L m p side e fits h ∙ ap (with_word L m (at_edge p side)) is
    go false = unchanged L m (word L (at_edge p side))

fill_written : (L : Layout) (m : Memory) (s : ℕ) (f : NodeField) (v : ℕ) → Fits L m → IsSlot L s
    → words_of L (put_node m s (filled (node m s) f v)) ≡ with_word L m (field_of s f) (filling f v)
fill_written L m s Key v fits h = key_written L m s v fits h
fill_written L m s (EdgeOn side) v fits h = edge_written L m s side (to v) fits h
    ∙ ap (with_word L m (at_edge s side)) (word_to v)
fill_written L m s Birth v fits h = birth_written L m s v fits h

slot_field : (L : Layout) (s : ℕ) (f : NodeField) → IsSlot L s → IsField L (field_of s f)
slot_field L s Key h = h
slot_field L s (EdgeOn side) h = h
slot_field L s Birth h = h

-- ---- one event

pub fits_of : (s : State) (h : ℕ → ℕ) → Lawful s h → Fits s.layout s.memory
fits_of s h law = record { announcements = law.staffed.announcements; nodes = law.roomy.nodes; pool = law.roomy.pool }

module _ (s : State) (h : ℕ → ℕ) (law : Lawful s h) (w : ℕ) where
  abbrev fits : Fits s.layout s.memory
  fits = fits_of s h law

  -- the slots that an event names are there
  pub range : (x : ℕ) → outside 6 s.layout.nodes x ≡ false → IsSlot s.layout x
  range x ok = let r = high_from 6 s.layout.nodes x ok in (omega (arith, r.0), r.1)

  pub touches_field : (e : Event) → Allowed s w e → IsField s.layout (touched_field w e)
  unfolding refusal
  touches_field e ok' = go e ok'.event
    where
      go : (e : Event) → refusal_of s w e ≡ None → IsField s.layout (touched_field w e)
      go Sight ok = tt
      go (SightFor op key) ok = tt
      go Announce ok = ok'.worker
      go Leave ok = ok'.worker
      go (LeaveWith answer) ok = ok'.worker
      go (Scan u) ok = leb-false s.layout.workers u (passed _ _ _ ok).0
      go Advance ok = tt
      go (Claim x) ok = places_are_rows s.layout x (range x (passed _ _ _ ok).0)
      go (Give x) ok = places_are_rows s.layout x (range x (passed _ _ _ ok).0)
      go (Look x f) ok = slot_field s.layout x f (high_from 1 s.layout.nodes x (passed _ _ _ ok).0)
      go (Fill x f v) ok = slot_field s.layout x f (range x
          (or_parts (outside 6 s.layout.nodes x) (is_edge f && nat_lt s.layout.nodes v) (passed _ _ _ ok).0).0)
      go (Link p side leaf new) ok = high_from 1 s.layout.nodes p
          (or_parts (outside 1 s.layout.nodes p) (outside 1 s.layout.nodes leaf || outside 6 s.layout.nodes new)
          (passed _ _ _ ok).0).0
      go (Flag p side leaf) ok = high_from 1 s.layout.nodes p
          (or_parts (outside 1 s.layout.nodes p) (outside 6 s.layout.nodes leaf) (passed _ _ _ ok).0).0
      go (Tag p side) ok = high_from 1 s.layout.nodes p (passed _ _ _ ok).0
      go (Splice a side x p keep) ok = high_from 1 s.layout.nodes a
          (or_parts (outside 1 s.layout.nodes a) (outside 6 s.layout.nodes x || outside 6 s.layout.nodes p)
          (passed _ _ _ ok).0).0
      go (Swap p side leaf new) ok = high_from 1 s.layout.nodes p
          (or_parts (outside 1 s.layout.nodes p) (outside 6 s.layout.nodes leaf || outside 6 s.layout.nodes new)
          (passed _ _ _ ok).0).0
      go (Join v) ok = tt

  one_word : (e : Event) → Allowed s w e → words_of s.layout (write s.memory (of s w) w e)
      ≡ with_word s.layout s.memory (touched_field w e)
      (left_word s.layout (of s w) e (word_at s.layout s.memory (touched_field w e)))
  unfolding refusal write
  one_word e ok' = go e ok' (touches_field e ok')
    where
      go : (e : Event) → Allowed s w e → IsField s.layout (touched_field w e)
          → words_of s.layout (write s.memory (of s w) w e)
          ≡ with_word s.layout s.memory (touched_field w e)
          (left_word s.layout (of s w) e (word_at s.layout s.memory (touched_field w e)))
      go Sight ok at = unchanged s.layout s.memory 0
      go (SightFor op key) ok at = unchanged s.layout s.memory 0
      go Announce ok at = announcement_written s.layout s.memory w _ fits at
      go Leave ok at = announcement_written s.layout s.memory w _ fits at
      go (LeaveWith answer) ok at = announcement_written s.layout s.memory w _ fits at
      go (Scan u) ok at = unchanged s.layout s.memory _
      go Advance ok at = moving (is_number (of s w).brief.seen s.memory.epoch)
        where
          moving : (b : Bool) → words_of s.layout (cond b (record s.memory { epoch = s.memory.epoch + 1 }) s.memory)
              ≡ with_word s.layout s.memory at_epoch (cond b (s.memory.epoch + 1) s.memory.epoch)
          moving true = refl
          moving false = refl
      go (Claim x) ok at = taking_clears_a_bit s.layout s.memory x fits (range x (passed _ _ _ ok.event).0)
      go (Give x) ok at = giving_sets_a_bit s.layout s.memory x fits (range x (passed _ _ _ ok.event).0)
      go (Look x f) ok at = unchanged s.layout s.memory _
      go (Fill x f v) ok at = fill_written s.layout s.memory x f v fits (of_field f at)
        where
          of_field : (f : NodeField) → IsField s.layout (field_of x f) → IsSlot s.layout x
          of_field Key at = at
          of_field (EdgeOn side) at = at
          of_field Birth at = at
      go (Link p side leaf new) ok at = exchange_written s.layout s.memory p side leaf (4 * new) (to new) fits at
          (word_to new)
      go (Flag p side leaf) ok at = exchange_written s.layout s.memory p side leaf (4 * leaf + 1) _ fits at
          (word_flagged leaf)
      go (Tag p side) ok at =
          edge_written s.layout s.memory p side (tagged (edge s.memory p side)) fits at
          ∙ ap (with_word s.layout s.memory (at_edge p side))
          (word_tagged (edge s.memory p side) (tag_not_null s h law w p side ok.event)
          ∙ ap (λ n. bit_or n 2) (sym (field_read s.layout s.memory fits (at_edge p side) at)))
      go (Splice a side x p keep) ok at = exchange_written s.layout s.memory a side x _ (kept (read (of s w) p keep))
          fits at refl
      go (Swap p side leaf new) ok at = exchange_written s.layout s.memory p side leaf (4 * new) (to new) fits at
          (word_to new)
      go (Join v) ok at = unchanged s.layout s.memory 0

-- ---- in every run

module _ (s : State) (k : IsLawful s) where
  state_fits : StateFits s
  state_fits = fits_of s k.holder k.law

  events_touch_one_word : EventsTouchOneWord s
  unfolding next applied
  events_touch_one_word w e none =
      let ok = allowed s w e none in (
        touches_field s k.holder k.law w e ok,
        ap (λ (o : Option Refused). words_of s.layout
            (unless_refused o s (applied s w e)).memory) none ∙ one_word s k.holder k.law w e ok,
      )

  at_most_one_word_changes : AtMostOneWordChanges s
  unfolding next
  at_most_one_word_changes t = go (refused s t.0 t.1) refl
    where
      go : (o : Option Refused) → refused s t.0 t.1 ≡ o
          → AtMostOne (words_of s.layout s.memory) (words_of s.layout (unless_refused o s (applied s t.0 t.1)).memory)
      go (Some r) is = inl refl
      go None is =
          let touch = events_touch_one_word t.0 t.1 is in
          inr (
            word s.layout (touched_field t.0 t.1),
            left_word s.layout (of s t.0) t.1 (word_at s.layout s.memory (touched_field t.0 t.1)),
            omega (
              arith,
              fields_within s.layout (touched_field t.0 t.1) touch.0,
              all_words s.layout s.memory
                  state_fits,
            ),
            ap (λ (o : Option Refused). words_of s.layout (unless_refused o s (applied s t.0 t.1)).memory) (sym is)
                ∙ touch.1,
          )

  fixed_bits_are_zero : FixedBitsAreZero s
  fixed_bits_are_zero x low high =
      let room = k.law.tree.room in
      each_bit_is_its_slot s.layout s.memory x state_fits (low, omega (arith, high, room))
      ∙ ap (λ b. cond b (pool_place s.layout x).mask 0)
      (false_from_ne_true _ (λ pooled. let r = k.law.tree.pools x pooled in absurd (omega (arith, r.0, high))))

pub each_state_fits : OfEachState StateFits
each_state_fits L enough turns = state_fits (after (start L) turns) (lawful L enough turns)

pub each_event_touches_one_word : OfEachState EventsTouchOneWord
each_event_touches_one_word L enough turns = events_touch_one_word (after (start L) turns) (lawful L enough turns)

pub each_turn_changes_one_word : OfEachState AtMostOneWordChanges
each_turn_changes_one_word L enough turns = at_most_one_word_changes (after (start L) turns) (lawful L enough turns)

pub each_fixed_bit_is_zero : OfEachState FixedBitsAreZero
each_fixed_bit_is_zero L enough turns = fixed_bits_are_zero (after (start L) turns) (lawful L enough turns)
