-- Each write of a memory changes one word of it: of a slot in the pool, one bit.
use Rattle.std.proofs.Common.{◌≡◌, ◌≢◌, ℕ, ◌+◌, ◌-◌, ◌*◌, ◌/◌, ◌%◌, ◌^◌, ◌<◌, ◌≤◌, inl, inr, Bool, true, false, List, ◌∷◌, ◌++◌, length, take, drop, set, get_or, flat_map, refl, sym, ap, ◌∙◌, arith, lit<, length-drop, length-take}
use Rattle.std.specs.Prelude.{None, bit_and, bit_or, slice_set}
use Rattle.std.proofs.lemmas.List.{drop-set-add}
use Rattle.std.proofs.lemmas.Bool.{cases_lt}
use Rattle.nm_edge.specs.Edges.{word_of}
use Rattle.nm_edge.specs.Layouts.{Layout}
use Rattle.nm_edge.specs.Words.{at_announcement, at_key, at_edge, at_birth, IsSlot, behind_announcements, rows, word, pool_place}
use Rattle.nm_edge.specs.declared.edge.Side.TheVariants.{Left, Right}
use Rattle.nm_model.specs.declared.memory.Node.{Node}
use Rattle.nm_model.specs.Memory.{Memory, node, blank, put_node}
use Rattle.nm_steps.specs.Packing.{Fits, announcement_word, node_words, number_of, row_word, words_of, pool_word_at, with_pool_word, EpochIsOneWord, AnnouncementIsOneWord, KeyIsOneWord, EdgeIsOneWord, BirthIsOneWord, TakingClearsABit, GivingSetsABit}
use Rattle.nm_steps.proofs.Blocks.{set-append-add, blocks_written, first_written, second_written, third_written, one_changed, window_written, window_before, window_behind}
use Rattle.nm_steps.proofs.NumberBits.{given, cleared}
use Rattle.nm_laws.proofs.TreeSlots.{put_pool}
use Rattle.nm_steps.proofs.PackedReads.{announced, zeros, spread, spread_words, announcement_place, announced_there, announcement_inside, fours, rowed, four_words, announced_length, nodes_length, fours_length, slot_of, in_row, row_read}

pub epoch_written : EpochIsOneWord
epoch_written L m e = refl

pub announcement_written : AnnouncementIsOneWord
announcement_written L m w o fits h =
    ap (λ l. m.epoch ∷ (l ++ (fours m ++ rowed L m)))
    (ap (λ l. zeros (L.gap - 2) ++ l) (blocks_written (spread L) (1 + L.gap) (spread_words L) m.announcements w 0
    (announcement_word o) None o (omega arith) (omega (arith, fits.announcements, h)) refl)
    ∙ sym (set-append-add (zeros (L.gap - 2)) (flat_map (spread L) m.announcements) ((1 + L.gap) * w + 0)
    (announcement_word o)) ∙ ap (λ k. set (announced L m) k (announcement_word o)) (sym (announced_there L w)))
    ∙ first_written m.epoch (announced L m) (fours m) (rowed L m) (word L (at_announcement w))
    (announcement_place L w) (announcement_word o) (omega arith) (announcement_inside L m fits w h)

-- ---- nodes

-- another node that differs from the one in the slot in its j-th word
node_written : (L : Layout) (m : Memory) (s j n v : ℕ) (x : Node) → Fits L m → IsSlot L s → j < 4
    → n ≡ behind_announcements L L.workers + 4 * (s - 1) + j
    → node_words x ≡ set (node_words (node m s)) j v → words_of L (put_node m s x) ≡ slice_set (words_of L m) n v
node_written L m s j n v x fits h below at is =
    ap (λ l. m.epoch ∷ (announced L m ++ (l ++ rowed L m)))
    (ap (flat_map node_words) moved ∙ blocks_written node_words 4 four_words (drop 1 m.nodes) (s - 1) j v blank x
    below inside same)
    ∙ second_written m.epoch (announced L m) (fours m) (rowed L m) n (4 * (s - 1) + j) v
    (omega (arith, at, announced_length L m fits)) (omega (arith, fours_length L m fits, h.0, h.1, below))
  where
    inside : s - 1 < length (drop 1 m.nodes)
    inside = omega (arith, nodes_length L m fits, h.0, h.1)

    moved : drop 1 (set m.nodes s x) ≡ set (drop 1 m.nodes) (s - 1) x
    moved = ap (λ k. drop 1 (set m.nodes k x)) (let e : s ≡ 1 + (s - 1) = omega (arith, h.0) in e)
        ∙ drop-set-add 1 m.nodes (s - 1) x

    same : node_words x ≡ set (node_words (get_or (drop 1 m.nodes) (s - 1) blank)) j v
    same = is ∙ ap (λ y. set (node_words y) j v) (sym (slot_of L m fits s h))

pub key_written : KeyIsOneWord
key_written L m s key fits h = node_written L m s 0 (word L (at_key s)) key _ fits h (lit< tt) (omega arith) refl

pub edge_written : EdgeIsOneWord
edge_written L m s Left e fits h = node_written L m s 1 (word L (at_edge s Left)) (word_of e) _ fits h (lit< tt) refl
    refl
edge_written L m s Right e fits h = node_written L m s 2 (word L (at_edge s Right)) (word_of e) _ fits h (lit< tt)
    refl refl

pub birth_written : BirthIsOneWord
birth_written L m s birth fits h = node_written L m s 3 (word L (at_birth s)) birth _ fits h (lit< tt) refl refl

-- ---- the pool

-- the bits of a row
abbrev bits : Memory → ℕ → List Bool
bits m r = take 64 (drop (64 * r + 1) m.pool)

module _ (L : Layout) (m : Memory) (s : ℕ) (b : Bool) (fits : Fits L m) (h : IsSlot L s) where
  abbrev row : ℕ
  row = (s - 1) / 64

  abbrev place : ℕ
  place = (s - 1) % 64

  here : bits (put_pool m s b) row ≡ set (bits m row) place b
  here = ap (λ k. take 64 (drop (64 * row + 1) (set m.pool k b))) (sym (in_row s h.0))
      ∙ window_written (64 * row + 1) 64 m.pool place b (omega arith)

  elsewhere : (q : ℕ) → q ≢ row → row_word (put_pool m s b) q ≡ row_word m q
  elsewhere q ne = ap number_of (elim (cases_lt s (64 * q + 1)) [
    | inl before ↦ window_before (64 * q + 1) 64 m.pool s b before
    | inr past ↦ ap (λ k. take 64 (drop (64 * q + 1) (set m.pool k b)))
        (let e : s ≡ 64 * q + 1 + (s - (64 * q + 1)) = omega (arith, past) in e)
        ∙ window_behind (64 * q + 1) 64 m.pool (s - (64 * q + 1)) b (omega (arith, past, ne))
  ])

  pub row_written : words_of L (put_pool m s b) ≡ with_pool_word L m s (number_of (set (bits m row) place b))
  row_written =
      ap (λ l. m.epoch ∷ (announced L m ++ (fours m ++ l)))
      (one_changed (row_word m) (row_word (put_pool m s b)) (rows L) row (omega (arith, h.0, h.1)) elsewhere
      ∙ ap (λ l. set (rowed L m) row (number_of l)) here)
      ∙ third_written m.epoch (announced L m) (fours m) (rowed L m) (pool_place L s).word row _
      (omega (arith, announced_length L m fits, fours_length L m fits))

  pub place_inside : place < length (bits m row)
  place_inside = omega (
    arith,
    length-take 64 (drop (64 * row + 1) m.pool),
    length-drop (64 * row + 1) m.pool,
    fits.pool,
    h.0,
    h.1,
  )

  pub bits_few : length (bits m row) ≤ 64
  bits_few = omega (arith, length-take 64 (drop (64 * row + 1) m.pool))

  pub row_found : pool_word_at L m s ≡ number_of (bits m row)
  row_found = row_read L m fits row (omega (arith, h.0, h.1))

pub taking_clears_a_bit : TakingClearsABit
taking_clears_a_bit L m s fits h =
    row_written L m s false fits h
    ∙ ap (with_pool_word L m s) (cleared (bits m ((s - 1) / 64)) 64 ((s - 1) % 64) (bits_few L m s false fits h)
    (place_inside L m s false fits h)
    ∙ ap (λ n. bit_and n (2 ^ 64 - 1 - (pool_place L s).mask)) (sym (row_found L m s false fits h)))

pub giving_sets_a_bit : GivingSetsABit
giving_sets_a_bit L m s fits h =
    row_written L m s true fits h
    ∙ ap (with_pool_word L m s) (given (bits m ((s - 1) / 64)) ((s - 1) % 64) (place_inside L m s true fits h)
    ∙ ap (λ n. bit_or n (pool_place L s).mask) (sym (row_found L m s true fits h)))
