-- Each word of a packed memory is its field, and each bit of the pool is its slot.
use Rattle.std.proofs.Common.{◌++◌, ◌≡◌, ℕ, ◌+◌, ◌-◌, ◌*◌, ◌/◌, ◌%◌, ◌^◌, ◌<◌, ◌≤◌, false, cond, List, length, map, take, drop, get_or, flat_map, refl, ap, ◌∙◌, ◌∷◌, replicate, arith, lit<, length-append, length-drop, get_or-append-add, get_or-take, get_or-drop}
use Rattle.std.specs.Prelude.{Option, None, bit_and, slice_index}
use Rattle.std.specs.List.{range_with_len}
use Rattle.std.proofs.lemmas.List.{length-replicate, get_or_past}
use Rattle.std.proofs.lemmas.List.FromFn.{length-map-range_with_len, get_or-map-range_with_len}
use Rattle.nm_edge.specs.Layouts.{Layout}
use Rattle.nm_edge.specs.Words.{Field, at_epoch, at_announcement, at_key, at_edge, at_birth, at_row, IsField, IsSlot, behind_announcements, rows, word, words}
use Rattle.nm_edge.proofs.Words.{announcement_within}
use Rattle.nm_edge.specs.declared.edge.Side.TheVariants.{Left, Right}
use Rattle.nm_model.specs.declared.memory.Node.{Node}
use Rattle.nm_model.specs.Memory.{Memory, node, blank, in_pool}
use Rattle.nm_steps.specs.Packing.{Fits, announcement_word, node_words, row_word, words_of, field_word, word_at, EachFieldHasAWord, EachWordIsItsField, EachBitIsItsSlot, SpareBitsAreZero}
use Rattle.nm_steps.proofs.Blocks.{blocks_length, blocks_read, first_read, second_read, third_read, whole_length}
use Rattle.nm_steps.proofs.NumberBits.{told}

-- ---- the three parts behind the epoch

abbrev pub announced : Layout → Memory → List ℕ
announced L m = replicate (L.gap - 2) 0 ++ flat_map (λ o. announcement_word o ∷ replicate L.gap 0) m.announcements

-- words that say nothing
abbrev pub zeros : ℕ → List ℕ
zeros n = replicate n 0

zeros_long : (n : ℕ) → length (zeros n) ≡ n
zeros_long n = length-replicate n 0

-- an announcement with its gap
abbrev pub spread : Layout → Option ℕ → List ℕ
spread L o = announcement_word o ∷ zeros L.gap

pub spread_words : (L : Layout) (o : Option ℕ) → length (spread L o) ≡ 1 + L.gap
spread_words L o = omega (arith, zeros_long L.gap)

abbrev pub fours : Memory → List ℕ
fours m = flat_map node_words (drop 1 m.nodes)

abbrev pub rowed : Layout → Memory → List ℕ
rowed L m = map (row_word m) (range_with_len 0 (rows L))

pub four_words : (n : Node) → length (node_words n) ≡ 4
four_words n = refl

-- where an announcement stands behind the epoch's word
abbrev pub announcement_place : Layout → ℕ → ℕ
announcement_place L w = L.gap - 2 + (1 + L.gap) * w

pub announced_there : (L : Layout) (w : ℕ) → announcement_place L w ≡ length (zeros (L.gap - 2)) + ((1 + L.gap) * w + 0)
announced_there L w = omega (arith, zeros_long (L.gap - 2))

module _ (L : Layout) (m : Memory) (fits : Fits L m) where
  -- with the epoch's word before them
  pub announced_length : 1 + length (announced L m) ≡ behind_announcements L L.workers
  announced_length =
      let all : length (flat_map (spread L) m.announcements)
      ≡ (1 + L.gap) * L.workers = blocks_length (spread L) (1 + L.gap) (spread_words L) m.announcements
      ∙ ap (λ n. (1 + L.gap) * n) fits.announcements in
      omega (
        arith,
        length-append (zeros (L.gap - 2)) (flat_map (spread L) m.announcements),
        zeros_long (L.gap - 2),
        all,
      )

  pub announcement_inside : (w : ℕ) → w < L.workers → announcement_place L w < length (announced L m)
  announcement_inside w h = let within = announcement_within L w h in omega (arith, announced_length, within)

  pub nodes_length : length (drop 1 m.nodes) ≡ L.nodes
  nodes_length = omega (arith, length-drop 1 m.nodes, fits.nodes)

  pub fours_length : length (fours m) ≡ 4 * L.nodes
  fours_length = omega (arith, blocks_length node_words 4 four_words (drop 1 m.nodes), nodes_length)

  pub rowed_length : length (rowed L m) ≡ rows L
  rowed_length = length-map-range_with_len (row_word m) 0 (rows L)

  pub all_words : length (words_of L m) ≡ words L
  all_words = omega (
    arith,
    whole_length m.epoch (announced L m) (fours m) (rowed L m),
    announced_length,
    fours_length,
    rowed_length,
  )

  -- slot s is the one before it of those from slot 1 on
  pub slot_of : (s : ℕ) → IsSlot L s → get_or (drop 1 m.nodes) (s - 1) blank ≡ node m s
  slot_of s h = get_or-drop 1 m.nodes (s - 1) blank ∙ ap (λ k. get_or m.nodes k blank) (omega (arith, h.0))

  node_read : (s j n : ℕ) → IsSlot L s → j < 4 → n ≡ behind_announcements L L.workers + 4 * (s - 1) + j
      → slice_index (words_of L m) n ≡ get_or (node_words (node m s)) j 0
  node_read s j n h below is =
      second_read m.epoch (announced L m) (fours m) (rowed L m) n (4 * (s - 1) + j)
      (omega (arith, is, announced_length)) (omega (arith, fours_length, h.0, h.1, below))
      ∙ blocks_read node_words 4 four_words (drop 1 m.nodes) (s - 1) j blank below
      (omega (arith, nodes_length, h.0, h.1))
      ∙ ap (λ x. get_or (node_words x) j 0) (slot_of s h)

  pub row_read : (r : ℕ) → r < rows L → word_at L m (at_row r) ≡ row_word m r
  row_read r below =
      third_read m.epoch (announced L m) (fours m) (rowed L m) (word L (at_row r)) r
      (omega (arith, announced_length, fours_length))
      ∙ get_or-map-range_with_len (row_word m) 0 (rows L) r r 0 below (omega arith)

  pub field_read : (f : Field) → IsField L f → word_at L m f ≡ field_word m f
  field_read at_epoch h = refl
  field_read (at_announcement w) h =
      first_read m.epoch (announced L m) (fours m) (rowed L m) (word L (at_announcement w)) (announcement_place L w)
      (omega (arith, announced_there L w)) (announcement_inside w h)
      ∙ ap (λ k. get_or (announced L m) k 0) (announced_there L w)
      ∙ get_or-append-add (zeros (L.gap - 2)) (flat_map (spread L) m.announcements) ((1 + L.gap) * w + 0) 0
      ∙ blocks_read (spread L) (1 + L.gap) (spread_words L) m.announcements w 0 None (omega arith)
      (omega (arith, fits.announcements, h))
  field_read (at_key s) h = node_read s 0 _ h (lit< tt) (omega arith)
  field_read (at_edge s Left) h = node_read s 1 _ h (lit< tt) refl
  field_read (at_edge s Right) h = node_read s 2 _ h (lit< tt) refl
  field_read (at_birth s) h = node_read s 3 _ h (lit< tt) refl
  field_read (at_row r) h = row_read r h

-- ---- bits

-- the i-th bit of a row is the slot's
pub bit_of : (m : Memory) (r i : ℕ) → i < 64 → bit_and (row_word m r) (2 ^ i)
    ≡ cond (in_pool m (64 * r + 1 + i)) (2 ^ i) 0
bit_of m r i below = told (take 64 (drop (64 * r + 1) m.pool)) i
    ∙ ap (λ b. cond b (2 ^ i) 0) (get_or-take 64 (drop (64 * r + 1) m.pool) i false below
    ∙ get_or-drop (64 * r + 1) m.pool i false)

-- where a slot stands in its row
pub in_row : (s : ℕ) → 1 ≤ s → 64 * ((s - 1) / 64) + 1 + (s - 1) % 64 ≡ s
in_row s h = omega (arith, h)

pub each_field_has_a_word : EachFieldHasAWord
each_field_has_a_word = all_words

pub each_word_is_its_field : EachWordIsItsField
each_word_is_its_field L m f fits h = field_read L m fits f h

pub each_bit_is_its_slot : EachBitIsItsSlot
each_bit_is_its_slot L m s fits h =
    ap (λ n. bit_and n (2 ^ ((s - 1) % 64))) (row_read L m fits ((s - 1) / 64) (omega (arith, h.0, h.1)))
    ∙ bit_of m ((s - 1) / 64) ((s - 1) % 64) (omega arith)
    ∙ ap (λ k. cond (in_pool m k) (2 ^ ((s - 1) % 64)) 0) (in_row s h.0)

pub spare_bits_are_zero : SpareBitsAreZero
spare_bits_are_zero L m r i fits inside below spare =
    ap (λ n. bit_and n (2 ^ i)) (row_read L m fits r inside) ∙ bit_of m r i below
    ∙ ap (λ b. cond b (2 ^ i) 0) (get_or_past m.pool (64 * r + 1 + i) false (omega (arith, fits.pool, spare)))
