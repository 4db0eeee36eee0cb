-- The words of the empty tree: zeros, the fixed nodes, and then the pool.
use Rattle.std.proofs.Common.{◌≡◌, ℕ, zero, suc, ◌+◌, ◌-◌, ◌*◌, ◌/◌, ◌<◌, ◌≤◌, Bool, true, false, List, ◌∷◌, ◌++◌, length, take, drop, map, set, flat_map, replicate, refl, sym, ap, ◌∙◌, arith, length-append, length-set, get_or-set_same}
use Rattle.std.specs.Prelude.{None, bit_or, slice_index, slice_index_or, slice_set}
use Rattle.std.specs.List.{range_with_len}
use Rattle.std.proofs.Math.Nat.{mul-zero, mul-suc}
use Rattle.std.proofs.lemmas.List.{drop-replicate, get_or-replicate, get_or_read, length-replicate, replicate-append-replicate, set-set}
use Rattle.std.proofs.lemmas.List.FromFn.{fill_by_all}
use Rattle.nm_edge.specs.Edges.{Edge, word_of, to}
use Rattle.nm_edge.specs.Layouts.{Layout}
use Rattle.nm_edge.specs.Words.{at_key, at_edge, at_row, IsSlot, rows, word, words, pool_place}
use Rattle.nm_edge.proofs.Words.{fields_within, places_are_rows}
use Rattle.nm_edge.specs.declared.edge.Side.TheVariants.{Left, Right}
use Rattle.nm_model.specs.declared.memory.Node.{Node}
use Rattle.nm_model.specs.Memory.{Memory, node, blank, fork, leaf, put_node, put_edge, with_edge, opening, infinity_0, infinity_1, infinity_2}
use Rattle.nm_steps.specs.Packing.{Fits, announcement_word, node_words, number_of, row_word, words_of}
use Rattle.nm_steps.proofs.PackedReads.{announced, each_field_has_a_word}
use Rattle.nm_steps.proofs.PackedWrites.{key_written, edge_written, giving_sets_a_bit}
use Rattle.nm_steps.specs.Openings.{untouched, planted, Plants}

-- the fixed nodes stand, and the slots from 6 on below s are in the pool
abbrev pub given_below : Layout → ℕ → Memory
given_below L s = record (opening L)
    { pool = replicate 6 false ++ (replicate (s - 6) true ++ replicate (L.nodes + 1 - s) false) }

-- ---- zeros

-- announcements of idle workers, with their gaps
announcements_zero : (g n : ℕ) → flat_map (λ o. announcement_word o ∷ replicate g 0) (replicate n None)
    ≡ replicate ((1 + g) * n) 0
announcements_zero g zero = ap (λ k. replicate k 0) (sym (mul-zero (1 + g)))
announcements_zero g (suc n) =
    ap (λ l. 0 ∷ (replicate g 0 ++ l)) (announcements_zero g n)
    ∙ ap (λ l. 0 ∷ l) (replicate-append-replicate g ((1 + g) * n) 0)
    ∙ ap (λ k. replicate k 0) (let e : suc (g + (1 + g) * n) ≡ (1 + g) * suc n = let more = mul-suc (1 + g) n in
    omega (arith, more) in e)

-- and the zeros before them
announced_zero : (L : Layout) → announced L (untouched L) ≡ replicate (L.gap - 2 + (1 + L.gap) * L.workers) 0
announced_zero L = ap (λ l. replicate (L.gap - 2) 0 ++ l) (announcements_zero L.gap L.workers)
    ∙ replicate-append-replicate (L.gap - 2) ((1 + L.gap) * L.workers) 0

-- blank nodes
nodes_zero : (n : ℕ) → flat_map node_words (replicate n blank) ≡ replicate (4 * n) 0
nodes_zero zero = refl
nodes_zero (suc n) = ap (λ l. 0 ∷ 0 ∷ 0 ∷ 0 ∷ l) (nodes_zero n)
    ∙ ap (λ k. replicate k 0) (let e : suc (suc (suc (suc (4 * n)))) ≡ 4 * suc n = omega arith in e)

-- no bit of no slot
bits_zero : (k n : ℕ) → number_of (take k (replicate n false)) ≡ 0
bits_zero zero n = refl
bits_zero (suc k) zero = refl
bits_zero (suc k) (suc n) = ap (λ b. b * 2 + 0) (bits_zero k n)

rows_zero : (f : ℕ → ℕ) (n : ℕ) → ((q : ℕ) → f q ≡ 0) → map f (range_with_len 0 n) ≡ replicate n 0
rows_zero f n all = sym (fill_by_all f (replicate n 0) n 0 (length-replicate n 0)
    (λ k below. get_or-replicate n k 0 0 below ∙ sym (all k)))

pub zeros : (L : Layout) → replicate (words L) 0 ≡ words_of L (untouched L)
zeros L =
    sym (ap (λ n. 0 ∷ n) (ap (λ l. l ++ (flat_map node_words (drop 1 (untouched L).nodes)
    ++ map (row_word (untouched L)) (range_with_len 0 (rows L)))) (announced_zero L)
    ∙ ap (λ l. replicate (L.gap - 2 + (1 + L.gap) * L.workers) 0 ++ l) (
    ap (λ l. flat_map node_words l ++ map (row_word (untouched L)) (range_with_len 0 (rows L)))
    (drop-replicate 1 (L.nodes + 1) blank)
    ∙ (ap (λ l. l ++ map (row_word (untouched L)) (range_with_len 0 (rows L))) (nodes_zero (L.nodes + 1 - 1))
    ∙ (ap (λ l. replicate (4 * (L.nodes + 1 - 1)) 0 ++ l) (rows_zero (row_word (untouched L)) (rows L) row)
    ∙ replicate-append-replicate (4 * (L.nodes + 1 - 1)) (rows L) 0)))
    ∙ replicate-append-replicate (L.gap - 2 + (1 + L.gap) * L.workers) (4 * (L.nodes + 1 - 1) + rows L) 0)
    ∙ ap (λ n. replicate n 0) (let e : suc (L.gap - 2 + (1 + L.gap) * L.workers + (4 * (L.nodes + 1 - 1) + rows L))
    ≡ words L = omega arith in e))
  where
    row : (q : ℕ) → row_word (untouched L) q ≡ 0
    row q = ap (λ l. number_of (take 64 l)) (drop-replicate (64 * q + 1) (L.nodes + 1) false)
        ∙ bits_zero 64 (L.nodes + 1 - (64 * q + 1))

pub untouched_long : (L : Layout) → length (words_of L (untouched L)) ≡ words L
untouched_long L = ap (λ (l : List ℕ). length l) (sym (zeros L)) ∙ length-replicate (words L) 0

-- ---- one node

put_fits : (L : Layout) (m : Memory) (s : ℕ) (x : Node) → Fits L m → Fits L (put_node m s x)
put_fits L m s x fits = record {
  announcements = fits.announcements;
  nodes = length-set m.nodes s x
      ∙ fits.nodes;
  pool = fits.pool;
}

module _ (L : Layout) (m : Memory) (s key left right : ℕ) (fits : Fits L m) (slot : IsSlot L s)
    (birth : (node m s).birth ≡ 0) where
  abbrev first : Node
  first = record (node m s) { key = key }

  abbrev keyed : Memory
  keyed = put_node m s first

  abbrev second : Node
  second = with_edge (node keyed s) Left (to left)

  abbrev lefted : Memory
  lefted = put_edge keyed s Left (to left)

  abbrev third : Node
  third = with_edge (node lefted s) Right (to right)

  keyed_fits : Fits L keyed
  keyed_fits = put_fits L m s first fits

  lefted_fits : Fits L lefted
  lefted_fits = put_fits L keyed s second keyed_fits

  third_is : third ≡ fork key left right
  third_is =
      ap (λ x. with_edge x Right (to right)) (get_or-set_same keyed.nodes s second blank
      (omega (arith, keyed_fits.nodes, slot.1)))
      ∙ (ap (λ x. with_edge (with_edge x Left (to left)) Right (to right))
      (get_or-set_same m.nodes s first blank (omega (arith, fits.nodes, slot.1)))
      ∙ ap (λ b. record { key = key; left = to left; right = to right; birth = b }) birth)

  all_put : put_edge lefted s Right (to right) ≡ put_node m s (fork key left right)
  all_put = ap (λ l. record m { nodes = l }) (ap (λ l. set l s third) (set-set m.nodes s first second)
      ∙ (set-set m.nodes s second third ∙ ap (set m.nodes s) third_is))

  -- a key and two edges are written
  one_planted : slice_set (slice_set (slice_set (words_of L m) (word L (at_key s)) key) (word L (at_edge s Left))
      (word_of (to left))) (word L (at_edge s Right)) (word_of (to right))
      ≡ words_of L (put_node m s (fork key left right))
  one_planted =
      ap (λ ws. slice_set (slice_set ws (word L (at_edge s Left)) (word_of (to left))) (word L (at_edge s Right))
      (word_of (to right))) (sym (key_written L m s key fits slot))
      ∙ (ap (λ ws. slice_set ws (word L (at_edge s Right)) (word_of (to right)))
      (sym (edge_written L keyed s Left (to left) keyed_fits slot))
      ∙ (sym (edge_written L lefted s Right (to right) lefted_fits slot) ∙ ap (words_of L) all_put))

-- the same, with numbers of words and words that are known by equations
pub plants : (L : Layout) (ws : List ℕ) (s key left right at_first at_second at_third one two : ℕ) (l r : Edge)
    → IsSlot L s
    → at_first ≡ word L (at_key s) → at_second ≡ word L (at_edge s Left) → at_third ≡ word L (at_edge s Right)
    → one ≡ word_of l → l ≡ to left → two ≡ word_of r → r ≡ to right
    → Plants L ws (slice_set (slice_set (slice_set ws at_first key) at_second one) at_third two) s (fork key left right)
plants L ws s key left right i j k one two l r slot a b c d e f g m fits is birth =
    ap (λ (n : ℕ). slice_set (slice_set (slice_set ws n key) j one) k two) a
    ∙ (ap (λ (n : ℕ). slice_set (slice_set (slice_set ws (word L (at_key s)) key) n one) k two) b
    ∙ (ap (λ (n : ℕ). slice_set (slice_set (slice_set ws (word L (at_key s)) key) (word L (at_edge s Left)) one) n
    two) c
    ∙ (ap (λ (n : ℕ). slice_set (slice_set (slice_set ws (word L (at_key s)) key) (word L (at_edge s Left)) n)
    (word L (at_edge s Right)) two) (d ∙ ap word_of e)
    ∙ (ap (λ (n : ℕ). slice_set (slice_set (slice_set ws (word L (at_key s)) key) (word L (at_edge s Left))
    (word_of (to left))) (word L (at_edge s Right)) n) (f ∙ ap word_of g)
    ∙ (ap (λ (w : List ℕ). slice_set (slice_set (slice_set w (word L (at_key s)) key) (word L (at_edge s Left))
    (word_of (to left))) (word L (at_edge s Right)) (word_of (to right))) is
    ∙ one_planted L m s key left right fits slot birth)))))

-- ---- the fixed nodes

-- a memory with these five nodes, and no slot in the pool
abbrev with_five : Layout → Node → Node → Node → Node → Node → Memory
with_five L a b c d e = record {
  epoch = 0;
  announcements = replicate L.workers None;
  nodes = blank ∷ a ∷ b ∷ c ∷ d ∷ e ∷ replicate (L.nodes - 5) blank;
  pool = replicate (L.nodes + 1) false;
}

five_fit : (L : Layout) (a b c d e : Node) → 5 ≤ L.nodes → Fits L (with_five L a b c d e)
five_fit L a b c d e h = record {
  announcements = length-replicate L.workers None;
  nodes = omega
      (arith, length-replicate (L.nodes - 5) blank, h);
  pool = length-replicate (L.nodes + 1) false;
}

none_of_five : (L : Layout) → 5 ≤ L.nodes → untouched L ≡ with_five L blank blank blank blank blank
none_of_five L h = ap (λ (l : List Node). record {
  epoch = 0;
  announcements = replicate L.workers None;
  nodes = l;
  pool = replicate (L.nodes + 1) false;
})
    (ap (λ n. replicate n blank) (let e : L.nodes + 1
    ≡ suc (suc (suc (suc (suc (suc (L.nodes - 5)))))) = omega (arith, h) in e))

-- five nodes are put, one after the other
pub five_planted : (L : Layout) (w0 w1 w2 w3 w4 w5 : List ℕ) → 5 ≤ L.nodes → w0 ≡ words_of L (untouched L)
    → Plants L w0 w1 1 (fork infinity_2 2 5) → Plants L w1 w2 2 (fork infinity_1 3 4)
    → Plants L w2 w3 3 (leaf infinity_0) → Plants L w3 w4 4 (leaf infinity_1) → Plants L w4 w5 5 (leaf infinity_2)
    → w5 ≡ words_of L (planted L)
five_planted L w0 w1 w2 w3 w4 w5 h is one two three four five =
    let a = one (with_five L blank blank blank blank blank) (five_fit L blank blank blank blank blank h)
    (is ∙ ap (words_of L) (none_of_five L h)) refl in
    let b = two (with_five L (fork infinity_2 2 5) blank blank blank blank) (five_fit L _ _ _ _ _ h) a refl in
    let c = three (with_five L (fork infinity_2 2 5) (fork infinity_1 3 4) blank blank blank)
    (five_fit L _ _ _ _ _ h) b refl in
    let d = four (with_five L (fork infinity_2 2 5) (fork infinity_1 3 4) (leaf infinity_0) blank blank)
    (five_fit L _ _ _ _ _ h) c refl in
    five (with_five L (fork infinity_2 2 5) (fork infinity_1 3 4) (leaf infinity_0) (leaf infinity_1) blank)
    (five_fit L _ _ _ _ _ h) d refl

-- ---- the pool

given_none : (L : Layout) → 6 ≤ L.nodes → planted L ≡ given_below L 6
given_none L h = ap (λ (l : List Bool). record (opening L) { pool = l })
    (ap (λ n. replicate n false) (let e : L.nodes + 1
    ≡ suc (suc (suc (suc (suc (suc (L.nodes + 1 - 6)))))) = omega (arith, h) in e))

pub pool_begins : (L : Layout) (ws : List ℕ) → 6 ≤ L.nodes → ws ≡ words_of L (planted L)
    → ws ≡ words_of L (given_below L 6)
pool_begins L ws h is = is ∙ ap (words_of L) (given_none L h)

given_fits : (L : Layout) (s : ℕ) → 6 ≤ s → s ≤ L.nodes + 1 → Fits L (given_below L s)
given_fits L s h k = record {
  announcements = length-replicate L.workers None;
  nodes = omega (arith, length-replicate (L.nodes - 5) blank, h, k);
  pool = omega (
    arith,
    length-append (replicate (s - 6) true) (replicate (L.nodes + 1 - s) false),
    length-replicate
        (s - 6) true,
    length-replicate (L.nodes + 1 - s) false,
    h,
    k,
  );
}

pub given_long : (L : Layout) (s : ℕ) → 6 ≤ s → s ≤ L.nodes + 1 → length (words_of L (given_below L s)) ≡ words L
given_long L s h k = each_field_has_a_word L (given_below L s) (given_fits L s h k)

one_more : (a b : ℕ) → set (replicate a true ++ replicate (suc b) false) a true
    ≡ replicate (suc a) true ++ replicate b false
one_more zero b = refl
one_more (suc a) b = ap (λ l. true ∷ l) (one_more a b)

given_next : (L : Layout) (s : ℕ) → 6 ≤ s → s ≤ L.nodes
    → record (given_below L s) { pool = slice_set (given_below L s).pool s true } ≡ given_below L (s + 1)
given_next L s h k = ap (λ (l : List Bool). record (opening L) { pool = l }) (
    ap (λ i. set (given_below L s).pool i true) (let e : s
    ≡ suc (suc (suc (suc (suc (suc (s - 6)))))) = omega (arith, h) in e)
    ∙ ap (λ l. replicate 6 false ++ l) (
    ap (λ n. set (replicate (s - 6) true ++ replicate n false) (s - 6) true)
    (let e : L.nodes + 1 - s ≡ suc (L.nodes - s) = omega (arith, k) in e)
    ∙ (one_more (s - 6) (L.nodes - s)
    ∙ (ap (λ n. replicate n true ++ replicate (L.nodes - s) false)
    (let e : suc (s - 6) ≡ s + 1 - 6 = omega (arith, h) in e)
    ∙ ap (λ n. replicate (s + 1 - 6) true ++ replicate n false)
    (let e : L.nodes - s ≡ L.nodes + 1 - (s + 1) = omega arith in e)))))

pub row_within : (L : Layout) (s at : ℕ) (ws : List ℕ) → 6 ≤ s → s ≤ L.nodes → ws ≡ words_of L (given_below L s)
    → at ≡ (pool_place L s).word → at < length ws
row_within L s at ws h k is place = omega (
  arith,
  place,
  fields_within L (at_row ((s - 1) / 64))
      (places_are_rows L s (omega (arith, h), k)),
  ap (λ (l : List ℕ). length l) is,
  given_long L s h (omega (arith, k)),
)

pub pool_grows : (L : Layout) (s at mask found : ℕ) (ws : List ℕ) → 6 ≤ s → s ≤ L.nodes
    → ws ≡ words_of L (given_below L s)
    → at ≡ (pool_place L s).word → mask ≡ (pool_place L s).mask → found ≡ slice_index_or ws at found
    → slice_set ws at (bit_or found mask) ≡ words_of L (given_below L (s + 1))
pool_grows L s at mask found ws h k is place bit read =
    ap (λ (n : ℕ). slice_set ws at (bit_or n mask)) (get_or_read ws at found (row_within L s at ws h k is place) read 0)
    ∙ (ap (λ (n : ℕ). slice_set ws n (bit_or (slice_index ws n) mask)) place
    ∙ (ap (λ (n : ℕ). slice_set ws (pool_place L s).word (bit_or (slice_index ws (pool_place L s).word) n)) bit
    ∙ (ap (λ (l : List ℕ). slice_set l (pool_place L s).word
    (bit_or (slice_index l (pool_place L s).word) (pool_place L s).mask)) is
    ∙ (sym (giving_sets_a_bit L (given_below L s) s (given_fits L s h (omega (arith, k))) (omega (arith, h), k))
    ∙ ap (words_of L) (given_next L s h k)))))

pub opening_long : (L : Layout) → 6 ≤ L.nodes → length (words_of L (opening L)) ≡ words L
opening_long L h = each_field_has_a_word L (opening L) (record {
  announcements = length-replicate L.workers None;
  nodes = omega (arith, length-replicate (L.nodes - 5) blank, h);
  pool = omega (arith, length-replicate (L.nodes - 5) true, h);
})
