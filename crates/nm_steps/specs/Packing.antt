-- A whole memory as its words, one list in the order of the layout, and what each event does to it.
use Rattle.std.specs.Prelude.{◌≡◌, ℕ, ◌+◌, ◌-◌, ◌*◌, ◌/◌, ◌^◌, ◌<◌, ◌≤◌, ◌==◌, ◌⊎◌, Bool, false, true, List, [], ◌∷◌, ◌++◌, map, flat_map, replicate, length, take, drop, if◌then◌else◌, slice_index, slice_set, bit_and, bit_or, Option, Some, None, unwrap_or, All}
use Rattle.std.specs.List.{range_with_len}
use Rattle.nm_edge.specs.Edges.{Edge, IsEdge, word_of}
use Rattle.nm_edge.specs.Layouts.{Layout, dense}
use Rattle.nm_edge.specs.Words.{Field, at_epoch, at_announcement, at_key, at_edge, at_birth, at_row, IsField, IsSlot, rows, word, words, pool_place}
use Rattle.nm_edge.specs.declared.edge.Side.{Side}
use Rattle.nm_model.specs.declared.event.Event.{Event}
use Rattle.nm_model.specs.declared.event.Event.TheVariants.{Sight, SightFor, Announce, Leave, LeaveWith, Scan, Advance, Claim, Give, Look, Fill, Link, Flag, Tag, Splice, Swap, Join}
use Rattle.nm_model.specs.declared.event.Field.{Field as NodeField}
use Rattle.nm_model.specs.declared.event.Field.TheVariants.{Key, Edge as EdgeOn, Birth}
use Rattle.nm_model.specs.declared.memory.Node.{Node}
use Rattle.nm_model.specs.Maps.{is_number}
use Rattle.nm_model.specs.Memory.{Memory, node, edge, announcement, in_pool, put_node, put_edge, opening}
use Rattle.nm_model.specs.Knowledge.{Knowledge, read}
use Rattle.nm_model.specs.Step.{kept, last_number}
use Rattle.nm_model.specs.Runs.{State, of, start, next, after, refused}

-- the memory's lists are as long as the layout says, slot 0 counted
pub record Fits (L : Layout) (m : Memory) : Type 0 where
  pub announcements : length m.announcements ≡ L.workers
  pub nodes : length m.nodes ≡ L.nodes + 1
  pub pool : length m.pool ≡ L.nodes + 1

-- ---- packing

-- the word of an announcement: 0 for an idle worker, else the announced epoch plus 1
abbrev pub announcement_word : Option ℕ → ℕ
announcement_word None = 0
announcement_word (Some e) = e + 1

-- the four words of a node
abbrev pub node_words : Node → List ℕ
node_words n = n.key ∷ word_of n.left ∷ word_of n.right ∷ n.birth ∷ []

-- the number with these bits, the lowest first
abbrev pub number_of : List Bool → ℕ
number_of [] = 0
number_of (b ∷ bs) = number_of bs * 2 + (if b then 1 else 0)

-- the word of a row of the pool: slots 64 * r + 1 to 64 * r + 64, as far as they exist
abbrev pub row_word : Memory → ℕ → ℕ
row_word m r = number_of (take 64 (drop (64 * r + 1) m.pool))

-- all words of a memory in one list. First are the epoch, and zeros if there are gaps. Then there
-- are the announcements, each with its gap of zeros after it. For each slot from 1 on, its key, its
-- two edges and its birth follow. The pool is last, in rows of 64 slots
abbrev pub words_of : Layout → Memory → List ℕ
words_of L m = m.epoch ∷ ((replicate (L.gap - 2) 0
    ++ flat_map (λ o. announcement_word o ∷ replicate L.gap 0) m.announcements)
    ++ (flat_map node_words (drop 1 m.nodes) ++ map (row_word m) (range_with_len 0 (rows L))))

-- the word of one field, by the memory
abbrev pub field_word : Memory → Field → ℕ
field_word m at_epoch = m.epoch
field_word m (at_announcement w) = announcement_word (announcement m w)
field_word m (at_key s) = (node m s).key
field_word m (at_edge s side) = word_of (edge m s side)
field_word m (at_birth s) = (node m s).birth
field_word m (at_row r) = row_word m r

-- ---- reading: laws

-- the word of one field, in the list, at the number that the layout gives the field
abbrev pub word_at : Layout → Memory → Field → ℕ
word_at L m f = slice_index (words_of L m) (word L f)

-- the word of a slot's place in the pool
abbrev pub pool_word_at : Layout → Memory → ℕ → ℕ
pool_word_at L m s = slice_index (words_of L m) (pool_place L s).word

-- the list of a memory has as many words as the layout says
abbrev pub EachFieldHasAWord : Type 0
EachFieldHasAWord = (L : Layout) (m : Memory) → Fits L m → length (words_of L m) ≡ words L

-- the word in the list at the number of a field is the word of that field
abbrev pub EachWordIsItsField : Type 0
EachWordIsItsField = (L : Layout) (m : Memory) (f : Field) → Fits L m → IsField L f
    → word_at L m f ≡ field_word m f

-- a slot's bit is set exactly if the slot is in the pool
abbrev pub EachBitIsItsSlot : Type 0
EachBitIsItsSlot = (L : Layout) (m : Memory) (s : ℕ) → Fits L m → IsSlot L s
    → bit_and (pool_word_at L m s) (pool_place L s).mask
    ≡ (if in_pool m s then (pool_place L s).mask else 0)

-- bits of a row that are no slot's are 0
abbrev pub SpareBitsAreZero : Type 0
SpareBitsAreZero = (L : Layout) (m : Memory) (r i : ℕ) → Fits L m → r < rows L → i < 64
    → L.nodes ≤ 64 * r + i
    → bit_and (word_at L m (at_row r)) (2 ^ i) ≡ 0

-- the memory of a state fits its layout
abbrev pub StateFits : State → Type 0
StateFits s = Fits s.layout s.memory

-- the bits of the five fixed slots are 0
abbrev pub FixedBitsAreZero : State → Type 0
FixedBitsAreZero s = (x : ℕ) → 1 ≤ x → x ≤ 5
    → bit_and (pool_word_at s.layout s.memory x) (pool_place s.layout x).mask ≡ 0

-- ---- writing: laws

-- the words with the word of a field replaced
abbrev pub with_word : Layout → Memory → Field → ℕ → List ℕ
with_word L m f n = slice_set (words_of L m) (word L f) n

-- the words with the word of a slot's place in the pool replaced
abbrev pub with_pool_word : Layout → Memory → ℕ → ℕ → List ℕ
with_pool_word L m s n = slice_set (words_of L m) (pool_place L s).word n

-- `EpochIsOneWord`, `AnnouncementIsOneWord`, `KeyIsOneWord`, `EdgeIsOneWord`, `BirthIsOneWord`: a
-- memory with another epoch, announcement, key, edge or birth has that one word changed, and no
-- other
abbrev pub EpochIsOneWord : Type 0
EpochIsOneWord = (L : Layout) (m : Memory) (e : ℕ)
    → words_of L (record m { epoch = e }) ≡ with_word L m at_epoch e

abbrev pub AnnouncementIsOneWord : Type 0
AnnouncementIsOneWord = (L : Layout) (m : Memory) (w : ℕ) (o : Option ℕ) → Fits L m → w < L.workers
    → words_of L (record m { announcements = slice_set m.announcements w o })
    ≡ with_word L m (at_announcement w) (announcement_word o)

abbrev pub KeyIsOneWord : Type 0
KeyIsOneWord = (L : Layout) (m : Memory) (s key : ℕ) → Fits L m → IsSlot L s
    → words_of L (put_node m s (record (node m s) { key = key })) ≡ with_word L m (at_key s) key

abbrev pub EdgeIsOneWord : Type 0
EdgeIsOneWord = (L : Layout) (m : Memory) (s : ℕ) (side : Side) (e : Edge) → Fits L m → IsSlot L s
    → words_of L (put_edge m s side e) ≡ with_word L m (at_edge s side) (word_of e)

abbrev pub BirthIsOneWord : Type 0
BirthIsOneWord = (L : Layout) (m : Memory) (s birth : ℕ) → Fits L m → IsSlot L s
    → words_of L (put_node m s (record (node m s) { birth = birth }))
    ≡ with_word L m (at_birth s) birth

-- a slot that leaves the pool clears its bit
abbrev pub TakingClearsABit : Type 0
TakingClearsABit = (L : Layout) (m : Memory) (s : ℕ) → Fits L m → IsSlot L s
    → words_of L (record m { pool = slice_set m.pool s false })
    ≡ with_pool_word L m s (bit_and (pool_word_at L m s) (2 ^ 64 - 1 - (pool_place L s).mask))

-- a slot that enters the pool sets its bit
abbrev pub GivingSetsABit : Type 0
GivingSetsABit = (L : Layout) (m : Memory) (s : ℕ) → Fits L m → IsSlot L s
    → words_of L (record m { pool = slice_set m.pool s true })
    ≡ with_pool_word L m s (bit_or (pool_word_at L m s) (pool_place L s).mask)

-- ---- events

-- `field_of`, `row_of`: the field of a slot's word, and its row in the pool
abbrev pub field_of : ℕ → NodeField → Field
field_of s Key = at_key s
field_of s (EdgeOn side) = at_edge s side
field_of s Birth = at_birth s

abbrev pub row_of : ℕ → Field
row_of s = at_row ((s - 1) / 64)

-- the field whose word an event reads or writes. (A join touches none; the epoch is given for it.)
abbrev pub touched_field : ℕ → Event → Field
touched_field w Sight = at_epoch
touched_field w (SightFor op key) = at_epoch
touched_field w Announce = at_announcement w
touched_field w Leave = at_announcement w
touched_field w (LeaveWith answer) = at_announcement w
touched_field w (Scan u) = at_announcement u
touched_field w Advance = at_epoch
touched_field w (Claim s) = row_of s
touched_field w (Give s) = row_of s
touched_field w (Look s f) = field_of s f
touched_field w (Fill s f v) = field_of s f
touched_field w (Link p side leaf new) = at_edge p side
touched_field w (Flag p side leaf) = at_edge p side
touched_field w (Tag p side) = at_edge p side
touched_field w (Splice a side s p keep) = at_edge a side
touched_field w (Swap p side leaf new) = at_edge p side
touched_field w (Join v) = at_epoch

-- the word that a fill stores: a number, or for an edge the unmarked edge to a slot
abbrev pub filling : NodeField → ℕ → ℕ
filling (EdgeOn side) v = 4 * v
filling _ v = v

-- the word that an event leaves, by what its worker knows and the word n that it finds. The event
-- is a store, an exchange if n is four times a slot, or it sets or clears a bit (Fraser, section
-- 5.2.3; Natarajan and Mittal, section 3.2)
abbrev pub left_word : Layout → Knowledge → Event → ℕ → ℕ
left_word L k Announce n = unwrap_or k.brief.seen 0 + 1
left_word L k Leave n = 0
left_word L k (LeaveWith answer) n = 0
left_word L k Advance n = if is_number k.brief.seen n then n + 1 else n
left_word L k (Claim s) n = bit_and n (2 ^ 64 - 1 - (pool_place L s).mask)
left_word L k (Give s) n = bit_or n (pool_place L s).mask
left_word L k (Fill s f v) n = filling f v
left_word L k (Link p side leaf new) n = if n == 4 * leaf then 4 * new else n
left_word L k (Flag p side leaf) n = if n == 4 * leaf then 4 * leaf + 1 else n
left_word L k (Tag p side) n = bit_or n 2
left_word L k (Splice a side s p keep) n = if n == 4 * s then word_of (kept (read k p keep)) else n
left_word L k (Swap p side leaf new) n = if n == 4 * leaf then 4 * new else n
left_word L k _ n = n

-- an allowed event touches only one of the words, and leaves it as `left_word` says
abbrev pub EventsTouchOneWord : State → Type 0
EventsTouchOneWord s = (w : ℕ) (e : Event) → refused s w e ≡ None
    → IsField s.layout (touched_field w e)
    × (words_of s.layout (next s (w, e)).memory
    ≡ with_word s.layout s.memory (touched_field w e)
    (left_word s.layout (of s w) e (word_at s.layout s.memory (touched_field w e))))

-- the two lists are equal, or differ in one element
abbrev pub AtMostOne : List ℕ → List ℕ → Type 0
AtMostOne ns ms = (ms ≡ ns) ⊎ ((i : ℕ) × (n : ℕ) × (i < length ns) × (ms ≡ slice_set ns i n))

-- no turn, including refused ones and joins, changes more than one word
abbrev pub AtMostOneWordChanges : State → Type 0
AtMostOneWordChanges s = (turn : ℕ × Event)
    → AtMostOne (words_of s.layout s.memory) (words_of s.layout (next s turn).memory)

-- ---- sizes

-- the numbers of a memory fit their words: epoch, announcements and births are at most 2^62, and
-- edges lead to slots of the layout
pub record InRange (L : Layout) (m : Memory) : Type 0 where
  pub epoch : m.epoch ≤ last_number
  pub announcements : (w e : ℕ) → announcement m w ≡ Some e → e ≤ last_number
  pub births : (s : ℕ) → (node m s).birth ≤ last_number
  pub edges : (s : ℕ) (side : Side) → (edge m s side).slot ≤ L.nodes

-- if the keys are below 2^64, so is each word
abbrev pub WordsAreBelow : Type 0
WordsAreBelow = (L : Layout) (m : Memory) (f : Field) → Fits L m → InRange L m → L.nodes < 2 ^ 32
    → ((s : ℕ) → (node m s).key < 2 ^ 64)
    → IsField L f → word_at L m f < 2 ^ 64

-- the memory of a state is in range
abbrev pub StateIsInRange : State → Type 0
StateIsInRange s = InRange s.layout s.memory

-- no null edge has a mark, so each edge can be read back from its word (Natarajan and Mittal,
-- section 3.1)
abbrev pub NullEdgesAreUnmarked : State → Type 0
NullEdgesAreUnmarked s = (x : ℕ) (side : Side) → IsEdge (edge s.memory x side)

-- a key that is stored is a word
abbrev pub StoresAWord : Event → Type 0
StoresAWord (Fill s Key v) = v < 2 ^ 64
StoresAWord _ = Unit {0}

-- in every run of events whose stored keys are below 2^64, each word is below 2^64
abbrev pub WordsStayBelow : Type 0
WordsStayBelow = (L : Layout) → 5 ≤ L.nodes → L.nodes < 2 ^ 32 → (turns : List (ℕ × Event))
    → All (λ t. StoresAWord t.1) turns
    → (f : Field) → IsField L f → word_at L (after (start L) turns).memory f < 2 ^ 64

-- ---- an example

-- the last rows of the opening of 135 nodes and 2 workers: slots 6 to 64, 65 to 128 and 129 to 135
-- are in the pool
abbrev pub OpeningOf135 : Type 0
OpeningOf135 = drop 543 (words_of (dense 135 2) (opening (dense 135 2)))
    ≡ (2 ^ 64 - 32) ∷ (2 ^ 64 - 1) ∷ 127 ∷ []
