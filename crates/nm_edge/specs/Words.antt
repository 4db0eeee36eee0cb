-- The words of a tree: the number of each field's word, and the place of each slot in the pool.
use Rattle.std.specs.Prelude.{◌≡◌, ◌≢◌, ℕ, ◌+◌, ◌-◌, ◌*◌, ◌/◌, ◌%◌, ◌^◌, ◌<◌, ◌≤◌, bit_and, ⊤}
use Rattle.nm_edge.specs.declared.edge.Side.{Side}
use Rattle.nm_edge.specs.declared.edge.Side.TheVariants.{Left, Right}
use Rattle.nm_edge.specs.declared.layout.PoolPlace.{PoolPlace}
use Rattle.nm_edge.specs.Layouts.{Layout}

-- the fields of a tree, one word each: the epoch; each worker's announcement; for each slot its
-- key, two edges and birth; and the rows of the pool, of 64 slots each
pub data Field : Type 0 where
  at_epoch : Field
  at_announcement : ℕ → Field
  at_key : ℕ → Field
  at_edge : ℕ → Side → Field
  at_birth : ℕ → Field
  at_row : ℕ → Field

-- slots are numbered from 1
abbrev pub IsSlot : Layout → ℕ → Type 0
IsSlot L s = (1 ≤ s) × (s ≤ L.nodes)

-- the number of rows of the pool
abbrev pub rows : Layout → ℕ
rows L = (L.nodes + 63) / 64

-- workers are numbered from 0, and so are rows
abbrev pub IsField : Layout → Field → Type 0
IsField L at_epoch = ⊤
IsField L (at_announcement w) = w < L.workers
IsField L (at_key s) = IsSlot L s
IsField L (at_edge s _) = IsSlot L s
IsField L (at_birth s) = IsSlot L s
IsField L (at_row r) = r < rows L

-- the first word after the epoch's and the announcements of this number of workers. With no gap the
-- words are side by side. With a gap of 15, announcements are 16 words apart, which are two cache
-- lines. Two words are assumed before the epoch's own, so that each announcement begins at a
-- multiple of 128 bytes, and so does the first node
abbrev pub behind_announcements : Layout → ℕ → ℕ
behind_announcements L w = 1 + (L.gap - 2) + (1 + L.gap) * w

-- the first word of a slot's four, after the announcements
abbrev pub slot_word : Layout → ℕ → ℕ
slot_word L s = behind_announcements L L.workers + 4 * (s - 1)

-- the first word of the pool
abbrev pub pool_word : Layout → ℕ
pool_word L = behind_announcements L L.workers + 4 * L.nodes

-- the number of a field's word: the epoch, one word for each announcement, four words for each
-- slot, and the pool in rows of 64 slots
abbrev pub word : Layout → Field → ℕ
word L at_epoch = 0
word L (at_announcement w) = behind_announcements L w
word L (at_key s) = slot_word L s
word L (at_edge s Left) = slot_word L s + 1
word L (at_edge s Right) = slot_word L s + 2
word L (at_birth s) = slot_word L s + 3
word L (at_row r) = pool_word L + r

-- the number of words
abbrev pub words : Layout → ℕ
words L = pool_word L + rows L

-- the row of a slot, and its bit there
abbrev pub pool_place : Layout → ℕ → PoolPlace
pool_place L s = record { word = word L (at_row ((s - 1) / 64)); mask = 2 ^ ((s - 1) % 64) }

-- ---- laws

-- no two fields have the same word
abbrev pub FieldsAreApart : Type 0
FieldsAreApart = (L : Layout) (f g : Field) → IsField L f → IsField L g → word L f ≡ word L g
    → f ≡ g

-- the number of each field's word is below the number of words
abbrev pub FieldsAreWithin : Type 0
FieldsAreWithin = (L : Layout) (f : Field) → IsField L f → word L f < words L

-- the word of a slot's place in the pool is a row
abbrev pub PoolPlacesAreRows : Type 0
PoolPlacesAreRows = (L : Layout) (s : ℕ) → IsSlot L s → IsField L (at_row ((s - 1) / 64))

-- two places in the same word share no bit
abbrev pub PoolMasksAreApart : Type 0
PoolMasksAreApart = (L : Layout) (s t : ℕ) → IsSlot L s → IsSlot L t → s ≢ t
    → (pool_place L s).word ≡ (pool_place L t).word
    → bit_and (pool_place L s).mask (pool_place L t).mask ≡ 0

-- no two slots have the same place
abbrev pub PoolPlacesAreApart : Type 0
PoolPlacesAreApart = (L : Layout) (s t : ℕ) → IsSlot L s → IsSlot L t
    → pool_place L s ≡ pool_place L t → s ≡ t
