-- What a contract sees of a `BlockQueue`, and the invariant of its fields.
use Rattle.std.specs.Prelude.{◌≡◌, ℕ, ◌+◌, ◌-◌, ◌*◌, ◌/◌, ◌^◌, ◌<◌, ◌≤◌, ◌==◌, List, ◌∷◌, ◌++◌, map, length, replicate, Option, Some, None, refl, if◌then◌else◌}
use Rattle.std.specs.Coded.{Coded, code_by, coded×, coded_list, coded_ℕ}
use Rattle.circular_buffer.specs.Places.{somes}
use Rattle.nm_limbo.specs.List.{BlockList}

-- the items from the front to the back, the number of spare places, and the number of blocks of 32
-- places each
pub record BlockQueue (X : Type 0) : Type 0 where
  pub items : List X
  pub spare : ℕ
  pub blocks : ℕ

module _ {X : Type 0} where
  abbrev pub block_queue : List X → ℕ → ℕ → BlockQueue X
  block_queue xs s n = record { items = xs; spare = s; blocks = n }

  abbrev pub block_queue_code : Coded X → Coded (BlockQueue X)
  block_queue_code c = code_by (List X × (ℕ × ℕ)) (coded× (coded_list c) (coded× coded_ℕ coded_ℕ))
      (λ q. (q.items, (q.spare, q.blocks))) (λ p. block_queue p.0 p.1.0 p.1.1) (λ _. refl)

  -- the used-up places of the front block: those that are neither an item's nor spare
  abbrev pub popped : BlockQueue X → ℕ
  popped q = 32 * q.blocks - (length q.items + q.spare)

  -- each place is used up, an item's or spare, and at most 31 are used up
  abbrev pub IsBalanced : BlockQueue X → Type 0
  IsBalanced q = (32 * q.blocks ≡ popped q + length q.items + q.spare) × (popped q ≤ 31)

  -- r is q with more blocks
  abbrev pub IsGrown : BlockQueue X → BlockQueue X → Type 0
  IsGrown q r = (r.items ≡ q.items) × (q.blocks ≤ r.blocks)
      × (r.spare ≡ q.spare + 32 * (r.blocks - q.blocks))

  -- r has n spare places, with the fewest blocks added to those of q
  abbrev pub HasLeast : BlockQueue X → BlockQueue X → ℕ → Type 0
  HasLeast q r n = (n ≤ r.spare) × ((m : ℕ) → n ≤ q.spare + 32 * m → r.blocks ≤ q.blocks + m)

  -- r is q without its first item x. If x had the last place of the front block, the block's places
  -- are spare again
  abbrev pub IsPopped : BlockQueue X → BlockQueue X → X → Type 0
  IsPopped q r x = (q.items ≡ x ∷ r.items) × (r.blocks ≡ q.blocks)
      × (r.spare ≡ q.spare + (if popped q == 31 then 32 else 0))

  -- the number of whole blocks in the spare places, apart from n of these places
  abbrev pub blocks_beyond : ℕ → BlockQueue X → ℕ
  blocks_beyond n q = (q.spare - n) / 32

  -- q without these blocks
  abbrev pub shrunk : ℕ → BlockQueue X → BlockQueue X
  shrunk n q = block_queue q.items (q.spare - 32 * blocks_beyond n q) (q.blocks - blocks_beyond n q)

  -- the places of used-up items, then those of the items, and then empty ones
  abbrev pub laid : ℕ → List X → ℕ → List (Option X)
  laid p xs r = replicate p None ++ (map Some xs ++ replicate r None)

module _ {X A : Type 0} where
  -- the items in the blocks in use, and the number of places there that are neither the p used-up
  -- ones nor those of the n items
  abbrev pub items_in : BlockList X A → List X
  items_in used = somes used.slots

  abbrev pub left_in : BlockList X A → ℕ → ℕ → ℕ
  left_in used p n = length used.slots - (p + n)

  -- the queue in the blocks in use and the empty ones after them. The first p places are used up,
  -- and the next n are the items'
  abbrev pub block_queue_of : BlockList X A → BlockList X A → ℕ → ℕ → BlockQueue X
  block_queue_of used empty p n = block_queue (items_in used) (left_in used p n + length empty.slots)
      (used.blocks + empty.blocks)

  -- the blocks in use have p used-up places, the items xs and s empty places, and every place of
  -- the other blocks is empty
  pub record IsLaid (used empty : BlockList X A) (p : ℕ) (xs : List X) (s : ℕ)
      (a : A) : Type 0 where
    pub alloc : (used.alloc ≡ a) × (empty.alloc ≡ a)
    pub places : (length used.slots ≡ 32 * used.blocks) × (length empty.slots ≡ 32 * empty.blocks)
    pub small : used.blocks + empty.blocks < 2 ^ 26
    pub front : p ≤ 31
    pub back : s ≤ 32
    pub whole : length used.slots ≡ p + length xs + s
    pub laid_out : used.slots ≡ laid p xs s
    pub free : empty.slots ≡ replicate (length empty.slots) None

  -- the invariant of the fields of a queue: it is laid out in its blocks in this way, and the last
  -- block in use has a place that is an item's or used up
  abbrev pub IsQueue : BlockList X A → BlockList X A → ℕ → ℕ → A → Type 0
  IsQueue used empty p n a = ((n ≡ length (items_in used)) × (left_in used p n ≤ 31))
      × IsLaid used empty p (items_in used) (left_in used p n) a
