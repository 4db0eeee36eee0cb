-- What a contract sees of a `BlockList`, and the invariant of its fields.
use Rattle.std.specs.Prelude.{◌≡◌, ℕ, ◌*◌, ◌<◌, List, length, Option, refl}
use Rattle.std.specs.Coded.{Coded, code_by, coded×, coded_list, coded_option, coded_ℕ}
use denote.RawPtr.{Ptr}
use Rattle.nm_limbo.specs.Blocks.{first_block_of, IsLast}

-- the places of the blocks in order, the number of the blocks, and the allocator to which they are
-- given back
pub record BlockList (X A : Type 0) : Type 0 where
  pub slots : List (Option X)
  pub blocks : ℕ
  pub alloc : A

module _ {X A : Type 0} where
  abbrev pub block_list : List (Option X) → ℕ → A → BlockList X A
  block_list cs n a = record { slots = cs; blocks = n; alloc = a }

  abbrev pub block_list_code : Coded X → Coded A → Coded (BlockList X A)
  block_list_code c d =
      code_by (List (Option X) × (ℕ × A)) (coded× (coded_list (coded_option c)) (coded× coded_ℕ d))
      (λ l. (l.slots, (l.blocks, l.alloc))) (λ p. block_list p.0 p.1.0 p.1.1) (λ _. refl)

-- a deed to the block at p, which is given back to a
abbrev pub IsDeedTo : {A : Type 0} → Ptr → A → Ptr → A → Type 0
IsDeedTo at by p a = (at ≡ p) × (by ≡ a)

-- n blocks of 32 places each, the first at f and the last at l
pub record IsLinked {X : Type 0} (ps : List Ptr) (cs : List (Option X)) (f l : Ptr)
    (n : ℕ) : Type 0 where
  pub count : n ≡ length ps
  pub places : length cs ≡ 32 * length ps
  pub first : f ≡ first_block_of ps
  pub last : 0 < length ps → IsLast ps l
