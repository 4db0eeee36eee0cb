-- Edges and sides.
use Rattle.std.specs.Prelude.{◌≡◌, ℕ, ◌+◌, ◌*◌, ◌/◌, ◌%◌, ◌^◌, ◌<◌, ◌==◌, nat_lt, nat_le, Bool, false, ◌&&◌, ◌||◌, not, if◌then◌else◌, Option, Some, None, IfSome}
use Rattle.nm_edge.specs.declared.edge.Side.{Side}
use Rattle.nm_edge.specs.declared.edge.Side.TheVariants.{Left, Right}

-- an edge: the slot to which it leads, 0 for none, and its two marks (Natarajan and Mittal, section
-- 3.1)
pub record Edge : Type 0 where
  pub slot : ℕ
  pub flag : Bool
  pub tag : Bool

-- a null edge has no mark (Natarajan and Mittal, section 3.1)
pub record IsEdge (e : Edge) : Type 0 where
  pub flag : e.slot ≡ 0 → e.flag ≡ false
  pub tag : e.slot ≡ 0 → e.tag ≡ false

-- the word of an edge: four times its slot, 2 for its tag and 1 for its flag (slots are used in
-- place of addresses)
abbrev pub word_of : Edge → ℕ
word_of e = 4 * e.slot + (if e.tag then 2 else 0) + (if e.flag then 1 else 0)

-- the unmarked edge to a slot
abbrev pub to : ℕ → Edge
to s = record { slot = s; flag = false; tag = false }

-- it leads to that slot and has no mark: the edge that an exchange expects (Natarajan and Mittal,
-- section 3.2)
abbrev pub is_to : Edge → ℕ → Bool
is_to e s = (e.slot == s) && (not e.flag && not e.tag)

-- `tagged`, `untagged`: the edge with its tag, and without it; a null edge is never marked
-- (Natarajan and Mittal, section 3.2)
abbrev pub tagged : Edge → Edge
tagged e = record { slot = e.slot; flag = e.flag; tag = not (e.slot == 0) }

abbrev pub untagged : Edge → Edge
untagged e = record { slot = e.slot; flag = e.flag; tag = false }

-- the other side
abbrev pub other : Side → Side
other Left = Right
other Right = Left

-- the place of an edge in a tree: this node on this side
pub record EdgePlace : Type 0 where
  pub slot : ℕ
  pub side : Side

-- what a side adds to four times its node's slot
abbrev pub turn : Side → ℕ
turn Left = 0
turn Right = 1

-- the number of a place, the place in a number, and which are numbers of places
abbrev pub number_of : EdgePlace → ℕ
number_of p = 4 * p.slot + turn p.side

abbrev pub place_in : ℕ → EdgePlace
place_in n = record { slot = n / 4; side = if n % 2 == 1 then Right else Left }

abbrev pub is_place : ℕ → Bool
is_place n = nat_lt (n % 4) 2

-- the edge in a word: its slot is the word / 4, its tag and flag are the bits of 2 and 1
abbrev pub edge_in : ℕ → Edge
edge_in w = record { slot = w / 4; flag = w % 2 == 1; tag = w / 2 % 2 == 1 }

-- a word is that of an edge if its slot is below 2^32 and a null edge has no mark: then it is not
-- 1, 2 or 3
abbrev pub is_word : ℕ → Bool
is_word w = nat_lt (w / 4) (2 ^ 32) && ((w == 0) || nat_le 4 w)

-- the edge of a word, if it has one
abbrev pub unpacked : ℕ → Option Edge
unpacked w = if is_word w then Some (edge_in w) else None

-- unpacking the word of an edge gives the edge
abbrev pub UnpackingGivesTheEdge : Type 0
UnpackingGivesTheEdge = (e : Edge) → IsEdge e → e.slot < 2 ^ 32 → unpacked (word_of e) ≡ Some e

-- the edge that a word gives has that word
abbrev pub PackingGivesTheWord : Type 0
PackingGivesTheWord = (w : ℕ) → IfSome (unpacked w) (λ e. word_of e ≡ w)
