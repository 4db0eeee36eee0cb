-- What one worker knows.
use Rattle.std.specs.Prelude.{ℕ, zero, suc, ◌==◌, Bool, true, false, not, ◌&&◌, ◌||◌, List, [], ◌∷◌, replicate, slice_set, if◌then◌else◌, Option, Some, None, unwrap_or}
use Rattle.nm_edge.specs.Edges.{Edge, other}
use Rattle.nm_edge.specs.Layouts.{Layout}
use Rattle.nm_edge.specs.declared.edge.Side.{Side}
use Rattle.nm_edge.specs.declared.edge.Side.TheVariants.{Left, Right}
use Rattle.nm_model.specs.declared.knowledge.Brief.{Brief}
use Rattle.nm_model.specs.declared.knowledge.Seen.{Seen}
use Rattle.nm_model.specs.declared.knowledge.Draft.{Draft}
use Rattle.nm_model.specs.declared.ledger.Ledger.{Ledger}
use Rattle.nm_model.specs.Ledgers.{fresh_ledger}
use Rattle.nm_model.specs.Maps.{get, has, is_number}

-- what a worker knows. Its brief has the epoch last read, the announcement, the pin, and whether a
-- cut waits for its label. `scanned` says which workers it has scanned at the epoch last read.
-- `known` has the known nodes, with the last word read of each edge and their births. `drafts` has
-- the private slots and what was stored in them. `ledgers` has the ledgers that it holds, by
-- origin, and `gone` says whether it has resigned
pub record Knowledge : Type 0 where
  pub brief : Brief
  pub scanned : List Bool
  pub known : List (ℕ × Seen)
  pub drafts : List (ℕ × Draft)
  pub ledgers : List (Option Ledger)
  pub gone : Bool

-- ---- at first

-- `unread`, `unfilled`: nothing was read of a known node; nothing was stored in a private slot
abbrev pub unread : Seen
unread = record { left = None; right = None; birth = None }

abbrev pub unfilled : Draft
unfilled = record { looked = None; birth = None; key = None; left = None; right = None }

-- worker w, which has done nothing yet, holds only its own ledger
abbrev pub newcomer : Layout → ℕ → Knowledge
newcomer L w = record {
  brief = record { seen = None; announcement = None; pin = None; unlabelled = false };
  scanned = replicate L.workers false;
  known = [];
  drafts = [];
  ledgers = slice_set (replicate L.workers None) w (Some fresh_ledger);
  gone = false;
}

-- ---- reading

-- `knows`, `is_private`: the worker knows the node; the slot is private to the worker
abbrev pub knows : Knowledge → ℕ → Bool
knows k s = has k.known s

abbrev pub is_private : Knowledge → ℕ → Bool
is_private k s = has k.drafts s

-- `seen_of`, `draft_of`: what was read of a known node; what was stored in a private slot
abbrev pub seen_of : Knowledge → ℕ → Seen
seen_of k s = unwrap_or (get k.known s) unread

abbrev pub draft_of : Knowledge → ℕ → Draft
draft_of k s = unwrap_or (get k.drafts s) unfilled

abbrev pub read_on : Seen → Side → Option Edge
read_on n Left = n.left
read_on n Right = n.right

-- the last word read of an edge
abbrev pub read : Knowledge → ℕ → Side → Option Edge
read k s side = read_on (seen_of k s) side

-- `is_null`, `is_flagged`, `is_tagged`, `slot_read`: an edge that was read is null, has its flag,
-- has its tag; the slot to which it leads
abbrev pub is_null : Option Edge → Bool
is_null None = false
is_null (Some e) = e.slot == 0

abbrev pub is_flagged : Option Edge → Bool
is_flagged None = false
is_flagged (Some e) = e.flag

abbrev pub is_tagged : Option Edge → Bool
is_tagged None = false
is_tagged (Some e) = e.tag

abbrev pub slot_read : Option Edge → ℕ
slot_read None = 0
slot_read (Some e) = e.slot

-- a node is known as a leaf once an edge of it was read as null (Natarajan and Mittal, section 3.1)
abbrev pub knows_leaf : Knowledge → ℕ → Bool
knows_leaf k s = is_null (read k s Left) || is_null (read k s Right)

-- of a slot's two filled edges, the one that does not lead to the leaf
abbrev pub beside : Draft → ℕ → Option ℕ
beside d leaf = if is_number d.left leaf then d.right else d.left

-- ---- the way of a splice

-- the way of a splice goes on by an edge that is known as tagged and not flagged, and whose twin is
-- known as flagged. (A flagged edge leads to a leaf, so the way never goes on by one.) (Natarajan
-- and Mittal, section 3.2, cleanup; for whole chains ours)
abbrev pub leads_on : Knowledge → ℕ → Side → Bool
leads_on k s side = is_tagged (read k s side)
    && (is_flagged (read k s (other side)) && not (is_flagged (read k s side)))

-- the side on which the way goes on, if it does
abbrev pub onward : Knowledge → ℕ → Option Side
onward k s = if leads_on k s Left then Some Left else if leads_on k s Right then Some Right
    else None

abbrev pub slot_on : Knowledge → ℕ → Option Side → ℕ
slot_on k s None = 0
slot_on k s (Some side) = slot_read (read k s side)

abbrev pub before_way : Option Side → Option (List Side) → Option (List Side)
before_way (Some side) (Some sides) = Some (side ∷ sides)
before_way (Some side) None = None
before_way None sides = None

-- the sides by which the way goes from s to p, if they are fewer than the given number (Natarajan
-- and Mittal, section 3.2, cleanup; for whole chains ours)
abbrev pub way : ℕ → Knowledge → ℕ → ℕ → Option (List Side)
way zero k s p = None
way (suc fuel) k s p = elim (s == p)
    [ true ↦ Some [] | false ↦ before_way (onward k s) (way fuel k (slot_on k s (onward k s)) p) ]

-- what a splice cuts, from the successor s downwards: the slots of a way, each followed by the
-- flagged leaf beside it. The way leaves its last slot by the edge on keep
abbrev pub cut_by : Knowledge → ℕ → List Side → Side → List ℕ
cut_by k s [] keep = s ∷ slot_read (read k s (other keep)) ∷ []
cut_by k s (side ∷ sides) keep =
    s ∷ slot_read (read k s (other side)) ∷ cut_by k (slot_read (read k s side)) sides keep
