-- What one worker's log shows of the operation of its pin: the walks for its key, and what it
-- changed.
use Rattle.std.specs.Prelude.{ℕ, ◌==◌, nat_lt, Bool, true, false, ◌&&◌, ◌||◌, List, [], ◌∷◌, ◌++◌, map, if◌then◌else◌, Option, Some, None, is_none}
use Rattle.std.specs.List.{list_any}
use Rattle.nm_edge.specs.declared.edge.Side.{Side}
use Rattle.nm_edge.specs.declared.edge.Side.TheVariants.{Left, Right}
use Rattle.nm_edge.specs.declared.node.NodeId.{NodeId}
use Rattle.nm_model.specs.declared.event.Field.{Field}
use Rattle.nm_model.specs.declared.event.Field.TheVariants.{Key, Edge as EdgeOn}
use Rattle.nm_model.specs.declared.event.Event.{Event}
use Rattle.nm_model.specs.declared.event.Event.TheVariants.{Sight, SightFor, Leave, LeaveWith, Look, Link, Flag, Splice, Swap}
use Rattle.nm_model.specs.declared.reply.Reply.{Reply}
use Rattle.nm_model.specs.declared.reply.Reply.TheVariants.{Pinned, Departed, KeyIs, EdgeIs, Linked, Flagged, Cut}
use Rattle.nm_model.specs.declared.arrivals.Call.{Call}
use Rattle.nm_model.specs.declared.arrivals.Arrival.{Arrival}

-- ---- walks

-- the side of a key at a node with key v: left if the key is less (Natarajan and Mittal, section
-- 3.1)
abbrev pub side_of : ℕ → ℕ → Side
side_of k v = if nat_lt k v then Left else Right

abbrev pub is_side : Side → Side → Bool
is_side Left Left = true
is_side Right Right = true
is_side _ _ = false

-- the walk's key turns to that side at a node with that key
abbrev pub turns : ℕ → Option ℕ → Side → Bool
turns k None side = false
turns k (Some v) side = is_side (side_of k v) side

abbrev pub is_node : NodeId → NodeId → Bool
is_node n m = (n.slot == m.slot) && (n.birth == m.birth)

-- a walk came to the slot by the parent's edge on the side
abbrev pub is_by : ℕ → ℕ → Side → Arrival → Bool
is_by slot parent side a = (a.slot == slot) && ((a.parent == parent) && is_side a.side side)

-- a walk for k goes on from the slot by its edge on the side
abbrev pub goes_on : ℕ → ℕ → Side → Arrival → Bool
goes_on k slot side a = (a.slot == slot) && turns k a.key side

-- each walk begins with the left edge of slot 2
abbrev pub is_first : ℕ → Side → Bool
is_first slot side = (slot == 2) && is_side side Left

-- a walk for the key came to a slot by a parent's edge on a side. Two facts are added later. One is
-- the slot's key, if it was read after the arrival. The other is whether the slot's edge on the
-- key's side was then read as null (Natarajan and Mittal, section 3.2, seek, as facts that stay)
abbrev pub new_arrival : ℕ → ℕ → Side → Arrival
new_arrival slot parent side =
    record { slot = slot; parent = parent; side = side; key = None; ended = false }

-- a walk came to a slot; the same arrival is not entered twice
abbrev pub with_arrival : List Arrival → ℕ → ℕ → Side → List Arrival
with_arrival ws slot parent side =
    if list_any (is_by slot parent side) ws then ws else ws ++ new_arrival slot parent side ∷ []

-- the slot's key was read: each arrival that waits for it gets it
abbrev pub keyed : ℕ → ℕ → Arrival → Arrival
keyed slot v a = if (a.slot == slot) && is_none a.key then record a { key = Some v } else a

-- the slot's edge on the side was read as null: each walk that goes on by it has ended
abbrev pub ended : ℕ → ℕ → Side → Arrival → Arrival
ended k slot side a = if goes_on k slot side a then record a { ended = true } else a

-- an edge was read by walks for k
abbrev pub walk_edge : ℕ → List Arrival → ℕ → Side → ℕ → List Arrival
walk_edge k ws slot side child =
    if child == 0 then map (ended k slot side) ws
    else if is_first slot side || list_any (goes_on k slot side) ws
    then with_arrival ws child slot side
    else ws

-- what a look adds to the walks for k
abbrev pub walked : ℕ → List Arrival → ℕ → Field → Reply → List Arrival
walked k ws slot Key (KeyIs v) = map (keyed slot v) ws
walked k ws slot (EdgeOn side) (EdgeIs e) = walk_edge k ws slot side e.slot
walked k ws slot _ _ = ws

-- ---- a search

-- the call; whether it linked, or swapped; the leaf that it flagged, and whether a splice of its own
-- cut that leaf; the arrivals of its walks, and those of the walks that began after the flag
pub record Search : Type 0 where
  pub call : Option Call
  pub linked : Bool
  pub swapped : Bool
  pub flagged : Option NodeId
  pub cut : Bool
  pub walks : List Arrival
  pub later : List Arrival

-- no pin, or a pin without a call
abbrev pub idle : Search
idle = record {
  call = None;
  linked = false;
  swapped = false;
  flagged = None;
  cut = false;
  walks = [];
  later = [];
}

-- a pin is confirmed for a call, or for none
abbrev pub begun : Search → Option Call → Reply → Search
begun s call (Pinned e) = record {
  call = call;
  linked = false;
  swapped = false;
  flagged = None;
  cut = false;
  walks = [];
  later = [];
}
begun s call _ = s

-- `left`, `look_for`, `linked`, `swapped`, `flagged`, `spliced`: what a leave, a look, a link, a
-- swap, a flag and a splice add to a search
abbrev pub left : Search → Reply → Search
left s Departed = idle
left s _ = s

-- the walks after the flag, if there is one
abbrev pub later_walked : Option NodeId → ℕ → List Arrival → ℕ → Field → Reply → List Arrival
later_walked None k ws slot field r = ws
later_walked (Some n) k ws slot field r = walked k ws slot field r

abbrev pub look_for : Search → Option Call → ℕ → Field → Reply → Search
look_for s None slot field r = s
look_for s (Some c) slot field r =
    record s {
      walks = walked c.key s.walks slot field r;
      later = later_walked s.flagged c.key s.later slot field r;
    }

-- the flagged leaf is one of these nodes
abbrev pub is_flagged_in : Option NodeId → List NodeId → Bool
is_flagged_in None ns = false
is_flagged_in (Some n) ns = list_any (is_node n) ns

abbrev pub linked : Search → Reply → Search
linked s (Linked n) = record s { linked = true }
linked s _ = s

abbrev pub swapped : Search → Reply → Search
swapped s (Cut ns) = record s { swapped = true }
swapped s _ = s

abbrev pub flagged : Search → Reply → Search
flagged s (Flagged n) = record s { flagged = Some n }
flagged s _ = s

abbrev pub spliced : Search → Reply → Search
spliced s (Cut ns) = record s { cut = s.cut || is_flagged_in s.flagged ns }
spliced s _ = s

-- what an event with its reply adds to a search
unfoldable pub searched : Search → Event → Reply → Search
searched s Sight r = begun s None r
searched s (SightFor op key) r = begun s (Some (record { op = op; key = key })) r
searched s Leave r = left s r
searched s (LeaveWith answer) r = left s r
searched s (Look slot field) r = look_for s s.call slot field r
searched s (Link p side leaf new) r = linked s r
searched s (Flag p side leaf) r = flagged s r
searched s (Splice a side x p keep) r = spliced s r
searched s (Swap p side leaf new) r = swapped s r
searched s _ r = s
