-- One event of one worker: whether it is refused, its reply, and what it writes.
use Rattle.std.specs.Prelude.{ℕ, ◌+◌, ◌^◌, ◌==◌, nat_lt, nat_le, Bool, true, false, not, ◌&&◌, ◌||◌, List, [], ◌∷◌, map, slice_set, if◌then◌else◌, Option, Some, None, is_some, is_none, unwrap_or}
use Rattle.std.specs.List.{list_all, enumerate_from}
use Rattle.nm_edge.specs.Edges.{Edge, to, is_to, other, tagged, untagged}
use Rattle.nm_edge.specs.Layouts.{Layout}
use Rattle.nm_edge.specs.declared.edge.Side.{Side}
use Rattle.nm_edge.specs.declared.node.NodeId.{NodeId}
use Rattle.nm_model.specs.declared.event.Field.{Field}
use Rattle.nm_model.specs.declared.event.Field.TheVariants.{Key, Edge as EdgeOn, Birth}
use Rattle.nm_model.specs.declared.event.Event.{Event}
use Rattle.nm_model.specs.declared.event.Event.TheVariants.{Sight, SightFor, Announce, Leave, LeaveWith, Scan, Advance, Claim, Give, Look, Fill, Link, Flag, Tag, Splice, Swap, Join}
use Rattle.nm_model.specs.declared.reply.Reply.{Reply}
use Rattle.nm_model.specs.declared.reply.Reply.TheVariants.{Saw, Labelled, Pinned, Missed, Announced, Departed, Idle, In, Moved, Behind, Claimed, Taken, Returned, Freed, KeyIs, BirthIs, EdgeIs, Filled, Linked, Flagged, Was, Cut, Lost, Joined}
use Rattle.nm_model.specs.declared.reply.Refused.{Refused}
use Rattle.nm_model.specs.declared.reply.Refused.TheVariants.{NoWorker, NoSlot, NotPinned, NotHeld, NotPrivate, NotReady, NotFront, TooYoung, NotFrozen, Spent}
use Rattle.nm_model.specs.declared.memory.Node.{Node}
use Rattle.nm_model.specs.declared.ledger.Queued.{Queued}
use Rattle.nm_model.specs.declared.knowledge.Draft.{Draft}
use Rattle.nm_model.specs.Maps.{is_number}
use Rattle.nm_model.specs.Memory.{Memory, node, edge, edge_of, announcement, in_pool, named, put_node, put_edge, with_edge}
use Rattle.nm_model.specs.Ledgers.{front_of, queued_entry}
use Rattle.nm_model.specs.Knowledge.{Knowledge, knows, is_private, draft_of, read, is_flagged, is_tagged, knows_leaf, way, cut_by, beside}
use Rattle.nm_model.specs.Learning.{flag_to}

-- ---- refusals

-- `Check`, `◌refuses◌`: a test, and the reason of the refusal if it fails
pub record Check : Type 0 where
  pub fails : Bool
  pub reason : Refused

infix 70 ◌refuses◌
abbrev pub ◌refuses◌ : Bool → Refused → Check
b refuses r = record { fails = b; reason = r }

-- the reason of the first test that fails
abbrev pub first : List Check → Option Refused
first [] = None
first (c ∷ cs) = if c.fails then Some c.reason else first cs

-- a number that is below low or above high
abbrev pub outside : ℕ → ℕ → ℕ → Bool
outside low high s = nat_lt s low || nat_lt high s

-- the greatest epoch, and the greatest birth
abbrev pub last_number : ℕ
last_number = 2 ^ 62

-- each worker was scanned, except w itself
abbrev pub others_scanned : ℕ → List Bool → Bool
others_scanned w marks = list_all (λ mark. mark.1 || (mark.0 == w)) (enumerate_from 0 marks)

-- the worker is pinned at another epoch than the one that it read last
abbrev pub is_held_back : Option ℕ → Option ℕ → Bool
is_held_back None seen = false
is_held_back (Some e) seen = not (is_number seen e)

abbrev pub has_no_label : Option Queued → Bool
has_no_label None = false
has_no_label (Some e) = is_none e.label

-- its label plus 2 is above the epoch that was read
abbrev pub is_young : Option Queued → Option ℕ → Bool
is_young None seen = false
is_young (Some e) seen = nat_lt (unwrap_or seen 0) (unwrap_or e.label 0 + 2)

abbrev pub is_edge : Field → Bool
is_edge (EdgeOn side) = true
is_edge _ = false

abbrev pub is_birth : Field → Bool
is_birth Birth = true
is_birth _ = false

-- a birth that may not be stored over the word b, or another field that is stored before the birth
abbrev pub is_early : Draft → Field → ℕ → ℕ → Bool
is_early d Birth v b = is_some d.birth || not (v == b + 1)
is_early d _ v b = is_none d.birth

-- a private slot that is filled as a leaf
abbrev pub is_leaf_draft : Knowledge → ℕ → Bool
is_leaf_draft k s = is_private k s
    && (is_some (draft_of k s).key
    && (is_number (draft_of k s).left 0 && is_number (draft_of k s).right 0))

-- filled as an internal node over the leaf
abbrev pub is_fork_over : Draft → ℕ → Bool
is_fork_over d leaf = is_some d.key && (is_number d.left leaf || is_number d.right leaf)

-- a private slot that is filled as an internal node, over the leaf and a private leaf
abbrev pub is_linkable : Knowledge → ℕ → ℕ → Bool
is_linkable k new leaf = is_fork_over (draft_of k new) leaf
    && is_leaf_draft k (unwrap_or (beside (draft_of k new) leaf) 0)

-- a link may be over a slot that is known as a leaf; in a radix tree it may be over any slot but
-- the fixed ones
abbrev pub may_be_over : Layout → Knowledge → ℕ → Bool
may_be_over L k x = knows_leaf k x || (L.radix && nat_le 6 x)

-- the worker knows a chain of tagged edges with flagged twins, from s to p and on by the edge on
-- keep
abbrev pub is_frozen : Layout → Knowledge → ℕ → ℕ → Side → Bool
is_frozen L k s p keep = is_some (way L.nodes k s p)
    && (is_tagged (read k p keep) && is_flagged (read k p (other keep)))

-- the tests of a slot that is given back and is not private
abbrev pub free_checks : Knowledge → ℕ → List Check
free_checks k s =
    is_none (queued_entry k.ledgers s) refuses NotPrivate
    ∷ (is_none k.brief.seen || has_no_label (queued_entry k.ledgers s)) refuses NotReady
    ∷ is_none (front_of k.ledgers s) refuses NotFront
    ∷ is_young (front_of k.ledgers s) k.brief.seen refuses TooYoung ∷ []

-- the least refusal that holds, by the worker's own knowledge and one birth word in memory. (A join
-- depends on what both workers know: see Runs.)
unfoldable pub refusal : Layout → Memory → Knowledge → ℕ → Event → Option Refused
refusal L m k w Sight = None
refusal L m k w (SightFor op key) =
    first ((is_none k.brief.announcement || is_some k.brief.pin) refuses NotReady ∷ [])
refusal L m k w Announce = first
    ((is_none k.brief.seen || is_some k.brief.pin) refuses NotReady ∷ [])
refusal L m k w Leave = first (k.brief.unlabelled refuses NotReady ∷ [])
refusal L m k w (LeaveWith answer) = first (k.brief.unlabelled refuses NotReady ∷ [])
refusal L m k w (Scan u) = first
    (nat_le L.workers u refuses NoWorker ∷ is_none k.brief.seen refuses NotReady ∷ [])
refusal L m k w Advance = first (
    (is_none k.brief.seen || (not (others_scanned w k.scanned)
    || is_held_back k.brief.pin k.brief.seen)) refuses NotReady
    ∷ nat_le last_number (unwrap_or k.brief.seen 0) refuses Spent ∷ [])
refusal L m k w (Claim s) = first (outside 6 L.nodes s refuses NoSlot ∷ [])
refusal L m k w (Give s) = first
    (outside 6 L.nodes s refuses NoSlot ∷ (if is_private k s then [] else free_checks k s))
refusal L m k w (Look s f) = first (
    outside 1 L.nodes s refuses NoSlot
    ∷ (not (is_private k s) && is_none k.brief.pin) refuses NotPinned
    ∷ (not (is_private k s) && not (knows k s)) refuses NotHeld ∷ [])
refusal L m k w (Fill s f v) = first (
    (outside 6 L.nodes s || (is_edge f && nat_lt L.nodes v)) refuses NoSlot
    ∷ not (is_private k s) refuses NotPrivate
    ∷ is_early (draft_of k s) f v (node m s).birth refuses NotReady
    ∷ (is_birth f && ((node m s).birth == last_number)) refuses Spent ∷ [])
refusal L m k w (Link p side leaf new) = first (
    (outside 1 L.nodes p || (outside 1 L.nodes leaf || outside 6 L.nodes new)) refuses NoSlot
    ∷ is_none k.brief.pin refuses NotPinned
    ∷ not (knows k p && (knows k leaf && may_be_over L k leaf)) refuses NotHeld
    ∷ not (is_private k new) refuses NotPrivate
    ∷ not (is_linkable k new leaf) refuses NotReady ∷ [])
refusal L m k w (Flag p side leaf) = first (
    (outside 1 L.nodes p || outside 6 L.nodes leaf) refuses NoSlot
    ∷ is_none k.brief.pin refuses NotPinned
    ∷ not (knows k p && (knows k leaf && knows_leaf k leaf)) refuses NotHeld ∷ [])
refusal L m k w (Tag p side) = first (
    outside 1 L.nodes p refuses NoSlot
    ∷ is_none k.brief.pin refuses NotPinned
    ∷ not (knows k p) refuses NotHeld
    ∷ not (is_flagged (read k p (other side))) refuses NotFrozen ∷ [])
refusal L m k w (Splice a side s p keep) = first (
    (outside 1 L.nodes a || (outside 6 L.nodes s || outside 6 L.nodes p)) refuses NoSlot
    ∷ is_none k.brief.pin refuses NotPinned
    ∷ not (knows k a && knows k s) refuses NotHeld
    ∷ not (is_frozen L k s p keep) refuses NotFrozen ∷ [])
refusal L m k w (Swap p side leaf new) = first (
    (outside 1 L.nodes p || (outside 6 L.nodes leaf || outside 6 L.nodes new)) refuses NoSlot
    ∷ is_none k.brief.pin refuses NotPinned
    ∷ not (knows k p && (knows k leaf && knows_leaf k leaf)) refuses NotHeld
    ∷ not (is_private k new) refuses NotPrivate
    ∷ not (is_leaf_draft k new) refuses NotReady ∷ [])
-- (no join is refused here: join_refusal of Runs refuses joins, by what both workers know)
refusal L m k w (Join v) = None

-- ---- replies

-- the reply to a sight (epoch read) of a worker that is not pinned, by its announcement
abbrev pub sighted : Option ℕ → ℕ → Reply
sighted None e = Saw e
sighted (Some a) e = if a == e then Pinned e else Missed e

-- a worker that announces an epoch and is not pinned becomes pinned if it reads the epoch that it
-- announces; else the attempt has failed (Fraser, section 5.2.3)
abbrev pub confirmed : Option ℕ → Option ℕ → ℕ → Reply
confirmed (Some p) announced e = Saw e
confirmed None announced e = sighted announced e

-- the reply to a sight, including one for an operation and its key (`SightFor`), which is refused
-- if it cannot confirm a pin. (In a plain core `SightFor` is a sight, and a leave with an answer,
-- `LeaveWith`, is a leave.)
abbrev pub reply_sight : Knowledge → ℕ → Reply
reply_sight k e = if k.brief.unlabelled then Labelled e else confirmed k.brief.pin k.brief.announcement e

-- `reply_scan`, `reply_look`: the reply to a scan, by the announcement; the reply to a look, by the
-- node
abbrev pub reply_scan : Option ℕ → Reply
reply_scan None = Idle
reply_scan (Some e) = In e

abbrev pub reply_look : Node → Field → Reply
reply_look n Key = KeyIs n.key
reply_look n (EdgeOn side) = EdgeIs (edge_of n side)
reply_look n Birth = BirthIs n.birth

-- an exchange of an edge is won if the edge is the unmarked one to s
abbrev pub reply_exchange : Edge → ℕ → Reply → Reply
reply_exchange e s won = if is_to e s then won else Lost e

-- the node at a front
abbrev pub node_of : Option Queued → NodeId
node_of None = record { slot = 0; birth = 0 }
node_of (Some e) = e.node

-- the nodes that a won splice cuts, each with its birth word
abbrev pub cut_nodes : Layout → Memory → Knowledge → ℕ → ℕ → Side → List NodeId
cut_nodes L m k s p keep = map (named m) (cut_by k s (unwrap_or (way L.nodes k s p) []) keep)

-- the new node of a link, with the birth that was stored in it
abbrev pub node_linked : Knowledge → ℕ → NodeId
node_linked k new = record { slot = new; birth = unwrap_or (draft_of k new).birth 0 }

-- the reply to an event, by the word that it finds (Fraser, section 5.2.3: pin, advance; Natarajan
-- and Mittal, section 3.2: link, flag, tag, splice)
unfoldable pub reply : Layout → Memory → Knowledge → Event → Reply
reply L m k Sight = reply_sight k m.epoch
reply L m k (SightFor op key) = reply_sight k m.epoch
reply L m k Announce = Announced (unwrap_or k.brief.seen 0)
reply L m k Leave = Departed
reply L m k (LeaveWith answer) = Departed
reply L m k (Scan u) = reply_scan (announcement m u)
reply L m k Advance = if is_number k.brief.seen m.epoch then Moved (m.epoch + 1) else Behind m.epoch
reply L m k (Claim s) = if in_pool m s then Claimed s else Taken
reply L m k (Give s) = if is_private k s then Returned s else Freed (node_of (front_of k.ledgers s))
reply L m k (Look s f) = reply_look (node m s) f
reply L m k (Fill s f v) = Filled
reply L m k (Link p side leaf new) =
    reply_exchange (edge m p side) leaf (Linked (node_linked k new))
reply L m k (Flag p side leaf) = reply_exchange (edge m p side) leaf (Flagged (named m leaf))
reply L m k (Tag p side) = Was (edge m p side)
reply L m k (Splice a side s p keep) =
    reply_exchange (edge m a side) s (Cut (cut_nodes L m k s p keep))
reply L m k (Swap p side leaf new) =
    reply_exchange (edge m p side) leaf (Cut (named m leaf ∷ []))
-- (this row is never used: the reply to a join depends on what its leaver knows, by reply_of of
-- Runs)
reply L m k (Join v) = Joined []

-- ---- writes, of one word at most

-- `filled`, `exchanged`: a node with one field stored; a memory with one edge exchanged, if it is
-- the unmarked one to the slot
abbrev pub filled : Node → Field → ℕ → Node
filled n Key v = record n { key = v }
filled n (EdgeOn side) v = with_edge n side (to v)
filled n Birth v = record n { birth = v }

abbrev pub exchanged : Memory → ℕ → Side → ℕ → Edge → Memory
exchanged m p side s e = if is_to (edge m p side) s then put_edge m p side e else m

-- the edge that a splice leaves: the kept one, without its tag
abbrev pub kept : Option Edge → Edge
kept None = to 0
kept (Some e) = untagged e

-- the one word that an event changes, or none (Fraser, section 5.2.3; Natarajan and Mittal, section
-- 3.2)
unfoldable pub write : Memory → Knowledge → ℕ → Event → Memory
write m k w Sight = m
write m k w (SightFor op key) = m
write m k w Announce = record m { announcements = slice_set m.announcements w (Some (unwrap_or k.brief.seen 0)) }
write m k w Leave = record m { announcements = slice_set m.announcements w None }
write m k w (LeaveWith answer) = record m { announcements = slice_set m.announcements w None }
write m k w (Scan u) = m
write m k w Advance = if is_number k.brief.seen m.epoch then record m { epoch = m.epoch + 1 } else m
write m k w (Claim s) = record m { pool = slice_set m.pool s false }
write m k w (Give s) = record m { pool = slice_set m.pool s true }
write m k w (Look s f) = m
write m k w (Fill s f v) = put_node m s (filled (node m s) f v)
write m k w (Link p side leaf new) = exchanged m p side leaf (to new)
write m k w (Flag p side leaf) = exchanged m p side leaf (flag_to leaf)
write m k w (Tag p side) = put_edge m p side (tagged (edge m p side))
write m k w (Splice a side s p keep) = exchanged m a side s (kept (read k p keep))
write m k w (Swap p side leaf new) = exchanged m p side leaf (to new)
write m k w (Join v) = m
