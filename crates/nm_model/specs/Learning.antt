-- How an event with its reply changes what a worker knows. Only its own events do, and joins in
-- which it takes part.
use Rattle.std.specs.Prelude.{ℕ, ◌==◌, Bool, true, false, List, [], ◌∷◌, length, replicate, slice_set, if◌then◌else◌, Option, Some, None, unwrap_or}
use Rattle.nm_edge.specs.Edges.{Edge, tagged}
use Rattle.nm_edge.specs.declared.edge.Side.{Side}
use Rattle.nm_edge.specs.declared.edge.Side.TheVariants.{Left, Right}
use Rattle.nm_edge.specs.declared.node.NodeId.{NodeId}
use Rattle.nm_model.specs.declared.event.Field.{Field}
use Rattle.nm_model.specs.declared.event.Field.TheVariants.{Key, Edge as EdgeOn, Birth}
use Rattle.nm_model.specs.declared.event.Event.{Event}
use Rattle.nm_model.specs.declared.event.Event.TheVariants.{Sight, SightFor, Announce, Leave, LeaveWith, Scan, Advance, Claim, Give, Look, Fill, Link, Flag, Tag, Splice, Swap, Join}
use Rattle.nm_model.specs.declared.reply.Reply.{Reply}
use Rattle.nm_model.specs.declared.reply.Reply.TheVariants.{Saw, Labelled, Pinned, Missed, Announced, Departed, Idle, In, Moved, Behind, Claimed, Returned, Freed, BirthIs, EdgeIs, Filled, Linked, Flagged, Was, Cut, Lost, Joined}
use Rattle.nm_model.specs.declared.knowledge.Seen.{Seen}
use Rattle.nm_model.specs.declared.knowledge.Draft.{Draft}
use Rattle.nm_model.specs.Maps.{put, without, has, is_number}
use Rattle.nm_model.specs.declared.ledger.Ledger.{Ledger}
use Rattle.nm_model.specs.Ledgers.{retire, label, free, taken_over}
use Rattle.nm_model.specs.Knowledge.{Knowledge, unread, unfilled, is_private, seen_of, draft_of, beside}

-- no worker counts as scanned
abbrev pub forgotten : List Bool → List Bool
forgotten marks = replicate (length marks) false

-- the epoch was read; scans at another epoch are forgotten
abbrev pub saw : Knowledge → ℕ → Knowledge
saw k e = record k {
  brief = record k.brief { seen = Some e };
  scanned = if is_number k.brief.seen e
      then k.scanned else forgotten k.scanned;
}

-- `labelling`, `pinned`: the entries without a label get this one; the worker is pinned, and knows
-- slots 1 and 2
abbrev pub labelling : Knowledge → ℕ → Knowledge
labelling k e = record k {
  brief = record k.brief { unlabelled = false };
  ledgers = label e k.ledgers;
}

-- slots 1 and 2 are known
abbrev pub rooted : List (ℕ × Seen)
rooted = (1, unread) ∷ (2, unread) ∷ []

abbrev pub pinned : Knowledge → ℕ → Knowledge
pinned k e = record k { brief = record k.brief { pin = Some e }; known = rooted }

-- what a worker learns by a sight (epoch read), by its answer
abbrev pub learn_sight : Knowledge → Reply → Knowledge
learn_sight k (Saw e) = saw k e
learn_sight k (Labelled e) = labelling (saw k e) e
learn_sight k (Pinned e) = pinned (saw k e) e
learn_sight k (Missed e) = saw k e
learn_sight k _ = k

-- the announcement was cleared; all known nodes are forgotten
abbrev pub departed : Knowledge → Knowledge
departed k = record k { brief = record k.brief { announcement = None; pin = None }; known = [] }

-- `scanned`, `moved`: a worker was scanned, and counts as scanned or not; the epoch was advanced,
-- and the scans are forgotten
abbrev pub scanned : Knowledge → ℕ → Bool → Knowledge
scanned k u counts = record k { scanned = slice_set k.scanned u counts }

-- a worker that is idle, or announces the epoch last read, counts as scanned; any other no longer
-- does
abbrev pub learn_scan : Knowledge → ℕ → Reply → Knowledge
learn_scan k u Idle = scanned k u true
learn_scan k u (In e) = scanned k u (is_number k.brief.seen e)
learn_scan k u _ = k

abbrev pub moved : Knowledge → ℕ → Knowledge
moved k e = record k { brief = record k.brief { seen = Some e }; scanned = forgotten k.scanned }

-- a slot is known from now on, unless it is 0
abbrev pub met : List (ℕ × Seen) → ℕ → List (ℕ × Seen)
met m s = if s == 0 then m else if has m s then m else put m s unread

abbrev pub with_read : Seen → Side → Edge → Seen
with_read n Left e = record n { left = Some e }
with_read n Right e = record n { right = Some e }

-- an edge was read, and the slot to which it leads is known from now on
abbrev pub read_edge : Knowledge → ℕ → Side → Edge → Knowledge
read_edge k s side e = record k
    { known = put (met k.known e.slot) s (with_read (seen_of k s) side e) }

-- `look_known`, `look_private`, `looked`: what a worker learns by a look at a known node, at a
-- private slot, and at either
abbrev pub look_known : Knowledge → ℕ → Field → Reply → Knowledge
look_known k s (EdgeOn side) (EdgeIs e) = read_edge k s side e
look_known k s Birth (BirthIs b) =
    record k { known = put k.known s (record (seen_of k s) { birth = Some b }) }
look_known k s _ _ = k

abbrev pub look_private : Knowledge → ℕ → Field → Reply → Knowledge
look_private k s Birth (BirthIs b) =
    record k { drafts = put k.drafts s (record (draft_of k s) { looked = Some b }) }
look_private k s _ _ = k

abbrev pub looked : Knowledge → ℕ → Field → Reply → Knowledge
looked k s f r = if is_private k s then look_private k s f r else look_known k s f r

-- a field was stored. If it is the birth, the birth that was read before is forgotten
abbrev pub filled_in : Draft → Field → ℕ → Draft
filled_in d Key v = record d { key = Some v }
filled_in d (EdgeOn Left) v = record d { left = Some v }
filled_in d (EdgeOn Right) v = record d { right = Some v }
filled_in d Birth v = record d { looked = None; birth = Some v }

-- the new node and the new leaf are no longer private; the new node is known
abbrev pub linked_in : Knowledge → ℕ → ℕ → Knowledge
linked_in k leaf new = record k {
  known = met k.known new;
  drafts = without (without k.drafts new) (unwrap_or (beside (draft_of k new) leaf) 0);
}

-- the new leaf is no longer private, and is known
abbrev pub swapped_in : Knowledge → ℕ → Knowledge
swapped_in k new = record k { known = met k.known new; drafts = without k.drafts new }

-- the flagged edge to a leaf
abbrev pub flag_to : ℕ → Edge
flag_to leaf = record { slot = leaf; flag = true; tag = false }

-- worker w cut these nodes
abbrev pub cutting : ℕ → Knowledge → List NodeId → Knowledge
cutting w k ns = record k {
  brief = record k.brief { unlabelled = true };
  ledgers = retire k.ledgers w ns;
}

-- the heir of a worker takes over its ledgers, each under its origin
abbrev pub inheriting : Knowledge → List (Option Ledger) → Knowledge
inheriting k ls = record k { ledgers = taken_over k.ledgers ls }

-- a worker that has resigned holds no ledger
abbrev pub resigned : Knowledge → Knowledge
resigned k = record k { ledgers = replicate (length k.ledgers) None; gone = true }

-- what worker w knows after an event with its reply, one line for each case; no other worker learns
-- anything. A join is in the logs of both workers, and both learn of it. By its own number a worker
-- finds whether it is the leaver or the heir
unfoldable pub learn : ℕ → Knowledge → Event → Reply → Knowledge
learn w k Sight r = learn_sight k r
learn w k (SightFor op key) r = learn_sight k r
learn w k Announce (Announced e) = record k { brief = record k.brief { announcement = Some e } }
learn w k Leave Departed = departed k
learn w k (LeaveWith answer) Departed = departed k
learn w k (Scan u) r = learn_scan k u r
learn w k Advance (Moved e) = moved k e
learn w k Advance (Behind e) = moved k e
learn w k (Claim s) (Claimed t) = record k { drafts = put k.drafts s unfilled }
learn w k (Give s) (Returned t) = record k { drafts = without k.drafts s }
learn w k (Give s) (Freed n) = record k { ledgers = free k.ledgers n }
learn w k (Look s f) r = looked k s f r
learn w k (Fill s f v) Filled = record k { drafts = put k.drafts s (filled_in (draft_of k s) f v) }
learn w k (Link p side leaf new) (Linked n) = linked_in k leaf new
learn w k (Link p side leaf new) (Lost e) = read_edge k p side e
learn w k (Flag p side leaf) (Flagged n) = read_edge k p side (flag_to leaf)
learn w k (Flag p side leaf) (Lost e) = read_edge k p side e
learn w k (Tag p side) (Was e) = read_edge k p side (tagged e)
learn w k (Splice a side s p keep) (Cut ns) = cutting w k ns
learn w k (Splice a side s p keep) (Lost e) = read_edge k a side e
learn w k (Swap p side leaf new) (Cut ns) = cutting w (swapped_in k new) ns
learn w k (Swap p side leaf new) (Lost e) = read_edge k p side e
learn w k (Join v) (Joined ls) = if w == v then resigned k else inheriting k ls
learn w k _ _ = k
