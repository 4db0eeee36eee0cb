-- Ordered cores: links and flags only at a place to which a walk of the worker's own call came, and
-- only answers that the worker's own log shows.
use Rattle.std.specs.Prelude.{◌≡◌, ℕ, ◌<◌, ◌==◌, nat_lt, nat_le, Bool, true, false, not, ◌&&◌, ◌||◌, List, [], ◌∷◌, if◌then◌else◌, replicate, filter, map, slice_index_or, slice_set, Option, Some, None, is_some, is_none, option_map, unwrap_or, is_ok, IfSome, Result, All}
use Rattle.std.specs.List.{list_any}
use Rattle.nm_edge.specs.Keys.{IsKey}
use Rattle.nm_edge.specs.Layouts.{Layout, IsLayout}
use Rattle.nm_edge.specs.Ranges.{covers}
use Rattle.nm_edge.specs.declared.edge.Side.{Side}
use Rattle.nm_edge.specs.declared.node.NodeId.{NodeId}
use Rattle.nm_model.specs.declared.event.Op.{Op}
use Rattle.nm_model.specs.declared.event.Op.TheVariants.{Has, Insert, Delete}
use Rattle.nm_model.specs.declared.event.Event.{Event}
use Rattle.nm_model.specs.declared.event.Event.TheVariants.{SightFor, Leave, LeaveWith, Link, Flag, Swap}
use Rattle.nm_model.specs.declared.reply.Reply.{Reply}
use Rattle.nm_model.specs.declared.reply.Refused.{Refused}
use Rattle.nm_model.specs.declared.reply.Refused.TheVariants.{NotOrdered, NoAnswer}
use Rattle.nm_model.specs.declared.trace.Turn.{Turn}
use Rattle.nm_model.specs.declared.knowledge.Draft.{Draft}
use Rattle.nm_model.specs.declared.arrivals.Call.{Call}
use Rattle.nm_model.specs.declared.arrivals.Arrival.{Arrival}
use Rattle.nm_model.specs.Maps.{is_number, or_else}
use Rattle.nm_model.specs.Knowledge.{Knowledge, draft_of, beside, knows_leaf}
use Rattle.nm_model.specs.Step.{first, ◌refuses◌}
use Rattle.nm_model.specs.Runs.{State, of, start, refused, reply_of, applied, answered, after, trace}
use Rattle.nm_model.specs.Walks.{log_of, search_after}
use Rattle.nm_model.specs.Searches.{Search, idle, searched, is_by, is_first, goes_on}

-- ---- what the log shows

-- a walk ended at a leaf with another key than k
abbrev pub ended_beside : ℕ → Arrival → Bool
ended_beside k a = a.ended && not (is_number a.key k)

-- a walk ended at a leaf with key k
abbrev pub ended_at : ℕ → Arrival → Bool
ended_at k a = a.ended && is_number a.key k

-- a walk ended at another slot
abbrev pub ended_elsewhere : ℕ → Arrival → Bool
ended_elsewhere slot a = a.ended && not (a.slot == slot)

-- the leaf that was flagged is cut: by a splice of the same worker, or because a walk that began
-- after the flag ended elsewhere
abbrev pub has_removed : Search → Option NodeId → Bool
has_removed s None = false
has_removed s (Some n) = s.cut || list_any (ended_elsewhere n.slot) s.later

-- the log shows the answer of an operation on k
abbrev pub shows : Search → Op → ℕ → Bool → Bool
shows s Has k true = list_any (ended_at k) s.walks
shows s Has k false = list_any (ended_beside k) s.walks
shows s Insert k true = s.linked
shows s Insert k false = list_any (ended_at k) s.walks && not s.linked
shows s Delete k true = has_removed s s.flagged
shows s Delete k false = list_any (ended_beside k) s.walks && is_none s.flagged

abbrev pub shows_call : Search → Option Call → Bool → Bool
shows_call s None answer = false
shows_call s (Some c) answer = shows s c.op c.key answer

-- ---- links and flags in order

-- an internal node over a leaf with key v and a new leaf with key k: it has the greater key, and
-- the lesser leaf is on the left (Natarajan and Mittal, section 3.1)
abbrev pub is_fork_for : Draft → ℕ → ℕ → ℕ → Bool
is_fork_for d leaf k v = if nat_lt k v then is_number d.key v && is_number d.right leaf
    else is_number d.key k && is_number d.left leaf

abbrev pub forks_over : Draft → ℕ → ℕ → Option ℕ → Bool
forks_over d leaf k None = false
forks_over d leaf k (Some v) = not (v == k) && is_fork_for d leaf k v

-- a walk ended at the leaf by that edge, and the new nodes put k beside it
abbrev pub may_link_at : Draft → ℕ → ℕ → Side → ℕ → Arrival → Bool
may_link_at d key p side leaf a = is_by leaf p side a && (a.ended && forks_over d leaf key a.key)

-- `is_covered`, `narrows`: in a radix tree, a key is in the range of a node whose key was read; a
-- walk for the key goes on from the slot by its edge on the side, within the slot's range
abbrev pub is_covered : ℕ → Option ℕ → Bool
is_covered k None = false
is_covered k (Some v) = covers v k

abbrev pub narrows : ℕ → ℕ → Side → Arrival → Bool
narrows k slot side a = goes_on k slot side a && is_covered k a.key

-- a router that has k in one half of its range and r in the other, over a slot on the side of r
abbrev pub parts : Draft → ℕ → ℕ → ℕ → Option ℕ → Bool
parts d slot k r None = false
parts d slot k r (Some R) = (covers R k && covers R r)
    && (if nat_lt k R then nat_le R r && is_number d.right slot else nat_lt r R && is_number d.left slot)

-- the new node parts k from a slot with key r: a leaf with another key, or a slot whose range does
-- not have k
abbrev pub parts_from : Draft → ℕ → ℕ → Bool → Option ℕ → Bool
parts_from d slot k leafy None = false
parts_from d slot k leafy (Some r) =
    (not (r == k) && (leafy || not (covers r k))) && parts d slot k r d.key

-- a walk came to the slot by that edge, and the new nodes put k beside it; the slot is known as a
-- leaf or not
abbrev pub may_link_between : Draft → Bool → ℕ → ℕ → Side → ℕ → Arrival → Bool
may_link_between d leafy key p side slot a =
    is_by slot p side a && parts_from d slot key leafy a.key

-- a walk of the call came to the place of its link. In a radix tree this is any slot, reached by
-- the root's edge or by the edge of a node whose range has the key
abbrev pub shows_place : Layout → Knowledge → ℕ → ℕ → Side → ℕ → ℕ → List Arrival → Bool
shows_place L k key p side x new ws =
    if L.radix then (is_first p side || list_any (narrows key p side) ws)
    && list_any (may_link_between (draft_of k new) (knows_leaf k x) key p side x) ws
    else list_any (may_link_at (draft_of k new) key p side x) ws

-- the new leaf: of the two nodes under the new internal node, the one beside the leaf
abbrev pub new_leaf : Knowledge → ℕ → ℕ → Draft
new_leaf k leaf new = draft_of k (unwrap_or (beside (draft_of k new) leaf) 0)

-- a call to insert has put its leaf in, by a link or by a swap
abbrev pub has_put_in : Search → Bool
has_put_in s = s.linked || s.swapped

-- a call to insert may make this link: it has put no leaf in yet, the new leaf has its key, and a
-- walk of it shows the place
abbrev pub inserts : Layout → Knowledge → Search → Op → ℕ → ℕ → Side → ℕ → ℕ → Bool
inserts L k s Insert key p side leaf new =
    not (has_put_in s) && (is_number (new_leaf k leaf new).key key
    && shows_place L k key p side leaf new s.walks)
inserts L k s _ key p side leaf new = false

-- a walk ended by that edge at the leaf, which has key k
abbrev pub may_flag_at : ℕ → ℕ → Side → ℕ → Arrival → Bool
may_flag_at key p side leaf a = is_by leaf p side a && ended_at key a

-- a call to delete may flag this leaf: it has flagged none yet, and a walk of it ended there
abbrev pub deletes : Search → Op → ℕ → ℕ → Side → ℕ → Bool
deletes s Delete key p side leaf =
    is_none s.flagged && list_any (may_flag_at key p side leaf) s.walks
deletes s _ key p side leaf = false

-- a call to insert may make this swap: it has put no leaf in yet, and a walk of it ended at the old
-- leaf, which has the key of the new one
abbrev pub swaps : Knowledge → Search → Op → ℕ → ℕ → Side → ℕ → ℕ → Bool
swaps k s Insert key p side leaf new =
    not (has_put_in s) && (is_number (draft_of k new).key key
    && list_any (may_flag_at key p side leaf) s.walks)
swaps k s _ key p side leaf new = false

-- `links_in_order`, `flags_in_order`, `swaps_in_order`: the log shows that the link, the flag, or the
-- swap belongs to the call
abbrev pub links_in_order : Layout → Knowledge → Search → Option Call → ℕ → Side → ℕ → ℕ → Bool
links_in_order L k s None p side leaf new = false
links_in_order L k s (Some c) p side leaf new = inserts L k s c.op c.key p side leaf new

abbrev pub flags_in_order : Search → Option Call → ℕ → Side → ℕ → Bool
flags_in_order s None p side leaf = false
flags_in_order s (Some c) p side leaf = deletes s c.op c.key p side leaf

abbrev pub swaps_in_order : Knowledge → Search → Option Call → ℕ → Side → ℕ → ℕ → Bool
swaps_in_order k s None p side leaf new = false
swaps_in_order k s (Some c) p side leaf new = swaps k s c.op c.key p side leaf new

-- why an ordered core refuses an event that a plain core allows, if it does, by the worker's own
-- knowledge and log. A link, a flag or a swap must be at a place to which a walk of the worker's own
-- operation came. A leave must have the answer that the log shows, and after a link, a flag or a
-- swap it must have one (from Natarajan and Mittal, section 3.2)
abbrev pub disorder : Layout → Knowledge → Search → Event → Option Refused
disorder L k s (Link p side leaf new) =
    first (not (links_in_order L k s s.call p side leaf new) refuses NotOrdered ∷ [])
disorder L k s (Flag p side leaf) =
    first (not (flags_in_order s s.call p side leaf) refuses NotOrdered ∷ [])
disorder L k s (Swap p side leaf new) =
    first (not (swaps_in_order k s s.call p side leaf new) refuses NotOrdered ∷ [])
disorder L k s (LeaveWith answer) = first (not (shows_call s s.call answer) refuses NoAnswer ∷ [])
disorder L k s Leave = first ((has_put_in s || is_some s.flagged) refuses NoAnswer ∷ [])
disorder L k s _ = None

-- ---- configurations of a core

-- a state, and in an ordered core what each worker's log shows of its call
pub record Configuration : Type 0 where
  pub state : State
  pub searches : Option (List Search)

-- the opening of a plain core
abbrev pub plain : Layout → Configuration
plain L = record { state = start L; searches = None }

-- the opening of an ordered core
abbrev pub ordered : Layout → Configuration
ordered L = record { state = start L; searches = Some (replicate L.workers idle) }

-- the search of a worker
abbrev pub search_of : List Search → ℕ → Search
search_of ss w = slice_index_or ss w idle

-- `disorder_among`, `disorder_in`: why an ordered core refuses an event that a plain one allows; a
-- plain core has no such reason
abbrev pub disorder_among : Layout → Option (List Search) → Knowledge → ℕ → Event → Option Refused
disorder_among L None k w e = None
disorder_among L (Some ss) k w e = disorder L k (search_of ss w) e

abbrev pub disorder_in : Configuration → ℕ → Event → Option Refused
disorder_in c w e = disorder_among c.state.layout c.searches (of c.state w) w e

-- the least refusal that holds, if one does; those of a plain core come first
unfoldable pub refused_in : Configuration → ℕ → Event → Option Refused
refused_in c w e = or_else (refused c.state w e) (disorder_in c w e)

-- the searches after an event with its reply
abbrev pub learned_from : List Search → ℕ → Event → Reply → List Search
learned_from ss w e r = slice_set ss w (searched (search_of ss w) e r)

-- the configuration after an event that is allowed
unfoldable pub applied_in : Configuration → ℕ → Event → Configuration
applied_in c w e = record {
  state = applied c.state w e;
  searches = option_map (λ ss. learned_from ss w e (reply_of c.state w e)) c.searches;
}

-- what is refused changes nothing
abbrev pub unless_refused_in : Option Refused → Configuration → Configuration → Configuration
unless_refused_in None c d = d
unless_refused_in (Some r) c d = c

-- the configuration after an event; what is refused changes nothing
unfoldable pub next_in : Configuration → ℕ × Event → Configuration
next_in c t = unless_refused_in (refused_in c t.0 t.1) c (applied_in c t.0 t.1)

-- the reply of an event, or why it is refused
unfoldable pub outcome_in : Configuration → ℕ × Event → Result Reply Refused
outcome_in c t = answered (refused_in c t.0 t.1) (reply_of c.state t.0 t.1)

-- ---- runs

-- the configuration after a list of events
unfoldable pub after_in : Configuration → List (ℕ × Event) → Configuration
after_in c [] = c
after_in c (t ∷ ts) = after_in (next_in c t) ts

-- each event with its outcome
unfoldable pub trace_in : Configuration → List (ℕ × Event) → List Turn
trace_in c [] = []
trace_in c (t ∷ ts) = record { worker = t.0; event = t.1; outcome = outcome_in c t }
    ∷ trace_in (next_in c t) ts

-- the opening of a core for that layout, ordered or not
abbrev pub opening_of : Layout → Bool → Configuration
opening_of L true = ordered L
opening_of L false = plain L

-- calls are for keys of the set
abbrev pub HasKey : Event → Type 0
HasKey (SightFor op k) = IsKey k
HasKey _ = Unit {0}

-- a configuration that is reached from an opening by events whose calls are for keys of the set
pub record IsReached (c : Configuration) : Type 0 where
  pub is_ordered : Bool
  pub fits : IsLayout c.state.layout
  pub events : List (ℕ × Event)
  pub keys : All (λ t. HasKey t.1) events
  pub leads : after_in (opening_of c.state.layout is_ordered) events ≡ c

-- ---- runs of plain cores and of ordered ones

-- a core without searches runs as its state does
abbrev pub PlainRunsAreRuns : Type 0
PlainRunsAreRuns = (s : State) (ts : List (ℕ × Event))
    → (after_in (record { state = s; searches = None }) ts
    ≡ record { state = after s ts; searches = None })
    × (trace_in (record { state = s; searches = None }) ts ≡ trace s ts)

-- the turns that were allowed
abbrev pub accepted : List Turn → List Turn
accepted turns = filter (λ t. is_ok t.outcome) turns

abbrev pub turn_of : Turn → ℕ × Event
turn_of t = (t.worker, t.event)

-- the events that an ordered run allowed lead from state to state as in a plain run, with the same
-- outcomes
abbrev pub IsRunOfAccepted : State → List Turn → State → Type 0
IsRunOfAccepted s turns t = (t ≡ after s (map turn_of (accepted turns)))
    × (trace s (map turn_of (accepted turns)) ≡ accepted turns)

-- an ordered run is a run of the events that it accepted
abbrev pub OrderedRunsAreRuns : Type 0
OrderedRunsAreRuns = (c : Configuration) (ts : List (ℕ × Event))
    → IsRunOfAccepted c.state (trace_in c ts) (after_in c ts).state

-- ---- searches and logs

-- in every run of an ordered core, what it keeps of a worker's call is what that worker's log shows
abbrev pub SearchesTellTheLogs : Type 0
SearchesTellTheLogs = (L : Layout) (ts : List (ℕ × Event)) (w : ℕ) → w < L.workers
    → IfSome (after_in (ordered L) ts).searches
    (λ ss. search_of ss w ≡ search_after idle (log_of w (trace_in (ordered L) ts)))
