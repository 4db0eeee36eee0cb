-- What a step requires of its worker, and what it does.
use Rattle.std.specs.Prelude.{◌≡◌, ◌≢◌, ◌+◌, ◌≤◌, ◌<◌, IfSome, ℕ, suc, true, false, List, [], ◌∷◌, ◌++◌, length, map, Bool, if◌then◌else◌, unwrap_or, Result, Ok, Err, Option, Some, None, IsSome, All}
use Rattle.atomic_table.specs.Seated.{TableId}
use Rattle.atomic_table.specs.declared.shared.Seat.{Seat}
use Rattle.nm_edge.specs.Edges.{Edge}
use Rattle.nm_edge.specs.declared.edge.Side.{Side}
use Rattle.nm_edge.specs.declared.node.NodeId.{NodeId}
use Rattle.nm_edge.specs.Layouts.{Layout, IsLayout}
use Rattle.nm_edge.specs.Words.{IsField, at_announcement, word, words}
use Rattle.nm_model.specs.declared.event.Event.{Event}
use Rattle.nm_model.specs.declared.event.Event.TheVariants.{Fill, Splice}
use Rattle.nm_model.specs.declared.event.Field.TheVariants.{Birth}
use Rattle.nm_model.specs.declared.reply.Reply.{Reply}
use Rattle.nm_model.specs.declared.reply.Reply.TheVariants.{Saw, Labelled, Pinned, Missed, Moved, Behind, Claimed, Taken, Returned, Freed, Linked, Flagged, Cut, Lost}
use Rattle.nm_model.specs.declared.knowledge.Brief.{Brief}
use Rattle.nm_model.specs.Memory.{Memory, node}
use Rattle.nm_model.specs.Ledgers.{front_of}
use Rattle.nm_model.specs.Knowledge.{Knowledge, draft_of, is_private, way, cut_by}
use Rattle.nm_model.specs.Step.{last_number, refusal, confirmed, node_of, node_linked}
use Rattle.nm_model.specs.Walks.{Entry, search_after}
use Rattle.nm_model.specs.Searches.{idle}
use Rattle.nm_model.specs.Ordered.{disorder, ordered, after_in, trace_in}
use Rattle.nm_order.specs.Intervals.{HasKey}
use Rattle.nm_order.specs.Logs.{part_of, known_by, IsLogOf}
use Rattle.nm_order.specs.OwnBirths.{births_by}
use Rattle.nm_order.specs.Hands.{IsPooled}
use Rattle.nm_steps.specs.Packing.{touched_field, left_word, words_of}
use Rattle.nm_steps.specs.Told.{told, known_as, BirthsAreKnown}
use Rattle.nm_steps.specs.declared.answers.Sighted.{Sighted}
use Rattle.nm_steps.specs.declared.answers.Sighted.TheVariants as seeing
use Rattle.nm_steps.specs.declared.tree_steps.FrozenChain.{FrozenChain}
use Rattle.nm_steps.specs.declared.view.Stored.{Stored}
use Rattle.nm_steps.specs.declared.view.View.{View}
use Rattle.nm_model.specs.declared.trace.Turn.{Turn}
use Rattle.nm_steps.specs.Rules.{held_log, knowledge, known_births, viewing, joined, answered_turn, logged, is_store, stands, once_below, Extends, IsShown, IsFound, LinkHasValue, ExtendsStores, StoredBefore}

-- ---- what a worker's own log allows

-- if the event raises a birth, that birth was looked at
abbrev pub HasLookedAtBirth : Knowledge → Event → Type 0
HasLookedAtBirth k (Fill s Birth v) = IsSome (draft_of k s).looked
HasLookedAtBirth k _ = Unit {0}

-- if the event raises a birth, the birth in this memory is the one that was looked at
abbrev pub IsAsLooked : Knowledge → Memory → Event → Type 0
IsAsLooked k m (Fill s Birth v) = (b : ℕ) → (draft_of k s).looked ≡ Some b → (node m s).birth ≡ b
IsAsLooked k m _ = Unit {0}

-- the worker's own log shows that no ordered core refuses the event, for any memory in which the
-- birth that was looked at is unchanged. The births that its reply names are known, and one that it
-- raises was looked at
pub record May (L : Layout) (w : ℕ) (log : List Entry) (e : Event) : Type 0 where
  pub looked : HasLookedAtBirth (known_by L w log) e
  pub allowed : (m : Memory) → IsAsLooked (known_by L w log) m e
      → refusal L m (known_by L w log) w e ≡ None
  pub ordered : disorder L (known_by L w log) (search_after idle log) e ≡ None
  pub births : BirthsAreKnown L (known_by L w log) (births_by L w log) e
  pub key : HasKey e

-- no private slot and no cut without a label: required of a worker that resigns
pub record HasEmptyHands (k : Knowledge) : Type 0 where
  pub drafts : length k.drafts ≡ 0
  pub labelled : k.brief.unlabelled ≡ false

-- ---- what clauses see of a table and of a pass

-- what clauses see of a tree's words: their table and the layout
pub record TreeView : Type 0 where
  pub table : TableId
  pub layout : Layout

-- what clauses see of a pass: its table, its seat there, and what that seat knows
pub record PassView : Type 0 where
  pub table : TableId
  pub seat : ℕ
  pub view : View

-- ---- one operation on one word

-- the pass of this seat can do this event, by the word i
pub record IsReadyFor (b : TreeView) (it : Seat Unit View) (e : Event) (i : ℕ) : Type 0 where
  pub table : it.table_id ≡ b.table
  pub words : words b.layout ≤ b.table.words
  pub empty : it.me.1 ≡ []
  pub alive : it.me.0.resigned ≡ false
  pub layout : it.me.0.layout ≡ b.layout
  pub within : IsField b.layout (touched_field it.me.0.number e)
  pub word : i ≡ word b.layout (touched_field it.me.0.number e)
  pub stored : LinkHasValue b.table.slots it.me.0 e
  pub may : May b.layout it.me.0.number it.me.0.log e

-- the event is done, with the reply that this word gives
pub record IsDone (it after : Seat Unit View) (e : Event) (n : ℕ) : Type 0 where
  pub table : after.table_id ≡ it.table_id
  pub seat : after.id ≡ it.id
  pub found : IsFound it.me.0.layout it.me.0.number it.me.0.log e n
  pub me : after.me
      ≡ (logged it.me.0 e n (trace_in (ordered it.me.0.layout) found.turns), it.me.1)
  pub past : Extends (trace_in (ordered it.me.0.layout) found.turns) it.me.0.past

-- the operation changes the word exactly as the event does
abbrev pub Changes : Event → View → (ℕ → ℕ) → Type 0
Changes e v f = (n : ℕ) → f n ≡ left_word v.layout (knowledge v) e n

-- a store, whose reply does not depend on the word that it finds
pub record IsBlind (e : Event) (v : View) : Type 0 where
  pub store : is_store e ≡ true
  pub same : (n m : ℕ) → told v.layout (knowledge v) (known_births v) e n
      ≡ told v.layout (knowledge v) (known_births v) e m

-- ---- a pass and its steps

-- the pass is one of this table's
pub record IsOf (b : TreeView) (p : PassView) : Type 0 where
  pub table : p.table ≡ b.table
  pub layout : p.view.layout ≡ b.layout

-- the splice that cuts a frozen chain off
abbrev pub splice_of : FrozenChain → Event
splice_of c = Splice c.ancestor c.side c.successor c.parent c.keep

-- what a pass is allowed
abbrev pub MayStep : PassView → Event → Type 0
MayStep p e = May p.view.layout p.view.number p.view.log e

-- this event with this reply is appended to the log, more has been seen, and nothing else changed
abbrev pub Stepped : PassView → PassView → Event → Reply → Type 0
Stepped p q e r = q ≡ record p
    { view = record p.view { log = p.view.log ++ (e, r) ∷ []; past = q.view.past; stores = q.view.stores } }

-- what has been seen is turns that extend what had been seen before, and the last of them is this
-- event with this reply
pub record HasTurn (p q : PassView) (e : Event) (r : Reply) : Type 0 where
  pub before : List Turn
  pub extends : Extends before p.view.past
  pub is : q.view.past ≡ before ++ answered_turn p.view.number e r ∷ []

-- ---- what a table and a pass keep

-- a log is its worker's part of some run, and the worker has not resigned
pub record IsOfRun (L : Layout) (w : ℕ) (log : List Entry) : Type 0 where
  pub is_part : IsLogOf L w log
  pub here : (known_by L w log).gone ≡ false

-- the pass's log is its worker's part of a run, in a valid layout, and the worker has not resigned:
-- what each step leaves
pub record IsInRun (p : PassView) : Type 0 where
  pub fits : IsLayout p.view.layout
  pub run : IsOfRun p.view.layout p.view.number p.view.log

-- what each step function leaves: the step, as the last turn that has been seen, and a pass that is
-- in a run
pub record TakesStep (p q : PassView) (e : Event) (r : Reply) : Type 0 where
  pub step : Stepped p q e r
  pub past : HasTurn p q e r
  pub run : IsInRun q
  pub stores : q.view.stores ≡ p.view.stores

-- what a view has seen is the turns of an ordered run, its log is its worker's part of them, and
-- the worker has not resigned
pub record HasSeen (v : View) : Type 0 where
  pub worker : v.number < v.layout.workers
  pub events : List (ℕ × Event)
  pub keys : All (λ t. HasKey t.1) events
  pub are : v.past ≡ trace_in (ordered v.layout) events
  pub is_part : part_of v.number v.past ≡ v.log
  pub here : (knowledge v).gone ≡ false

-- what a pass always satisfies: its number and epochs agree with its log, its private slots are
-- ones of the pool's range, and its log is its worker's part of the run that it has seen. At each
-- store of its worker the log had no more entries than now
pub record Tied (it : Seat Unit View) (number announcement : ℕ) (brief : Brief) : Type 0 where
  pub empty : it.me.1 ≡ []
  pub alive : it.me.0.resigned ≡ false
  pub number_is : number ≡ it.me.0.number
  pub announcement_is : announcement ≡ word it.me.0.layout (at_announcement number)
  pub brief_is : brief ≡ (knowledge it.me.0).brief
  pub fits : IsLayout it.me.0.layout
  pub worker : number < it.me.0.layout.workers
  pub small : IfSome brief.seen (λ e. e ≤ last_number)
  pub private : (x : ℕ) → is_private (knowledge it.me.0) x ≡ true → IsPooled it.me.0.layout x
  pub seen : HasSeen it.me.0
  pub heard : it.me.0.heard ≡ []
  pub heard_stores : it.me.0.heard_stores ≡ []
  pub stored : StoredBefore it.me.0.number (length it.me.0.log + 1) it.me.0.stores

-- what a table always satisfies
pub record Laid (z : TableId) (key L : Layout) : Type 0 where
  pub key_is : key ≡ L
  pub words_are : words L ≤ z.words

-- ---- making, joining and closing

-- a worker's view before its first step
abbrev pub fresh_view : Layout → ℕ → View
fresh_view L k = viewing L (held_log k [] ∷ [])

-- passes of workers k and on, which have taken no step
abbrev pub AreFresh : TreeView → ℕ → List PassView → Type 0
AreFresh b k [] = Unit {0}
AreFresh b k (p ∷ ps) = (p.table ≡ b.table) × (p.view ≡ fresh_view b.layout k)
    × AreFresh b (suc k) ps

-- the first pass represents the workers of both, and may have seen more
abbrev pub HasJoined : PassView → PassView → PassView → Type 0
HasJoined p q all = all ≡ record p
    { view = record (joined p.view q.view) { past = all.view.past; stores = all.view.stores } }

-- what a pass has seen extends what another one had seen
pub record HasSeenAllOf (later earlier : PassView) : Type 0 where
  pub goes_on : Extends later.view.past earlier.view.past

-- what clauses see of a note
pub record Notice : Type 0 where
  pub table : TableId
  pub past : List Turn
  pub stores : List Stored

-- a note has what a pass had seen, of turns and of stores
abbrev pub IsNoteOf : PassView → Notice → Type 0
IsNoteOf p note = note ≡ record { table = p.table; past = p.view.past; stores = p.view.stores }

-- a pass that has heard a note may have seen more, and has taken no step
abbrev pub HasHeard : PassView → PassView → Type 0
HasHeard p q = q ≡ record p { view = record p.view { past = q.view.past; stores = q.view.stores } }

-- what clauses see of the words of a tree that is no longer shared: those of the core, and the values
-- of slots 1 and on. A tree without values has none
pub record EndedWords : Type 0 where
  pub core : List ℕ
  pub values : List ℕ

-- some ordered run ends with these words, and extends what the view has seen; the view's logs are
-- parts of it, at most one of each worker
pub record Ends (L : Layout) (words : List ℕ) (view : View) : Type 0 where
  pub fits : IsLayout L
  pub turns : List (ℕ × Event)
  pub keys : All (λ t. HasKey t.1) turns
  pub words_are : words ≡ words_of L (after_in (ordered L) turns).state.memory
  pub shown : IsShown L (trace_in (ordered L) turns) view
  pub once : (w : ℕ) → stands w view ≤ once_below w L.workers
  pub past : Extends (trace_in (ordered L) turns) view.past

-- only the log and what has been seen have changed
abbrev pub IsSamePass : PassView → PassView → Type 0
IsSamePass p q = q ≡ record p { view = record p.view { log = q.view.log; past = q.view.past; stores = q.view.stores } }

-- what one or more steps leave: it is the same pass, has seen all that it had seen, of turns and of
-- stores, and is in a run
pub record Continues (p q : PassView) : Type 0 where
  pub same : IsSamePass p q
  pub past : HasSeenAllOf q p
  pub run : IsInRun q
  pub stores : ExtendsStores q.view.stores p.view.stores

-- ---- replies, from the results of step functions

-- `sight_reply`, `pin_reply`, `advance_reply`, `claim_reply`, `splice_reply`: the reply of an
-- event, from the result of its step function
abbrev pub sight_reply : Sighted → Reply
sight_reply (seeing.Saw e) = Saw e
sight_reply (seeing.Labelled e) = Labelled e
sight_reply (seeing.Pinned e) = Pinned e
sight_reply (seeing.Missed e) = Missed e

abbrev pub pin_reply : Result ℕ ℕ → Reply
pin_reply (Ok e) = Pinned e
pin_reply (Err e) = Missed e

abbrev pub advance_reply : Result ℕ ℕ → Reply
advance_reply (Ok e) = Moved e
advance_reply (Err e) = Behind e

abbrev pub claim_reply : ℕ → Bool → Reply
claim_reply s true = Claimed s
claim_reply s false = Taken

-- the reply of an exchange of an edge, if `won` is that of a won one
abbrev pub exchange_reply : Reply → Result Unit Edge → Reply
exchange_reply won (Ok u) = won
exchange_reply won (Err e) = Lost e

-- the new node, with the birth that was stored
abbrev pub link_reply : View → ℕ → Result Unit Edge → Reply
link_reply v new r = exchange_reply (Linked (node_linked (knowledge v) new)) r

-- the leaf, with the birth that is known
abbrev pub flag_reply : View → ℕ → Result Unit Edge → Reply
flag_reply v leaf r = exchange_reply (Flagged (known_as (known_births v) leaf)) r

-- the nodes of the known chain, each with the birth that is known
abbrev pub nodes_cut : View → ℕ → ℕ → Side → List NodeId
nodes_cut v s p keep = map (known_as (known_births v))
    (cut_by (knowledge v) s (unwrap_or (way v.layout.nodes (knowledge v) s p) []) keep)

abbrev pub splice_reply : View → ℕ → ℕ → Side → Result Unit Edge → Reply
splice_reply v s p keep r = exchange_reply (Cut (nodes_cut v s p keep)) r

-- the old leaf, with the birth that is known
abbrev pub swap_reply : View → ℕ → Result Unit Edge → Reply
swap_reply v leaf r = exchange_reply (Cut (known_as (known_births v) leaf ∷ [])) r

-- the reply of a give: a private slot is returned, and the front of a queue is freed
abbrev pub give_reply : View → ℕ → Reply
give_reply v s = if is_private (knowledge v) s then Returned s
    else Freed (node_of (front_of (knowledge v).ledgers s))

-- ---- what a pass copies from its log

-- a worker's epochs after a sight with this reply
abbrev pub noted_sight : Brief → Reply → Brief
noted_sight b (Saw e) = record b { seen = Some e }
noted_sight b (Labelled e) = record b { seen = Some e; unlabelled = false }
noted_sight b (Pinned e) = record b { seen = Some e; pin = Some e }
noted_sight b (Missed e) = record b { seen = Some e }
noted_sight b _ = b

-- the reply to a sight of this epoch
abbrev pub sight_of : Brief → ℕ → Reply
sight_of b e = if b.unlabelled then Labelled e else confirmed b.pin b.announcement e

-- a possible reply to a sight of a worker with these epochs
abbrev pub IsSight : Brief → Reply → Type 0
IsSight b r = (e : ℕ) × (e ≤ last_number) × (r ≡ sight_of b e)

-- an advance is won if it found the epoch last read, and then it returns the next one; otherwise it
-- found another one
abbrev pub IsAdvanceFrom : Option ℕ → Result ℕ ℕ → Type 0
IsAdvanceFrom seen (Ok e) = (s : ℕ) × (seen ≡ Some s) × (e ≡ s + 1)
IsAdvanceFrom seen (Err e) = (s : ℕ) × (seen ≡ Some s) × (e ≢ s)
