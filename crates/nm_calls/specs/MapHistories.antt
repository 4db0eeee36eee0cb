-- The map is linearizable: a history of the turns of a run is one of a plain map too, by the words,
-- the turns and the stores.
use Rattle.std.specs.Prelude.{◌≡◌, ◌≤◌, ◌<◌, ◌⊎◌, ◌↔◌, ◌==◌, ◌+◌, ℕ, nat_le, Bool, true, false, List, [], ◌∷◌, ◌++◌, length, map, filter, All, AllPairs, Contains, Option, Some, None, Result, Ok, is_none, if◌then◌else◌}
use Rattle.nm_edge.specs.Keys.{IsKey}
use Rattle.nm_edge.specs.Layouts.{Layout, IsLayout}
use Rattle.nm_edge.specs.declared.edge.Side.{Side}
use Rattle.nm_edge.specs.declared.node.NodeId.{NodeId}
use Rattle.nm_model.specs.declared.event.Event.{Event}
use Rattle.nm_model.specs.declared.event.Event.TheVariants.{Swap}
use Rattle.nm_model.specs.declared.event.Op.{Op}
use Rattle.nm_model.specs.declared.event.Op.TheVariants.{Has, Insert, Delete}
use Rattle.nm_model.specs.declared.reply.Refused.{Refused}
use Rattle.nm_model.specs.declared.reply.Reply.{Reply}
use Rattle.nm_model.specs.declared.reply.Reply.TheVariants.{Cut}
use Rattle.nm_model.specs.declared.trace.Turn.{Turn}
use Rattle.nm_model.specs.Acts.{Act}
use Rattle.nm_model.specs.Histories.{AnswerStands, HasHistory, IsHistory, call_begun, called_in}
use Rattle.nm_model.specs.Ordered.{HasKey, ordered, trace_in}
use Rattle.nm_order.specs.Logs.{part_of}
use Rattle.nm_steps.specs.declared.view.Stored.{Stored}
use Rattle.nm_steps.specs.Rules.{Extends, ExtendsStores, IsStored, answered_turn}
use Rattle.nm_walks.specs.WonCounts.{won_flags}
use Rattle.nm_calls.specs.Maps.{HoldsStores, IsInMap, MapGives, WasTaken}

-- an act with its value: the one that a true insert puts, or that the call finds. A put is an insert
-- that is answered false, because the key is there, and leaves a value in place of the one it finds
pub record MapAct : Type 0 where
  pub act : Act
  pub value : ℕ
  pub left : Option ℕ

-- the act is no put
abbrev pub is_plain : MapAct → Bool
is_plain a = is_none a.left

-- a plain map: what it has under each key
abbrev pub PlainMap : Type 0
PlainMap = ℕ → Option ℕ

-- the empty map has no key
abbrev pub no_map : PlainMap
no_map k = None

-- what a plain map has under the key of a call right before it, by its answer and value (Herlihy
-- and Wing, section 2, sequential specification)
abbrev pub found_by : Op → Bool → ℕ → Option ℕ
found_by Has true v = Some v
found_by Has false v = None
found_by Insert true v = None
found_by Insert false v = Some v
found_by Delete true v = Some v
found_by Delete false v = None

-- the map after a call with that answer and value (Herlihy and Wing, legal sequential history)
abbrev pub map_changed : PlainMap → Op → ℕ → Bool → ℕ → PlainMap
map_changed m Has k answer v j = m j
map_changed m Insert k true v j = if j == k then Some v else m j
map_changed m Insert k false v j = m j
map_changed m Delete k true v j = if j == k then None else m j
map_changed m Delete k false v j = m j

-- the map after an act: a put leaves its value under its key
abbrev pub map_left : PlainMap → Option ℕ → Act → ℕ → PlainMap
map_left m (Some new) a v = λ j. if j == a.key then Some new else m j
map_left m None a v = map_changed m a.op a.key a.answer v

abbrev pub map_then : PlainMap → MapAct → PlainMap
map_then m a = map_left m a.left a.act a.value

-- one plain map gives each call its answer and its value, one after the other
abbrev pub GivesEach : PlainMap → List MapAct → Type 0
GivesEach m [] = Unit {0}
GivesEach m (a ∷ acts) = (m a.act.key ≡ found_by a.act.op a.act.answer a.value)
    × GivesEach (map_then m a) acts

-- the map after these calls
abbrev pub map_after : PlainMap → List MapAct → PlainMap
map_after m [] = m
map_after m (a ∷ acts) = map_after (map_then m a) acts

-- the map at a moment: after all calls with no later moment
abbrev pub map_at : List MapAct → ℕ → PlainMap
map_at acts n = map_after no_map (filter (λ (a : MapAct). nat_le a.act.moment n) acts)

-- if the map has the key of an insert right after its moment, it has it with the value of the
-- insert
abbrev pub PutsItsValue : Layout → List Turn → List Stored → MapAct → Type 0
PutsItsValue L turns stores a = a.act.op ≡ Insert → a.act.answer ≡ true
    → (so_far rest : List Turn) → turns ≡ so_far ++ rest → length so_far ≡ a.act.moment
    → (v : ℕ) → IsInMap L so_far stores a.act.key v → a.value ≡ v

-- the turn is a swap that was won
abbrev pub is_won_swap : Event → Result Reply Refused → Bool
is_won_swap (Swap parent side old new) (Ok (Cut nodes)) = true
is_won_swap _ _ = false

-- if the map has the key of a true delete right before its moment, and the turn of this moment is no
-- won swap, the map has the key with the value of the delete
abbrev pub TakesItsValue : Layout → List Turn → List Stored → MapAct → Type 0
TakesItsValue L turns stores a = a.act.op ≡ Delete → a.act.answer ≡ true
    → (so_far rest : List Turn) (t : Turn) → turns ≡ so_far ++ t ∷ rest
    → length so_far + 1 ≡ a.act.moment → is_won_swap t.event t.outcome ≡ false
    → (v : ℕ) → IsInMap L so_far stores a.act.key v → a.value ≡ v

-- the act is the put of this swap, which its call to insert the key has won. Right before the swap the
-- map has the key with the value that the put finds, in the old leaf. Right after it the map has the
-- key with the value that the put leaves, in the new leaf. This is the value that the worker stored for
-- the new leaf after its last step before the swap
pub record IsPutOf (L : Layout) (stores : List Stored) (before : List Turn) (w old new : ℕ)
    (swap : Turn) (a : MapAct) : Type 0 where
  pub worker : a.act.worker ≡ w
  pub moment : a.act.moment ≡ length before + 1
  pub call : call_begun w before ≡ Some (called_in a.act)
  pub op : a.act.op ≡ Insert
  pub answer : a.act.answer ≡ false
  pub found : IsInMap L before stores a.act.key a.value
  pub in_old : found.slot ≡ old
  pub value : ℕ
  pub leaves : a.left ≡ Some value
  pub left : IsInMap L (before ++ swap ∷ []) stores a.act.key value
  pub in_new : left.slot ≡ new
  pub stored : IsStored stores w (length (part_of w before)) new
  pub same : stored.stored.value ≡ value

-- each won swap has its put among these acts
abbrev pub SwapsArePuts : Layout → List Turn → List Stored → List MapAct → Type 0
SwapsArePuts L turns stores valued =
    (before since : List Turn) (w p : ℕ) (side : Side) (old new : ℕ) (ns : List NodeId)
    → turns ≡ before ++ answered_turn w (Swap p side old new) (Cut ns) ∷ since
    → (a : MapAct) × Contains valued a
    × IsPutOf L stores before w old new (answered_turn w (Swap p side old new) (Cut ns)) a

-- the act is the put of a won swap
pub record PutsBySwap (L : Layout) (turns : List Turn) (stores : List Stored) (a : MapAct) : Type 0 where
  pub before : List Turn
  pub since : List Turn
  pub parent : ℕ
  pub side : Side
  pub old : ℕ
  pub new : ℕ
  pub nodes : List NodeId
  pub are : turns ≡ before ++ answered_turn a.act.worker (Swap parent side old new) (Cut nodes) ∷ since
  pub is : IsPutOf L stores before a.act.worker old new
      (answered_turn a.act.worker (Swap parent side old new) (Cut nodes)) a

-- an act comes before another one at no later moment, and before a put at an earlier one
abbrev pub IsEarlier : MapAct → MapAct → Type 0
IsEarlier a b = (a.act.moment ≤ b.act.moment) × (is_plain b ≡ false → a.act.moment < b.act.moment)

-- the acts with these values, and the puts of the won swaps, are a history of one plain map, empty at
-- first, in the order of their moments. At each moment it has just the keys of the reached leaves, with
-- the values of their slots (Herlihy and Wing)
pub record IsMapHistory (L : Layout) (turns : List Turn) (stores : List Stored) (acts : List Act)
    (valued : List MapAct) : Type 0 where
  pub are : map (λ (a : MapAct). a.act) (filter is_plain valued) ≡ acts
  pub gives : GivesEach no_map valued
  pub in_order : AllPairs IsEarlier valued
  pub moments : (so_far rest : List Turn) → turns ≡ so_far ++ rest → (k v : ℕ) → IsKey k
      → (map_at valued (length so_far) k ≡ Some v) ↔ IsInMap L so_far stores k v
  pub puts : All (PutsItsValue L turns stores) valued
  pub takes : All (TakesItsValue L turns stores) valued
  pub swaps : SwapsArePuts L turns stores valued
  pub replaces : (a : MapAct) → Contains valued a → is_plain a ≡ false → PutsBySwap L turns stores a

-- ---- laws

-- the turns up to which there are stores have a history, and each history of them is one of a map
abbrev pub HaveMapHistories : Layout → List Turn → Type 0
HaveMapHistories L turns =
    (was : List Turn) (stores : List Stored) → (held : HoldsStores L was turns stores)
    → HasHistory L held.until × ((acts : List Act) → IsHistory L held.until acts
    → (valued : List MapAct) × IsMapHistory L held.until stores acts valued)

-- this holds of the turns of each run
abbrev pub HistoriesAreOfMaps : Type 0
HistoriesAreOfMaps = (L : Layout) → IsLayout L → (events : List (ℕ × Event))
    → All (λ t. HasKey t.1) events → HaveMapHistories L (trace_in (ordered L) events)

-- a look-up whose answer a plain map of the reached leaves gives at a moment has the answer that
-- this one map has at that moment
abbrev pub GetsAreOfTheMap : Type 0
GetsAreOfTheMap = (L : Layout) (turns : List Turn) (stores : List Stored) (acts : List Act)
    (valued : List MapAct) → IsMapHistory L turns stores acts valued → (so_far rest : List Turn)
    → turns ≡ so_far ++ rest → (k : ℕ) → IsKey k → (answer : Option ℕ)
    → MapGives (IsInMap L so_far stores k) answer → map_at valued (length so_far) k ≡ answer

-- the act puts the value under its key: it is a true insert with the value, or a put that leaves it
abbrev pub PutsThere : MapAct → ℕ → Type 0
PutsThere a v = ((a.left ≡ None) × (a.act.op ≡ Insert) × (a.act.answer ≡ true) × (a.value ≡ v))
    ⊎ (a.left ≡ Some v)

-- what the plain map has under a key at a moment was put there by a true insert of the key or by a put,
-- with no later moment
abbrev pub ValuesWerePut : Type 0
ValuesWerePut = (valued : List MapAct) (n k v : ℕ) → map_at valued n k ≡ Some v
    → (a : MapAct) × Contains valued a × PutsThere a v
    × (a.act.key ≡ k) × (a.act.moment ≤ n)

-- the worker has won one flag after the turns `was`
abbrev pub WonOneFlag : ℕ → List Turn → List Turn → Type 0
WonOneFlag w was now = won_flags (part_of w now) ≡ won_flags (part_of w was) + 1

-- one of these acts is the true delete of that call, with this value
abbrev pub HasDelete : List MapAct → ℕ → ℕ → ℕ → ℕ → Type 0
HasDelete valued w pin k v = (a : MapAct) × Contains valued a × (a.act.worker ≡ w)
    × (called_in a.act ≡ record { pin = pin; op = Delete; key = k }) × (a.act.answer ≡ true)
    × (a.value ≡ v)

-- if a call to delete a key was answered true, and has taken a value with the one flag that its worker
-- has won meanwhile, the act of this call has that value. This holds in each history of a map, by
-- stores that go on from those by which the value was read
abbrev pub ActsHaveTakenValues : Layout → List Turn → Type 0
ActsHaveTakenValues L turns =
    (from : List Turn) (stores : List Stored) → (held : HoldsStores L from turns stores)
    → (was now : List Turn) (seen : List Stored) (w k v : ℕ) (took : WasTaken L was now seen w k v)
    → (answer : AnswerStands L was now w Delete k true) → WonOneFlag w was now
    → Extends held.until now → ExtendsStores stores took.first
    → (acts : List Act) → IsHistory L held.until acts → (valued : List MapAct)
    → IsMapHistory L held.until stores acts valued → HasDelete valued w answer.pin k v

-- this holds of the turns of each run
abbrev pub TakenValuesAreOfTheirActs : Type 0
TakenValuesAreOfTheirActs = (L : Layout) → IsLayout L → (events : List (ℕ × Event))
    → All (λ t. HasKey t.1) events → ActsHaveTakenValues L (trace_in (ordered L) events)

-- what the laws of histories say of the turns of a map
pub record AreOfMaps (L : Layout) (turns : List Turn) : Type 0 where
  pub histories : HaveMapHistories L turns
  pub taken : ActsHaveTakenValues L turns
