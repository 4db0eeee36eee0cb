-- The rule of the table: the logs of all workers are a run of the ordered core, and the words are
-- those of its memory.
use Rattle.std.specs.Prelude.{◌≡◌, ◌<◌, ◌≤◌, ◌+◌, ℕ, Option, zero, suc, Bool, true, false, List, [], ◌∷◌, ◌++◌, All, Ok, if◌then◌else◌, ◌==◌, nat_lt, length, slice_index, unwrap_or, AllPairs, Contains, ◌≢◌, ◌⊎◌}
use Rattle.std.specs.List.{sum_by, count_by}
use mathlib.Core.Option.{some}
use lib.ListN.{get_elem?}
use Rattle.nm_edge.specs.Layouts.{Layout, IsLayout, dense}
use Rattle.atomic_table.specs.Table.{State, Me, Step}
use Rattle.nm_model.specs.declared.event.Event.{Event}
use Rattle.nm_model.specs.declared.event.Event.TheVariants.{Announce, Leave, LeaveWith, Fill, Link, Swap, Join}
use Rattle.nm_model.specs.declared.reply.Reply.{Reply}
use Rattle.nm_model.specs.declared.reply.Reply.TheVariants.{Joined}
use Rattle.nm_model.specs.declared.trace.Turn.{Turn}
use Rattle.nm_model.specs.Knowledge.{Knowledge, beside, draft_of, is_private}
use Rattle.nm_model.specs.Runs.{of}
use Rattle.nm_model.specs.Walks.{Entry}
use Rattle.nm_model.specs.Ordered.{ordered, after_in, trace_in}
use Rattle.nm_order.specs.Intervals.{HasKey}
use Rattle.nm_order.specs.Logs.{part_of, known_by}
use Rattle.nm_order.specs.OwnBirths.{births_by}
use Rattle.nm_steps.specs.Packing.{words_of, word_at, touched_field}
use Rattle.nm_steps.specs.Told.{told}
use Rattle.nm_steps.specs.declared.view.Held.{Held}
use Rattle.nm_steps.specs.declared.view.Stored.{Stored}
use Rattle.nm_steps.specs.declared.view.View.{View}

abbrev pub held_log : ℕ → List Entry → Held
held_log w log = record { number = w; log = log }

-- the logs that a view has; a spent view has none
abbrev pub holdings : View → List Held
holdings v = if v.resigned then [] else held_log v.number v.log ∷ v.others

-- what a view's own worker knows, by its log
abbrev pub knowledge : View → Knowledge
knowledge v = known_by v.layout v.number v.log

-- the births that its log shows
abbrev pub known_births : View → ℕ → Option ℕ
known_births v = births_by v.layout v.number v.log

-- the number of logs of worker w in the view
abbrev pub stands : ℕ → View → ℕ
stands w v = count_by (λ h. w == h.number) (holdings v)

abbrev pub once_below : ℕ → ℕ → ℕ
once_below w n = if nat_lt w n then 1 else 0

-- each of these logs is its worker's part of the trace
abbrev pub LogsAre : Layout → Layout → List Turn → List Held → Type 0
LogsAre l L t [] = Unit {0}
LogsAre l L t (h ∷ hs) = (l ≡ L) × (h.log ≡ part_of h.number t) × LogsAre l L t hs

-- the logs of a view are its workers' parts of the turns
abbrev pub IsShown : Layout → List Turn → View → Type 0
IsShown L t v = LogsAre v.layout L t (holdings v)

-- the turns of a run extend those of an earlier one
pub record Extends (run earlier : List Turn) : Type 0 where
  pub more : List Turn
  pub is : run ≡ earlier ++ more

-- what a view has seen, and what it has heard of, are beginnings of the run
pub record LagsBehind (turns : List Turn) (v : View) : Type 0 where
  pub past : Extends turns v.past
  pub heard : Extends turns v.heard

-- some ordered run of calls for keys of the set ends with these words. The log of each worker is
-- its part of that run and is in the view of one seat. A worker whose log is its view's own has not
-- resigned. What each view has seen is a beginning of the run
pub record Runs (L : Layout) (words : List ℕ) (views : List View) : Type 0 where
  pub fits : IsLayout L
  pub turns : List (ℕ × Event)
  pub keys : All (λ t. HasKey t.1) turns
  pub words_are : words ≡ words_of L (after_in (ordered L) turns).state.memory
  pub shown : (i : ℕ) (v : View) → get_elem? views i ≡ some v
      → IsShown L (trace_in (ordered L) turns) v
  pub here : (i : ℕ) (v : View) → get_elem? views i ≡ some v → v.resigned ≡ false
      → (knowledge v).gone ≡ false
  pub once : (w : ℕ) → sum_by (stands w) views ≡ once_below w L.workers
  pub lags : (i : ℕ) (v : View) → get_elem? views i ≡ some v
      → LagsBehind (trace_in (ordered L) turns) v

-- ---- how views begin, are split and are joined

-- empty logs of n workers, with the numbers from k on
abbrev pub numbers_from : ℕ → ℕ → List Held
numbers_from k zero = []
numbers_from k (suc n) = held_log k [] ∷ numbers_from (suc k) n

-- a view of these logs, the first of them its own
abbrev pub viewing : Layout → List Held → View
viewing L [] = record {
  layout = L;
  resigned = true;
  number = 0;
  log = [];
  others = [];
  past = [];
  heard = [];
  stores = [];
  heard_stores = [];
}
viewing L (h ∷ hs) = record {
  layout = L;
  resigned = false;
  number = h.number;
  log = h.log;
  others = hs;
  past = [];
  heard = [];
  stores = [];
  heard_stores = [];
}

-- `everybody`, `own_alone`, `the_others`: the view of all workers; of its own worker only; of those
-- that joined it only
abbrev pub everybody : Layout → View
everybody L = viewing L (numbers_from 0 L.workers)

abbrev pub own_alone : View → View
own_alone v = record v { others = [] }

abbrev pub the_others : View → View
the_others v = viewing v.layout v.others

-- a view without a worker
abbrev pub nobody : View
nobody = viewing (dense 0 0) []

-- the entry of a join: the leaver's ledgers are passed on
abbrev pub passing : View → Entry
passing w = (Join w.number, Joined (knowledge w).ledgers)

-- the first view has the logs of both, with the other's logs beside its own, and the join is in
-- both logs
abbrev pub joined : View → View → View
joined v w = record v {
  log = v.log ++ passing w ∷ [];
  others = v.others ++ held_log w.number (w.log ++ passing w ∷ []) ∷ w.others;
}

-- a view that has heard what another one has seen
abbrev pub informed : View → View → View
informed v w = record v { heard = w.past; heard_stores = w.stores }

-- the joined view, which has heard what the other one had seen; its next step adds that to what it
-- has seen
abbrev pub joining_view : View → View → View
joining_view v w = informed (joined v w) w

-- a view without a worker that has seen what this one has
abbrev pub noted_down : View → View
noted_down v = record nobody { past = v.past; stores = v.stores }

-- ---- a step

-- the turn of a worker with this event and this reply
abbrev pub answered_turn : ℕ → Event → Reply → Turn
answered_turn w e r = record { worker = w; event = e; outcome = Ok r }

-- an event with the reply that the word n gives is appended to the log, and is seen after these
-- turns
abbrev pub logged : View → Event → ℕ → List Turn → View
logged v e n turns = record v {
  log = v.log ++ (e, told v.layout (knowledge v) (known_births v) e n)
      ∷ [];
  past = turns
      ++ answered_turn v.number e (told v.layout (knowledge v) (known_births v) e n) ∷ [];
}

-- it is a store, whose reply does not show what it found
abbrev pub is_store : Event → Bool
is_store Announce = true
is_store Leave = true
is_store (LeaveWith answer) = true
is_store (Fill s f v) = true
is_store _ = false

-- in some run with that log, in which the worker has not resigned, the event finds the word n. For
-- a store the word may be any
pub record IsFound (L : Layout) (w : ℕ) (log : List Entry) (e : Event) (n : ℕ) : Type 0 where
  pub fits : IsLayout L
  pub worker : w < L.workers
  pub turns : List (ℕ × Event)
  pub keys : All (λ t. HasKey t.1) turns
  pub is_part : log ≡ part_of w (trace_in (ordered L) turns)
  pub here : (known_by L w log).gone ≡ false
  pub word : is_store e ≡ false
      → n ≡ word_at L (after_in (ordered L) turns).state.memory (touched_field w e)

-- what a seat learns by a step: the event with its reply is in its log, and nothing else changed.
-- The run extends the one that it had seen, and it has now seen the run with this turn at its end
abbrev pub Did : Event → Step Unit → Me Unit View → ℕ → Me Unit View → Type 0
Did e s me n after = (f : IsFound me.0.layout me.0.number me.0.log e n)
    × (after ≡ (logged me.0 e n (trace_in (ordered me.0.layout) f.turns), me.1))
    × Extends (trace_in (ordered me.0.layout) f.turns) me.0.past

-- ---- values

-- the value of a slot: the one that was stored last for it, or 0
abbrev pub value_from : ℕ → List Stored → ℕ → ℕ
value_from was [] s = was
value_from was (x ∷ xs) s = value_from (if x.slot == s then x.value else was) xs s

abbrev pub value_of : List Stored → ℕ → ℕ
value_of stores s = value_from 0 stores s

-- these stores extend earlier ones
pub record ExtendsStores (now was : List Stored) : Type 0 where
  pub more : List Stored
  pub is : now ≡ was ++ more

-- when the value was stored, its slot was private to the worker that stored it
pub record WasHeld (L : Layout) (turns : List (ℕ × Event)) (x : Stored) : Type 0 where
  pub before : List (ℕ × Event)
  pub since : List (ℕ × Event)
  pub is_run : turns ≡ before ++ since
  pub at : length before ≡ x.at
  pub own : length (part_of x.worker (trace_in (ordered L) before)) ≡ x.own
  pub private : is_private (of (after_in (ordered L) before).state x.worker) x.slot ≡ true

-- each of these stores was such
abbrev pub WereHeld : Layout → List (ℕ × Event) → List Stored → Type 0
WereHeld L turns [] = Unit {0}
WereHeld L turns (x ∷ xs) = WasHeld L turns x × WereHeld L turns xs

-- this store was made after no more turns than that one. If one worker made both, it took a step
-- between them
abbrev pub ComesBefore : Stored → Stored → Type 0
ComesBefore x y = (x.at ≤ y.at) × (x.worker ≡ y.worker → x.own < y.own)

-- those of these stores that the worker made, it made when its log had fewer than n entries
abbrev pub StoredBefore : ℕ → ℕ → List Stored → Type 0
StoredBefore w n stores = All (λ (x : Stored). x.worker ≡ w → x.own < n) stores

-- the new leaf of a link: the child of the new internal node beside the node that was there
abbrev pub new_leaf : Knowledge → ℕ → ℕ → ℕ
new_leaf k leaf new = unwrap_or (beside (draft_of k new) leaf) 0

-- the worker stored a value for the slot when its log had this number of entries
pub record IsStored (stores : List Stored) (w entries slot : ℕ) : Type 0 where
  pub stored : Stored
  pub there : Contains stores stored
  pub by_worker : stored.worker ≡ w
  pub at_own : stored.own ≡ entries
  pub for_slot : stored.slot ≡ slot

-- what a worker has stored when its log has this number of entries, if it then tries this event in a
-- table with values: a value for the new leaf of a link or of a swap
abbrev pub HasValueFor : Knowledge → List Stored → ℕ → ℕ → Event → Type 0
HasValueFor k stores w entries (Link p side leaf new) =
    IsStored stores w entries (new_leaf k leaf new)
HasValueFor k stores w entries (Swap p side leaf new) = IsStored stores w entries new
HasValueFor k stores w entries e = Unit {0}

-- each worker that tried to link or to swap a new leaf in had stored a value for it, and had taken no
-- step after that store
abbrev pub LinksHaveValues : Layout → List (ℕ × Event) → List Stored → Type 0
LinksHaveValues L turns stores =
    (before since : List (ℕ × Event)) (w : ℕ) (e : Event) → turns ≡ before ++ (w, e) ∷ since
    → HasValueFor (of (after_in (ordered L) before).state w) stores w
    (length (part_of w (trace_in (ordered L) before))) e

-- if this event is a link or a swap in a table with values, its worker has just stored a value for
-- the new leaf
abbrev pub LinkHasValue : ℕ → View → Event → Type 0
LinkHasValue slots v (Link p side leaf new) = (slots ≡ 0)
    ⊎ IsStored v.stores v.number (length v.log) (new_leaf (knowledge v) leaf new)
LinkHasValue slots v (Swap p side leaf new) = (slots ≡ 0)
    ⊎ IsStored v.stores v.number (length v.log) new
LinkHasValue slots v e = Unit {0}

-- the worker of the view has stored no value after its last step
abbrev pub HasNotStored : View → Type 0
HasNotStored v = StoredBefore v.number (length v.log) v.stores

-- what a view has seen of these stores, and what it has heard of them, are beginnings of them. All
-- those that its worker made are in what it has seen
pub record LagsInStores (stores : List Stored) (v : View) : Type 0 where
  pub seen : ExtendsStores stores v.stores
  pub own : v.resigned ≡ false → All (λ (x : Stored). x.worker ≢ v.number) seen.more
  pub heard : ExtendsStores stores v.heard_stores

-- the words after those of the core are the values of slots 1 and on by these stores, which are in
-- their order. Each slot was private at its store, and each new leaf has a store. Each view has seen
-- a beginning of them
pub record HoldsValues (L : Layout) (turns : List (ℕ × Event)) (values : List ℕ) (stores : List Stored)
    (views : List View) : Type 0 where
  pub are : (i : ℕ) → i < length values → slice_index values i ≡ value_of stores (i + 1)
  pub held : WereHeld L turns stores
  pub linked : (length values ≡ 0) ⊎ LinksHaveValues L turns stores
  pub order : AllPairs ComesBefore stores
  pub seen : (i : ℕ) (v : View) → get_elem? views i ≡ some v → LagsInStores stores v

-- the first words are those of a run, and the last `count` words are values. A table with values has
-- `count` slots, which have no bytes, and any other table has none
pub record Keeps (L : Layout) (words : List ℕ) (count : ℕ) (views : List View) : Type 0 where
  pub core : List ℕ
  pub values : List ℕ
  pub words_are : words ≡ core ++ values
  pub long : length values ≡ count
  pub runs : Runs L core views
  pub stores : List Stored
  pub valued : HoldsValues L runs.turns values stores views

-- the rule that the table keeps between any two steps
abbrev pub Kept : Layout → State Unit View → Type 0
Kept L s = Keeps L s.words (length s.homes) s.views
