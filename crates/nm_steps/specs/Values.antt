-- Steps on values, whose words come after those of the core.
use Rattle.std.specs.Prelude.{◌≡◌, ◌+◌, ◌-◌, ◌<◌, ◌==◌, ℕ, Bool, true, false, nat_lt, List, [], ◌∷◌, ◌++◌, length, slice_index, AllPairs}
use mathlib.Core.Option.{none}
use Rattle.atomic_table.specs.Seated.{TableId}
use Rattle.atomic_table.specs.Table.{Me, Step, step}
use Rattle.atomic_table.specs.declared.shared.Seat.{Seat}
use Rattle.nm_edge.specs.Layouts.{Layout}
use Rattle.nm_edge.specs.Words.{IsSlot, at_edge, word, words}
use Rattle.nm_edge.specs.declared.edge.Side.TheVariants.{Left}
use Rattle.nm_model.specs.Knowledge.{is_private}
use Rattle.nm_model.specs.Memory.{child}
use Rattle.nm_model.specs.Ordered.{after_in, ordered}
use Rattle.nm_steps.specs.declared.view.Stored.{Stored}
use Rattle.nm_steps.specs.declared.view.View.{View}
use Rattle.nm_steps.specs.Rules.{ComesBefore, Extends, ExtendsStores, LinksHaveValues, WereHeld, knowledge, value_of}
use Rattle.nm_steps.specs.Steps.{EndedWords, Ends, HasSeen, Laid, PassView, TreeView}

-- a table with a value for each slot
pub record HasValues (b : TreeView) : Type 0 where
  pub words_are : b.table.words ≡ words b.layout + b.layout.nodes
  pub slots_are : b.table.slots ≡ b.layout.nodes

-- a table with a value for each slot, or one without values
abbrev pub HasValuesIf : Bool → TreeView → Type 0
HasValuesIf true b = HasValues b
HasValuesIf false b = b.table.slots ≡ 0

-- what the words of a tree always satisfy: the table was made for the layout, and has values or not
pub record IsMade (z : TableId) (key L : Layout) (values : Bool) : Type 0 where
  pub laid : Laid z key L
  pub kind : HasValuesIf values (record { table = z; layout = L })

-- the number of the word of a slot's value
abbrev pub value_word : TreeView → ℕ → ℕ
value_word b s = words b.layout + (s - 1)

-- the stores that a view has seen are those of the run that it has seen, in their order. Each slot was
-- private to its worker at the store, and each new leaf has a store
pub record HasSeenStores (v : View) : Type 0 where
  pub run : HasSeen v
  pub held : WereHeld v.layout run.events v.stores
  pub linked : LinksHaveValues v.layout run.events v.stores
  pub order : AllPairs ComesBefore v.stores

-- only what has been seen has changed: more turns, and more stores
pub record HasSeenMore (before after : View) : Type 0 where
  pub same : after ≡ record before { past = after.past; stores = after.stores }
  pub past : Extends after.past before.past
  pub stores : ExtendsStores after.stores before.stores
  pub seen : HasSeenStores after

-- a look at the value of a slot, which is the one that was stored last for it
abbrev pub SawValue : ℕ → Step Unit → Me Unit View → ℕ → Me Unit View → Type 0
SawValue slot s me n after = (after.1 ≡ me.1) × HasSeenMore me.0 after.0
    × (n ≡ value_of after.0.stores slot)

-- after all turns that the view has seen, the left edge of the slot leads to no node
abbrev pub is_bare : (v : View) → HasSeenStores v → ℕ → Bool
is_bare v seen slot =
    child (after_in (ordered v.layout) seen.run.events).state.memory slot Left == 0

-- a look at the left edge of a slot, which shows whether it leads to a node
abbrev pub SawLeft : ℕ → Step Unit → Me Unit View → ℕ → Me Unit View → Type 0
SawLeft slot s me n after = (after.1 ≡ me.1)
    × (more : HasSeenMore me.0 after.0) × (nat_lt n 4 ≡ is_bare after.0 more.seen slot)

-- the worker's own store of this value for a slot
abbrev pub own_store : View → ℕ → ℕ → List Stored → ℕ → List Stored
own_store v slot value stores at =
    stores ++ record {
      at = at;
      worker = v.number;
      own = length v.log;
      slot = slot;
      value = value;
    } ∷ []

-- a value was stored for a slot, by the last store so far
abbrev pub HasStoredValue : ℕ → Step Unit → Me Unit View → ℕ → Me Unit View → Type 0
HasStoredValue slot s me n after = (after.1 ≡ me.1) × HasSeenMore me.0 after.0
    × ((earlier : List Stored) × (after.0.stores ≡ own_store me.0 slot n earlier (length after.0.past)))

-- the pass of this seat can read or store the value of the slot, by the word i
pub record CanReach (b : TreeView) (it : Seat Unit View) (slot i : ℕ) : Type 0 where
  pub table : it.table_id ≡ b.table
  pub values : HasValues b
  pub empty : it.me.1 ≡ []
  pub alive : it.me.0.resigned ≡ false
  pub layout : it.me.0.layout ≡ b.layout
  pub is_slot : IsSlot b.layout slot
  pub word : i ≡ value_word b slot

-- the pass of this seat can read the left edge of the slot, by the word i
pub record CanReachLeft (b : TreeView) (it : Seat Unit View) (slot i : ℕ) : Type 0 where
  pub table : it.table_id ≡ b.table
  pub values : HasValues b
  pub empty : it.me.1 ≡ []
  pub alive : it.me.0.resigned ≡ false
  pub layout : it.me.0.layout ≡ b.layout
  pub is_slot : IsSlot b.layout slot
  pub word : i ≡ word b.layout (at_edge slot Left)

-- the slot is private to the worker of this seat
abbrev pub MayStore : Seat Unit View → ℕ → Type 0
MayStore it slot = is_private (knowledge it.me.0) slot ≡ true

-- the contracts of a look and of a store use nothing of the step
abbrev pub no_step : Step Unit
no_step = step 0 0 0 0 none

-- `HasSeenValue`, `HasPutValue`: the seat has looked at a value, and has stored one
pub record HasSeenValue (it after : Seat Unit View) (slot n : ℕ) : Type 0 where
  pub table : after.table_id ≡ it.table_id
  pub seat : after.id ≡ it.id
  pub saw : SawValue slot no_step it.me n after.me

-- the seat has looked at a left edge
pub record HasSeenLeft (it after : Seat Unit View) (slot n : ℕ) : Type 0 where
  pub table : after.table_id ≡ it.table_id
  pub seat : after.id ≡ it.id
  pub saw : SawLeft slot no_step it.me n after.me

pub record HasPutValue (it after : Seat Unit View) (slot n : ℕ) : Type 0 where
  pub table : after.table_id ≡ it.table_id
  pub seat : after.id ≡ it.id
  pub put : HasStoredValue slot no_step it.me n after.me

-- ---- of a pass

-- the pass has seen more turns and stores, and nothing else has changed
pub record OnlySees (p q : PassView) : Type 0 where
  pub same : q ≡ record p { view = record p.view { past = q.view.past; stores = q.view.stores } }
  pub past : Extends q.view.past p.view.past
  pub stores : ExtendsStores q.view.stores p.view.stores
  pub seen : HasSeenStores q.view

-- the pass has seen more turns and stores. After all turns that it has seen then, the left edge of the
-- slot leads to no node, or to one
pub record SeesLeft (p q : PassView) (slot : ℕ) (bare : Bool) : Type 0 where
  pub sees : OnlySees p q
  pub is : bare ≡ is_bare q.view sees.seen slot

-- the value was stored for the slot, by the last store so far
pub record HasStoredFor (p q : PassView) (slot value : ℕ) : Type 0 where
  pub earlier : List Stored
  pub is : q.view.stores ≡ own_store p.view slot value earlier (length q.view.past)

-- ---- closing

-- some ordered run ends with these words, which extends what the view has seen. Each slot has the
-- value that was stored last for it. The stores extend those that the view has seen, and are in their
-- order. Each slot was private at its store, and each new leaf has a store
pub record EndsWithValues (L : Layout) (left : EndedWords) (view : View) : Type 0 where
  pub ends : Ends L left.core view
  pub long : length left.values ≡ L.nodes
  pub stores : List Stored
  pub extends : ExtendsStores stores view.stores
  pub are : (i : ℕ) → i < L.nodes → slice_index left.values i ≡ value_of stores (i + 1)
  pub held : WereHeld L ends.turns stores
  pub linked : LinksHaveValues L ends.turns stores
  pub order : AllPairs ComesBefore stores
