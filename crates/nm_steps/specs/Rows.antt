-- A look at a row of the pool: a lost claim of each slot that it shows as taken, all at one moment.
use Rattle.std.specs.Prelude.{◌≡◌, ◌+◌, ◌-◌, ◌%◌, ◌^◌, ◌≤◌, ◌==◌, ℕ, zero, suc, false, List, [], ◌∷◌, ◌++◌, bit_and, if◌then◌else◌}
use mathlib.Core.Option.{none}
use Rattle.atomic_table.specs.Table.{Me, Step, step}
use Rattle.atomic_table.specs.declared.shared.Seat.{Seat}
use Rattle.nm_edge.specs.Words.{pool_place, words}
use Rattle.nm_model.specs.declared.event.Event.TheVariants.{Claim}
use Rattle.nm_model.specs.declared.reply.Reply.TheVariants.{Taken}
use Rattle.nm_model.specs.Walks.{Entry}
use Rattle.nm_steps.specs.declared.view.View.{View}
use Rattle.nm_steps.specs.Rules.{Did}
use Rattle.nm_steps.specs.Steps.{TreeView}

-- what was done at one slot, by the log before and after it
abbrev pub Doing : Type 1
Doing = ℕ → List Entry → List Entry → Type 0

-- it was done at n slots one after the other, from a first one upwards
abbrev pub DoneInTurn : Doing → ℕ → ℕ → List Entry → List Entry → Type 0
DoneInTurn Done from zero old new = new ≡ old
DoneInTurn Done from (suc n) old new =
    (mid : List Entry) × DoneInTurn Done from n old mid × Done (from + n) mid new

-- it was done at each slot from `from` on and below `to`, in this order
abbrev pub DoneBelow : Doing → ℕ → ℕ → List Entry → List Entry → Type 0
DoneBelow Done from to old new = DoneInTurn Done from (to - from) old new

-- the slot was claimed and found taken
abbrev pub FoundTaken : Doing
FoundTaken s old new = new ≡ old ++ (Claim s, Taken) ∷ []

-- the number of taken slots, among this many slots of one row from s on, before the first one that
-- the word n shows as free
abbrev pub shown_taken : ℕ → ℕ → ℕ → ℕ
shown_taken n s zero = 0
shown_taken n s (suc k) =
    if bit_and n (2 ^ ((s - 1) % 64)) == 0 then suc (shown_taken n (s + 1) k) else 0

abbrev pub no_step : Step Unit
no_step = step 0 0 0 0 none

-- a claim of each of this many slots, from a first one upwards, each by the word n
abbrev pub DidClaims : ℕ → ℕ → Me Unit View → ℕ → Me Unit View → Type 0
DidClaims from zero me n after = after ≡ me
DidClaims from (suc k) me n after =
    (mid : Me Unit View) × DidClaims from k me n mid × Did (Claim (from + k)) no_step mid n after

-- what a seat learns by a look at a row: the claims of the slots that the word shows as taken
abbrev pub PassedOver : ℕ → ℕ → Step Unit → Me Unit View → ℕ → Me Unit View → Type 0
PassedOver from most s me n after = DidClaims from (shown_taken n from most) me n after

-- the pass of this seat can look at this many slots of one row, from a first one on, whose word is
-- i
pub record CanPass (b : TreeView) (it : Seat Unit View) (from most i : ℕ) : Type 0 where
  pub table : it.table_id ≡ b.table
  pub words : words b.layout ≤ b.table.words
  pub empty : it.me.1 ≡ []
  pub alive : it.me.0.resigned ≡ false
  pub layout : it.me.0.layout ≡ b.layout
  pub low : 6 ≤ from
  pub slot : from ≤ b.layout.nodes
  pub high : from + most ≤ b.layout.nodes + 1
  pub row : (from - 1) % 64 + most ≤ 64
  pub word : i ≡ (pool_place b.layout from).word

-- the look was done, and found this word
pub record HasPassed (it after : Seat Unit View) (from most n : ℕ) : Type 0 where
  pub table : after.table_id ≡ it.table_id
  pub seat : after.id ≡ it.id
  pub claims : DidClaims from (shown_taken n from most) it.me n after.me
