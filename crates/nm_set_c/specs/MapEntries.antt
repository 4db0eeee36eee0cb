-- What a call returns and leaves that finds a key of a map in the order of keys, or pops one, with its
-- value: m is the worker before the call, n the worker after it, and o the outcome.
use Rattle.std.specs.Prelude.{◌≡◌, ◌≢◌, ◌<◌, ◌≤◌, ◌⊎◌, ℕ, Option, Some, None, Result, Ok, Err}
use Rattle.nm_edge.specs.Keys.{IsKey}
use Rattle.nm_steps.specs.Steps.{TreeView}
use Rattle.nm_calls.specs.declared.fault.CallFault.{CallFault}
use Rattle.nm_tree.specs.Answers.{FreesNone}
use Rattle.nm_tree.specs.Workers.{WorkerView}
use Rattle.nm_set.specs.declared.managed.Options.{Options}
use Rattle.nm_set.specs.Maps.{FindsValue, PopsValue}
use Rattle.nm_set.specs.NextKeys.{AskedNext, AskedPrev}
use Rattle.nm_set.specs.Popping.{SaysManagedPop, SaysManagedPopOf}
use Rattle.nm_set.specs.Seats.{MemberView}
use Rattle.nm_set_c.specs.NextKeys.{found_written, of_found, unfinished}
use Rattle.nm_set_c.specs.Workers.{pending_key}
use Rattle.nm_set_c.specs.declared.outcome.Outcome.{Outcome}
use Rattle.nm_set_c.specs.declared.outcome.Outcome.TheVariants as outcome

-- the value of the key that was found, as it is written, or the number that was there before
abbrev pub value_written : Result (Option ℕ) CallFault → ℕ → ℕ → ℕ
value_written (Ok (Some k)) there old = there
value_written (Ok None) there old = old
value_written (Err f) there old = old

-- the worker's call is made, and the outcome is that of its answer. If there is a key, it is written
-- with a value that the map had under it at a moment of the call
pub record FindsEntry (asked : TreeView → WorkerView → WorkerView → Result (Option ℕ) CallFault → Type 0)
    (old found old_value value : ℕ) (m n : MemberView) (o : Outcome) : Type 0 where
  pub answer : Result (Option ℕ) CallFault
  pub told : o ≡ of_found answer
  pub written : found ≡ found_written answer old
  pub tree : n.tree ≡ m.tree
  pub says : asked m.tree m.worker n.worker answer
  pub there : ℕ
  pub finds : FindsValue m.worker.pass n.worker.pass there answer
  pub valued : value ≡ value_written answer there old_value

-- if the number is a key, that call is made; otherwise the outcome is `Key`, and nothing has changed
abbrev pub TellsEntry : ℕ → (TreeView → WorkerView → WorkerView → Result (Option ℕ) CallFault → Type 0)
    → ℕ → ℕ → ℕ → ℕ → MemberView → MemberView → Outcome → Type 0
TellsEntry key asked old found old_value value m n o =
    (IsKey key × FindsEntry asked old found old_value value m n o)
    ⊎ ((IsKey key → ⊥) × (o ≡ outcome.Key) × (n ≡ m) × (found ≡ old) × (value ≡ old_value))

-- `TellsNextEntry`, `TellsPrevEntry`: for a call for the next key, and for the previous one
abbrev pub TellsNextEntry : ℕ → ℕ → ℕ → ℕ → ℕ → ℕ → MemberView → MemberView → Outcome → Type 0
TellsNextEntry tries key = TellsEntry key (λ b. AskedNext b.layout tries key)

abbrev pub TellsPrevEntry : ℕ → ℕ → ℕ → ℕ → ℕ → ℕ → MemberView → MemberView → Outcome → Type 0
TellsPrevEntry tries key = TellsEntry key (λ b. AskedPrev b.layout tries key)

-- the worker's call is made, and the outcome is that of its answer. If a key was popped, it is written
-- with a value that the map had under it at a moment of the call; after `Unfinished` the key is
-- written that is pending then. The worker has freed no node
pub record PopsEntry (asked : TreeView → WorkerView → WorkerView → Result (Option ℕ) CallFault → Type 0)
    (old taken old_value value : ℕ) (m n : MemberView) (o : Outcome) : Type 0 where
  pub answer : Result (Option ℕ) CallFault
  pub told : o ≡ of_found answer
  pub written : answer ≢ unfinished → taken ≡ found_written answer old
  pub going : answer ≡ unfinished → pending_key n.worker ≡ Some taken
  pub tree : n.tree ≡ m.tree
  pub says : asked m.tree m.worker n.worker answer
  pub there : ℕ
  pub takes : PopsValue m.worker.pass n.worker.pass there answer
  pub frees : FreesNone m.worker n.worker
  pub valued : value ≡ value_written answer there old_value

-- `PopsFirst`, `PopsLast`, `PopsFirstBelow`, `PopsLastFrom`: such a call for all keys, or for those up to
-- a bound
abbrev pub PopsFirst : Options → ℕ → ℕ → ℕ → ℕ → MemberView → MemberView → Outcome → Type 0
PopsFirst h = PopsEntry (λ b. SaysManagedPop ◌<◌ b h)

abbrev pub PopsLast : Options → ℕ → ℕ → ℕ → ℕ → MemberView → MemberView → Outcome → Type 0
PopsLast h = PopsEntry (λ b. SaysManagedPop (λ j key. key < j) b h)

abbrev pub PopsFirstBelow : ℕ → Options → ℕ → ℕ → ℕ → ℕ → MemberView → MemberView → Outcome → Type 0
PopsFirstBelow below h = PopsEntry (λ b. SaysManagedPopOf (λ j. IsKey j × (j < below)) ◌<◌ b h)

abbrev pub PopsLastFrom : ℕ → Options → ℕ → ℕ → ℕ → ℕ → MemberView → MemberView → Outcome → Type 0
PopsLastFrom from h = PopsEntry (λ b. SaysManagedPopOf (λ j. IsKey j × (from ≤ j)) (λ j key. key < j) b h)
