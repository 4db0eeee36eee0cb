-- What a call that finds a key in the order of keys, or pops one, returns and leaves: m is the
-- worker before the call, n the worker after it, and o the outcome.
use Rattle.std.specs.Prelude.{◌≡◌, ◌≢◌, ◌<◌, ◌≤◌, ◌⊎◌, ℕ, Option, Some, None, Result, Ok, Err}
use Rattle.nm_edge.specs.Keys.{IsKey}
use Rattle.nm_steps.specs.Steps.{TreeView}
use Rattle.nm_tree.specs.Workers.{WorkerView}
use Rattle.nm_set.specs.declared.managed.Options.{Options}
use Rattle.nm_set.specs.NextKeys.{AskedNext, AskedPrev}
use Rattle.nm_set.specs.Popping.{SaysManagedPop, SaysManagedPopOf}
use Rattle.nm_set.specs.Seats.{MemberView}
use Rattle.nm_calls.specs.declared.fault.CallFault.{CallFault}
use Rattle.nm_calls.specs.declared.fault.CallFault.TheVariants as fault
use Rattle.nm_set_c.specs.Outcomes.{of_fault}
use Rattle.nm_set_c.specs.Workers.{pending_key}
use Rattle.nm_set_c.specs.declared.outcome.Outcome.{Outcome}
use Rattle.nm_set_c.specs.declared.outcome.Outcome.TheVariants as outcome

-- the outcome of such a call, by its answer
abbrev pub of_found : Result (Option ℕ) CallFault → Outcome
of_found (Ok (Some found)) = outcome.Yes
of_found (Ok None) = outcome.No
of_found (Err f) = of_fault f

-- the key that is written, or the value that was there before
abbrev pub found_written : Result (Option ℕ) CallFault → ℕ → ℕ
found_written (Ok (Some found)) old = found
found_written (Ok None) old = old
found_written (Err f) old = old

-- the worker's call is made, the outcome is that of its answer, and the key is written if there is
-- one
pub record TellsFound (asked : TreeView → WorkerView → WorkerView → Result (Option ℕ) CallFault → Type 0)
    (old found : ℕ) (m n : MemberView) (o : Outcome) : Type 0 where
  pub answer : Result (Option ℕ) CallFault
  pub told : o ≡ of_found answer
  pub written : found ≡ found_written answer old
  pub tree : n.tree ≡ m.tree
  pub says : asked m.tree m.worker n.worker answer

-- if the number is a key, the worker's call is made; otherwise the outcome is `Key`, and nothing
-- has changed
abbrev pub TellsNear : ℕ → (TreeView → WorkerView → WorkerView → Result (Option ℕ) CallFault → Type 0) → ℕ → ℕ
    → MemberView → MemberView → Outcome → Type 0
TellsNear key asked old found m n o = (IsKey key × TellsFound asked old found m n o)
    ⊎ ((IsKey key → ⊥) × (o ≡ outcome.Key) × (n ≡ m) × (found ≡ old))

-- `TellsNext`, `TellsPrev`: for a call for the next key, and for the previous one
abbrev pub TellsNext : ℕ → ℕ → ℕ → ℕ → MemberView → MemberView → Outcome → Type 0
TellsNext tries key = TellsNear key (λ b. AskedNext b.layout tries key)

abbrev pub TellsPrev : ℕ → ℕ → ℕ → ℕ → MemberView → MemberView → Outcome → Type 0
TellsPrev tries key = TellsNear key (λ b. AskedPrev b.layout tries key)

-- ---- a key that is popped

-- the key was flagged and is not known to be cut off
abbrev pub unfinished : Result (Option ℕ) CallFault
unfinished = Err fault.Unfinished

-- the worker's call is made, and the outcome is that of its answer; the popped key is written, or
-- after `Unfinished` the key that is pending then
pub record TellsTaken (asked : TreeView → WorkerView → WorkerView → Result (Option ℕ) CallFault → Type 0)
    (old taken : ℕ) (m n : MemberView) (o : Outcome) : Type 0 where
  pub answer : Result (Option ℕ) CallFault
  pub told : o ≡ of_found answer
  pub written : answer ≢ unfinished → taken ≡ found_written answer old
  pub going : answer ≡ unfinished → pending_key n.worker ≡ Some taken
  pub tree : n.tree ≡ m.tree
  pub says : asked m.tree m.worker n.worker answer

-- `TellsPopFirst`, `TellsPopLast`, `TellsPopFirstBelow`, `TellsPopLastFrom`: what a caller learns from
-- such a call, of all keys or of those up to a bound
abbrev pub TellsPopFirst : Options → ℕ → ℕ → MemberView → MemberView → Outcome → Type 0
TellsPopFirst h = TellsTaken (λ b. SaysManagedPop ◌<◌ b h)

abbrev pub TellsPopLast : Options → ℕ → ℕ → MemberView → MemberView → Outcome → Type 0
TellsPopLast h = TellsTaken (λ b. SaysManagedPop (λ j key. key < j) b h)

abbrev pub TellsPopFirstBelow : ℕ → Options → ℕ → ℕ → MemberView → MemberView → Outcome → Type 0
TellsPopFirstBelow below h = TellsTaken (λ b. SaysManagedPopOf (λ j. IsKey j × (j < below)) ◌<◌ b h)

abbrev pub TellsPopLastFrom : ℕ → Options → ℕ → ℕ → MemberView → MemberView → Outcome → Type 0
TellsPopLastFrom from h =
    TellsTaken (λ b. SaysManagedPopOf (λ j. IsKey j × (from ≤ j)) (λ j key. key < j) b h)
