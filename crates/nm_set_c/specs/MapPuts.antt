-- What a put by the handle of a map's worker returns and leaves: m is the worker before the call, n the
-- worker after it, and o the outcome.
use Rattle.std.specs.Prelude.{◌≡◌, ◌⊎◌, ℕ, Result, Ok}
use Rattle.nm_edge.specs.Keys.{IsKey}
use Rattle.nm_calls.specs.declared.fault.CallFault.{CallFault}
use Rattle.nm_puts.specs.declared.putting.Condition.{Condition}
use Rattle.nm_puts.specs.declared.putting.PutOutcome.{PutOutcome}
use Rattle.nm_puts.specs.declared.putting.PutOutcome.TheVariants as put
use Rattle.nm_set.specs.declared.managed.Options.{Options}
use Rattle.nm_set.specs.MapPuts.{SaysManagedPut}
use Rattle.nm_set.specs.Seats.{MemberView}
use Rattle.nm_set_c.specs.Outcomes.{of_put}
use Rattle.nm_set_c.specs.declared.outcome.Outcome.{Outcome}
use Rattle.nm_set_c.specs.declared.outcome.Outcome.TheVariants as outcome

-- the value that is written: the one that the key had, replaced or not, or the number that was there
-- before
abbrev pub had_written : Result PutOutcome CallFault → ℕ → ℕ
had_written (Ok (put.Replaced value)) old = value
had_written (Ok (put.Other value)) old = value
had_written _ old = old

-- the worker's call is made, the outcome is that of its result, and the value that the key had is
-- written
pub record PutsValue (when : Condition) (h : Options) (k v old found : ℕ) (m n : MemberView) (o : Outcome)
    : Type 0 where
  pub done : Result PutOutcome CallFault
  pub told : o ≡ of_put done
  pub tree : n.tree ≡ m.tree
  pub says : SaysManagedPut m.tree h when k v m.worker n.worker done
  pub written : found ≡ had_written done old

-- if the number is a key, that call is made; otherwise the outcome is `Key`, and nothing has changed
abbrev pub TellsPut : Condition → Options → ℕ → ℕ → ℕ → ℕ → MemberView → MemberView → Outcome → Type 0
TellsPut when h k v old found m n o = (IsKey k × PutsValue when h k v old found m n o)
    ⊎ ((IsKey k → ⊥) × (o ≡ outcome.Key) × (n ≡ m) × (found ≡ old))
