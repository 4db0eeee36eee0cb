-- A remove that expects a value: m is the worker before the call, n after it, and o the outcome.
use Rattle.std.specs.Prelude.{◌≡◌, ◌⊎◌, ℕ, Result, Ok}
use Rattle.nm_edge.specs.Keys.{IsKey}
use Rattle.nm_calls.specs.declared.fault.CallFault.{CallFault}
use Rattle.nm_tree.specs.declared.removing.RemoveOutcome.{RemoveOutcome}
use Rattle.nm_tree.specs.declared.removing.RemoveOutcome.TheVariants as removal
use Rattle.nm_set.specs.declared.managed.Options.{Options}
use Rattle.nm_set.specs.MapRemoves.{SaysRemoveIf}
use Rattle.nm_set.specs.Seats.{MemberView}
use Rattle.nm_set_c.specs.Outcomes.{of_remove}
use Rattle.nm_set_c.specs.declared.outcome.Outcome.{Outcome}
use Rattle.nm_set_c.specs.declared.outcome.Outcome.TheVariants as outcome

-- the value that is written: the one that the key had, if it is not the expected one, or the number that was
-- there before
abbrev pub other_written : Result RemoveOutcome CallFault → ℕ → ℕ
other_written (Ok (removal.Other value)) old = value
other_written _ old = old

-- the worker's call is made, the outcome is that of its result, and another value is written
pub record RemovesIf (h : Options) (k expected old found : ℕ) (m n : MemberView) (o : Outcome) : Type 0 where
  pub done : Result RemoveOutcome CallFault
  pub told : o ≡ of_remove done
  pub tree : n.tree ≡ m.tree
  pub says : SaysRemoveIf m.tree h k expected m.worker n.worker done
  pub written : found ≡ other_written done old

-- if the number is a key, that call is made; otherwise the outcome is `Key`, and nothing has changed
abbrev pub TellsRemoveIf : Options → ℕ → ℕ → ℕ → ℕ → MemberView → MemberView → Outcome → Type 0
TellsRemoveIf h k expected old found m n o = (IsKey k × RemovesIf h k expected old found m n o)
    ⊎ ((IsKey k → ⊥) × (o ≡ outcome.Key) × (n ≡ m) × (found ≡ old))
