-- What a scan of a range returns and leaves: m is the worker before the call, n the worker after it,
-- and o the outcome.
use Rattle.std.specs.Prelude.{◌≡◌, ◌⊎◌, ℕ, List, Option, Some, None, Result, Ok, Err}
use Rattle.nm_edge.specs.Keys.{IsKey}
use Rattle.nm_edge.specs.declared.edge.Side.{Side}
use Rattle.nm_calls.specs.declared.fault.CallFault.{CallFault}
use Rattle.nm_calls.specs.declared.scanning.Scanned.{Scanned}
use Rattle.nm_set.specs.Scanning.{AskedScan}
use Rattle.nm_set.specs.Seats.{MemberView}
use Rattle.nm_set_c.specs.Outcomes.{of_fault}
use Rattle.nm_set_c.specs.declared.outcome.Outcome.{Outcome}
use Rattle.nm_set_c.specs.declared.outcome.Outcome.TheVariants as outcome

-- `of_next`, `of_scan`: the outcome, by the key at which to continue, and by the answer of a scan
abbrev pub of_next : Option ℕ → Outcome
of_next (Some k) = outcome.Yes
of_next None = outcome.No

abbrev pub of_scan : Result Scanned CallFault → Outcome
of_scan (Ok s) = of_next s.next
of_scan (Err f) = of_fault f

-- `counted`, `next_written`: the number of keys and the key at which to continue, as they are
-- written, or the values that were there before
abbrev pub counted : Result Scanned CallFault → ℕ → ℕ
counted (Ok s) old = s.count
counted (Err f) old = old

abbrev pub place_written : Option ℕ → ℕ → ℕ
place_written (Some k) old = k
place_written None old = old

abbrev pub next_written : Result Scanned CallFault → ℕ → ℕ
next_written (Ok s) old = place_written s.next old
next_written (Err f) old = old

-- the worker's call is made, and the outcome is that of its answer; the number of keys is written,
-- and so is the key at which to continue, if there is one
pub record Scans (side : Side) (tries from to : ℕ) (old new : List ℕ) (count count_now next next_now : ℕ)
    (m n : MemberView) (o : Outcome) : Type 0 where
  pub answer : Result Scanned CallFault
  pub told : o ≡ of_scan answer
  pub counts : count_now ≡ counted answer count
  pub continues : next_now ≡ next_written answer next
  pub tree : n.tree ≡ m.tree
  pub says : AskedScan side m.tree.layout tries from to old new m.worker n.worker answer

-- if the number is a key, the worker's call is made; otherwise the outcome is `Key`, and nothing
-- has changed
abbrev pub TellsScan : Side → ℕ → ℕ → ℕ → List ℕ → List ℕ → ℕ → ℕ → ℕ → ℕ → MemberView → MemberView
    → Outcome → Type 0
TellsScan side tries from to old new count count_now next next_now m n o =
    (IsKey from × Scans side tries from to old new count count_now next next_now m n o)
    ⊎ ((IsKey from → ⊥) × (o ≡ outcome.Key) × (n ≡ m) × (new ≡ old) × (count_now ≡ count)
    × (next_now ≡ next))
