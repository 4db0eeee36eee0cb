-- A scan that ends before its range and its room.
use Rattle.std.proofs.Common.{◌≤◌, ◌⊎◌, inl, inr, ℕ, arith}
use Rattle.std.specs.Prelude.{Option, Some, None, Result, Ok, Err, IfOk, IfSome}
use Rattle.nm_steps.specs.Steps.{PassView}
use Rattle.nm_calls.specs.declared.fault.CallFault.{CallFault}
use Rattle.nm_calls.specs.declared.scanning.Scanned.{Scanned}
use Rattle.nm_progress.specs.Alone.{IsAlone}
use Rattle.nm_progress.specs.Lookups.{WasReshaped}
use Rattle.nm_progress.proofs.AloneCalls.{none_reshaped}

-- why it does so: it is full, it had one try, or for a reason X
abbrev pub EndsFor : (ℕ → Type 0) → ℕ → Type 0 → Result Scanned CallFault → Type 0
EndsFor Full tries X r = IfOk r (λ s. IfSome s.next (λ k. Full s.count ⊎ (tries ≤ 1) ⊎ X))

pub early_for : (Full : ℕ → Type 0) (tries : ℕ) (X Y : Type 0) (r : Result Scanned CallFault) → (X → Y)
    → EndsFor Full tries X r → EndsFor Full tries Y r
early_for Full tries X Y (Err e) on is = tt
early_for Full tries X Y (Ok s) on is = by s.next is
  where
    by : (o : Option ℕ) → IfSome o (λ k. Full s.count ⊎ (tries ≤ 1) ⊎ X)
        → IfSome o (λ k. Full s.count ⊎ (tries ≤ 1) ⊎ Y)
    by None is = tt
    by (Some k) (inl full) = inl full
    by (Some k) (inr (inl few)) = inr (inl few)
    by (Some k) (inr (inr x)) = inr (inr (on x))

-- if it runs alone and has two tries, it is full
pub whole_alone : (Full : ℕ → Type 0) (tries : ℕ) (p q : PassView) (r : Result Scanned CallFault)
    → EndsFor Full tries (WasReshaped p q 1) r → IsAlone p q → 2 ≤ tries
    → IfOk r (λ s. IfSome s.next (λ k. Full s.count))
whole_alone Full tries p q (Err e) is alone two = tt
whole_alone Full tries p q (Ok s) is alone two = by s.next is
  where
    by : (o : Option ℕ) → IfSome o (λ k. Full s.count ⊎ (tries ≤ 1) ⊎ WasReshaped p q 1) → IfSome o (λ k. Full s.count)
    by None is = tt
    by (Some k) (inl full) = full
    by (Some k) (inr (inl few)) = absurd (omega (arith, few, two))
    by (Some k) (inr (inr m)) = let none = none_reshaped p q 1 alone m in absurd (omega (arith, none))
