-- Removes that expect a value.
use Rattle.std.specs.Prelude.{◌≡◌, ◌≢◌, ◌+◌, ◌*◌, ℕ, Some, None, Result}
use Rattle.nm_edge.specs.Layouts.{Layout}
use Rattle.nm_model.specs.declared.event.Op.TheVariants.{Delete}
use Rattle.nm_steps.specs.Steps.{PassView, TreeView}
use Rattle.nm_calls.specs.Maps.{HasTaken, MapGave}
use Rattle.nm_calls.specs.Won.{HasWon}
use Rattle.nm_calls.specs.declared.fault.CallFault.{CallFault}
use Rattle.nm_tree.specs.declared.removing.RemoveOutcome.{RemoveOutcome}
use Rattle.nm_tree.specs.Answers.{FreesNone, IfTaken}
use Rattle.nm_tree.specs.Removing.{AsDelete, IfOther, SaysOther}
use Rattle.nm_tree.specs.Workers.{WorkerView}
use Rattle.nm_set.specs.declared.managed.Options.{Options}
use Rattle.nm_set.specs.Asked.{SaysTryRemove}
use Rattle.nm_set.specs.Managed.{Answers, FinishesFirst, GoesOn, round_bound}
use Rattle.nm_set.specs.Maps.{SaysChange, TookMeanwhile}
use Rattle.nm_set.specs.Rounds.{rounds_bound}

-- what a caller learns from one call of the tree: what a remove says, and that it took the expected value;
-- or the key had another value
pub record SaysTryRemoveIf (L : Layout) (tries k expected : ℕ) (w z : WorkerView)
    (r : Result RemoveOutcome CallFault) : Type 0 where
  pub says : AsDelete r (SaysTryRemove L tries k w z)
  pub takes : AsDelete r (λ d. IfTaken d (HasTaken w.pass z.pass k expected))
  pub other : IfOther r (SaysOther L tries k expected w z)

-- removes, made until one does not lose all its tries; the last one found the key with another value than
-- the expected one. The map gave this value at a moment (linearization point) that is later than all that
-- the worker had seen before. They have won nothing, have made at most `most` steps, and have freed no
-- node. Nothing is pending
pub record FoundOther (k expected most : ℕ) (w z : WorkerView) (found : ℕ) : Type 0 where
  pub other : found ≢ expected
  pub map : MapGave w.pass z.pass k (Some found)
  pub none : z.pending ≡ None
  pub won : HasWon w.pass.view.log z.pass.view.log 0 0
  pub on : GoesOn most w z
  pub frees : FreesNone w z

-- a managed remove that found another value, and the remove of an earlier call, which it finished first
pub record ManagesOther (b : TreeView) (h : Options) (k expected : ℕ) (w z : WorkerView) (found : ℕ)
    : Type 0 where
  pub free : w.held ≡ None
  pub finds : FoundOther k expected ((2 * h.rounds + 2) * round_bound h.tries b.layout) w z found
  pub begun : PassView
  pub first : FinishesFirst w begun
  pub later : MapGave begun z.pass k (Some found)

-- what a caller learns from a managed remove that expects a value: what a managed remove says, and that it
-- took the expected value; or the key had another value
pub record SaysRemoveIf (b : TreeView) (h : Options) (k expected : ℕ) (w z : WorkerView)
    (r : Result RemoveOutcome CallFault) : Type 0 where
  pub says : AsDelete r (SaysChange Delete b h k w z)
  pub takes : AsDelete r (λ d. IfTaken d (TookMeanwhile w.pass z.pass k expected))
  pub other : IfOther r (ManagesOther b h k expected w z)

-- ---- its parts, for the contracts inside this crate

-- `RemovesWithin`, `RemovesOnce`, `RemovesIn`: removes, made until one does not lose all its tries: in at
-- most `most` steps; one of them; at most n of them
pub record RemovesWithin (k expected most tries : ℕ) (w z : WorkerView) (r : Result RemoveOutcome CallFault)
    : Type 0 where
  pub answers : AsDelete r (Answers Delete k most tries w z)
  pub takes : AsDelete r (λ d. IfTaken d (HasTaken w.pass z.pass k expected))
  pub other : IfOther r (FoundOther k expected most w z)
  pub frees : FreesNone w z

abbrev pub RemovesOnce : Layout → ℕ → ℕ → ℕ → WorkerView → WorkerView → Result RemoveOutcome CallFault → Type 0
RemovesOnce L tries k expected = RemovesWithin k expected (round_bound tries L) tries

abbrev pub RemovesIn : TreeView → Options → ℕ → ℕ → ℕ → WorkerView → WorkerView → Result RemoveOutcome CallFault
    → Type 0
RemovesIn b h k expected n = RemovesWithin k expected (rounds_bound b h n) (n * h.tries)
