-- Look-ups in a radix tree.
use Rattle.std.proofs.Common.{◌≡◌, ◌≤◌, ◌+◌, ◌*◌, ◌⊎◌, inl, inr, ℕ, zero, suc, Bool, true, cond, List, length, refl, sym, ap, subst, ◌∙◌, true≢false}
use Rattle.std.specs.Prelude.{Result, Err}
use Rattle.nm_edge.specs.Layouts.{Layout}
use Rattle.nm_model.specs.declared.event.Event.TheVariants.{SightFor}
use Rattle.nm_model.specs.declared.event.Op.TheVariants.{Has}
use Rattle.nm_model.specs.Walks.{Entry}
use Rattle.nm_epoch.specs.Tries.{IsMoved}
use Rattle.nm_calls.specs.Bounds.{IsWithinBound}
use Rattle.nm_calls.specs.Calls.{HasMissed}
use Rattle.nm_calls.specs.declared.fault.CallFault.{CallFault}
use Rattle.nm_calls.specs.declared.fault.CallFault.TheVariants as fault
use Rattle.nm_tree.specs.Answers.{HasAnswered}
use Rattle.nm_tree.specs.Workers.{WorkerView}

-- a look-up was busy since its pins were lost
missed_by_pins : (L : Layout) → L.radix ≡ true → (tries k : ℕ) (old new : List Entry) → HasMissed L tries k old new
    → (tries ≡ 0) ⊎ IsMoved (SightFor Has k) tries old new
missed_by_pins L radix zero k old new m = inl refl
missed_by_pins L radix (suc t) k old new (inl moved) = inr moved
missed_by_pins L radix (suc t) k old new (inr m) = absurd (true≢false (sym radix ∙ m.4.2.0))

pub busy_by_pins : (L : Layout) → L.radix ≡ true → (tries k : ℕ) (w z : WorkerView) (r : Result Bool CallFault)
    → HasAnswered L tries k w z r → r ≡ Err fault.Busy
    → (tries ≡ 0) ⊎ IsMoved (SightFor Has k) tries w.pass.view.log z.pass.view.log
busy_by_pins L radix tries k w z r did is =
    missed_by_pins L radix tries k w.pass.view.log z.pass.view.log
    (subst (λ (s : Result Bool CallFault). HasAnswered L tries k w z s) is did).1

-- its steps do not depend on how many nodes there are
pub few_steps : (L : Layout) → L.radix ≡ true → (tries : ℕ) (old new : List Entry) → IsWithinBound L tries old new
    → length new ≤ length old + tries * 776 + 10
few_steps L radix tries old new within = subst (λ (n : ℕ). length new ≤ length old + tries * (4 * n + 8 * 64) + 10)
    (ap (λ (b : Bool). cond b 66 L.nodes) radix) within
