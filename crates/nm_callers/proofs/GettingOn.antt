-- A call that was busy: others got on.
use Rattle.std.proofs.Common.{◌≡◌, ℕ, inl, inr, true, sym, ◌∙◌, arith, true≢false}
use Rattle.nm_model.specs.declared.event.Op.TheVariants.{Has}
use Rattle.nm_steps.specs.Steps.{PassView, HasSeenAllOf}
use Rattle.nm_progress.specs.Lost.{ChangeWasBusy}
use Rattle.nm_progress.specs.Pins.{WasMovedPast}
use Rattle.nm_progress.specs.Walked.{ManyWereBusy, NearWasBusy}
use Rattle.nm_set.specs.Managed.{MetInterference}
use Rattle.nm_callers.specs.Beside.{GotOn, MetInterferenceByHalf}

pub got_on : (p q : PassView) (times : ℕ) → HasSeenAllOf q p → ChangeWasBusy p q times → GotOn p q times
got_on p q times past (inl none) = record {
  turns = past.goes_on.more;
  is = past.goes_on.is;
  got_on = omega
      (arith, none);
}
got_on p q times past (inr (inl moved)) = record {
  turns = moved.turns;
  is = moved.is;
  got_on =
      (let some = moved.moved in omega (arith, some));
}
got_on p q times past (inr (inr lost)) = record {
  turns = lost.turns;
  is = lost.is;
  got_on =
      (let some = lost.paid in omega (arith, some));
}

-- ---- of look-ups of several keys, and of calls for the nearest one

moved_on : (p q : PassView) (n : ℕ) → WasMovedPast p q n → MetInterference Has p q n
moved_on p q n m = (m.turns, m.is, let some = m.moved in omega (arith, some))

pub many_interfered : (p q : PassView) (tries : ℕ) → p.view.layout.radix ≡ true → HasSeenAllOf q p
    → ManyWereBusy p q tries → MetInterference Has p q tries
many_interfered p q tries radix past (inl none) = (past.goes_on.more, past.goes_on.is, omega (arith, none))
many_interfered p q tries radix past (inr (inl moved)) = moved_on p q tries moved
many_interfered p q tries radix past (inr (inr long)) = absurd (true≢false (sym radix ∙ long.0))

pub near_interfered : (p q : PassView) (tries : ℕ) → p.view.layout.radix ≡ true → HasSeenAllOf q p
    → NearWasBusy p q tries → MetInterferenceByHalf p q tries
near_interfered p q tries radix past (inl so) = (tries, omega arith, many_interfered p q tries radix past so)
near_interfered p q tries radix past (inr (times, half, shaped)) =
    (times, half, (shaped.turns, shaped.is, let some = shaped.reshaped in omega (arith, some)))
