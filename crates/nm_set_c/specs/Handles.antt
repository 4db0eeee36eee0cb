-- What a handle owns, and whether a call uses it.
use Rattle.std.specs.Prelude.{◌≡◌, ℕ, zero, suc, Option, Some, None}
use Rattle.nm_set_c.specs.declared.handle.Handle.{Handle}
use Rattle.nm_set_c.specs.declared.outcome.Outcome.{Outcome}
use Rattle.nm_set_c.specs.declared.outcome.Outcome.TheVariants as outcome
use Rattle.nm_set_c.specs.declared.owner.Owner.{Owner}

-- a handle is closed; or it is open and owns something; or a call uses it, and what it owned then
-- is in its memory or with the call
pub data Hold : Type 0 where
  Closed : Hold
  Open : Owner → Hold
  InUse : Option Owner → Hold

-- the state of a handle by its two words: what the first one leads to, and a second one that is 0
-- while no call uses the handle
abbrev pub hold : Option Owner → ℕ → Hold
hold None zero = Closed
hold (Some x) zero = Open x
hold x (suc n) = InUse x

-- the state of a handle
unfoldable pub held_by : Handle → Hold
held_by h = hold h.place.held h.in_use

-- a call for what a handle owns is refused if the handle is closed, or if another call uses it, and
-- in no other case; the handle is unchanged
unfoldable pub IsRefused : Hold → Hold → Outcome → Type 0
IsRefused Closed new o = (o ≡ outcome.Closed) × (new ≡ Closed)
IsRefused (Open x) new o = ⊥
IsRefused (InUse x) new o = (o ≡ outcome.InUse) × (new ≡ InUse x)

-- a call that is to open a handle is refused if the handle is open, or if another call uses it, and
-- in no other case; the handle is unchanged
unfoldable pub CannotOpen : Hold → Hold → Outcome → Type 0
CannotOpen Closed new o = ⊥
CannotOpen (Open x) new o = (o ≡ outcome.Open) × (new ≡ Open x)
CannotOpen (InUse x) new o = (o ≡ outcome.InUse) × (new ≡ InUse x)
