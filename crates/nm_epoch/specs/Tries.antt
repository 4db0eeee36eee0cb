-- The log of a pin, oldest entry first.
use Rattle.std.specs.Prelude.{◌≡◌, ◌<◌, ℕ, zero, suc, List, [], ◌∷◌, ◌++◌, Option, Some, None}
use Rattle.nm_model.specs.declared.event.Event.{Event}
use Rattle.nm_model.specs.declared.event.Event.TheVariants.{Sight, SightFor, Announce, Leave}
use Rattle.nm_model.specs.declared.reply.Reply.TheVariants.{Saw, Pinned, Missed, Announced, Departed}
use Rattle.nm_model.specs.declared.arrivals.Call.{Call}
use Rattle.nm_model.specs.Walks.{Entry}
use Rattle.nm_epoch.specs.declared.pinning.Confirming.{Confirming}
use Rattle.nm_epoch.specs.declared.pinning.Confirming.TheVariants.{Plain, For}

-- the sight by which a pin is confirmed
abbrev pub confirming : Confirming → Event
confirming Plain = Sight
confirming (For op key) = SightFor op key

-- the call that begins with that sight
abbrev pub call_confirmed : Confirming → Option Call
call_confirmed Plain = None
call_confirmed (For op key) = Some (record { op = op; key = key })

-- an announce, followed at once by that sight, whose reply is `Missed`
abbrev pub LostTry : Event → List Entry → List Entry → Type 0
LostTry by old new = (a e : ℕ)
    × (new ≡ (old ++ (Announce, Announced a) ∷ []) ++ (by, Missed e) ∷ [])

-- an announce, followed at once by that sight, whose reply is `Pinned e`
abbrev pub WonTry : Event → ℕ → List Entry → List Entry → Type 0
WonTry by e old new = (a : ℕ) × (new ≡ (old ++ (Announce, Announced a) ∷ []) ++ (by, Pinned e) ∷ [])

-- this many tries were lost, one after the other
abbrev pub LostTries : Event → ℕ → List Entry → List Entry → Type 0
LostTries by zero old new = new ≡ old
LostTries by (suc n) old new = (mid : List Entry) × LostTries by n old mid × LostTry by mid new

-- one sight, which found the epoch e
abbrev pub after_sight : List Entry → ℕ → List Entry
after_sight old e = old ++ (Sight, Saw e) ∷ []

-- one sight, fewer lost tries than are allowed, and one that was won (Fraser, section 5)
abbrev pub IsPinnedBy : Event → ℕ → List Entry → List Entry → ℕ → Type 0
IsPinnedBy by tries old new e = (first n : ℕ) × (mid : List Entry) × (n < tries)
    × LostTries by n (after_sight old first) mid × WonTry by e mid new

-- one sight, as many lost tries as are allowed, and a leave; with no tries the sight only (Fraser,
-- section 5)
abbrev pub IsMoved : Event → ℕ → List Entry → List Entry → Type 0
IsMoved by zero old new = (first : ℕ) × (new ≡ after_sight old first)
IsMoved by (suc n) old new = (first : ℕ) × (mid : List Entry)
    × LostTries by (suc n) (after_sight old first) mid × (new ≡ mid ++ (Leave, Departed) ∷ [])
