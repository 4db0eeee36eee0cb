-- Objects whose numbers are the values of a map.
use Rattle.std.specs.Prelude.{◌≡◌, ◌⊎◌, ℕ, List, get_or, slice_get, Contains, Option, Some, None, Result, Ok, Err}
use Rattle.nm_steps.specs.declared.view.View.{View}
use Rattle.nm_steps.specs.Steps.{HasSeenAllOf, PassView}
use Rattle.nm_calls.specs.Maps.{MapGaveUnderPin}
use Rattle.nm_tree.specs.Workers.{WorkerView}
use Rattle.nm_set.specs.declared.fault.PinnedGetFault.{PinnedGetFault}
use Rattle.nm_callers.specs.Returning.{HasComeBack}

-- each object is as before, or its number is one of these
abbrev pub ChangesOnly : List ℕ → List ℕ → List ℕ → Type 0
ChangesOnly numbers old new = (i : ℕ) → (get_or new i 0 ≡ get_or old i 0) ⊎ Contains numbers i

-- each object is as before, or its number has come back
abbrev pub ResetsOnlyReturned : View → List ℕ → List ℕ → Type 0
ResetsOnlyReturned v old new = (i : ℕ) → (get_or new i 0 ≡ get_or old i 0) ⊎ HasComeBack v i

-- each object with one of these numbers is reset
abbrev pub AreReset : List ℕ → List ℕ → Type 0
AreReset numbers objects = (i : ℕ) → Contains numbers i → get_or objects i 0 ≡ 0

-- the object of a number that was found
abbrev pub object_at : List ℕ → Result (Option ℕ) PinnedGetFault → Option ℕ
object_at objects (Ok (Some number)) = slice_get objects number
object_at objects (Ok None) = None
object_at objects (Err fault) = None

-- by what the worker has seen, the map had the key with the number of this object, at a moment of a pin
-- of the worker
pub record ReadsObject (z : WorkerView) (objects : List ℕ) (k object : ℕ) : Type 0 where
  pub asked : PassView
  pub at : PassView
  pub later : HasSeenAllOf z.pass at
  pub number : ℕ
  pub gave : MapGaveUnderPin asked at k (Some number)
  pub is : slice_get objects number ≡ Some object
