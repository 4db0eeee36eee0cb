-- What other workers did during a call that walks under a pin without an operation, and returned
-- `Busy`, or during a scan that ended early.
use Rattle.std.specs.Prelude.{◌≡◌, ◌⊎◌, ℕ, ◌+◌, ◌*◌, ◌≤◌, false, List}
use Rattle.nm_edge.specs.declared.edge.Side.{Side}
use Rattle.nm_model.specs.Walks.{Entry}
use Rattle.nm_steps.specs.Steps.{PassView, IsSamePass, HasSeenAllOf, HasSeen}
use Rattle.nm_calls.specs.InTurns.{GiveUp as GiveUpInTurns}
use Rattle.nm_calls.specs.NearKeys.{GiveUp as GiveUpNear}
use Rattle.nm_calls.specs.PlainWalks.{GivesUpUnderPin, PlainMissed}
use Rattle.nm_calls.specs.Scans.{StopsShort}
use Rattle.nm_progress.specs.Lookups.{WasReshaped}
use Rattle.nm_progress.specs.Pins.{WasMovedPast}

-- why a look-up of several keys was busy: its number of tries was 0; or others advanced the epoch
-- at least as many times; or, only in the shape of Natarajan and Mittal, they linked or cut off a
-- node
abbrev pub ManyWereBusy : PassView → PassView → ℕ → Type 0
ManyWereBusy p q tries = (tries ≡ 0) ⊎ WasMovedPast p q tries
    ⊎ (p.view.layout.radix ≡ false) × WasReshaped p q 1

-- why a call for the next or the previous key was busy: for such a reason; or others linked or cut
-- off nodes at least half as many times as it had tries, rounded down
abbrev pub NearWasBusy : PassView → PassView → ℕ → Type 0
NearWasBusy p q tries = ManyWereBusy p q tries
    ⊎ ((times : ℕ) × (tries ≤ 2 * times + 1) × WasReshaped p q times)

-- each call whose walks give up in this way, by its contract, was busy for such a reason
abbrev pub OfEachWalked : (PassView → ℕ → List Entry → List Entry → Type 0)
    → (PassView → PassView → ℕ → Type 0) → Type 0
OfEachWalked GivesUp WasBusy = (tries : ℕ) (p q : PassView) → HasSeen p.view → HasSeen q.view
    → 5 ≤ p.view.layout.nodes → IsSamePass p q → HasSeenAllOf q p
    → PlainMissed (GivesUp p tries) tries p.view.log q.view.log → WasBusy p q tries

abbrev pub BusyManyMetInterference : Type 0
BusyManyMetInterference =
    (keys : List ℕ) → OfEachWalked (λ p tries. GiveUpInTurns p.view.layout keys) ManyWereBusy

abbrev pub BusyNearMetInterference : Type 0
BusyNearMetInterference = (side : Side) (k : ℕ)
    → OfEachWalked (λ p tries. GiveUpNear side p.view.layout tries k) NearWasBusy

-- during each scan in which a walk stopped short, by its contract, others linked or cut off a node
abbrev pub ShortScansMetInterference : Type 0
ShortScansMetInterference = (tries : ℕ) (p q : PassView) → HasSeen p.view → HasSeen q.view
    → 5 ≤ p.view.layout.nodes → IsSamePass p q → HasSeenAllOf q p
    → GivesUpUnderPin (StopsShort p.view.layout) tries p.view.log q.view.log → WasReshaped p q 1
