-- A delete that expects a value: its result as that of a delete, and what it adds to a log if the key has
-- another value.
use Rattle.std.proofs.Common.{◌≡◌, ℕ, Bool, true, false, List, refl, ap}
use Rattle.std.specs.Prelude.{Result, Ok, Err}
use Rattle.nm_edge.specs.Layouts.{Layout}
use Rattle.nm_model.specs.declared.event.Event.TheVariants.{SightFor}
use Rattle.nm_model.specs.declared.event.Op.TheVariants.{Delete}
use Rattle.nm_model.specs.Walks.{Entry}
use Rattle.nm_calls.specs.declared.fault.CallFault.{CallFault}
use Rattle.nm_puts.specs.Removing.{OtherDid}
use Rattle.nm_tree.specs.declared.removing.RemoveOutcome.{RemoveOutcome}
use Rattle.nm_tree.specs.declared.removing.RemoveOutcome.TheVariants as outcome
use Rattle.nm_tree.specs.Removing.{AsDelete, IfOther, outcome_of}
use Rattle.nm_tree.proofs.Unfreed.{Unfreed, by_call, flags_lost, pin_unfreed, seeks, then', these}

-- ---- by the result

same_fault : (g e : CallFault) → ◌≡◌ {A = Result Bool CallFault} (Err g) (Err e) → g ≡ e
same_fault g e is = let same = is in cc

-- the result as that of a delete, which has the same error
pub as_if : (P Q : Result Bool CallFault → Type 0) (r : Result RemoveOutcome CallFault)
    → ((d : Result Bool CallFault) → ((e : CallFault) → d ≡ Err e → r ≡ Err e) → P d → Q d)
    → AsDelete r P → AsDelete r Q
as_if P Q (Ok outcome.Removed) f h = f (Ok true) (λ e is. absurd (let no = is in cc)) h
as_if P Q (Ok outcome.Absent) f h = f (Ok false) (λ e is. absurd (let no = is in cc)) h
as_if P Q (Ok (outcome.Other found)) f h = tt
as_if P Q (Err g) f h = f (Err g) (λ e is. ap (λ (x : CallFault). Err x) (same_fault g e is)) h

pub if_other : (P Q : ℕ → Type 0) (r : Result RemoveOutcome CallFault) → ((found : ℕ) → P found → Q found)
    → IfOther r P → IfOther r Q
if_other P Q (Ok outcome.Removed) f h = tt
if_other P Q (Ok outcome.Absent) f h = tt
if_other P Q (Ok (outcome.Other found)) f h = f found h
if_other P Q (Err g) f h = tt

-- an answer of a remove is no other value
pub as_done : (P : Result Bool CallFault → Type 0) (removed : Bool) → P (Ok removed)
    → AsDelete (Ok (outcome_of removed)) P
as_done P true h = h
as_done P false h = h

pub not_other : (P : ℕ → Type 0) (removed : Bool) → IfOther (Ok (outcome_of removed)) P
not_other P true = tt
not_other P false = tt

-- ---- another value

-- it frees no node
pub other_unfreed : (L : Layout) (k tries : ℕ) (old new : List Entry) → OtherDid L tries k old new → Unfreed old new
other_unfreed L k tries old new (pinned, epoch, ended, pin, (t, mid, few, lost, (r, c, walk, same)), leaves) =
    then' old pinned new (pin_unfreed (SightFor Delete k) (by_call Delete k) tries old pinned epoch pin)
    (then' pinned mid new (flags_lost L k t pinned mid lost)
    (then' mid ended new (seeks L k mid ended c r walk) (these _ ended new refl leaves)))
