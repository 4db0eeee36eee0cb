-- What a call that looks up several keys returns and leaves: m is the worker before the call, n the
-- worker after it, and o the outcome.
use Rattle.std.specs.Prelude.{◌≡◌, ◌⊎◌, ℕ, if◌then◌else◌, Bool, true, false, List, map, All, Result, Ok, Err, IfOk, IfErr}
use Rattle.nm_edge.specs.Keys.{IsKey}
use Rattle.nm_calls.specs.declared.many.Query.{Query}
use Rattle.nm_calls.specs.InTurns.{key_of}
use Rattle.nm_calls.specs.declared.fault.CallFault.{CallFault}
use Rattle.nm_set.specs.InTurns.{AskedMany}
use Rattle.nm_set.specs.declared.fault.PinnedGetFault.{PinnedGetFault}
use Rattle.nm_set.specs.declared.fault.PinnedGetFault.TheVariants as getting
use Rattle.nm_set.specs.Maps.{SaysPinnedGetMany}
use Rattle.nm_set.specs.Seats.{MemberView}
use Rattle.nm_set_c.specs.Outcomes.{of_fault}
use Rattle.nm_set_c.specs.declared.many.Lookup.{Lookup}
use Rattle.nm_set_c.specs.declared.map_many.MapLookup.{MapLookup}
use Rattle.nm_set_c.specs.declared.outcome.Outcome.{Outcome}
use Rattle.nm_set_c.specs.declared.outcome.Outcome.TheVariants as outcome

-- `key_looked_up`, `map_key_looked_up`: the number that is looked up in a set, and in a map
abbrev pub key_looked_up : Lookup → ℕ
key_looked_up l = l.key

abbrev pub map_key_looked_up : MapLookup → ℕ
map_key_looked_up l = l.key

-- the answer of a query, as it is written
abbrev pub found_bit : Bool → ℕ
found_bit true = 1
found_bit false = 0

-- `lookup_of`, `map_lookup_of`: a query with its answer, as it is written
abbrev pub lookup_of : Query → Lookup
lookup_of q = record { key = q.key; found = found_bit q.found }

abbrev pub map_lookup_of : Query → MapLookup
map_lookup_of q =
    record { key = q.key; found = found_bit q.found; value = if q.found then q.value else 0 }

-- each of the numbers is a key. `key` is the number of a look-up
abbrev pub AreKeys : {A : Type 0} → (A → ℕ) → List A → Type 0
AreKeys key ls = All (λ l. IsKey (key l)) ls

-- no look-up was made: one of the numbers is no key, or else memory was refused
abbrev pub IsUnasked : {A : Type 0} → (A → ℕ) → List A → Outcome → Type 0
IsUnasked key ls o =
    ((o ≡ outcome.NoMemory) × AreKeys key ls) ⊎ ((o ≡ outcome.Key) × (AreKeys key ls → ⊥))

-- the outcome of such a call, by its answer
abbrev pub of_many : Result (Unit {0}) CallFault → Outcome
of_many (Ok u) = outcome.Done
of_many (Err f) = of_fault f

-- the worker's call looks up these keys, and the outcome is that of its answer; the keys' answers
-- are written if there was no error, and else nothing is written
pub record LooksUp (tries : ℕ) (old new : List Lookup) (m n : MemberView) (o : Outcome) : Type 0 where
  pub asked : List Query
  pub answered : List Query
  pub keys : map key_of asked ≡ map key_looked_up old
  pub answer : Result (Unit {0}) CallFault
  pub told : o ≡ of_many answer
  pub tree : n.tree ≡ m.tree
  pub says : AskedMany m.tree.layout tries asked answered m.worker n.worker answer
  pub written : IfOk answer (λ u. new ≡ map lookup_of answered)
  pub kept : IfErr answer (λ f. new ≡ old)

-- no look-up was made, and nothing has changed; or the worker's call was made
abbrev pub TellsContainsMany : ℕ → List Lookup → List Lookup → MemberView → MemberView → Outcome → Type 0
TellsContainsMany tries old new m n o =
    (IsUnasked key_looked_up old o × (n ≡ m) × (new ≡ old)) ⊎ LooksUp tries old new m n o

-- ---- the values of several keys, under the caller's pin

abbrev pub of_pinned_many : Result (Unit {0}) PinnedGetFault → Outcome
of_pinned_many (Ok u) = outcome.Done
of_pinned_many (Err getting.NotPinned) = outcome.NotPinned
of_pinned_many (Err getting.Busy) = outcome.Busy

-- the worker's call looks up the values of these keys, and the outcome is that of its answer; the
-- keys' answers are written if there was no error, and else nothing is written
pub record LooksUpValues (old new : List MapLookup) (m n : MemberView) (o : Outcome) : Type 0 where
  pub asked : List Query
  pub answered : List Query
  pub keys : map key_of asked ≡ map map_key_looked_up old
  pub answer : Result (Unit {0}) PinnedGetFault
  pub told : o ≡ of_pinned_many answer
  pub tree : n.tree ≡ m.tree
  pub says : SaysPinnedGetMany m.tree.layout asked answered m.worker n.worker answer
  pub written : IfOk answer (λ u. new ≡ map map_lookup_of answered)
  pub kept : IfErr answer (λ f. new ≡ old)

-- no look-up was made, and nothing has changed; or the worker's call was made
abbrev pub TellsGetManyPinned : List MapLookup → List MapLookup → MemberView → MemberView → Outcome → Type 0
TellsGetManyPinned old new m n o =
    (IsUnasked map_key_looked_up old o × (n ≡ m) × (new ≡ old)) ⊎ LooksUpValues old new m n o
