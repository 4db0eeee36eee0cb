-- Scans of a map: the entries that they write.
use Rattle.std.specs.Prelude.{◌≡◌, ◌<◌, ◌≤◌, ◌&&◌, ℕ, nat_le, nat_lt, if◌then◌else◌, List, [], ◌∷◌, map, Some, Result, IfOk}
use Rattle.std.specs.List.{AllWithin}
use Rattle.nm_edge.specs.Keys.{IsKey}
use Rattle.nm_steps.specs.declared.view.Stored.{Stored}
use Rattle.nm_steps.specs.Rules.{ExtendsStores}
use Rattle.nm_steps.specs.Steps.{Continues, PassView}
use Rattle.nm_walks.specs.Telling.{GoesOn}
use Rattle.nm_calls.specs.declared.fault.CallFault.{CallFault}
use Rattle.nm_calls.specs.declared.map_scanning.MapEntry.{MapEntry}
use Rattle.nm_calls.specs.declared.scanning.Scanned.{Scanned}
use Rattle.nm_calls.specs.declared.stretches.Stretch.{Stretch}
use Rattle.nm_calls.specs.declared.scan_plan.What.{What}
use Rattle.nm_calls.specs.declared.scan_plan.What.TheVariants.{Keys, Entries}
use Rattle.nm_calls.specs.Maps.{HasReadValue, WasMapped}
use Rattle.nm_calls.specs.PlainWalks.{HasEndedAt}

-- the keys of these entries
abbrev pub keys_of : List MapEntry → List ℕ
keys_of entries = map (λ (e : MapEntry). e.key) entries

-- between p and q the map had the key of this entry with its value. It had it by the first of the
-- stores that q has seen
abbrev pub HadEntry : PassView → PassView → MapEntry → Type 0
HadEntry p q e = (first : List Stored) × ExtendsStores q.view.stores first
    × WasMapped q.view.layout p.view.past q.view.past first q.view.number e.key (Some e.value)

-- so it had each entry that a scan wrote
abbrev pub HadEntries : PassView → PassView → List MapEntry → Result Scanned CallFault → Type 0
HadEntries p q out r = IfOk r (λ s. AllWithin (HadEntry p q) out 0 s.count)

-- ---- while a scan walks

-- the keys that it has written: into `out`, or in entries
abbrev pub keys_in : What → List ℕ → List MapEntry → List ℕ
keys_in Keys out entries = out
keys_in Entries out entries = keys_of entries

-- until a value is read, its entry has the slot of the leaf with the key
abbrev pub leaf_of : ℕ → ℕ → MapEntry
leaf_of k slot = record { key = k; value = slot }

-- a walk has ended at this leaf, which has the key
abbrev pub IsLeafOf : PassView → MapEntry → Type 0
IsLeafOf p e = IsKey e.key × HasEndedAt p e.key e.value

-- the leaf at which the walk for a stretch has ended, if the key that it found is one of the stretch
abbrev pub EndsAt : PassView → Stretch → ℕ → Type 0
EndsAt p d leaf = d.next.slot ≡ 0 → d.low ≤ d.found → d.found < d.high → HasEndedAt p d.found leaf

abbrev pub leaf_in : Stretch → ℕ → List MapEntry
leaf_in d leaf = if nat_le d.low d.found && nat_lt d.found d.high then leaf_of d.found leaf ∷ [] else []

-- under the pin that o has, a walk for the key of this entry has ended at a leaf with the key, and the
-- value of the leaf was read after it
pub record HasReadEntry (o q : PassView) (e : MapEntry) : Type 0 where
  pub at : PassView
  pub since : GoesOn o at
  pub until : Continues at q
  pub is_key : IsKey e.key
  pub read : HasReadValue at e.key e.value
