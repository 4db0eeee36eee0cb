-- What a scan of a map returns and leaves that writes each key with its value: m is the worker before
-- the call, n the worker after it, and o the outcome.
use Rattle.std.specs.Prelude.{◌≡◌, ◌⊎◌, ℕ, List, IfErr}
use Rattle.nm_edge.specs.Keys.{IsKey}
use Rattle.nm_edge.specs.declared.edge.Side.{Side}
use Rattle.nm_calls.specs.declared.map_scanning.MapEntry.{MapEntry}
use Rattle.nm_calls.specs.MapScans.{HadEntries, keys_of}
use Rattle.nm_set.specs.Seats.{MemberView}
use Rattle.nm_set_c.specs.Scanning.{Scans}
use Rattle.nm_set_c.specs.declared.outcome.Outcome.{Outcome}
use Rattle.nm_set_c.specs.declared.outcome.Outcome.TheVariants as outcome

-- of the keys of the entries it is as of the keys of a scan. For each entry that was written the map
-- had its key with its value at a moment of the call. After an error the entries are as they were
pub record ScansEntries (side : Side) (tries from to : ℕ) (old new : List MapEntry)
    (count count_now next next_now : ℕ) (m n : MemberView) (o : Outcome) : Type 0 where
  pub keys : Scans side tries from to (keys_of old) (keys_of new) count count_now next next_now m n o
  pub finds : HadEntries m.worker.pass n.worker.pass new keys.answer
  pub kept : IfErr keys.answer (λ e. new ≡ old)

-- if the number is a key, the worker's call is made; otherwise the outcome is `Key`, and nothing
-- has changed
abbrev pub TellsScanEntries : Side → ℕ → ℕ → ℕ → List MapEntry → List MapEntry → ℕ → ℕ → ℕ → ℕ
    → MemberView → MemberView → Outcome → Type 0
TellsScanEntries side tries from to old new count count_now next next_now m n o =
    (IsKey from × ScansEntries side tries from to old new count count_now next next_now m n o)
    ⊎ ((IsKey from → ⊥) × (o ≡ outcome.Key) × (n ≡ m) × (new ≡ old) × (count_now ≡ count)
    × (next_now ≡ next))
