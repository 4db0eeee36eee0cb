-- A worker that inserts a key with a value, and then gets the value or takes it out; and one that
-- gets a value under its pin.
use Rattle.std.specs.Prelude.{◌≡◌, ◌⊎◌, ◌<◌, ◌≤◌, ◌+◌, ℕ, true, List, length, Contains, Option, Some, IsSome}
use Rattle.nm_edge.specs.Layouts.{Layout}
use Rattle.nm_model.specs.declared.event.Op.TheVariants.{Insert}
use Rattle.nm_model.specs.declared.trace.Turn.{Turn}
use Rattle.nm_model.specs.Acts.{Act}
use Rattle.nm_model.specs.Histories.{HasHistory, IsHistory}
use Rattle.nm_steps.specs.declared.view.Stored.{Stored}
use Rattle.nm_steps.specs.Rules.{Extends}
use Rattle.nm_steps.specs.Steps.{HasSeenAllOf, PassView}
use Rattle.nm_calls.specs.MapHistories.{IsMapHistory, MapAct, map_at}
use Rattle.nm_calls.specs.Maps.{HasPut, HasTaken, MapGave, MapGaveUnderPin}
use Rattle.nm_tree.specs.Workers.{WorkerView}

-- the worker put the key into the map with this value after all that p had seen. After that, and
-- before q, the map gave this answer to a look-up of the key
pub record PutsThenGets (p q : PassView) (k v : ℕ) (found : Option ℕ) : Type 0 where
  pub mid : PassView
  pub put : HasPut p mid k v
  pub on : HasSeenAllOf q mid
  pub gave : MapGave mid q k found

-- one of these acts is a true insert of the key by the worker, with this moment and this value
abbrev pub HasInsert : List MapAct → ℕ → ℕ → ℕ → ℕ → Type 0
HasInsert acts w moment k v = (a : MapAct) × Contains acts a × (a.act.worker ≡ w)
    × (a.act.moment ≡ moment) × (a.act.op ≡ Insert) × (a.act.key ≡ k) × (a.act.answer ≡ true)
    × (a.value ≡ v)

-- up to a moment between the turns `was` and `now`, each history of the turns is one of a plain
-- map. An insert of the worker puts v under the key at a moment after `was`, and the map has the
-- key with `found` at a later one
pub record AreOfOneMap (L : Layout) (was now : List Turn) (w k v found : ℕ) : Type 0 where
  pub until : List Turn
  pub ends : Extends now until
  pub stores : List Stored
  pub history : HasHistory L until
  pub put : ℕ
  pub got : ℕ
  pub later : length was < put
  pub order : put < got
  pub within : got ≤ length until
  pub each : (acts : List Act) → IsHistory L until acts → (valued : List MapAct)
      × IsMapHistory L until stores acts valued × HasInsert valued w put k v
      × (map_at valued put k ≡ Some v) × (map_at valued got k ≡ Some found)

-- the worker put the key into the map with v after all that p had seen. After that, and before q,
-- it took the key with the value `taken` out of the map
pub record PutsThenTakes (p q : PassView) (k v taken : ℕ) : Type 0 where
  pub mid : PassView
  pub put : HasPut p mid k v
  pub on : HasSeenAllOf q mid
  pub took : HasTaken mid q k taken

-- the worker is pinned, and since w the map gave this answer to a look-up of the key, at a moment of
-- that pin
pub record IsHoldingAnswer (w z : WorkerView) (k : ℕ) (found : Option ℕ) : Type 0 where
  pub held : IsSome z.held
  pub gave : MapGaveUnderPin w.pass z.pass k found

-- a writer put the key into the map with v. A reader whom it told of that asked for the key, under a
-- pin that may be older. It got what the map had at a moment after the put (Herlihy and Wing)
pub record GotAfterPut (p writer reader : PassView) (k v : ℕ) (found : Option ℕ) : Type 0 where
  pub put : HasPut p writer k v
  pub asked : PassView
  pub heard : HasSeenAllOf asked writer
  pub on : HasSeenAllOf reader asked
  pub got : MapGaveUnderPin asked reader k found
  pub later : length put.so_far + 1 < length got.so_far

-- the worker put the key into the map with v, which is this value; or the map gave this value to a
-- look-up of the key
abbrev pub HasPutOrFound : PassView → PassView → ℕ → ℕ → ℕ → Type 0
HasPutOrFound p q k v found = (HasPut p q k v × (found ≡ v)) ⊎ MapGave p q k (Some found)
