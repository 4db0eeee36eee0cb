-- Two workers that have each taken one key out of a map.
use Rattle.std.specs.Prelude.{◌≡◌, ◌≢◌, ℕ, true, List, ◌∷◌, ◌++◌, Contains}
use Rattle.nm_model.specs.declared.event.Op.TheVariants.{Delete}
use Rattle.nm_model.specs.declared.trace.Turn.{Turn}
use Rattle.nm_model.specs.Acts.{Act}
use Rattle.nm_model.specs.Histories.{HasHistory, IsHistory}
use Rattle.nm_steps.specs.declared.view.Stored.{Stored}
use Rattle.nm_steps.specs.Rules.{Extends}
use Rattle.nm_steps.specs.Steps.{PassView}
use Rattle.nm_calls.specs.MapHistories.{HasDelete, IsMapHistory, MapAct, PutsThere, WonOneFlag}
use Rattle.nm_calls.specs.Maps.{HasTaken}
use Rattle.nm_calls.specs.Moments.{AnswerHasMoment}

-- from p to q a delete of the key returned true, and took this value with the one flag that its worker
-- won meanwhile
pub record TookByDelete (p q : PassView) (k v : ℕ) : Type 0 where
  pub taken : HasTaken p q k v
  pub moment : AnswerHasMoment p q Delete k true
  pub one : WonOneFlag q.view.number p.view.past q.view.past

-- before this act a true insert of its key, or a put, put its value there
abbrev pub WasPutBefore : List MapAct → MapAct → Type 0
WasPutBefore valued a = (front back : List MapAct) × (valued ≡ front ++ a ∷ back)
    × (b : MapAct) × Contains front b × PutsThere b a.value × (b.act.key ≡ a.act.key)

-- a true delete of the key by the worker has this value, which an insert or a put has put before it
pub record HasOwnDelete (valued : List MapAct) (w k v : ℕ) : Type 0 where
  pub pin : ℕ
  pub act : HasDelete valued w pin k v
  pub put : WasPutBefore valued act.0

-- up to a moment of what q has seen, each history of the turns is one of a plain map. Two acts of it are
-- deletes of the key by the two workers, with these values
pub record AreTwoDeletes (q : PassView) (w u k x y : ℕ) : Type 0 where
  pub until : List Turn
  pub ends : Extends q.view.past until
  pub stores : List Stored
  pub history : HasHistory q.view.layout until
  pub each : (acts : List Act) → IsHistory q.view.layout until acts → (valued : List MapAct)
      × IsMapHistory q.view.layout until stores acts valued
      × (a : HasOwnDelete valued w k x) × (b : HasOwnDelete valued u k y) × (a.act.0 ≢ b.act.0)
