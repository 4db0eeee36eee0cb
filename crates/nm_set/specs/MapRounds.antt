-- What the parts of a managed call of a map leave, for the contracts inside this crate.
use Rattle.std.specs.Prelude.{◌≡◌, ◌+◌, ◌*◌, ◌≤◌, ℕ, Bool, true, false, Option, Some, Result, Ok, Err, IfErr}
use Rattle.nm_model.specs.declared.event.Op.{Op}
use Rattle.nm_model.specs.declared.event.Op.TheVariants.{Delete, Has, Insert}
use Rattle.nm_steps.specs.Rules.{ExtendsStores}
use Rattle.nm_steps.specs.Steps.{PassView, TreeView}
use Rattle.nm_calls.specs.Maps.{HasPut, HasTaken, MapGave}
use Rattle.nm_calls.specs.declared.fault.CallFault.{CallFault}
use Rattle.nm_calls.specs.declared.fault.CallFault.TheVariants as fault
use Rattle.nm_progress.specs.Alone.{RunsAlone}
use Rattle.nm_tree.specs.Answers.{FailsAlone, FreesNone, IfTaken}
use Rattle.nm_tree.specs.Workers.{WorkerView}
use Rattle.nm_set.specs.declared.managed.Options.{Options}
use Rattle.nm_set.specs.Asked.{UnlessPinned}
use Rattle.nm_set.specs.Managed.{Answers, MetInterference, StaysPending, round_bound}
use Rattle.nm_set.specs.Maps.{AnswersGet, look_bound}
use Rattle.nm_set.specs.Rounds.{IsOnward}

-- what a call for a key does with values: an insert puts the key into the map with v, or finds it there
-- with f, and a remove takes the key with f
abbrev pub MovesValue : Op → ℕ → ℕ → ℕ → PassView → PassView → Result Bool CallFault → Type 0
MovesValue Has k v f p q r = Unit {0}
MovesValue Insert k v f p q r =
    (r ≡ Ok true → HasPut p q k v) × (r ≡ Ok false → MapGave p q k (Some f))
MovesValue Delete k v f p q r = IfTaken r (HasTaken p q k f)

-- the worker has seen all stores that it had seen
abbrev pub KeepsStores : WorkerView → WorkerView → Type 0
KeepsStores w z = ExtendsStores z.pass.view.stores w.pass.view.stores

-- n look-ups of a value in a row were busy
pub record LooksWereBusy (b : TreeView) (h : Options) (n : ℕ) (w z : WorkerView) : Type 0 where
  pub onward : IsOnward (n * look_bound h.tries b.layout) w z
  pub met : 1 ≤ h.tries → MetInterference Has w.pass z.pass n
  pub stores : KeepsStores w z
  pub frees : FreesNone w z

-- at most n look-ups of a value, made until one is not busy
pub record GetsIn (b : TreeView) (h : Options) (k n : ℕ) (w z : WorkerView) (r : Result (Option ℕ) CallFault) : Type
    0 where
  pub answers : AnswersGet k (n * look_bound h.tries b.layout) n h.tries w z r
  pub stores : KeepsStores w z
  pub frees : FreesNone w z

-- `Removed`, `SaysRemoved`: what a pop learns from a managed remove, of a set or of a map
pub record Removed (b : TreeView) (h : Options) (k : ℕ) (w z : WorkerView) (r : Result Bool CallFault) : Type 0 where
  pub answers : Answers Delete k ((3 * h.rounds + 5) * round_bound h.tries b.layout)
      ((h.rounds + 1) * h.tries) w z r
  pub alone : RunsAlone w.pass z.pass → IfErr r (FailsAlone 1 1 h.tries z)
  pub pending : r ≡ Err fault.Unfinished → StaysPending h w z

abbrev pub SaysRemoved : TreeView → Options → ℕ → WorkerView → WorkerView → Result Bool CallFault → Type 0
SaysRemoved b h k w z r = UnlessPinned (Removed b h k w z r) w z r
