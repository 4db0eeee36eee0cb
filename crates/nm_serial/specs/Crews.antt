-- The workers of a script that one thread plays: at each number its worker, until it resigns.
use Rattle.std.specs.Prelude.{◌≡◌, ◌≢◌, ◌⊎◌, ℕ, List, [], ◌∷◌, length, slice_index_or, slice_set, All, Option, Some, None, IsSome, IfSome}
use Rattle.nm_serial.specs.declared.answer.Answer.{Answer}
use Rattle.nm_serial.specs.declared.answer.Answer.TheVariants as answer
use Rattle.nm_serial.specs.declared.answer.Refusal.TheVariants as refused
use Rattle.nm_files.specs.declared.read.entry.ScriptCall.{ScriptCall}
use Rattle.nm_files.specs.declared.read.entry.ScriptCall.TheVariants.{Resign}
use Rattle.nm_steps.specs.Steps.{TreeView, IsOf}
use Rattle.nm_tree.specs.Resigning.{HasResigned}
use Rattle.nm_tree.specs.Workers.{WorkerView}
use Rattle.nm_serial.specs.Makes.{HasMade}

-- the workers at their places are of that tree
abbrev pub AreCrewOf : TreeView → List (Option WorkerView) → Type 0
AreCrewOf b crew = All (λ o. IfSome o (λ w. IsOf b w.pass)) crew

-- the worker of that number, unless it has resigned
abbrev pub worker_at : List (Option WorkerView) → ℕ → Option WorkerView
worker_at crew n = slice_index_or crew n None

-- the workers that have not resigned
abbrev pub present : List (Option WorkerView) → List WorkerView
present [] = []
present (None ∷ crew) = present crew
present (Some w ∷ crew) = w ∷ present crew

-- how many workers the one at a place covers: itself, and those that resigned to it
abbrev pub stands_for : Option WorkerView → ℕ
stands_for None = 0
stands_for (Some w) = length w.queues

-- a call that involves no other worker; a worker that has resigned makes none
abbrev pub HasDoneAt : TreeView → ℕ → ScriptCall → Option WorkerView → Option WorkerView → Answer → Type 0
HasDoneAt b tries c None z a = (z ≡ None) × (a ≡ answer.Refused refused.Gone)
HasDoneAt b tries c (Some w) None a = ⊥
HasDoneAt b tries c (Some w) (Some z) a = HasMade b tries c w z a

-- a worker has resigned to its heir; or it is pinned by its caller, or has a pending key, and
-- nothing has changed
abbrev pub HasResignedOrStayed : WorkerView → WorkerView → WorkerView → Option WorkerView → Answer → Type 0
HasResignedOrStayed heir leaver z None a = HasResigned heir leaver z × (a ≡ answer.Resigned)
HasResignedOrStayed heir leaver z (Some w) a = (z ≡ heir) × (w ≡ leaver)
    × ((IsSome leaver.held × (a ≡ answer.Refused refused.Held))
    ⊎ ((leaver.held ≡ None) × IsSome leaver.pending × (a ≡ answer.Pending)))

-- ---- one line

-- if either has resigned, or they are the same, nothing is done
pub record IsGone (leaver heir : ℕ) (crew : List (Option WorkerView)) (a : Answer)
    (after : List (Option WorkerView)) : Type 0 where
  pub why : (leaver ≡ heir) ⊎ ((worker_at crew leaver ≡ None) ⊎ (worker_at crew heir ≡ None))
  pub same : after ≡ crew
  pub told : a ≡ answer.Refused refused.Gone

-- otherwise the leaver resigns to its heir, or may not, by the contract of `resign`
pub record HasAsked (leaver heir : ℕ) (crew : List (Option WorkerView)) (a : Answer)
    (after : List (Option WorkerView)) : Type 0 where
  pub two : leaver ≢ heir
  pub taking : WorkerView
  pub leaving : WorkerView
  pub taken : WorkerView
  pub still : Option WorkerView
  pub heir_is : worker_at crew heir ≡ Some taking
  pub leaver_is : worker_at crew leaver ≡ Some leaving
  pub did : HasResignedOrStayed taking leaving taken still a
  pub places : after ≡ slice_set (slice_set crew heir (Some taken)) leaver still

-- a line of the worker of that number, by its answer
abbrev pub PlaysLine : TreeView → ℕ → ℕ → ScriptCall → List (Option WorkerView) → Answer → List (Option WorkerView)
    → Type 0
PlaysLine b tries n (Resign heir) crew a after =
    IsGone n heir crew a after ⊎ HasAsked n heir crew a after
PlaysLine b tries n c crew a after =
    (z : Option WorkerView) × HasDoneAt b tries c (worker_at crew n) z a × (after ≡ slice_set crew n z)

-- all lines, one after the other
abbrev pub PlaysAll : TreeView → ℕ → List (ℕ × ScriptCall) → List Answer → List (Option WorkerView)
    → List (Option WorkerView) → Type 0
PlaysAll b tries [] [] crew z = z ≡ crew
PlaysAll b tries (e ∷ es) (a ∷ more) crew z =
    (mid : List (Option WorkerView)) × PlaysLine b tries e.0 e.1 crew a mid
    × PlaysAll b tries es more mid z
PlaysAll b tries _ _ crew z = ⊥
