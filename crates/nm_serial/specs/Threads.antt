-- Workers in threads of their own.
use Rattle.std.specs.Prelude.{◌≡◌, ◌<◌, ◌==◌, ◌++◌, if◌then◌else◌, ℕ, List, [], ◌∷◌, length, slice_index_or, Option, Some, None, Result, Ok, Err, IfOk, IfErr, Vec}
use Rattle.std.specs.Global.{Global}
use Rattle.nm_serial.specs.declared.answer.Answer.{Answer}
use Rattle.nm_serial.specs.AnswerLines.{lines}
use Rattle.nm_files.specs.declared.read.fault.RunFault.{RunFault}
use Rattle.nm_files.specs.declared.read.fault.RunFault.TheVariants as run
use Rattle.nm_files.specs.declared.read.entry.ScriptCall.{ScriptCall}
use Rattle.nm_steps.specs.Steps.{TreeView, IsOf}
use Rattle.nm_tree.specs.Workers.{WorkerView}
use Rattle.nm_serial.specs.declared.own_lines.Stop.{Stop}
use Rattle.nm_serial.specs.declared.own_lines.Stop.TheVariants as stop
use Rattle.nm_serial.specs.declared.threads.Played.{Played}
use Rattle.nm_serial.specs.Makes.{PlaysOwn, StopsOwn}

-- a worker has played its lines of a script, one after the other; or the gate stopped it before one
-- of them; or it was refused memory
pub record HasPlayed (lets stops : ℕ → ℕ → Type 0) (b : TreeView) (tries : ℕ) (es : List (ℕ × ScriptCall))
    (w z : WorkerView) (answers : Result (Vec Answer Global) Stop) : Type 0 where
  pub own : IsOf b z.pass
  pub number : z.pass.view.number ≡ w.pass.view.number
  pub queues : length z.queues ≡ length w.queues
  pub did : IfOk answers (λ v. PlaysOwn lets b tries w.pass.view.number 2 es v.items w z)
  pub stopped : IfErr answers (StopsOwn lets stops b tries w.pass.view.number 2 es w z)

-- each of the workers has done so, in their order
pub record HaveAllPlayed (lets stops : ℕ → ℕ → Type 0) (b : TreeView) (tries : ℕ)
    (es : List (ℕ × ScriptCall)) (ws : List WorkerView) (ps : List Played) : Type 0 where
  pub all : length ps ≡ length ws
  pub each : (k : ℕ) (w : WorkerView) (p : Played) → k < length ws
      → HasPlayed lets stops b tries es (slice_index_or ws k w) (slice_index_or ps k p).worker
      (slice_index_or ps k p).answers

-- the fault of a worker and of the later ones: `NoMemory` if any was refused memory, and otherwise
-- the gate's stop of the first one that was stopped
abbrev pub fault_before : ℕ → Result (Vec Answer Global) Stop → Option RunFault → Option RunFault
fault_before n (Ok v) later = later
fault_before n (Err stop.NoMemory) later = Some run.NoMemory
fault_before n (Err (stop.Gate line)) (Some run.NoMemory) = Some run.NoMemory
fault_before n (Err (stop.Gate line)) later = Some (run.Gate n line)

-- why the workers have not all played their lines; none if they all have
abbrev pub fault_in : List Played → Option RunFault
fault_in [] = None
fault_in (p ∷ ps) = fault_before p.worker.pass.view.number p.answers (fault_in ps)

-- ---- their lines

-- the lines of one worker
abbrev pub own_rows : ℕ → List (List ℕ) → List (ℕ × ScriptCall) → List (List ℕ)
own_rows n rows [] = []
own_rows n [] (e ∷ es) = []
own_rows n (row ∷ rows) (e ∷ es) = if e.0 == n then row ∷ own_rows n rows es else own_rows n rows es

abbrev pub answers_of : Result (Vec Answer Global) Stop → List Answer
answers_of (Ok v) = v.items
answers_of (Err s) = []

-- the lines of each worker with their answers, worker by worker
abbrev pub all_rows : List (List ℕ) → List (ℕ × ScriptCall) → List Played → List ℕ
all_rows rows es [] = []
all_rows rows es (p ∷ ps) = lines (own_rows p.worker.pass.view.number rows es)
    (answers_of p.answers) ++ all_rows rows es ps
