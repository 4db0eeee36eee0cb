-- What is written for a script.
use Rattle.std.specs.Prelude.{◌≡◌, ℕ, List, ◌++◌, length, map, drop, Some, None, Option, Ok}
use Rattle.std.specs.Io.KnownBytes.{Appends}
use Rattle.nm_serial.specs.declared.answer.Answer.{Answer}
use Rattle.nm_serial.specs.AnswerLines.{lines}
use Rattle.nm_files.specs.declared.read.fault.RunFault.{RunFault}
use Rattle.nm_files.specs.declared.read.fault.RunFault.TheVariants as run
use Rattle.nm_files.specs.Lines.{parts}
use Rattle.nm_files.specs.declared.read.header.Command.{Command}
use Rattle.nm_files.specs.Entries.{Script, script_of}
use Rattle.nm_steps.specs.Steps.{TreeView}
use Rattle.nm_edge.specs.declared.placement.Fit.TheVariants.{FirstFit}
use Rattle.nm_tree.specs.Workers.{WorkerView, AreNew, HaveFit}
use Rattle.nm_serial.specs.Crews.{PlaysAll, present}
use Rattle.nm_serial.specs.Endings.{IsEnding}
use Rattle.nm_serial.specs.Stops.{IfStopped}
use Rattle.nm_serial.specs.Threads.{HaveAllPlayed, all_rows, fault_in}
use Rattle.nm_serial.specs.declared.threads.Played.{Played}

-- a tree of a script's sizes, with its workers, which have done nothing yet, and which claim the
-- lowest slot that they can
pub record IsOpened (s : Script) (tree : TreeView) (workers : List WorkerView) : Type 0 where
  pub sizes : tree.layout ≡ s.header.layout
  pub new : AreNew tree 0 workers
  pub all : length workers ≡ s.header.layout.workers
  pub fit : HaveFit FirstFit workers

-- The output of `serial`. The lines are played one after the other on a new tree, each by the
-- contract of its call. The output has each line with its answer, and then the last lines. These
-- are about that tree after the workers that have not resigned have closed it
pub record IsSerialText (s : Script) (rows : List (List ℕ)) (text : List ℕ) : Type 0 where
  pub tree : TreeView
  pub workers : List WorkerView
  pub opened : IsOpened s tree workers
  pub answers : List Answer
  pub crew : List (Option WorkerView)
  pub played : PlaysAll tree s.header.tries s.entries answers (map Some workers) crew
  pub ending : List ℕ
  pub ends : IsEnding tree (present crew) ending
  pub text_is : text ≡ lines rows answers ++ ending

-- The output of `stress`. Each worker has played its lines on one new tree, one after the other,
-- and none was stopped. The output has the lines of each worker with their answers, worker by
-- worker, and then the last lines. These are about that tree after all workers have closed it
pub record IsStressText (lets stops : ℕ → ℕ → Type 0) (s : Script) (rows : List (List ℕ))
    (text : List ℕ) : Type 0 where
  pub tree : TreeView
  pub workers : List WorkerView
  pub opened : IsOpened s tree workers
  pub ended : List Played
  pub played : HaveAllPlayed lets stops tree s.header.tries s.entries workers ended
  pub all : fault_in ended ≡ None
  pub ending : List ℕ
  pub ends : IsEnding tree (map (λ p. p.worker) ended) ending
  pub text_is : text ≡ all_rows rows s.entries ended ++ ending

-- A stop of `stress`: the gate stopped workers, and none was refused memory. This worker is the
-- first that was stopped, and it was stopped before this line
pub record IsGateStop (lets stops : ℕ → ℕ → Type 0) (s : Script) (worker line : ℕ) : Type 0 where
  pub tree : TreeView
  pub workers : List WorkerView
  pub opened : IsOpened s tree workers
  pub ended : List Played
  pub played : HaveAllPlayed lets stops tree s.header.tries s.entries workers ended
  pub first : fault_in ended ≡ Some (run.Gate worker line)

-- the text is one for the script in the bytes of a file, with its lines from the second on
abbrev pub IsWritten : (Script → List (List ℕ) → List ℕ → Type 0) → Command → List ℕ → List ℕ
    → Type 0
IsWritten IsText command bytes text =
    (s : Script) × (script_of command bytes ≡ Ok s) × IsText s (drop 1 (parts bytes)) text

-- the writer has got such a text
abbrev pub WritesText : (Script → List (List ℕ) → List ℕ → Type 0) → Command → List ℕ
    → Option (List ℕ) → Option (List ℕ) → Type 0
WritesText IsText command bytes old new =
    (text : List ℕ) × IsWritten IsText command bytes text × Appends old new text

-- if a gate stopped the run, it stopped the script in the bytes of the file in this way
abbrev pub IfGate : (Script → ℕ → ℕ → Type 0) → Command → List ℕ → RunFault → Type 0
IfGate IsStopped command bytes e =
    IfStopped (λ worker line. (s : Script) × (script_of command bytes ≡ Ok s)
    × IsStopped s worker line) e
