-- What a call may return if its worker runs alone.
use Rattle.std.specs.Prelude.{Result, Ok, Err}
use Rattle.nm_calls.specs.declared.fault.CallFault.{CallFault}
use Rattle.nm_calls.specs.declared.fault.CallFault.TheVariants as fault
use Rattle.nm_tree.specs.Answers.{LacksRoom}
use Rattle.nm_tree.specs.Workers.{WorkerView}

-- the call was answered, or there were too few slots, or too little memory
abbrev pub IsAnswered : {A : Type 0} → Result A CallFault → Type 0
IsAnswered (Ok answer) = Unit {0}
IsAnswered (Err fault.Full) = Unit {0}
IsAnswered (Err fault.NoMemory) = Unit {0}
IsAnswered (Err _) = ⊥

-- so it is, unless the worker's own queue has less room than a try needs
abbrev pub IsAnsweredWithRoom : {A : Type 0} → WorkerView → Result A CallFault → Type 0
IsAnsweredWithRoom z r = (LacksRoom z → ⊥) → IsAnswered r
