-- Why the workers of a script have not all played their lines.
use Rattle.std.specs.Prelude.{ℕ}
use Rattle.nm_files.specs.declared.read.fault.RunFault.{RunFault}
use Rattle.nm_files.specs.declared.read.fault.RunFault.TheVariants as run

-- memory or a thread was refused
abbrev pub IsRefusal : RunFault → Type 0
IsRefusal run.NoMemory = Unit {0}
IsRefusal run.Thread = Unit {0}
IsRefusal _ = ⊥

-- memory or a thread was refused, or a gate stopped a worker
abbrev pub IsStop : RunFault → Type 0
IsStop run.NoMemory = Unit {0}
IsStop run.Thread = Unit {0}
IsStop (run.Gate worker line) = Unit {0}
IsStop _ = ⊥

-- if a gate stopped a worker before a line, the property holds for them
abbrev pub IfStopped : (ℕ → ℕ → Type 0) → RunFault → Type 0
IfStopped P (run.Gate worker line) = P worker line
IfStopped P (run.Line line reason) = Unit {0}
IfStopped P run.NoMemory = Unit {0}
IfStopped P run.Read = Unit {0}
IfStopped P run.Write = Unit {0}
IfStopped P run.Thread = Unit {0}
