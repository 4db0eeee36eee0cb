-- How a run of a script may end, by the bytes of its file.
use Rattle.std.specs.Prelude.{◌≡◌, ℕ, List, Result, Ok, Err, IsOk}
use Rattle.nm_files.specs.declared.read.fault.RunFault.{RunFault}
use Rattle.nm_files.specs.declared.read.fault.RunFault.TheVariants as run
use Rattle.nm_files.specs.declared.read.header.Command.{Command}
use Rattle.nm_files.specs.Entries.{script_of}

-- the fault of a run: the file alone decides whether a line is faulty, and only a script that is
-- right can end by a gate or a thread
abbrev pub FailsSo : Command → List ℕ → RunFault → Type 0
FailsSo command bytes (run.Line line reason) =
    script_of command bytes ≡ Err (record { line = line; reason = reason })
FailsSo command bytes run.NoMemory = Unit {0}
FailsSo command bytes run.Read = ⊥
FailsSo command bytes run.Write = ⊥
FailsSo command bytes (run.Gate worker line) = IsOk (script_of command bytes)
FailsSo command bytes run.Thread = IsOk (script_of command bytes)

-- what a run returns: it succeeds only for a script that is right
abbrev pub EndsSo : {X : Type 0} → Command → List ℕ → Result X RunFault → Type 0
EndsSo command bytes (Ok x) = IsOk (script_of command bytes)
EndsSo command bytes (Err e) = FailsSo command bytes e

-- in one thread neither a gate nor a thread ends a run
abbrev pub IsOfOneThread : RunFault → Type 0
IsOfOneThread (run.Gate worker line) = ⊥
IsOfOneThread run.Thread = ⊥
IsOfOneThread _ = Unit {0}
