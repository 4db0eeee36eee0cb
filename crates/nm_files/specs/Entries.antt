-- A file by its lines: a schedule is a header and events of workers in their order; a script is a
-- header and calls.
use Rattle.std.specs.Prelude.{◌<◌, ℕ, List, ◌∷◌, Result, Err, if◌then◌else◌}
use Rattle.std.specs.List.{list_all}
use Rattle.nm_model.specs.declared.event.Event.{Event}
use Rattle.nm_files.specs.declared.read.entry.ScriptCall.{ScriptCall}
use Rattle.nm_files.specs.declared.read.fault.Reason.{Reason}
use Rattle.nm_files.specs.declared.read.fault.Reason.TheVariants as reason
use Rattle.nm_files.specs.declared.read.header.Command.{Command}
use Rattle.nm_files.specs.declared.read.header.Command.TheVariants.{Replay}
use Rattle.nm_files.specs.declared.read.header.Header.{Header}
use Rattle.nm_files.specs.Lines.{parts, fields, is_field}
use Rattle.nm_files.specs.Values.{both, worker_of}
use Rattle.nm_files.specs.Kinds.{Kind, made_by, events, calls, IsAllowed}
use Rattle.nm_files.specs.Headers.{header_of, SerialAlone}
use Rattle.nm_files.specs.Files.{Fault, File, file_from}

-- the worker and the entry of a line, from its fields
unfoldable pub entry_of : {X : Type 0} → List (Kind X) → Header → List (List ℕ) → Result (ℕ × X) Reason
entry_of kinds header (worker ∷ word ∷ arguments) =
    both (worker_of header.layout.workers worker)
    (made_by kinds header.layout.workers header.forms word arguments)
entry_of kinds header _ = Err reason.Form

-- the worker and the entry of a line, in a file with that header
abbrev pub line_of : {X : Type 0} → List (Kind X) → Header → List ℕ → Result (ℕ × X) Reason
line_of kinds header line =
    if list_all is_field (fields line) then entry_of kinds header (fields line)
    else Err reason.Form

abbrev pub first_line_of : Command → List ℕ → Result Header Reason
first_line_of command line = header_of command (fields line)

-- the contents of a file for that command from its bytes, in lines of these kinds
abbrev pub file_of : {X : Type 0} → List (Kind X) → Command → List ℕ → Result (File Header (ℕ × X)) Fault
file_of kinds command bytes = file_from (first_line_of command) (line_of kinds) (parts bytes)

-- a header, and the events of workers
abbrev pub Schedule : Type 0
Schedule = File Header (ℕ × Event)

abbrev pub schedule_of : List ℕ → Result Schedule Fault
schedule_of bytes = file_of events Replay bytes

-- a header, and the calls of workers
abbrev pub Script : Type 0
Script = File Header (ℕ × ScriptCall)

abbrev pub script_of : Command → List ℕ → Result Script Fault
script_of command bytes = file_of calls command bytes

-- the worker is one of the header's, and its call one that the file may have
abbrev pub IsEntryOf : Header → ℕ × ScriptCall → Type 0
IsEntryOf header e = (e.0 < header.layout.workers)
    × IsAllowed header.layout.workers header.forms e.1

abbrev pub ResignsInSerial : Command → Header → Type 0
ResignsInSerial command header = SerialAlone command header.forms.is_extended
