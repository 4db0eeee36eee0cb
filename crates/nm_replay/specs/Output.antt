-- The output for a file.
use Rattle.nm_files.specs.Chain.{◌>>=◌}
use Rattle.std.specs.Prelude.{◌≡◌, ℕ, false, List, [], ◌∷◌, ◌++◌, drop, codes, Option, Result, Ok, Err}
use Rattle.std.specs.Io.KnownBytes.{Appends}
use Rattle.nm_model.specs.declared.trace.Turn.{Turn}
use Rattle.nm_edge.specs.Layouts.{Layout}
use Rattle.nm_model.specs.declared.event.Event.{Event}
use Rattle.nm_model.specs.Runs.{State, start, after, trace}
use Rattle.nm_model.specs.Reports.{counts}
use Rattle.nm_model.specs.Ordered.{Configuration, opening_of, after_in, trace_in}
use Rattle.nm_files.specs.declared.read.header.Header.{Header}
use Rattle.nm_files.specs.Headers.{without_swaps}
use Rattle.nm_files.specs.Lines.{parts}
use Rattle.nm_files.specs.Files.{Fault}
use Rattle.nm_files.specs.Entries.{Schedule, schedule_of}
use Rattle.nm_files.specs.Replies.{outcome_text}
use Rattle.nm_files.specs.LastLines.{epoch_line, places_line}
use Rattle.nm_replay.specs.LastState.{workers_lines, last_lines}

-- each line with the outcome of its event
abbrev pub lines_with : List (List ℕ) → List Turn → List ℕ
lines_with [] turns = []
lines_with (line ∷ lines) [] = []
lines_with (line ∷ lines) (turn ∷ turns) =
    line ++ codes " = " ++ outcome_text turn.outcome ++ codes "\n" ++ lines_with lines turns

-- the core that runs a file with that header, at its opening
abbrev pub opening_core : Header → Configuration
opening_core header = opening_of header.layout header.forms.is_extended

-- the output for a schedule whose lines from the second on are these
abbrev pub text_of : Schedule → List (List ℕ) → List ℕ
text_of s lines = lines_with lines (trace_in (opening_core s.header) s.entries)
    ++ last_lines s.header (after_in (opening_core s.header) s.entries).state

-- the summary of the last state, for a file that is not ordered
abbrev pub plain_lines : ℕ → State → List ℕ
plain_lines workers s = workers_lines s workers
    ++ (epoch_line s.memory.epoch ++ places_line (counts s))

-- the output for a file that is not ordered shows a run of states, without a line of keys
abbrev pub PlainFilesAreRuns : Type 0
PlainFilesAreRuns = (L : Layout) (ts : List (ℕ × Event)) (lines : List (List ℕ))
    → text_of (record { header = record { layout = L; tries = 1; forms = without_swaps false }; entries = ts }) lines
    ≡ lines_with lines (trace (start L) ts) ++ plain_lines L.workers (after (start L) ts)

-- the output for a file, or its first faulty line with the least reason
abbrev pub output_of : List ℕ → Result (List ℕ) Fault
output_of bytes = do
  s ← schedule_of bytes
  Ok (text_of s (drop 1 (parts bytes)))

-- the writer's contents have grown by the text
abbrev pub Writes : Result (List ℕ) Fault → Option (List ℕ) → Option (List ℕ) → Type 0
Writes (Ok text) old new = Appends old new text
Writes (Err fault) old new = ⊥
