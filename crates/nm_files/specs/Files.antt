-- A file of lines: a header, and an entry for each further line; or its first faulty line with the
-- least reason.
use Rattle.nm_files.specs.Chain.{◌>>=◌}
use Rattle.std.specs.Prelude.{◌≡◌, ℕ, ◌+◌, List, [], ◌∷◌, length, Result, Ok, Err, Bool, ◌||◌, ◌==◌, nat_le, nat_lt, if◌then◌else◌}
use Rattle.nm_files.specs.declared.read.fault.Reason.{Reason}
use Rattle.nm_files.specs.declared.read.fault.Reason.TheVariants as reason
use Rattle.nm_files.specs.declared.read.fault.RunFault.{RunFault}
use Rattle.nm_files.specs.declared.read.fault.RunFault.TheVariants as run

-- a line, and what is wrong with it
pub record Fault : Type 0 where
  pub line : ℕ
  pub reason : Reason

-- the number by which a faulty line is reported
abbrev pub reason_number : Reason → ℕ
reason_number reason.Long = 1
reason_number reason.Cut = 2
reason_number reason.Header = 3
reason_number reason.Nodes = 4
reason_number reason.Workers = 5
reason_number reason.Tries = 6
reason_number reason.Form = 7
reason_number reason.Kind = 8
reason_number reason.Fields = 9
reason_number reason.Number = 10
reason_number reason.Worker = 11
reason_number reason.Key = 12

-- the lesser of two reasons
abbrev pub least : Reason → Reason → Reason
least r s = if nat_le (reason_number r) (reason_number s) then r else s

-- more than 120 bytes, or a line numbered above 100,001
abbrev pub is_long : ℕ → List ℕ → Bool
is_long number line = nat_lt 100001 number || nat_lt 120 (length line)

abbrev pub at_line : {X : Type 0} → ℕ → Result X Reason → Result X Fault
at_line number (Ok x) = Ok x
at_line number (Err r) = Err (record { line = number; reason = r })

-- the contents of the line of this number, unless it is long
abbrev pub checked : {X : Type 0} → ℕ → List ℕ → Result X Reason → Result X Fault
checked number line says = at_line number (if is_long number line then Err reason.Long else says)

-- the fault of a line that does not end with a newline
abbrev pub cut_off : ℕ → List ℕ → Fault
cut_off number line = record {
  line = number;
  reason = if is_long number line then reason.Long
      else reason.Cut;
}

-- the entries of the lines from this number on. After the last newline there is nothing, or a line
-- that is cut off
unfoldable pub entries_from : {X : Type 0} → (List ℕ → Result X Reason) → ℕ → List (List ℕ)
    → Result (List X) Fault
entries_from line_of number [] = Ok []
entries_from line_of number (last ∷ []) =
    if length last == 0 then Ok [] else Err (cut_off number last)
entries_from line_of number (line ∷ next ∷ more) = do
  entry ← checked number line (line_of line)
  entries ← entries_from line_of (number + 1) (next ∷ more)
  Ok (entry ∷ entries)

-- the contents of a file
pub record File (H X : Type 0) : Type 0 where
  pub header : H
  pub entries : List X

-- a file whose first line is a header, and whose further lines are entries, each parsed by that
-- header
unfoldable pub file_from : {H X : Type 0} → (List ℕ → Result H Reason)
    → (H → List ℕ → Result X Reason) → List (List ℕ) → Result (File H X) Fault
file_from header_of line_of [] = Err (record { line = 1; reason = reason.Cut })
file_from header_of line_of (last ∷ []) = Err (cut_off 1 last)
file_from header_of line_of (line ∷ next ∷ more) = do
  header ← checked 1 line (header_of line)
  entries ← entries_from (line_of header) 2 (next ∷ more)
  Ok (record { header = header; entries = entries })

-- ---- what a function of the program returns for a file

-- the fault with which a run ends
abbrev pub Fails : {Y : Type 0} → RunFault → Result Y Fault → Type 0
Fails (run.Line line reason) said = said ≡ Err (record { line = line; reason = reason })
Fails run.NoMemory said = Unit {0}
Fails run.Read said = ⊥
Fails run.Write said = ⊥
Fails (run.Gate worker line) said = ⊥
Fails run.Thread said = ⊥

-- what a function returned, seen by view, is the contents of the file or its fault, unless memory
-- ran out
abbrev pub GivesWhatIsSaid : {X Y : Type 0} → (X → Y) → Result X RunFault → Result Y Fault → Type 0
GivesWhatIsSaid view (Ok x) said = said ≡ Ok (view x)
GivesWhatIsSaid view (Err e) said = Fails e said

-- this holds of a faulty line and its reason
abbrev pub IfLine : RunFault → (ℕ → Reason → Type 0) → Type 0
IfLine (run.Line line reason) P = P line reason
IfLine run.NoMemory P = Unit {0}
IfLine run.Read P = Unit {0}
IfLine run.Write P = Unit {0}
IfLine (run.Gate worker line) P = Unit {0}
IfLine run.Thread P = Unit {0}

-- the run came to the point of judging its input
abbrev pub HasJudged : {X : Type 0} → Result X RunFault → Type 0
HasJudged (Ok x) = Unit {0}
HasJudged (Err (run.Line line reason)) = Unit {0}
HasJudged (Err run.NoMemory) = ⊥
HasJudged (Err run.Read) = ⊥
HasJudged (Err run.Write) = Unit {0}
HasJudged (Err (run.Gate worker line)) = Unit {0}
HasJudged (Err run.Thread) = Unit {0}

-- the exit status of the program after a run that ended with this fault
abbrev pub exit_status : RunFault → ℕ
exit_status (run.Line line reason) = 1
exit_status run.NoMemory = 3
exit_status run.Read = 4
exit_status run.Write = 4
exit_status (run.Gate worker line) = 3
exit_status run.Thread = 3
