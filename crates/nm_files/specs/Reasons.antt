-- When each reason holds of a line, independently of the others.
use Rattle.std.specs.Prelude.{ℕ, List, [], ◌∷◌, length, drop, slice_index_or, Bool, true, false, not, ◌&&◌, ◌||◌, ◌==◌, nat_lt, Option, Some, None, Result, Ok, Err, is_ok}
use Rattle.std.specs.List.{list_all}
use Rattle.nm_files.specs.declared.read.fault.Reason.{Reason}
use Rattle.nm_files.specs.declared.read.fault.Reason.TheVariants.{Long, Header, Nodes, Workers, Tries, Form, Kind, Fields, Number, Worker, Key}
use Rattle.nm_files.specs.declared.read.header.Command.{Command as CommandOf}
use Rattle.nm_files.specs.declared.read.header.Header.{Header as HeaderOf}
use Rattle.nm_files.specs.declared.read.header.Limits.{Limits}
use Rattle.nm_files.specs.Lines.{fields, is_field, number, place}
use Rattle.nm_files.specs.Values.{Argument, by_word, field_words, side_words, op_words, answer_words, is_key}
use Rattle.nm_files.specs.Values.{Argument as a}
use Rattle.nm_files.specs.Kinds.{Kind as KindOf, kind_of}
use Rattle.nm_files.specs.Headers.{limits_of, tries_of}
use Rattle.nm_model.specs.Step.{outside}
use Rattle.nm_files.specs.Files.{Fault, is_long}

-- this is true of the value, and there is one
abbrev pub so_at : {X : Type 0} → (X → Bool) → Result X Reason → Bool
so_at is_so (Ok x) = is_so x
so_at is_so (Err r) = false

-- ---- a field after the word of a line

-- the field must be one of some words, and is none of them
abbrev pub is_no_word : Argument → List ℕ → Bool
is_no_word a.Field f = not (is_ok (by_word field_words f))
is_no_word a.Side f = not (is_ok (by_word side_words f))
is_no_word a.Op f = not (is_ok (by_word op_words f))
is_no_word a.Answer f = not (is_ok (by_word answer_words f))
is_no_word argument f = false

-- the field must be a number, and is not in its spelling and range
abbrev pub is_no_number : Argument → List ℕ → Bool
is_no_number a.Place f = not (is_ok (place f))
is_no_number a.Number f = not (is_ok (number f))
is_no_number a.Key f = not (is_ok (number f))
is_no_number a.Worker f = not (is_ok (place f))
is_no_number argument f = false

-- the field must be a worker, and is a number that is not below the number of workers
abbrev pub is_none_of_workers : ℕ → Argument → List ℕ → Bool
is_none_of_workers workers a.Worker f = so_at (λ w. not (nat_lt w workers)) (place f)
is_none_of_workers workers argument f = false

-- the field must be a key, and is a number that is no key of the set
abbrev pub is_no_key : Argument → List ℕ → Bool
is_no_key a.Key f = so_at (λ n. not (is_key n)) (number f)
is_no_key argument f = false

-- the reason holds of a field that must be this, in a file with this number of workers
abbrev pub field_holds : ℕ → Argument → List ℕ → Reason → Bool
field_holds workers argument f Fields = is_no_word argument f
field_holds workers argument f Number = is_no_number argument f
field_holds workers argument f Worker = is_none_of_workers workers argument f
field_holds workers argument f Key = is_no_key argument f
field_holds workers argument f _ = false

-- the reason holds of one of these fields, or of their number if it is not that of the row
abbrev pub row_holds : ℕ → List Argument → List (List ℕ) → Reason → Bool
row_holds workers [] [] r = false
row_holds workers (argument ∷ row) (f ∷ fs) r =
    field_holds workers argument f r || row_holds workers row fs r
row_holds workers _ _ Fields = true
row_holds workers _ _ _ = false

-- ---- a line

-- the first field, the kind that the second one names, and the others
abbrev pub worker_field : List (List ℕ) → List ℕ
worker_field fs = slice_index_or fs 0 []

abbrev pub kind_in : {X : Type 0} → List (KindOf X) → HeaderOf → List (List ℕ) → Result (KindOf X) Reason
kind_in kinds header fs =
    kind_of kinds header.forms (slice_index_or fs 1 []) (length (drop 2 fs) == 0)

-- `holds_of`, `header_holds_of`: the reason holds of a line, and of the first line
abbrev pub holds_of : {X : Type 0} → List (KindOf X) → HeaderOf → Bool → List (List ℕ) → Reason → Bool
holds_of kinds header long fs Long = long
holds_of kinds header long fs Form = not (list_all is_field fs) || nat_lt (length fs) 2
holds_of kinds header long fs Kind = not (is_ok (kind_in kinds header fs))
holds_of kinds header long fs r =
    field_holds header.layout.workers a.Worker (worker_field fs) r
    || so_at (λ kind. row_holds header.layout.workers kind.arguments (drop 2 fs) r)
    (kind_in kinds header fs)

-- the reason holds of the line of this number, in a file with that header whose lines are of these
-- kinds
abbrev pub holds : {X : Type 0} → List (KindOf X) → HeaderOf → ℕ → List ℕ → Reason → Bool
holds kinds header number line = holds_of kinds header (is_long number line) (fields line)

-- the reasons that fields can have, and those that a line after the first can have, in the order of
-- their numbers
abbrev pub field_reasons : List Reason
field_reasons = Fields ∷ Number ∷ Worker ∷ Key ∷ []

abbrev pub line_reasons : List Reason
line_reasons = Long ∷ Form ∷ Kind ∷ field_reasons

-- ---- the first line

-- the limits that the first two fields name, if there are at least four
abbrev pub header_limits : CommandOf → List (List ℕ) → Result Limits Reason
header_limits command (given ∷ version ∷ nodes ∷ workers ∷ more) = limits_of command given version
header_limits command _ = Err Header

-- the third field and the fourth are numbers, and the fields after them are the tries
abbrev pub has_counts : CommandOf → List (List ℕ) → Bool
has_counts command fs = is_ok (number (slice_index_or fs 2 []))
    && (is_ok (number (slice_index_or fs 3 [])) && is_ok (tries_of command (drop 4 fs)))

-- the field is a number, and is below or above the allowed range
abbrev pub is_no_size : ℕ → ℕ → List ℕ → Bool
is_no_size least most field = so_at (outside least most) (number field)

abbrev pub header_holds_of : CommandOf → Bool → List (List ℕ) → Reason → Bool
header_holds_of command long fs Long = long
header_holds_of command long fs Header =
    not (is_ok (header_limits command fs) && has_counts command fs)
header_holds_of command long fs Nodes =
    so_at (λ limits. is_no_size 7 limits.nodes (slice_index_or fs 2 []))
    (header_limits command fs)
header_holds_of command long fs Workers =
    so_at (λ limits. is_no_size 1 limits.workers (slice_index_or fs 3 []))
    (header_limits command fs)
header_holds_of command long fs Tries =
    so_at (outside 1 1000000) (tries_of command (drop 4 fs))
header_holds_of command long fs _ = false

-- the reason holds of the first line
abbrev pub header_holds : CommandOf → List ℕ → Reason → Bool
header_holds command line = header_holds_of command (is_long 1 line) (fields line)

-- the reasons that the first line can have, in the order of their numbers
abbrev pub header_reasons : List Reason
header_reasons = Long ∷ Header ∷ Nodes ∷ Workers ∷ Tries ∷ []

-- ---- what is returned

abbrev pub reason_of : {X : Type 0} → Result X Fault → Option Reason
reason_of (Ok x) = None
reason_of (Err fault) = Some fault.reason
