-- The arguments of a line: what each field must be, and its value.
use Rattle.nm_files.specs.Chain.{◌>>=◌}
use Rattle.std.specs.Prelude.{ℕ, ◌^◌, ◌-◌, List, [], ◌∷◌, codes, Bool, true, false, nat_le, nat_lt, Result, Ok, Err, if◌then◌else◌}
use Rattle.std.specs.Str.{bytes_eq}
use Rattle.nm_model.specs.declared.event.Field.{Field as FieldOf}
use Rattle.nm_model.specs.declared.event.Field.TheVariants as field
use Rattle.nm_model.specs.declared.event.Op.{Op as OpOf}
use Rattle.nm_model.specs.declared.event.Op.TheVariants as op
use Rattle.nm_edge.specs.declared.edge.Side.{Side as SideOf}
use Rattle.nm_edge.specs.declared.edge.Side.TheVariants as side
use Rattle.nm_files.specs.declared.read.fault.Reason.{Reason}
use Rattle.nm_files.specs.declared.read.fault.Reason.TheVariants as reason
use Rattle.nm_files.specs.Files.{least}
use Rattle.nm_files.specs.Lines.{number, place}

-- the value that belongs to this word
abbrev pub by_word : {X : Type 0} → List (List ℕ × X) → List ℕ → Result X Reason
by_word [] given = Err reason.Fields
by_word (w ∷ words) given = if bytes_eq given w.0 then Ok w.1 else by_word words given

-- `field_words`, `side_words`, `op_words`, `answer_words`: the words of the fields of a node, of its
-- sides, of the operations of the set and of their answers
abbrev pub field_words : List (List ℕ × FieldOf)
field_words = (codes "key", field.Key) ∷ (codes "left", field.Edge side.Left)
    ∷ (codes "right", field.Edge side.Right) ∷ (codes "birth", field.Birth) ∷ []

abbrev pub side_words : List (List ℕ × SideOf)
side_words = (codes "left", side.Left) ∷ (codes "right", side.Right) ∷ []

abbrev pub op_words : List (List ℕ × OpOf)
op_words = (codes "has", op.Has) ∷ (codes "insert", op.Insert) ∷ (codes "delete", op.Delete) ∷ []

abbrev pub answer_words : List (List ℕ × Bool)
answer_words = (codes "true", true) ∷ (codes "false", false) ∷ []

-- the set has keys up to 2^64 - 4
abbrev pub is_key : ℕ → Bool
is_key n = nat_le n (2 ^ 64 - 4)

-- a key of the set
abbrev pub key_field : List ℕ → Result ℕ Reason
key_field field = do
  n ← number field
  if is_key n then Ok n else Err reason.Key

-- a worker, whose number is below this one
abbrev pub worker_of : ℕ → List ℕ → Result ℕ Reason
worker_of workers field = do
  worker ← place field
  if nat_lt worker workers then Ok worker else Err reason.Worker

-- what a field must be: the number of a slot or of a worker, any number, a key of the set, one of
-- the header's workers, or the word of a field of a node, of a side, of an operation or of an answer
pub data Argument : Type 0 where
  Place : Argument
  Number : Argument
  Key : Argument
  Worker : Argument
  Field : Argument
  Side : Argument
  Op : Argument
  Answer : Argument

-- the type of its value
abbrev pub ValueOf : Argument → Type 0
ValueOf Field = FieldOf
ValueOf Side = SideOf
ValueOf Op = OpOf
ValueOf Answer = Bool
ValueOf argument = ℕ

-- the value of a field that must be this, in a file with this number of workers
abbrev pub value_of : ℕ → (argument : Argument) → List ℕ → Result (ValueOf argument) Reason
value_of workers Place = place
value_of workers Number = number
value_of workers Key = key_field
value_of workers Worker = worker_of workers
value_of workers Field = by_word field_words
value_of workers Side = by_word side_words
value_of workers Op = by_word op_words
value_of workers Answer = by_word answer_words

-- both values, or the reason of the one that failed; the lesser one if both failed
abbrev pub both : {A B : Type 0} → Result A Reason → Result B Reason → Result (A × B) Reason
both (Ok x) (Ok y) = Ok (x, y)
both (Ok x) (Err r) = Err r
both (Err r) (Ok y) = Err r
both (Err r) (Err s) = Err (least r s)

-- there are no fields
abbrev pub no_values : List (List ℕ) → Result (Unit {0}) Reason
no_values [] = Ok tt
no_values fields = Err reason.Fields

-- the value of the first field, and those of the others
abbrev pub first_and_rest : {A B : Type 0} → (List ℕ → Result A Reason)
    → (List (List ℕ) → Result B Reason) → List (List ℕ) → Result (A × B) Reason
first_and_rest first rest [] = Err reason.Fields
first_and_rest first rest (field ∷ fields) = both (first field) (rest fields)

-- the values of as many fields as the row has; else the least reason for which one has none
abbrev pub Values : List Argument → Type 0
Values [] = Unit {0}
Values (argument ∷ row) = ValueOf argument × Values row

abbrev pub values_of : ℕ → (row : List Argument) → List (List ℕ) → Result (Values row) Reason
values_of workers [] = no_values
values_of workers (argument ∷ row) =
    first_and_rest (value_of workers argument) (values_of workers row)
