-- The kinds of line: the word of each, what the fields after it must be, and the entry that it
-- gives.
use Rattle.nm_files.specs.Chain.{◌>>=◌}
use Rattle.std.specs.Prelude.{◌≡◌, ◌<◌, ℕ, List, [], ◌∷◌, length, codes, Bool, true, not, ◌&&◌, ◌==◌, nat_lt, Result, Ok, Err}
use Rattle.std.specs.List.{find}
use Rattle.std.specs.Option.{ok_or}
use Rattle.std.specs.Str.{bytes_eq}
use Rattle.nm_model.specs.declared.event.Event.{Event}
use Rattle.nm_model.specs.declared.event.Event.TheVariants as event
use Rattle.nm_files.specs.declared.read.entry.ScriptCall.{ScriptCall}
use Rattle.nm_files.specs.declared.read.entry.ScriptCall.TheVariants as call
use Rattle.nm_files.specs.declared.read.fault.Reason.{Reason}
use Rattle.nm_files.specs.declared.read.fault.Reason.TheVariants as reason
use Rattle.nm_files.specs.declared.read.header.Forms.{Forms}
use Rattle.nm_files.specs.Values.{Argument, ValueOf, Values, values_of}
use Rattle.nm_files.specs.Values.Argument.{Place, Number, Key, Worker, Field, Side, Op, Answer}

-- `Maker`, `made`: a function of the values of these arguments, one after the other; and the entry
-- that it makes of them
abbrev pub Maker : List Argument → Type 0 → Type 0
Maker [] X = X
Maker (argument ∷ row) X = ValueOf argument → Maker row X

abbrev pub made : {X : Type 0} (row : List Argument) → Maker row X → Values row → X
made [] entry values = entry
made (argument ∷ row) maker values = made row (maker values.0) values.1

-- `Standing`, `always`, `later`, `later_with_fields`, `newest`: whether a line may be of a kind,
-- in a file with these forms of lines, and with no field after the word or some
abbrev pub Standing : Type 0
Standing = Forms → Bool → Bool

abbrev pub always : Standing
always forms is_bare = true

abbrev pub later : Standing
later forms is_bare = forms.is_extended

abbrev pub later_with_fields : Standing
later_with_fields forms is_bare = forms.is_extended && not is_bare

abbrev pub newest : Standing
newest forms is_bare = forms.has_swaps

-- `Kind`, `kind`: a kind of line: which lines may be of it, its word, what the fields after the word
-- must be, and the entry that it makes of their values
pub record Kind (X : Type 0) : Type 0 where
  pub may_stand : Standing
  pub word : List ℕ
  pub arguments : List Argument
  pub maker : Maker arguments X

abbrev pub kind : {X : Type 0} → Standing → List ℕ → (arguments : List Argument) → Maker arguments X
    → Kind X
kind may_stand word arguments maker = record {
  may_stand = may_stand;
  word = word;
  arguments = arguments;
  maker = maker;
}

-- the lines of a schedule. A sight or a leave with no field after its word is not of an operation
abbrev pub events : List (Kind Event)
events = kind later_with_fields (codes "sight") (Op ∷ Key ∷ []) event.SightFor
    ∷ kind always (codes "sight") [] event.Sight
    ∷ kind always (codes "announce") [] event.Announce
    ∷ kind later_with_fields (codes "leave") (Answer ∷ []) event.LeaveWith
    ∷ kind always (codes "leave") [] event.Leave
    ∷ kind always (codes "scan") (Place ∷ []) event.Scan
    ∷ kind always (codes "advance") [] event.Advance
    ∷ kind always (codes "claim") (Place ∷ []) event.Claim
    ∷ kind always (codes "give") (Place ∷ []) event.Give
    ∷ kind always (codes "look") (Place ∷ Field ∷ []) event.Look
    ∷ kind always (codes "fill") (Place ∷ Field ∷ Number ∷ []) event.Fill
    ∷ kind always (codes "link") (Place ∷ Side ∷ Place ∷ Place ∷ []) event.Link
    ∷ kind always (codes "flag") (Place ∷ Side ∷ Place ∷ []) event.Flag
    ∷ kind always (codes "tag") (Place ∷ Side ∷ []) event.Tag
    ∷ kind always (codes "splice") (Place ∷ Side ∷ Place ∷ Place ∷ Side ∷ []) event.Splice
    ∷ kind newest (codes "swap") (Place ∷ Side ∷ Place ∷ Place ∷ []) event.Swap
    ∷ []

-- the lines of a script
abbrev pub calls : List (Kind ScriptCall)
calls = kind always (codes "has") (Key ∷ []) call.Has
    ∷ kind always (codes "insert") (Key ∷ []) call.Insert
    ∷ kind always (codes "delete") (Key ∷ []) call.Delete
    ∷ kind always (codes "finish") [] call.Finish
    ∷ kind always (codes "pin") [] call.Pin
    ∷ kind always (codes "unpin") [] call.Unpin
    ∷ kind always (codes "advance") [] call.Advance
    ∷ kind always (codes "collect") [] call.Collect
    ∷ kind later (codes "resign") (Worker ∷ []) call.Resign
    ∷ []

-- no kind has six fields after its word
abbrev pub is_short : {X : Type 0} → Kind X → Bool
is_short kind = nat_lt (length kind.arguments) 6

-- the kind has this word, and is allowed
abbrev pub is_named : {X : Type 0} → Forms → List ℕ → Bool → Kind X → Bool
is_named forms given is_bare kind =
    bytes_eq given kind.word && kind.may_stand forms is_bare

-- the first such of these kinds
abbrev pub kind_of : {X : Type 0} → List (Kind X) → Forms → List ℕ → Bool → Result (Kind X) Reason
kind_of kinds forms given is_bare = ok_or (find (is_named forms given is_bare) kinds) reason.Kind

-- the result, with its value seen by view
abbrev pub with_view : {X Y : Type 0} → (X → Y) → Result X Reason → Result Y Reason
with_view view (Ok x) = Ok (view x)
with_view view (Err r) = Err r

-- the entry of a word and the fields after it
unfoldable pub made_by : {X : Type 0} → List (Kind X) → ℕ → Forms → List ℕ → List (List ℕ)
    → Result X Reason
made_by kinds workers forms word fields = do
  kind ← kind_of kinds forms word (length fields == 0)
  with_view (made kind.arguments kind.maker) (values_of workers kind.arguments fields)

-- a call that a file may have: its heir is one of the workers, and it resigns only in later
-- versions
abbrev pub IsAllowed : ℕ → Forms → ScriptCall → Type 0
IsAllowed workers forms (call.Resign heir) = (forms.is_extended ≡ true) × (heir < workers)
IsAllowed workers forms c = Unit {0}
