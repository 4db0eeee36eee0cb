-- Each call that is read is one that its file may have, and there are no more than 100,000.
use Rattle.std.proofs.Common.{◌≡◌, ◌≤◌, ◌<◌, ℕ, ◌+◌, Bool, true, List, [], ◌∷◌, length, All, Option, Some, None, Result, Ok, Err, refl, rules, sym, subst, inl, inr, arith}
use Rattle.std.specs.Prelude.{◌==◌, IfOk}
use Rattle.std.specs.Option.{ok_or}
use Rattle.std.specs.List.{AllByRecursion, list_all}
use Rattle.std.specs.Str.{bytes_eq}
use Rattle.std.proofs.lemmas.Bool.{cases_Bool, and_parts}
use Rattle.std.proofs.lemmas.List.Elements.{All-cons, All-nil}
use Rattle.nm_files.specs.declared.read.entry.ScriptCall.{ScriptCall}
use Rattle.nm_files.specs.declared.read.fault.Reason.{Reason}
use Rattle.nm_files.specs.declared.read.fault.Reason.TheVariants as reason
use Rattle.nm_files.specs.declared.read.fault.RunFault.{RunFault}
use Rattle.nm_files.specs.declared.read.header.Command.{Command}
use Rattle.nm_files.specs.declared.read.header.Header.{Header}
use Rattle.nm_files.specs.declared.read.header.Forms.{Forms}
use Rattle.nm_files.specs.Lines.{parts, fields, is_field}
use Rattle.nm_files.specs.Values.{Values, values_of, worker_of, no_values}
use Rattle.nm_files.specs.Values.Argument.{Worker}
use Rattle.nm_files.specs.Kinds.{Kind, is_named, kind_of, made, made_by, calls, IsAllowed}
use Rattle.nm_files.specs.Files.{Fault, File, GivesWhatIsSaid, is_long, checked, entries_from, file_from}
use Rattle.nm_files.specs.Entries.{Script, entry_of, first_line_of, line_of, script_of, IsEntryOf}
use Rattle.nm_files.proofs.LimitLemmas.{short}
use Rattle.nm_files.proofs.ValueLemmas.{both_are, found_is, ok_is, seen_is, then_is, worker_below}

-- a kind makes calls of its values that a file may have if the kind may stand
abbrev Allows : Kind ScriptCall → Type 0
Allows kind = (workers : ℕ) (forms : Forms) (is_bare : Bool) → kind.may_stand forms is_bare ≡ true
    → (fs : List (List ℕ)) (values : Values kind.arguments) → values_of workers kind.arguments fs ≡ Ok values
    → IsAllowed workers forms (made kind.arguments kind.maker values)

heir_below : (workers : ℕ) (fs : List (List ℕ)) (values : Values (Worker ∷ []))
    → values_of workers (Worker ∷ []) fs ≡ Ok values → values.0 < workers
heir_below workers [] values e = absurd cc
heir_below workers (f ∷ fs) values e = worker_below workers f values.0
    (both_are (worker_of workers f) (no_values fs) values e).0

calls_allow : AllByRecursion Allows calls
calls_allow = search (rules, heir_below)

some_is : {X : Type 0} (o : Option X) (kind : X) → ok_or o reason.Kind ≡ Ok kind → o ≡ Some kind
some_is None kind e = absurd cc
some_is (Some k) kind e = let same : k ≡ kind = ok_is k kind e in rw same refl

entry_allowed : (header : Header) (fs : List (List ℕ)) (e : ℕ × ScriptCall) → entry_of calls header fs ≡ Ok e
    → IsEntryOf header e
unfolding entry_of made_by
entry_allowed header [] e is = absurd cc
entry_allowed header (a ∷ []) e is = absurd cc
entry_allowed header (a ∷ b ∷ fs) e is =
    let workers = header.layout.workers in
    let bare = length fs == 0 in
    let both = both_are (worker_of workers a) (made_by calls workers header.forms b fs) e is in
    let k = then_is (kind_of calls header.forms b bare) _ e.1 both.1 in
    let found = found_is Allows (is_named header.forms b bare) calls k.0 (some_is _ k.0 k.1) calls_allow in
    let values = seen_is (made k.0.arguments k.0.maker) (values_of workers k.0.arguments fs) e.1 k.2 in
    let stands = and_parts (bytes_eq b k.0.word) (k.0.may_stand header.forms bare) found.1 in
    let allowed = found.0 workers header.forms bare stands.1 fs values.0 values.1 in
    (worker_below workers a e.0 both.0, subst (IsAllowed workers header.forms) (sym values.2) allowed)

pub line_allowed : (header : Header) (line : List ℕ) (e : ℕ × ScriptCall) → line_of calls header line ≡ Ok e
    → IsEntryOf header e
line_allowed header line e is =
    elim (cases_Bool (list_all is_field (fields line))) [
      | inl y ↦ entry_allowed header (fields line) e (rw y at is)
      | inr n ↦ let bad = rw n at is in absurd cc
    ]

checked_is : {X : Type 0} (number : ℕ) (line : List ℕ) (says : Result X Reason) (x : X)
    → checked number line says ≡ Ok x → (says ≡ Ok x) × (number ≤ 100001)
checked_is number line (Ok y) x e =
    elim (cases_Bool (is_long number line)) [
      | inl far ↦ let bad = rw far at e in absurd cc
      | inr near ↦ let same = rw near at e in (cc, (short number line near).0)
    ]
checked_is number line (Err r) x e =
    elim (cases_Bool (is_long number line)) [
      | inl far ↦ let bad = rw far at e in absurd cc
      | inr near ↦ let bad = rw near at e in absurd cc
    ]

-- what is so of each line's entry is so of all, and a file has no more than 100,001 lines
pub entries_are : {X : Type 0} (says : List ℕ → Result X Reason) (P : X → Type 0)
    → ((line : List ℕ) (x : X) → says line ≡ Ok x → P x) → (number : ℕ) (parts : List (List ℕ)) (xs : List X)
    → entries_from says number parts ≡ Ok xs → number ≤ 100002 → All P xs × (length xs + number ≤ 100002)
unfolding entries_from
entries_are says P each number [] xs e few = let none : [] ≡ xs = cc in rw (sym none) (All-nil P, omega (arith, few))
entries_are says P each number (last ∷ []) xs e few =
    elim (cases_Bool (length last == 0)) [
      | inl y ↦ let same = rw y at e in let none : [] ≡ xs = cc in rw (sym none) (All-nil P, omega (arith, few))
      | inr n ↦ let bad = rw n at e in absurd cc
    ]
entries_are says P each number (line ∷ next ∷ more) xs e few =
    let first = then_is (checked number line (says line)) _ xs e in
    let rest = then_is (entries_from says (number + 1) (next ∷ more)) _ xs first.2 in
    let is = checked_is number line (says line) first.0 first.1 in
    let others = entries_are says P each (number + 1) (next ∷ more) rest.0 rest.1 (omega (arith, is.1)) in
    let all : first.0 ∷ rest.0 ≡ xs = cc in
    rw (sym all) (All-cons P first.0 rest.0 (each line first.0 is.0) others.0, omega (arith, others.1))

file_is : {H X : Type 0} (header_says : List ℕ → Result H Reason) (line_says : H → List ℕ → Result X Reason)
    (P : H → X → Type 0) → ((header : H) (line : List ℕ) (x : X) → line_says header line ≡ Ok x → P header x)
    → (parts : List (List ℕ)) (file : File H X) → file_from header_says line_says parts ≡ Ok file
    → All (P file.header) file.entries × (length file.entries ≤ 100000)
unfolding file_from
file_is header_says line_says P each [] file e = absurd cc
file_is header_says line_says P each (last ∷ []) file e = absurd cc
file_is {H} {X} header_says line_says P each (line ∷ next ∷ more) file e =
    let header = then_is (checked 1 line (header_says line)) _ file e in
    let entries = then_is (entries_from (line_says header.0) 2 (next ∷ more)) _ file header.2 in
    let are = entries_are (line_says header.0) (P header.0) (each header.0) 2 (next ∷ more) entries.0 entries.1
    (omega arith) in
    let same = ok_is {X = File H X} (record { header = header.0; entries = entries.0 }) file entries.2 in
    rw (sym same) (are.0, omega (arith, are.1))

pub script_is : (command : Command) (bytes : List ℕ) (script : Script) → script_of command bytes ≡ Ok script
    → All (IsEntryOf script.header) script.entries × (length script.entries ≤ 100000)
script_is command bytes = file_is (first_line_of command) (line_of calls) IsEntryOf line_allowed (parts bytes)

-- what is so of all that a file says is so of what a function gives
pub if_given : {X Y : Type 0} (view : X → Y) (said : Result Y Fault) (P : X → Type 0) (r : Result X RunFault)
    → GivesWhatIsSaid view r said → ((x : X) → said ≡ Ok (view x) → P x) → IfOk r P
if_given view said P (Ok x) gives each = each x gives
if_given view said P (Err e) gives each = tt
