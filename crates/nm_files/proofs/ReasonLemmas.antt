-- A faulty line is answered with the least of its reasons.
use Rattle.std.proofs.Common.{◌≡◌, ℕ, Bool, true, false, List, [], ◌∷◌, length, Option, Some, None, Result, Ok, Err, refl, sym, ◌∙◌, inl, inr, arith}
use Rattle.std.specs.Prelude.{◌||◌, ◌==◌, nat_lt, codes, if◌then◌else◌}
use Rattle.std.specs.Str.{bytes_eq}
use Rattle.std.specs.List.{find, list_all}
use Rattle.std.proofs.lemmas.Bool.{cases_Bool, le-ltb}
use Rattle.nm_files.specs.declared.read.fault.Reason.{Reason}
use Rattle.nm_files.specs.declared.read.fault.Reason.TheVariants as reason
use Rattle.nm_files.specs.declared.read.fault.Reason.TheVariants.{Fields, Number, Worker, Key}
use Rattle.nm_files.specs.declared.read.header.Command.{Command}
use Rattle.nm_files.specs.declared.read.header.Command.TheVariants.{Replay, Serial, Stress}
use Rattle.nm_files.specs.declared.read.header.Header.{Header}
use Rattle.nm_files.specs.declared.read.header.Limits.{Limits}
use Rattle.nm_files.specs.Chain.{◌>>=◌}
use Rattle.nm_files.specs.Lines.{fields, is_field}
use Rattle.nm_files.specs.Values.{Argument, both, value_of, values_of, worker_of, is_key, field_words, side_words, op_words, answer_words}
use Rattle.nm_files.specs.Values.{Argument as a}
use Rattle.nm_files.specs.Kinds.{Kind as KindOf, is_named, made, made_by, with_view, events, calls}
use Rattle.nm_files.specs.Headers.{command_word, later_limits, limits_of, count, tries_of, header_of, header_within}
use Rattle.nm_files.specs.Entries.{entry_of, line_of, first_line_of}
use Rattle.nm_model.specs.Step.{outside}
use Rattle.nm_files.specs.Files.{least, at_line, checked, is_long}
use Rattle.nm_files.specs.Reasons.{field_holds, row_holds, field_reasons, holds_of, holds, line_reasons, header_holds_of, header_holds, header_reasons, reason_of}
use Rattle.nm_files.proofs.ValueLemmas.{Gives, by_word_gives, number_gives, place_gives}

-- the reason of what was read
abbrev reason_in : {X : Type 0} → Result X Reason → Option Reason
reason_in (Ok x) = None
reason_in (Err r) = Some r

reason_at : {X : Type 0} (number : ℕ) (said : Result X Reason) → reason_of (at_line number said) ≡ reason_in said
reason_at number (Ok x) = refl
reason_at number (Err r) = refl

seen_reason : {X Y : Type 0} (view : X → Y) (said : Result X Reason) → reason_in (with_view view said) ≡ reason_in said
seen_reason view (Ok x) = refl
seen_reason view (Err r) = refl

-- ---- the lesser reason of two

-- the first reason that holds, by whether each does
abbrev first : Bool → Bool → Bool → Bool → Option Reason
first true number worker key = Some Fields
first false true worker key = Some Number
first false false true key = Some Worker
first false false false true = Some Key
first false false false false = None

first_found : (test : Reason → Bool) → find test field_reasons
    ≡ first (test Fields) (test Number) (test Worker) (test Key)
first_found test = grind arith

abbrev lesser : Option Reason → Option Reason → Option Reason
lesser None o = o
lesser (Some r) None = Some r
lesser (Some r) (Some s) = Some (least r s)

lesser_is : (f n w k f' n' w' k' : Bool) → lesser (first f n w k) (first f' n' w' k')
    ≡ first (f || f') (n || n') (w || w') (k || k')
lesser_is f n w k f' n' w' k' = grind arith

both_lesser : {A B : Type 0} (r : Result A Reason) (s : Result B Reason)
    → reason_in (both r s) ≡ lesser (reason_in r) (reason_in s)
both_lesser r s = grind arith

both_least : {A B : Type 0} (r : Result A Reason) (s : Result B Reason) (p q : Reason → Bool)
    → reason_in r ≡ find p field_reasons → reason_in s ≡ find q field_reasons
    → reason_in (both r s) ≡ find (λ r. p r || q r) field_reasons
both_least r s p q by_p by_q =
    both_lesser r s ∙ rw (by_p, by_q, first_found p, first_found q)
    (lesser_is (p Fields) (p Number) (p Worker) (p Key) (q Fields) (q Number) (q Worker) (q Key))
    ∙ sym (first_found (λ r. p r || q r))

-- ---- the fields of a line

worker_least : (workers : ℕ) (f : List ℕ) → reason_in (worker_of workers f)
    ≡ find (field_holds workers a.Worker f) field_reasons
worker_least workers f =
    elim (place_gives f) [
      | inl e ↦ rw e refl
      | inr x ↦ rw (x.1) (grind arith)
    ]

value_least : (workers : ℕ) (argument : Argument) (f : List ℕ)
    → reason_in (value_of workers argument f) ≡ find (field_holds workers argument f) field_reasons
value_least workers a.Place f = elim (place_gives f) [ inl e ↦ rw e refl | inr x ↦ rw (x.1) refl ]
value_least workers a.Number f = elim (number_gives f) [ inl e ↦ rw e refl | inr x ↦ rw (x.1) refl ]
value_least workers a.Key f =
    elim (number_gives f) [
      | inl e ↦ rw e refl
      | inr x ↦ elim (cases_Bool (is_key x.0)) [ inl y ↦ rw (x.1, y) refl | inr n ↦ rw (x.1, n) refl ]
    ]
value_least workers a.Worker f = worker_least workers f
value_least workers a.Field f = elim (by_word_gives field_words f) [ inl e ↦ rw e refl | inr x ↦ rw (x.1) refl ]
value_least workers a.Side f = elim (by_word_gives side_words f) [ inl e ↦ rw e refl | inr x ↦ rw (x.1) refl ]
value_least workers a.Op f = elim (by_word_gives op_words f) [ inl e ↦ rw e refl | inr x ↦ rw (x.1) refl ]
value_least workers a.Answer f = elim (by_word_gives answer_words f) [ inl e ↦ rw e refl | inr x ↦ rw (x.1) refl ]

row_least : (workers : ℕ) (row : List Argument) (fs : List (List ℕ))
    → reason_in (values_of workers row fs) ≡ find (row_holds workers row fs) field_reasons
row_least workers [] [] = refl
row_least workers [] (f ∷ fs) = refl
row_least workers (argument ∷ row) [] = refl
row_least workers (argument ∷ row) (f ∷ fs) =
    both_least (value_of workers argument f) (values_of workers row fs) (field_holds workers argument f)
    (row_holds workers row fs) (value_least workers argument f) (row_least workers row fs)

-- ---- a line

-- no reason of a worker is before that of a wrong kind
kind_first : {A : Type 0} (B : Type 0) (r : Result A Reason) (p : Reason → Bool) → reason_in r ≡ find p field_reasons
    → reason_in (both {B = B} r (Err reason.Kind)) ≡ Some reason.Kind
kind_first B r p by_p = both_lesser {B = B} r (Err reason.Kind) ∙ rw (by_p, first_found p) (grind arith)

kind_least : {X : Type 0} (kinds : List (KindOf X)) (header : Header) (w k : List ℕ) (fs : List (List ℕ))
    → list_all is_field (w ∷ k ∷ fs) ≡ true
    → (o : Option (KindOf X)) → find (is_named header.forms k (length fs == 0)) kinds ≡ o
    → reason_in (entry_of kinds header (w ∷ k ∷ fs)) ≡ find (holds_of kinds header false (w ∷ k ∷ fs)) line_reasons
unfolding entry_of made_by
kind_least {X} kinds header w k fs formed None is =
    let workers = header.layout.workers in
    let two : nat_lt (length (w ∷ k ∷ fs)) 2 ≡ false = le-ltb (length (w ∷ k ∷ fs)) 2 (omega arith) in
    rw (is, formed, two) (kind_first X (worker_of workers w) (field_holds workers a.Worker w) (worker_least workers w))
kind_least kinds header w k fs formed (Some kind) is =
    let workers = header.layout.workers in
    let two : nat_lt (length (w ∷ k ∷ fs)) 2 ≡ false = le-ltb (length (w ∷ k ∷ fs)) 2 (omega arith) in
    let values = values_of workers kind.arguments fs in
    rw (is, formed, two) (both_least (worker_of workers w) (with_view (made kind.arguments kind.maker) values)
    (field_holds workers a.Worker w) (row_holds workers kind.arguments fs) (worker_least workers w)
    (seen_reason _ values ∙ row_least workers kind.arguments fs))

entry_least : {X : Type 0} (kinds : List (KindOf X)) (header : Header) (fs : List (List ℕ))
    → list_all is_field fs ≡ true → reason_in (entry_of kinds header fs)
    ≡ find (holds_of kinds header false fs) line_reasons
unfolding entry_of
entry_least kinds header [] formed = refl
entry_least kinds header (w ∷ []) formed = rw formed refl
entry_least kinds header (w ∷ k ∷ fs) formed = kind_least kinds header w k fs formed _ refl

fields_least : {X : Type 0} (kinds : List (KindOf X)) (header : Header) (long : Bool) (fs : List (List ℕ))
    → reason_in (if long then Err reason.Long else if list_all is_field fs then entry_of kinds header fs else Err
    reason.Form) ≡ find (holds_of kinds header long fs) line_reasons
fields_least kinds header true fs = refl
fields_least kinds header false fs =
    elim (cases_Bool (list_all is_field fs)) [
      | inl y ↦ let e = entry_least kinds header fs y in rw y (rw y at e)
      | inr n ↦ rw n refl
    ]

line_least : {X : Type 0} (kinds : List (KindOf X)) (header : Header) (number : ℕ) (line : List ℕ)
    → reason_of (checked number line (line_of kinds header line)) ≡ find (holds kinds header number line) line_reasons
line_least kinds header number line = reason_at number _ ∙ fields_least kinds header (is_long number line) (fields line)

pub event_least : (header : Header) (number : ℕ) (line : List ℕ)
    → reason_of (checked number line (line_of events header line)) ≡ find (holds events header number line) line_reasons
event_least = line_least events

pub call_least : (header : Header) (number : ℕ) (line : List ℕ)
    → reason_of (checked number line (line_of calls header line)) ≡ find (holds calls header number line) line_reasons
call_least = line_least calls

-- ---- the first line

count_gives : (f : List ℕ) → Gives reason.Header (count f)
count_gives f = elim (number_gives f) [ inl e ↦ inl (rw e refl) | inr n ↦ inr (n.0, rw (n.1) refl) ]

tries_give : (command : Command) (fs : List (List ℕ)) → Gives reason.Header (tries_of command fs)
tries_give Replay [] = inr (1, refl)
tries_give Replay (f ∷ fs) = inl refl
tries_give Serial [] = inl refl
tries_give Serial (f ∷ []) = count_gives f
tries_give Serial (f ∷ g ∷ fs) = inl refl
tries_give Stress [] = inl refl
tries_give Stress (f ∷ []) = count_gives f
tries_give Stress (f ∷ g ∷ fs) = inl refl

-- limits where a version is this one, and as told where it is not
or_else : (given version : List ℕ) (limits : Limits) (others : Result Limits Reason) → Gives reason.Header others
    → Gives reason.Header (if bytes_eq given version then Ok limits else others)
or_else given version limits others gives =
    elim (cases_Bool (bytes_eq given version)) [
      | inl y ↦ inr (limits, rw y refl)
      | inr n ↦ rw n gives
    ]

later_give : (command : Command) (version : List ℕ) → Gives reason.Header (later_limits command version)
later_give Replay version = or_else version (codes "2") _ _
    (or_else version (codes "3") _ _ (or_else version (codes "4") _ _ (or_else version (codes "5") _ _ (inl refl))))
later_give Serial version = or_else version (codes "2") _ _ (or_else version (codes "3") _ _ (inl refl))
later_give Stress version = or_else version (codes "2") _ _ (or_else version (codes "3") _ _ (inl refl))

limits_give : (command : Command) (given version : List ℕ) → Gives reason.Header (limits_of command given version)
limits_give command given version =
    elim (cases_Bool (bytes_eq given (command_word command))) [
      | inl y ↦ rw y (or_else version (codes "1") _ _ (later_give command version))
      | inr n ↦ inl (rw n refl)
    ]

header_said : (command : Command) (given version nodes workers : List ℕ) (more : List (List ℕ))
    → header_of command (given ∷ version ∷ nodes ∷ workers ∷ more)
    ≡ (limits_of command given version >>= λ limits. count nodes >>= λ n. count workers >>= λ w. tries_of command
    more >>= λ t. header_within limits n w t)
unfolding header_of
header_said command given version nodes workers more = refl

sizes_least : (command : Command) (given version nodes workers : List ℕ) (more : List (List ℕ)) (limits : Limits)
    → limits_of command given version ≡ Ok limits
    → reason_in (header_of command (given ∷ version ∷ nodes ∷ workers ∷ more))
    ≡ find (header_holds_of command false (given ∷ version ∷ nodes ∷ workers ∷ more)) header_reasons
sizes_least command given version nodes workers more limits named =
    elim (number_gives nodes) [
      | inl e ↦ rw (header_said, named, e) refl
      | inr n ↦ elim (number_gives workers) [
        | inl e ↦ rw (header_said, named, n.1, e) refl
        | inr w ↦ elim (tries_give command more) [
          | inl e ↦ rw (header_said, named, n.1, w.1, e) refl
          | inr t ↦ elim (cases_Bool (outside 7 limits.nodes n.0)) [
            | inl y ↦ rw (header_said, named, n.1, w.1, t.1, y) refl
            | inr y ↦ elim (cases_Bool (outside 1 limits.workers w.0)) [
              | inl z ↦ rw (header_said, named, n.1, w.1, t.1, y, z) refl
              | inr z ↦ elim (cases_Bool (outside 1 1000000 t.0)) [
                | inl u ↦ rw (header_said, named, n.1, w.1, t.1, y, z, u) refl
                | inr u ↦ rw
                    (header_said, named, n.1, w.1, t.1, y, z, u) refl
              ]
            ]
          ]
        ]
      ]
    ]

header_least : (command : Command) (fs : List (List ℕ))
    → reason_in (header_of command fs) ≡ find (header_holds_of command false fs) header_reasons
unfolding header_of
header_least command [] = refl
header_least command (a ∷ []) = refl
header_least command (a ∷ b ∷ []) = refl
header_least command (a ∷ b ∷ c ∷ []) = refl
header_least command (a ∷ b ∷ c ∷ d ∷ more) =
    elim (limits_give command a b) [
      | inl e ↦ rw e refl
      | inr l ↦ let e = sizes_least command a b c d more l.0 l.1 in rw (l.1) (rw (l.1) at e)
    ]

first_least : (command : Command) (long : Bool) (fs : List (List ℕ))
    → reason_in (if long then Err reason.Long else header_of command fs)
    ≡ find (header_holds_of command long fs) header_reasons
first_least command true fs = refl
first_least command false fs = header_least command fs

pub first_line_least : (command : Command) (line : List ℕ)
    → reason_of (checked 1 line (first_line_of command line)) ≡ find (header_holds command line) header_reasons
first_line_least command line = reason_at 1 _ ∙ first_least command (is_long 1 line) (fields line)
