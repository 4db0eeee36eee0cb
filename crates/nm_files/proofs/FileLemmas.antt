-- Lines read one after the other, and written one after the other.
use Rattle.std.proofs.Common.{◌≡◌, ℕ, ◌+◌, true, false, List, [], ◌∷◌, ◌++◌, length, Result, Ok, Err, refl, sym, ap, ◌∙◌, append_assoc, inl, inr}
use Rattle.std.specs.Prelude.{◌==◌}
use Rattle.std.specs.List.{onto_first}
use Rattle.std.proofs.lemmas.Bool.{cases_Bool}
use Rattle.std.proofs.lemmas.List.{append-nil}
use Rattle.nm_files.specs.declared.read.fault.Reason.{Reason}
use Rattle.nm_files.specs.declared.read.fault.RunFault.{RunFault}
use Rattle.nm_files.specs.declared.read.fault.RunFault.TheVariants as run
use Rattle.nm_files.specs.Chain.{◌>>=◌}
use Rattle.nm_files.specs.Lines.{pieces}
use Rattle.nm_files.specs.Files.{Fault, Fails, checked, cut_off, entries_from, file_from}

-- a text has at least one piece
abbrev pub IsFull : List (List ℕ) → Type 0
IsFull [] = ⊥
IsFull (x ∷ xs) = Unit {0}

onto_full : (x : ℕ) (ps : List (List ℕ)) → IsFull (onto_first x ps)
onto_full x [] = tt
onto_full x (p ∷ ps) = tt

pub pieces_full : (c : ℕ) (text : List ℕ) → IsFull (pieces c text)
pieces_full c [] = tt
pieces_full c (x ∷ xs) =
    elim (cases_Bool (x == c)) [
      | inl y ↦ rw y tt
      | inr n ↦ rw n (onto_full x (pieces c xs))
    ]

-- the entries that were read before, and those that are still read
abbrev pub with_front : {X : Type 0} → List X → Result (List X) Fault → Result (List X) Fault
with_front front said = said >>= λ entries. Ok (front ++ entries)

regroup : {X : Type 0} (front : List X) (x : X) (said : Result (List X) Fault)
    → with_front front (said >>= λ entries. Ok (x ∷ entries)) ≡ with_front (front ++ x ∷ []) said
regroup {X} front x (Ok entries) = ap (λ (xs : List X). Ok xs) (simp append_assoc)
regroup front x (Err f) = refl

-- one line and those after it
pub step : {X : Type 0} (says : List ℕ → Result X Reason) (number : ℕ) (line : List ℕ) (more : List (List ℕ))
    → IsFull more → entries_from says number (line ∷ more)
    ≡ (checked number line (says line) >>= λ entry. entries_from says (number + 1) more >>= λ entries. Ok
    (entry ∷ entries))
unfolding entries_from
step says number line [] full = absurd full
step says number line (next ∷ more) full = refl

pub goes_on : {X : Type 0} (says : List ℕ → Result X Reason) (front : List X) (number : ℕ) (all : List (List ℕ))
    (line : List ℕ) (more : List (List ℕ)) (x : X) (total : Result (List X) Fault) → all ≡ line ∷ more → IsFull more
    → checked number line (says line) ≡ Ok x
    → with_front front (entries_from says number all) ≡ total
    → with_front (front ++ x ∷ []) (entries_from says (number + 1) more) ≡ total
goes_on says front number all line more x total cut full said told =
    let one : with_front front (entries_from says number all)
    ≡ with_front (front ++ x ∷ []) (entries_from says (number + 1) more) = rw
    (cut, step says number line more full, said) (regroup front x (entries_from says (number + 1) more)) in
    sym one ∙ told

pub ends : {X : Type 0} (says : List ℕ → Result X Reason) (e : RunFault) (front : List X) (number : ℕ)
    (all : List (List ℕ)) (line : List ℕ) (more : List (List ℕ)) (total : Result (List X) Fault) → all ≡ line ∷ more
    → IsFull more → Fails e (checked number line (says line))
    → with_front front (entries_from says number all) ≡ total → Fails e total
ends says run.NoMemory front number all line more total cut full said told = tt
ends says run.Read front number all line more total cut full said told = absurd said
ends says run.Write front number all line more total cut full said told = absurd said
ends says (run.Gate worker at) front number all line more total cut full said told = absurd said
ends says run.Thread front number all line more total cut full said told = absurd said
ends says (run.Line l r) front number all line more total cut full said told =
    let one : with_front front (entries_from says number all)
    ≡ Err (record { line = l; reason = r }) = rw (cut, step says number line more full, said) refl in
    sym told ∙ one

pub done : {X : Type 0} (says : List ℕ → Result X Reason) (front : List X) (number : ℕ) (all : List (List ℕ))
    (line : List ℕ) (total : Result (List X) Fault) → all ≡ line ∷ [] → (length line == 0) ≡ true
    → with_front front (entries_from says number all) ≡ total → total ≡ Ok front
unfolding entries_from
done {X} says front number all line total cut empty told =
    let one : with_front front (entries_from says number all)
    ≡ Ok front = rw (cut, empty) (ap (λ (xs : List X). Ok xs) (append-nil front)) in
    sym told ∙ one

pub is_cut : {X : Type 0} (says : List ℕ → Result X Reason) (front : List X) (number : ℕ) (all : List (List ℕ))
    (line : List ℕ) (total : Result (List X) Fault) → all ≡ line ∷ [] → (length line == 0) ≡ false
    → with_front front (entries_from says number all) ≡ total → total ≡ Err (cut_off number line)
unfolding entries_from
is_cut says front number all line total cut empty told =
    let one : with_front front (entries_from says number all) ≡ Err (cut_off number line) = rw (cut, empty) refl in
    sym told ∙ one

-- ---- the whole file

pub opens : {H X : Type 0} (header_says : List ℕ → Result H Reason) (line_says : H → List ℕ → Result X Reason)
    (all : List (List ℕ)) (line : List ℕ) (more : List (List ℕ)) → all ≡ line ∷ more → IsFull more
    → file_from header_says line_says all ≡ (checked 1 line (header_says line) >>= λ header. entries_from
    (line_says header) 2 more >>= λ entries. Ok (record { header = header; entries = entries }))
unfolding file_from
opens header_says line_says all line [] cut full = absurd full
opens header_says line_says all line (next ∷ more) cut full = rw cut refl

pub opens_not : {H X : Type 0} (header_says : List ℕ → Result H Reason) (line_says : H → List ℕ → Result X Reason)
    (all : List (List ℕ)) (line : List ℕ) → all ≡ line ∷ [] → file_from header_says line_says all ≡ Err (cut_off 1 line)
unfolding file_from
opens_not header_says line_says all line cut = rw cut refl

-- what fails at a step fails as a whole
pub fails_first : {A B : Type 0} (e : RunFault) (r : Result A Fault) (f : A → Result B Fault) → Fails e r
    → Fails e (r >>= f)
fails_first run.NoMemory r f h = tt
fails_first run.Read r f h = absurd h
fails_first run.Write r f h = absurd h
fails_first (run.Gate worker line) r f h = absurd h
fails_first run.Thread r f h = absurd h
fails_first (run.Line l reason) r f h = rw h refl
