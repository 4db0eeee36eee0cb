-- What stands past the limit of bytes doesn't matter: there is a fault before it.
use Rattle.std.proofs.Common.{◌≡◌, ℕ, suc, ◌+◌, ◌-◌, ◌*◌, ◌≤◌, ◌<◌, true, false, List, [], ◌∷◌, ◌++◌, length, take, drop, Result, Ok, Err, refl, sym, ap, ◌∙◌, inl, inr, ◌⊎◌, arith}
use Rattle.std.specs.Prelude.{◌==◌, nat_lt}
use Rattle.std.specs.List.{onto_first}
use Rattle.std.proofs.lemmas.Bool.{cases_Bool, cases_lt, lt-ltb, both_ways, ne_eqb}
use Rattle.std.proofs.lemmas.List.{length-append, length-take, take-append-drop, take_all}
use Rattle.nm_files.specs.declared.read.fault.Reason.TheVariants as reason
use Rattle.nm_files.specs.Chain.{◌>>=◌}
use Rattle.nm_files.specs.declared.read.fault.Reason.{Reason}
use Rattle.nm_files.specs.Lines.{pieces, parts}
use Rattle.nm_files.specs.Files.{Fault, is_long, checked, entries_from, file_from}
use Rattle.nm_files.proofs.FileLemmas.{IsFull, pieces_full, step, opens}

-- the pieces of two texts joined: the last of the first goes on as the first of the second
abbrev glue : List (List ℕ) → List (List ℕ) → List (List ℕ)
glue [] qs = qs
glue (x ∷ []) [] = x ∷ []
glue (x ∷ []) (f ∷ rest) = (x ++ f) ∷ rest
glue (x ∷ y ∷ more) qs = x ∷ glue (y ∷ more) qs

-- how long a text with these pieces is
abbrev bytes_of : List (List ℕ) → ℕ
bytes_of [] = 0
bytes_of (x ∷ []) = length x
bytes_of (x ∷ y ∷ more) = length x + 1 + bytes_of (y ∷ more)

glue_nil : (qs : List (List ℕ)) → IsFull qs → glue ([] ∷ []) qs ≡ qs
glue_nil [] full = absurd full
glue_nil (f ∷ rest) full = refl

glue_next : (ps qs : List (List ℕ)) → IsFull ps → glue ([] ∷ ps) qs ≡ [] ∷ glue ps qs
glue_next [] qs full = absurd full
glue_next (p ∷ ps) qs full = refl

glue_onto : (x : ℕ) (ps qs : List (List ℕ)) → IsFull ps → IsFull qs
    → glue (onto_first x ps) qs ≡ onto_first x (glue ps qs)
glue_onto x [] qs full fullq = absurd full
glue_onto x (p ∷ []) [] full fullq = absurd fullq
glue_onto x (p ∷ []) (f ∷ rest) full fullq = refl
glue_onto x (p ∷ q ∷ more) qs full fullq = refl

glued : (c : ℕ) (p q : List ℕ) → pieces c (p ++ q) ≡ glue (pieces c p) (pieces c q)
glued c [] q = sym (glue_nil (pieces c q) (pieces_full c q))
glued c (x ∷ xs) q =
    elim (cases_Bool (x == c)) [
      | inl y ↦ rw (y, glued c xs q) (sym (glue_next (pieces c xs) (pieces c q) (pieces_full c xs)))
      | inr n ↦ rw (n, glued c xs q) (sym (glue_onto x (pieces c xs) (pieces c q) (pieces_full c xs) (pieces_full c q)))
    ]

bytes_next : (ps : List (List ℕ)) → IsFull ps → bytes_of ([] ∷ ps) ≡ suc (bytes_of ps)
bytes_next [] full = absurd full
bytes_next (p ∷ ps) full = omega arith

bytes_onto : (x : ℕ) (ps : List (List ℕ)) → IsFull ps → bytes_of (onto_first x ps) ≡ suc (bytes_of ps)
bytes_onto x [] full = absurd full
bytes_onto x (p ∷ []) full = refl
bytes_onto x (p ∷ q ∷ more) full = omega arith

bytes_pieces : (c : ℕ) (p : List ℕ) → bytes_of (pieces c p) ≡ length p
bytes_pieces c [] = refl
bytes_pieces c (x ∷ xs) =
    elim (cases_Bool (x == c)) [
      | inl y ↦ rw y (bytes_next (pieces c xs) (pieces_full c xs) ∙ ap suc (bytes_pieces c xs))
      | inr n ↦ rw n (bytes_onto x (pieces c xs) (pieces_full c xs) ∙ ap suc (bytes_pieces c xs))
    ]

-- one fault
abbrev pub BothFail : {A : Type 0} → Result A Fault → Result A Fault → Type 0
BothFail a b = (fault : Fault) × (a ≡ Err fault) × (b ≡ Err fault)

long : (number : ℕ) (line : List ℕ) → (100001 < number) ⊎ (120 < length line) → is_long number line ≡ true
long number line (inl h) = rw (lt-ltb 100001 number h) refl
long number line (inr h) = let far = lt-ltb 120 (length line) h in
    elim (cases_Bool (nat_lt 100001 number)) [ inl y ↦ rw y refl | inr n ↦ rw (n, far) refl ]

pub short : (number : ℕ) (line : List ℕ) → is_long number line ≡ false → (number ≤ 100001) × (length line ≤ 120)
short number line h =
    elim (cases_lt 100001 number) [
      | inl far ↦ absurd (both_ways (is_long number line) h (long number line (inl far)))
      | inr le ↦ elim (cases_lt 120 (length line)) [
        | inl far ↦ absurd (both_ways (is_long number line) h (long number line (inr far)))
        | inr few ↦ (le, few)
      ]
    ]

-- a long line is a fault, whatever follows it
last_long : {X : Type 0} (says : List ℕ → Result X Reason) (number : ℕ) (line : List ℕ) (more : List (List ℕ))
    → is_long number line ≡ true → 0 < length line → entries_from says number (line ∷ more)
    ≡ Err (record { line = number; reason = reason.Long })
unfolding entries_from
last_long says number line [] h some = let full = ne_eqb (length line) 0 (λ e. omega (arith, e)) in rw (full, h) refl
last_long says number line (next ∷ more) h some = rw h refl

next_long : {X : Type 0} (says : List ℕ → Result X Reason) (number : ℕ) (line : List ℕ) (more : List (List ℕ))
    → IsFull more → is_long number line ≡ true → entries_from says number (line ∷ more)
    ≡ Err (record { line = number; reason = reason.Long })
unfolding entries_from
next_long says number line [] full h = absurd full
next_long says number line (next ∷ more) full h = rw h refl

-- after the same first line
pub both_after : {A B : Type 0} (first : Result A Fault) (f g : A → Result B Fault)
    → ((x : A) → BothFail (f x) (g x)) → BothFail (first >>= f) (first >>= g)
both_after (Ok x) f g both = both x
both_after (Err fault) f g both = (fault, refl, refl)

pub both_then : {A B : Type 0} (a b : Result A Fault) (f g : A → Result B Fault) → BothFail a b
    → BothFail (a >>= f) (b >>= g)
both_then a b f g both = (both.0, rw (both.1) refl, rw (both.2) refl)

both_are : {A : Type 0} (a b x y : Result A Fault) → x ≡ a → y ≡ b → BothFail a b → BothFail x y
both_are a b x y p q both = (both.0, p ∙ both.1, q ∙ both.2)

glue_full : (ps qs : List (List ℕ)) → IsFull ps → IsFull (glue ps qs)
glue_full [] qs full = absurd full
glue_full (x ∷ []) [] full = tt
glue_full (x ∷ []) (f ∷ rest) full = tt
glue_full (x ∷ y ∷ more) qs full = tt

-- so many bytes of lines have a fault
same_entries : {X : Type 0} (says : List ℕ → Result X Reason) (number : ℕ) (ps qs : List (List ℕ)) → IsFull ps
    → IsFull qs → 121 * (100002 - number) < bytes_of ps
    → BothFail (entries_from says number ps) (entries_from says number (glue ps qs))
same_entries says number [] qs full fullq many = absurd full
same_entries says number (x ∷ []) [] full fullq many = absurd fullq
same_entries says number (x ∷ []) (f ∷ rest) full fullq many =
    let far : (100001 < number) ⊎ (120 < length x) = elim (cases_lt 100001 number)
    [ inl far ↦ inl far | inr le ↦ inr (omega arith) ] in
    let on : (100001 < number) ⊎ (120 < length (x ++ f)) = elim far
    [ inl far ↦ inl far | inr far ↦ inr (omega (arith, length-append x f, far)) ] in (
      record { line = number; reason = reason.Long },
      last_long says number x [] (long number x far) (omega arith),
      last_long says number (x ++ f) rest (long number (x ++ f) on) (omega (arith, length-append x f)),
    )
same_entries says number (x ∷ y ∷ more) qs full fullq many =
    elim (cases_Bool (is_long number x)) [
      | inl far ↦ (
        record { line = number; reason = reason.Long },
        next_long says number x (y ∷ more) tt far,
        next_long says number x (glue (y ∷ more) qs) (glue_full (y ∷ more) qs tt) far,
      )
      | inr near ↦
          let fits = short number x near in
          let inner = same_entries says (number + 1) (y ∷ more) qs tt fullq (omega (arith, fits.0, fits.1)) in
          both_are _ _ _ _ (step says number x (y ∷ more) tt)
          (step says number x (glue (y ∷ more) qs) (glue_full (y ∷ more) qs tt))
          (both_after (checked number x (says x)) _ _ (λ e. both_then _ _ _ _ inner))
    ]

-- ---- the whole file

first_long : {H X : Type 0} (header_says : List ℕ → Result H Reason) (line_says : H → List ℕ → Result X Reason)
    (line : List ℕ) (more : List (List ℕ)) → is_long 1 line ≡ true
    → file_from header_says line_says (line ∷ more) ≡ Err (record { line = 1; reason = reason.Long })
unfolding file_from
first_long header_says line_says line [] h = rw h refl
first_long header_says line_says line (next ∷ more) h = rw h refl

same_parts : {H X : Type 0} (header_says : List ℕ → Result H Reason) (line_says : H → List ℕ → Result X Reason)
    (ps qs : List (List ℕ)) → IsFull ps → IsFull qs → 12100121 < bytes_of ps
    → BothFail (file_from header_says line_says ps) (file_from header_says line_says (glue ps qs))
same_parts header_says line_says [] qs full fullq many = absurd full
same_parts header_says line_says (x ∷ []) [] full fullq many = absurd fullq
same_parts header_says line_says (x ∷ []) (f ∷ rest) full fullq many = (
  record { line = 1; reason = reason.Long },
  first_long header_says line_says x [] (long 1 x (inr (omega arith))),
  first_long header_says line_says (x ++ f) rest (long 1 (x ++ f) (inr (omega (arith, length-append x f)))),
)
same_parts header_says line_says (x ∷ y ∷ more) qs full fullq many =
    elim (cases_Bool (is_long 1 x)) [
      | inl far ↦ (
        record { line = 1; reason = reason.Long },
        first_long header_says line_says x (y ∷ more) far,
        first_long header_says line_says x (glue (y ∷ more) qs) far,
      )
      | inr near ↦
          let fits = short 1 x near in
          let whole = opens header_says line_says (x ∷ y ∷ more) x (y ∷ more) refl tt in
          let joined = opens header_says line_says (x ∷ glue (y ∷ more) qs) x (glue (y ∷ more) qs) refl
          (glue_full (y ∷ more) qs tt) in
          both_are _ _ _ _ whole joined (both_after (checked 1 x (header_says x)) _ _
          (λ header. both_then _ _ _ _ (same_entries (line_says header) 2 (y ∷ more) qs tt fullq
          (omega (arith, fits.1)))))
    ]

-- a file of so many bytes and more has a fault, and the same one whatever follows them
pub same_file : {H X : Type 0} (header_says : List ℕ → Result H Reason) (line_says : H → List ℕ → Result X Reason)
    (p q : List ℕ) → 12100121 < length p → BothFail (file_from header_says line_says (parts p))
    (file_from header_says line_says (parts (p ++ q)))
same_file header_says line_says p q many =
    let same = same_parts header_says line_says (parts p) (parts q) (pieces_full 10 p) (pieces_full 10 q)
    (rw (bytes_pieces 10 p) many) in
    both_are _ _ _ _ refl (ap (file_from header_says line_says) (glued 10 p q)) same

-- what is told of the bytes up to the limit is told of all, where it is told of the file that they
-- say
pub within_limit : {H X Y : Type 0} (header_says : List ℕ → Result H Reason)
    (line_says : H → List ℕ → Result X Reason) (tells : List ℕ → Result Y Fault)
    → ((p q : List ℕ) → BothFail (file_from header_says line_says (parts p))
    (file_from header_says line_says (parts (p ++ q))) → BothFail (tells p) (tells (p ++ q)))
    → (input : List ℕ) → tells (take 12100122 input) ≡ tells input
within_limit header_says line_says tells by_file input =
    elim (cases_lt (length input) 12100122) [
      | inl few ↦ rw (take_all 12100122 input (omega arith)) refl
      | inr many ↦
          let p = take 12100122 input in
          let q = drop 12100122 input in
          let same = by_file p q (same_file header_says line_says p q (omega (arith, length-take 12100122 input))) in
          same.1 ∙ sym same.2 ∙ ap tells (take-append-drop 12100122 input)
    ]
