-- Lines by their fields.
use Rattle.std.proofs.Common.{◌≡◌, ℕ, zero, suc, ◌+◌, ◌-◌, ◌<◌, append_assoc, Bor, List, [], ◌∷◌, ◌++◌, length, map, take, Option, Some, None, Err, true, ap, refl, Bool, arith}
use Rattle.std.specs.Prelude.{◌==◌}
use Rattle.std.specs.Option.{ok_or}
use Rattle.std.specs.List.{find, list_all}
use Rattle.std.proofs.lemmas.Bool.{ne_eqb, ltb-true}
use Rattle.std.proofs.lemmas.List.{map_push}
use Rattle.nm_files.specs.declared.read.fault.Reason.TheVariants as reason
use Rattle.nm_files.specs.declared.read.header.Command.{Command}
use Rattle.nm_files.specs.declared.read.header.Header.{Header}
use Rattle.nm_files.specs.Chain.{◌>>=◌}
use Rattle.nm_files.specs.Values.{Argument, values_of, both, worker_of}
use Rattle.nm_files.specs.Kinds.{Kind, is_short, is_named, made, made_by, with_view}
use Rattle.nm_files.specs.Entries.{entry_of}
use Rattle.nm_files.specs.Headers.{header_of, tries_of}
use Rattle.nm_files.proofs.ValueLemmas.{found_is, each_is}

pub entry_short : {X : Type 0} (kinds : List (Kind X)) (header : Header) (fs : List (List ℕ)) → length fs < 2
    → Err reason.Form ≡ entry_of kinds header fs
unfolding entry_of
entry_short kinds header [] h = refl
entry_short kinds header (a ∷ []) h = refl
entry_short kinds header (a ∷ b ∷ more) h = absurd (omega arith)

pub header_short : (command : Command) (fs : List (List ℕ)) → length fs < 4 → Err reason.Header ≡ header_of command fs
unfolding header_of
header_short command [] h = refl
header_short command (a ∷ []) h = refl
header_short command (a ∷ b ∷ []) h = refl
header_short command (a ∷ b ∷ c ∷ []) h = refl
header_short command (a ∷ b ∷ c ∷ d ∷ more) h = absurd (omega arith)

-- ---- what stands behind the first eight fields doesn't matter

tries_take : (command : Command) (fs : List (List ℕ)) → tries_of command (take 4 fs) ≡ tries_of command fs
tries_take command fs = grind arith

pub header_take : (command : Command) (fs : List (List ℕ)) → header_of command (take 8 fs) ≡ header_of command fs
unfolding header_of
header_take command [] = refl
header_take command (a ∷ []) = refl
header_take command (a ∷ b ∷ []) = refl
header_take command (a ∷ b ∷ c ∷ []) = refl
header_take command (a ∷ b ∷ c ∷ d ∷ more) = rw (tries_take command more) refl

values_take : (workers n : ℕ) (row : List Argument) (fs : List (List ℕ)) → length row < n
    → values_of workers row (take n fs) ≡ values_of workers row fs
values_take workers zero row fs h = absurd (omega (arith, h))
values_take workers (suc n) [] [] h = refl
values_take workers (suc n) [] (f ∷ fs) h = refl
values_take workers (suc n) (argument ∷ row) [] h = refl
values_take workers (suc n) (argument ∷ row) (f ∷ fs) h = rw (values_take workers n row fs (omega (arith, h))) refl

is_bare_take : (fs : List (List ℕ)) → (length (take 6 fs) == 0) ≡ (length fs == 0)
is_bare_take [] = refl
is_bare_take (f ∷ fs) = rw (
  ne_eqb (length (f ∷ take 5 fs)) 0 (λ e. omega (arith, e)),
  ne_eqb (length (f ∷ fs)) 0
      (λ e. omega (arith, e)),
) refl

after_kind : {X : Type 0} (kinds : List (Kind X)) → list_all is_short kinds ≡ true
    → (workers : ℕ) (test : Kind X → Bool) (fs : List (List ℕ)) (o : Option (Kind X)) → find test kinds ≡ o
    → (ok_or o reason.Kind >>= λ kind. with_view (made kind.arguments kind.maker)
    (values_of workers kind.arguments (take 6 fs)))
    ≡ (ok_or o reason.Kind >>= λ kind. with_view (made kind.arguments kind.maker) (values_of workers kind.arguments fs))
after_kind kinds few workers test fs (Some kind) is =
    let short = found_is (λ k. is_short k ≡ true) test kinds kind is (each_is is_short kinds few) in
    rw (values_take workers 6 kind.arguments fs (ltb-true (length kind.arguments) 6 short.0)) refl
after_kind kinds few workers test fs None is = refl

pub entry_take : {X : Type 0} (kinds : List (Kind X)) → list_all is_short kinds ≡ true
    → (header : Header) (fs : List (List ℕ)) → entry_of kinds header (take 8 fs) ≡ entry_of kinds header fs
unfolding entry_of made_by
entry_take kinds few header [] = refl
entry_take kinds few header (a ∷ []) = refl
entry_take kinds few header (a ∷ b ∷ more) =
    rw (is_bare_take more) (ap (both (worker_of header.layout.workers a))
    (after_kind kinds few header.layout.workers (is_named header.forms b (length more == 0)) more _ refl))

-- ---- what a function of the program gives

-- one more field that is kept
pub push_field : (items : List (Bor (List ℕ))) (f : Bor (List ℕ)) (i : ℕ) (all after total : List (List ℕ)) → i < 8
    → all ≡ f.now ∷ after → map (λ f. f.now) items ++ take (8 - i) all ≡ total
    → map (λ f. f.now) (items ++ f ∷ []) ++ take (8 - (i + 1)) after ≡ total
push_field items f i all after total lt cut told =
    let k : 8 - i ≡ suc (8 - (i + 1)) = omega arith in
    let before = rw (cut, k) at told in
    rw (map_push (λ (f : Bor (List ℕ)). f.now) items f, append_assoc) before
