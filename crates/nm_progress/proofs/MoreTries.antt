-- Lost tries of two parts of a log, one behind the other; and entries that change nothing.
use Rattle.std.proofs.Common.{◌≡◌, ℕ, suc, ◌+◌, Bool, false, ◌||◌, List, [], ◌∷◌, ◌++◌, append_assoc, refl, sym, ap, subst, ◌∙◌, arith, true≢false}
use Rattle.std.specs.Prelude.{Ok}
use Rattle.std.specs.List.{list_any}
use Rattle.std.proofs.lemmas.Bool.{or_parts, false_from_ne_true}
use Rattle.std.proofs.lemmas.List.{append-nil}
use Rattle.std.proofs.lemmas.List.Folds.{list_any-append}
use Rattle.nm_edge.specs.Layouts.{Layout}
use Rattle.nm_edge.specs.declared.edge.Side.{Side}
use Rattle.nm_model.specs.Knowledge.{knows}
use Rattle.nm_model.specs.Walks.{Entry, begins_anew}
use Rattle.nm_order.specs.Logs.{known_by, IsLogOf}
use Rattle.nm_order.proofs.LastEntries.{log_before}
use Rattle.nm_progress.specs.Changes.{is_change}
use Rattle.nm_progress.specs.Tries.{changes_edge, reading, losing, LosesTries}
use Rattle.nm_progress.specs.Tries.LosesTries.{NoTry, OneTry}
use Rattle.nm_progress.proofs.CountedTries.{change_is}

-- ---- a part of a log

pub log_prefix : (L : Layout) (w : ℕ) (xs ys : List Entry) → IsLogOf L w (xs ++ ys) → IsLogOf L w xs
log_prefix L w xs [] l = subst (IsLogOf L w) (append-nil xs) l
log_prefix L w xs (y ∷ ys) l = log_before L w xs y
    (log_prefix L w (xs ++ y ∷ []) ys (subst (IsLogOf L w) (sym (append_assoc xs (y ∷ []) ys)) l))

-- ---- entries that begin no pin and change no edge

abbrev pub is_loud : Entry → Bool
is_loud e = begins_anew e || changes_edge e.0 (Ok e.1)

-- where no entry is of a kind, none is of a kind within it
pub none_within : (such part : Entry → Bool) → ((e : Entry) → such e ≡ false → part e ≡ false) → (es : List Entry)
    → list_any such es ≡ false → list_any part es ≡ false
none_within such part within [] none = refl
none_within such part within (e ∷ es) none = let parts = or_parts (such e) (list_any such es) none in
    ap (λ (b : Bool). b || list_any part es) (within e parts.0) ∙ none_within such part within es parts.1

pub quiet_pins : (es : List Entry) → list_any is_loud es ≡ false → list_any begins_anew es ≡ false
quiet_pins = none_within is_loud begins_anew (λ e quiet. (or_parts (begins_anew e) (changes_edge e.0 (Ok e.1)) quiet).0)

pub quiet_edges : (x : ℕ) (d : Side) (es : List Entry) → list_any is_loud es ≡ false
    → list_any (is_change x d) es ≡ false
quiet_edges x d = none_within is_loud (is_change x d)
    (λ e quiet. false_from_ne_true (is_change x d e)
    (λ is. true≢false (sym (change_is x d e.0 (Ok e.1) is)
    ∙ (or_parts (begins_anew e) (changes_edge e.0 (Ok e.1)) quiet).1)))

-- a log that has grown by entries of which none is of a kind
pub record AddsNone (such : Entry → Bool) (old new : List Entry) : Type 0 where
  pub entries : List Entry
  pub are : new ≡ old ++ entries
  pub quiet : list_any such entries ≡ false

pub adds_these : (such : Entry → Bool) (more old new : List Entry) → list_any such more ≡ false → new ≡ old ++ more
    → AddsNone such old new
adds_these such more old new quiet is = record { entries = more; are = is; quiet = quiet }

pub adds_then : (such : Entry → Bool) (old mid new : List Entry) → AddsNone such old mid → AddsNone such mid new
    → AddsNone such old new
adds_then such old mid new a b = record {
  entries = a.entries ++ b.entries;
  are = b.are ∙ (ap (λ (l : List Entry). l ++ b.entries) a.are ∙ append_assoc old a.entries b.entries);
  quiet = list_any-append such a.entries b.entries
      ∙ (ap (λ (x : Bool). x || list_any such b.entries) a.quiet ∙ b.quiet);
}

abbrev pub Plain : List Entry → List Entry → Type 0
Plain = AddsNone is_loud

pub plain_none : (old new : List Entry) → new ≡ old → Plain old new
plain_none old new is = record { entries = []; are = is ∙ sym (append-nil old); quiet = refl }

pub plain_these : (more old new : List Entry) → list_any is_loud more ≡ false → new ≡ old ++ more → Plain old new
plain_these = adds_these is_loud

pub plain_then : (old mid new : List Entry) → Plain old mid → Plain mid new → Plain old new
plain_then = adds_then is_loud

-- ---- tries behind one another

module _ (L : Layout) (w : ℕ) where
  -- behind entries that are left out
  pub skip : (so_far pre rest : List Entry) (n : ℕ) → LosesTries L w (so_far ++ pre) rest n
      → LosesTries L w so_far (pre ++ rest) n
  skip so_far pre rest _ NoTry = NoTry
  skip so_far pre _ _ (OneTry n x d s first between rest exchange found known expects stands own further) =
      subst (λ (l : List Entry). LosesTries L w so_far l (suc n))
      (append_assoc pre first (reading x d s ∷ (between ++ losing exchange found ∷ rest)))
      (OneTry n x d s (pre ++ first) between rest exchange found
      (ap (λ (l : List Entry). knows (known_by L w l) x) (sym (append_assoc so_far pre first)) ∙ known) expects
      stands own
      (subst (λ (l : List Entry). LosesTries L w l rest n)
      (append_assoc so_far pre (first ++ reading x d s ∷ (between ++ losing exchange found ∷ []))
      ∙ ap (λ (l : List Entry). so_far ++ l) (sym (append_assoc pre first
      (reading x d s ∷ (between ++ losing exchange found ∷ []))))) further))

  -- and those of a later part behind those of an earlier one
  pub tries_then : (so_far xs : List Entry) (m : ℕ) → LosesTries L w so_far xs m → (ys : List Entry) (n : ℕ)
      → LosesTries L w (so_far ++ xs) ys n → LosesTries L w so_far (xs ++ ys) (m + n)
  tries_then so_far xs _ NoTry ys n later = subst (LosesTries L w so_far (xs ++ ys))
      (let is : n ≡ 0 + n = omega arith in is) (skip so_far xs ys n later)
  tries_then so_far _ _ (OneTry m x d s first between rest exchange found known expects stands own further) ys n later =
      subst (LosesTries L w so_far ((first ++ reading x d s ∷ (between ++ losing exchange found ∷ rest)) ++ ys))
      (let is : suc (m + n) ≡ suc m + n = omega arith in is)
      (subst (λ (l : List Entry). LosesTries L w so_far l (suc (m + n))) (sym joined)
      (OneTry (m + n) x d s first between (rest ++ ys) exchange found known expects stands own
      (tries_then (so_far ++ (first ++ reading x d s ∷ (between ++ losing exchange found ∷ []))) rest m further ys n
      (subst (λ (l : List Entry). LosesTries L w l ys n) before later))))
    where
      inner : (between ++ losing exchange found ∷ rest) ++ ys ≡ between ++ losing exchange found ∷ (rest ++ ys)
      inner = append_assoc between (losing exchange found ∷ rest) ys

      joined : (first ++ reading x d s ∷ (between ++ losing exchange found ∷ rest)) ++ ys
          ≡ first ++ reading x d s ∷ (between ++ losing exchange found ∷ (rest ++ ys))
      joined = append_assoc first (reading x d s ∷ (between ++ losing exchange found ∷ rest)) ys
          ∙ ap (λ (l : List Entry). first ++ reading x d s ∷ l) inner

      before : so_far ++ (first ++ reading x d s ∷ (between ++ losing exchange found ∷ rest))
          ≡ (so_far ++ (first ++ reading x d s ∷ (between ++ losing exchange found ∷ []))) ++ rest
      before = ap (λ (l : List Entry). so_far ++ l) (ap (λ (l : List Entry). first ++ reading x d s ∷ l)
          (sym (append_assoc between (losing exchange found ∷ []) rest))
          ∙ sym (append_assoc first (reading x d s ∷ (between ++ losing exchange found ∷ [])) rest))
          ∙ sym (append_assoc so_far (first ++ reading x d s ∷ (between ++ losing exchange found ∷ [])) rest)
