-- What holds of a list of blocks once its first block is out, and of empty places.
use Rattle.std.proofs.Common.{◌≡◌, ℕ, ◌-◌, ◌<◌, ◌≤◌, List, [], ◌∷◌, length, suc, take, drop, replicate, get_or, sym, ap, ◌∙◌, subst, arith}
use Rattle.std.proofs.lemmas.List.{length-drop, take-replicate, drop-replicate}
use Rattle.std.specs.Prelude.{Option, None}
use denote.RawPtr.{Ptr, null_ptr}
use Rattle.nm_limbo.specs.Blocks.{first_block_of, IsLast}
use Rattle.nm_limbo.specs.List.{IsLinked}

IsLast-tail : (p : Ptr) (ps : List Ptr) (l : Ptr) → IsLast (p ∷ ps) l → 0 < length ps → IsLast ps l
IsLast-tail p [] l last some = absurd (omega arith)
IsLast-tail p (q ∷ ps) l last some =
    let on : length (p ∷ q ∷ ps) - 1 ≡ suc (length (q ∷ ps) - 1) = omega arith in
    (some, last.1 ∙ ap (λ k. get_or (p ∷ q ∷ ps) k null_ptr) on)

pub linked_after : {X : Type 0} (ps qs : List Ptr) (cs ds : List (Option X)) (f g l : Ptr) (n : ℕ)
    → IsLinked ps cs f l n → ps ≡ f ∷ qs → ds ≡ drop 32 cs → g ≡ first_block_of qs → IsLinked qs ds g l (n - 1)
linked_after ps qs cs ds f g l n is cut rest on =
    let long = ap length cut in let short = ap length rest ∙ length-drop 32 cs in
    record {
      count = omega (arith, is.count);
      places = omega (arith, is.places);
      first = on;
      last = λ some. IsLast-tail f qs l (subst (λ rs. IsLast rs l) cut (is.last (omega arith))) some;
    }

module _ {X : Type 0} (cs : List (Option X)) where
  -- the places of the first block of an empty list
  pub take_empty : (n : ℕ) → cs ≡ replicate (length cs) None → n ≤ length cs → take n cs ≡ replicate n None
  take_empty n none le = ap (take n) none ∙ take-replicate n (length cs) None le

  pub drop_empty : (n : ℕ) → cs ≡ replicate (length cs) None → drop n cs ≡ replicate (length (drop n cs)) None
  drop_empty n none = ap (drop n) none ∙ drop-replicate n (length cs) None
      ∙ ap (λ k. replicate k None) (sym (length-drop n cs))
