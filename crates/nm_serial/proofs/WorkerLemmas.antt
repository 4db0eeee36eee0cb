-- Lists of a tree's workers.
use Rattle.std.proofs.Common.{◌<◌, ◌++◌, ℕ, zero, suc, List, [], ◌∷◌, length, slice_index_or, ap, subst, arith}
use Rattle.std.proofs.Math.Seq.{get_or-append_seam}
use Rattle.std.proofs.lemmas.List.{get_or_append_left, length_push}
use Rattle.nm_steps.specs.declared.view.View.{View}
use Rattle.nm_steps.specs.Steps.{TreeView, IsOf}
use Rattle.nm_tree.specs.Closing.{AreAllOf}
use Rattle.nm_tree.specs.Workers.{WorkerView, AreNew}

-- the workers of a new tree are its own
pub new_are_of : (b : TreeView) (n : ℕ) (ws : List WorkerView) → AreNew b n ws → (k : ℕ) (d : WorkerView)
    → k < length ws → IsOf b (slice_index_or ws k d).pass
new_are_of b n [] new k d lt = absurd (omega (arith, lt))
new_are_of b n (w ∷ ws) new zero d lt = record { table = new.0; layout = ap (λ (v : View). v.layout) new.1 }
new_are_of b n (w ∷ ws) new (suc k) d lt = new_are_of b (suc n) ws new.5 k d (omega (arith, lt))

-- each of them is, so all are
pub all_are_of : (b : TreeView) (ws : List WorkerView)
    → ((k : ℕ) (d : WorkerView) → k < length ws → IsOf b (slice_index_or ws k d).pass) → AreAllOf b ws
all_are_of b [] each = tt
all_are_of b (w ∷ ws) each = (each 0 w (omega arith), all_are_of b ws (λ k d lt. each (suc k) d (omega (arith, lt))))

-- ---- lists of which all are so, with one more at the end

module _ {X : Type 0} (P : X → Type 0) (xs : List X) (x : X) where
  pub front : ((k : ℕ) (d : X) → k < length (xs ++ x ∷ []) → P (slice_index_or (xs ++ x ∷ []) k d)) → (k : ℕ) (d : X)
      → k < length xs → P (slice_index_or xs k d)
  front all k d lt = let more = length_push xs x in
      subst P (get_or_append_left xs (x ∷ []) d k lt) (all k d (omega (arith, lt, more)))

  pub last : ((k : ℕ) (d : X) → k < length (xs ++ x ∷ []) → P (slice_index_or (xs ++ x ∷ []) k d)) → P x
  last all = let more = length_push xs x in
      subst P (get_or-append_seam xs x [] x) (all (length xs) x (omega (arith, more)))

pub pushed : {X : Type 0} (P : X → Type 0) (xs : List X) (x : X)
    → ((k : ℕ) (d : X) → k < length xs → P (slice_index_or xs k d)) → P x → (k : ℕ) (d : X)
    → k < length (xs ++ x ∷ []) → P (slice_index_or (xs ++ x ∷ []) k d)
pushed P [] x all is zero d lt = is
pushed P [] x all is (suc k) d lt = absurd (omega (arith, lt))
pushed P (y ∷ xs) x all is zero d lt = all 0 d (omega arith)
pushed P (y ∷ xs) x all is (suc k) d lt = pushed P xs x (λ i e below. all (suc i) e (omega (arith, below))) is k d
    (omega (arith, lt))
