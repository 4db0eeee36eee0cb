-- A plain set keeps a key while no delete of it is answered true, and lacks one while no insert of
-- it is.
use Rattle.std.proofs.Common.{◌≡◌, inl, inr, ℕ, Bool, true, false, List, [], ◌∷◌, ◌++◌, refl, sym, subst}
use Rattle.nm_model.specs.declared.event.Op.{Op}
use Rattle.nm_model.specs.declared.event.Op.TheVariants.{Has, Insert, Delete}
use Rattle.nm_model.specs.Acts.{Gives, Act, IsAmong, Replays, changed}
use Rattle.nm_theorem.specs.EachRun.{IsTrueDelete}

pub still : (S : ℕ → Type 0) (k : ℕ) (op : Op) (j : ℕ) (answer : Bool) → (op ≡ Delete → j ≡ k → answer ≡ true → ⊥)
    → S k → changed S op j answer k
still S k Has j answer none there = there
still S k Insert j true none there = inl there
still S k Insert j false none there = there
still S k Delete j true none there = (there, λ e. none refl (sym e) refl)
still S k Delete j false none there = there

-- ---- acts among acts

behind : (xs ys : List Act) (x : Act) → IsAmong ys x → IsAmong (xs ++ ys) x
behind [] ys x there = there
behind (y ∷ xs) ys x there = inr (behind xs ys x there)

-- ---- a key that is there

-- up to some act
pub passes : (S T : ℕ → Type 0) (xs ys : List Act) → Replays S (xs ++ ys) T → (Q : Type 0)
    → ((U : ℕ → Type 0) → Replays U ys T → Q) → Q
passes S T [] ys r Q then' = then' S r
passes S T (x ∷ xs) ys r Q then' = passes (changed S x.op x.key x.answer) T xs ys r.2 Q then'

pub keeps : (k : ℕ) (S T : ℕ → Type 0) (xs ys : List Act) → ((a : Act) → IsAmong xs a → IsTrueDelete k a → ⊥)
    → Replays S (xs ++ ys) T → S k → (Q : Type 0) → ((U : ℕ → Type 0) → Replays U ys T → U k → Q) → Q
keeps k S T [] ys none r there Q then' = then' S r there
keeps k S T (x ∷ xs) ys none r there Q then' =
    keeps k (changed S x.op x.key x.answer) T xs ys (λ a among. none a (inr among)) r.2
    (still S k x.op x.key x.answer (λ d e t. none x (inl refl) (d, e, t)) there) Q then'

pub added : (S : ℕ → Type 0) (k : ℕ) (op : Op) (j : ℕ) (answer : Bool) → op ≡ Insert → j ≡ k → answer ≡ true
    → changed S op j answer k
added S k op j answer o e t = subst (λ (x : Op). changed S x j answer k) (sym o)
    (subst (λ (b : Bool). changed S Insert j b k) (sym t) (inr (sym e)))

pub found : (S : ℕ → Type 0) (k : ℕ) (op : Op) (j : ℕ) (answer : Bool) → op ≡ Has → j ≡ k → Gives S op j answer → S k
    → answer ≡ true
found S k op j answer o e gives there = go answer
    (subst (λ (i : ℕ). Gives S Has i answer) e (subst (λ (x : Op). Gives S x j answer) o gives))
  where
    go : (b : Bool) → Gives S Has k b → b ≡ true
    go true g = refl
    go false g = absurd (g there)

-- ---- a key that is not there

pub still_out : (S : ℕ → Type 0) (k : ℕ) (op : Op) (j : ℕ) (answer : Bool)
    → (op ≡ Insert → j ≡ k → answer ≡ true → ⊥) → (S k → ⊥) → changed S op j answer k → ⊥
still_out S k Has j answer none out there = out there
still_out S k Insert j true none out (inl there) = out there
still_out S k Insert j true none out (inr is) = none refl (sym is) refl
still_out S k Insert j false none out there = out there
still_out S k Delete j true none out there = out there.0
still_out S k Delete j false none out there = out there

pub taken : (S : ℕ → Type 0) (k : ℕ) (op : Op) (j : ℕ) (answer : Bool) → op ≡ Delete → j ≡ k → answer ≡ true
    → changed S op j answer k → ⊥
taken S k op j answer o e t there = out (subst (λ (b : Bool). changed S Delete j b k) t
    (subst (λ (x : Op). changed S x j answer k) o there))
  where
    out : changed S Delete j true k → ⊥
    out there' = there'.1 (sym e)

-- a later call for it that is answered true only where it is there, as a look-up and a delete are
pub missed : (S : ℕ → Type 0) (k : ℕ) (later : Op) → (Gives S later k true → S k) → (op : Op) (j : ℕ) (answer : Bool)
    → op ≡ later → j ≡ k → Gives S op j answer → (S k → ⊥) → answer ≡ false
missed S k later only op j answer o e gives out = go answer
    (subst (λ (i : ℕ). Gives S later i answer) e (subst (λ (x : Op). Gives S x j answer) o gives))
  where
    go : (b : Bool) → Gives S later k b → b ≡ false
    go true g = absurd (out (only g))
    go false g = refl
