-- Trees as two children for each slot, 0 for none: what paths lead to after one edge is exchanged.
use Rattle.std.proofs.Common.{◌≡◌, ℕ, eqb, Bool, true, false, cond, ◌&&◌, List, [], ◌∷◌, ◌++◌, refl, sym, ap, ◌∙◌, true≢false, zero, suc}
use Rattle.std.specs.Prelude.{Option, Some, None}
use Rattle.std.proofs.lemmas.Bool.{eqb-true, eq-eqb, and_parts, and_from}
use Rattle.std.proofs.lemmas.Option.{none-some, same_Some}
use Rattle.nm_edge.specs.declared.edge.Side.{Side}
use Rattle.nm_edge.specs.declared.edge.Side.TheVariants.{Left, Right}
use Rattle.nm_edge.specs.Edges.{other}
use Rattle.nm_model.specs.Paths.{follow}

abbrev pub Children : Type 0
Children = ℕ → Side → ℕ

abbrev pub same_side : Side → Side → Bool
same_side Left Left = true
same_side Left Right = false
same_side Right Left = false
same_side Right Right = true

-- what holds on the left and on the right holds on each side
pub each_side : (P : Side → Type 0) → P Left → P Right → (d : Side) → P d
each_side P l r Left = l
each_side P l r Right = r

-- what holds of each of the first six slots and of each later one holds of each slot
pub each_slot : (P : ℕ → Type 0) → P 0 → P 1 → P 2 → P 3 → P 4 → P 5
    → ((x : ℕ) → P (suc (suc (suc (suc (suc (suc x))))))) → (x : ℕ) → P x
each_slot P a b c d e f later zero = a
each_slot P a b c d e f later (suc zero) = b
each_slot P a b c d e f later (suc (suc zero)) = c
each_slot P a b c d e f later (suc (suc (suc zero))) = d
each_slot P a b c d e f later (suc (suc (suc (suc zero)))) = e
each_slot P a b c d e f later (suc (suc (suc (suc (suc zero))))) = f
each_slot P a b c d e f later (suc (suc (suc (suc (suc (suc x)))))) = later x

pub same_side-true : (d e : Side) → same_side d e ≡ true → d ≡ e
same_side-true Left Left h = refl
same_side-true Left Right h = absurd (true≢false (sym h))
same_side-true Right Left h = absurd (true≢false (sym h))
same_side-true Right Right h = refl

pub same_side-false : (d e : Side) → same_side d e ≡ false → e ≡ other d
same_side-false Left Left h = absurd (true≢false h)
same_side-false Left Right h = refl
same_side-false Right Left h = refl
same_side-false Right Right h = absurd (true≢false h)

pub same_side-refl : (d : Side) → same_side d d ≡ true
same_side-refl Left = refl
same_side-refl Right = refl

pub follow-append : (c : Children) (s : ℕ) (p q : List Side) → follow c s (p ++ q) ≡ follow c (follow c s p) q
follow-append c s [] q = refl
follow-append c s (d ∷ p) q = follow-append c (c s d) p q

pub follow_none : (c : Children) → ((d : Side) → c 0 d ≡ 0) → (q : List Side) → follow c 0 q ≡ 0
follow_none c null [] = refl
follow_none c null (d ∷ q) = rw (null d) (follow_none c null q)

-- below a leaf there is nothing
pub follow_leaf : (c : Children) → ((d : Side) → c 0 d ≡ 0) → (s : ℕ) → ((d : Side) → c s d ≡ 0)
    → (d : Side) (q : List Side) → follow c s (d ∷ q) ≡ 0
follow_leaf c null s leaf d q = rw (leaf d) (follow_none c null q)

pub append_cancel : (p q r : List Side) → p ++ q ≡ p ++ r → q ≡ r
append_cancel [] q r h = h
append_cancel (d ∷ p) q r h = append_cancel p q r (cc)

-- no path goes on from its end to itself
pub no_longer : (d : Side) (p q : List Side) → p ≡ p ++ d ∷ q → ⊥
no_longer d [] q h = cc
no_longer d (e ∷ p) q h = no_longer d p q (cc)

-- ---- what is left of a path after it first takes the edge (p, d)

abbrev pub rest_after : Children → ℕ → Side → ℕ → List Side → Option (List Side)
rest_after c p d s [] = None
rest_after c p d s (e ∷ es) = cond (eqb s p && same_side d e) (Some es) (rest_after c p d (c s e) es)

-- one edge of c leads elsewhere in c'
pub record Exchanged (c c' : Children) (p : ℕ) (d : Side) (t : ℕ) : Type 0 where
  pub here : c' p d ≡ t
  pub others : (x : ℕ) (e : Side) → (eqb x p && same_side d e) ≡ false → c' x e ≡ c x e

-- a path that does not take the edge leads where it led
pub not_taken : (c c' : Children) (p : ℕ) (d : Side) (t : ℕ) → Exchanged c c' p d t → (s : ℕ) (q : List Side)
    → rest_after c p d s q ≡ None → follow c' s q ≡ follow c s q
not_taken c c' p d t x s [] h = refl
not_taken c c' p d t x s (e ∷ es) h = go (eqb s p && same_side d e) refl h (not_taken c c' p d t x (c s e) es)
  where
    go : (b : Bool) → (eqb s p && same_side d e) ≡ b → cond b (Some es) (rest_after c p d (c s e) es) ≡ None
        → (rest_after c p d (c s e) es ≡ None → follow c' (c s e) es ≡ follow c (c s e) es)
        → follow c' (c' s e) es ≡ follow c (c s e) es
    go true is h ih = absurd (none-some es (sym h))
    go false is h ih = rw (x.others s e is) (ih h)

-- a path that takes it: where it stood then, and where it leads
pub record Taken (c c' : Children) (p : ℕ) (d : Side) (t s : ℕ) (q r : List Side) : Type 0 where
  pub front : List Side
  pub is : q ≡ front ++ d ∷ r
  pub comes : follow c s front ≡ p
  pub leads : follow c' s q ≡ follow c' t r

pub taken : (c c' : Children) (p : ℕ) (d : Side) (t : ℕ) → Exchanged c c' p d t → (s : ℕ) (q r : List Side)
    → rest_after c p d s q ≡ Some r → Taken c c' p d t s q r
taken c c' p d t x s [] r h = absurd (none-some r h)
taken c c' p d t x s (e ∷ es) r h = go (eqb s p && same_side d e) refl h (taken c c' p d t x (c s e) es r)
  where
    go : (b : Bool) → (eqb s p && same_side d e) ≡ b → cond b (Some es) (rest_after c p d (c s e) es) ≡ Some r
        → (rest_after c p d (c s e) es ≡ Some r → Taken c c' p d t (c s e) es r) → Taken c c' p d t s (e ∷ es) r
    go true is h ih =
        let parts = and_parts (eqb s p) (same_side d e) is in
        let at : s ≡ p = eqb-true s p parts.0 in
        let side : d ≡ e = same_side-true d e parts.1 in
        let rest : es ≡ r = same_Some es r h in
        record {
          front = [];
          is = ap (λ (y : Side). y ∷ es) (sym side)
              ∙ ap (λ (ys : List Side). d ∷ ys) rest;
          comes = at;
          leads = rw at
              (rw (← side) (rw x.here (ap (follow c' t) rest)));
        }
    go false is h ih =
        let later = ih h in
        record {
          front = e ∷ later.front;
          is = ap (λ (ys : List Side). e ∷ ys) later.is;
          comes = later.comes;
          leads =
              rw (x.others s e is) later.leads;
        }

-- a path that stands at p and goes on by d does take it
pub is_taken : (c : Children) (p : ℕ) (d : Side) (s : ℕ) (q r : List Side) → follow c s q ≡ p
    → rest_after c p d s (q ++ d ∷ r) ≡ None → ⊥
is_taken c p d s [] r at h =
    let is : (eqb s p && same_side d d) ≡ true = and_from (eqb s p) (same_side d d) (eq-eqb s p at)
    (same_side-refl d) in
    none-some r (sym h ∙ rw is refl)
is_taken c p d s (e ∷ q) r at h = go (eqb s p && same_side d e) h (is_taken c p d (c s e) q r at)
  where
    go : (b : Bool) → cond b (Some (q ++ d ∷ r)) (rest_after c p d (c s e) (q ++ d ∷ r)) ≡ None
        → (rest_after c p d (c s e) (q ++ d ∷ r) ≡ None → ⊥) → ⊥
    go true h ih = none-some (q ++ d ∷ r) (sym h)
    go false h ih = ih h

-- paths that never stand at p lead where they led
pub unvisited : (c c' : Children) (p : ℕ) (d : Side) (t : ℕ) → Exchanged c c' p d t → (s : ℕ)
    → ((q : List Side) → follow c s q ≡ p → ⊥) → (q : List Side) → follow c' s q ≡ follow c s q
unvisited c c' p d t x s never q = go (rest_after c p d s q) refl
  where
    go : (o : Option (List Side)) → rest_after c p d s q ≡ o → follow c' s q ≡ follow c s q
    go None h = not_taken c c' p d t x s q h
    go (Some r) h = let k = taken c c' p d t x s q r h in absurd (never k.front k.comes)

-- two trees with the same children have the same paths
pub same_follow : (c c' : Children) → ((x : ℕ) (e : Side) → c' x e ≡ c x e) → (s : ℕ) (q : List Side)
    → follow c' s q ≡ follow c s q
same_follow c c' same s [] = refl
same_follow c c' same s (d ∷ q) = rw (same s d) (same_follow c c' same (c s d) q)
