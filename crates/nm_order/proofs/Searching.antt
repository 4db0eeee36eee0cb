-- Searches in a tree of two children and a key for each slot: where they go, and where they go
-- after one edge is exchanged.
use Rattle.std.proofs.Common.{◌≡◌, ◌≢◌, ℕ, eqb, Bool, true, false, cond, ◌&&◌, List, [], ◌∷◌, ◌++◌, refl, sym, ap, subst, ◌∙◌}
use Rattle.std.specs.Prelude.{Some, None}
use Rattle.std.proofs.lemmas.Bool.{eqb-true, and_parts}
use Rattle.std.proofs.lemmas.Option.{none-some, same_Some}
use Rattle.nm_edge.specs.declared.edge.Side.{Side}
use Rattle.nm_model.specs.Paths.{follow}
use Rattle.nm_model.specs.Searches.{side_of}
use Rattle.nm_order.specs.Intervals.{GoesBy}
use Rattle.nm_laws.proofs.Trees.{Children, Exchanged, rest_after, same_side, same_side-true, follow_none}

abbrev pub Keys : Type 0
Keys = ℕ → ℕ

-- ---- a path and the rest of it

pub goes-append : (c : Children) (v : Keys) (k s : ℕ) (p q : List Side) → GoesBy c v k s p
    → GoesBy c v k (follow c s p) q → GoesBy c v k s (p ++ q)
goes-append c v k s [] q a b = b
goes-append c v k s (e ∷ p) q a b = (a.0, goes-append c v k (c s e) p q a.1 b)

pub goes_first : (c : Children) (v : Keys) (k s : ℕ) (p q : List Side) → GoesBy c v k s (p ++ q) → GoesBy c v k s p
goes_first c v k s [] q g = tt
goes_first c v k s (e ∷ p) q g = (g.0, goes_first c v k (c s e) p q g.1)

pub goes_on : (c : Children) (v : Keys) (k s : ℕ) (p q : List Side) → GoesBy c v k s (p ++ q)
    → GoesBy c v k (follow c s p) q
goes_on c v k s [] q g = g
goes_on c v k s (e ∷ p) q g = goes_on c v k (c s e) p q g.1

-- ---- two searches for one key

-- searches for one key that end at leaves end at one
pub one_leaf : (c : Children) → ((d : Side) → c 0 d ≡ 0) → (v : Keys) (k s : ℕ) (p q : List Side) → GoesBy c v k s p
    → GoesBy c v k s q
    → follow c s p ≢ 0 → follow c s q ≢ 0 → ((d : Side) → c (follow c s p) d ≡ 0)
    → ((d : Side) → c (follow c s q) d ≡ 0) → p ≡ q
one_leaf c null v k s [] [] g h a b leaf leaf' = refl
one_leaf c null v k s [] (f ∷ q) g h a b leaf leaf' = absurd
    (b (ap (λ (y : ℕ). follow c y q) (leaf f) ∙ follow_none c null q))
one_leaf c null v k s (e ∷ p) [] g h a b leaf leaf' = absurd
    (a (ap (λ (y : ℕ). follow c y p) (leaf' e) ∙ follow_none c null p))
one_leaf c null v k s (e ∷ p) (f ∷ q) g h a b leaf leaf' = by (sym g.0 ∙ h.0)
    (λ q' b' l'. one_leaf c null v k (c s e) p q g.1 q' a b' leaf l')
  where
    by : e ≡ f → (GoesBy c v k (c s e) q → follow c (c s e) q ≢ 0 → ((d : Side) → c (follow c (c s e) q) d ≡ 0)
        → p ≡ q) → e ∷ p ≡ f ∷ q
    by is rest =
        let ends : follow c (c s e) q ≡ follow c (c s f) q = ap (λ (y : Side). follow c (c s y) q) is in
        ap (λ (y : Side). y ∷ p) is ∙ ap (λ (ys : List Side). f ∷ ys) (rest (rw is h.1) (rw ends b) (rw ends leaf'))

-- where one of them ends at a leaf, it goes on from where the other one comes
pub on_way : (c : Children) → ((d : Side) → c 0 d ≡ 0) → (v : Keys) (k s : ℕ) (p q : List Side) → GoesBy c v k s p
    → GoesBy c v k s q
    → ((d : Side) → c (follow c s p) d ≡ 0) → follow c s q ≢ 0 → (u : List Side) × (p ≡ q ++ u)
on_way c null v k s p [] g h leaf some = (p, refl)
on_way c null v k s [] (f ∷ q) g h leaf some = absurd
    (some (ap (λ (y : ℕ). follow c y q) (leaf f) ∙ follow_none c null q))
on_way c null v k s (e ∷ p) (f ∷ q) g h leaf some = by (sym g.0 ∙ h.0)
    (λ h' some'. on_way c null v k (c s e) p q g.1 h' leaf some')
  where
    by : e ≡ f → (GoesBy c v k (c s e) q → follow c (c s e) q ≢ 0 → (u : List Side) × (p ≡ q ++ u))
        → (u : List Side) × (e ∷ p ≡ f ∷ (q ++ u))
    by is rest =
        let ends : follow c (c s e) q ≡ follow c (c s f) q = ap (λ (y : Side). follow c (c s y) q) is in
        let more = rest (rw is h.1) (rw ends some) in
        (more.0, ap (λ (y : Side). y ∷ p) is ∙ ap (λ (ys : List Side). f ∷ ys) more.1)

-- ---- slots that paths from s do not come to may change

pub record Apart (c c' : Children) (v v' : Keys) (x : ℕ) : Type 0 where
  pub edges : (y : ℕ) (e : Side) → y ≢ x → c' y e ≡ c y e
  pub keys : (y : ℕ) → y ≢ x → v' y ≡ v y

pub apart_follow : (c c' : Children) (v v' : Keys) (x : ℕ) → Apart c c' v v' x → (s : ℕ)
    → ((p : List Side) → follow c s p ≡ x → ⊥) → (q : List Side) → follow c' s q ≡ follow c s q
apart_follow c c' v v' x h s never [] = refl
apart_follow c c' v v' x h s never (e ∷ q) = rw (h.edges s e (λ i. never [] i))
    (apart_follow c c' v v' x h (c s e) (λ p. never (e ∷ p)) q)

pub apart_goes : (c c' : Children) (v v' : Keys) (x : ℕ) → Apart c c' v v' x → (k s : ℕ)
    → ((p : List Side) → follow c s p ≡ x → ⊥) → (q : List Side) → GoesBy c v k s q → GoesBy c' v' k s q
apart_goes c c' v v' x h k s never [] g = tt
apart_goes c c' v v' x h k s never (e ∷ q) g = (
  ap (side_of k) (h.keys s (λ i. never [] i)) ∙ g.0,
  rw (h.edges s e (λ i. never [] i))
      (apart_goes c c' v v' x h k (c s e) (λ p. never (e ∷ p)) q g.1),
)

pub apart_went : (c c' : Children) (v v' : Keys) (x : ℕ) → Apart c c' v v' x → (k s : ℕ)
    → ((p : List Side) → follow c s p ≡ x → ⊥) → (q : List Side) → GoesBy c' v' k s q → GoesBy c v k s q
apart_went c c' v v' x h k s never [] g = tt
apart_went c c' v v' x h k s never (e ∷ q) g = (
  ap (side_of k) (sym (h.keys s (λ i. never [] i)))
      ∙ g.0,
  apart_went c c' v v' x h k (c s e) (λ p. never (e ∷ p)) q (rw (← h.edges s e (λ i. never [] i)) g.1),
)

-- ---- one edge is exchanged

module _ (c c' : Children) (v : Keys) (p : ℕ) (d : Side) (t : ℕ) (x : Exchanged c c' p d t) (k : ℕ) where
  -- a search that does not take the edge goes as it went
  pub goes_still : (s : ℕ) (q : List Side) → rest_after c p d s q ≡ None → GoesBy c v k s q → GoesBy c' v k s q
  goes_still s [] h g = tt
  goes_still s (e ∷ q) h g = go (eqb s p && same_side d e) refl h (goes_still (c s e) q)
    where
      go : (b : Bool) → (eqb s p && same_side d e) ≡ b → cond b (Some q) (rest_after c p d (c s e) q) ≡ None
          → (rest_after c p d (c s e) q ≡ None → GoesBy c v k (c s e) q → GoesBy c' v k (c s e) q)
          → GoesBy c' v k s (e ∷ q)
      go true is h ih = absurd (none-some q (sym h))
      go false is h ih = (g.0, rw (x.others s e is) (ih h g.1))

  pub went_still : (s : ℕ) (q : List Side) → rest_after c p d s q ≡ None → GoesBy c' v k s q → GoesBy c v k s q
  went_still s [] h g = tt
  went_still s (e ∷ q) h g = go (eqb s p && same_side d e) refl h (went_still (c s e) q)
    where
      go : (b : Bool) → (eqb s p && same_side d e) ≡ b → cond b (Some q) (rest_after c p d (c s e) q) ≡ None
          → (rest_after c p d (c s e) q ≡ None → GoesBy c' v k (c s e) q → GoesBy c v k (c s e) q)
          → GoesBy c v k s (e ∷ q)
      go true is h ih = absurd (none-some q (sym h))
      go false is h ih = (g.0, ih h (rw (← x.others s e is) g.1))

  -- one that takes it: how it came to p, and how it goes on
  pub record GoesOver (s : ℕ) (q r : List Side) : Type 0 where
    pub front : List Side
    pub is : q ≡ front ++ d ∷ r
    pub comes : follow c s front ≡ p
    pub goes : GoesBy c v k s front
    pub turns : side_of k (v p) ≡ d
    pub goes_on : GoesBy c' v k t r
    pub ends : follow c' s q ≡ follow c' t r

  pub goes_over : (s : ℕ) (q r : List Side) → rest_after c p d s q ≡ Some r → GoesBy c' v k s q → GoesOver s q r
  goes_over s [] r h g = absurd (none-some r h)
  goes_over s (e ∷ q) r h g = go (eqb s p && same_side d e) refl h (goes_over (c s e) q r)
    where
      go : (b : Bool) → (eqb s p && same_side d e) ≡ b → cond b (Some q) (rest_after c p d (c s e) q) ≡ Some r
          → (rest_after c p d (c s e) q ≡ Some r → GoesBy c' v k (c s e) q → GoesOver (c s e) q r)
          → GoesOver s (e ∷ q) r
      go true is h ih =
          let parts = and_parts (eqb s p) (same_side d e) is in
          let here : s ≡ p = eqb-true s p parts.0 in
          let side : d ≡ e = same_side-true d e parts.1 in
          let rest : q ≡ r = same_Some q r h in
          let edge : c' s e ≡ t = ap (λ (y : ℕ). c' y e) here ∙ (ap (c' p) (sym side) ∙ x.here) in
          record {
            front = [];
            is = ap (λ (y : Side). y ∷ q) (sym side) ∙ ap (λ (ys : List Side). d ∷ ys) rest;
            comes = here;
            goes = tt;
            turns = ap (λ (y : ℕ). side_of k (v y)) (sym here) ∙ (g.0 ∙ sym side);
            goes_on = subst (λ (ys : List Side). GoesBy c' v k t ys) rest
                (subst (λ (y : ℕ). GoesBy c' v k y q) edge g.1);
            ends = ap (λ (y : ℕ). follow c' y q) edge ∙ ap (follow c' t) rest;
          }
      go false is h ih =
          let later = ih h (rw (← x.others s e is) g.1) in
          record {
            front = e ∷ later.front;
            is = ap (λ (ys : List Side). e ∷ ys) later.is;
            comes = later.comes;
            goes = (g.0, later.goes);
            turns = later.turns;
            goes_on = later.goes_on;
            ends = ap (λ (y : ℕ). follow c' y q) (x.others s e is) ∙ later.ends;
          }
