-- The slots to which a search comes that goes on from a known slot: what holds of each of them
-- outlasts one edge that is exchanged, where it holds of what the root's own search comes to now.
use Rattle.std.proofs.Common.{◌≡◌, ◌≢◌, ℕ, List, [], ◌∷◌, ◌++◌, append-nil, refl, sym, ap, subst, ◌∙◌}
use Rattle.std.specs.Prelude.{Option, Some, None}
use Rattle.nm_edge.specs.declared.edge.Side.{Side}
use Rattle.nm_model.specs.Paths.{follow}
use Rattle.nm_model.specs.Searches.{side_of}
use Rattle.nm_order.specs.Intervals.{GoesBy}
use Rattle.nm_laws.proofs.Trees.{Children, Exchanged, rest_after, follow-append, not_taken, taken, Taken, append_cancel}
use Rattle.nm_order.proofs.Searching.{Keys, goes-append, goes_still, went_still, GoesOver, goes_over, Apart, apart_follow, apart_went}
use Rattle.nm_order.proofs.OrderedTrees.{Onward}

-- of each slot to which a search for k comes that goes on from z, and of what lasts of it
abbrev pub EachOnward : {B : Type 0} → Children → Keys → (ℕ → B) → ℕ → (ℕ → B → Type 0) → ℕ → Type 0
EachOnward c v b k W z = (q : List Side) → GoesBy c v k z q → follow c z q ≢ 0 → W (follow c z q) (b (follow c z q))

-- of each slot to which the search for k comes from the root, and of what lasts of it
abbrev pub EachNow : {B : Type 0} → Children → Keys → (ℕ → B) → ℕ → (ℕ → B → Type 0) → Type 0
EachNow c v b k W = EachOnward c v b k W 1

-- the path to a node does not go on by its edge
pub straight_to : (c c' : Children) → ((q r : List Side) → follow c 1 q ≢ 0 → follow c 1 q ≡ follow c 1 r → q ≡ r)
    → (p : ℕ) (d : Side) (t : ℕ) → Exchanged c c' p d t
    → (front : List Side) → follow c 1 front ≡ p → p ≢ 0 → rest_after c p d 1 front ≡ None
straight_to c c' alone p d t x front at some = go (rest_after c p d 1 front) refl
  where
    nil_cons : (q : List Side) → [] ≡ d ∷ q → ⊥
    nil_cons q h = cc

    go : (o : Option (List Side)) → rest_after c p d 1 front ≡ o → o ≡ None
    go None h = refl
    go (Some r) h =
        let k : Taken c c' p d t 1 front r = taken c c' p d t x 1 front r h in
        let same : front ≡ k.front = alone front k.front (λ z. some (sym at ∙ z)) (at ∙ sym k.comes) in
        absurd (nil_cons r (append_cancel front [] (d ∷ r)
        (append-nil front ∙ (k.is ∙ ap (λ (y : List Side). y ++ d ∷ r) (sym same)))))

module _ {B : Type 0} (c c' : Children) (v v' : Keys) (b b' : ℕ → B) (k : ℕ) (W W' : ℕ → B → Type 0)
    (grows : (y : ℕ) (n : B) → W y n → W' y n) (z : ℕ)
    (lasts : (q : List Side) → follow c z q ≢ 0 → b' (follow c z q) ≡ b (follow c z q)) where
  -- a slot to which the old search came too
  came : (q : List Side) → follow c' z q ≡ follow c z q → GoesBy c v k z q → follow c' z q ≢ 0
      → EachOnward c v b k W z → W' (follow c' z q) (b' (follow c' z q))
  came q same goes some each =
      let there : follow c z q ≢ 0 = λ e. some (same ∙ e) in
      rw (same, lasts q there) (grows (follow c z q) (b (follow c z q)) (each q goes there))

  -- an edge is exchanged under a node that is reached
  pub each_exchanged : (p : ℕ) (d : Side) (t : ℕ) (x : Exchanged c c' p d t) → v' ≡ v → (front : List Side)
      → follow c 1 front ≡ p → rest_after c p d 1 front ≡ None → c p d ≢ 0 → Onward c v k z → EachNow c' v' b' k W'
      → EachOnward c v b k W z → EachOnward c' v' b' k W' z
  each_exchanged p d t x keys front at straight child onward now each q goes' some = go (rest_after c p d z q) refl
    where
      goes : GoesBy c' v k z q
      goes = subst (λ (n : Keys). GoesBy c' n k z q) keys goes'

      go : (o : Option (List Side)) → rest_after c p d z q ≡ o → W' (follow c' z q) (b' (follow c' z q))
      go None h = came q (not_taken c c' p d t x z q h) (went_still c c' v p d t x k z q h goes) some each
      go (Some r) h =
          let over : GoesOver c c' v p d t x k z q r = goes_over c c' v p d t x k z q r h goes in
          let to_p : GoesBy c v k 1 front = onward over.front front d over.goes
          (λ e. child (ap (λ (y : ℕ). c y d) (sym over.comes) ∙ e)) (at ∙ sym over.comes) in
          let at_p : follow c' 1 front ≡ p = not_taken c c' p d t x 1 front straight ∙ at in
          let edge : c' (follow c' 1 front) d ≡ t = ap (λ (y : ℕ). c' y d) at_p ∙ x.here in
          let path : follow c' 1 (front ++ d ∷ r) ≡ follow c' z q = follow-append c' 1 front (d ∷ r)
          ∙ (ap (λ (y : ℕ). follow c' y r) edge ∙ sym over.ends) in
          let from_root : GoesBy c' v k 1 (front ++ d ∷ r) = goes-append c' v k 1 front (d ∷ r)
          (goes_still c c' v p d t x k 1 front straight to_p) (
            ap (λ (y : ℕ). side_of k (v y)) at_p ∙ over.turns,
            subst (λ (y : ℕ). GoesBy c' v k y r) (sym edge)
                over.goes_on,
          ) in
          subst (λ (y : ℕ). W' y (b' y)) path (now (front ++ d ∷ r)
          (subst (λ (n : Keys). GoesBy c' n k 1 (front ++ d ∷ r)) (sym keys) from_root) (λ e. some (sym path ∙ e)))

  -- a slot is changed to which no path from z comes
  pub each_apart : (x : ℕ) → Apart c c' v v' x → ((q : List Side) → follow c z q ≡ x → ⊥) → EachOnward c v b k W z
      → EachOnward c' v' b' k W' z
  each_apart x a never each q goes some = came q (apart_follow c c' v v' x a z never q)
      (apart_went c c' v v' x a k z never q goes) some each

  -- the tree is as it was
  pub each_same : c' ≡ c → v' ≡ v → EachOnward c v b k W z → EachOnward c' v' b' k W' z
  each_same children keys each q goes some =
      came q (ap (λ (d : Children). follow d z q) children)
      (subst (λ (d : Children). GoesBy d v k z q) children (subst (λ (n : Keys). GoesBy c' n k z q) keys goes))
      some each
