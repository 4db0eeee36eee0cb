-- A slot has one parent, by one edge.
use Rattle.std.proofs.Common.{◌≡◌, ◌≢◌, ℕ, ◌≤◌, List, [], ◌∷◌, ◌++◌, refl, sym, ap, ◌∙◌}
use Rattle.nm_edge.specs.Layouts.{Layout}
use Rattle.nm_edge.specs.declared.edge.Side.{Side}
use Rattle.nm_model.specs.Memory.{child}
use Rattle.nm_model.specs.Paths.{follow, Reached}
use Rattle.nm_model.specs.Ordered.{Configuration}
use Rattle.nm_laws.proofs.Trees.{follow-append}
use Rattle.nm_laws.proofs.Pictures.{alone}
use Rattle.nm_laws.proofs.Views.{picture}
use Rattle.nm_order.proofs.OrderedLaws.{IsOrdered, law_of_state}

same_front : (p q : List Side) (d g : Side) → p ++ d ∷ [] ≡ q ++ g ∷ [] → (p ≡ q) × (d ≡ g)
same_front [] [] d g is = (refl, head is)
  where
    head : {a b : Side} {x y : List Side} → a ∷ x ≡ b ∷ y → a ≡ b
    head e = cc
same_front [] (b ∷ q) d g is = absurd (longer q (tail is))
  where
    tail : {a b : Side} {x y : List Side} → a ∷ x ≡ b ∷ y → x ≡ y
    tail e = cc

    longer : (q : List Side) → [] ≡ q ++ g ∷ [] → ⊥
    longer [] e = cc
    longer (b ∷ q) e = cc
same_front (a ∷ p) [] d g is = absurd (longer p (tail is))
  where
    tail : {a b : Side} {x y : List Side} → a ∷ x ≡ b ∷ y → x ≡ y
    tail e = cc

    longer : (p : List Side) → p ++ d ∷ [] ≡ [] → ⊥
    longer [] e = cc
    longer (b ∷ p) e = cc
same_front (a ∷ p) (b ∷ q) d g is = by (parts is) (same_front p q d g (parts is).1)
  where
    parts : {a b : Side} {x y : List Side} → a ∷ x ≡ b ∷ y → (a ≡ b) × (x ≡ y)
    parts e = (cc, cc)

    by : (a ≡ b) × (p ++ d ∷ [] ≡ q ++ g ∷ []) → (p ≡ q) × (d ≡ g) → (a ∷ p ≡ b ∷ q) × (d ≡ g)
    by one rest = (λ i. one.0 i ∷ rest.0 i, rest.1)

module _ (L : Layout) (enough : 5 ≤ L.nodes) (c : Configuration) (o : IsOrdered L c) where
  to_child : (x : ℕ) (d : Side) (r : Reached c.state.memory x)
      → follow (child c.state.memory) 1 (r.path ++ d ∷ []) ≡ child c.state.memory x d
  to_child x d r = follow-append (child c.state.memory) 1 r.path (d ∷ [])
      ∙ ap (λ (y : ℕ). child c.state.memory y d) r.ends

  pub one_parent : (x y : ℕ) (d g : Side) → Reached c.state.memory x → Reached c.state.memory y
      → child c.state.memory x d ≢ 0 → child c.state.memory x d ≡ child c.state.memory y g → (x ≡ y) × (d ≡ g)
  one_parent x y d g r q some same = (sym r.ends ∙ (ap (follow (child c.state.memory) 1) paths.0 ∙ q.ends), paths.1)
    where
      paths : (r.path ≡ q.path) × (d ≡ g)
      paths = same_front r.path q.path d g (alone c.state.layout.nodes
          (picture c.state (law_of_state L enough c o).0) (law_of_state L enough c o).1.tree (r.path ++ d ∷ [])
          (q.path ++ g ∷ []) (λ z. some (sym (to_child x d r) ∙ z)) (to_child x d r ∙ (same ∙ sym (to_child y g q))))
