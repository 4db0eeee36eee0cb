-- In the tree of one moment: between the keys of two internal nodes stands a leaf.
use Rattle.std.proofs.Common.{◌≡◌, ◌≢◌, ℕ, ◌+◌, ◌-◌, ◌<◌, ◌≤◌, inl, inr, ◌⊎◌, List, [], ◌∷◌, ◌++◌, refl, sym, ap, subst, ◌∙◌, arith}
use Rattle.std.proofs.lemmas.Bool.{cases_lt}
use Rattle.nm_edge.specs.Edges.{Edge, other}
use Rattle.nm_edge.specs.Layouts.{Layout}
use Rattle.nm_edge.specs.declared.edge.Side.{Side}
use Rattle.nm_edge.specs.declared.edge.Side.TheVariants.{Left, Right}
use Rattle.nm_model.specs.Memory.{child}
use Rattle.nm_model.specs.Ordered.{Configuration}
use Rattle.nm_model.specs.Paths.{follow, Reached}
use Rattle.nm_model.specs.Searches.{side_of}
use Rattle.nm_laws.proofs.Pictures.{IsLive, reached_live}
use Rattle.nm_laws.proofs.Trees.{follow-append}
use Rattle.nm_laws.proofs.TreeSteps.{Lawful}
use Rattle.nm_laws.proofs.Views.{picture}
use Rattle.nm_order.specs.Intervals.{GoesBy, key}
use Rattle.nm_order.proofs.OrderedLaws.{IsOrdered, law_of_state}
use Rattle.nm_order.proofs.OrderedTrees.{one_or_other}
use Rattle.nm_order.proofs.RadixTrees.{left_if, less_of_left, more_of_right}
use Rattle.nm_order.proofs.Searching.{goes-append, goes_first, goes_on, one_leaf, on_way}

right_unless : (k n : ℕ) → n ≤ k → side_of k n ≡ Right
right_unless k n le = by (side_of k n) refl
  where
    by : (d : Side) → side_of k n ≡ d → side_of k n ≡ Right
    by Left is = let less = less_of_left k n is in absurd (omega (arith, le, less))
    by Right is = is

module _ (L : Layout) (enough : 5 ≤ L.nodes) (c : Configuration) (o : IsOrdered L c) where
  law : (h : ℕ → ℕ) × Lawful c.state h
  law = law_of_state L enough c o

  null : (d : Side) → child c.state.memory 0 d ≡ 0
  null d = ap (λ (e : Edge). e.slot) (law.1.tree.nothing d)

  -- the search for k comes to this slot
  pub record Comes (k x : ℕ) : Type 0 where
    pub path : List Side
    pub ends : follow (child c.state.memory) 1 path ≡ x
    pub goes : GoesBy (child c.state.memory) (key c.state.memory) k 1 path
    pub is_slot : x ≢ 0

  -- of a slot that is reached an edge is null, or one is not: so is the other
  shared : (k x : ℕ) → Comes k x → IsLive (picture c.state law.0) x
  shared k x p = subst (IsLive (picture c.state law.0)) p.ends
      (reached_live c.state.layout.nodes (picture c.state law.0) law.1.tree p.path (λ z. p.is_slot (sym p.ends ∙ z)))

  pub both_null : (k x : ℕ) → Comes k x → (d : Side) → child c.state.memory x d ≡ 0 → (e : Side)
      → child c.state.memory x e ≡ 0
  both_null k x p d none e = by (one_or_other e d)
    where
      by : (e ≡ d) ⊎ (e ≡ other d) → child c.state.memory x e ≡ 0
      by (inl same) = ap (child c.state.memory x) same ∙ none
      by (inr not_same) = ap (child c.state.memory x) not_same ∙ law.1.tree.twins x d (shared k x p) none

  -- the search for k ends at a leaf
  pub record Ends (k x : ℕ) : Type 0 where
    pub comes : Comes k x
    pub leaf : (d : Side) → child c.state.memory x d ≡ 0

  -- or comes by an internal node
  pub record Passes (k x : ℕ) : Type 0 where
    pub comes : Comes k x
    pub inner : (d : Side) → child c.state.memory x d ≢ 0

  pub passes : (k x : ℕ) → Comes k x → (d : Side) → child c.state.memory x d ≢ 0 → Passes k x
  passes k x p d some = record { comes = p; inner = λ e none. some (both_null k x p e none d) }

  -- the search for a reached slot's key comes to it
  abbrev pub at_key : (x : ℕ) → Reached c.state.memory x → Comes (key c.state.memory x) x
  at_key x r = record {
    path = r.path;
    ends = r.ends;
    goes = subst (λ (j : ℕ). GoesBy (child c.state.memory) (key c.state.memory) j 1 r.path)
        (ap (key c.state.memory) r.ends) (o.law.order r.path (λ z. r.is_slot (sym r.ends ∙ z)));
    is_slot = r.is_slot;
  }

  -- by the same path
  abbrev own_key : (k x : ℕ) → Comes k x → Comes (key c.state.memory x) x
  own_key k x p = at_key x (record { path = p.path; ends = p.ends; is_slot = p.is_slot })

  -- the key of the leaf where a search ends turns as the search's key at each node on the way
  pub alike : (k x z : ℕ) → Ends k x → Passes k z → side_of (key c.state.memory x) (key c.state.memory z)
      ≡ side_of k (key c.state.memory z)
  alike k x z e p = ap (λ (s : ℕ). side_of (key c.state.memory x) (key c.state.memory s)) (sym p.comes.ends) ∙ turns.0
    where
      d : Side
      d = side_of k (key c.state.memory z)

      own : GoesBy (child c.state.memory) (key c.state.memory) (key c.state.memory x) 1 e.comes.path
      own = (own_key k x e.comes).goes

      on : GoesBy (child c.state.memory) (key c.state.memory) k 1
          (p.comes.path ++ side_of k (key c.state.memory z) ∷ [])
      on = goes-append (child c.state.memory) (key c.state.memory) k 1 p.comes.path (d ∷ []) p.comes.goes
          (ap (λ (s : ℕ). side_of k (key c.state.memory s)) p.comes.ends, tt)

      some : follow (child c.state.memory) 1 (p.comes.path ++ side_of k (key c.state.memory z) ∷ []) ≢ 0
      some none = p.inner d (ap (λ (s : ℕ). child c.state.memory s d) (sym p.comes.ends)
          ∙ (sym (follow-append (child c.state.memory) 1 p.comes.path (d ∷ [])) ∙ none))

      more : (u : List Side) × (e.comes.path ≡ (p.comes.path ++ side_of k (key c.state.memory z) ∷ []) ++ u)
      more = on_way (child c.state.memory) null (key c.state.memory) k 1 e.comes.path (p.comes.path ++ d ∷ [])
          e.comes.goes on (λ f. ap (λ (s : ℕ). child c.state.memory s f) e.comes.ends ∙ e.leaf f) some

      turns : GoesBy (child c.state.memory) (key c.state.memory) (key c.state.memory x)
          (follow (child c.state.memory) 1 p.comes.path) (side_of k (key c.state.memory z) ∷ [])
      turns = goes_on (child c.state.memory) (key c.state.memory) (key c.state.memory x) 1 p.comes.path (d ∷ [])
          (goes_first (child c.state.memory) (key c.state.memory) (key c.state.memory x) 1 (p.comes.path ++ d ∷ [])
          more.0 (subst (GoesBy (child c.state.memory) (key c.state.memory) (key c.state.memory x) 1) more.1 own))

  -- no search for that leaf's key ends at a leaf with another one
  pub one_end : (k x y : ℕ) → Ends k x → Ends (key c.state.memory x) y → key c.state.memory y ≡ key c.state.memory x
  one_end k x y e f =
      let path : e.comes.path ≡ f.comes.path = one_leaf (child c.state.memory) null (key c.state.memory)
      (key c.state.memory x) 1 e.comes.path f.comes.path (own_key k x e.comes).goes f.comes.goes
      (λ z. e.comes.is_slot (sym e.comes.ends ∙ z)) (λ z. f.comes.is_slot (sym f.comes.ends ∙ z))
      (λ d. ap (λ (s : ℕ). child c.state.memory s d) e.comes.ends ∙ e.leaf d)
      (λ d. ap (λ (s : ℕ). child c.state.memory s d) f.comes.ends ∙ f.leaf d) in
      ap (key c.state.memory) (sym f.comes.ends ∙ (ap (follow (child c.state.memory) 1) (sym path) ∙ e.comes.ends))

  -- a key between two goes where both of them go
  goes_between : (a k b s : ℕ) (path : List Side) → a ≤ k → k ≤ b
      → GoesBy (child c.state.memory) (key c.state.memory) a s path
      → GoesBy (child c.state.memory) (key c.state.memory) b s path
      → GoesBy (child c.state.memory) (key c.state.memory) k s path
  goes_between a k b s [] low high g h = tt
  goes_between a k b s (d ∷ path) low high g h = (
    turn d g.0 h.0,
    goes_between a k b (child c.state.memory s d) path
        low high g.1 h.1,
  )
    where
      turn : (d : Side) → side_of a (key c.state.memory s) ≡ d → side_of b (key c.state.memory s) ≡ d
          → side_of k (key c.state.memory s) ≡ d
      turn Left one two = left_if k (key c.state.memory s)
          (let less = less_of_left b (key c.state.memory s) two in omega (arith, high, less))
      turn Right one two = right_unless k (key c.state.memory s)
          (let more = more_of_right a (key c.state.memory s) one in omega (arith, low, more))

  -- ---- two internal nodes with keys a and b

  module _ (a b x z : ℕ) (wide : a < b) (none : (j : ℕ) → a ≤ j → j < b
      → (y : ℕ) × Ends j y × (key c.state.memory y ≢ j)) where
    -- the leaf's key cannot lie between them
    nowhere : (k y : ℕ) → Ends k y → a ≤ key c.state.memory y → key c.state.memory y < b → ⊥
    nowhere k y e low high = let other = none (key c.state.memory y) low high in other.2 (one_end k y other.0 e other.1)

    -- where a search comes by the node with key b, and turns left there, so does its leaf
    less_than : (k y : ℕ) → Ends k y → Passes k z → key c.state.memory z ≡ b → k < b → key c.state.memory y < b
    less_than k y e q to below = less_of_left _ b (subst (λ (n : ℕ). side_of (key c.state.memory y) n ≡ side_of k n)
        to (alike k y z e q) ∙ left_if k b below)

    -- the search for the greatest key below b comes by the node with key b
    comes_below : (k j : ℕ) → k + 1 ≡ b → Passes j z → key c.state.memory z ≡ b → Passes k z
    comes_below k j last q to = record { comes = comes; inner = q.inner }
      where
        -- by way of the node to the left of that with key b
        l : ℕ
        l = child c.state.memory z Left

        led : follow (child c.state.memory) 1 (q.comes.path ++ Left ∷ []) ≡ child c.state.memory z Left
        led = follow-append (child c.state.memory) 1 q.comes.path (Left ∷ [])
            ∙ ap (λ (s : ℕ). child c.state.memory s Left) q.comes.ends

        own : GoesBy (child c.state.memory) (key c.state.memory) (key c.state.memory (child c.state.memory z Left)) 1
            (q.comes.path ++ Left ∷ [])
        own = subst (λ (n : ℕ). GoesBy (child c.state.memory) (key c.state.memory) (key c.state.memory n) 1
            (q.comes.path ++ Left ∷ [])) led (o.law.order (q.comes.path ++ Left ∷ [])
            (λ none. q.inner Left (sym led ∙ none)))

        below : key c.state.memory (child c.state.memory z Left) < b
        below = subst (λ (n : ℕ). key c.state.memory (child c.state.memory z Left) < n)
            (ap (key c.state.memory) q.comes.ends ∙ to) (less_of_left _ _
            (goes_on (child c.state.memory) (key c.state.memory) (key c.state.memory l) 1 q.comes.path (Left ∷ [])
            own).0)

        comes : Comes k z
        comes = record {
          path = q.comes.path;
          ends = q.comes.ends;
          goes = goes_between (key c.state.memory l) k b 1 q.comes.path (omega (arith, below, last))
              (omega (arith, last)) (goes_first (child c.state.memory) (key c.state.memory) (key c.state.memory l) 1
              q.comes.path (Left ∷ []) own) (subst (λ (n : ℕ). GoesBy (child c.state.memory) (key c.state.memory) n 1
              q.comes.path) to (own_key j z q.comes).goes);
          is_slot = q.comes.is_slot;
        }

    pub none_between : (i j : ℕ) → Passes i x → key c.state.memory x ≡ a → Passes j z → key c.state.memory z ≡ b → ⊥
    none_between i j p at q to = by (none a (omega arith) wide)
      where
        k : ℕ
        k = b - 1

        by : (y : ℕ) × Ends a y × (key c.state.memory y ≢ a) → ⊥
        by (y, e, other) = elim (cases_lt (key c.state.memory y) b) [
          | inl less ↦ nowhere a y e low less
          | inr high ↦
              let less = less_than k y (behind high) (comes_below k j (omega (arith, wide)) q to) to
              (omega (arith, wide)) in absurd (omega (arith, less, high))
        ]
          where
            low : a ≤ key c.state.memory y
            low = more_of_right _ a (subst (λ (n : ℕ). side_of (key c.state.memory y) n ≡ side_of a n) at
                (alike a y x e (record {
                  comes = subst (λ (n : ℕ). Comes n x) at (own_key i x p.comes);
                  inner = p.inner;
                })) ∙ right_unless a a (omega arith))

            -- if its key is not below b, the leaf is where the search for the greatest key below b ends
            behind : b ≤ key c.state.memory y → Ends (b - 1) y
            behind high = record {
              comes = record {
                path = e.comes.path;
                ends = e.comes.ends;
                goes = goes_between a (b - 1) (key c.state.memory y) 1 e.comes.path (omega (arith, wide))
                    (omega (arith, high)) e.comes.goes (own_key a y e.comes).goes;
                is_slot = e.comes.is_slot;
              };
              leaf = e.leaf;
            }
