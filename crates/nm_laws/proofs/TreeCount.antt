-- The slots of the tree, each once: those that stand on a path from the root.
use Rattle.std.proofs.Common.{◌≡◌, ℕ, zero, suc, ◌+◌, ◌==◌, ◌<◌, ◌≤◌, ◌≢◌, Bool, true, false, List, [], ◌∷◌, ◌++◌, length, refl, sym, ap, ◌∙◌, arith}
use native.Mathlib.Decide.{ℕ_discrete}
use Rattle.std.proofs.lemmas.Bool.{eqb-true, eqb-false}
use Rattle.nm_edge.specs.declared.edge.Side.{Side}
use Rattle.nm_edge.specs.declared.edge.Side.TheVariants.{Left, Right}
use Rattle.nm_model.specs.Memory.{child}
use Rattle.nm_model.specs.Paths.{follow}
use Rattle.nm_model.specs.Reports.{tree_slots}
use Rattle.nm_model.specs.Runs.{State}
use Rattle.nm_model.proofs.Counting.{one_if, total, total_le, total_times, times, times_append, times_here, times_apart, AllBelow, below_append}
use Rattle.nm_laws.proofs.Trees.{follow-append, follow_none}
use Rattle.nm_laws.proofs.Pictures.{TreeLaw, IsOnPath, alone, null_below}
use Rattle.nm_laws.proofs.Views.{picture}

-- the slots along a path
abbrev visited : (ℕ → Side → ℕ) → ℕ → List Side → List ℕ
visited c s [] = s ∷ []
visited c s (d ∷ q) = s ∷ visited c (c s d) q

module _ (s : State) (h : ℕ → ℕ) (law : TreeLaw s.layout.nodes (picture s h)) where
  -- a path goes on to another slot
  goes_on : (q r : List Side) (d : Side) (x : ℕ) → follow (child s.memory) 1 q ≡ x → x ≢ 0
      → follow (child s.memory) (child s.memory x d) r ≡ x → ⊥
  goes_on q r d x at some back = longer q (alone s.layout.nodes (picture s h) law q (q ++ d ∷ r) (rw at some)
      (at ∙ sym (follow-append (child s.memory) 1 q (d ∷ r)
      ∙ (ap (λ (y : ℕ). follow (child s.memory) (child s.memory y d) r) at ∙ back))))
    where
      longer : (q : List Side) → q ≡ q ++ d ∷ r → ⊥
      longer [] e = cc
      longer (f ∷ q) e = longer q (tails e)
        where
          tails : f ∷ q ≡ f ∷ (q ++ d ∷ r) → q ≡ q ++ d ∷ r
          tails e = cc

  -- no two paths on from a slot, by different sides, lead to one slot
  one_way : (q r t : List Side) (x y : ℕ) → follow (child s.memory) 1 q ≡ x → y ≢ 0
      → follow (child s.memory) (child s.memory x Left) r ≡ y
      → follow (child s.memory) (child s.memory x Right) t ≡ y → ⊥
  one_way q r t x y at some left right = apart q (alone s.layout.nodes (picture s h) law (q ++ Left ∷ r)
      (q ++ Right ∷ t) (rw (to Left r y left) some) (to Left r y left ∙ sym (to Right t y right)))
    where
      to : (d : Side) (r : List Side) (y : ℕ) → follow (child s.memory) (child s.memory x d) r ≡ y
          → follow (child s.memory) 1 (q ++ d ∷ r) ≡ y
      to d r y is = follow-append (child s.memory) 1 q (d ∷ r)
          ∙ (ap (λ (z : ℕ). follow (child s.memory) (child s.memory z d) r) at ∙ is)

      apart : (q : List Side) → q ++ Left ∷ r ≡ q ++ Right ∷ t → ⊥
      apart [] e = cc
      apart (f ∷ q) e = apart q (tails e)
        where
          tails : f ∷ (q ++ Left ∷ r) ≡ f ∷ (q ++ Right ∷ t) → q ++ Left ∷ r ≡ q ++ Right ∷ t
          tails e = cc

  -- what no path leads to does not stand among the slots below
  absent : (fuel z x : ℕ) → ((r : List Side) → follow (child s.memory) z r ≡ x → ⊥)
      → times (tree_slots fuel s.memory z) x ≡ 0
  absent zero z x never = refl
  absent (suc fuel) z x never = go (z == 0) (absent fuel (child s.memory z Left) x (λ r is. never (Left ∷ r) is))
      (absent fuel (child s.memory z Right) x (λ r is. never (Right ∷ r) is))
    where
      go : (b : Bool) → times (tree_slots fuel s.memory (child s.memory z Left)) x ≡ 0
          → times (tree_slots fuel s.memory (child s.memory z Right)) x ≡ 0
          → times (elim b as (λ _. List ℕ) [
            | true ↦ []
            | false ↦ z ∷ tree_slots fuel s.memory (child s.memory z Left)
                ++ tree_slots fuel s.memory (child s.memory z Right)
          ]) x ≡ 0
      go true l r = refl
      go false l r =
          let a = times_append (tree_slots fuel s.memory (child s.memory z Left))
          (tree_slots fuel s.memory (child s.memory z Right)) x in
          let b = times_apart x z (λ e. never [] (sym e)) in omega arith

  -- what a path leads to, that is short enough, stands there once
  present : (fuel z x : ℕ) (q r : List Side) → follow (child s.memory) 1 q ≡ z → follow (child s.memory) z r ≡ x
      → x ≢ 0 → length r < fuel → times (tree_slots fuel s.memory z) x ≡ 1
  present zero z x q r at to some short = absurd (omega arith)
  present (suc fuel) z x q r at to some short = go (z == 0) refl
      (λ d t to' lt. present fuel (child s.memory z d) x (q ++ d ∷ []) t (on d) to' some lt)
    where
      on : (d : Side) → follow (child s.memory) 1 (q ++ d ∷ []) ≡ child s.memory z d
      on d = follow-append (child s.memory) 1 q (d ∷ []) ∙ ap (λ (y : ℕ). child s.memory y d) at

      by : ((d : Side) (t : List Side) → follow (child s.memory) (child s.memory z d) t ≡ x → length t < fuel
          → times (tree_slots fuel s.memory (child s.memory z d)) x ≡ 1) → (r : List Side)
          → follow (child s.memory) z r ≡ x → length r < suc fuel → z ≢ 0
          → one_if (x == z) + times (tree_slots fuel s.memory (child s.memory z Left)
          ++ tree_slots fuel s.memory (child s.memory z Right)) x ≡ 1
      by ih [] to short some' =
          let same : x ≡ z = sym to in
          let a = times_append (tree_slots fuel s.memory (child s.memory z Left))
          (tree_slots fuel s.memory (child s.memory z Right)) x in
          let h = times_here x z same in
          let l = absent fuel (child s.memory z Left) x (λ r is. goes_on q r Left z at some' (is ∙ same)) in
          let k = absent fuel (child s.memory z Right) x (λ r is. goes_on q r Right z at some' (is ∙ same)) in
          omega arith
      by ih (Left ∷ r) to short some' =
          let a = times_append (tree_slots fuel s.memory (child s.memory z Left))
          (tree_slots fuel s.memory (child s.memory z Right)) x in
          let h = times_apart x z (λ e. goes_on q r Left z at some' (to ∙ e)) in
          let l = ih Left r to (omega arith) in
          let k = absent fuel (child s.memory z Right) x (λ t is. one_way q r t z x at some to is) in omega arith
      by ih (Right ∷ r) to short some' =
          let a = times_append (tree_slots fuel s.memory (child s.memory z Left))
          (tree_slots fuel s.memory (child s.memory z Right)) x in
          let h = times_apart x z (λ e. goes_on q r Right z at some' (to ∙ e)) in
          let l = absent fuel (child s.memory z Left) x (λ t is. one_way q t r z x at some is to) in
          let k = ih Right r to (omega arith) in omega arith

      null : z ≡ 0 → ⊥
      null e = some (sym to ∙ (ap (λ (y : ℕ). follow (child s.memory) y r) e
          ∙ follow_none (child s.memory) (null_below s.layout.nodes (picture s h) law) r))

      go : (b : Bool) → (z == 0) ≡ b → ((d : Side) (t : List Side)
          → follow (child s.memory) (child s.memory z d) t ≡ x → length t < fuel
          → times (tree_slots fuel s.memory (child s.memory z d)) x ≡ 1)
          → times (elim b as (λ _. List ℕ) [
            | true ↦ []
            | false ↦ z ∷ tree_slots fuel s.memory (child s.memory z Left)
                ++ tree_slots fuel s.memory (child s.memory z Right)
          ]) x ≡ 1
      go true is ih = absurd (null (eqb-true z 0 is))
      go false is ih = by ih r to short null

  slots_below : (fuel z : ℕ) → z ≤ s.layout.nodes → AllBelow (suc s.layout.nodes) (tree_slots fuel s.memory z)
  slots_below zero z le = tt
  slots_below (suc fuel) z le = go (z == 0) (slots_below fuel (child s.memory z Left) (law.within z Left))
      (slots_below fuel (child s.memory z Right) (law.within z Right))
    where
      go : (b : Bool) → AllBelow (suc s.layout.nodes) (tree_slots fuel s.memory (child s.memory z Left))
          → AllBelow (suc s.layout.nodes) (tree_slots fuel s.memory (child s.memory z Right))
          → AllBelow (suc s.layout.nodes) (elim b as (λ _. List ℕ) [
            | true ↦ []
            | false ↦ z ∷ tree_slots fuel s.memory (child s.memory z Left)
                ++ tree_slots fuel s.memory (child s.memory z Right)
          ])
      go true l r = tt
      go false l r = (
        omega arith,
        below_append (suc s.layout.nodes)
            (tree_slots fuel s.memory (child s.memory z Left)) (tree_slots fuel s.memory (child s.memory z Right)) l r,
      )

  -- ---- no path is longer than there are slots

  never_visited : (z x : ℕ) (r : List Side) → ((p : List Side) → follow (child s.memory) z p ≡ x → ⊥)
      → times (visited (child s.memory) z r) x ≡ 0
  never_visited z x [] never = let a = times_apart x z (λ e. never [] (sym e)) in omega arith
  never_visited z x (d ∷ r) never =
      let a = times_apart x z (λ e. never [] (sym e)) in
      let b = never_visited (child s.memory z d) x r (λ p is. never (d ∷ p) is) in omega arith

  visited_once : (z x : ℕ) (q r : List Side) → follow (child s.memory) 1 q ≡ z → follow (child s.memory) z r ≢ 0
      → times (visited (child s.memory) z r) x ≤ 1
  visited_once z x q [] at some = elim (ℕ_discrete x z)
      [ yes e ↦ let a = times_here x z e in omega arith | no ne ↦ let a = times_apart x z ne in omega arith ]
  visited_once z x q (d ∷ r) at some = elim (ℕ_discrete x z) [
    | yes e ↦
        let a = times_here x z e in
        let b = never_visited (child s.memory z d) x r
        (λ p is. goes_on q p d z at (λ zero'. some (ap (λ (y : ℕ). follow (child s.memory) y (d ∷ r)) zero'
        ∙ follow_none (child s.memory) (null_below s.layout.nodes (picture s h) law) (d ∷ r))) (is ∙ e)) in
        omega arith
    | no ne ↦
        let a = times_apart x z ne in
        let b = visited_once (child s.memory z d) x (q ++ d ∷ []) r
        (follow-append (child s.memory) 1 q (d ∷ []) ∙ ap (λ (y : ℕ). child s.memory y d) at) some in omega arith
  ]

  visited_below : (z : ℕ) (r : List Side) → z ≤ s.layout.nodes
      → AllBelow (suc s.layout.nodes) (visited (child s.memory) z r)
  visited_below z [] le = (omega arith, tt)
  visited_below z (d ∷ r) le = (omega arith, visited_below (child s.memory z d) r (law.within z d))

  visited_long : (z : ℕ) (r : List Side) → length (visited (child s.memory) z r) ≡ suc (length r)
  visited_long z [] = refl
  visited_long z (d ∷ r) = ap (λ (n : ℕ). suc n) (visited_long (child s.memory z d) r)

  not_null : (z : ℕ) (r : List Side) → follow (child s.memory) z r ≢ 0 → times (visited (child s.memory) z r) 0 ≡ 0
  not_null z [] some = let a = times_apart 0 z (λ e. some (sym e)) in omega arith
  not_null z (d ∷ r) some =
      let a = times_apart 0 z (λ e. some (ap (λ (y : ℕ). follow (child s.memory) y (d ∷ r)) (sym e)
      ∙ follow_none (child s.memory) (null_below s.layout.nodes (picture s h) law) (d ∷ r))) in
      let b = not_null (child s.memory z d) r some in omega arith

  pub short_paths : (r : List Side) → follow (child s.memory) 1 r ≢ 0 → length r < s.layout.nodes
  short_paths r some =
      let room = law.room in
      let all = total_times (suc s.layout.nodes) (visited (child s.memory) 1 r) (visited_below 1 r (omega arith)) in
      let long = visited_long 1 r in
      let none = not_null 1 r some in
      let few = total_le s.layout.nodes (λ x. times (visited (child s.memory) 1 r) (suc x))
      (λ x. visited_once 1 (suc x) [] r refl some) in
      omega arith

  -- ---- each slot on a path is counted once, and no other

  pub reached_once : (x : ℕ) → IsOnPath (picture s h) x → times (tree_slots s.layout.nodes s.memory 1) x ≡ 1
  reached_once x on = present s.layout.nodes 1 x [] on.path refl on.ends on.is_slot
      (short_paths on.path (rw on.ends on.is_slot))

  pub unreached : (x : ℕ) → (IsOnPath (picture s h) x → ⊥) → x ≢ 0 → times (tree_slots s.layout.nodes s.memory 1) x ≡ 0
  unreached x off some = absent s.layout.nodes 1 x (λ r is. off (record { path = r; ends = is; is_slot = some }))

  pub null_uncounted : (fuel z : ℕ) → times (tree_slots fuel s.memory z) 0 ≡ 0
  null_uncounted zero z = refl
  null_uncounted (suc fuel) z = go (z == 0) refl (null_uncounted fuel (child s.memory z Left))
      (null_uncounted fuel (child s.memory z Right))
    where
      go : (b : Bool) → (z == 0) ≡ b → times (tree_slots fuel s.memory (child s.memory z Left)) 0 ≡ 0
          → times (tree_slots fuel s.memory (child s.memory z Right)) 0 ≡ 0
          → times (elim b as (λ _. List ℕ) [
            | true ↦ []
            | false ↦ z ∷ tree_slots fuel s.memory (child s.memory z Left)
                ++ tree_slots fuel s.memory (child s.memory z Right)
          ]) 0 ≡ 0
      go true is l r = refl
      go false is l r =
          let a = times_append (tree_slots fuel s.memory (child s.memory z Left))
          (tree_slots fuel s.memory (child s.memory z Right)) 0 in
          let b = times_apart 0 z (λ e. eqb-false z 0 is (sym e)) in omega arith

  pub total_reached : total (suc s.layout.nodes) (times (tree_slots s.layout.nodes s.memory 1))
      ≡ length (tree_slots s.layout.nodes s.memory 1)
  total_reached = total_times (suc s.layout.nodes) (tree_slots s.layout.nodes s.memory 1)
      (slots_below s.layout.nodes 1 (let room = law.room in omega arith))
