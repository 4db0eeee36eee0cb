-- What one turn of an ordered run does to the leaves that stand unflagged.
use Rattle.std.proofs.Common.{◌≡◌, ◌≢◌, ℕ, ◌≤◌, inl, inr, ◌⊎◌, true, false, List, [], ◌∷◌, ◌++◌, refl, sym, ap, ◌∙◌, true≢false}
use Rattle.std.specs.Prelude.{Option, Some, None}
use Rattle.nm_edge.specs.Edges.{Edge, to}
use Rattle.nm_edge.specs.Layouts.{Layout}
use Rattle.nm_edge.specs.declared.edge.Side.{Side}
use Rattle.nm_model.specs.declared.event.Event.{Event}
use Rattle.nm_model.specs.declared.event.Event.TheVariants.{Flag}
use Rattle.nm_model.specs.declared.reply.Refused.{Refused}
use Rattle.nm_model.specs.Memory.{Memory, node, edge, child, named, is_leaf}
use Rattle.nm_model.specs.Knowledge.{is_private}
use Rattle.nm_model.specs.Paths.{follow, Reached}
use Rattle.nm_model.specs.Runs.{of}
use Rattle.nm_model.specs.Ordered.{Configuration, refused_in, next_in}
use Rattle.nm_laws.proofs.Trees.{follow-append}
use Rattle.nm_laws.proofs.Pictures.{alone}
use Rattle.nm_laws.proofs.Views.{picture}
use Rattle.nm_laws.proofs.Configurations.{refused_next}
use Rattle.nm_order.specs.Intervals.{HasKey, key}
use Rattle.nm_order.specs.Totals.{StandsUnflagged}
use Rattle.nm_laws.proofs.Stays.{SpliceOrSwap}
use Rattle.nm_order.specs.Removals.{is_splice}
use Rattle.nm_order.proofs.SwapTurns.{swap_turn}
use Rattle.nm_order.proofs.OrderedChanges.{off_root}
use Rattle.nm_order.proofs.OrderedMoments.{Lasting}
use Rattle.nm_order.proofs.OrderedLaws.{IsOrdered, ordered_next, law_of_state}
use Rattle.nm_order.proofs.FlaggedLeaves.{last_of}
use Rattle.nm_order.proofs.EdgeOrigins.{EdgeOrigin}
use Rattle.nm_order.proofs.EdgeOrigins.EdgeOrigin.{WasThere, IsFlaggedNow, LeadsToNew, LeadsNowhere}
use Rattle.nm_order.proofs.TurnEdges.{LastEdge, last_edge, step_down, turn_origin, nothing_below}
use Rattle.nm_order.proofs.CutTurns.{cut_is, CutOrNot, cut_or_not}
use Rattle.nm_order.proofs.CutTurns.CutOrNot.{StaysReached, IsCutNow}
use Rattle.nm_order.proofs.SetChanges.{turn_lasts}
use Rattle.nm_order.proofs.PendingLeaves.{cut_leaf_hangs}

module _ (L : Layout) (enough : 5 ≤ L.nodes) (c : Configuration) (t : ℕ × Event) (has : HasKey t.1)
    (o : IsOrdered L c) where
  abbrev m : Memory
  m = c.state.memory

  abbrev m' : Memory
  m' = (next_in c t).state.memory

  o' : IsOrdered L (next_in c t)
  o' = ordered_next L enough c t has o

  -- one edge leads to a reached slot
  pub one_edge : (p q : ℕ) (d e : Side) → Reached c.state.memory p → Reached c.state.memory q
      → child c.state.memory p d ≢ 0 → child c.state.memory p d ≡ child c.state.memory q e → (p ≡ q) × (d ≡ e)
  one_edge p q d e r r' some same =
      let paths = last_of r.path r'.path d e (alone c.state.layout.nodes
      (picture c.state (law_of_state L enough c o).0) (law_of_state L enough c o).1.tree (r.path ++ d ∷ [])
      (r'.path ++ e ∷ []) (λ z. some (sym (there p d r) ∙ z)) (there p d r ∙ (same ∙ sym (there q e r')))) in
      (sym r.ends ∙ (ap (follow (child c.state.memory) 1) paths.0 ∙ r'.ends), paths.1)
    where
      there : (p : ℕ) (d : Side) (r : Reached c.state.memory p)
          → follow (child c.state.memory) 1 (r.path ++ d ∷ []) ≡ child c.state.memory p d
      there p d r = follow-append (child c.state.memory) 1 r.path (d ∷ [])
          ∙ ap (λ (y : ℕ). child c.state.memory y d) r.ends

  lasts_leaf : (x : ℕ) → Reached c.state.memory x → is_leaf (node (next_in c t).state.memory x)
      ≡ is_leaf (node c.state.memory x)
  lasts_leaf x r = ap (λ (l : Lasting). l.leaf) (turn_lasts L enough c t has o x r)

  lasts_key : (x : ℕ) → Reached c.state.memory x → key (next_in c t).state.memory x ≡ key c.state.memory x
  lasts_key x r = ap (λ (l : Lasting). l.key) (turn_lasts L enough c t has o x r)

  -- an edge that was there
  was_there : (k : ℕ) (u : StandsUnflagged (next_in c t).state.memory k) (p : ℕ) (d : Side)
      → Reached c.state.memory p → child c.state.memory p d ≡ child (next_in c t).state.memory u.parent u.side
      → (edge c.state.memory p d).flag ≡ (edge (next_in c t).state.memory u.parent u.side).flag
      → StandsUnflagged c.state.memory k
  was_there k u p d reached leads same = record {
    parent = p;
    side = d;
    reached = reached;
    is_slot = some;
    unflagged = same ∙ u.unflagged;
    leaf = sym (lasts_leaf (child c.state.memory p d) there)
        ∙ (ap (λ (x : ℕ). is_leaf (node (next_in c t).state.memory x)) leads ∙ u.leaf);
    has_key = sym (lasts_key (child c.state.memory p d) there)
        ∙ (ap (key (next_in c t).state.memory) leads ∙ u.has_key);
  }
    where
      some : child c.state.memory p d ≢ 0
      some z = u.is_slot (sym leads ∙ z)

      there : Reached c.state.memory (child c.state.memory p d)
      there = step_down c.state.memory p d reached some

  -- what stands unflagged after the turn stood so before, or is put in by it
  pub unflagged_was : (k : ℕ) (u : StandsUnflagged (next_in c t).state.memory k)
      → StandsUnflagged c.state.memory k ⊎ (is_private (of c.state t.0)
      (child (next_in c t).state.memory u.parent u.side) ≡ true)
  unflagged_was k u = by (turn_origin L enough c t o u.parent u.reached u.side)
    where
      by : EdgeOrigin c.state t.0 t.1 (next_in c t).state.memory u.parent u.side
          → StandsUnflagged c.state.memory k ⊎ (is_private (of c.state t.0)
          (child (next_in c t).state.memory u.parent u.side) ≡ true)
      by (WasThere p d reached leads same) = inl (was_there k u p d reached leads same)
      by (IsFlaggedNow leaf is reached unmarked marked) = absurd
          (true≢false (sym (ap (λ (e : Edge). e.flag) marked) ∙ u.unflagged))
      by (LeadsToNew p d leaf new is unmarked held plain) = inr held
      by (LeadsNowhere none) = absurd (u.is_slot none)

  -- what is put in was not reached
  pub not_held : (x : ℕ) → Reached c.state.memory x → is_private (of c.state t.0) x ≡ true → ⊥
  not_held x r held = off_root c.state (law_of_state L enough c o).0 (law_of_state L enough c o).1 t.0 x held r.path
      r.ends

  -- the turn flags no leaf with that key
  abbrev pub FlagsNone : ℕ → Type 0
  FlagsNone k = (p : ℕ) (d : Side) (leaf : ℕ) → t.1 ≡ Flag p d leaf → refused_in c t.0 t.1 ≡ None
      → Reached c.state.memory p → edge c.state.memory p d ≡ to leaf → key c.state.memory leaf ≡ k → ⊥

  -- what stood unflagged does so still, unless it is flagged
  pub unflagged_stays : (k : ℕ) → FlagsNone k → StandsUnflagged c.state.memory k
      → StandsUnflagged (next_in c t).state.memory k
  unflagged_stays k none u = by (cut_or_not L enough c t has o x there)
    where
      x : ℕ
      x = child c.state.memory u.parent u.side

      there : Reached c.state.memory (child c.state.memory u.parent u.side)
      there = step_down c.state.memory u.parent u.side u.reached u.is_slot

      leaf_now : is_leaf (node (next_in c t).state.memory (child c.state.memory u.parent u.side)) ≡ true
      leaf_now = lasts_leaf (child c.state.memory u.parent u.side) there ∙ u.leaf

      at : (e : LastEdge (next_in c t).state.memory (child c.state.memory u.parent u.side))
          → (edge (next_in c t).state.memory e.parent e.side).flag ≡ false
          → StandsUnflagged (next_in c t).state.memory k
      at e plain = record {
        parent = e.parent;
        side = e.side;
        reached = e.reached;
        is_slot = λ z. u.is_slot (sym e.leads ∙ z);
        unflagged = plain;
        leaf = ap (λ (y : ℕ). is_leaf (node (next_in c t).state.memory y)) e.leads ∙ leaf_now;
        has_key = ap (key (next_in c t).state.memory) e.leads
            ∙ (lasts_key (child c.state.memory u.parent u.side) there ∙ u.has_key);
      }

      on : (e : LastEdge (next_in c t).state.memory (child c.state.memory u.parent u.side))
          → EdgeOrigin c.state t.0 t.1 (next_in c t).state.memory e.parent e.side
          → StandsUnflagged (next_in c t).state.memory k
      on e (WasThere p d reached leads same) =
          let one = one_edge u.parent p u.side d u.reached reached u.is_slot (sym (leads ∙ e.leads)) in
          at e (sym same ∙ (ap (λ (y : ℕ). (edge c.state.memory y d).flag) (sym one.0)
          ∙ (ap (λ (f : Side). (edge c.state.memory u.parent f).flag) (sym one.1) ∙ u.unflagged)))
      on e (IsFlaggedNow leaf is reached unmarked marked) = go (refused_in c t.0 t.1) refl
        where
          go : (q : Option Refused) → refused_in c t.0 t.1 ≡ q → StandsUnflagged (next_in c t).state.memory k
          go (Some q) why = absurd (true≢false (sym (ap (λ (k : Edge). k.flag) marked)
              ∙ (ap (λ (d : Configuration). (edge d.state.memory e.parent e.side).flag) (refused_next c t q why)
              ∙ ap (λ (k : Edge). k.flag) unmarked)))
          go None why = absurd (none e.parent e.side leaf is why reached unmarked
              (ap (key c.state.memory) (sym (ap (λ (k : Edge). k.slot) marked) ∙ e.leads) ∙ u.has_key))
      on e (LeadsToNew p d leaf new is unmarked held plain) = absurd
          (not_held (child c.state.memory u.parent u.side) there
          (ap (is_private (of c.state t.0)) (sym e.leads) ∙ held))
      on e (LeadsNowhere null) = absurd (u.is_slot (sym e.leads ∙ null))

      not_root : child c.state.memory u.parent u.side ≡ 1 → ⊥
      not_root is = none_last u.reached.path (alone c.state.layout.nodes
          (picture c.state (law_of_state L enough c o).0) (law_of_state L enough c o).1.tree
          (u.reached.path ++ u.side ∷ []) [] (λ z. u.is_slot (sym path ∙ z)) (path ∙ is))
        where
          path : follow (child c.state.memory) 1 (u.reached.path ++ u.side ∷ []) ≡ child c.state.memory u.parent u.side
          path = follow-append (child c.state.memory) 1 u.reached.path (u.side ∷ [])
              ∙ ap (λ (y : ℕ). child c.state.memory y u.side) u.reached.ends

          none_last : (q : List Side) → q ++ u.side ∷ [] ≡ [] → ⊥
          none_last [] e = cc
          none_last (f ∷ q) e = cc

      by : CutOrNot L enough c t (child c.state.memory u.parent u.side) → StandsUnflagged (next_in c t).state.memory k
      by (StaysReached r) = elim (last_edge (next_in c t).state.memory (nothing_below L enough (next_in c t) t o')
          (child c.state.memory u.parent u.side) r) [
            | inl root ↦ absurd (not_root root)
            | inr e ↦ on e (turn_origin L enough c t o e.parent e.reached e.side)
          ]
      by (IsCutNow ns is among gone) = cut (cut_is L enough c t o ns is)
        where
          cut : SpliceOrSwap t.1 → StandsUnflagged (next_in c t).state.memory k
          cut (inr e) = ((swap_turn L enough c t o e.0 e.1 e.2 e.3 e.4 ns is).unflagged k).1 u
          cut (inl e) =
              let hangs = cut_leaf_hangs L enough c o t ns is (ap is_splice e.5)
              (named c.state.memory (child c.state.memory u.parent u.side)) among u.leaf in
              let one = one_edge u.parent hangs.0 u.side hangs.1 u.reached hangs.2 u.is_slot (sym hangs.4) in
              absurd (true≢false (sym hangs.3
              ∙ (ap (λ (y : ℕ). (edge c.state.memory y hangs.1).flag) (sym one.0)
              ∙ (ap (λ (f : Side). (edge c.state.memory u.parent f).flag) (sym one.1) ∙ u.unflagged))))
