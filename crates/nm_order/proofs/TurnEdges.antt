-- Where each reached edge comes from, over one turn of an ordered run; and so each reached slot.
use Rattle.std.proofs.Common.{◌≡◌, ◌≢◌, ℕ, ◌≤◌, inl, inr, ◌⊎◌, true, List, [], ◌∷◌, ◌++◌, refl, sym, ap, subst, ◌∙◌, arith}
use Rattle.std.specs.Prelude.{Option, Some, None}
use Rattle.nm_edge.specs.Edges.{Edge}
use Rattle.nm_edge.specs.Layouts.{Layout}
use Rattle.nm_edge.specs.declared.edge.Side.{Side}
use Rattle.nm_model.specs.declared.event.Event.{Event}
use Rattle.nm_model.specs.declared.reply.Refused.{Refused}
use Rattle.nm_model.specs.Memory.{Memory, edge, child}
use Rattle.nm_model.specs.Knowledge.{knows, is_private}
use Rattle.nm_model.specs.Paths.{follow, Reached}
use Rattle.nm_model.specs.Runs.{of, applied, refused}
use Rattle.nm_model.specs.Ordered.{Configuration, refused_in, applied_in, disorder_in, next_in}
use Rattle.nm_laws.proofs.Steps.{Allowed, allowed}
use Rattle.nm_laws.proofs.Trees.{follow_none, follow-append}
use Rattle.nm_laws.proofs.Configurations.{refused_next, allowed_next}
use Rattle.nm_order.proofs.OrderedChanges.{off_known}
use Rattle.nm_order.proofs.OrderedLaws.{IsOrdered, neither, law_of_state}
use Rattle.nm_order.proofs.FlaggedNodes.{memory_is}
use Rattle.nm_order.proofs.EdgeOrigins.{EdgeOrigin, edge_origins}
use Rattle.nm_order.proofs.EdgeOrigins.EdgeOrigin.{WasThere, IsFlaggedNow, LeadsToNew, LeadsNowhere}

-- ---- the last edge of a path

pub record LastEdge (m : Memory) (x : ℕ) : Type 0 where
  pub parent : ℕ
  pub side : Side
  pub reached : Reached m parent
  pub leads : child m parent side ≡ x

pub step_down : (m : Memory) (y : ℕ) (d : Side) → Reached m y → child m y d ≢ 0 → Reached m (child m y d)
step_down m y d r some = record {
  path = r.path ++ d ∷ [];
  ends = follow-append (child m) 1 r.path (d ∷ [])
      ∙ ap (λ (z : ℕ). child m z d) r.ends;
  is_slot = some;
}

pub last_edge : (m : Memory) → ((d : Side) → child m 0 d ≡ 0) → (x : ℕ) → Reached m x → (x ≡ 1) ⊎ LastEdge m x
last_edge m null x r = from 1 (record { path = []; ends = refl; is_slot = λ z. absurd (omega (arith, z)) }) r.path
    r.ends
  where
    from : (s : ℕ) → Reached m s → (path : List Side) → follow (child m) s path ≡ x → (x ≡ s) ⊎ LastEdge m x
    from s there [] is = inl (sym is)
    from s there (d ∷ path) is = inr (by (from (child m s d) (step_down m s d there some) path is))
      where
        some : child m s d ≢ 0
        some z = r.is_slot (sym is ∙ (ap (λ (y : ℕ). follow (child m) y path) z ∙ follow_none (child m) null path))

        by : (x ≡ child m s d) ⊎ LastEdge m x → LastEdge m x
        by (inl at) = record { parent = s; side = d; reached = there; leads = sym at }
        by (inr e) = e

-- ---- one turn

module _ (L : Layout) (enough : 5 ≤ L.nodes) (c : Configuration) (t : ℕ × Event) (o : IsOrdered L c) where
  pub turn_origin : (y : ℕ) → Reached (next_in c t).state.memory y → (g : Side)
      → EdgeOrigin c.state t.0 t.1 (next_in c t).state.memory y g
  unfolding refused_in applied_in
  turn_origin y r g = go (refused_in c t.0 t.1) refl
    where
      go : (q : Option Refused) → refused_in c t.0 t.1 ≡ q → EdgeOrigin c.state t.0 t.1 (next_in c t).state.memory y g
      go (Some q) why =
          let same : (next_in c t).state.memory ≡ c.state.memory = ap (λ (d : Configuration). d.state.memory)
          (refused_next c t q why) in
          WasThere y g (subst (λ (m : Memory). Reached m y) same r) (ap (λ (m : Memory). child m y g) (sym same))
          (ap (λ (m : Memory). (edge m y g).flag) (sym same))
      go None why =
          let ok : Allowed c.state t.0 t.1 = allowed c.state t.0 t.1
          (neither (refused c.state t.0 t.1) (disorder_in c t.0 t.1) why).0 in
          let l = law_of_state L enough c o in
          let now : (next_in c t).state.memory ≡ (applied c.state t.0 t.1).memory = ap
          (λ (d : Configuration). d.state.memory) (allowed_next c t why) in
          let is = now ∙ memory_is c.state l.0 l.1 t.0 t.1 ok in
          subst (λ (m : Memory). EdgeOrigin c.state t.0 t.1 m y g) (sym is)
          (edge_origins c.state l.0 l.1 t.0 t.1 ok y (subst (λ (m : Memory). Reached m y) is r) g)

  -- null edges of slot 0
  pub nothing_below : (d : Side) → child c.state.memory 0 d ≡ 0
  nothing_below d = ap (λ (e : Edge). e.slot) ((law_of_state L enough c o).1.tree.nothing d)

  -- a slot that is reached then was reached before, or the worker held it
  pub turn_reached : ((d : Side) → child (next_in c t).state.memory 0 d ≡ 0) → (x : ℕ)
      → Reached (next_in c t).state.memory x → Reached c.state.memory x ⊎ (is_private (of c.state t.0) x ≡ true)
  turn_reached null x r = by (last_edge (next_in c t).state.memory null x r)
    where
      at_root : x ≡ 1 → Reached c.state.memory x
      at_root is = record { path = []; ends = sym is; is_slot = λ z. absurd (omega (arith, is, z)) }

      by : (x ≡ 1) ⊎ LastEdge (next_in c t).state.memory x
          → Reached c.state.memory x ⊎ (is_private (of c.state t.0) x ≡ true)
      by (inl is) = inl (at_root is)
      by (inr e) = on (turn_origin e.parent e.reached e.side)
        where
          on : EdgeOrigin c.state t.0 t.1 (next_in c t).state.memory e.parent e.side
              → Reached c.state.memory x ⊎ (is_private (of c.state t.0) x ≡ true)
          on (WasThere p d reached leads flag) = inl (subst (Reached c.state.memory) (leads ∙ e.leads)
              (step_down c.state.memory p d reached (λ z. r.is_slot (sym e.leads ∙ (sym leads ∙ z)))))
          on (IsFlaggedNow leaf is reached unmarked marked) =
              let same : child c.state.memory e.parent e.side ≡ x = ap (λ (k : Edge). k.slot) unmarked
              ∙ (sym (ap (λ (k : Edge). k.slot) marked) ∙ e.leads) in
              inl (subst (Reached c.state.memory) same (step_down c.state.memory e.parent e.side reached
              (λ z. r.is_slot (sym same ∙ z))))
          on (LeadsToNew p d leaf new is unmarked held flag) = inr
              (ap (is_private (of c.state t.0)) (sym e.leads) ∙ held)
          on (LeadsNowhere none) = absurd (r.is_slot (sym e.leads ∙ none))

  -- so a slot that somebody knows and that is not reached is not reached then
  pub stays_gone : ((d : Side) → child (next_in c t).state.memory 0 d ≡ 0) → (u x : ℕ)
      → knows (of c.state u) x ≡ true → (Reached c.state.memory x → ⊥) → Reached (next_in c t).state.memory x → ⊥
  stays_gone null u x known gone r = by (turn_reached null x r)
    where
      by : Reached c.state.memory x ⊎ (is_private (of c.state t.0) x ≡ true) → ⊥
      by (inl was) = gone was
      by (inr held) = off_known c.state (law_of_state L enough c o).0 (law_of_state L enough c o).1 u x t.0 x known
          held [] refl
