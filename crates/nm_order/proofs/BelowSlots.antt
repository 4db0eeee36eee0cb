-- The slots to which paths go on from a known slot: what holds of each of them outlasts an event,
-- where it holds of each slot that a path from the root reaches now.
use Rattle.std.proofs.Common.{arith, ◌≡◌, ◌≢◌, ℕ, true, List, ◌∷◌, ◌++◌, refl, sym, ap, subst, ◌∙◌}
use Rattle.std.specs.Prelude.{Option, Some, None}
use mathlib.Core.Path.{fun_ext}
use Rattle.nm_edge.specs.declared.edge.Side.{Side}
use Rattle.nm_edge.specs.declared.edge.Side.TheVariants.{Left}
use Rattle.nm_model.specs.declared.event.Event.{Event}
use Rattle.nm_model.specs.Memory.{Memory, child}
use Rattle.nm_model.specs.Knowledge.{knows, is_private}
use Rattle.nm_model.specs.Paths.{follow}
use Rattle.nm_model.specs.Runs.{State, of}
use Rattle.nm_laws.proofs.Trees.{Children, Exchanged, rest_after, follow-append, not_taken, taken}
use Rattle.nm_laws.proofs.CutPaths.{straight}
use Rattle.nm_laws.proofs.Pictures.{IsOnPath, alone}
use Rattle.nm_laws.proofs.Splices.{live_on_path, unmarked_not_queued}
use Rattle.nm_laws.proofs.Views.{picture}
use Rattle.nm_laws.proofs.TreeSteps.{Lawful}
use Rattle.nm_order.specs.Intervals.{key}
use Rattle.nm_order.proofs.Searching.{apart_follow}
use Rattle.nm_order.proofs.OnwardSlots.{straight_to}
use Rattle.nm_order.proofs.TreeChanges.{TreeChange}
use Rattle.nm_order.proofs.TreeChanges.TreeChange.{Kept, Filled, Linked, Swapped, Spliced}
use Rattle.nm_order.proofs.OrderedChanges.{off_known}
use Rattle.nm_order.proofs.OrderedMoments.{Lasting, lasting}

-- of each slot to which a path from z comes, and of what lasts of it
abbrev pub EachBelow : {B : Type 0} → Children → (ℕ → B) → (ℕ → B → Type 0) → ℕ → Type 0
EachBelow c b R z = (q : List Side) → follow c z q ≢ 0 → R (follow c z q) (b (follow c z q))

module _ {B : Type 0} (c c' : Children) (b b' : ℕ → B) (R R' : ℕ → B → Type 0)
    (grows : (y : ℕ) (n : B) → R y n → R' y n) (z : ℕ)
    (lasts : (q : List Side) → follow c z q ≢ 0 → b' (follow c z q) ≡ b (follow c z q)) where
  -- a slot to which the path came too
  came : (q : List Side) → follow c' z q ≡ follow c z q → follow c' z q ≢ 0 → EachBelow c b R z
      → R' (follow c' z q) (b' (follow c' z q))
  came q same some each =
      let there : follow c z q ≢ 0 = λ e. some (same ∙ e) in
      rw (same, lasts q there) (grows (follow c z q) (b (follow c z q)) (each q there))

  -- an edge is exchanged under a node that is reached
  below_exchanged : (p : ℕ) (d : Side) (t : ℕ) (x : Exchanged c c' p d t) (front : List Side) → follow c 1 front ≡ p
      → rest_after c p d 1 front ≡ None → EachBelow c' b' R' 1 → EachBelow c b R z → EachBelow c' b' R' z
  below_exchanged p d t x front at onto now each q some = go (rest_after c p d z q) refl
    where
      go : (o : Option (List Side)) → rest_after c p d z q ≡ o → R' (follow c' z q) (b' (follow c' z q))
      go None h = came q (not_taken c c' p d t x z q h) some each
      go (Some u) h =
          let at_p : follow c' 1 front ≡ p = not_taken c c' p d t x 1 front onto ∙ at in
          let path : follow c' 1 (front ++ d ∷ u) ≡ follow c' z q = follow-append c' 1 front (d ∷ u)
          ∙ (ap (λ (y : ℕ). follow c' y u) (ap (λ (y : ℕ). c' y d) at_p ∙ x.here)
          ∙ sym (taken c c' p d t x z q u h).leads) in
          subst (λ (y : ℕ). R' y (b' y)) path (now (front ++ d ∷ u) (λ e. some (sym path ∙ e)))

module _ (s : State) (h : ℕ → ℕ) (law : Lawful s h) (w : ℕ) (e : Event) (m : Memory)
    (stays : (x : ℕ) → (is_private (of s w) x ≡ true → ⊥) → lasting m x ≡ lasting s.memory x) (u z : ℕ)
    (known : knows (of s u) z ≡ true)
    (R R' : ℕ → Lasting → Type 0) (grows : (y : ℕ) (n : Lasting) → R y n → R' y n)
    (now : EachBelow (child m) (lasting m) R' 1) where
  lasts_on : (q : List Side) → follow (child s.memory) z q ≢ 0
      → lasting m (follow (child s.memory) z q) ≡ lasting s.memory (follow (child s.memory) z q)
  lasts_on q some = stays (follow (child s.memory) z q)
      (λ own. off_known s h law u z w (follow (child s.memory) z q) known own q refl)

  pub below_outlasts : TreeChange s h w e m → EachBelow (child s.memory) (lasting s.memory) R z
      → EachBelow (child m) (lasting m) R' z
  below_outlasts (Kept children keys) each = λ q some.
      came (child s.memory) (child m) (lasting s.memory) (lasting m) R R' grows z lasts_on q
      (ap (λ (d : Children). follow d z q) (fun_ext (λ x. fun_ext (λ d. children x d)))) some each
  below_outlasts (Filled x own apart) each = λ q some.
      came (child s.memory) (child m) (lasting s.memory) (lasting m) R R' grows z lasts_on q
      (apart_follow (child s.memory) (child m) (key s.memory) (key m) x apart z
      (off_known s h law u z w x known own) q) some each
  below_outlasts (Linked p d leaf new is unmarked l link exchanged keys) each =
      let on : IsOnPath (picture s h) p = live_on_path s.layout.nodes (picture s h) p law.tree link.live link.is_slot
      link.inside (unmarked_not_queued s.layout.nodes (picture s h) p d leaf law.tree link.unmarked
      link.leaf_slot) in
      below_exchanged (child s.memory) (child m) (lasting s.memory) (lasting m) R R' grows z lasts_on p d new
      exchanged on.path on.ends
      (straight_to (child s.memory) (child m) (alone s.layout.nodes (picture s h) law.tree) p d new exchanged on.path
      on.ends link.is_slot) now each
  below_outlasts (Swapped p d leaf new n is swap exchanged keys) each =
      let on : IsOnPath (picture s h) p =
      live_on_path s.layout.nodes (picture s h) p law.tree swap.live swap.is_slot swap.inside
      (unmarked_not_queued s.layout.nodes (picture s h) p d leaf law.tree swap.unmarked
      (λ z. let high = swap.high in omega (arith, high, z))) in
      below_exchanged (child s.memory) (child m) (lasting s.memory)
      (lasting m) R R' grows z lasts_on p d new exchanged on.path on.ends
      (straight_to (child s.memory) (child m)
      (alone s.layout.nodes (picture s h) law.tree) p d new exchanged on.path on.ends swap.is_slot) now each
  below_outlasts (Spliced a d way g some target keys high) each =
      below_exchanged (child s.memory) (child m) (lasting s.memory) (lasting m) R R' grows z lasts_on a d
      (follow (child s.memory) (child s.memory a d) way) g.exchanged g.front g.at_front
      (straight (child s.memory) (child m) a d way g) now each

-- where a walk begins
pub first_below : (s : State) (h : ℕ → ℕ) → Lawful s h → (R : ℕ → Lasting → Type 0)
    → EachBelow (child s.memory) (lasting s.memory) R 1
    → EachBelow (child s.memory) (lasting s.memory) R (child s.memory 2 Left)
first_below s h law R now q some =
    let path : follow (child s.memory) 1 (Left ∷ Left ∷ q)
    ≡ follow (child s.memory) (child s.memory 2 Left) q = ap
    (λ (y : ℕ). follow (child s.memory) (child s.memory y Left) q) law.tree.root_left in
    subst (λ (y : ℕ). R y (lasting s.memory y)) path (now (Left ∷ Left ∷ q) (λ z. some (sym path ∙ z)))
