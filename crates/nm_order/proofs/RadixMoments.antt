-- A walk for k in a radix tree: as long as k is in the range of each node that it passes, what holds
-- of what the root's search comes to holds of where it is; behind the first other one nothing stands
-- for k. Each event that is allowed keeps it, and a look that takes the walk on.
use Rattle.std.proofs.Common.{◌≡◌, ◌≢◌, ℕ, ◌<◌, ◌≤◌, inl, inr, ◌⊎◌, Bool, true, false, List, [], ◌∷◌, refl, sym, ap, subst, ◌∙◌, arith, true≢false}
use mathlib.Core.Path.{fun_ext}
use Rattle.std.proofs.lemmas.Bool.{cases_lt}
use Rattle.nm_edge.specs.Edges.{Edge}
use Rattle.nm_edge.specs.Ranges.{covers}
use Rattle.nm_edge.specs.declared.edge.Side.{Side}
use Rattle.nm_edge.specs.declared.edge.Side.TheVariants.{Left}
use Rattle.nm_model.specs.declared.event.Event.{Event}
use Rattle.nm_model.specs.Memory.{Memory, node, child, is_leaf, infinity_1, infinity_2}
use Rattle.nm_model.specs.Knowledge.{knows, is_private}
use Rattle.nm_model.specs.Paths.{follow}
use Rattle.nm_model.specs.Runs.{State, of}
use Rattle.nm_model.specs.Searches.{side_of}
use Rattle.nm_order.specs.Intervals.{GoesBy, key}
use Rattle.nm_order.specs.Ranges.{StandsFor, IsNested}
use Rattle.nm_laws.proofs.Trees.{Children}
use Rattle.nm_laws.proofs.CutPaths.{straight}
use Rattle.nm_laws.proofs.Pictures.{IsOnPath, alone, null_below}
use Rattle.nm_laws.proofs.Splices.{live_on_path, unmarked_not_queued}
use Rattle.nm_laws.proofs.Views.{picture}
use Rattle.nm_laws.proofs.TreeSteps.{Lawful}
use Rattle.nm_order.proofs.Searching.{Keys}
use Rattle.nm_order.proofs.TreeChanges.{TreeChange}
use Rattle.nm_order.proofs.TreeChanges.TreeChange.{Kept, Filled, Linked, Swapped, Spliced}
use Rattle.nm_order.proofs.OrderedTrees.{InOrder}
use Rattle.nm_order.proofs.OrderedChanges.{FixedKeys, off_known, left_of}
use Rattle.nm_order.proofs.OrderedMoments.{Lasting, lasting}
use Rattle.nm_order.proofs.OnwardSlots.{EachNow, straight_to}
use Rattle.nm_order.proofs.RadixTrees.{Nests, RadixLaw, stands_back, stands_apart}
use Rattle.nm_order.proofs.RadixWays.{NestsFrom, Covered, EachIn, Rooted, nests_exchanged, each_in_exchanged, nests_apart, each_in_apart}

-- a walk for k has come to x: what is below is nested; and W holds of each slot to which a search
-- goes on by nodes in whose range k is, or N holds and x does not stand for k
pub record RadixWay (m : Memory) (k : ℕ) (W : ℕ → Lasting → Type 0) (N : Type 0) (x : ℕ) : Type 0 where
  pub nested : NestsFrom (child m) (key m) x
  pub inside : EachIn (child m) (key m) (lasting m) k W x ⊎ (N × (StandsFor (child m) (key m) x k → ⊥))

pub weaker_way : (m : Memory) (k : ℕ) (W W' : ℕ → Lasting → Type 0) (N N' : Type 0)
    → ((y : ℕ) (n : Lasting) → W y n → W' y n) → (N → N') → (x : ℕ) → RadixWay m k W N x → RadixWay m k W' N' x
weaker_way m k W W' N N' grows more x way = record { nested = way.nested; inside = by way.inside }
  where
    by : EachIn (child m) (key m) (lasting m) k W x ⊎ (N × (StandsFor (child m) (key m) x k → ⊥))
        → EachIn (child m) (key m) (lasting m) k W' x ⊎ (N' × (StandsFor (child m) (key m) x k → ⊥))
    by (inl each) = inl (λ q goes covered some. grows _ _ (each q goes covered some))
    by (inr out) = inr (more out.0, out.1)

pub rooted : (s : State) (h : ℕ → ℕ) → Lawful s h → FixedKeys s.memory → InOrder (child s.memory) (key s.memory)
    → RadixLaw (child s.memory) (key s.memory) → Rooted (child s.memory) (key s.memory)
rooted s h law fixed order nested = record {
  nothing = null_below s.layout.nodes (picture s h) law.tree;
  alone = alone s.layout.nodes (picture s h) law.tree;
  root_left = law.tree.root_left;
  leaves = law.tree.sentinels;
  first_key = fixed.root;
  second_key = fixed.second;
  order = order;
  nested = nested;
}

-- ---- an event

module _ (s : State) (h : ℕ → ℕ) (law : Lawful s h) (w : ℕ) (r : Rooted (child s.memory) (key s.memory)) (e : Event)
    (m : Memory) (after : Nests (child m) (key m)) (stays : (x : ℕ) → (is_private (of s w) x ≡ true → ⊥)
    → lasting m x ≡ lasting s.memory x)
    (u z : ℕ) (known : knows (of s u) z ≡ true) where
  lasts_on : (q : List Side) → follow (child s.memory) z q ≢ 0
      → lasting m (follow (child s.memory) z q) ≡ lasting s.memory (follow (child s.memory) z q)
  lasts_on q some = stays (follow (child s.memory) z q)
      (λ own. off_known s h law u z w (follow (child s.memory) z q) known own q refl)

  pub nests_outlast : TreeChange s h w e m → NestsFrom (child s.memory) (key s.memory) z → NestsFrom (child m) (key m) z
  nests_outlast (Kept children keys) nests = subst (λ (d : Children). NestsFrom d (key m) z)
      (sym (fun_ext (λ x. fun_ext (λ d. children x d))))
      (subst (λ (n : Keys). NestsFrom (child s.memory) n z) (sym (fun_ext keys)) nests)
  nests_outlast (Filled x own apart) nests = nests_apart (child s.memory) (child m) (key s.memory) (key m) x apart z
      (off_known s h law u z w x known own) nests
  nests_outlast (Linked p d leaf new is unmarked l link exchanged keys) nests =
      let on : IsOnPath (picture s h) p = live_on_path s.layout.nodes (picture s h) p law.tree link.live link.is_slot
      link.inside (unmarked_not_queued s.layout.nodes (picture s h) p d leaf law.tree link.unmarked
      link.leaf_slot) in
      subst (λ (n : Keys). NestsFrom (child m) n z) (sym (fun_ext keys))
      (nests_exchanged (child s.memory) (child m) (key s.memory) (lasting s.memory) (lasting m) p d new exchanged
      (λ e. link.leaf_slot (sym (ap (λ (y : Edge). y.slot) unmarked) ∙ e))
      (λ e. let up = (law.tree.privates w new link.own).0 in omega (arith, e, up)) on.path on.ends link.is_slot
      (straight_to (child s.memory) (child m) (alone s.layout.nodes (picture s h) law.tree) p d new exchanged on.path
      on.ends link.is_slot) r (subst (λ (n : Keys). Nests (child m) n) (fun_ext keys) after) z nests)
  nests_outlast (Swapped p d leaf new n is swap exchanged keys) nests =
      let on : IsOnPath (picture s h) p =
      live_on_path s.layout.nodes (picture s h) p law.tree swap.live swap.is_slot swap.inside
      (unmarked_not_queued s.layout.nodes (picture s h) p d leaf law.tree swap.unmarked
      (λ z. let high = swap.high in omega (arith, high, z))) in
      subst (λ (n : Keys). NestsFrom (child m) n z) (sym (fun_ext keys))
      (nests_exchanged (child s.memory) (child m) (key s.memory) (lasting s.memory) (lasting m) p d new exchanged
      (λ e. let is = ap (λ (y : Edge). y.slot) swap.unmarked in let high = swap.high in
      omega (arith, e, is, high))
      (λ e. let up = (law.tree.privates w new swap.own).0 in omega (arith, e, up)) on.path on.ends swap.is_slot
      (straight_to (child s.memory) (child m)
      (alone s.layout.nodes (picture s h) law.tree) p d new exchanged on.path on.ends swap.is_slot) r
      (subst (λ (n : Keys). Nests (child m) n) (fun_ext keys) after) z nests)
  nests_outlast (Spliced a d way g some target keys high) nests =
      subst (λ (n : Keys). NestsFrom (child m) n z) (sym (fun_ext keys))
      (nests_exchanged (child s.memory) (child m) (key s.memory) (lasting s.memory) (lasting m) a d
      (follow (child s.memory) (child s.memory a d) way) g.exchanged some target g.front g.at_front g.is_slot
      (straight (child s.memory) (child m) a d way g) r
      (subst (λ (n : Keys). Nests (child m) n) (fun_ext keys) after) z nests)

  module _ (k : ℕ) (small : k < infinity_1) (W W' : ℕ → Lasting → Type 0)
      (grows : (y : ℕ) (n : Lasting) → W y n → W' y n) (now : EachNow (child m) (key m) (lasting m) k W') where
    pub each_in_outlasts : TreeChange s h w e m → EachIn (child s.memory) (key s.memory) (lasting s.memory) k W z
        → EachIn (child m) (key m) (lasting m) k W' z
    each_in_outlasts (Kept children keys) each = λ q goes covered some. (
        let same_children : child m ≡ child s.memory = fun_ext (λ x. fun_ext (λ d. children x d)) in
        let same_keys : key m ≡ key s.memory = fun_ext keys in
        let same : follow (child m) z q ≡ follow (child s.memory) z q = ap (λ (d : Children). follow d z q)
        same_children in
        let there : follow (child s.memory) z q ≢ 0 = λ e. some (same ∙ e) in
        let went : GoesBy (child s.memory) (key s.memory) k z q = subst
        (λ (d : Children). GoesBy d (key s.memory) k z q) same_children
        (subst (λ (n : Keys). GoesBy (child m) n k z q) same_keys goes) in
        let was : Covered (child s.memory) (key s.memory) k z q = subst
        (λ (d : Children). Covered d (key s.memory) k z q) same_children
        (subst (λ (n : Keys). Covered (child m) n k z q) same_keys covered) in
        rw (same, lasts_on q there) (grows _ _ (each q went was there))
        )
    each_in_outlasts (Filled x own apart) each = each_in_apart (child s.memory) (child m) (key s.memory) (key m) x
        apart z (off_known s h law u z w x known own) (lasting s.memory) (lasting m) k W W' grows lasts_on each
    each_in_outlasts (Linked p d leaf new is unmarked l link exchanged keys) each =
        let on : IsOnPath (picture s h) p = live_on_path s.layout.nodes (picture s h) p law.tree link.live
        link.is_slot link.inside (unmarked_not_queued s.layout.nodes (picture s h) p d leaf law.tree
        link.unmarked link.leaf_slot) in
        subst (λ (n : Keys). EachIn (child m) n (lasting m) k W' z) (sym (fun_ext keys))
        (each_in_exchanged (child s.memory) (child m) (key s.memory) (lasting s.memory) (lasting m) p d new exchanged
        (λ e. link.leaf_slot (sym (ap (λ (y : Edge). y.slot) unmarked) ∙ e))
        (λ e. let up = (law.tree.privates w new link.own).0 in omega (arith, e, up)) on.path on.ends link.is_slot
        (straight_to (child s.memory) (child m) (alone s.layout.nodes (picture s h) law.tree) p d new exchanged
        on.path on.ends link.is_slot) r (subst (λ (n : Keys). Nests (child m) n) (fun_ext keys) after)
        k small W W' grows z lasts_on (subst (λ (n : Keys). EachNow (child m) n (lasting m) k W') (fun_ext keys) now)
        each)
    each_in_outlasts (Swapped p d leaf new n is swap exchanged keys) each =
        let on : IsOnPath (picture s h) p =
        live_on_path s.layout.nodes (picture s h) p law.tree swap.live swap.is_slot swap.inside
        (unmarked_not_queued s.layout.nodes (picture s h) p d leaf law.tree swap.unmarked
        (λ z. let high = swap.high in omega (arith, high, z))) in
        subst (λ (n : Keys). EachIn (child m) n (lasting m) k W' z) (sym (fun_ext keys))
        (each_in_exchanged (child s.memory) (child m) (key s.memory) (lasting s.memory) (lasting m) p d new exchanged
        (λ e. let is = ap (λ (y : Edge). y.slot) swap.unmarked in let high = swap.high in
        omega (arith, e, is, high))
        (λ e. let up = (law.tree.privates w new swap.own).0 in omega (arith, e, up)) on.path on.ends swap.is_slot
        (straight_to (child s.memory) (child m)
        (alone s.layout.nodes (picture s h) law.tree) p d new exchanged on.path on.ends swap.is_slot) r
        (subst (λ (n : Keys). Nests (child m) n) (fun_ext keys) after)
        k small W W' grows z lasts_on
        (subst (λ (n : Keys). EachNow (child m) n (lasting m) k W') (fun_ext keys) now) each)
    each_in_outlasts (Spliced a d way g some target keys high) each =
        subst (λ (n : Keys). EachIn (child m) n (lasting m) k W' z) (sym (fun_ext keys))
        (each_in_exchanged (child s.memory) (child m) (key s.memory) (lasting s.memory) (lasting m) a d
        (follow (child s.memory) (child s.memory a d) way) g.exchanged some target g.front g.at_front g.is_slot
        (straight (child s.memory) (child m) a d way g) r (subst (λ (n : Keys). Nests (child m) n) (fun_ext keys) after)
        k small W W' grows z lasts_on (subst (λ (n : Keys). EachNow (child m) n (lasting m) k W') (fun_ext keys) now)
        each)

    -- what the slot does not stand for it did not stand for
    pub stood : TreeChange s h w e m → StandsFor (child m) (key m) z k → StandsFor (child s.memory) (key s.memory) z k
    stood (Kept children keys) stands = subst (λ (d : Children). StandsFor d (key s.memory) z k)
        (fun_ext (λ x. fun_ext (λ d. children x d))) (subst (λ (n : Keys). StandsFor (child m) n z k) (fun_ext keys)
        stands)
    stood (Filled x own apart) stands = stands_apart (child s.memory) (child m) (key s.memory) (key m) x apart z k
        (off_known s h law u z w x known own []) stands
    stood (Linked p d leaf new is unmarked l link exchanged keys) stands =
        stands_back (child s.memory) (child m) (key s.memory) p d new exchanged
        (λ e. link.leaf_slot (sym (ap (λ (y : Edge). y.slot) unmarked) ∙ e))
        (λ e. let up = (law.tree.privates w new link.own).0 in omega (arith, e, up)) z k
        (subst (λ (n : Keys). StandsFor (child m) n z k) (fun_ext keys) stands)
    stood (Swapped p d leaf new n is swap exchanged keys) stands =
        stands_back (child s.memory) (child m) (key s.memory) p d new exchanged
        (λ e. let is = ap (λ (y : Edge). y.slot) swap.unmarked in let high = swap.high in
        omega (arith, e, is, high))
        (λ e. let up = (law.tree.privates w new swap.own).0 in omega (arith, e, up)) z k
        (subst (λ (n : Keys). StandsFor (child m) n z k) (fun_ext keys) stands)
    stood (Spliced a d way g some target keys high) stands =
        stands_back (child s.memory) (child m) (key s.memory) a d (follow (child s.memory) (child s.memory a d) way)
        g.exchanged some target z k (subst (λ (n : Keys). StandsFor (child m) n z k) (fun_ext keys) stands)

    pub radix_way_outlasts : (N N' : Type 0) → (N → N') → TreeChange s h w e m → RadixWay s.memory k W N z
        → RadixWay m k W' N' z
    radix_way_outlasts N N' more change way = record {
      nested = nests_outlast change way.nested;
      inside = by
          way.inside;
    }
      where
        by : EachIn (child s.memory) (key s.memory) (lasting s.memory) k W z
            ⊎ (N × (StandsFor (child s.memory) (key s.memory) z k → ⊥))
            → EachIn (child m) (key m) (lasting m) k W' z ⊎ (N' × (StandsFor (child m) (key m) z k → ⊥))
        by (inl each) = inl (each_in_outlasts change each)
        by (inr out) = inr (more out.0, λ stands. out.1 (stood change stands))

-- ---- a look

module _ (c : Children) (v : Keys) (r : Rooted c v) (k : ℕ) (small : k < infinity_1) where
  -- a search that goes on from slot 2's left edge is the root's
  pub first_goes : (q : List Side) → GoesBy c v k (c 2 Left) q → GoesBy c v k 1 (Left ∷ Left ∷ q)
  first_goes q goes = (
    ap (side_of k) r.first_key ∙ left_of k infinity_2 (omega (arith, small)),
    (
      ap (λ (y : ℕ). side_of k (v y)) r.root_left ∙ (ap (side_of k) r.second_key ∙ left_of k infinity_1 small),
      subst
          (λ (y : ℕ). GoesBy c v k (c y Left) q) (sym r.root_left) goes,
    ),
  )

module _ (m : Memory) (r : Rooted (child m) (key m)) (k : ℕ) (small : k < infinity_1) (W : ℕ → Lasting → Type 0)
    (N : Type 0) where
  pub first_in : EachNow (child m) (key m) (lasting m) k W → EachIn (child m) (key m) (lasting m) k W (child m 2 Left)
  first_in now q goes covered some =
      let path : follow (child m) 1 (Left ∷ Left ∷ q)
      ≡ follow (child m) (child m 2 Left) q = ap (λ (y : ℕ). follow (child m) (child m y Left) q) r.root_left in
      subst (λ (y : ℕ). W y (lasting m y)) path (now (Left ∷ Left ∷ q)
      (first_goes (child m) (key m) r k small q goes) (λ z. some (sym path ∙ z)))

  -- where a walk begins
  pub radix_first : EachNow (child m) (key m) (lasting m) k W → RadixWay m k W N (child m 2 Left)
  radix_first now = record {
    nested = λ q up. (
        let path : follow (child m) 1 (Left ∷ Left ∷ q)
        ≡ follow (child m) (child m 2 Left) q = ap (λ (y : ℕ). follow (child m) (child m y Left) q) r.root_left in
        subst (IsNested (child m) (key m)) path (r.nested.nests (Left ∷ Left ∷ q) (rw path up))
        );
    inside = inl (first_in now);
  }

  -- where it goes on by the edge on its key's side. Where k is not in the range of the node, nothing
  -- below stands for it, and what was so of the node says that it was in no leaf
  pub radix_next : (x : ℕ) → x ≢ 0 → ((t : Lasting) → W x t → t.leaf ≡ false → 6 ≤ x → covers t.key k ≡ false → N)
      → (d : Side) → side_of k (key m x) ≡ d → child m x d ≢ 0 → is_leaf (node m x) ≡ false
      → RadixWay m k W N x → RadixWay m k W N (child m x d)
  radix_next x slot out d turn there inner way = record {
    nested = λ q up. way.nested (d ∷ q) up;
    inside = by
        way.inside;
  }
    where
      -- in the range
      on : EachIn (child m) (key m) (lasting m) k W x → (6 ≤ x → covers (key m x) k ≡ true)
          → EachIn (child m) (key m) (lasting m) k W (child m x d)
      on each has q goes covered some = each (d ∷ q) (turn, goes) (has, covered) some

      -- nothing below it stands for k
      never : 6 ≤ x → (StandsFor (child m) (key m) x k → ⊥) → StandsFor (child m) (key m) (child m x d) k → ⊥
      never up none stands = none (inr ((d, there), λ _. ((way.nested [] up).below d k there stands).0))

      by : EachIn (child m) (key m) (lasting m) k W x ⊎ (N × (StandsFor (child m) (key m) x k → ⊥))
          → EachIn (child m) (key m) (lasting m) k W (child m x d)
          ⊎ (N × (StandsFor (child m) (key m) (child m x d) k → ⊥))
      by (inl each) = elim (cases_lt x 6) [
        | inl low ↦ inl (on each (λ up. absurd (omega (arith, low, up))))
        | inr up
            ↦ go (covers (key m x) k) refl up
      ]
        where
          go : (b : Bool) → covers (key m x) k ≡ b → 6 ≤ x
              → EachIn (child m) (key m) (lasting m) k W (child m x d)
              ⊎ (N × (StandsFor (child m) (key m) (child m x d) k → ⊥))
          go true has up = inl (on each (λ _. has))
          go false none up = inr (out (lasting m x) (each [] tt tt slot) inner up none, never up stands)
            where
              stands : StandsFor (child m) (key m) x k → ⊥
              stands (inl (null, is)) = there (null d)
              stands (inr (at, has)) = true≢false (sym (has up) ∙ none)
      by (inr (n, none)) = elim (cases_lt x 6) [
        | inl low ↦ absurd (none (inr ((d, there), λ up. absurd (omega (arith, low, up)))))
        | inr up ↦ inr (n, never up none)
      ]
