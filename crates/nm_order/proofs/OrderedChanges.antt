-- What each change of the tree leaves of its order: of each node's key in its interval, and of
-- searches that go on from known slots.
use Rattle.std.proofs.Common.{◌≡◌, ◌≢◌, ℕ, ◌<◌, ◌≤◌, true, false, List, [], ◌∷◌, sym, ap, subst, ◌∙◌, arith, true≢false}
use Rattle.std.specs.Prelude.{nat_lt}
use mathlib.Core.Path.{fun_ext}
use Rattle.std.proofs.lemmas.Bool.{cond-true, lt-ltb}
use Rattle.nm_edge.specs.declared.edge.Side.{Side}
use Rattle.nm_edge.specs.declared.edge.Side.TheVariants.{Left, Right}
use Rattle.nm_model.specs.declared.event.Event.{Event}
use Rattle.nm_model.specs.declared.event.Event.TheVariants.{Link, Swap}
use Rattle.nm_model.specs.Memory.{Memory, child, infinity_1, infinity_2}
use Rattle.nm_model.specs.Knowledge.{knows, is_private}
use Rattle.nm_model.specs.Paths.{follow}
use Rattle.nm_model.specs.Runs.{State, of}
use Rattle.nm_model.specs.Searches.{side_of}
use Rattle.nm_order.specs.Intervals.{GoesBy, key}
use Rattle.nm_laws.proofs.Trees.{Children, Exchanged}
use Rattle.nm_order.proofs.Searching.{Keys}
use Rattle.nm_order.proofs.OrderedTrees.{InOrder, Onward, Linking, order_spliced, onward_spliced, order_linked, onward_linked, order_apart, onward_apart}
use Rattle.nm_edge.specs.Edges.{Edge}
use Rattle.nm_order.proofs.SwappedTrees.{Swapping, order_swapped, onward_swapped}
use Rattle.nm_laws.proofs.Splices.{live_on_path, unmarked_not_queued}
use Rattle.nm_laws.proofs.Swaps.{IsSwap}
use Rattle.nm_laws.proofs.Pictures.{IsOnPath, alone, reached_live, null_below}
use Rattle.nm_laws.proofs.Views.{picture}
use Rattle.nm_laws.proofs.Links.{IsLink}
use Rattle.nm_laws.proofs.TreeLink.{Linkable}
use Rattle.nm_laws.proofs.TreeSteps.{Lawful}
use Rattle.nm_order.proofs.TreeChanges.{TreeChange}
use Rattle.nm_order.proofs.TreeChanges.TreeChange.{Kept, Filled, Linked, Swapped, Spliced}

-- ---- the root

pub left_of : (k n : ℕ) → k < n → side_of k n ≡ Left
left_of k n lt = cond-true (nat_lt k n) Left Right (lt-ltb k n lt)

-- the fixed nodes above the left edge of slot 2 have the two greatest keys
pub record FixedKeys (m : Memory) : Type 0 where
  pub root : key m 1 ≡ infinity_2
  pub second : key m 2 ≡ infinity_1

module _ (s : State) (h : ℕ → ℕ) (law : Lawful s h) where
  abbrev c : Children
  c = child s.memory

  abbrev v : Keys
  v = key s.memory

  -- where a search for a key below that of slot 2 has come to slot 2's left edge, it is the root's
  pub first_onward : (k : ℕ) → k < infinity_1 → FixedKeys s.memory → Onward c v k (c 2 Left)
  first_onward k small fixed q r f goes there same =
      let left : c 1 Left ≡ 2 = law.tree.root_left in
      let path : follow c 1 (Left ∷ Left ∷ q) ≡ follow c (c 2 Left) q = ap (λ (y : ℕ). follow c (c y Left) q) left in
      let some : follow c 1 r ≢ 0 = λ z. there (ap (λ (y : ℕ). c y f) (sym same ∙ z)
      ∙ null_below s.layout.nodes (picture s h) law.tree f) in
      let is : r ≡ Left ∷ Left ∷ q = alone s.layout.nodes (picture s h) law.tree r (Left ∷ Left ∷ q) some
      (same ∙ sym path) in
      let at_root : side_of k (v 1) ≡ Left = ap (side_of k) fixed.root ∙ left_of k infinity_2 (omega arith) in
      let at_second : side_of k (v 2) ≡ Left = ap (side_of k) fixed.second ∙ left_of k infinity_1 (omega arith) in
      subst (λ (p : List Side). GoesBy c v k 1 p) (sym is) (
        at_root,
        (
          ap (λ (y : ℕ). side_of k (v y)) left
              ∙ at_second,
          subst (λ (y : ℕ). GoesBy c v k (c y Left) q) (sym left) goes,
        ),
      )

  -- private slots are on no path, from the root or from what a worker knows
  pub off_root : (w x : ℕ) → is_private (of s w) x ≡ true → (q : List Side) → follow c 1 q ≡ x → ⊥
  off_root w x own q is =
      let some : x ≢ 0 = λ z. (let r = law.tree.privates w x own in absurd (omega arith)) in
      true≢false (sym own ∙ (ap (is_private (of s w)) (sym is)
      ∙ (reached_live s.layout.nodes (picture s h) law.tree q (rw is some)).shared w))

  pub off_known : (u z w x : ℕ) → knows (of s u) z ≡ true → is_private (of s w) x ≡ true → (q : List Side)
      → follow c z q ≡ x → ⊥
  off_known u z w x known own q is =
      let some : x ≢ 0 = λ e. (let r = law.tree.privates w x own in absurd (omega arith)) in
      true≢false (sym own ∙ (law.tree.guarded u x (record
      { from = z; known = known; path = q; ends = is; is_slot = some })).shared w)

  -- what an event changes, so that the order outlasts it
  pub record Outlasts (m : Memory) : Type 0 where
    pub order : InOrder c v → InOrder (child m) (key m)
    pub onward : s.layout.radix ≡ false → (u z k : ℕ) → knows (of s u) z ≡ true → Onward c v k z
        → Onward (child m) (key m) k z
    pub keys : (u z : ℕ) → knows (of s u) z ≡ true → key m z ≡ v z
    pub fixed : FixedKeys s.memory → FixedKeys m

  fixed_still : (m : Memory) → ((x : ℕ) → key m x ≡ v x) → FixedKeys s.memory → FixedKeys m
  fixed_still m same f = record { root = same 1 ∙ f.root; second = same 2 ∙ f.second }

  -- a swap asks for the leaf's key
  abbrev pub AsksKey : ℕ → Event → Type 0
  AsksKey w e = (p : ℕ) (d : Side) (leaf new : ℕ) → e ≡ Swap p d leaf new → v new ≡ v leaf

  -- a link asks for the order of its three keys
  abbrev pub AsksOrder : ℕ → Event → Type 0
  AsksOrder w e = AsksKey w e
      × ((p : ℕ) (d : Side) (leaf new : ℕ) → e ≡ Link p d leaf new → (l : Linkable (of s w) new leaf)
      → IsLink s.layout.radix s.layout.nodes (picture s h) w p d leaf new l.far l.side
      → (c' : Children) → Exchanged c c' p d new → Linking c c' v p d leaf new l.far l.side)

  -- what a swap has shown, and that its leaves have one key
  pub swapping : (w n p : ℕ) (d : Side) (leaf new : ℕ) → IsSwap s.layout.nodes (picture s h) w n p d leaf new
      → v new ≡ v leaf → (c' : Children) → Exchanged c c' p d new → Swapping c c' v p d leaf new
  swapping w n p d leaf new swap same c' exchanged = record {
    nothing = null_below s.layout.nodes (picture s h) law.tree;
    alone = alone s.layout.nodes (picture s h) law.tree;
    exchanged = exchanged;
    front = on.path;
    at_front = on.ends;
    is_slot = swap.is_slot;
    leads = ap (λ (e : Edge). e.slot) swap.unmarked;
    leaf_slot = leaf_slot;
    leaf_null = swap.is_leaf;
    new_null = λ f. ap (λ (e : Edge). e.slot) (swap.new_leaf f);
    not_p = λ at. true≢false (sym (ap (is_private (of s w)) (sym at) ∙ swap.own) ∙ swap.live.shared w);
    same_key = same;
  }
    where
      leaf_slot : leaf ≢ 0
      leaf_slot z = let high = swap.high in omega arith

      on : IsOnPath (picture s h) p
      on = live_on_path s.layout.nodes (picture s h) p law.tree swap.live swap.is_slot swap.inside
          (unmarked_not_queued s.layout.nodes (picture s h) p d leaf law.tree swap.unmarked leaf_slot)

  pub outlasts : (w : ℕ) (e : Event) (m : Memory) → InOrder c v → AsksOrder w e → TreeChange s h w e m → Outlasts m
  outlasts w e m order asks (Kept children keys) = record {
    order = λ o. subst (λ (d : Children). InOrder d (key m)) (sym same)
        (subst (λ (n : Keys). InOrder c n) (sym same_keys) o);
    onward = λ search u z k known o. subst (λ (d : Children). Onward d (key m) k z) (sym same)
        (subst (λ (n : Keys). Onward c n k z) (sym same_keys) o);
    keys = λ u z known. keys z;
    fixed = fixed_still m keys;
  }
    where
      same : child m ≡ c
      same = fun_ext (λ x. fun_ext (λ d. children x d))

      same_keys : key m ≡ v
      same_keys = fun_ext keys
  outlasts w e m order asks (Filled x own apart) = record {
    order = order_apart c (child m) v (key m) x apart (off_root w x own);
    onward = λ search u z k known. onward_apart c (child m) v (key m) x apart (off_root w x own) k z
        (off_known u z w x known own);
    keys = λ u z known. apart.keys z (λ i. off_known u z w x known own [] i);
    fixed = λ f. record {
      root = apart.keys 1 (low 1 (omega arith))
          ∙ f.root;
      second = apart.keys 2 (low 2 (omega arith)) ∙ f.second;
    };
  }
    where
      low : (y : ℕ) → y ≤ 5 → y ≢ x
      low y few i = let r = law.tree.privates w x own in absurd (omega arith)
  outlasts w e m order asks (Linked p d leaf new is unmarked l link exchanged keys) = record {
    order = λ o. subst (λ (n : Keys). InOrder (child m) n) (sym same_keys)
        (order_linked c (child m) v p d leaf new l.far l.side k o);
    onward = λ search u z n known o. subst (λ (y : Keys). Onward (child m) y n z) (sym same_keys)
        (onward_linked c (child m) v p d leaf new l.far l.side k (link.is_leaf search) n z some
        (off_known u z w new known link.own) o);
    keys = λ u z known. keys z;
    fixed = fixed_still m keys;
  }
    where
      k : Linking c (child m) v p d leaf new l.far l.side
      k = asks.1 p d leaf new is l link (child m) exchanged

      some : new ≢ 0
      some z = let r = law.tree.privates w new link.own in absurd (omega arith)

      same_keys : key m ≡ v
      same_keys = fun_ext keys
  outlasts w e m order asks (Swapped p d leaf new n is swap exchanged keys) = record {
    order = λ o. subst (λ (n : Keys). InOrder (child m) n) (sym same_keys)
        (order_swapped c (child m) v p d leaf new k o);
    onward = λ search u z n known o. subst (λ (y : Keys). Onward (child m) y n z) (sym same_keys)
        (onward_swapped c (child m) v p d leaf new k n z o);
    keys = λ u z known. keys z;
    fixed = fixed_still m keys;
  }
    where
      k : Swapping c (child m) v p d leaf new
      k = swapping w n p d leaf new swap (asks.0 p d leaf new is) (child m) exchanged

      same_keys : key m ≡ v
      same_keys = fun_ext keys
  outlasts w e m order asks (Spliced a d way g some target keys high) = record {
    order = λ o. subst (λ (n : Keys). InOrder (child m) n) (sym same_keys)
        (order_spliced c (child m) v a d way g some o);
    onward = λ search u z n known o. subst (λ (y : Keys). Onward (child m) y n z) (sym same_keys)
        (onward_spliced c (child m) v a d way g some n z o);
    keys = λ u z known. keys z;
    fixed = fixed_still m keys;
  }
    where
      same_keys : key m ≡ v
      same_keys = fun_ext keys
