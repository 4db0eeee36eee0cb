-- What holds of each slot to which a search can go on from a known one, where it holds of each slot
-- that the root's own search comes to now: each event that is allowed keeps it, and a look that
-- takes walks on.
use Rattle.std.proofs.Common.{◌≡◌, ◌≢◌, ℕ, ◌<◌, inl, inr, ◌⊎◌, eqb, ◌==◌, Bool, true, false, cond, ◌&&◌, ◌||◌, List, [], ◌∷◌, ◌++◌, map, refl, sym, ap, subst, ◌∙◌, arith}
use Rattle.std.specs.Prelude.{Option, Some, None, is_none, slice_get}
use Rattle.std.specs.List.{list_any}
use mathlib.Core.Path.{fun_ext}
use Rattle.std.proofs.lemmas.Bool.{cond_both, eqb-true, and_parts, ne_eqb, or_cases}
use Rattle.std.proofs.lemmas.Option.{none-some, same_Some}
use Rattle.nm_edge.specs.Edges.{Edge}
use Rattle.nm_edge.specs.Keys.{IsKey}
use Rattle.nm_edge.specs.declared.edge.Side.{Side}
use Rattle.nm_edge.specs.declared.edge.Side.TheVariants.{Left, Right}
use Rattle.nm_model.specs.declared.event.Field.{Field}
use Rattle.nm_model.specs.declared.event.Field.TheVariants.{Key, Edge as EdgeOn}
use Rattle.nm_model.specs.declared.event.Event.{Event}
use Rattle.nm_model.specs.declared.event.Event.TheVariants.{Look}
use Rattle.nm_model.specs.declared.reply.Reply.{Reply}
use Rattle.nm_model.specs.declared.reply.Reply.TheVariants.{KeyIs, EdgeIs}
use Rattle.nm_model.specs.declared.arrivals.Call.{Call}
use Rattle.nm_model.specs.declared.arrivals.Arrival.{Arrival}
use Rattle.nm_model.specs.Memory.{Memory, node, child, edge, is_leaf, infinity_1, infinity_2}
use Rattle.nm_model.specs.Knowledge.{knows, is_private}
use Rattle.nm_model.specs.Paths.{follow}
use Rattle.nm_model.specs.Step.{reply, write}
use Rattle.nm_model.specs.Runs.{State, of, reply_of}
use Rattle.nm_model.specs.Searches.{side_of, is_side, turns, is_by, is_first, goes_on, new_arrival, with_arrival, keyed, ended, walked}
use Rattle.nm_order.specs.Intervals.{GoesBy, key}
use Rattle.nm_model.proofs.Lists.{any_at, mapped_at, more_at}
use Rattle.nm_laws.proofs.Steps.{Allowed}
use Rattle.nm_laws.proofs.KnownBirths.{SameNode, written_same}
use Rattle.nm_laws.proofs.Trees.{Exchanged, same_side, same_side-true}
use Rattle.nm_laws.proofs.CutPaths.{straight}
use Rattle.nm_laws.proofs.Pictures.{IsOnPath, alone}
use Rattle.nm_laws.proofs.Splices.{live_on_path, unmarked_not_queued}
use Rattle.nm_laws.proofs.Views.{picture}
use Rattle.nm_laws.proofs.TreeSteps.{Lawful, fill_checked}
use Rattle.nm_laws.proofs.WalksOfLogs.{turned}
use Rattle.nm_order.proofs.OrderedTrees.{Onward}
use Rattle.nm_order.proofs.TreeChanges.{TreeChange, tree_change}
use Rattle.nm_order.proofs.TreeChanges.TreeChange.{Kept, Filled, Linked, Swapped, Spliced}
use Rattle.nm_order.proofs.OrderedWalks.{WalkLaw, is_side-true}
use Rattle.nm_order.proofs.OrderedChanges.{FixedKeys, left_of, off_known}
use Rattle.nm_order.proofs.OrderedSteps.{ForCall}
use Rattle.nm_order.proofs.OnwardSlots.{EachOnward, EachNow, straight_to, each_exchanged, each_apart, each_same}

-- what of a node stays while somebody can come to it: its birth, its key, and whether it is a leaf
pub record Lasting : Type 0 where
  pub birth : ℕ
  pub key : ℕ
  pub leaf : Bool

abbrev pub lasting : Memory → ℕ → Lasting
lasting m x = record { birth = (node m x).birth; key = (node m x).key; leaf = is_leaf (node m x) }

-- ---- what a look adds

-- of each slot in the walks after a look: it was there, or an edge led to it by which a walk went
-- on
pub walked_each : (P : ℕ → Type 0) (k : ℕ) (ws : List Arrival) (x : ℕ) (f : Field) (r : Reply)
    → ((i : ℕ) (a : Arrival) → slice_get ws i ≡ Some a → P a.slot)
    → ((d : Side) (e : Edge) → f ≡ EdgeOn d → r ≡ EdgeIs e
    → (is_first x d ≡ true) ⊎ (list_any (goes_on k x d) ws ≡ true) → P e.slot)
    → (i : ℕ) (a : Arrival) → slice_get (walked k ws x f r) i ≡ Some a → P a.slot
walked_each P k ws x Key (KeyIs v) old new i a at =
    let b = mapped_at (keyed x v) ws i a at in
    let same : (keyed x v b.0).slot ≡ b.0.slot = cond_both ((b.0.slot == x) && is_none b.0.key)
    (record b.0 { key = Some v }) b.0 (λ y. y.slot ≡ b.0.slot) (λ _. refl) (λ _. refl) in
    subst P (sym (ap (λ (y : Arrival). y.slot) b.2 ∙ same)) (old i b.0 b.1)
walked_each P k ws x (EdgeOn d) (EdgeIs e) old new i a at =
    cond_both (e.slot == 0) (map (ended k x d) ws) (cond (is_first x d || list_any (goes_on k x d) ws)
    (with_arrival ws e.slot x d) ws) (λ (l : List Arrival). slice_get l i ≡ Some a → P a.slot)
    (λ _ at. let b = mapped_at (ended k x d) ws i a at in
    let same : (ended k x d b.0).slot ≡ b.0.slot = cond_both (goes_on k x d b.0) (record b.0 { ended = true }) b.0
    (λ y. y.slot ≡ b.0.slot) (λ _. refl) (λ _. refl) in
    subst P (sym (ap (λ (y : Arrival). y.slot) b.2 ∙ same)) (old i b.0 b.1))
    (λ _. cond_both (is_first x d || list_any (goes_on k x d) ws) (with_arrival ws e.slot x d) ws
    (λ (l : List Arrival). slice_get l i ≡ Some a → P a.slot)
    (λ goes. cond_both (list_any (is_by e.slot x d) ws) ws (ws ++ new_arrival e.slot x d ∷ [])
    (λ (l : List Arrival). slice_get l i ≡ Some a → P a.slot) (λ _ at. old i a at)
    (λ _ at. elim (more_at ws (new_arrival e.slot x d) i a at) [
      | inl was ↦ old i a was
      | inr is ↦ subst P (sym (ap (λ (y : Arrival). y.slot) is))
          (new d e refl refl (or_cases (is_first x d) (list_any (goes_on k x d) ws) goes))
    ]))
    (λ _ at. old i a at))
    at
walked_each P k ws x f r old new i a at = old i a at

-- the law of the walks of a call
pub call_walks : (shape : Bool) (m : Memory) (known : ℕ → Bool) (o : Option Call) (ws : List Arrival) (call : Call)
    → o ≡ Some call → ForCall shape m known o ws → IsKey call.key × WalkLaw shape (child m) (key m) known call.key ws
call_walks shape m known None ws call is f = absurd (none-some call is)
call_walks shape m known (Some other) ws call is f = subst
    (λ (y : Call). IsKey y.key × WalkLaw shape (child m) (key m) known y.key ws) (same_Some other call is) f

module _ (s : State) (h : ℕ → ℕ) (law : Lawful s h) (w : ℕ) where
  -- what lasts of a slot that the worker does not hold
  pub lasting_stays : (e : Event) → Allowed s w e → (x : ℕ) → (is_private (of s w) x ≡ true → ⊥)
      → lasting (write s.memory (of s w) w e) x ≡ lasting s.memory x
  lasting_stays e ok x free = λ i. record {
    birth = same.birth i;
    key = same.key i;
    leaf = leaf
        (tree_change s h law w e ok) i;
  }
    where
      m' : Memory
      m' = write s.memory (of s w) w e

      same : SameNode s.memory (write s.memory (of s w) w e) x
      same = written_same s.memory (of s w) w e x (λ y f v is i. free (rw i (fill_checked s w e ok.event y f v is)))

      -- both edges lead where they led
      unmoved : child m' x Left ≡ child s.memory x Left → child m' x Right ≡ child s.memory x Right
          → is_leaf (node m' x) ≡ is_leaf (node s.memory x)
      unmoved left right = λ i. (left i == 0) && (right i == 0)

      -- one edge is exchanged, which led to a slot before and leads to one after
      moved : (p : ℕ) (d : Side) (t : ℕ) → Exchanged (child s.memory) (child m') p d t → child s.memory p d ≢ 0
          → t ≢ 0 → is_leaf (node m' x) ≡ is_leaf (node s.memory x)
      moved p d t ex was now = λ i. nulls Left i && nulls Right i
        where
          nulls : (f : Side) → (child m' x f == 0) ≡ (child s.memory x f == 0)
          nulls f = by (eqb x p && same_side d f) refl
            where
              by : (b : Bool) → (eqb x p && same_side d f) ≡ b → (child m' x f == 0) ≡ (child s.memory x f == 0)
              by false other = ap (λ (n : ℕ). n == 0) (ex.others x f other)
              by true here =
                  let parts = and_parts (eqb x p) (same_side d f) here in
                  let at : x ≡ p = eqb-true x p parts.0 in
                  let side : d ≡ f = same_side-true d f parts.1 in
                  let after : child m' x f ≡ t = ap (λ (y : ℕ). child m' y f) at
                  ∙ (ap (child m' p) (sym side) ∙ ex.here) in
                  let before : child s.memory x f ≡ child s.memory p d = ap (λ (y : ℕ). child s.memory y f) at
                  ∙ ap (child s.memory p) (sym side) in
                  ne_eqb (child m' x f) 0 (λ z. now (sym after ∙ z))
                  ∙ sym (ne_eqb (child s.memory x f) 0 (λ z. was (sym before ∙ z)))

      leaf : TreeChange s h w e (write s.memory (of s w) w e) → is_leaf (node m' x) ≡ is_leaf (node s.memory x)
      leaf (Kept children keys) = unmoved (children x Left) (children x Right)
      leaf (Filled y own apart) = unmoved (apart.edges x Left (λ i. free (rw i own)))
          (apart.edges x Right (λ i. free (rw i own)))
      leaf (Linked p d old new is unmarked l link exchanged keys) = moved p d new exchanged
          (λ z. link.leaf_slot (sym (ap (λ (y : Edge). y.slot) unmarked) ∙ z))
          (λ z. let r = law.tree.privates w new link.own in absurd (omega arith))
      leaf (Swapped p d old new n is swap exchanged keys) =
          moved p d new exchanged (λ z. let e = ap (λ (y : Edge). y.slot) swap.unmarked in let high = swap.high in
          absurd (omega arith)) (λ z. let r = law.tree.privates w new swap.own in absurd (omega arith))
      leaf (Spliced a d way g some target keys high) = moved a d (follow (child s.memory) (child s.memory a d) way)
          g.exchanged some target

  module _ (e : Event) (m : Memory) (stays : (x : ℕ) → (is_private (of s w) x ≡ true → ⊥)
      → lasting m x ≡ lasting s.memory x) (u z : ℕ) (known : knows (of s u) z ≡ true) (k : ℕ)
      (onward : Onward (child s.memory) (key s.memory) k z)
      (W W' : ℕ → Lasting → Type 0) (grows : (y : ℕ) (n : Lasting) → W y n → W' y n)
      (now : EachNow (child m) (key m) (lasting m) k W') where
    lasts_on : (q : List Side) → follow (child s.memory) z q ≢ 0
        → lasting m (follow (child s.memory) z q) ≡ lasting s.memory (follow (child s.memory) z q)
    lasts_on q some = stays (follow (child s.memory) z q)
        (λ own. off_known s h law u z w (follow (child s.memory) z q) known own q refl)

    -- what holds of each slot to which a search can go on from a known one, outlasts the event
    pub each_outlasts : TreeChange s h w e m → EachOnward (child s.memory) (key s.memory) (lasting s.memory) k W z
        → EachOnward (child m) (key m) (lasting m) k W' z
    each_outlasts (Kept children keys) each =
        each_same (child s.memory) (child m) (key s.memory) (key m) (lasting s.memory) (lasting m) k W W' grows z
        lasts_on (fun_ext (λ x. fun_ext (λ d. children x d))) (fun_ext keys) each
    each_outlasts (Filled x own apart) each =
        each_apart (child s.memory) (child m) (key s.memory) (key m) (lasting s.memory) (lasting m) k W W' grows z
        lasts_on x apart (off_known s h law u z w x known own) each
    each_outlasts (Linked p d leaf new is unmarked l link exchanged keys) each =
        let on : IsOnPath (picture s h) p = live_on_path s.layout.nodes (picture s h) p law.tree link.live
        link.is_slot link.inside (unmarked_not_queued s.layout.nodes (picture s h) p d leaf law.tree
        link.unmarked link.leaf_slot) in
        each_exchanged (child s.memory) (child m) (key s.memory) (key m) (lasting s.memory) (lasting m) k W W' grows
        z lasts_on p d new exchanged (fun_ext keys) on.path on.ends
        (straight_to (child s.memory) (child m) (alone s.layout.nodes (picture s h) law.tree) p d new exchanged
        on.path on.ends link.is_slot)
        (λ e. link.leaf_slot (sym (ap (λ (y : Edge). y.slot) unmarked) ∙ e)) onward now each
    each_outlasts (Swapped p d leaf new n is swap exchanged keys) each =
        let on : IsOnPath (picture s h) p =
        live_on_path s.layout.nodes (picture s h) p law.tree swap.live swap.is_slot swap.inside
        (unmarked_not_queued s.layout.nodes (picture s h) p d leaf law.tree swap.unmarked
        (λ z. let high = swap.high in omega (arith, high, z))) in
        each_exchanged (child s.memory) (child m) (key s.memory) (key m) (lasting s.memory)
        (lasting m) k W W' grows z lasts_on p d new exchanged (fun_ext keys) on.path on.ends
        (straight_to (child s.memory) (child m)
        (alone s.layout.nodes (picture s h) law.tree) p d new exchanged on.path on.ends swap.is_slot)
        (λ z. let e = ap (λ (y : Edge). y.slot) swap.unmarked in let high = swap.high in
        absurd (omega arith)) onward now each
    each_outlasts (Spliced a d way g some target keys high) each =
        each_exchanged (child s.memory) (child m) (key s.memory) (key m) (lasting s.memory) (lasting m) k W W' grows
        z lasts_on a d (follow (child s.memory) (child s.memory a d) way) g.exchanged (fun_ext keys) g.front
        g.at_front
        (straight (child s.memory) (child m) a d way g) some onward now each

  -- ---- a look

  -- a search that goes on from slot 2's left edge is the root's
  pub first_each : (k : ℕ) → k < infinity_1 → FixedKeys s.memory → (W : ℕ → Lasting → Type 0)
      → EachNow (child s.memory) (key s.memory) (lasting s.memory) k W
      → EachOnward (child s.memory) (key s.memory) (lasting s.memory) k W (child s.memory 2 Left)
  first_each k small fixed W now q goes some =
      let left : child s.memory 1 Left ≡ 2 = law.tree.root_left in
      let at_root : side_of k (key s.memory 1) ≡ Left = ap (side_of k) fixed.root
      ∙ left_of k infinity_2 (omega arith) in
      let at_second : side_of k (key s.memory 2) ≡ Left = ap (side_of k) fixed.second
      ∙ left_of k infinity_1 (omega arith) in
      let path : follow (child s.memory) 1 (Left ∷ Left ∷ q)
      ≡ follow (child s.memory) (child s.memory 2 Left) q = ap
      (λ (y : ℕ). follow (child s.memory) (child s.memory y Left) q) left in
      let from_root : GoesBy (child s.memory) (key s.memory) k 1 (Left ∷ Left ∷ q) = (
        at_root,
        (
          ap (λ (y : ℕ). side_of k (key s.memory y)) left
              ∙ at_second,
          subst (λ (y : ℕ). GoesBy (child s.memory) (key s.memory) k (child s.memory y Left) q)
              (sym left) goes,
        ),
      ) in
      subst (λ (y : ℕ). W y (lasting s.memory y)) path (now (Left ∷ Left ∷ q) from_root (λ z. some (sym path ∙ z)))

  -- a look adds to the walks for k the slot behind slot 2's left edge, or the one below a slot from which a
  -- walk goes on
  pub look_adds : (P : ℕ → Type 0) (k : ℕ) (ws : List Arrival) (x : ℕ) (f : Field)
      → WalkLaw s.layout.radix (child s.memory) (key s.memory) (knows (of s w)) k ws → P (child s.memory 2 Left)
      → ((d : Side) → knows (of s w) x ≡ true → P x → side_of k (key s.memory x) ≡ d → P (child s.memory x d))
      → ((i : ℕ) (a : Arrival) → slice_get ws i ≡ Some a → P a.slot)
      → (i : ℕ) (a : Arrival) → slice_get (walked k ws x f (reply_of s w (Look x f))) i ≡ Some a → P a.slot
  unfolding reply
  look_adds P k ws x f walks begins goes old = walked_each P k ws x f (reply_of s w (Look x f)) old new
    where
      at_edge : (d : Side) (e : Edge) → EdgeIs (edge s.memory x d) ≡ EdgeIs e → edge s.memory x d ≡ e
      at_edge d e h = cc

      read : (f : Field) (d : Side) (e : Edge) → f ≡ EdgeOn d → reply_of s w (Look x f) ≡ EdgeIs e
          → child s.memory x d ≡ e.slot
      read f d e is r = ap (λ (y : Edge). y.slot) (at_edge d e
          (sym (ap (λ (g : Field). reply_of s w (Look x g)) is) ∙ r))

      new : (d : Side) (e : Edge) → f ≡ EdgeOn d → reply_of s w (Look x f) ≡ EdgeIs e
          → (is_first x d ≡ true) ⊎ (list_any (goes_on k x d) ws ≡ true) → P e.slot
      new d e is r from = subst P (read f d e is r) (go from)
        where
          go : (is_first x d ≡ true) ⊎ (list_any (goes_on k x d) ws ≡ true) → P (child s.memory x d)
          go (inl root) =
              let parts = and_parts (x == 2) (is_side d Left) root in
              rw (eqb-true x 2 parts.0, is_side-true d Left parts.1) begins
          go (inr any) =
              let b = any_at (goes_on k x d) ws any in
              let parts = and_parts (b.1.slot == x) (turns k b.1.key d) b.3 in
              let slot : b.1.slot ≡ x = eqb-true b.1.slot x parts.0 in
              let n = turned k b.1.key d parts.1 in
              let turn : side_of k (key s.memory x) ≡ d = ap (λ (y : ℕ). side_of k (key s.memory y)) (sym slot)
              ∙ (ap (side_of k) (walks.is_keyed b.0 b.1 n.0 b.2 n.1) ∙ n.2) in
              goes d (subst (λ (y : ℕ). knows (of s w) y ≡ true) slot (walks.is_known b.0 b.1 b.2))
              (subst P slot (old b.0 b.1 b.2)) turn

  pub look_each : (k : ℕ) (ws : List Arrival) (x : ℕ) (f : Field) → IsKey k → FixedKeys s.memory
      → WalkLaw s.layout.radix (child s.memory) (key s.memory) (knows (of s w)) k ws → (W : ℕ → Lasting → Type 0)
      → EachNow (child s.memory) (key s.memory) (lasting s.memory) k W
      → ((i : ℕ) (a : Arrival) → slice_get ws i ≡ Some a
      → EachOnward (child s.memory) (key s.memory) (lasting s.memory) k W a.slot)
      → (i : ℕ) (a : Arrival) → slice_get (walked k ws x f (reply_of s w (Look x f))) i ≡ Some a
      → EachOnward (child s.memory) (key s.memory) (lasting s.memory) k W a.slot
  look_each k ws x f small fixed walks W now = look_adds
      (EachOnward (child s.memory) (key s.memory) (lasting s.memory) k W) k ws x f walks
      (first_each k (omega (arith, small)) fixed W now)
      (λ d known each turn q goes some. each (d ∷ q) (turn, goes) some)
