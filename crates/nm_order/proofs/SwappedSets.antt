-- A swap of a leaf for one with its key leaves the set as it is, and what stands unflagged.
use Rattle.std.proofs.Common.{◌≡◌, ◌≢◌, ℕ, ◌<◌, ◌==◌, inl, inr, true, false, [], ◌∷◌, ◌++◌, length, sym, ap, ◌∙◌}
use Rattle.std.specs.Prelude.{◌↔◌}
use native.Mathlib.Decide.{ℕ_discrete}
use Rattle.std.proofs.lemmas.Bool.{eqb-true, and_parts, and_from, eq-eqb}
use Rattle.nm_edge.specs.Edges.{Edge, to}
use Rattle.nm_edge.specs.declared.edge.Side.{Side}
use Rattle.nm_edge.specs.declared.edge.Side.TheVariants.{Left, Right}
use Rattle.nm_model.specs.Memory.{Memory, node, edge, child, put_edge, is_leaf}
use Rattle.nm_model.specs.Paths.{Reached, IsCut}
use Rattle.nm_model.specs.Acts.{InSet}
use Rattle.nm_order.specs.Intervals.{key}
use Rattle.nm_order.specs.Totals.{StandsUnflagged}
use Rattle.nm_order.proofs.SwappedTrees.{Swapping, SwappedWay, swapped_way, old_stays, new_there, to_old_leaf, new_null_now}
use Rattle.nm_order.proofs.FlaggedPaths.{Put, put_case}
use Rattle.nm_order.proofs.FlaggedPaths.Put.{Here, There}

module _ (m : Memory) (p : ℕ) (d : Side) (leaf new : ℕ) (inside : p < length m.nodes)
    (unmarked : edge m p d ≡ to leaf) (some_new : new ≢ 0) (keys : (x : ℕ) → key (put_edge m p d (to new)) x ≡ key m x)
    (g : Swapping (child m) (child (put_edge m p d (to new))) (key m) p d leaf new) where
  abbrev m' : Memory
  m' = put_edge m p d (to new)

  as_was : (x : ℕ) (f : Side) → x ≢ p → edge m' x f ≡ edge m x f
  as_was x f far = go (put_case m p d (to new) inside x f)
    where
      go : Put m p d (to new) x f → edge m' x f ≡ edge m x f
      go (Here at side is) = absurd (far at)
      go (There is) = is

  null_of : (n : Memory) (x : ℕ) → is_leaf (node n x) ≡ true → (f : Side) → child n x f ≡ 0
  null_of n x h Left = eqb-true _ 0 (and_parts ((node n x).left.slot == 0) ((node n x).right.slot == 0) h).0
  null_of n x h Right = eqb-true _ 0 (and_parts ((node n x).left.slot == 0) ((node n x).right.slot == 0) h).1

  is_null : (n : Memory) (x : ℕ) → ((f : Side) → child n x f ≡ 0) → is_leaf (node n x) ≡ true
  is_null n x null = and_from ((node n x).left.slot == 0) ((node n x).right.slot == 0) (eq-eqb _ 0 (null Left))
      (eq-eqb _ 0 (null Right))

  leaf_still : (x : ℕ) → is_leaf (node m x) ≡ true → is_leaf (node m' x) ≡ true
  leaf_still x h = is_null m' x
      (λ f. ap (λ (e : Edge). e.slot)
      (as_was x f (λ at. g.leaf_slot (sym g.leads ∙ (ap (λ (y : ℕ). child m y d) (sym at) ∙ null_of m x h d))))
      ∙ null_of m x h f)

  leaf_back : (x : ℕ) → is_leaf (node m' x) ≡ true → is_leaf (node m x) ≡ true
  leaf_back x h = is_null m x
      (λ f. sym (ap (λ (e : Edge). e.slot)
      (as_was x f (λ at. some_new
      (sym g.exchanged.here ∙ (ap (λ (y : ℕ). child m' y d) (sym at) ∙ null_of m' x h d))))) ∙ null_of m' x h f)

  leaf_reached : Reached m leaf
  leaf_reached = record {
    path = g.front ++ d ∷ [];
    ends = to_old_leaf (child m) (child m') (key m) p d leaf new g;
    is_slot = g.leaf_slot;
  }

  new_reached : Reached m' new
  new_reached = record {
    path = g.front ++ d ∷ [];
    ends = new_there (child m) (child m') (key m) p d leaf new g;
    is_slot = some_new;
  }

  still_there : (x : ℕ) → Reached m x → x ≢ leaf → Reached m' x
  still_there x r ne = record {
    path = r.path;
    ends = old_stays (child m) (child m') (key m) p d leaf new g r.path
        (λ z. r.is_slot (sym r.ends ∙ z)) (λ z. ne (sym r.ends ∙ z)) ∙ r.ends;
    is_slot = r.is_slot;
  }

  was_there : (x : ℕ) → Reached m' x → x ≢ new → Reached m x
  was_there x r ne = by
      (swapped_way (child m) (child m') (key m) p d leaf new g r.path (λ z. r.is_slot (sym r.ends ∙ z)))
    where
      by : SwappedWay (child m) (child m') (key m) p d leaf new g r.path → Reached m x
      by (inl a) = record { path = r.path; ends = sym a.1 ∙ r.ends; is_slot = r.is_slot }
      by (inr b) = absurd (ne (sym r.ends ∙ b.1))

  new_key : key m' new ≡ key m leaf
  new_key = keys new ∙ g.same_key

  -- the leaf alone is cut, from an unflagged edge
  pub swapped_cut : (x : ℕ) → IsCut m m' x → (y : ℕ) × (f : Side) × Reached m y × (child m y f ≡ x)
      × ((edge m y f).flag ≡ false)
  swapped_cut x c = elim (ℕ_discrete x leaf) [
    | yes e ↦ (
      p,
      d,
      record { path = g.front; ends = g.at_front; is_slot = g.is_slot },
      g.leads
          ∙ sym e,
      ap (λ (z : Edge). z.flag) unmarked,
    )
    | no ne ↦ absurd (c.gone (still_there x c.was ne))
  ]

  pub swapped_set : (k : ℕ) → InSet m' k ↔ InSet m k
  swapped_set k = (back, there)
    where
      there : InSet m k → InSet m' k
      there s = elim (ℕ_discrete s.slot leaf) [
        | yes e ↦ record {
          slot = new;
          reached = new_reached;
          leaf =
              is_null m' new (new_null_now (child m) (child m') (key m) p d leaf new g);
          has_key = new_key
              ∙ (ap (key m) (sym e) ∙ s.has_key);
        }
        | no ne ↦ record {
          slot = s.slot;
          reached = still_there s.slot s.reached ne;
          leaf = leaf_still s.slot s.leaf;
          has_key = keys s.slot ∙ s.has_key;
        }
      ]

      back : InSet m' k → InSet m k
      back s = elim (ℕ_discrete s.slot new) [
        | yes e ↦ record {
          slot = leaf;
          reached = leaf_reached;
          leaf = is_null m leaf g.leaf_null;
          has_key =
              sym new_key ∙ (ap (key m') (sym e) ∙ s.has_key);
        }
        | no ne ↦ record {
          slot = s.slot;
          reached = was_there s.slot s.reached ne;
          leaf = leaf_back s.slot s.leaf;
          has_key = sym (keys s.slot) ∙ s.has_key;
        }
      ]

  pub swapped_unflagged : (k : ℕ) → StandsUnflagged m' k ↔ StandsUnflagged m k
  swapped_unflagged k = (back, there)
    where
      there : StandsUnflagged m k → StandsUnflagged m' k
      there u = by (put_case m p d (to new) inside u.parent u.side)
        where
          parent_there : Reached m' u.parent
          parent_there = still_there u.parent u.reached
              (λ e. u.is_slot (ap (λ (y : ℕ). child m y u.side) e ∙ g.leaf_null u.side))

          by : Put m p d (to new) u.parent u.side → StandsUnflagged m' k
          by (Here at side is) =
              let slot : child m' u.parent u.side ≡ new = ap (λ (e : Edge). e.slot) is in
              let old : child m u.parent u.side ≡ leaf = ap (λ (y : ℕ). child m y u.side) at
              ∙ (ap (child m p) (sym side) ∙ g.leads) in
              record {
                parent = u.parent;
                side = u.side;
                reached = parent_there;
                is_slot = λ z. some_new (sym slot ∙ z);
                unflagged = ap (λ (e : Edge). e.flag) is;
                leaf = ap (λ (y : ℕ). is_leaf (node m' y)) slot
                    ∙ is_null m' new (new_null_now (child m) (child m') (key m) p d leaf new g);
                has_key = ap (key m') slot ∙ (new_key ∙ (ap (key m) (sym old) ∙ u.has_key));
              }
          by (There is) =
              let slot : child m' u.parent u.side ≡ child m u.parent u.side = ap (λ (e : Edge). e.slot) is in
              record {
                parent = u.parent;
                side = u.side;
                reached = parent_there;
                is_slot = λ z. u.is_slot (sym slot ∙ z);
                unflagged = ap (λ (e : Edge). e.flag) is ∙ u.unflagged;
                leaf = ap (λ (y : ℕ). is_leaf (node m' y)) slot ∙ leaf_still (child m u.parent u.side) u.leaf;
                has_key = ap (key m') slot ∙ (keys (child m u.parent u.side) ∙ u.has_key);
              }

      back : StandsUnflagged m' k → StandsUnflagged m k
      back u = by (put_case m p d (to new) inside u.parent u.side)
        where
          by : Put m p d (to new) u.parent u.side → StandsUnflagged m k
          by (Here at side is) =
              let slot : child m' u.parent u.side ≡ new = ap (λ (e : Edge). e.slot) is in
              record {
                parent = p;
                side = d;
                reached = record { path = g.front; ends = g.at_front; is_slot = g.is_slot };
                is_slot = λ z. g.leaf_slot (sym g.leads ∙ z);
                unflagged = ap (λ (e : Edge). e.flag) unmarked;
                leaf = ap (λ (y : ℕ). is_leaf (node m y)) g.leads ∙ is_null m leaf g.leaf_null;
                has_key = ap (key m) g.leads ∙ (sym new_key ∙ (ap (key m') (sym slot) ∙ u.has_key));
              }
          by (There is) =
              let slot : child m' u.parent u.side ≡ child m u.parent u.side = ap (λ (e : Edge). e.slot) is in
              record {
                parent = u.parent;
                side = u.side;
                reached = was_there u.parent u.reached
                    (λ e. u.is_slot (ap (λ (y : ℕ). child m' y u.side) e
                    ∙ new_null_now (child m) (child m') (key m) p d leaf new g u.side));
                is_slot = λ z. u.is_slot (slot ∙ z);
                unflagged = sym (ap (λ (e : Edge). e.flag) is) ∙ u.unflagged;
                leaf = leaf_back (child m u.parent u.side) (ap (λ (y : ℕ). is_leaf (node m' y)) (sym slot) ∙ u.leaf);
                has_key = sym (keys (child m u.parent u.side)) ∙ (ap (key m') (sym slot) ∙ u.has_key);
              }
