-- The keys that a state tells are those of the leaves of the set to which paths lead, from left to
-- right.
use Rattle.std.proofs.Common.{◌≡◌, ◌≢◌, inl, inr, ℕ, zero, suc, ◌<◌, ◌==◌, Bool, true, false, cond, ◌&&◌, List, [], ◌∷◌, ◌++◌, map, length, refl, sym, ap, ap₂, subst, ◌∙◌, arith}
use Rattle.std.specs.Prelude.{Option, Some, None, nat_lt, All, AllPairs}
use Rattle.std.specs.List.{filter_map, cons_option}
use Rattle.std.proofs.lemmas.Bool.{eqb-true, eqb-false, and_parts, ltb-true, lt-ltb}
use Rattle.std.proofs.lemmas.List.{map-append}
use Rattle.std.proofs.lemmas.List.Elements.{filter_map-append}
use Rattle.std.proofs.lemmas.Option.{none-some, same_Some}
use Rattle.nm_edge.specs.declared.edge.Side.{Side}
use Rattle.nm_edge.specs.declared.edge.Side.TheVariants.{Left, Right}
use Rattle.nm_model.specs.Laws.{OfEachState}
use Rattle.nm_model.specs.Memory.{Memory, node, child, is_leaf, infinity_0}
use Rattle.nm_model.specs.Paths.{follow}
use Rattle.nm_model.specs.Reports.{tree_slots, set_key, keys_below}
use Rattle.nm_model.specs.Runs.{State, start, after}
use Rattle.nm_laws.specs.LeafPaths.{IsLeftOf, IsLeafOfTheSet, KeysAreFromTheLeft}
use Rattle.nm_laws.proofs.Lawful.{lawful}
use Rattle.nm_laws.proofs.ListOrders.{In, contained_in, in_contained, in_left, in_right, in_either, in_map, in_mapped, all_map, pairs_append, pairs_map}
use Rattle.nm_laws.proofs.Pictures.{null_below}
use Rattle.nm_laws.proofs.TreeCount.{short_paths}
use Rattle.nm_laws.proofs.Trees.{follow_none}
use Rattle.nm_laws.proofs.TreeSteps.{Lawful}
use Rattle.nm_laws.proofs.Views.{picture}

-- the path of no step, where the slot has a key of the set
abbrev own : Option ℕ → List (List Side)
own None = []
own (Some k) = [] ∷ []

abbrev on : Side → List Side → List Side
on side path = side ∷ path

abbrev both : Option ℕ → List (List Side) → List (List Side) → List (List Side)
both key left right = own key ++ (map (on Left) left ++ map (on Right) right)

-- the paths from a slot to the leaves of the set below it, from left to right, at most fuel long
abbrev leaf_paths : ℕ → Memory → ℕ → List (List Side)
leaf_paths zero m s = []
leaf_paths (suc fuel) m s = elim (s == 0) [
  | true ↦ []
  | false ↦ both (set_key (node m s))
      (leaf_paths fuel m (child m s Left)) (leaf_paths fuel m (child m s Right))
]

module _ (m : Memory) where
  abbrev key_along : ℕ → List Side → ℕ
  key_along s path = (node m (follow (child m) s path)).key

  -- a slot has a key of the set just where it is a leaf of the set
  key_of_leaf : (s k : ℕ) → s ≢ 0 → set_key (node m s) ≡ Some k → IsLeafOfTheSet m s × ((node m s).key ≡ k)
  key_of_leaf s k some h = go (is_leaf (node m s)) refl (nat_lt (node m s).key infinity_0) refl h
    where
      go : (b : Bool) → is_leaf (node m s) ≡ b → (c : Bool) → nat_lt (node m s).key infinity_0 ≡ c
          → cond (b && c) (Some (node m s).key) None ≡ Some k → IsLeafOfTheSet m s × ((node m s).key ≡ k)
      go true i true j h = (
        record { is_slot = some; childless = i; low = ltb-true (node m s).key infinity_0 j },
        same_Some (node m s).key k h,
      )
      go true i false j h = absurd (none-some k h)
      go false i c j h = absurd (none-some k h)

  leaf_has_key : (s : ℕ) → IsLeafOfTheSet m s → set_key (node m s) ≡ Some (node m s).key
  leaf_has_key s l = rw (l.childless, lt-ltb (node m s).key infinity_0 l.low) refl

  -- below a leaf there is nothing
  none_below : (s : ℕ) → is_leaf (node m s) ≡ true → (side : Side) → child m s side ≡ 0
  none_below s leaf Left = eqb-true _ 0 (and_parts ((node m s).left.slot == 0) ((node m s).right.slot == 0) leaf).0
  none_below s leaf Right = eqb-true _ 0 (and_parts ((node m s).left.slot == 0) ((node m s).right.slot == 0) leaf).1

  no_paths : (fuel s : ℕ) → s ≡ 0 → leaf_paths fuel m s ≡ []
  no_paths zero s null = refl
  no_paths (suc fuel) s null = rw null refl

  -- ---- the keys along these paths

  mapped_twice : (f : List Side → ℕ) (side : Side) (ps : List (List Side))
      → map f (map (on side) ps) ≡ map (λ p. f (side ∷ p)) ps
  mapped_twice f side [] = refl
  mapped_twice f side (p ∷ ps) = ap (λ (ks : List ℕ). f (side ∷ p) ∷ ks) (mapped_twice f side ps)

  abbrev paths_on : ℕ → ℕ → Side → List (List Side)
  paths_on fuel s side = leaf_paths fuel m (child m s side)

  abbrev slots_on : ℕ → ℕ → Side → List ℕ
  slots_on fuel s side = tree_slots fuel m (child m s side)

  abbrev rest : ℕ → ℕ → List ℕ
  rest fuel s = keys_below fuel m (child m s Left) ++ keys_below fuel m (child m s Right)

  keys_along : (fuel s : ℕ) → map (key_along s) (leaf_paths fuel m s) ≡ keys_below fuel m s
  keys_along zero s = refl
  keys_along (suc fuel) s = go (s == 0) refl (keys_along fuel (child m s Left)) (keys_along fuel (child m s Right))
    where
      below : map (key_along (child m s Left)) (paths_on fuel s Left) ≡ keys_below fuel m (child m s Left)
          → map (key_along (child m s Right)) (paths_on fuel s Right) ≡ keys_below fuel m (child m s Right)
          → map (key_along s) (map (on Left) (paths_on fuel s Left) ++ map (on Right) (paths_on fuel s Right))
          ≡ rest fuel s
      below left right = map-append (key_along s) (map (on Left) (paths_on fuel s Left))
          (map (on Right) (paths_on fuel s Right))
          ∙ ap₂ (λ (xs ys : List ℕ). xs ++ ys) (mapped_twice (key_along s) Left (paths_on fuel s Left) ∙ left)
          (mapped_twice (key_along s) Right (paths_on fuel s Right) ∙ right)

      with_own : s ≢ 0 → (o : Option ℕ) → set_key (node m s) ≡ o
          → map (key_along s) (map (on Left) (paths_on fuel s Left) ++ map (on Right) (paths_on fuel s Right))
          ≡ rest fuel s
          → map (key_along s) (own o ++ (map (on Left) (paths_on fuel s Left)
          ++ map (on Right) (paths_on fuel s Right))) ≡ cons_option o (rest fuel s)
      with_own some None is e = e
      with_own some (Some k) is e = ap₂ (λ (x : ℕ) (xs : List ℕ). x ∷ xs) (key_of_leaf s k some is).1 e

      go : (b : Bool) → (s == 0) ≡ b → map (key_along (child m s Left)) (paths_on fuel s Left)
          ≡ keys_below fuel m (child m s Left) → map (key_along (child m s Right)) (paths_on fuel s Right)
          ≡ keys_below fuel m (child m s Right)
          → map (key_along s) (elim b as (λ _. List (List Side))
          [ true ↦ [] | false ↦ both (set_key (node m s)) (paths_on fuel s Left) (paths_on fuel s Right) ])
          ≡ filter_map (λ x. set_key (node m x)) (elim b as (λ _. List ℕ)
          [ true ↦ [] | false ↦ s ∷ slots_on fuel s Left ++ slots_on fuel s Right ])
      go true is left right = refl
      go false is left right = with_own (eqb-false s 0 is) (set_key (node m s)) refl (below left right)
          ∙ ap (cons_option (set_key (node m s))) (sym
          (filter_map-append (λ x. set_key (node m x)) (slots_on fuel s Left) (slots_on fuel s Right)))

  -- ---- these paths, and no others

  each_leads : (fuel s : ℕ) (path : List Side) → In (leaf_paths fuel m s) path
      → IsLeafOfTheSet m (follow (child m) s path)
  each_leads zero s path h = absurd h
  each_leads (suc fuel) s path h = go (s == 0) refl h (λ side p. each_leads fuel (child m s side) p)
    where
      down : (side : Side) → ((p : List Side) → In (paths_on fuel s side) p
          → IsLeafOfTheSet m (follow (child m) (child m s side) p)) → In (map (on side) (paths_on fuel s side)) path
          → IsLeafOfTheSet m (follow (child m) s path)
      down side below h = let r = in_mapped (on side) (paths_on fuel s side) path h in
          subst (λ (p : List Side). IsLeafOfTheSet m (follow (child m) s p)) (sym r.2) (below r.0 r.1)

      here : s ≢ 0 → (o : Option ℕ) → set_key (node m s) ≡ o → In (own o) path
          → IsLeafOfTheSet m (follow (child m) s path)
      here some None is h = absurd h
      here some (Some k) is (inl e) = subst (λ (p : List Side). IsLeafOfTheSet m (follow (child m) s p)) (sym e)
          (key_of_leaf s k some is).0
      here some (Some k) is (inr h) = absurd h

      go : (b : Bool) → (s == 0) ≡ b → In (elim b as (λ _. List (List Side))
          [ true ↦ [] | false ↦ both (set_key (node m s)) (paths_on fuel s Left) (paths_on fuel s Right) ]) path
          → ((side : Side) (p : List Side) → In (paths_on fuel s side) p
          → IsLeafOfTheSet m (follow (child m) (child m s side) p)) → IsLeafOfTheSet m (follow (child m) s path)
      go true is h below = absurd h
      go false is h below = elim (in_either (own (set_key (node m s))) _ path h) [
        | inl k ↦ here (eqb-false s 0 is) (set_key (node m s)) refl k
        | inr k ↦ elim (in_either (map (on Left) (paths_on fuel s Left)) (map (on Right) (paths_on fuel s Right))
            path k) [ inl j ↦ down Left (below Left) j | inr j ↦ down Right (below Right) j ]
      ]

  each_is_there : ((side : Side) → child m 0 side ≡ 0) → (fuel s : ℕ) (path : List Side)
      → IsLeafOfTheSet m (follow (child m) s path) → length path < fuel → In (leaf_paths fuel m s) path
  each_is_there null zero s path leaf short = absurd (omega arith)
  each_is_there null (suc fuel) s path leaf short = go (s == 0) refl
      (by path leaf short (λ side p. each_is_there null fuel (child m s side) p))
    where
      by : (path : List Side) → IsLeafOfTheSet m (follow (child m) s path) → length path < suc fuel
          → ((side : Side) (p : List Side) → IsLeafOfTheSet m (follow (child m) (child m s side) p) → length p < fuel
          → In (paths_on fuel s side) p)
          → In (both (set_key (node m s)) (paths_on fuel s Left) (paths_on fuel s Right)) path
      by [] leaf short below = in_left (own (set_key (node m s))) _ []
          (subst (λ (o : Option ℕ). In (own o) []) (sym (leaf_has_key s leaf)) (inl refl))
      by (Left ∷ p) leaf short below = in_right (own (set_key (node m s))) _ (Left ∷ p)
          (in_left (map (on Left) (paths_on fuel s Left)) _ (Left ∷ p)
          (in_map (on Left) (paths_on fuel s Left) p (below Left p leaf (omega arith))))
      by (Right ∷ p) leaf short below = in_right (own (set_key (node m s))) _ (Right ∷ p)
          (in_right (map (on Left) (paths_on fuel s Left)) _ (Right ∷ p)
          (in_map (on Right) (paths_on fuel s Right) p (below Right p leaf (omega arith))))

      go : (b : Bool) → (s == 0) ≡ b → In (both (set_key (node m s)) (paths_on fuel s Left) (paths_on fuel s Right))
          path
          → In (elim b as (λ _. List (List Side)) [
            | true ↦ []
            | false ↦ both (set_key (node m s))
                (paths_on fuel s Left) (paths_on fuel s Right)
          ]) path
      go true is h = absurd (leaf.is_slot (ap (λ (x : ℕ). follow (child m) x path) (eqb-true s 0 is)
          ∙ follow_none (child m) null path))
      go false is h = h

  -- ---- from left to right

  ascending : (fuel s : ℕ) → AllPairs IsLeftOf (leaf_paths fuel m s)
  ascending zero s = λ i j d less below. absurd (omega arith)
  ascending (suc fuel) s = go (s == 0) refl (ascending fuel (child m s Left)) (ascending fuel (child m s Right))
    where
      forked : AllPairs IsLeftOf (paths_on fuel s Left) → AllPairs IsLeftOf (paths_on fuel s Right)
          → AllPairs IsLeftOf (map (on Left) (paths_on fuel s Left) ++ map (on Right) (paths_on fuel s Right))
      forked left right = pairs_append IsLeftOf (map (on Left) (paths_on fuel s Left))
          (map (on Right) (paths_on fuel s Right))
          (pairs_map (on Left) IsLeftOf (paths_on fuel s Left) left)
          (pairs_map (on Right) IsLeftOf (paths_on fuel s Right) right)
          (all_map (on Left) (λ x. All (IsLeftOf x) (map (on Right) (paths_on fuel s Right))) (paths_on fuel s Left)
          (λ p. all_map (on Right) (IsLeftOf (on Left p)) (paths_on fuel s Right) (λ q. tt)))

      with_own : s ≢ 0 → (o : Option ℕ) → set_key (node m s) ≡ o
          → AllPairs IsLeftOf (map (on Left) (paths_on fuel s Left) ++ map (on Right) (paths_on fuel s Right))
          → AllPairs IsLeftOf (both o (paths_on fuel s Left) (paths_on fuel s Right))
      with_own some None is h = h
      with_own some (Some k) is h =
          let leaf = (key_of_leaf s k some is).0 in
          rw (
            no_paths fuel (child m s Left) (none_below s leaf.childless Left),
            no_paths fuel (child m s Right)
                (none_below s leaf.childless Right),
          ) (λ i j d less below. absurd (omega arith))

      go : (b : Bool) → (s == 0) ≡ b → AllPairs IsLeftOf (paths_on fuel s Left)
          → AllPairs IsLeftOf (paths_on fuel s Right)
          → AllPairs IsLeftOf (elim b as (λ _. List (List Side))
          [ true ↦ [] | false ↦ both (set_key (node m s)) (paths_on fuel s Left) (paths_on fuel s Right) ])
      go true is left right = λ i j d less below. absurd (omega arith)
      go false is left right = with_own (eqb-false s 0 is) (set_key (node m s)) refl (forked left right)

pub keys_from_the_left : (s : State) (h : ℕ → ℕ) → Lawful s h → KeysAreFromTheLeft s
keys_from_the_left s h law = record {
  paths = leaf_paths s.layout.nodes s.memory 1;
  ascend = ascending s.memory s.layout.nodes 1;
  exactly = λ path. (
    (λ c. each_leads s.memory s.layout.nodes 1 path (contained_in _ path c)),
    (λ leaf. in_contained _ path (each_is_there s.memory (null_below s.layout.nodes (picture s h) law.tree)
        s.layout.nodes 1 path leaf (short_paths s h law.tree path leaf.is_slot))),
  );
  theirs = sym (keys_along s.memory s.layout.nodes 1);
}

pub each_state_tells_keys_from_the_left : OfEachState KeysAreFromTheLeft
each_state_tells_keys_from_the_left L enough turns = let k = lawful L enough turns in
    keys_from_the_left (after (start L) turns) k.holder k.law
