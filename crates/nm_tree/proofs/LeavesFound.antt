-- A walk over a tree, part by part: the parts that wait are reached, and so are the leaves that are
-- found.
use Rattle.std.proofs.Common.{◌≡◌, ◌≢◌, ℕ, ◌-◌, ◌&&◌, Bool, true, false, cond, List, [], ◌∷◌, ◌++◌, length, append-nil, refl, sym, ap, subst, ◌∙◌, arith}
use Rattle.std.specs.Prelude.{Option, Some, None, nat_lt, option_map, option_to_list}
use Rattle.nm_edge.specs.Layouts.{Layout}
use Rattle.nm_edge.specs.Words.{IsSlot}
use Rattle.nm_edge.specs.declared.edge.Side.{Side}
use Rattle.nm_edge.specs.declared.edge.Side.TheVariants.{Left, Right}
use Rattle.nm_model.specs.declared.keys.Subtree.{Subtree}
use Rattle.nm_model.specs.declared.memory.Node.{Node}
use Rattle.nm_model.specs.Memory.{Memory, child, infinity_0, is_leaf, node}
use Rattle.nm_model.specs.Paths.{Reached}
use Rattle.nm_model.specs.Reports.{below, set_key}
use Rattle.nm_laws.proofs.Trees.{follow-append}
use Rattle.nm_tree.specs.MapReports.{AreLeavesOf, IsLeafOf}

-- ---- parts

-- each of these parts that has a slot is reached
abbrev pub AreReached : Memory → List Subtree → Type 0
AreReached m [] = Unit {0}
AreReached m (p ∷ ps) = (p.slot ≢ 0 → Reached m p.slot) × AreReached m ps

reached-append : (m : Memory) (ps qs : List Subtree) → AreReached m ps → AreReached m qs → AreReached m (ps ++ qs)
reached-append m [] qs first second = second
reached-append m (p ∷ ps) qs first second = (first.0, reached-append m ps qs first.1 second)

reached_split : (m : Memory) (ps : List Subtree) (p : Subtree) → AreReached m (ps ++ p ∷ [])
    → AreReached m ps × (p.slot ≢ 0 → Reached m p.slot)
reached_split m [] p are = (tt, are.0)
reached_split m (q ∷ ps) p are = let rest = reached_split m ps p are.1 in ((are.0, rest.0), rest.1)

below_reached : (m : Memory) (x : ℕ) (side : Side) → Reached m x → child m x side ≢ 0 → Reached m (child m x side)
below_reached m x side r some = record {
  path = r.path ++ side ∷ [];
  ends = follow-append (child m) 1 r.path (side ∷ []) ∙ ap (λ (y : ℕ). child m y side) r.ends;
  is_slot = some;
}

-- the walk begins at the root
pub root_reached : (m : Memory) (n : ℕ) (waiting : List Subtree) → waiting ≡ record { slot = 1; depth = n } ∷ []
    → AreReached m waiting
root_reached m n waiting is = subst (AreReached m) (sym is)
    ((λ some. record { path = []; ends = refl; is_slot = some }), tt)

-- a part that is taken, and those that wait then
pub taken_reached : (m : Memory) (all rest : List Subtree) (p : Subtree) → all ≡ rest ++ p ∷ [] → AreReached m all
    → AreReached m rest × (p.slot ≢ 0 → Reached m p.slot)
taken_reached m all rest p is are = reached_split m rest p (subst (AreReached m) is are)

-- a slot is visited: the parts below it wait
pub next_reached : (m : Memory) (all rest new : List Subtree) (p : Subtree) (x : Node) → all ≡ rest ++ p ∷ []
    → p.slot ≢ 0 → x ≡ node m p.slot
    → new ≡ rest ++ record { slot = x.right.slot; depth = p.depth - 1 }
    ∷ record { slot = x.left.slot; depth = p.depth - 1 } ∷ [] → AreReached m all → AreReached m new
next_reached m all rest new p x is slot at waits are =
    let t = taken_reached m all rest p is are in
    subst (AreReached m) (sym waits')
    (reached-append m rest (below m p.slot (p.depth - 1)) t.0
    (below_reached m p.slot Right (t.1 slot), (below_reached m p.slot Left (t.1 slot), tt)))
  where
    waits' : new ≡ rest ++ below m p.slot (p.depth - 1)
    waits' = waits ∙ ap (λ (y : Node). rest ++ record { slot = y.right.slot; depth = p.depth - 1 }
        ∷ record { slot = y.left.slot; depth = p.depth - 1 } ∷ []) at

-- ---- leaves

-- one more at the end
leaf_and : (L : Layout) (m : Memory) (ks xs : List ℕ) (k x : ℕ) → AreLeavesOf L m ks xs → IsLeafOf L m k x
    → AreLeavesOf L m (ks ++ k ∷ []) (xs ++ x ∷ [])
leaf_and L m [] [] k x are one = (one, tt)
leaf_and L m [] (y ∷ xs) k x are one = absurd are
leaf_and L m (j ∷ ks) [] k x are one = absurd are
leaf_and L m (j ∷ ks) (y ∷ xs) k x are one = (are.0, leaf_and L m ks xs k x are.1 one)

-- a node that is visited is a leaf of the set if it has a key
pub leaf_more : (L : Layout) (m : Memory) (found after leaves slots : List ℕ) (x : Node) (s : ℕ) (key : Option ℕ)
    → IsSlot L s → Reached m s → x ≡ node m s → key ≡ set_key x
    → after ≡ found ++ option_to_list key → slots ≡ leaves ++ option_to_list (option_map (λ _. s) key)
    → AreLeavesOf L m found leaves → AreLeavesOf L m after slots
leaf_more L m found after leaves slots x s key slot r at is grown more are =
    subst (λ (ks : List ℕ). AreLeavesOf L m ks slots) (sym grown)
    (subst (λ (xs : List ℕ). AreLeavesOf L m (found ++ option_to_list key) xs) (sym more) (by key is))
  where
    of_set : (leaf low : Bool) (k : ℕ) → is_leaf x ≡ leaf → (if_so : cond (leaf && low) (Some x.key) None ≡ Some k)
        → (is_leaf x ≡ true) × (x.key ≡ k)
    of_set true true k is' if_so = (is', cc)
    of_set true false k is' if_so = absurd (cc)
    of_set false low k is' if_so = absurd (cc)

    by : (o : Option ℕ) → o ≡ set_key x → AreLeavesOf L m (found ++ option_to_list o)
        (leaves ++ option_to_list (option_map (λ _. s) o))
    by None none' = subst (λ (ks : List ℕ). AreLeavesOf L m ks (leaves ++ [])) (sym (append-nil found))
        (subst (λ (xs : List ℕ). AreLeavesOf L m found xs) (sym (append-nil leaves)) are)
    by (Some k) some' =
        let one = of_set (is_leaf x) (nat_lt x.key infinity_0) k refl (sym some') in
        leaf_and L m found leaves k s are (record {
          slot = slot;
          reached = r;
          leaf = subst (λ (y : Node). is_leaf y ≡ true) at one.0;
          has_key = ap (λ (y : Node). y.key) (sym at) ∙ one.1;
        })

pub as_many : (L : Layout) (m : Memory) (ks xs : List ℕ) → AreLeavesOf L m ks xs → length xs ≡ length ks
as_many L m [] [] are = refl
as_many L m [] (x ∷ xs) are = absurd are
as_many L m (k ∷ ks) [] are = absurd are
as_many L m (k ∷ ks) (x ∷ xs) are = let rest = as_many L m ks xs are.1 in omega (arith, rest)

pub no_leaves : (L : Layout) (m : Memory) (ks xs : List ℕ) → ks ≡ [] → xs ≡ [] → AreLeavesOf L m ks xs
no_leaves L m ks xs none' none'' = subst (λ (l : List ℕ). AreLeavesOf L m l xs) (sym none')
    (subst (λ (l : List ℕ). AreLeavesOf L m [] l) (sym none'') tt)
