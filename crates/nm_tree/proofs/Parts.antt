-- A walk over a tree, part by part: what it has found, what is left, and how many parts wait.
use Rattle.std.proofs.Common.{◌≡◌, ◌≢◌, ◌⊎◌, ℕ, zero, suc, ◌+◌, ◌-◌, ◌<◌, ◌≤◌, List, [], ◌∷◌, ◌++◌, length, refl, sym, ap, subst, ◌∙◌, arith}
use Rattle.std.specs.Prelude.{Option, Some, None, option_to_list}
use Rattle.std.specs.List.{filter_map, cons_option}
use Rattle.std.proofs.lemmas.List.{length-append}
use Rattle.nm_edge.specs.declared.edge.Side.{Side}
use Rattle.nm_edge.specs.declared.edge.Side.TheVariants.{Left, Right}
use Rattle.nm_model.specs.declared.keys.Subtree.{Subtree}
use Rattle.nm_model.specs.declared.memory.Node.{Node}
use Rattle.nm_model.specs.Memory.{Memory, node, child}
use Rattle.nm_model.specs.Reports.{tree_slots, set_key, below, keys_below}
use Rattle.nm_model.proofs.SetKeys.{pending, no_slots, skipped, tree_fork, visited, whole, finished}

-- ---- how many slots the parts that wait have

pub spread : Memory → List Subtree → ℕ
spread m [] = 0
spread m (p ∷ ps) = spread m ps + length (tree_slots p.depth m p.slot)

spread-append : (m : Memory) (ps qs : List Subtree) → spread m (ps ++ qs) ≡ spread m ps + spread m qs
unfolding spread
spread-append m [] qs = omega arith
spread-append m (p ∷ ps) qs = let rest = spread-append m ps qs in omega (arith, rest)

spread_pop : (m : Memory) (all rest : List Subtree) (p : Subtree) → all ≡ rest ++ p ∷ []
    → spread m all ≡ spread m rest + length (tree_slots p.depth m p.slot)
unfolding spread
spread_pop m all rest p e = ap (spread m) e ∙ (spread-append m rest (p ∷ []) ∙ omega arith)

spread_first : (m : Memory) (p : Subtree) → spread m (p ∷ []) ≡ length (tree_slots p.depth m p.slot)
unfolding spread
spread_first m p = omega arith

spread_none : (m : Memory) → spread m [] ≡ 0
unfolding spread
spread_none m = refl

spread_below : (m : Memory) (x d : ℕ) (rest : List Subtree)
    → spread m (rest ++ below m x d) ≡ spread m rest
    + (length (tree_slots d m (child m x Left)) + length (tree_slots d m (child m x Right)))
unfolding spread
spread_below m x d rest = spread-append m rest (below m x d) ∙ omega arith

-- ---- how many parts may yet come

pub most : ℕ → ℕ
most zero = 1
most (suc d) = 1 + (most d + most d)

pub steps : List Subtree → ℕ
steps [] = 0
steps (p ∷ ps) = steps ps + most p.depth

some_more : (d : ℕ) → 1 ≤ most d
unfolding most
some_more zero = omega arith
some_more (suc d) = omega arith

steps-append : (ps qs : List Subtree) → steps (ps ++ qs) ≡ steps ps + steps qs
unfolding steps
steps-append [] qs = omega arith
steps-append (p ∷ ps) qs = let rest = steps-append ps qs in omega (arith, rest)

steps_pop : (all rest : List Subtree) (p : Subtree) → all ≡ rest ++ p ∷ [] → steps all ≡ steps rest + most p.depth
unfolding steps
steps_pop all rest p e = ap steps e ∙ (steps-append rest (p ∷ []) ∙ omega arith)

pub popped_fewer : (all rest : List Subtree) (p : Subtree) → all ≡ rest ++ p ∷ [] → steps rest < steps all
popped_fewer all rest p e = let old = steps_pop all rest p e in let some = some_more p.depth in omega (arith, old, some)

-- two parts in place of one that is deeper
pub visited_fewer : (all rest new : List Subtree) (p : Subtree) (left right : ℕ) → all ≡ rest ++ p ∷ [] → p.depth ≢ 0
    → new ≡ rest ++ record { slot = right; depth = p.depth - 1 } ∷ record { slot = left; depth = p.depth - 1 } ∷ []
    → steps new < steps all
unfolding steps most
visited_fewer all rest new p left right e deep waits = go p.depth refl
  where
    go : (n : ℕ) → p.depth ≡ n → steps new < steps all
    go zero at = absurd (deep at)
    go (suc d) at =
        let one : p.depth - 1 ≡ d = omega (arith, at) in
        let old = steps_pop all rest p e ∙ ap (λ (n : ℕ). steps rest + most n) at in
        let next = ap steps (waits ∙ ap (λ (n : ℕ). rest ++ record { slot = right; depth = n }
        ∷ record { slot = left; depth = n } ∷ []) one)
        ∙ steps-append rest (record { slot = right; depth = d } ∷ record { slot = left; depth = d } ∷ []) in
        omega (arith, old, next)

-- ---- no part is above the last slot

abbrev pub AreWithin : ℕ → List Subtree → Type 0
AreWithin n [] = Unit {0}
AreWithin n (p ∷ ps) = (p.slot ≤ n) × AreWithin n ps

within-append : (n : ℕ) (ps qs : List Subtree) → AreWithin n ps → AreWithin n qs → AreWithin n (ps ++ qs)
within-append n [] qs a b = b
within-append n (p ∷ ps) qs a b = (a.0, within-append n ps qs a.1 b)

within_split : (n : ℕ) (ps : List Subtree) (p : Subtree) → AreWithin n (ps ++ p ∷ []) → AreWithin n ps × (p.slot ≤ n)
within_split n [] p a = (tt, a.0)
within_split n (q ∷ ps) p a = let rest = within_split n ps p a.1 in ((a.0, rest.0), rest.1)

-- ---- a walk

-- of the tree below slot 1, at most n deep: the keys found and those of the parts that wait are all
-- keys, and the slots visited and those of the parts that wait are all slots
pub record IsWalk (n : ℕ) (m : Memory) (done : ℕ) (found : List ℕ) (waiting : List Subtree) : Type 0 where
  pub told : found ++ pending m waiting ≡ keys_below n m 1
  pub counted : done + spread m waiting ≡ length (tree_slots n m 1)
  pub within : AreWithin n waiting

pub begun : (n : ℕ) (m : Memory) (found : List ℕ) (all : List Subtree) → 1 ≤ n → found ≡ []
    → all ≡ record { slot = 1; depth = n } ∷ [] → IsWalk n m 0 found all
begun n m found all some none one = record {
  told = whole m n n found all [] none refl one refl;
  counted = let first = ap (spread m) one ∙ spread_first m (record { slot = 1; depth = n }) in omega (arith, first);
  within = subst (AreWithin n) (sym one) (some, tt);
}

-- a part with no slot
pub passed : (n : ℕ) (m : Memory) (done : ℕ) (found : List ℕ) (all rest : List Subtree) (p : Subtree)
    → all ≡ rest ++ p ∷ [] → (p.slot ≡ 0) ⊎ (p.depth ≡ 0)
    → IsWalk n m done found all → IsWalk n m done found rest
passed n m done found all rest p e empty w = record {
  told = skipped m found (keys_below n m 1) all rest p e empty w.told;
  counted = let old = spread_pop m all rest p e in let nothing = ap length (no_slots p.depth m p.slot empty) in
      let sum = w.counted in omega (arith, old, nothing, sum);
  within = (within_split n rest p (subst (AreWithin n) e w.within)).0;
}

-- a part that is taken is none above the last slot
pub part_within : (n : ℕ) (m : Memory) (done : ℕ) (found : List ℕ) (all rest : List Subtree) (p : Subtree)
    → all ≡ rest ++ p ∷ [] → IsWalk n m done found all → p.slot ≤ n
part_within n m done found all rest p e w = (within_split n rest p (subst (AreWithin n) e w.within)).1

-- a slot is visited: its key is found, and the parts below it wait
pub gone_on : (n : ℕ) (m : Memory) (done : ℕ) (found after : List ℕ) (all rest new : List Subtree) (p : Subtree)
    (x : Node) → ((y : ℕ) (side : Side) → child m y side ≤ n)
    → all ≡ rest ++ p ∷ [] → p.slot ≢ 0 → p.depth ≢ 0 → x ≡ node m p.slot → after ≡ found ++ option_to_list (set_key x)
    → new ≡ rest ++ record { slot = x.right.slot; depth = p.depth - 1 }
    ∷ record { slot = x.left.slot; depth = p.depth - 1 } ∷ []
    → IsWalk n m done found all → IsWalk n m (done + 1) after new
gone_on n m done found after all rest new p x low e slot deep is key waits w = record {
  told = visited m found after (keys_below n m 1) all rest new p e slot deep
      (key ∙ ap (λ (y : Node). found ++ option_to_list (set_key y)) is) waits' w.told;
  counted = sum p.depth refl;
  within = subst (AreWithin n) (sym waits') (within-append n rest (below m p.slot (p.depth - 1))
      (within_split n rest p (subst (AreWithin n) e w.within)).0 (low p.slot Right, (low p.slot Left, tt)));
}
  where
    waits' : new ≡ rest ++ below m p.slot (p.depth - 1)
    waits' = waits ∙ ap (λ (y : Node). rest ++ record { slot = y.right.slot; depth = p.depth - 1 }
        ∷ record { slot = y.left.slot; depth = p.depth - 1 } ∷ []) is

    sum : (d : ℕ) → p.depth ≡ d → (done + 1) + spread m new ≡ length (tree_slots n m 1)
    sum zero at = absurd (deep at)
    sum (suc d) at =
        let one : p.depth - 1 ≡ d = omega (arith, at) in
        let old = spread_pop m all rest p e ∙ ap (λ (k : ℕ). spread m rest + length (tree_slots k m p.slot)) at in
        let fork = ap length (tree_fork d m p.slot slot) in
        let both = length-append (tree_slots d m (child m p.slot Left)) (tree_slots d m (child m p.slot Right)) in
        let next = ap (spread m) (waits' ∙ ap (λ (k : ℕ). rest ++ below m p.slot k) one)
        ∙ spread_below m p.slot d rest in
        let all_of = w.counted in
        omega (arith, old, fork, both, next, all_of)

-- ---- bounds

kept_or_left : (o : Option ℕ) (ks : List ℕ) → length (cons_option o ks) ≤ suc (length ks)
kept_or_left None ks = omega arith
kept_or_left (Some k) ks = omega arith

fewer_told : {X : Type 0} (f : X → Option ℕ) (xs : List X) → length (filter_map f xs) ≤ length xs
fewer_told f [] = omega arith
fewer_told f (x ∷ xs) = let rest = fewer_told f xs in let one = kept_or_left (f x) (filter_map f xs) in
    omega (arith, rest, one)

-- no more keys are found than there are slots in the tree
pub few_found : (n : ℕ) (m : Memory) (done : ℕ) (found : List ℕ) (waiting : List Subtree)
    → IsWalk n m done found waiting → length found ≤ length (tree_slots n m 1)
few_found n m done found waiting w =
    let all = sym (length-append found (pending m waiting)) ∙ ap length w.told in
    let few = fewer_told (λ x. set_key (node m x)) (tree_slots n m 1) in omega (arith, all, few)

-- nor are more visited
pub few_visited : (n : ℕ) (m : Memory) (done : ℕ) (found : List ℕ) (waiting : List Subtree)
    → IsWalk n m done found waiting → done ≤ length (tree_slots n m 1)
few_visited n m done found waiting w = let all = w.counted in omega (arith, all)

-- where no more slots are reached than there are, a slot that is visited is one of them, and there
-- is room for its key
pub room_left : (n : ℕ) (m : Memory) (done : ℕ) (found : List ℕ) (all rest : List Subtree) (p : Subtree) (x : Node)
    → ((y : ℕ) (side : Side) → child m y side ≤ n)
    → all ≡ rest ++ p ∷ [] → p.slot ≢ 0 → p.depth ≢ 0 → x ≡ node m p.slot → length (tree_slots n m 1) ≤ n
    → IsWalk n m done found all → (done + 1 ≤ n) × (length found + length (option_to_list (set_key x)) ≤ n)
room_left n m done found all rest p x low e slot deep is few w =
    let visits = few_visited n m (done + 1) after new then_on in
    let finds = few_found n m (done + 1) after new then_on in
    let both = length-append found (option_to_list (set_key x)) in
    (omega (arith, visits, few), omega (arith, finds, few, both))
  where
    after : List ℕ
    after = found ++ option_to_list (set_key x)

    new : List Subtree
    new = rest ++ record { slot = x.right.slot; depth = p.depth - 1 }
        ∷ record { slot = x.left.slot; depth = p.depth - 1 } ∷ []

    then_on : IsWalk n m (done + 1) after new
    then_on = gone_on n m done found after all rest new p x low e slot deep is refl refl w

-- ---- the end

pub all_found : (n : ℕ) (m : Memory) (done : ℕ) (found : List ℕ) (waiting : List Subtree) → waiting ≡ []
    → IsWalk n m done found waiting → found ≡ keys_below n m 1
all_found n m done found waiting none w = finished m found (keys_below n m 1) waiting none w.told

pub all_visited : (n : ℕ) (m : Memory) (done : ℕ) (found : List ℕ) (waiting : List Subtree) → waiting ≡ []
    → IsWalk n m done found waiting → done ≡ length (tree_slots n m 1)
all_visited n m done found waiting none w = let rest = ap (spread m) none ∙ spread_none m in let all = w.counted in
    omega (arith, rest, all)
