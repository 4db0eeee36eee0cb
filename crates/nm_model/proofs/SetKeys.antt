-- The keys of the set, part by part of the tree.
use Rattle.std.proofs.Common.{◌≡◌, ◌≢◌, ◌⊎◌, inl, inr, ℕ, zero, suc, ◌+◌, ◌-◌, ◌*◌, ◌<◌, ◌==◌, Bool, true, false, List, [], ◌∷◌, ◌++◌, length, append_assoc, append-nil, true≢false, refl, sym, ap, ◌∙◌, arith}
use Rattle.std.specs.Prelude.{Option, Some, None, option_to_list}
use Rattle.std.specs.List.{filter_map, cons_option}
use Rattle.std.proofs.lemmas.Bool.{ne_eqb}
use Rattle.std.proofs.lemmas.List.{length-append}
use Rattle.std.proofs.lemmas.List.Elements.{filter_map-append}
use Rattle.nm_edge.specs.declared.edge.Side.{Side}
use Rattle.nm_edge.specs.declared.edge.Side.TheVariants.{Left, Right}
use Rattle.nm_model.specs.declared.keys.Subtree.{Subtree}
use Rattle.nm_model.specs.Memory.{Memory, node, child}
use Rattle.nm_model.specs.Reports.{tree_slots, set_key, below, keys_below}

-- the keys of the parts that wait, the last of which comes first
pub pending : Memory → List Subtree → List ℕ
pending m [] = []
pending m (p ∷ ps) = pending m ps ++ keys_below p.depth m p.slot

-- how much is left to do
pub work : Memory → List Subtree → ℕ
work m [] = 0
work m (p ∷ ps) = work m ps + (1 + 2 * length (tree_slots p.depth m p.slot))

pub pending-append : (m : Memory) (ps qs : List Subtree) → pending m (ps ++ qs) ≡ pending m qs ++ pending m ps
unfolding pending
pending-append m [] qs = sym (append-nil _)
pending-append m (p ∷ ps) qs = ap (λ ks. ks ++ keys_below p.depth m p.slot) (pending-append m ps qs)
    ∙ append_assoc (pending m qs) (pending m ps) (keys_below p.depth m p.slot)

pub work-append : (m : Memory) (ps qs : List Subtree) → work m (ps ++ qs) ≡ work m ps + work m qs
unfolding work
work-append m [] qs = omega arith
work-append m (p ∷ ps) qs = let rest = work-append m ps qs in omega (arith, rest)

-- ---- a part that is taken

pub pending_pop : (m : Memory) (all rest : List Subtree) (p : Subtree) → all ≡ rest ++ p ∷ []
    → pending m all ≡ keys_below p.depth m p.slot ++ pending m rest
unfolding pending
pending_pop m all rest p e = ap (pending m) e ∙ pending-append m rest (p ∷ [])

pub work_pop : (m : Memory) (all rest : List Subtree) (p : Subtree) → all ≡ rest ++ p ∷ []
    → work m all ≡ work m rest + (1 + 2 * length (tree_slots p.depth m p.slot))
unfolding work
work_pop m all rest p e = ap (work m) e ∙ (work-append m rest (p ∷ []) ∙ omega arith)

pub no_slots : (d : ℕ) (m : Memory) (x : ℕ) → (x ≡ 0) ⊎ (d ≡ 0) → tree_slots d m x ≡ []
no_slots zero m x empty = refl
no_slots (suc d) m x (inl null) = rw null refl
no_slots (suc d) m x (inr none) = absurd (omega (arith, none))

pub none_there : (x d : ℕ) → ((x ≢ 0) × (d ≡ 0)) ⊎ (x ≡ 0) → (x ≡ 0) ⊎ (d ≡ 0)
none_there x d (inl deep) = inr deep.1
none_there x d (inr null) = inl null

-- a part with no slot has no keys
pub skipped : (m : Memory) (found ks : List ℕ) (all rest : List Subtree) (p : Subtree) → all ≡ rest ++ p ∷ []
    → (p.slot ≡ 0) ⊎ (p.depth ≡ 0) → found ++ pending m all ≡ ks → found ++ pending m rest ≡ ks
skipped m found ks all rest p e empty so = ap (λ ys. found ++ ys)
    (sym (pending_pop m all rest p e ∙ ap (λ xs. filter_map (λ x. set_key (node m x)) xs ++ pending m rest)
    (no_slots p.depth m p.slot empty))) ∙ so

pub tree_fork : (d : ℕ) (m : Memory) (x : ℕ) → x ≢ 0
    → tree_slots (suc d) m x ≡ x ∷ tree_slots d m (child m x Left) ++ tree_slots d m (child m x Right)
tree_fork d m x slot = go (x == 0) (ne_eqb x 0 slot)
  where
    go : (b : Bool) → b ≡ false → elim b as (λ _. List ℕ)
        [ true ↦ [] | false ↦ x ∷ tree_slots d m (child m x Left) ++ tree_slots d m (child m x Right) ]
        ≡ x ∷ tree_slots d m (child m x Left) ++ tree_slots d m (child m x Right)
    go true e = absurd (true≢false e)
    go false e = refl

in_front : (o : Option ℕ) (ks : List ℕ) → cons_option o ks ≡ option_to_list o ++ ks
in_front None ks = refl
in_front (Some k) ks = refl

keys_fork : (d : ℕ) (m : Memory) (x : ℕ) → x ≢ 0
    → keys_below (suc d) m x ≡ option_to_list (set_key (node m x))
    ++ (keys_below d m (child m x Left) ++ keys_below d m (child m x Right))
keys_fork d m x slot =
    ap (λ xs. filter_map (λ x. set_key (node m x)) xs) (tree_fork d m x slot)
    ∙ (in_front (set_key (node m x)) _ ∙ ap (λ ks. option_to_list (set_key (node m x)) ++ ks)
    (filter_map-append (λ x. set_key (node m x)) (tree_slots d m (child m x Left))
    (tree_slots d m (child m x Right))))

pending_below : (m : Memory) (x d : ℕ) (rest : List Subtree)
    → pending m (rest ++ below m x d) ≡ keys_below d m (child m x Left)
    ++ (keys_below d m (child m x Right) ++ pending m rest)
unfolding pending
pending_below m x d rest = pending-append m rest (below m x d)
    ∙ append_assoc (keys_below d m (child m x Left)) (keys_below d m (child m x Right)) (pending m rest)

-- a slot is visited: its key is found, and the parts below it wait
pub visited : (m : Memory) (found after ks : List ℕ) (all rest new : List Subtree) (p : Subtree)
    → all ≡ rest ++ p ∷ [] → p.slot ≢ 0 → p.depth ≢ 0 → after ≡ found ++ option_to_list (set_key (node m p.slot))
    → new ≡ rest ++ below m p.slot (p.depth - 1)
    → found ++ pending m all ≡ ks → after ++ pending m new ≡ ks
visited m found after ks all rest new p e slot deep is waits so = go p.depth refl
  where
    own : List ℕ
    own = option_to_list (set_key (node m p.slot))

    on : ℕ → Side → List ℕ
    on d side = keys_below d m (child m p.slot side)

    go : (n : ℕ) → p.depth ≡ n → after ++ pending m new ≡ ks
    go zero at = absurd (deep at)
    go (suc d) at =
        let one : p.depth - 1 ≡ d = omega (arith, at) in
        (λ i. is i ++ (ap (pending m) (waits ∙ ap (λ n. rest ++ below m p.slot n) one)
        ∙ pending_below m p.slot d rest) i)
        ∙ (append_assoc found own (on d Left ++ (on d Right ++ pending m rest))
        ∙ (ap (λ ys. found ++ ys) (ap (λ ys. own ++ ys)
        (sym (append_assoc (on d Left) (on d Right) (pending m rest)))
        ∙ sym (append_assoc own (on d Left ++ on d Right) (pending m rest)))
        ∙ (ap (λ ys. found ++ (ys ++ pending m rest)) (sym (keys_fork d m p.slot slot))
        ∙ (ap (λ n. found ++ (keys_below n m p.slot ++ pending m rest)) (sym at)
        ∙ (ap (λ ys. found ++ ys) (sym (pending_pop m all rest p e)) ∙ so)))))

-- at first the whole tree waits
pub whole : (m : Memory) (n depth : ℕ) (found : List ℕ) (all first : List Subtree) → found ≡ [] → first ≡ []
    → all ≡ first ++ record { slot = 1; depth = depth } ∷ [] → depth ≡ n → found ++ pending m all ≡ keys_below n m 1
unfolding pending
whole m n depth found all first none empty one same = rw (none, one, empty, same) refl

-- at the end nothing does
pub finished : (m : Memory) (found ks : List ℕ) (all : List Subtree) → all ≡ [] → found ++ pending m all ≡ ks
    → found ≡ ks
unfolding pending
finished m found ks all none so = sym (append-nil found) ∙ (ap (λ ps. found ++ pending m ps) (sym none) ∙ so)

-- ---- less is left

pub popped_less : (m : Memory) (all rest : List Subtree) (p : Subtree) → all ≡ rest ++ p ∷ [] → work m rest < work m all
popped_less m all rest p e = let w = work_pop m all rest p e in omega (arith, w)

pub visited_less : (m : Memory) (all rest new : List Subtree) (p : Subtree) → all ≡ rest ++ p ∷ [] → p.slot ≢ 0
    → p.depth ≢ 0 → new ≡ rest ++ below m p.slot (p.depth - 1) → work m new < work m all
unfolding work
visited_less m all rest new p e slot deep waits = go p.depth refl
  where
    go : (n : ℕ) → p.depth ≡ n → work m new < work m all
    go zero at = absurd (deep at)
    go (suc d) at =
        let one : p.depth - 1 ≡ d = omega (arith, at) in
        let old = work_pop m all rest p e ∙ ap (λ n. work m rest + (1 + 2 * length (tree_slots n m p.slot))) at in
        let fork = ap length (tree_fork d m p.slot slot) in
        let both = length-append (tree_slots d m (child m p.slot Left)) (tree_slots d m (child m p.slot Right)) in
        let next = ap (work m) (waits ∙ ap (λ n. rest ++ below m p.slot n) one)
        ∙ work-append m rest (below m p.slot d) in
        omega (arith, old, fork, both, next)
