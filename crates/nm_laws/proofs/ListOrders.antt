-- Lists by their elements: what is in a list that was joined or mapped, and pairs of an element
-- with a later one.
use Rattle.std.proofs.Common.{◌≡◌, ◌⊎◌, inl, inr, zero, suc, List, [], ◌∷◌, ◌++◌, map, refl, sym, ap, arith}
use Rattle.std.specs.Prelude.{All, AllPairs, Contains}
use Rattle.std.proofs.lemmas.List.Elements.{All-cons, All-append}
use Rattle.std.proofs.lemmas.List.Kept.{AllPairs-cons}

-- ---- elements

abbrev pub In : {X : Type 0} → List X → X → Type 0
In [] x = ⊥
In (y ∷ ys) x = (x ≡ y) ⊎ In ys x

pub contained_in : {X : Type 0} (xs : List X) (x : X) → Contains xs x → In xs x
contained_in [] x (k, below, is) = absurd (omega arith)
contained_in (y ∷ ys) x (zero, below, is) = inl (sym is)
contained_in (y ∷ ys) x (suc k, below, is) = inr (contained_in ys x (k, omega arith, is))

pub in_contained : {X : Type 0} (xs : List X) (x : X) → In xs x → Contains xs x
in_contained [] x h = absurd h
in_contained (y ∷ ys) x (inl e) = (0, omega arith, sym e)
in_contained (y ∷ ys) x (inr h) = let r = in_contained ys x h in (suc r.0, (let below = r.1 in omega arith), r.2)

pub in_left : {X : Type 0} (xs ys : List X) (x : X) → In xs x → In (xs ++ ys) x
in_left [] ys x h = absurd h
in_left (y ∷ xs) ys x (inl e) = inl e
in_left (y ∷ xs) ys x (inr h) = inr (in_left xs ys x h)

pub in_right : {X : Type 0} (xs ys : List X) (x : X) → In ys x → In (xs ++ ys) x
in_right [] ys x h = h
in_right (y ∷ xs) ys x h = inr (in_right xs ys x h)

pub in_either : {X : Type 0} (xs ys : List X) (x : X) → In (xs ++ ys) x → In xs x ⊎ In ys x
in_either [] ys x h = inr h
in_either (y ∷ xs) ys x (inl e) = inl (inl e)
in_either (y ∷ xs) ys x (inr h) = elim (in_either xs ys x h) [ inl k ↦ inl (inr k) | inr k ↦ inr k ]

pub in_map : {X Y : Type 0} (f : X → Y) (xs : List X) (x : X) → In xs x → In (map f xs) (f x)
in_map f [] x h = absurd h
in_map f (y ∷ xs) x (inl e) = inl (ap f e)
in_map f (y ∷ xs) x (inr h) = inr (in_map f xs x h)

pub in_mapped : {X Y : Type 0} (f : X → Y) (xs : List X) (y : Y) → In (map f xs) y → (x : X) × In xs x × (y ≡ f x)
in_mapped f [] y h = absurd h
in_mapped f (x ∷ xs) y (inl e) = (x, inl refl, e)
in_mapped f (x ∷ xs) y (inr h) = let r = in_mapped f xs y h in (r.0, inr r.1, r.2)

-- ---- pairs

pub all_map : {X Y : Type 0} (f : X → Y) (P : Y → Type 0) (xs : List X) → ((x : X) → P (f x)) → All P (map f xs)
all_map f P [] each = λ k d below. absurd (omega arith)
all_map f P (x ∷ xs) each = All-cons P (f x) (map f xs) (each x) (all_map f P xs each)

pairs_tail : {X : Type 0} (R : X → X → Type 0) (x : X) (xs : List X) → AllPairs R (x ∷ xs) → AllPairs R xs
pairs_tail R x xs h i j d less below = h (suc i) (suc j) d (omega arith) (omega arith)

pairs_head : {X : Type 0} (R : X → X → Type 0) (x : X) (xs : List X) → AllPairs R (x ∷ xs) → All (R x) xs
pairs_head R x xs h k d below = h 0 (suc k) d (omega arith) (omega arith)

pub pairs_append : {X : Type 0} (R : X → X → Type 0) (xs ys : List X) → AllPairs R xs → AllPairs R ys
    → All (λ x. All (R x) ys) xs → AllPairs R (xs ++ ys)
pairs_append R [] ys left right across = right
pairs_append R (x ∷ xs) ys left right across =
    AllPairs-cons R x (xs ++ ys) (All-append (R x) xs ys (pairs_head R x xs left) (across 0 x (omega arith)))
    (pairs_append R xs ys (pairs_tail R x xs left) right (λ k d below. across (suc k) d (omega arith)))

all_mapped : {X Y : Type 0} (f : X → Y) (P : Y → Type 0) (xs : List X) → All (λ x. P (f x)) xs → All P (map f xs)
all_mapped f P [] all = λ k d below. absurd (omega arith)
all_mapped f P (x ∷ xs) all = All-cons P (f x) (map f xs) (all 0 x (omega arith))
    (all_mapped f P xs (λ k d below. all (suc k) d (omega arith)))

pub pairs_map : {X Y : Type 0} (f : X → Y) (R : Y → Y → Type 0) (xs : List X) → AllPairs (λ x y. R (f x) (f y)) xs
    → AllPairs R (map f xs)
pairs_map f R [] h = λ i j d less below. absurd (omega arith)
pairs_map f R (x ∷ xs) h = AllPairs-cons R (f x) (map f xs)
    (all_mapped f (R (f x)) xs (pairs_head (λ x y. R (f x) (f y)) x xs h))
    (pairs_map f R xs (pairs_tail (λ x y. R (f x) (f y)) x xs h))
