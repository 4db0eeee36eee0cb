-- Plain maps beside plain sets: what calls leave under a key, and the values of calls.
use Rattle.std.proofs.Common.{◌≡◌, ◌⊎◌, inl, inr, ℕ, zero, suc, ◌<◌, ◌==◌, get_or, Bool, true, false, cond, List, [], ◌∷◌, ◌++◌, length, map, refl, sym, ap, subst, ◌∙◌, eq-eqb, ne_eqb, true≢false, arith}
use Rattle.std.specs.Prelude.{All, AllPairs, Contains, Option, None, Some, filter, is_none}
use Rattle.std.proofs.lemmas.Bool.{eqb-true}
use Rattle.std.proofs.lemmas.Option.{none-some}
use Rattle.nm_edge.specs.Keys.{IsKey}
use Rattle.nm_model.specs.declared.event.Op.{Op}
use Rattle.nm_model.specs.declared.event.Op.TheVariants.{Has, Insert, Delete}
use Rattle.nm_model.specs.Acts.{Act, Gives, IsAmong, Replays, changed, nothing}
use Rattle.nm_calls.specs.MapHistories.{GivesEach, IsEarlier, MapAct, PlainMap, PutsThere, found_by, is_plain, map_after, map_changed, map_left, map_then, no_map}

-- ---- lists

abbrev pub act_of : MapAct → Act
act_of x = x.act

abbrev pub In : List MapAct → MapAct → Type 0
In [] x = ⊥
In (y ∷ ys) x = (y ≡ x) ⊎ In ys x

pub in_filter : (p : MapAct → Bool) (xs : List MapAct) (x : MapAct) → In xs x → p x ≡ true → In (filter p xs) x
in_filter p [] x at passes = at
in_filter p (y ∷ ys) x (inl is) passes = subst (λ (b : Bool). In (cond b (y ∷ filter p ys) (filter p ys)) x)
    (sym (ap p is ∙ passes)) (inl is)
in_filter p (y ∷ ys) x (inr at) passes = by (p y) (in_filter p ys x at passes)
  where
    by : (b : Bool) → In (filter p ys) x → In (cond b (y ∷ filter p ys) (filter p ys)) x
    by true there = inr there
    by false there = there

pub from_filter : (p : MapAct → Bool) (xs : List MapAct) (x : MapAct) → In (filter p xs) x → In xs x × (p x ≡ true)
from_filter p [] x at = absurd at
from_filter p (y ∷ ys) x at = by (p y) refl at (from_filter p ys x)
  where
    by : (b : Bool) → p y ≡ b → In (cond b (y ∷ filter p ys) (filter p ys)) x
        → (In (filter p ys) x → In ys x × (p x ≡ true)) → In (y ∷ ys) x × (p x ≡ true)
    by true is (inl same) rest = (inl same, ap p (sym same) ∙ is)
    by true is (inr there) rest = let r = rest there in (inr r.0, r.1)
    by false is there rest = let r = rest there in (inr r.0, r.1)

pub contains_in : (xs : List MapAct) (x : MapAct) → In xs x → Contains xs x
contains_in [] x at = absurd at
contains_in (y ∷ ys) x (inl is) = (0, omega arith, is)
contains_in (y ∷ ys) x (inr at) = let r = contains_in ys x at in let below = r.1 in (suc r.0, omega (arith, below), r.2)

pub contained_in : (xs : List MapAct) (x : MapAct) → Contains xs x → In xs x
contained_in [] x c = absurd (let below = c.1 in omega (arith, below))
contained_in (y ∷ ys) x (zero, below, is) = inl is
contained_in (y ∷ ys) x (suc i, below, is) = inr (contained_in ys x (i, omega (arith, below), is))

pub in_right : (xs ys : List MapAct) (x : MapAct) → In ys x → In (xs ++ ys) x
in_right [] ys x at = at
in_right (y ∷ xs) ys x at = inr (in_right xs ys x at)

pub in_left : (xs ys : List MapAct) (x : MapAct) → In xs x → In (xs ++ ys) x
in_left [] ys x at = absurd at
in_left (y ∷ xs) ys x (inl is) = inl is
in_left (y ∷ xs) ys x (inr at) = inr (in_left xs ys x at)

pub in_parts : (xs ys : List MapAct) (x : MapAct) → In (xs ++ ys) x → In xs x ⊎ In ys x
in_parts [] ys x at = inr at
in_parts (y ∷ xs) ys x (inl is) = inl (inl is)
in_parts (y ∷ xs) ys x (inr at) = by (in_parts xs ys x at)
  where
    by : In xs x ⊎ In ys x → In (y ∷ xs) x ⊎ In ys x
    by (inl left) = inl (inr left)
    by (inr right) = inr right

pub filter_parts : (p : MapAct → Bool) (xs ys : List MapAct) → filter p (xs ++ ys) ≡ filter p xs ++ filter p ys
filter_parts p [] ys = refl
filter_parts p (x ∷ xs) ys = by (p x) (filter_parts p xs ys)
  where
    by : (b : Bool) → filter p (xs ++ ys) ≡ filter p xs ++ filter p ys
        → cond b (x ∷ filter p (xs ++ ys)) (filter p (xs ++ ys)) ≡ cond b (x ∷ filter p xs) (filter p xs) ++ filter p ys
    by true rest = ap (λ (l : List MapAct). x ∷ l) rest
    by false rest = rest

pub filter_twice : (p q : MapAct → Bool) (xs : List MapAct) → ((x : MapAct) → p x ≡ true → q x ≡ true)
    → filter p (filter q xs) ≡ filter p xs
filter_twice p q [] weaker = refl
filter_twice p q (x ∷ xs) weaker = by (q x) refl (p x) refl (filter_twice p q xs weaker)
  where
    by : (b : Bool) → q x ≡ b → (c : Bool) → p x ≡ c → filter p (filter q xs) ≡ filter p xs
        → filter p (cond b (x ∷ filter q xs) (filter q xs)) ≡ cond c (x ∷ filter p xs) (filter p xs)
    by true is c has rest = ap (λ (d : Bool). cond d (x ∷ filter p (filter q xs)) (filter p (filter q xs))) has
        ∙ ap (λ (l : List MapAct). cond c (x ∷ l) l) rest
    by false is true has rest = absurd (true≢false (sym (weaker x has) ∙ is))
    by false is false has rest = rest

pub map_filter : (p : Act → Bool) (xs : List MapAct)
    → map act_of (filter (λ (x : MapAct). p x.act) xs) ≡ filter p (map act_of xs)
map_filter p [] = refl
map_filter p (x ∷ xs) = by (p x.act) (map_filter p xs)
  where
    by : (b : Bool) → map act_of (filter (λ (y : MapAct). p y.act) xs) ≡ filter p (map act_of xs)
        → map act_of (cond b (x ∷ filter (λ (y : MapAct). p y.act) xs) (filter (λ (y : MapAct). p y.act) xs))
        ≡ cond b (x.act ∷ filter p (map act_of xs)) (filter p (map act_of xs))
    by true rest = ap (λ (l : List Act). x.act ∷ l) rest
    by false rest = rest

pub act_in : (xs : List MapAct) (x : MapAct) → In xs x → IsAmong (map act_of xs) x.act
act_in [] x at = at
act_in (y ∷ ys) x (inl is) = inl (ap act_of is)
act_in (y ∷ ys) x (inr at) = inr (act_in ys x at)

pub in_act : (xs : List MapAct) (a : Act) → IsAmong (map act_of xs) a → (x : MapAct) × In xs x × (x.act ≡ a)
in_act [] a at = absurd at
in_act (y ∷ ys) a (inl is) = (y, inl refl, is)
in_act (y ∷ ys) a (inr at) = let r = in_act ys a at in (r.0, inr r.1, r.2)

pub all_in : (P : MapAct → Type 0) (xs : List MapAct) → ((x : MapAct) → In xs x → P x) → All P xs
all_in P [] each k d below = absurd (omega (arith, below))
all_in P (x ∷ xs) each zero d below = each x (inl refl)
all_in P (x ∷ xs) each (suc k) d below = all_in P xs (λ y at. each y (inr at)) k d (omega (arith, below))

pub in_all : (P : MapAct → Type 0) (xs : List MapAct) → All P xs → (x : MapAct) → In xs x → P x
in_all P [] each x at = absurd at
in_all P (y ∷ ys) each x (inl is) = subst P is (each 0 y (omega arith))
in_all P (y ∷ ys) each x (inr at) = in_all P ys (λ k d below. each (suc k) d (omega (arith, below))) x at

-- ---- in the order of their moments

abbrev pub Sorted : List MapAct → Type 0
Sorted [] = Unit {0}
Sorted (x ∷ xs) = ((y : MapAct) → In xs y → IsEarlier x y) × Sorted xs

in_at : (xs : List MapAct) (j : ℕ) (d : MapAct) → j < length xs → In xs (get_or xs j d)
in_at [] j d below = absurd (omega (arith, below))
in_at (x ∷ xs) zero d below = inl refl
in_at (x ∷ xs) (suc j) d below = inr (in_at xs j d (omega (arith, below)))

pub all_pairs : (xs : List MapAct) → Sorted xs → AllPairs IsEarlier xs
all_pairs [] s i j d less inside = absurd (omega (arith, inside))
all_pairs (x ∷ xs) s zero zero d less inside = absurd (omega (arith, less))
all_pairs (x ∷ xs) s zero (suc j) d less inside = s.0 (get_or xs j d) (in_at xs j d (omega (arith, inside)))
all_pairs (x ∷ xs) s (suc i) zero d less inside = absurd (omega (arith, less))
all_pairs (x ∷ xs) s (suc i) (suc j) d less inside =
    all_pairs xs s.1 i j d (omega (arith, less)) (omega (arith, inside))

-- lists of which each act of the first comes before each act of the second
pub sorted_join : (xs ys : List MapAct) → Sorted xs → Sorted ys → ((x y : MapAct) → In xs x → In ys y → IsEarlier x y)
    → Sorted (xs ++ ys)
sorted_join [] ys s t before = t
sorted_join (x ∷ xs) ys s t before = (first, sorted_join xs ys s.1 t (λ z y at there. before z y (inr at) there))
  where
    either : (y : MapAct) → In xs y ⊎ In ys y → IsEarlier x y
    either y (inl at) = s.0 y at
    either y (inr at) = before x y (inl refl) at

    first : (y : MapAct) → In (xs ++ ys) y → IsEarlier x y
    first y at = either y (in_parts xs ys y at)

pub split_in : (xs : List MapAct) (x : MapAct) → In xs x → (front back : List MapAct) × (xs ≡ front ++ x ∷ back)
split_in [] x at = absurd at
split_in (y ∷ ys) x (inl is) = ([], ys, ap (λ (z : MapAct). z ∷ ys) is)
split_in (y ∷ ys) x (inr at) = let r = split_in ys x at in (y ∷ r.0, r.1, ap (λ (l : List MapAct). y ∷ l) r.2)

pub none_kept : (p : MapAct → Bool) (xs : List MapAct) → ((x : MapAct) → In xs x → p x ≡ false) → filter p xs ≡ []
none_kept p [] none' = refl
none_kept p (x ∷ xs) none' = ap (λ (b : Bool). cond b (x ∷ filter p xs) (filter p xs)) (none' x (inl refl))
    ∙ none_kept p xs (λ y at. none' y (inr at))

pub all_kept : (p : MapAct → Bool) (xs : List MapAct) → ((x : MapAct) → In xs x → p x ≡ true) → filter p xs ≡ xs
all_kept p [] each = refl
all_kept p (x ∷ xs) each = ap (λ (b : Bool). cond b (x ∷ filter p xs) (filter p xs)) (each x (inl refl))
    ∙ ap (λ (l : List MapAct). x ∷ l) (all_kept p xs (λ y at. each y (inr at)))

-- ---- what calls leave under a key

-- the act changes what is under the key: it is a put, or a true insert or delete
abbrev pub Changes : ℕ → MapAct → Type 0
Changes k x = ((is_plain x ≡ false) ⊎ (((x.act.op ≡ Insert) ⊎ (x.act.op ≡ Delete)) × (x.act.answer ≡ true)))
    × (x.act.key ≡ k)

untouched_by_call : (m : PlainMap) (k : ℕ) (op : Op) (j : ℕ) (answer : Bool) (v : ℕ)
    → ((((op ≡ Insert) ⊎ (op ≡ Delete)) × (answer ≡ true)) × (j ≡ k) → ⊥) → map_changed m op j answer v k ≡ m k
untouched_by_call m k Has j answer v none' = refl
untouched_by_call m k Insert j true v none' = ap (λ (b : Bool). cond b (Some v) (m k))
    (ne_eqb k j (λ e. none' ((inl refl, refl), sym e)))
untouched_by_call m k Insert j false v none' = refl
untouched_by_call m k Delete j true v none' = ap (λ (b : Bool). cond b None (m k))
    (ne_eqb k j (λ e. none' ((inr refl, refl), sym e)))
untouched_by_call m k Delete j false v none' = refl

untouched_by_one : (m : PlainMap) (k : ℕ) (x : MapAct) → (Changes k x → ⊥) → map_then m x k ≡ m k
untouched_by_one m k x none' = by x.left refl
  where
    by : (l : Option ℕ) → x.left ≡ l → map_left m l x.act x.value k ≡ m k
    by None is = untouched_by_call m k x.act.op x.act.key x.act.answer x.value (λ c. none' (inr c.0, c.1))
    by (Some v) is = ap (λ (b : Bool). cond b (Some v) (m k))
        (ne_eqb k x.act.key (λ e. none' (inl (ap (λ (l : Option ℕ). is_none l) is), sym e)))

abbrev pub NoneChanges : ℕ → List MapAct → Type 0
NoneChanges k xs = (x : MapAct) → In xs x → Changes k x → ⊥

pub untouched : (xs : List MapAct) (m : PlainMap) (k : ℕ) → NoneChanges k xs → map_after m xs k ≡ m k
untouched [] m k none' = refl
untouched (x ∷ xs) m k none' =
    untouched xs (map_then m x) k (λ y at. none' y (inr at)) ∙ untouched_by_one m k x (none' x (inl refl))

put_by_call : (m : PlainMap) (k : ℕ) (op : Op) (j : ℕ) (answer : Bool) (v : ℕ) → op ≡ Insert → answer ≡ true → j ≡ k
    → map_changed m op j answer v k ≡ Some v
put_by_call m k op j answer v o t e =
    subst (λ (p : Op). map_changed m p j answer v k ≡ Some v) (sym o)
    (subst (λ (b : Bool). map_changed m Insert j b v k ≡ Some v) (sym t)
    (ap (λ (b : Bool). cond b (Some v) (m k)) (eq-eqb k j (sym e))))

put_by_one : (m : PlainMap) (k : ℕ) (x : MapAct) (v : ℕ) → PutsThere x v → x.act.key ≡ k → map_then m x k ≡ Some v
put_by_one m k x v (inl (left, o, t, is)) e =
    ap (λ (l : Option ℕ). map_left m l x.act x.value k) left
    ∙ (put_by_call m k x.act.op x.act.key x.act.answer x.value o t e ∙ ap (λ (u : ℕ). Some u) is)
put_by_one m k x v (inr left) e =
    ap (λ (l : Option ℕ). map_left m l x.act x.value k) left
    ∙ ap (λ (b : Bool). cond b (Some v) (m k)) (eq-eqb k x.act.key (sym e))

taken_by_one : (m : PlainMap) (k : ℕ) (x : MapAct) → x.left ≡ None → x.act.op ≡ Delete → x.act.answer ≡ true
    → x.act.key ≡ k → map_then m x k ≡ None
taken_by_one m k x left o t e =
    ap (λ (l : Option ℕ). map_left m l x.act x.value k) left
    ∙ subst (λ (p : Op). map_changed m p x.act.key x.act.answer x.value k ≡ None) (sym o)
    (subst (λ (b : Bool). map_changed m Delete x.act.key b x.value k ≡ None) (sym t)
    (ap (λ (b : Bool). cond b None (m k)) (eq-eqb k x.act.key (sym e))))

-- the last act that puts a value under a key that no later act changes
pub put_last : (front back : List MapAct) (a : MapAct) (m : PlainMap) (k v : ℕ) → PutsThere a v → a.act.key ≡ k
    → NoneChanges k back → map_after m (front ++ a ∷ back) k ≡ Some v
put_last [] back a m k v puts e none' = untouched back (map_then m a) k none' ∙ put_by_one m k a v puts e
put_last (x ∷ front) back a m k v puts e none' = put_last front back a (map_then m x) k v puts e none'

-- what a key has after these acts: what it had, what the last one put there, or nothing after a delete
pub data Last (xs : List MapAct) (m : PlainMap) (k : ℕ) : Type 0 where
  Untouched : NoneChanges k xs → Last xs m k
  Put : (front back : List MapAct) (a : MapAct) (v : ℕ) → xs ≡ front ++ a ∷ back → PutsThere a v → a.act.key ≡ k
      → NoneChanges k back → Last xs m k
  Taken : map_after m xs k ≡ None → Last xs m k

-- what an act does to what is under a key
data Deed (x : MapAct) (k : ℕ) : Type 0 where
  Puts : (v : ℕ) → PutsThere x v → x.act.key ≡ k → Deed x k
  Takes : x.left ≡ None → x.act.op ≡ Delete → x.act.answer ≡ true → x.act.key ≡ k → Deed x k
  Leaves : (Changes k x → ⊥) → Deed x k

deed_of : (x : MapAct) (k : ℕ) → Deed x k
deed_of x k = by (x.act.key == k) refl x.left refl x.act.op refl x.act.answer refl
  where
    by : (b : Bool) → (x.act.key == k) ≡ b → (l : Option ℕ) → x.left ≡ l → (op : Op) → x.act.op ≡ op
        → (t : Bool) → x.act.answer ≡ t → Deed x k
    by false other l left op o t answer = Leaves (λ c. true≢false (sym (eq-eqb x.act.key k c.1) ∙ other))
    by true same (Some v) left op o t answer = Puts v (inr left) (eqb-true x.act.key k same)
    by true same None left Insert o true answer =
        Puts x.value (inl (left, o, answer, refl)) (eqb-true x.act.key k same)
    by true same None left Delete o true answer = Takes left o answer (eqb-true x.act.key k same)
    by true same None left op o false answer = Leaves (λ c. not c.0)
      where
        not : (is_plain x ≡ false) ⊎ (((x.act.op ≡ Insert) ⊎ (x.act.op ≡ Delete)) × (x.act.answer ≡ true)) → ⊥
        not (inl put) = true≢false (sym (ap (λ (l : Option ℕ). is_none l) left) ∙ put)
        not (inr call) = true≢false (sym call.1 ∙ answer)
    by true same None left Has o true answer = Leaves (λ c. not c.0)
      where
        is_has : (Has ≡ Insert) ⊎ (Has ≡ Delete) → ⊥
        is_has (inl e) = cc
        is_has (inr e) = cc

        not : (is_plain x ≡ false) ⊎ (((x.act.op ≡ Insert) ⊎ (x.act.op ≡ Delete)) × (x.act.answer ≡ true)) → ⊥
        not (inl put) = true≢false (sym (ap (λ (l : Option ℕ). is_none l) left) ∙ put)
        not (inr (inl e, t)) = is_has (inl (sym o ∙ e))
        not (inr (inr e, t)) = is_has (inr (sym o ∙ e))

pub last_of : (xs : List MapAct) (m : PlainMap) (k : ℕ) → Last xs m k
last_of [] m k = Untouched (λ x at. absurd at)
last_of (x ∷ xs) m k = by (last_of xs (map_then m x) k)
  where
    first : NoneChanges k xs → Deed x k → Last (x ∷ xs) m k
    first none' (Puts v puts e) = Put [] xs x v refl puts e none'
    first none' (Takes left o t e) = Taken (untouched xs (map_then m x) k none' ∙ taken_by_one m k x left o t e)
    first none' (Leaves not) = Untouched nobody
      where
        nobody : NoneChanges k (x ∷ xs)
        nobody y (inl is) c = not (subst (Changes k) (sym is) c)
        nobody y (inr at) c = none' y at c

    by : Last xs (map_then m x) k → Last (x ∷ xs) m k
    by (Untouched none') = first none' (deed_of x k)
    by (Put front back a v are puts e none') =
        Put (x ∷ front) back a v (ap (λ (l : List MapAct). x ∷ l) are) puts e none'
    by (Taken is) = Taken is

-- ---- a plain set and a plain map with its keys

abbrev pub Agree : (ℕ → Type 0) → PlainMap → Type 0
Agree S m = (k : ℕ) → IsKey k → (S k → (v : ℕ) × (m k ≡ Some v)) × ((v : ℕ) → m k ≡ Some v → S k)

pub agree_empty : Agree nothing no_map
agree_empty k is_key = (λ there. absurd there, λ v is. none-some v is)

agree_step : (S : ℕ → Type 0) (m : PlainMap) (op : Op) (j : ℕ) (answer : Bool) (v : ℕ) → Agree S m
    → Agree (changed S op j answer) (map_changed m op j answer v)
agree_step S m Has j answer v agree k is_key = agree k is_key
agree_step S m Insert j false v agree k is_key = agree k is_key
agree_step S m Delete j false v agree k is_key = agree k is_key
agree_step S m Insert j true v agree k is_key = by (k == j) refl
  where
    by : (b : Bool) → (k == j) ≡ b → (S k ⊎ (k ≡ j) → (u : ℕ) × (cond b (Some v) (m k) ≡ Some u))
        × ((u : ℕ) → cond b (Some v) (m k) ≡ Some u → S k ⊎ (k ≡ j))
    by true is = (λ there. (v, refl), λ u e. inr (eqb-true k j is))
    by false is = (there_then, λ u e. inl ((agree k is_key).1 u e))
      where
        there_then : S k ⊎ (k ≡ j) → (u : ℕ) × (m k ≡ Some u)
        there_then (inl there) = (agree k is_key).0 there
        there_then (inr same) = absurd (true≢false (sym (eq-eqb k j same) ∙ is))
agree_step S m Delete j true v agree k is_key = by (k == j) refl
  where
    by : (b : Bool) → (k == j) ≡ b → (S k × (k ≡ j → ⊥) → (u : ℕ) × (cond b None (m k) ≡ Some u))
        × ((u : ℕ) → cond b None (m k) ≡ Some u → S k × (k ≡ j → ⊥))
    by true is = (λ there. absurd (there.1 (eqb-true k j is)), λ u e. absurd (none-some u e))
    by false is = (
      λ there. (agree k is_key).0 there.0,
      λ u e.
          ((agree k is_key).1 u e, λ same. true≢false (sym (eq-eqb k j same) ∙ is)),
    )

-- a put of a key that is there
pub agree_put : (S : ℕ → Type 0) (m : PlainMap) (a : Act) (old new : ℕ) → S a.key → Agree S m
    → Agree S (map_left m (Some new) a old)
agree_put S m a old new has agree k is_key = by (k == a.key) refl
  where
    by : (b : Bool) → (k == a.key) ≡ b → (S k → (u : ℕ) × (cond b (Some new) (m k) ≡ Some u))
        × ((u : ℕ) → cond b (Some new) (m k) ≡ Some u → S k)
    by true is = (λ there. (new, refl), λ u e. subst S (sym (eqb-true k a.key is)) has)
    by false is = agree k is_key

-- ---- values for the acts of a plain set

none_of : (m : PlainMap) (k : ℕ) → ((v : ℕ) → m k ≡ Some v → ⊥) → m k ≡ None
none_of m k out = go (m k) refl
  where
    go : (o : Option ℕ) → m k ≡ o → o ≡ None
    go None is = refl
    go (Some v) is = absurd (out v is)

value_for : (S : ℕ → Type 0) (m : PlainMap) (op : Op) (j : ℕ) (answer : Bool) (put : ℕ) → Agree S m → IsKey j
    → Gives S op j answer → (v : ℕ) × (m j ≡ found_by op answer v) × (op ≡ Insert → answer ≡ true → v ≡ put)
value_for S m Has j true put agree is_key gives = let r = (agree j is_key).0 gives in (r.0, r.1, λ o t. cc)
value_for S m Has j false put agree is_key gives = (0, none_of m j (λ v is. gives ((agree j is_key).1 v is)), λ o t. cc)
value_for S m Insert j true put agree is_key gives =
    (put, none_of m j (λ v is. gives ((agree j is_key).1 v is)), λ o t. refl)
value_for S m Insert j false put agree is_key gives = let r = (agree j is_key).0 gives in
    (r.0, r.1, λ o t. absurd (true≢false (sym t)))
value_for S m Delete j true put agree is_key gives = let r = (agree j is_key).0 gives in (r.0, r.1, λ o t. cc)
value_for S m Delete j false put agree is_key gives =
    (0, none_of m j (λ v is. gives ((agree j is_key).1 v is)), λ o t. cc)

-- the acts of a plain set with values, of which those of the inserts are given. After them the map has
-- the keys of the set
pub record Valued (m : PlainMap) (acts : List Act) (last : ℕ → Type 0) (Good : Act → ℕ → Type 0) : Type 0 where
  pub xs : List MapAct
  pub are : map act_of xs ≡ acts
  pub plain : (x : MapAct) → In xs x → x.left ≡ None
  pub gives : GivesEach m xs
  pub good : (x : MapAct) → In xs x → x.act.op ≡ Insert → x.act.answer ≡ true → Good x.act x.value
  pub agree : Agree last (map_after m xs)

pub valued : (Good : Act → ℕ → Type 0) (acts : List Act) (S last : ℕ → Type 0) (m : PlainMap) → Agree S m
    → Replays S acts last → ((a : Act) → IsAmong acts a → (v : ℕ) × Good a v) → Valued m acts last Good
valued Good [] S last m agree r puts = record {
  xs = [];
  are = refl;
  plain = λ x at. absurd at;
  gives = tt;
  good = λ x at. absurd at;
  agree = λ k is_key. (
    λ there. (agree k is_key).0 ((r k is_key).1 there),
    λ v is. (r k is_key).0
        ((agree k is_key).1 v is),
  );
}
valued Good (a ∷ acts) S last m agree r puts =
    let p = puts a (inl refl) in
    let v = value_for S m a.op a.key a.answer p.0 agree r.0 r.1 in
    with_rest p v (valued Good acts (changed S a.op a.key a.answer) last (map_changed m a.op a.key a.answer v.0)
    (agree_step S m a.op a.key a.answer v.0 agree) r.2 (λ b among. puts b (inr among)))
  where
    with_rest : (p : (v : ℕ) × Good a v) → (v : (u : ℕ) × (m a.key ≡ found_by a.op a.answer u)
        × (a.op ≡ Insert → a.answer ≡ true → u ≡ p.0)) → Valued (map_changed m a.op a.key a.answer v.0) acts last Good
        → Valued m (a ∷ acts) last Good
    with_rest p v rest = record {
      xs = record { act = a; value = v.0; left = None } ∷ rest.xs;
      are = ap (λ (l : List Act). a ∷ l) rest.are;
      plain = each_plain;
      gives = (v.1, rest.gives);
      good = each;
      agree = rest.agree;
    }
      where
        each_plain : (x : MapAct) → In (record { act = a; value = v.0; left = None } ∷ rest.xs) x → x.left ≡ None
        each_plain x (inl is) = ap (λ (y : MapAct). y.left) (sym is)
        each_plain x (inr at) = rest.plain x at

        each : (x : MapAct) → In (record { act = a; value = v.0; left = None } ∷ rest.xs) x → x.act.op ≡ Insert
            → x.act.answer ≡ true → Good x.act x.value
        each x (inl is) = subst (λ (y : MapAct). y.act.op ≡ Insert → y.act.answer ≡ true → Good y.act y.value) is
            (λ o t. subst (Good a) (sym (v.2 o t)) p.1)
        each x (inr at) = rest.good x at

-- what the map has under the key of an act right before it
pub gives_at : (front back : List MapAct) (x : MapAct) (m : PlainMap) → GivesEach m (front ++ x ∷ back)
    → map_after m front x.act.key ≡ found_by x.act.op x.act.answer x.value
gives_at [] back x m g = g.0
gives_at (y ∷ front) back x m g = gives_at front back x (map_then m y) g.1

-- each act of a plain set is for a key
pub keys_of_acts : (acts : List Act) (S last : ℕ → Type 0) → Replays S acts last → (a : Act) → IsAmong acts a
    → IsKey a.key
keys_of_acts [] S last r a among = absurd among
keys_of_acts (b ∷ acts) S last r a (inl is) = subst (λ (c : Act). IsKey c.key) is r.0
keys_of_acts (b ∷ acts) S last r a (inr among) = keys_of_acts acts (changed S b.op b.key b.answer) last r.2 a among

-- ---- lists joined

pub gives_join : (xs ys : List MapAct) (m : PlainMap) → GivesEach m xs → GivesEach (map_after m xs) ys
    → GivesEach m (xs ++ ys)
gives_join [] ys m g h = h
gives_join (x ∷ xs) ys m g h = (g.0, gives_join xs ys (map_then m x) g.1 h)

pub after_join : (xs ys : List MapAct) (m : PlainMap) → map_after m (xs ++ ys) ≡ map_after (map_after m xs) ys
after_join [] ys m = refl
after_join (x ∷ xs) ys m = after_join xs ys (map_then m x)
