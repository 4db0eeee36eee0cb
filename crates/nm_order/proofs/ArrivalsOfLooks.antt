-- What one entry of a log does to a list of arrivals: those that were there stay, and a look that
-- goes on with a walk leaves an arrival of it.
use Rattle.std.proofs.Common.{◌≡◌, ◌≢◌, ℕ, ◌==◌, Bool, true, false, cond, ◌&&◌, ◌||◌, List, [], ◌∷◌, ◌++◌, map, refl, ap, ◌∙◌}
use Rattle.std.specs.Prelude.{Option, Some, None, is_none, slice_get, Contains}
use Rattle.std.specs.List.{list_any}
use Rattle.std.proofs.lemmas.Bool.{cond-true, cond-false, eqb-true, eq-eqb, ne_eqb, and_parts, and_from}
use Rattle.std.proofs.lemmas.Option.{slice_get-get_or, slice_get_within, get_or_from_slice_get}
use Rattle.std.proofs.lemmas.List.Elements.{Contains-push}
use Rattle.std.proofs.lemmas.List.Folds.{list_any_at}
use Rattle.nm_edge.specs.declared.edge.Side.{Side}
use Rattle.nm_edge.specs.declared.edge.Side.TheVariants.{Left, Right}
use Rattle.nm_model.specs.declared.event.Op.TheVariants.{Has}
use Rattle.nm_model.specs.declared.event.Event.TheVariants.{Look}
use Rattle.nm_model.specs.declared.arrivals.Arrival.{Arrival}
use Rattle.nm_model.specs.Searches.{Search, side_of, is_side, turns, is_by, goes_on, is_first, new_arrival, with_arrival, keyed, ended, walk_edge, walked, searched}
use Rattle.nm_model.specs.Walks.{Entry, GrowsTo}
use Rattle.nm_model.proofs.Lists.{any_at, map_at}
use Rattle.nm_laws.proofs.SearchesGrow.{only_grow}
use Rattle.nm_order.specs.WalksToArrivals.{HasArrival}
use Rattle.nm_order.proofs.OrderedWalks.{is_side-true}

-- ---- elements

at_place : {X : Type 0} (xs : List X) (x : X) → Contains xs x → (i : ℕ) × (slice_get xs i ≡ Some x)
at_place xs x there = (there.0, slice_get-get_or xs there.0 x there.1 ∙ ap (λ y. Some y) there.2)

pub contained : {X : Type 0} (xs : List X) (x : X) (i : ℕ) → slice_get xs i ≡ Some x → Contains xs x
contained xs x i at = (i, slice_get_within xs i x at, get_or_from_slice_get xs i x x at)

mapped_there : {X : Type 0} (f : X → X) (xs : List X) (x : X) → Contains xs x → Contains (map f xs) (f x)
mapped_there f xs x there = let at = at_place xs x there in contained (map f xs) (f x) at.0 (map_at f xs at.0 x at.1)

pub any_there : {X : Type 0} (f : X → Bool) (xs : List X) (x : X) → Contains xs x → f x ≡ true → list_any f xs ≡ true
any_there f xs x there is = list_any_at f xs there.0 x there.1 (ap f there.2 ∙ is)

pub same_side : (d : Side) → is_side d d ≡ true
same_side Left = refl
same_side Right = refl

-- ---- arrivals stay

-- how an entry adds to the arrivals of walks for k
abbrev pub walked_by : ℕ → List Arrival → Entry → List Arrival
walked_by k ws (Look slot field, r) = walked k ws slot field r
walked_by k ws _ = ws

same_arrival : (a : Arrival) → GrowsTo a a
same_arrival a = record { slot = refl; parent = refl; side = refl; key = λ v is. is; ended = λ is. is }

pub grows_by : (k : ℕ) (ws : List Arrival) (e : Entry) (a : Arrival) → Contains ws a
    → (b : Arrival) × Contains (walked_by k ws e) b × GrowsTo a b
unfolding searched
grows_by k ws (Look slot field, r) a there =
    let s : Search = record {
      call = Some (record { op = Has; key = k });
      linked = false;
      swapped = false;
      flagged =
          None;
      cut = false;
      walks = ws;
      later = [];
    } in
    (only_grow s (Look slot field) r refl).walks a there
grows_by k ws e a there = (a, there, same_arrival a)

-- an arrival is there still, and what holds of it if that is kept as arrivals grow
pub still_has : (k : ℕ) (ws : List Arrival) (e : Entry) {slot parent : ℕ} {side : Side} (P : Arrival → Type 0)
    → ((a b : Arrival) → GrowsTo a b → P a → P b)
    → HasArrival ws slot parent side P → HasArrival (walked_by k ws e) slot parent side P
still_has k ws e P keeps h =
    let grown = grows_by k ws e h.arrival h.there in
    record {
      arrival = grown.0;
      there = grown.1;
      at_slot = grown.2.slot ∙ h.at_slot;
      by_parent = grown.2.parent
          ∙ h.by_parent;
      on_side = grown.2.side ∙ h.on_side;
      holds = keeps h.arrival grown.0 grown.2 h.holds;
    }

-- ---- a look at a key

-- the arrival at that slot has that key then, if it has no other
record IsKeyed (v : ℕ) (a b : Arrival) : Type 0 where
  slot : b.slot ≡ a.slot
  parent : b.parent ≡ a.parent
  side : b.side ≡ a.side
  key : b.key ≡ Some v

keyed_is : (slot v : ℕ) (a : Arrival) → a.slot ≡ slot → ((n : ℕ) → a.key ≡ Some n → n ≡ v)
    → IsKeyed v a (keyed slot v a)
keyed_is slot v a at agrees = by a.key refl
  where
    by : (o : Option ℕ) → a.key ≡ o → IsKeyed v a (keyed slot v a)
    by None is = rw (cond-true ((a.slot == slot) && is_none a.key) (record a { key = Some v }) a
        (and_from (a.slot == slot) (is_none a.key) (eq-eqb a.slot slot at) (ap is_none is)))
        (record { slot = refl; parent = refl; side = refl; key = refl })
    by (Some n) is = rw (cond-false ((a.slot == slot) && is_none a.key) (record a { key = Some v }) a
        (ap (λ (b : Bool). b && is_none a.key) (eq-eqb a.slot slot at) ∙ ap is_none is))
        (record { slot = refl; parent = refl; side = refl; key = is ∙ ap (λ (x : ℕ). Some x) (agrees n is) })

pub key_read : (ws : List Arrival) {slot parent : ℕ} {side : Side} (v : ℕ)
    → ((a : Arrival) → Contains ws a → a.slot ≡ slot → (n : ℕ) → a.key ≡ Some n → n ≡ v)
    → HasArrival ws slot parent side (λ a. Unit {0})
    → HasArrival (map (keyed slot v) ws) slot parent side (λ a. a.key ≡ Some v)
key_read ws {slot = slot} v agrees h =
    let k = keyed_is slot v h.arrival h.at_slot (agrees h.arrival h.there h.at_slot) in
    record {
      arrival = keyed slot v h.arrival;
      there = mapped_there (keyed slot v) ws h.arrival h.there;
      at_slot =
          k.slot ∙ h.at_slot;
      by_parent = k.parent ∙ h.by_parent;
      on_side = k.side ∙ h.on_side;
      holds = k.key;
    }

-- ---- a look at an edge

going : (k v : ℕ) {slot parent : ℕ} {side : Side} (ws : List Arrival)
    (h : HasArrival ws slot parent side (λ a. a.key ≡ Some v)) → goes_on k slot (side_of k v) h.arrival ≡ true
going k v {slot = slot} ws h = and_from (h.arrival.slot == slot) (turns k h.arrival.key (side_of k v))
    (eq-eqb h.arrival.slot slot h.at_slot) (ap (λ o. turns k o (side_of k v)) h.holds ∙ same_side (side_of k v))

-- a null edge on the key's side
pub end_read : (k v : ℕ) (ws : List Arrival) {slot parent : ℕ} {side : Side} (child : ℕ) → child ≡ 0
    → HasArrival ws slot parent side (λ a. a.key ≡ Some v)
    → HasArrival (walk_edge k ws slot (side_of k v) child) slot parent side (λ a. (a.key ≡ Some v) × (a.ended ≡ true))
end_read k v ws {slot = slot} {parent = parent} {side = side} child null h = rw (eq-eqb child 0 null) (record {
  arrival = ended k slot (side_of k v) h.arrival;
  there = mapped_there (ended k slot (side_of k v)) ws h.arrival h.there;
  at_slot = ap (λ (a : Arrival). a.slot) is ∙ h.at_slot;
  by_parent = ap (λ (a : Arrival). a.parent) is ∙ h.by_parent;
  on_side = ap (λ (a : Arrival). a.side) is ∙ h.on_side;
  holds = (ap (λ (a : Arrival). a.key) is ∙ h.holds, ap (λ (a : Arrival). a.ended) is);
})
  where
    is : ended k slot (side_of k v) h.arrival ≡ record h.arrival { ended = true }
    is = cond-true (goes_on k slot (side_of k v) h.arrival) (record h.arrival { ended = true }) h.arrival
        (going k v ws h)

-- the arrival by an edge is there once it has been entered
entered : (ws : List Arrival) (slot parent : ℕ) (side : Side)
    → HasArrival (with_arrival ws slot parent side) slot parent side (λ a. Unit {0})
entered ws slot parent side = by (list_any (is_by slot parent side) ws) refl
  where
    by : (b : Bool) → list_any (is_by slot parent side) ws ≡ b
        → HasArrival (cond b ws (ws ++ new_arrival slot parent side ∷ [])) slot parent side (λ a. Unit {0})
    by true is =
        let a = any_at (is_by slot parent side) ws is in
        let parts = and_parts (a.1.slot == slot) ((a.1.parent == parent) && is_side a.1.side side) a.3 in
        let rest = and_parts (a.1.parent == parent) (is_side a.1.side side) parts.1 in
        record {
          arrival = a.1;
          there = contained ws a.1 a.0 a.2;
          at_slot = eqb-true a.1.slot slot parts.0;
          by_parent = eqb-true a.1.parent parent rest.0;
          on_side = is_side-true a.1.side side rest.1;
          holds = tt;
        }
    by false is = record {
      arrival = new_arrival slot parent side;
      there = Contains-push ws
          (new_arrival slot parent side);
      at_slot = refl;
      by_parent = refl;
      on_side = refl;
      holds = tt;
    }

edge_entered : (k : ℕ) (ws : List Arrival) (slot : ℕ) (side : Side) (child : ℕ) → child ≢ 0
    → (is_first slot side || list_any (goes_on k slot side) ws) ≡ true
    → HasArrival (walk_edge k ws slot side child) child slot side (λ a. Unit {0})
edge_entered k ws slot side child there goes = rw (ne_eqb child 0 there, goes) (entered ws child slot side)

pub first_read : (k : ℕ) (ws : List Arrival) (child : ℕ) → child ≢ 0
    → HasArrival (walk_edge k ws 2 Left child) child 2 Left (λ a. Unit {0})
first_read k ws child there = edge_entered k ws 2 Left child there refl

pub next_read : (k v : ℕ) (ws : List Arrival) {slot parent : ℕ} {side : Side} (child : ℕ) → child ≢ 0
    → HasArrival ws slot parent side (λ a. a.key ≡ Some v)
    → HasArrival (walk_edge k ws slot (side_of k v) child) child slot (side_of k v) (λ a. Unit {0})
next_read k v ws {slot = slot} child there h = edge_entered k ws slot (side_of k v) child there
    (either (is_first slot (side_of k v)) (any_there (goes_on k slot (side_of k v)) ws h.arrival h.there
    (going k v ws h)))
  where
    either : (b : Bool) {c : Bool} → c ≡ true → (b || c) ≡ true
    either true is = refl
    either false is = is
