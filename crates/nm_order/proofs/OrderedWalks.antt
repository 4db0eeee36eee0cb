-- What the walks of a search keep, however the tree is changed: each slot that they came to is
-- known, its key is as it was read, it was led to in order, and a search that goes on from it comes
-- to its place.
use Rattle.std.proofs.Common.{◌≡◌, ◌≢◌, ℕ, inl, inr, ◌⊎◌, ◌==◌, Bool, true, false, cond, ◌&&◌, ◌||◌, List, [], ◌∷◌, ◌++◌, map, refl, sym, ap, subst, ◌∙◌, true≢false}
use Rattle.std.specs.Prelude.{Some, is_none, slice_get}
use Rattle.std.specs.List.{list_any}
use Rattle.std.proofs.lemmas.Bool.{cond_both, eqb-true, and_parts, or_cases, eq-eqb}
use Rattle.std.proofs.lemmas.Option.{none-some, same_Some}
use Rattle.nm_edge.specs.declared.edge.Side.{Side}
use Rattle.nm_edge.specs.declared.edge.Side.TheVariants.{Left, Right}
use Rattle.nm_model.specs.declared.arrivals.Arrival.{Arrival}
use Rattle.nm_model.specs.Searches.{side_of, is_side, turns, is_by, goes_on, is_first, new_arrival, with_arrival, keyed, ended, walk_edge}
use Rattle.nm_model.proofs.Lists.{any_at, mapped_at, map_at, more_at, get_stays}
use Rattle.nm_laws.proofs.Trees.{Children}
use Rattle.nm_laws.proofs.WalksOfLogs.{turned}
use Rattle.nm_order.proofs.Searching.{Keys}
use Rattle.nm_order.proofs.OrderedTrees.{Onward}

-- ---- sides

pub is_side-true : (d e : Side) → is_side d e ≡ true → d ≡ e
is_side-true Left Left h = refl
is_side-true Left Right h = absurd (true≢false (sym h))
is_side-true Right Left h = absurd (true≢false (sym h))
is_side-true Right Right h = refl

-- ---- the law

-- an arrival comes from the left edge of slot 2, or from a slot to which the walk had come, and
-- whose key turned it there
pub data CameFrom (k : ℕ) (ws : List Arrival) (a : Arrival) : Type 0 where
  FromRoot : a.parent ≡ 2 → a.side ≡ Left → CameFrom k ws a
  FromSlot : (i : ℕ) (b : Arrival) → slice_get ws i ≡ Some b → b.slot ≡ a.parent → turns k b.key a.side ≡ true
      → CameFrom k ws a

-- of the walks for k of a worker that knows these slots. In a radix tree it says nothing of where a
-- search goes on, since a link may come between a node and its child
pub record WalkLaw (shape : Bool) (c : Children) (v : Keys) (known : ℕ → Bool) (k : ℕ) (ws : List Arrival) : Type
    0 where
  pub is_known : (i : ℕ) (a : Arrival) → slice_get ws i ≡ Some a → known a.slot ≡ true
  pub is_keyed : (i : ℕ) (a : Arrival) (n : ℕ) → slice_get ws i ≡ Some a → a.key ≡ Some n → v a.slot ≡ n
  pub came : (i : ℕ) (a : Arrival) → slice_get ws i ≡ Some a → CameFrom k ws a
  pub onward : shape ≡ false → (i : ℕ) (a : Arrival) → slice_get ws i ≡ Some a → Onward c v k a.slot

pub no_walks : (shape : Bool) (c : Children) (v : Keys) (known : ℕ → Bool) (k : ℕ) → WalkLaw shape c v known k []
no_walks shape c v known k = record {
  is_known = λ i a h. absurd (none-some a h);
  is_keyed = λ i a n h. absurd (none-some a h);
  came = λ i a h. absurd (none-some a h);
  onward = λ search i a h. absurd (none-some a h);
}

-- the tree is changed; what is known has grown
pub walks_last : (shape : Bool) (c c' : Children) (v v' : Keys) (known known' : ℕ → Bool) (k : ℕ) (ws : List Arrival)
    → ((x : ℕ) → known x ≡ true → known' x ≡ true) → ((x : ℕ) → known x ≡ true → v' x ≡ v x)
    → (shape ≡ false → (x : ℕ) → known x ≡ true → Onward c v k x → Onward c' v' k x) → WalkLaw shape c v known k ws
    → WalkLaw shape c' v' known' k ws
walks_last shape c c' v v' known known' k ws more keys on law = record {
  is_known = λ i a h. more a.slot (law.is_known i a h);
  is_keyed = λ i a n h is. keys a.slot (law.is_known i a h) ∙ law.is_keyed i a n h is;
  came = law.came;
  onward = λ search i a h. on search a.slot (law.is_known i a h) (law.onward search i a h);
}

-- ---- what a look adds

-- arrivals whose slot, parent and side stay, and whose key stays once it is there
record Follows (f : Arrival → Arrival) : Type 0 where
  slot : (a : Arrival) → (f a).slot ≡ a.slot
  parent : (a : Arrival) → (f a).parent ≡ a.parent
  side : (a : Arrival) → (f a).side ≡ a.side
  key : (a : Arrival) (n : ℕ) → a.key ≡ Some n → (f a).key ≡ Some n

followed : (shape : Bool) (c : Children) (v : Keys) (known : ℕ → Bool) (k : ℕ) (ws : List Arrival)
    (f : Arrival → Arrival) → Follows f
    → ((i : ℕ) (a : Arrival) (n : ℕ) → slice_get ws i ≡ Some a → (f a).key ≡ Some n → v a.slot ≡ n)
    → WalkLaw shape c v known k ws → WalkLaw shape c v known k (map f ws)
followed shape c v known k ws f same keys law = record {
  is_known = λ i b h. let a = mapped_at f ws i b h in rw (a.2, same.slot a.0) (law.is_known i a.0 a.1);
  is_keyed = λ i b n h is. let a = mapped_at f ws i b h in
      rw (a.2, same.slot a.0) (keys i a.0 n a.1 (sym (ap (λ (y : Arrival). y.key) a.2) ∙ is));
  came = λ i b h. let a = mapped_at f ws i b h in rw a.2 (moved a.0 (law.came i a.0 a.1));
  onward = λ search i b h. let a = mapped_at f ws i b h in rw (a.2, same.slot a.0) (law.onward search i a.0 a.1);
}
  where
    moved : (a : Arrival) → CameFrom k ws a → CameFrom k (map f ws) (f a)
    moved a (FromRoot parent side) = FromRoot (same.parent a ∙ parent) (same.side a ∙ side)
    moved a (FromSlot i b at slot turn) =
        let n = turned k b.key a.side turn in
        FromSlot i (f b) (map_at f ws i b at) (same.slot b ∙ (slot ∙ sym (same.parent a)))
        (ap (λ o. turns k o (f a).side) (same.key b n.0 n.1)
        ∙ (ap (λ o. turns k o (f a).side) (sym n.1) ∙ (ap (turns k b.key) (same.side a) ∙ turn)))

-- a slot's key is looked at
pub key_looked : (shape : Bool) (c : Children) (v : Keys) (known : ℕ → Bool) (k : ℕ) (ws : List Arrival) (x : ℕ)
    → WalkLaw shape c v known k ws → WalkLaw shape c v known k (map (keyed x (v x)) ws)
key_looked shape c v known k ws x law = followed shape c v known k ws (keyed x (v x)) (record {
  slot = λ a. by a (λ b. b.slot ≡ a.slot) refl refl;
  parent = λ a. by a (λ b. b.parent ≡ a.parent) refl refl;
  side = λ a. by a (λ b. b.side ≡ a.side) refl refl;
  key = kept;
}) keys law
  where
    by : (a : Arrival) (P : Arrival → Type 0) → P (record a { key = Some (v x) }) → P a → P (keyed x (v x) a)
    by a P new old = cond_both ((a.slot == x) && is_none a.key) (record a { key = Some (v x) }) a P (λ _. new)
        (λ _. old)

    kept : (a : Arrival) (n : ℕ) → a.key ≡ Some n → (keyed x (v x) a).key ≡ Some n
    kept a n is = cond_both ((a.slot == x) && is_none a.key) (record a { key = Some (v x) }) a (λ b. b.key ≡ Some n)
        (λ t. absurd (true≢false (sym (and_parts (a.slot == x) (is_none a.key) t).1 ∙ ap is_none is))) (λ _. is)

    keys : (i : ℕ) (a : Arrival) (n : ℕ) → slice_get ws i ≡ Some a → (keyed x (v x) a).key ≡ Some n → v a.slot ≡ n
    keys i a n at is = go ((a.slot == x) && is_none a.key) refl is
      where
        go : (b : Bool) → ((a.slot == x) && is_none a.key) ≡ b
            → (cond b (record a { key = Some (v x) }) a).key ≡ Some n → v a.slot ≡ n
        go true t is = ap v (eqb-true a.slot x (and_parts (a.slot == x) (is_none a.key) t).0) ∙ same_Some (v x) n is
        go false t is = law.is_keyed i a n at is

-- walks end
ended_law : (shape : Bool) (c : Children) (v : Keys) (known : ℕ → Bool) (k : ℕ) (ws : List Arrival) (x : ℕ)
    (d : Side) → WalkLaw shape c v known k ws → WalkLaw shape c v known k (map (ended k x d) ws)
ended_law shape c v known k ws x d law = followed shape c v known k ws (ended k x d) (record {
  slot = λ a. by a (λ b. b.slot ≡ a.slot) refl refl;
  parent = λ a. by a (λ b. b.parent ≡ a.parent) refl refl;
  side = λ a. by a (λ b. b.side ≡ a.side) refl refl;
  key = λ a n is. by a (λ b. b.key ≡ Some n) is is;
}) (λ i a n at is. law.is_keyed i a n at (by a (λ b. b.key ≡ Some n → a.key ≡ Some n) (λ h. h) (λ h. h) is)) law
  where
    by : (a : Arrival) (P : Arrival → Type 0) → P (record a { ended = true }) → P a → P (ended k x d a)
    by a P new old = cond_both (goes_on k x d a) (record a { ended = true }) a P (λ _. new) (λ _. old)

-- one more arrival
arrived : (shape : Bool) (c : Children) (v : Keys) (known : ℕ → Bool) (k : ℕ) (ws : List Arrival) (x parent : ℕ)
    (d : Side) → known x ≡ true → (shape ≡ false → Onward c v k x) → CameFrom k ws (new_arrival x parent d)
    → WalkLaw shape c v known k ws → WalkLaw shape c v known k (with_arrival ws x parent d)
arrived shape c v known k ws x parent d there on from law = cond_both (list_any (is_by x parent d) ws) ws
    (ws ++ new_arrival x parent d ∷ []) (WalkLaw shape c v known k) (λ _. law) (λ _. record {
      is_known = λ i a h. each (λ b. known b.slot ≡ true) law.is_known there i a h;
      is_keyed = λ i a n h is. each (λ b. b.key ≡ Some n → v b.slot ≡ n) (λ i b at. law.is_keyed i b n at)
          (λ z. absurd (none-some n z)) i a h is;
      came = λ i a h. more a (each (CameFrom k ws) law.came from i a h);
      onward = λ search i a h. each (λ b. Onward c v k b.slot) (law.onward search) (on search) i a h;
    })
  where
    each : (P : Arrival → Type 0) → ((i : ℕ) (a : Arrival) → slice_get ws i ≡ Some a → P a)
        → P (new_arrival x parent d) → (i : ℕ) (a : Arrival) → slice_get (ws ++ new_arrival x parent d ∷ []) i ≡ Some a
        → P a
    each P old new i a h = elim (more_at ws (new_arrival x parent d) i a h) [
      | inl at ↦ old i a at
      | inr is ↦ subst P (sym is) new
    ]

    more : (a : Arrival) → CameFrom k ws a → CameFrom k (ws ++ new_arrival x parent d ∷ []) a
    more a (FromRoot p s) = FromRoot p s
    more a (FromSlot i b at slot turn) = FromSlot i b (get_stays ws (new_arrival x parent d ∷ []) i b at) slot turn

-- an edge is looked at. Where a walk goes on by it to a slot, that slot is known from then on; the
-- root's own search comes to slot 2, and goes on to its left
pub edge_looked : (shape : Bool) (c : Children) (v : Keys) (known : ℕ → Bool) (k : ℕ) (ws : List Arrival) (x : ℕ)
    (d : Side) → ((is_first x d ≡ true) ⊎ (list_any (goes_on k x d) ws ≡ true) → c x d ≢ 0 → known (c x d) ≡ true)
    → (shape ≡ false → Onward c v k (c 2 Left)) → WalkLaw shape c v known k ws
    → WalkLaw shape c v known k (walk_edge k ws x d (c x d))
edge_looked shape c v known k ws x d meets first law = cond_both (c x d == 0) (map (ended k x d) ws)
    (cond (is_first x d || list_any (goes_on k x d) ws) (with_arrival ws (c x d) x d) ws) (WalkLaw shape c v known k)
    (λ _. ended_law shape c v known k ws x d law)
    (λ some. cond_both (is_first x d || list_any (goes_on k x d) ws) (with_arrival ws (c x d) x d) ws
    (WalkLaw shape c v known k)
    (λ goes. comes (λ z. true≢false (sym (eq-eqb (c x d) 0 z) ∙ some))
    (or_cases (is_first x d) (list_any (goes_on k x d) ws) goes))
    (λ _. law))
  where
    comes : c x d ≢ 0 → (is_first x d ≡ true) ⊎ (list_any (goes_on k x d) ws ≡ true)
        → WalkLaw shape c v known k (with_arrival ws (c x d) x d)
    comes some (inl root) =
        let parts = and_parts (x == 2) (is_side d Left) root in
        let slot : x ≡ 2 = eqb-true x 2 parts.0 in
        let side : d ≡ Left = is_side-true d Left parts.1 in
        arrived shape c v known k ws (c x d) x d (meets (inl root) some) (λ search. rw (slot, side) (first search))
        (FromRoot slot side) law
    comes some (inr from) =
        let b = any_at (goes_on k x d) ws from in
        let parts = and_parts (b.1.slot == x) (turns k b.1.key d) b.3 in
        let slot : b.1.slot ≡ x = eqb-true b.1.slot x parts.0 in
        let n = turned k b.1.key d parts.1 in
        let key : v x ≡ n.0 = ap v (sym slot) ∙ law.is_keyed b.0 b.1 n.0 b.2 n.1 in
        let turn : side_of k (v x) ≡ d = ap (side_of k) key ∙ n.2 in
        let on : (shape ≡ false → Onward c v k x) = λ search. subst (Onward c v k) slot
        (law.onward search b.0 b.1 b.2) in
        arrived shape c v known k ws (c x d) x d (meets (inr from) some)
        (λ search q r f goes there same. on search (d ∷ q) r f (turn, goes) there same)
        (FromSlot b.0 b.1 b.2 slot parts.1) law
