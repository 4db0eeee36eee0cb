-- While a pin stands, what its search knows only grows.
use Rattle.std.proofs.Common.{◌≡◌, ℕ, zero, suc, ◌<◌, ◌==◌, true, false, cond, ◌&&◌, ◌||◌, List, [], ◌∷◌, ◌++◌, map, length, get_or, true≢false, refl, sym, arith}
use Rattle.std.specs.Prelude.{Option, Some, None, is_none, Contains}
use Rattle.std.specs.List.{list_any}
use Rattle.std.proofs.lemmas.Bool.{cond_both, and_parts, or_left}
use Rattle.std.proofs.lemmas.Option.{none-some}
use Rattle.nm_edge.specs.declared.edge.Side.{Side}
use Rattle.nm_edge.specs.declared.node.NodeId.{NodeId}
use Rattle.nm_model.specs.declared.event.Field.{Field}
use Rattle.nm_model.specs.declared.event.Field.TheVariants.{Key, Edge as EdgeOn}
use Rattle.nm_model.specs.declared.event.Event.{Event}
use Rattle.nm_model.specs.declared.event.Event.TheVariants.{Sight, SightFor, Leave, LeaveWith, Look, Link, Flag, Splice, Swap}
use Rattle.nm_model.specs.declared.reply.Reply.{Reply}
use Rattle.nm_model.specs.declared.reply.Reply.TheVariants.{Pinned, Departed, KeyIs, EdgeIs, Linked, Flagged, Cut}
use Rattle.nm_model.specs.declared.arrivals.Call.{Call}
use Rattle.nm_model.specs.declared.arrivals.Arrival.{Arrival}
use Rattle.nm_model.specs.Searches.{Search, is_by, goes_on, is_first, new_arrival, with_arrival, keyed, ended, walk_edge, walked, is_flagged_in, look_for, searched, idle}
use Rattle.nm_model.specs.Walks.{GrowsTo, SearchGrows, SearchesOnlyGrow, begins_anew}

-- ---- lists of arrivals

-- each arrival of the first list has grown to the one at its place in the second
abbrev Grown : List Arrival → List Arrival → Type 0
Grown [] bs = Unit {0}
Grown (a ∷ xs) [] = ⊥
Grown (a ∷ xs) (b ∷ bs) = GrowsTo a b × Grown xs bs

-- an arrival has grown to itself
pub same_arrival : (a : Arrival) → GrowsTo a a
same_arrival a = record { slot = refl; parent = refl; side = refl; key = λ v is. is; ended = λ is. is }

same_arrivals : (xs more : List Arrival) → Grown xs (xs ++ more)
same_arrivals [] more = tt
same_arrivals (a ∷ xs) more = (same_arrival a, same_arrivals xs more)

unchanged : (xs : List Arrival) → Grown xs xs
unchanged [] = tt
unchanged (a ∷ xs) = (same_arrival a, unchanged xs)

mapped : (f : Arrival → Arrival) → ((a : Arrival) → GrowsTo a (f a)) → (xs : List Arrival) → Grown xs (map f xs)
mapped f grows [] = tt
mapped f grows (a ∷ xs) = (grows a, mapped f grows xs)

keyed_grows : (slot v : ℕ) (a : Arrival) → GrowsTo a (keyed slot v a)
keyed_grows slot v a = cond_both ((a.slot == slot) && is_none a.key) (record a { key = Some v }) a (GrowsTo a)
    (λ both. record {
      slot = refl;
      parent = refl;
      side = refl;
      key = λ u is. absurd
          (has_none a.key (and_parts (a.slot == slot) (is_none a.key) both).1 u is);
      ended = λ is. is;
    })
    (λ _. same_arrival a)
  where
    has_none : (o : Option ℕ) → is_none o ≡ true → (u : ℕ) → o ≡ Some u → ⊥
    has_none None none u is = none-some u is
    has_none (Some n) none u is = true≢false (sym none)

ended_grows : (k slot : ℕ) (side : Side) (a : Arrival) → GrowsTo a (ended k slot side a)
ended_grows k slot side a = cond_both (goes_on k slot side a) (record a { ended = true }) a (GrowsTo a)
    (λ _. record { slot = refl; parent = refl; side = refl; key = λ u is. is; ended = λ is. refl })
    (λ _. same_arrival a)

entered : (ws : List Arrival) (slot parent : ℕ) (side : Side) → Grown ws (with_arrival ws slot parent side)
entered ws slot parent side = cond_both (list_any (is_by slot parent side) ws) ws
    (ws ++ new_arrival slot parent side ∷ []) (Grown ws) (λ _. unchanged ws)
    (λ _. same_arrivals ws (new_arrival slot parent side ∷ []))

edge_grows : (k : ℕ) (ws : List Arrival) (slot : ℕ) (side : Side) (child : ℕ)
    → Grown ws (walk_edge k ws slot side child)
edge_grows k ws slot side child = cond_both (child == 0) (map (ended k slot side) ws)
    (cond (is_first slot side || list_any (goes_on k slot side) ws) (with_arrival ws child slot side) ws) (Grown ws)
    (λ _. mapped (ended k slot side) (ended_grows k slot side) ws)
    (λ _. cond_both (is_first slot side || list_any (goes_on k slot side) ws) (with_arrival ws child slot side) ws
    (Grown ws) (λ _. entered ws child slot side) (λ _. unchanged ws))

walked_grows : (k : ℕ) (ws : List Arrival) (slot : ℕ) (f : Field) (r : Reply) → Grown ws (walked k ws slot f r)
walked_grows k ws slot Key (KeyIs v) = mapped (keyed slot v) (keyed_grows slot v) ws
walked_grows k ws slot (EdgeOn side) (EdgeIs e) = edge_grows k ws slot side e.slot
walked_grows k ws slot f r = unchanged ws

-- an arrival of the first list has one in the second that it grew to
found : (xs bs : List Arrival) → Grown xs bs → (a : Arrival) (i : ℕ) → i < length xs → get_or xs i a ≡ a
    → (b : Arrival) × Contains bs b × GrowsTo a b
found [] bs grown a i below at = absurd (omega (arith, below))
found (x ∷ xs) [] grown a i below at = absurd grown
found (x ∷ xs) (y ∷ bs) grown a zero below at = rw (← at) (y, (0, omega arith, refl), grown.0)
found (x ∷ xs) (y ∷ bs) grown a (suc i) below at =
    let there = found xs bs grown.1 a i (omega (arith, below)) at in
    (there.0, (suc there.1.0, (let lt = there.1.1 in omega arith), there.1.2), there.2)

-- ---- searches

grows : (s t : Search) → t.call ≡ s.call → (s.linked ≡ true → t.linked ≡ true) → (s.swapped ≡ true → t.swapped ≡ true)
    → (s.cut ≡ true → t.cut ≡ true) → Grown s.walks t.walks → SearchGrows s t
grows s t call linked swapped cut walks =
    record {
      call = call;
      linked = linked;
      swapped = swapped;
      cut = cut;
      walks =
          λ a there. found s.walks t.walks walks a there.0 there.1 there.2;
    }

itself : (s : Search) → SearchGrows s s
itself s = grows s s refl (λ is. is) (λ is. is) (λ is. is) (unchanged s.walks)

look_grows : (s : Search) (slot : ℕ) (f : Field) (r : Reply) (o : Option Call) → SearchGrows s (look_for s o slot f r)
look_grows s slot f r None = itself s
look_grows s slot f r (Some c) = grows s (look_for s (Some c) slot f r) refl (λ is. is) (λ is. is) (λ is. is)
    (walked_grows c.key s.walks slot f r)

-- ---- one event

-- a look changes the arrivals alone
pub look_beside : (s : Search) (o : Option Call) (slot : ℕ) (f : Field) (r : Reply)
    → look_for s o slot f r ≡ record s { walks = (look_for s o slot f r).walks; later = (look_for s o slot f r).later }
look_beside s None slot f r = refl
look_beside s (Some c) slot f r = refl

-- where a pin is confirmed or left, nothing is known but the call
pub begun_is : (s : Search) (e : Event) (r : Reply) → begins_anew (e, r) ≡ true
    → searched s e r ≡ record idle { call = (searched s e r).call }
unfolding searched
begun_is s Sight (Pinned n) anew = refl
begun_is s (SightFor op key) (Pinned n) anew = refl
begun_is s Leave Departed anew = refl
begun_is s (LeaveWith answer) Departed anew = refl
begun_is s e r anew = absurd (true≢false (sym anew))

-- what holds after a look, a link, a flag, a splice and a swap, and where the search stays, holds after
-- each event while the pin stands
pub search_goes : (P : Event → Reply → Search → Type 0) (s : Search)
    → ((slot : ℕ) (f : Field) (r : Reply) → P (Look slot f) r (look_for s s.call slot f r))
    → ((p : ℕ) (side : Side) (leaf new : ℕ) (n : NodeId)
    → P (Link p side leaf new) (Linked n) (record s { linked = true }))
    → ((p : ℕ) (side : Side) (leaf : ℕ) (n : NodeId) → P (Flag p side leaf) (Flagged n) (record s { flagged = Some n }))
    → ((a : ℕ) (side : Side) (x p : ℕ) (keep : Side) (ns : List NodeId)
    → P (Splice a side x p keep) (Cut ns) (record s { cut = s.cut || is_flagged_in s.flagged ns }))
    → ((p : ℕ) (side : Side) (leaf new : ℕ) (ns : List NodeId)
    → P (Swap p side leaf new) (Cut ns) (record s { swapped = true }))
    → ((e : Event) (r : Reply) → P e r s) → (e : Event) (r : Reply) → begins_anew (e, r) ≡ false
    → P e r (searched s e r)
unfolding searched
search_goes P s looks links flags splices swaps stays Sight (Pinned n) stands = absurd (true≢false stands)
search_goes P s looks links flags splices swaps stays (SightFor op key) (Pinned n) stands = absurd (true≢false stands)
search_goes P s looks links flags splices swaps stays Leave Departed stands = absurd (true≢false stands)
search_goes P s looks links flags splices swaps stays (LeaveWith answer) Departed stands = absurd (true≢false stands)
search_goes P s looks links flags splices swaps stays (Look slot f) r stands = looks slot f r
search_goes P s looks links flags splices swaps stays (Link p side leaf new) (Linked n) stands = links p side leaf new n
search_goes P s looks links flags splices swaps stays (Flag p side leaf) (Flagged n) stands = flags p side leaf n
search_goes P s looks links flags splices swaps stays (Splice a side x p keep) (Cut ns) stands =
    splices a side x p keep ns
search_goes P s looks links flags splices swaps stays (Swap p side leaf new) (Cut ns) stands = swaps p side leaf new ns
search_goes P s looks links flags splices swaps stays e r stands = stays e r

pub only_grow : SearchesOnlyGrow
only_grow s = search_goes (λ e r t. SearchGrows s t) s (λ slot f r. look_grows s slot f r s.call)
    (λ p side leaf new n. grows s (record s { linked = true }) refl (λ is. refl) (λ is. is) (λ is. is)
    (unchanged s.walks))
    (λ p side leaf n. grows s (record s { flagged = Some n }) refl (λ is. is) (λ is. is) (λ is. is) (unchanged s.walks))
    (λ a side x p keep ns. grows s (record s { cut = s.cut || is_flagged_in s.flagged ns }) refl (λ is. is) (λ is. is)
    (λ is. or_left s.cut (is_flagged_in s.flagged ns) is) (unchanged s.walks))
    (λ p side leaf new ns. grows s (record s { swapped = true }) refl (λ is. is) (λ is. refl) (λ is. is)
    (unchanged s.walks))
    (λ e r. itself s)
