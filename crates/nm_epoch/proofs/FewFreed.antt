-- The queues that a worker holds have fewer entries together than there are slots, so a collection
-- takes few steps.
use Rattle.std.proofs.Common.{◌≡◌, ◌≢◌, ℕ, suc, ◌+◌, ◌≤◌, ◌<◌, inl, inr, eqb, true, false, List, [], ◌∷◌, ◌++◌, length, map, refl, sym, ap, subst, ◌∙◌, arith, true≢false}
use Rattle.std.specs.Prelude.{Option, Some, slice_get, option_map}
use Rattle.std.specs.List.{list_any, IsDistinct, AllByRecursion}
use Rattle.std.proofs.lemmas.Bool.{cond_both, eqb-true, ne_eqb, or_cases}
use Rattle.std.proofs.lemmas.List.{length-append, length-map}
use Rattle.std.proofs.lemmas.List.Sums.{take_while-cons}
use Rattle.std.proofs.lemmas.Map.Steps.{length-le_from_distinct_below}
use Rattle.std.proofs.lemmas.Option.{slice_get-map}
use Rattle.nm_edge.specs.Layouts.{Layout}
use Rattle.nm_limbo.specs.Queue.{block_queue}
use Rattle.nm_model.specs.declared.ledger.Queued.{Queued}
use Rattle.nm_model.specs.Knowledge.{Knowledge}
use Rattle.nm_model.specs.Ledgers.{held}
use Rattle.nm_model.specs.Walks.{Entry as LogEntry}
use Rattle.nm_order.specs.Hands.{WaitsAt, AreApart, IsPooled}
use Rattle.nm_epoch.specs.declared.collecting.Entry.{Entry}
use Rattle.nm_epoch.specs.declared.collecting.HeldQueue.{HeldQueue}
use Rattle.nm_epoch.specs.Collecting.{AreHeld, IsQueueOf, IsCollection, NoneHas, blank, queued, freeing, is_ripe, ripe_part, ripe_of}
use Rattle.nm_epoch.proofs.Fronts.{shown_queue}
use Rattle.nm_epoch.proofs.Steps.{one_longer}
use Rattle.nm_model.proofs.Lists.{longer_by}

abbrev slots : List Entry → List ℕ
slots es = map (λ (e : Entry). e.node.slot) es

all_slots : List HeldQueue → List ℕ
all_slots [] = []
all_slots (h ∷ hs) = slots h.queue.items ++ all_slots hs

both_parts : (P : ℕ → Type 0) (xs ys : List ℕ) → AllByRecursion P xs → AllByRecursion P ys → AllByRecursion P (xs ++ ys)
both_parts P [] ys a b = b
both_parts P (x ∷ xs) ys a b = (a.0, both_parts P xs ys a.1 b)

-- ---- no slot waits twice

-- these are entries of an origin's queue, from an index on
abbrev StandFrom : Knowledge → ℕ → ℕ → List Entry → Type 0
StandFrom k o i es = (j : ℕ) (e : Entry) → slice_get es j ≡ Some e → WaitsAt k o (i + j) (queued e)

stand_all : (k : Knowledge) (o : ℕ) (es : List Entry) → IsQueueOf k o es → StandFrom k o 0 es
stand_all k o es has j e at =
    subst (λ (n : ℕ). WaitsAt k o n (queued e)) (let same : j ≡ 0 + j = omega arith in same)
    (ap (λ (q : List Queued). slice_get q j) (shown_queue (held k.ledgers o) (map queued es) has)
    ∙ (slice_get-map queued es j ∙ ap (λ (x : Option Entry). option_map queued x) at))

stand_later : (k : Knowledge) (o i : ℕ) (x : Entry) (es : List Entry) → StandFrom k o i (x ∷ es)
    → StandFrom k o (suc i) es
stand_later k o i x es stand j e at = subst (λ (n : ℕ). WaitsAt k o n (queued e))
    (let same : i + suc j ≡ suc i + j = omega arith in same) (stand (suc j) e at)

module _ (L : Layout) (k : Knowledge) (apart : AreApart L k) where
  -- a slot that waits at an index is none of those behind it
  none_behind : (o i n : ℕ) (x : Entry) (es : List Entry) → WaitsAt k o i (queued x) → i < n → StandFrom k o n es
      → AllByRecursion (λ s. eqb x.node.slot s ≡ false) (slots es)
  none_behind o i n x [] at before stand = tt
  none_behind o i n x (y ∷ es) at before stand = (
    ne_eqb x.node.slot y.node.slot (λ same. (let twice =
        (apart.once o o i (n + 0) (queued x) (queued y) at (stand 0 y refl) same).1 in
        absurd (omega (arith, twice, before)))),
    none_behind o i (suc n) x es at (omega (arith, before)) (stand_later k o n y es stand),
  )

  -- nor any of another origin
  none_in : (o i p n : ℕ) (x : Entry) (es : List Entry) → WaitsAt k o i (queued x) → o ≢ p → StandFrom k p n es
      → AllByRecursion (λ s. eqb x.node.slot s ≡ false) (slots es)
  none_in o i p n x [] at other stand = tt
  none_in o i p n x (y ∷ es) at other stand = (
    ne_eqb x.node.slot y.node.slot (λ same. other (apart.once o p i (n + 0) (queued x) (queued y) at (stand 0 y refl)
        same).0),
    none_in o i p (suc n) x es at other (stand_later k p n y es stand),
  )

  none_among : (o i : ℕ) (x : Entry) (hs : List HeldQueue) → WaitsAt k o i (queued x) → NoneHas o hs → AreHeld k hs
      → AllByRecursion (λ s. eqb x.node.slot s ≡ false) (all_slots hs)
  unfolding all_slots
  none_among o i x [] at none' has = tt
  none_among o i x (h ∷ hs) at none' has =
      both_parts (λ s. eqb x.node.slot s ≡ false) (slots h.queue.items) (all_slots hs)
      (none_in o i h.origin 0 x h.queue.items at none'.0 (stand_all k h.origin h.queue.items has.0))
      (none_among o i x hs at none'.1 has.2)

  one_queue : (o i : ℕ) (es : List Entry) (rest : List ℕ) → StandFrom k o i es → IsDistinct eqb rest
      → ((j : ℕ) (e : Entry) → WaitsAt k o j (queued e) → AllByRecursion (λ s. eqb e.node.slot s ≡ false) rest)
      → IsDistinct eqb (slots es ++ rest)
  unfolding IsDistinct
  one_queue o i [] rest stand distinct others = distinct
  one_queue o i (x ∷ es) rest stand distinct others =
      let at : WaitsAt k o (i + 0) (queued x) = stand 0 x refl in (
        both_parts (λ s. eqb x.node.slot s ≡ false) (slots es) rest
            (none_behind o (i + 0) (suc i) x es at (omega arith) (stand_later k o i x es stand)) (others (i + 0) x at),
        one_queue o (suc i) es rest (stand_later k o i x es stand) distinct others,
      )

  distinct : (hs : List HeldQueue) → AreHeld k hs → IsDistinct eqb (all_slots hs)
  unfolding all_slots IsDistinct
  distinct [] has = tt
  distinct (h ∷ hs) has = one_queue h.origin 0 h.queue.items (all_slots hs)
      (stand_all k h.origin h.queue.items has.0) (distinct hs has.2)
      (λ j e at. none_among h.origin j e hs at has.1 has.2)

  -- ---- each is one of the pool's

  pooled_queue : (o i : ℕ) (es : List Entry) → StandFrom k o i es → AllByRecursion (IsPooled L) (slots es)
  pooled_queue o i [] stand = tt
  pooled_queue o i (x ∷ es) stand = (
    apart.waiting o (i + 0) (queued x) (stand 0 x refl),
    pooled_queue o (suc i) es
        (stand_later k o i x es stand),
  )

  pooled : (hs : List HeldQueue) → AreHeld k hs → AllByRecursion (IsPooled L) (all_slots hs)
  unfolding all_slots
  pooled [] has = tt
  pooled (h ∷ hs) has = both_parts (IsPooled L) (slots h.queue.items) (all_slots hs)
      (pooled_queue h.origin 0 h.queue.items (stand_all k h.origin h.queue.items has.0)) (pooled hs has.2)

  lesser_apart : (n : ℕ) (xs : List ℕ) → n < 6 → AllByRecursion (IsPooled L) xs
      → AllByRecursion (λ s. eqb n s ≡ false) xs
  lesser_apart n [] low all = tt
  lesser_apart n (x ∷ xs) low all = (
    ne_eqb n x (λ same. let range = all.0.0 in
        absurd (omega (arith, same, range, low))),
    lesser_apart n xs low all.1,
  )

  below : (xs : List ℕ) → AllByRecursion (IsPooled L) xs → (q : ℕ) → list_any (eqb q) xs ≡ true → q ≤ L.nodes
  below [] all q is = absurd (true≢false (sym is))
  below (x ∷ xs) all q is = elim (or_cases (eqb q x) (list_any (eqb q) xs) is) [
    | inl here ↦ let same = eqb-true q x here in let range = all.0.1 in omega (arith, same, range)
    | inr later ↦ below xs all.1 q later
  ]

  -- with slots 0 and 1 they are no more than the layout has with slot 0
  few_slots : (hs : List HeldQueue) → 1 ≤ L.nodes → AreHeld k hs → length (all_slots hs) + 1 ≤ L.nodes
  unfolding IsDistinct
  few_slots hs some has =
      let all = pooled hs has in
      let one : IsDistinct eqb (1 ∷ all_slots hs) = (
        lesser_apart 1 (all_slots hs) (omega arith) all,
        distinct hs
            has,
      ) in
      let two : IsDistinct eqb (0 ∷ 1 ∷ all_slots hs) =
      ((refl, lesser_apart 0 (all_slots hs) (omega arith) all), one) in
      let count = length-le_from_distinct_below (0 ∷ 1 ∷ all_slots hs) (suc L.nodes) two (within all) in
      omega (arith, count)
    where
      within : AllByRecursion (IsPooled L) (all_slots hs) → (q : ℕ) → list_any (eqb q) (0 ∷ 1 ∷ all_slots hs) ≡ true
          → q < suc L.nodes
      within all q is = elim (or_cases (eqb q 0) (list_any (eqb q) (1 ∷ all_slots hs)) is) [
        | inl first ↦ let same = eqb-true q 0 first in omega (arith, same)
        | inr more ↦ elim (or_cases (eqb q 1) (list_any (eqb q) (all_slots hs)) more) [
          | inl second ↦ let same = eqb-true q 1 second in omega (arith, same, some)
          | inr later ↦ let most = below (all_slots hs) all q later in omega (arith, most)
        ]
      ]

-- the queue of one origin alone
pub few_waiting : (L : Layout) (k : Knowledge) (o : ℕ) (es : List Entry) → AreApart L k → 1 ≤ L.nodes
    → IsQueueOf k o es → length es + 1 ≤ L.nodes
unfolding all_slots
few_waiting L k o es apart some has =
    let few : length (slots es ++ []) + 1 ≤ L.nodes = few_slots L k apart
    (record { origin = o; queue = block_queue es 0 0; counts = blank } ∷ []) some (has, tt, tt) in
    let sum = length-append (slots es) [] in
    let same = length-map es (λ (e : Entry). e.node.slot) in
    omega (arith, few, sum, same)

-- ---- steps

ripe_few : (epoch : ℕ) (es : List Entry) → length (ripe_part epoch es) ≤ length es
ripe_few epoch [] = omega arith
ripe_few epoch (x ∷ es) =
    let rest = ripe_few epoch es in
    subst (λ (r : List Entry). length r ≤ suc (length es)) (sym (take_while-cons (is_ripe epoch) x es))
    (cond_both (is_ripe epoch x) (x ∷ ripe_part epoch es) [] (λ (r : List Entry). length r ≤ suc (length es))
    (λ _. omega (arith, rest)) (λ _. omega arith))

all_ripe_few : (epoch : ℕ) (hs : List HeldQueue) → length (ripe_of epoch hs) ≤ length (all_slots hs)
unfolding all_slots
all_ripe_few epoch [] = omega arith
all_ripe_few epoch (h ∷ hs) =
    let here = ripe_few epoch h.queue.items in
    let later = all_ripe_few epoch hs in
    let sum = length-append (ripe_part epoch h.queue.items) (ripe_of epoch hs) in
    let total = length-append (slots h.queue.items) (all_slots hs) in
    let same = length-map h.queue.items (λ (e : Entry). e.node.slot) in
    omega (arith, here, later, sum, total, same)

-- fewer are ripe than there are slots
pub few_ripe : (L : Layout) (k : Knowledge) (epoch : ℕ) (hs : List HeldQueue) → AreApart L k → 1 ≤ L.nodes
    → AreHeld k hs → length (ripe_of epoch hs) + 1 ≤ L.nodes
few_ripe L k epoch hs apart some has = let few = few_slots L k apart hs some has in
    let ripe = all_ripe_few epoch hs in omega (arith, few, ripe)

pub collect_steps : (L : Layout) (k : Knowledge) (epoch : ℕ) (hs : List HeldQueue) (old new : List LogEntry)
    → AreApart L k → AreHeld k hs → 1 ≤ L.nodes → IsCollection epoch hs old new → length new ≤ length old + L.nodes
collect_steps L k epoch hs old new apart has some is =
    let few = few_ripe L k epoch hs apart some has in
    let first = one_longer old is.0 _ is.1.2 in
    let rest = longer_by is.0 new (map freeing (ripe_of epoch hs)) is.2 in
    let freed = length-map (ripe_of epoch hs) freeing in
    omega (arith, few, first, rest, freed)
