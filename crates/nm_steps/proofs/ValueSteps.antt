-- How a value is read and stored: the rule after the step, and what the seat learns by it.
use Rattle.std.proofs.Common.{◌≡◌, inr, ℕ, zero, suc, ◌+◌, ◌*◌, ◌-◌, ◌<◌, ◌≤◌, ◌==◌, ◌≢◌, eqb, Bool, true, false, cond, List, [], ◌∷◌, ◌++◌, length, set, refl, sym, ap, ◌∙◌, subst, arith, get_or-set_same, get_or-set_other, get_or-append-add, length-set, eq-eqb, ne_eqb, append-nil}
use Rattle.std.specs.Prelude.{All, AllPairs, nat_lt, slice_index, slice_set}
use Rattle.std.specs.List.{count_by}
use Rattle.std.proofs.lemmas.List.{get_or_append_left, set-get_or}
use Rattle.std.proofs.lemmas.Bool.{cond-true, cond-false, le-ltb}
use mathlib.Core.Option.{some}
use native.Mathlib.Decide.{ℕ_discrete}
use lib.ListN.{get_elem?}
use Rattle.atomic_table.specs.Table.{State, Allows, keeps, opening}
use Rattle.std.proofs.lemmas.List.{get_or-replicate, length-map, length-replicate, nil_from_length}
use Rattle.std.specs.Prelude.{replicate}
use Rattle.nm_model.specs.Memory as memory
use Rattle.nm_model.specs.Memory.{child, edge}
use Rattle.nm_steps.specs.Packing.{words_of}
use Rattle.nm_steps.proofs.Cutting.{no_stores_seen, opens, opens_with_none}
use Rattle.atomic_table.specs.Seated.{TableId}
use Rattle.atomic_table.specs.declared.shared.Seat.{Seat}
use Rattle.nm_edge.specs.Layouts.{Layout, IsLayout}
use Rattle.nm_edge.specs.Edges.{Edge}
use Rattle.nm_edge.specs.Words.{IsSlot, at_announcement, at_edge, word, words}
use Rattle.nm_edge.specs.declared.edge.Side.TheVariants.{Left}
use Rattle.nm_edge.proofs.Words.{fields_within}
use Rattle.nm_model.specs.declared.knowledge.Brief.{Brief}
use Rattle.nm_model.specs.declared.event.Event.{Event}
use Rattle.nm_model.specs.declared.trace.Turn.{Turn}
use Rattle.nm_model.specs.Knowledge.{Knowledge, is_private}
use Rattle.nm_model.specs.Walks.{Entry}
use Rattle.nm_model.specs.Runs.{of}
use Rattle.nm_model.specs.Ordered.{ordered, after_in, trace_in}
use Rattle.nm_order.specs.Hands.{IsPooled}
use Rattle.nm_order.specs.Logs.{known_by}
use Rattle.nm_order.proofs.PartsOfRuns.{logs_tell}
use Rattle.nm_order.proofs.PinNumbers.{length_trace}
use Rattle.nm_steps.proofs.Blocks.{set-append-add}
use Rattle.nm_steps.proofs.PackedReads.{each_word_is_its_field}
use Rattle.nm_steps.specs.declared.view.Stored.{Stored}
use Rattle.nm_steps.specs.declared.view.View.{View}
use Rattle.nm_steps.specs.Rules.{ComesBefore, HasNotStored, IsShown, LinksHaveValues, Kept, LagsBehind, LagsInStores, Runs, WereHeld, everybody, knowledge, stands, value_of}
use Rattle.nm_steps.specs.Steps.{HasSeen, Laid, Tied}
use Rattle.nm_steps.specs.Values.{CanReach, CanReachLeft, HasSeenMore, HasSeenStores, HasStoredValue, OnlySees, MayStore, SawLeft, SawValue, is_bare, no_step}
use Rattle.nm_steps.proofs.Counts.{both_at_most_sum, sum_after}
use Rattle.nm_steps.proofs.Growing.{goes_on_itself}
use Rattle.nm_steps.proofs.Keeping.{each_set, once_is, stands_live}
use Rattle.nm_steps.proofs.Noting.{standing}
use Rattle.nm_steps.proofs.StoreOrders.{lags_by_other, sees_all_stores, none_in_order, order_push, own_were_before, seen_stored, stored_by_now}
use Rattle.nm_steps.proofs.Tying.{own_part, stands_in_run}
use Rattle.nm_steps.proofs.Valuing.{IfValued, all_linked, still_linked, held_push, run_fits, run_long, stores_more, stores_themselves, value_push}

-- the view that has seen the run so far, and these stores
abbrev pub up_to_stores : List Turn → List Stored → View → View
up_to_stores turns st v = record v { past = turns; stores = st }

module _ (L : Layout) (core : List ℕ) (views : List View) (id : ℕ) (v : View) (k : Runs L core views)
    (at : get_elem? views id ≡ some v) (st : List Stored) where
  -- a seat may see them at any time
  abbrev pub seen_stores_so_far : Runs L core (set views id (up_to_stores (trace_in (ordered L) k.turns) st v))
  seen_stores_so_far = record {
    fits = k.fits;
    turns = k.turns;
    keys = k.keys;
    words_are = k.words_are;
    shown = each_set (IsShown L (trace_in (ordered L) k.turns)) views id
        (up_to_stores (trace_in (ordered L) k.turns) st v) (k.shown id v at) (λ j u _. k.shown j u);
    here = each_set (λ (u : View). u.resigned ≡ false → (knowledge u).gone ≡ false) views id
        (up_to_stores (trace_in (ordered L) k.turns) st v) (k.here id v at) (λ j u _. k.here j u);
    once = λ w. omega (
      arith,
      sum_after (stands w) views id v (up_to_stores (trace_in (ordered L) k.turns) st v) at,
      k.once w,
    );
    lags = each_set (LagsBehind (trace_in (ordered L) k.turns)) views id
        (up_to_stores (trace_in (ordered L) k.turns) st v)
        (record { past = goes_on_itself (trace_in (ordered L) k.turns); heard = (k.lags id v at).heard })
        (λ j u _. k.lags j u);
  }

  module _ (alive : v.resigned ≡ false) (layout : v.layout ≡ L) where
    abbrev pub run_seen : HasSeen (up_to_stores (trace_in (ordered L) k.turns) st v)
    run_seen =
        let stands = stands_in_run L core views id v k at alive layout in
        record {
          worker = stands.run.is_part.worker;
          events = k.turns;
          keys = k.keys;
          are = ap (λ (l : Layout). trace_in (ordered l) k.turns) (sym layout);
          is_part = own_part L core views id v k at alive;
          here = stands.run.here;
        }

    -- a slot that is private by the worker's log is private in the run
    pub is_held : (slot : ℕ) → is_private (knowledge v) slot ≡ true
        → is_private (of (after_in (ordered L) k.turns).state v.number) slot ≡ true
    is_held slot private =
        let stands = stands_in_run L core views id v k at alive layout in
        let below : v.number < L.workers = subst (λ (l : Layout). v.number < l.workers) layout
        stands.run.is_part.worker in
        ap (λ (x : Knowledge). is_private x slot) (logs_tell L k.turns v.number below
        ∙ ap (known_by L v.number) (own_part L core views id v k at alive))
        ∙ (ap (λ (l : Layout). is_private (known_by l v.number v.log) slot) (sym layout) ∙ private)

-- the place of a value
module _ (L : Layout) (s : State Unit View) (k : Kept L s) (slots slot i : ℕ) (homes : length s.homes ≡ slots)
    (many : slots ≡ L.nodes) (is : IsSlot L slot) (index : i ≡ words L + (slot - 1)) where
  place : i ≡ length k.core + (slot - 1)
  place = let long = run_long L k.core s.views k.runs in omega (arith, long, index)

  pub inside : slot - 1 < length k.values
  inside = let long = k.long in let low = is.0 in let high = is.1 in omega (arith, long, homes, many, low, high)

  pub value_there : slice_index s.words i ≡ value_of k.stores slot
  value_there =
      (λ j. slice_index (k.words_are j) (place j))
      ∙ (get_or-append-add k.core k.values (slot - 1) 0
      ∙ (k.valued.are (slot - 1) inside ∙ ap (value_of k.stores) (let low = is.0 in omega (arith, low))))

  pub values_written : (n : ℕ) → slice_set s.words i n ≡ k.core ++ set k.values (slot - 1) n
  values_written n = (λ j. slice_set (k.words_are j) (place j) n) ∙ set-append-add k.core k.values (slot - 1) n

-- the stores that a look sees are those of the run
module _ (L : Layout) (slots id : ℕ) (v : View) (alive : v.resigned ≡ false) (layout : v.layout ≡ L)
    (many : slots ≡ L.nodes) where
  module _ (s : State Unit View) (k : Kept L s) (homes : length s.homes ≡ slots)
      (at : get_elem? s.views id ≡ some v) where
    abbrev pub stores_seen_here : HasSeenStores (up_to_stores (trace_in (ordered L) k.runs.turns) k.stores v)
    stores_seen_here = record {
      run = run_seen L k.core s.views id v k.runs at k.stores alive layout;
      held = subst
          (λ (l : Layout). WereHeld l k.runs.turns k.stores) (sym layout) k.valued.held;
      linked = subst
          (λ (l : Layout). LinksHaveValues l k.runs.turns k.stores) (sym layout)
          (all_linked L k.runs.turns k.values k.stores k.runs.fits (k.long ∙ homes ∙ many) k.valued.linked);
      order = k.valued.order;
    }

  -- A LOOK at a word, which shows something of what has been seen
  sees_by : (i : ℕ) (P : (w : View) → HasSeenStores w → ℕ → Type 0)
      → ((s : State Unit View) (k : Kept L s) (homes : length s.homes ≡ slots) (at : get_elem? s.views id ≡ some v)
      → P (up_to_stores (trace_in (ordered L) k.runs.turns) k.stores v) (stores_seen_here s k homes at)
      (slice_index s.words i))
      → Allows (Kept L) slots id (v, []) i (λ n. n)
      (λ n after. (after.1 ≡ []) × (more : HasSeenMore v after.0) × P after.0 more.seen n)
  sees_by i P shows s k homes at small =
      let trace = trace_in (ordered L) k.runs.turns in
      let w : View = up_to_stores trace k.stores v in (
        w,
        keeps,
        tt,
        record {
          core = k.core;
          values = k.values;
          words_are = set-get_or s.words i 0 ∙ k.words_are;
          long = k.long;
          runs = seen_stores_so_far L k.core s.views id v k.runs at k.stores;
          stores = k.stores;
          valued = record {
            are = k.valued.are;
            held = k.valued.held;
            linked = k.valued.linked;
            order = k.valued.order;
            seen = each_set (LagsInStores k.stores) s.views id w
                (sees_all_stores k.stores w refl (k.valued.seen id v at).heard) (λ j u _. k.valued.seen j u);
          };
        },
        (
          refl,
          record {
            same = refl;
            past = (k.runs.lags id v at).past;
            stores = (k.valued.seen id v at).seen;
            seen = stores_seen_here s k homes at;
          },
          shows s k homes at,
        ),
      )

-- a look at a value
pub sees : (L : Layout) (slots id : ℕ) (v : View) (slot i : ℕ) → v.resigned ≡ false → v.layout ≡ L → slots ≡ L.nodes
    → IsSlot L slot → i ≡ words L + (slot - 1) → Allows (Kept L) slots id (v, []) i (λ n. n)
    (SawValue slot no_step (v, []))
sees L slots id v slot i alive layout many is index =
    sees_by L slots id v alive layout many i (λ w seen n. n ≡ value_of w.stores slot)
    (λ s k homes at. value_there L s k slots slot i homes many is index)

-- the word of an edge that leads to no node is below 4
bare_word : (s : ℕ) (f t : Bool) → nat_lt (4 * s + cond t 2 0 + cond f 1 0) 4 ≡ (s == 0)
bare_word zero false false = refl
bare_word zero false true = refl
bare_word zero true false = refl
bare_word zero true true = refl
bare_word (suc s) f t = le-ltb (4 * suc s + cond t 2 0 + cond f 1 0) 4 (omega arith)
    ∙ sym (ne_eqb (suc s) 0 (λ e. omega (arith, e)))

-- the word of the left edge of a slot
left_there : (L : Layout) (s : State Unit View) (k : Kept L s) (slot i : ℕ) → IsSlot L slot
    → i ≡ word L (at_edge slot Left)
    → nat_lt (slice_index s.words i) 4 ≡ (child (after_in (ordered L) k.runs.turns).state.memory slot Left == 0)
left_there L s k slot i is index =
    let long = run_long L k.core s.views k.runs in
    let below = fields_within L (at_edge slot Left) is in
    let inside : i < length k.core = omega (arith, long, below, index) in
    let e : Edge = edge (after_in (ordered L) k.runs.turns).state.memory slot Left in
    ap (λ (n : ℕ). nat_lt n 4)
    (ap (λ (l : List ℕ). slice_index l i) k.words_are
    ∙ (get_or_append_left k.core k.values 0 i inside
    ∙ (ap (λ (l : List ℕ). slice_index l i) k.runs.words_are
    ∙ (ap (λ (j : ℕ). slice_index (words_of L (after_in (ordered L) k.runs.turns).state.memory) j) index
    ∙ each_word_is_its_field L (after_in (ordered L) k.runs.turns).state.memory (at_edge slot Left)
    (run_fits L k.core s.views k.runs) is))))
    ∙ bare_word e.slot e.flag e.tag

-- a look at a left edge
pub sees_left : (L : Layout) (slots id : ℕ) (v : View) (slot i : ℕ) → v.resigned ≡ false → v.layout ≡ L
    → slots ≡ L.nodes → IsSlot L slot → i ≡ word L (at_edge slot Left)
    → Allows (Kept L) slots id (v, []) i (λ n. n) (SawLeft slot no_step (v, []))
sees_left L slots id v slot i alive layout many is index =
    sees_by L slots id v alive layout many i (λ w seen n. nat_lt n 4 ≡ is_bare w seen slot)
    (λ s k homes at. subst (λ (l : Layout). nat_lt (slice_index s.words i) 4 ≡
    (child (after_in (ordered l) k.runs.turns).state.memory slot Left == 0))
    (sym layout) (left_there L s k slot i is index))

-- values after one store more
values_after : (values : List ℕ) (stores : List Stored) (slot : ℕ) (x : Stored) → 1 ≤ slot → slot - 1 < length values
    → x.slot ≡ slot → ((i : ℕ) → i < length values → slice_index values i ≡ value_of stores (i + 1))
    → (i : ℕ) → i < length (set values (slot - 1) x.value)
    → slice_index (set values (slot - 1) x.value) i ≡ value_of (stores ++ x ∷ []) (i + 1)
values_after values stores slot x low inside own are i below = elim (ℕ_discrete i (slot - 1)) [
  | yes same ↦
      ap (slice_index (set values (slot - 1) x.value)) same
      ∙ (get_or-set_same values (slot - 1) x.value 0 inside
      ∙ sym (value_push 0 stores x (i + 1) ∙ cond-true (x.slot == (i + 1)) x.value (value_of stores (i + 1))
      (eq-eqb x.slot (i + 1) (omega (arith, own, same, low)))))
  | no other ↦
      get_or-set_other values (slot - 1) i x.value 0 other
      ∙ (are i (let long = length-set values (slot - 1) x.value in omega (arith, below, long))
      ∙ sym (value_push 0 stores x (i + 1) ∙ cond-false (x.slot == (i + 1)) x.value (value_of stores (i + 1))
      (ne_eqb x.slot (i + 1) (λ e. other (omega (arith, own, e))))))
]

up_to_now : (trace : List Turn) (st : List Stored) (turns : List (ℕ × Event)) → length trace ≡ length turns
    → All (λ (x : Stored). x.at ≤ length turns) st → All (λ (x : Stored). x.at ≤ length trace) st
up_to_now trace st turns long h = subst (λ (n : ℕ). All (λ (x : Stored). x.at ≤ n) st) (sym long) h

-- two seats have different workers
others_apart : (L : Layout) (core : List ℕ) (views : List View) (k : Runs L core views) (i j : ℕ) (v u : View)
    → j ≢ i → get_elem? views i ≡ some v → get_elem? views j ≡ some u → v.resigned ≡ false → u.resigned ≡ false
    → v.number ≡ u.number → ⊥
others_apart L core views k i j v u ne at there alive alive' same =
    let both = both_at_most_sum (stands v.number) views j i u v ne there at in
    let mine = stands_live v alive in
    let yours : stands v.number u ≡ 1 + count_by (λ h. eqb u.number h.number) u.others = ap (λ (n : ℕ). stands n u)
    same ∙ stands_live u alive' in
    let one = (once_is v.number L.workers).0 in
    absurd (omega (arith, both, mine, yours, one, k.once v.number))

-- A STORE of a value
pub stores_it : (L : Layout) (slots id : ℕ) (v : View) (slot i new : ℕ) → v.resigned ≡ false → v.layout ≡ L
    → slots ≡ L.nodes → IsSlot L slot → is_private (knowledge v) slot ≡ true → HasNotStored v → i ≡ words L + (slot - 1)
    → Allows (Kept L) slots id (v, []) i (λ _. new) (λ _. HasStoredValue slot no_step (v, []) new)
stores_it L slots id v slot i new alive layout many is private once index s k homes at small =
    let trace = trace_in (ordered L) k.runs.turns in
    let x : Stored = record { at = length trace; worker = v.number; own = length v.log; slot = slot; value = new } in
    let st : List Stored = k.stores ++ x ∷ [] in
    let w : View = up_to_stores trace st v in
    let held : WereHeld L k.runs.turns st = held_push L k.runs.turns k.stores x k.valued.held
    (record {
      before = k.runs.turns;
      since = [];
      is_run = sym (append-nil k.runs.turns);
      at = sym
          (length_trace (ordered L) k.runs.turns);
      own = ap (λ (l : List Entry). length l)
          (own_part L k.core s.views id v k.runs at alive);
      private = is_held L k.core s.views id v k.runs at
          k.stores alive layout slot private;
    }) in
    let order : AllPairs ComesBefore st = order_push k.stores x k.valued.order
    (up_to_now trace k.stores k.runs.turns (length_trace (ordered L) k.runs.turns)
    (stored_by_now L k.runs.turns k.stores k.valued.held))
    (own_were_before k.stores v (length v.log) alive (k.valued.seen id v at) once) in (
      w,
      keeps,
      tt,
      record {
        core = k.core;
        values = set k.values (slot - 1) new;
        words_are = values_written L s k slots slot i homes many is index new;
        long = length-set k.values (slot - 1) new ∙ k.long;
        runs = seen_stores_so_far L k.core s.views id v k.runs at st;
        stores = st;
        valued = record {
          are = values_after k.values k.stores slot x is.0 (inside L s k slots slot i homes many is index) refl
              k.valued.are;
          held = held;
          linked = subst (λ (n : ℕ). IfValued L n k.runs.turns st) (sym (length-set k.values (slot - 1) new))
              (still_linked L (length k.values) k.runs.turns st k.stores
              (stores_more k.stores k.stores x (stores_themselves k.stores)) k.valued.linked);
          order = order;
          seen = each_set (LagsInStores st) s.views id w
              (sees_all_stores st w refl (stores_more k.stores v.heard_stores x (k.valued.seen id v at).heard))
              (λ j u ne there. lags_by_other k.stores u x (λ alive' same. others_apart L k.core s.views k.runs id j v u
              ne at there alive alive' same) (k.valued.seen j u there));
        };
      },
      (
        refl,
        record {
          same = refl;
          past = (k.runs.lags id v at).past;
          stores = stores_more k.stores v.stores x (k.valued.seen id v at).seen;
          seen = record {
            run = run_seen L k.core s.views id v k.runs at st alive layout;
            held = subst
                (λ (l : Layout). WereHeld l k.runs.turns st) (sym layout) held;
            linked = subst
                (λ (l : Layout). LinksHaveValues l k.runs.turns st) (sym layout)
                (all_linked L k.runs.turns k.values st k.runs.fits (k.long ∙ homes ∙ many)
                (still_linked L (length k.values) k.runs.turns st k.stores
                (stores_more k.stores k.stores x (stores_themselves k.stores)) k.valued.linked));
            order = order;
          };
        },
        (k.stores, refl),
      ),
    )

-- what the operations ask of their caller
pub asked_to_look : (L : Layout) (z : TableId) (it : Seat Unit View) (d slot i : ℕ) → d ≡ slot
    → CanReach (record { table = z; layout = L }) it slot i
    → (it.table_id ≡ z) × (i < z.words) × Allows (Kept L) z.slots it.id it.me i (λ n. n) (SawValue d no_step it.me)
asked_to_look L z it d slot i pick can = (
  can.table,
  (let all = can.values.words_are in let low = can.is_slot.0 in let high = can.is_slot.1 in let index = can.word in
      omega (arith, all, low, high, index)),
  subst (λ (x : ℕ). Allows (Kept L) z.slots it.id it.me i (λ n. n) (SawValue x no_step it.me)) (sym pick)
      (subst (λ (c : List (ℕ × Unit)). Allows (Kept L) z.slots it.id (it.me.0, c) i (λ n. n)
      (SawValue slot no_step (it.me.0, c))) (sym can.empty)
      (sees L z.slots it.id it.me.0 slot i can.alive can.layout can.values.slots_are can.is_slot can.word)),
)

pub asked_to_look_left : (L : Layout) (z : TableId) (it : Seat Unit View) (d slot i : ℕ) → d ≡ slot
    → CanReachLeft (record { table = z; layout = L }) it slot i
    → (it.table_id ≡ z) × (i < z.words) × Allows (Kept L) z.slots it.id it.me i (λ n. n) (SawLeft d no_step it.me)
asked_to_look_left L z it d slot i pick can = (
  can.table,
  (let all = can.values.words_are in let below = fields_within L
      (at_edge slot Left) can.is_slot in let index = can.word in omega (arith, all, below, index)),
  subst (λ (x : ℕ). Allows (Kept L) z.slots it.id it.me i (λ n. n) (SawLeft x no_step it.me)) (sym pick)
      (subst (λ (c : List (ℕ × Unit)). Allows (Kept L) z.slots it.id (it.me.0, c) i (λ n. n)
      (SawLeft slot no_step (it.me.0, c))) (sym can.empty)
      (sees_left L z.slots it.id it.me.0 slot i can.alive can.layout can.values.slots_are can.is_slot can.word)),
)

pub asked_to_store : (L : Layout) (z : TableId) (it : Seat Unit View) (d slot i new : ℕ) → d ≡ slot
    → CanReach (record { table = z; layout = L }) it slot i → MayStore it slot → HasNotStored it.me.0
    → (it.table_id ≡ z) × (i < z.words) × Allows (Kept L) z.slots it.id it.me i (λ _. new)
    (λ _. HasStoredValue d no_step it.me new)
asked_to_store L z it d slot i new pick can may once = (
  can.table,
  (let all = can.values.words_are in let low = can.is_slot.0 in let high = can.is_slot.1 in let index = can.word in
      omega (arith, all, low, high, index)),
  subst (λ (x : ℕ). Allows (Kept L) z.slots it.id it.me i (λ _. new) (λ _. HasStoredValue x no_step it.me new))
      (sym pick)
      (subst (λ (c : List (ℕ × Unit)). Allows (Kept L) z.slots it.id (it.me.0, c) i (λ _. new)
      (λ _. HasStoredValue slot no_step (it.me.0, c) new)) (sym can.empty)
      (stores_it L z.slots it.id it.me.0 slot i new can.alive can.layout can.values.slots_are can.is_slot may once
      can.word)),
)

-- ---- what they leave of a pass

pub can_by_key : (z : TableId) (key L : Layout) (it : Seat Unit View) (slot i : ℕ) → Laid z key L
    → CanReach (record { table = z; layout = L }) it slot i → CanReach (record { table = z; layout = key }) it slot i
can_by_key z key L it slot i laid c = subst (λ (l : Layout). CanReach (record { table = z; layout = l }) it slot i)
    (sym laid.key_is) c

pub can_left_by_key : (z : TableId) (key L : Layout) (it : Seat Unit View) (slot i : ℕ) → Laid z key L
    → CanReachLeft (record { table = z; layout = L }) it slot i
    → CanReachLeft (record { table = z; layout = key }) it slot i
can_left_by_key z key L it slot i laid c = subst (λ (l : Layout). CanReachLeft
    (record { table = z; layout = l }) it slot i) (sym laid.key_is) c

pub looked_tied : (it after : Seat Unit View) (number announcement : ℕ) (brief : Brief)
    → Tied it number announcement brief → after.me.1 ≡ it.me.1 → HasSeenMore it.me.0 after.me.0
    → Tied after number announcement brief
looked_tied it after number announcement brief tied slots l = record {
  empty = slots ∙ tied.empty;
  alive = ap (λ (v : View). v.resigned) l.same ∙ tied.alive;
  number_is = tied.number_is ∙ sym (ap (λ (v : View). v.number) l.same);
  announcement_is = tied.announcement_is ∙ sym (ap (λ (v : View). word v.layout (at_announcement number)) l.same);
  brief_is = tied.brief_is ∙ sym (ap (λ (v : View). (knowledge v).brief) l.same);
  fits = subst (λ (v : View). IsLayout v.layout) (sym l.same) tied.fits;
  worker = subst (λ (v : View). number < v.layout.workers) (sym l.same) tied.worker;
  small = tied.small;
  private = subst (λ (v : View). (x : ℕ) → is_private (knowledge v) x ≡ true → IsPooled v.layout x) (sym l.same)
      tied.private;
  seen = l.seen.run;
  heard = ap (λ (v : View). v.heard) l.same ∙ tied.heard;
  heard_stores = ap (λ (v : View). v.heard_stores) l.same ∙ tied.heard_stores;
  stored = seen_stored after.me.0 l.seen;
}

abbrev pub looks_only : (it after : Seat Unit View) → after.table_id ≡ it.table_id → after.id ≡ it.id
    → HasSeenMore it.me.0 after.me.0 → OnlySees (standing it) (standing after)
looks_only it after table seat l = record {
  same = λ i. record { table = table i; seat = seat i; view = l.same i };
  past = l.past;
  stores = l.stores;
  seen = l.seen;
}

-- ---- a table with values begins

pub opens_values : (L : Layout) (ws : List ℕ) (units : List Unit) → IsLayout L
    → ws ≡ words_of L (memory.opening L) ++ replicate (length units) 0 → Kept L (opening ws units (everybody L))
opens_values L ws units fits e =
    let K = opens L (words_of L (memory.opening L)) fits refl in
    record {
      core = K.core;
      values = replicate (length units) 0;
      words_are = e ∙ ap (λ (l : List ℕ). l ++ replicate (length units) 0)
          (K.words_are ∙ (ap (λ (l : List ℕ). K.core ++ l) (nil_from_length K.values K.long) ∙ append-nil K.core));
      long = length-replicate {A = ℕ} (length units) 0 ∙ sym (length-map units some);
      runs = K.runs;
      stores = [];
      valued = record {
        are = λ i below. get_or-replicate (length units) i 0 0
            (let long = length-replicate {A = ℕ} (length units) 0 in omega (arith, below, long));
        held = tt;
        linked = inr (λ before since w e' is. absurd
            (no_turn before since (w, e') (sym (opens_with_none L (words_of L (memory.opening L)) fits refl) ∙ is)));
        order = none_in_order;
        seen = no_stores_seen L;
      };
    }
  where
    no_turn : (before since : List (ℕ × Event)) (x : ℕ × Event) → [] ≡ before ++ x ∷ since → ⊥
    no_turn [] since x is = cc
    no_turn (y ∷ before) since x is = cc
