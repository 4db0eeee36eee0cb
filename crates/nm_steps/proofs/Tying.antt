-- A read that changes nothing ties a seat's logs to a run.
use Rattle.std.proofs.Common.{◌≡◌, ◌⊎◌, inl, inr, ℕ, ◌<◌, ◌≤◌, false, List, [], ◌∷◌, set, refl, sym, ap, ◌∙◌, subst, arith}
use Rattle.std.proofs.lemmas.List.{set-get_or}
use mathlib.Core.Option.{some, none}
use lib.ListN.{get_elem?}
use Rattle.atomic_table.specs.Table.{step, Allows}
use Rattle.atomic_table.specs.Seated.{TableId}
use Rattle.atomic_table.specs.declared.shared.Seat.{Seat}
use Rattle.nm_edge.specs.Layouts.{Layout, IsLayout}
use Rattle.nm_edge.specs.Words.{word, words, at_epoch}
use Rattle.nm_edge.proofs.Words.{fields_within}
use Rattle.nm_model.specs.declared.trace.Turn.{Turn}
use Rattle.nm_model.specs.Ordered.{ordered, trace_in}
use Rattle.nm_order.specs.Logs.{part_of}
use Rattle.nm_steps.specs.declared.view.Stored.{Stored}
use Rattle.nm_steps.specs.declared.view.View.{View}
use Rattle.nm_steps.specs.Rules.{held_log, knowledge, stands, once_below, LinksHaveValues, LogsAre, IsShown, LagsBehind, Runs, WereHeld, Kept}
use Rattle.nm_steps.specs.Steps.{HasSeen, Laid, TreeView}
use Rattle.nm_steps.specs.Ties.{StandsInRun, TellsItsStanding}
use Rattle.nm_steps.specs.Values.{HasSeenStores, HasValues}
use Rattle.nm_steps.proofs.Counts.{at_most_sum, sum_after}
use Rattle.nm_steps.proofs.Growing.{goes_on_itself, goes_on_from_nothing}
use Rattle.nm_steps.proofs.Keeping.{live, stands_live, once_is, each_set, lifts}
use Rattle.nm_steps.proofs.StoreOrders.{sees_all_stores, stored_in_log, stores_from_nothing}
use Rattle.nm_steps.proofs.Valuing.{AreStoresOf, IfValued, grown_none, reworded}

-- the log of a seat's own worker is its part of the run
pub own_part : (L : Layout) (words : List ℕ) (views : List View) (id : ℕ) (v : View) → (k : Runs L words views)
    → get_elem? views id ≡ some v → v.resigned ≡ false → part_of v.number (trace_in (ordered L) k.turns) ≡ v.log
own_part L words views id v k at alive =
    let mine : LogsAre v.layout L (trace_in (ordered L) k.turns) (held_log v.number v.log ∷ v.others) = subst
    (LogsAre v.layout L (trace_in (ordered L) k.turns)) (live v alive) (k.shown id v at) in
    sym mine.1

-- the view of a seat stands in the run of its table
pub stands_in_run : (L : Layout) (words : List ℕ) (views : List View) (id : ℕ) (v : View) → Runs L words views
    → get_elem? views id ≡ some v → v.resigned ≡ false → v.layout ≡ L → StandsInRun v
stands_in_run L words views id v k at alive layout =
    let mine : LogsAre v.layout L (trace_in (ordered L) k.turns) (held_log v.number v.log ∷ v.others) = subst
    (LogsAre v.layout L (trace_in (ordered L) k.turns)) (live v alive) (k.shown id v at) in
    let once : (w : ℕ) → stands w v ≤ once_below w L.workers = λ w. omega
    (arith, at_most_sum (stands w) views id v at, k.once w) in
    let below : v.number < L.workers = (once_is v.number L.workers).1
    (omega (arith, once v.number, stands_live v alive)) in
    record {
      alive = alive;
      fits = subst IsLayout (sym layout) k.fits;
      run = record {
        is_part = subst (λ (l : Layout). Rattle.nm_order.specs.Logs.IsLogOf l v.number v.log) (sym layout)
            (record { worker = below; turns = k.turns; keys = k.keys; is_part = sym mine.1 });
        here = k.here id v at alive;
      };
      once = subst (λ (l : Layout). (w : ℕ) → stands w v ≤ once_below w l.workers) (sym layout) once;
    }

-- the view that has seen the run and the stores so far
abbrev pub up_to : List Turn → List Stored → View → View
up_to turns st v = record v { past = turns; heard = []; stores = st; heard_stores = [] }

module _ (L : Layout) (words : List ℕ) (views : List View) (id : ℕ) (v : View) (k : Runs L words views)
    (at : get_elem? views id ≡ some v) (st : List Stored) where
  -- a seat may see the run so far at any time
  abbrev pub seen_so_far : Runs L words (set views id (up_to (trace_in (ordered L) k.turns) st v))
  seen_so_far = record {
    fits = k.fits;
    turns = k.turns;
    keys = k.keys;
    words_are = k.words_are;
    shown = each_set (IsShown L (trace_in (ordered L) k.turns)) views id (up_to (trace_in (ordered L) k.turns) st v)
        (k.shown id v at) (λ j u _. k.shown j u);
    here = each_set (λ (u : View). u.resigned ≡ false → (knowledge u).gone ≡ false) views id
        (up_to (trace_in (ordered L) k.turns) st v) (k.here id v at) (λ j u _. k.here j u);
    once = λ w. omega (arith, sum_after (stands w) views id v (up_to (trace_in (ordered L) k.turns) st v) at, k.once w);
    lags = each_set (LagsBehind (trace_in (ordered L) k.turns)) views id (up_to (trace_in (ordered L) k.turns) st v)
        (record {
          past = goes_on_itself (trace_in (ordered L) k.turns);
          heard = goes_on_from_nothing
              (trace_in (ordered L) k.turns);
        }) (λ j u _. k.lags j u);
  }

  module _ (alive : v.resigned ≡ false) (layout : v.layout ≡ L) where
    abbrev pub run_so_far : HasSeen (up_to (trace_in (ordered L) k.turns) st v)
    run_so_far =
        let stands = stands_in_run L words views id v k at alive layout in
        record {
          worker = stands.run.is_part.worker;
          events = k.turns;
          keys = k.keys;
          are = ap (λ (l : Layout). trace_in (ordered l) k.turns) (sym layout);
          is_part = own_part L words views id v k at alive;
          here = stands.run.here;
        }

    pub stores_so_far : (slots : ℕ) → AreStoresOf L slots k.turns st
        → (slots ≡ 0) ⊎ HasSeenStores (up_to (trace_in (ordered L) k.turns) st v)
    stores_so_far slots are = by are.linked
      where
        by : IfValued L slots k.turns st → (slots ≡ 0) ⊎ HasSeenStores (up_to (trace_in (ordered L) k.turns) st v)
        by (inl plain) = inl plain
        by (inr l) = inr (record {
          run = run_so_far;
          held = subst (λ (x : Layout). WereHeld x k.turns st)
              (sym layout) are.held;
          linked = subst (λ (x : Layout). LinksHaveValues x k.turns st) (sym layout) l;
          order = are.order;
        })

-- a table with values has some slots
pub seen_with_values : (b : TreeView) (v : View) → IsLayout b.layout → HasValues b
    → (b.table.slots ≡ 0) ⊎ HasSeenStores v → HasSeenStores v
seen_with_values b v fits values (inl plain) = absurd
    (let least = fits.least in let are = values.slots_are in omega (arith, least, are, plain))
seen_with_values b v fits values (inr seen) = seen

ties : (L : Layout) (slots id : ℕ) (v : View) (i : ℕ) → v.resigned ≡ false → v.layout ≡ L → i < words L
    → Allows (Kept L) slots id (v, []) i (λ n. n) (TellsItsStanding (step slots i 0 0 none) (v, []))
ties L slots id v i alive layout below = lifts L slots id v i (λ n. n)
    (TellsItsStanding (step slots i 0 0 none) (v, [])) below (λ core views k at small st are lag.
    let stands = stands_in_run L core views id v k at alive layout in
    let w : View = up_to (trace_in (ordered L) k.turns) st v in (
      w,
      reworded (sym (set-get_or core i 0)) (seen_so_far L core views id v k at st),
      grown_none L slots st k.turns,
      sees_all_stores st w refl (stores_from_nothing st),
      (
        refl,
        record {
          is = refl;
          past = (k.lags id v at).past;
          heard = (k.lags id v at).heard;
          stores = lag.seen;
          heard_stores = lag.heard;
        },
        run_so_far L core views id v k at st alive layout,
        record { alive = stands.alive; fits = stands.fits; run = stands.run; once = stands.once },
        stored_in_log L k.turns v.number v.log (own_part L core views id v k at alive) st are.held,
        stores_so_far L core views id v k at st alive layout slots are,
      ),
    ))

-- what the read asks of a seat
pub may_tie : (z : TableId) (key L : Layout) (it : Seat Unit View) (i : ℕ) → Laid z key L → it.table_id ≡ z
    → it.me.0.resigned ≡ false → it.me.1 ≡ [] → it.me.0.layout ≡ L → i ≡ word L at_epoch
    → (it.table_id ≡ z) × (i < z.words) × Allows (Kept key) z.slots it.id it.me i (λ n. n)
    (TellsItsStanding (step z.slots i 0 0 none) it.me)
may_tie z key L it i laid table alive empty layout index = (
  table,
  (let first = fields_within L at_epoch tt in let many = laid.words_are in omega (arith, index, first, many)),
  subst (λ (c : List (ℕ × Unit)). Allows (Kept key) z.slots it.id (it.me.0, c) i (λ n. n)
      (TellsItsStanding (step z.slots i 0 0 none) (it.me.0, c))) (sym empty)
      (ties key z.slots it.id it.me.0 i alive (layout ∙ sym laid.key_is)
      (subst (λ (l : Layout). i < words l) (sym laid.key_is)
      (let first = fields_within L at_epoch tt in omega (arith, index, first)))),
)
