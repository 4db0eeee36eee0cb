-- The rule holds at the start, and where views are cut and joined.
use Rattle.std.proofs.Common.{inl, ◌≡◌, ◌≢◌, ℕ, zero, suc, ◌+◌, ◌-◌, ◌<◌, ◌≤◌, Bool, true, false, cond, eqb, ltb, ◌||◌, true≢false, List, [], ◌∷◌, ◌++◌, length, set, refl, sym, ap, ◌∙◌, subst, ⊎_elim, ne_eqb, eq-eqb, add-zero, arith}
use Rattle.std.specs.List.{count_by}
use Rattle.std.proofs.lemmas.List.Sums.{sum_by-cons, sum_by-append}
use Rattle.std.proofs.lemmas.Bool.Decides.{nat_tests}
use Rattle.std.proofs.lemmas.Bool.{or_right}
use mathlib.Core.Option.{some, some-injective, some-ne-none}
use lib.ListN.{get_elem?}
use Rattle.atomic_table.specs.Table.{State, Splits, Joins, opening}
use Rattle.atomic_table.proofs.Lists.{at_set, at_snoc, set_else}
use Rattle.nm_edge.specs.Layouts.{Layout, IsLayout}
use Rattle.nm_model.specs.declared.event.Event.{Event}
use Rattle.nm_model.specs.declared.event.Event.TheVariants.{Join}
use Rattle.nm_model.specs.declared.reply.Reply.{Reply}
use Rattle.nm_model.specs.declared.reply.Reply.TheVariants.{Joined}
use Rattle.nm_model.specs.declared.trace.Turn.{Turn}
use Rattle.nm_model.specs.Memory as memory
use Rattle.nm_model.specs.Walks.{Entry}
use Rattle.nm_model.specs.Ordered.{ordered, after_in, trace_in}
use Rattle.nm_order.specs.Logs.{part_of, known_by}
use Rattle.nm_steps.specs.Packing.{words_of}
use Rattle.nm_steps.specs.declared.view.Held.{Held}
use Rattle.nm_steps.specs.declared.view.Stored.{Stored}
use Rattle.nm_steps.specs.declared.view.View.{View}
use Rattle.nm_steps.specs.Rules.{held_log, holdings, knowledge, stands, once_below, LogsAre, IsShown, LagsBehind, LagsInStores, Runs, WereHeld, Kept, numbers_from, viewing, everybody, own_alone, the_others, nobody, passing, informed, joining_view, noted_down, answered_turn}
use Rattle.nm_steps.specs.Steps.{HasEmptyHands, TreeView, PassView, fresh_view, AreFresh}
use Rattle.nm_steps.proofs.Counts.{sum_after, both_at_most_sum}
use Rattle.nm_steps.proofs.Growing.{goes_on_itself, goes_on_from_nothing, goes_on_by, behind_by}
use Rattle.nm_steps.proofs.Presence.{gone_kept, known_push}
use Rattle.nm_steps.proofs.Extending.{IsPartOf, words_after_join, trace_after_join}
use Rattle.nm_steps.proofs.Keeping.{live, stands_live, once_is, part_grows, part_stays, each_set}
use Rattle.nm_laws.proofs.Configurations.{keys_more}
use Rattle.nm_steps.proofs.StoreOrders.{heard_nothing, lags_for_nobody, lags_informed, sees_all_stores, none_in_order, stored_nothing, stores_from_nothing}
use Rattle.nm_steps.proofs.Valuing.{joined_links, grown_none, rewrap}
use Rattle.std.proofs.lemmas.List.{append-nil}

-- ---- the opening

held_by : (L : Layout) (hs : List Held) → holdings (viewing L hs) ≡ hs
held_by L [] = refl
held_by L (h ∷ hs) = refl

layout_of : (L : Layout) (hs : List Held) → (viewing L hs).layout ≡ L
layout_of L [] = refl
layout_of L (h ∷ hs) = refl

fresh : (L : Layout) (k n : ℕ) → LogsAre L L [] (numbers_from k n)
fresh L k zero = tt
fresh L k (suc n) = (refl, refl, fresh L (suc k) n)

fresh_here : (L : Layout) (k n : ℕ) → (knowledge (viewing L (numbers_from k n))).gone ≡ false
fresh_here L k zero = refl
fresh_here L k (suc n) = refl

abbrev pub times : ℕ → List Held → ℕ
times w hs = count_by (λ h. eqb w h.number) hs

pub times-cons : (w : ℕ) (h : Held) (hs : List Held) → times w (h ∷ hs) ≡ cond (eqb w h.number) 1 0 + times w hs
times-cons w h hs = sum_by-cons (λ (x : Held). cond (eqb w x.number) 1 0) h hs

once_between : (w k n : ℕ) → times w (numbers_from k n) ≡ cond (ltb w k) 0 (cond (ltb w (k + n)) 1 0)
once_between w k zero = grind (arith, nat_tests)
once_between w k (suc n) = let e = times-cons w (held_log k []) (numbers_from (suc k) n) in
    let r = once_between w (suc k) n in grind (arith, nat_tests, e, r)

-- at the start no value is stored, and no view has seen one
pub no_stores_seen : (L : Layout) (i : ℕ) (v : View) → get_elem? (everybody L ∷ []) i ≡ some v → LagsInStores [] v
no_stores_seen L zero v is = subst (LagsInStores []) (some-injective _ _ is)
    (sees_all_stores [] (everybody L) (no_values (numbers_from 0 L.workers))
    (heard_nothing [] (everybody L) (none_heard (numbers_from 0 L.workers))))
  where
    no_values : (hs : List Held) → (viewing L hs).stores ≡ []
    no_values [] = refl
    no_values (h ∷ hs) = refl

    none_heard : (hs : List Held) → (viewing L hs).heard_stores ≡ []
    none_heard [] = refl
    none_heard (h ∷ hs) = refl
no_stores_seen L (suc i) v is = absurd (some-ne-none v (sym is))

pub opens : (L : Layout) (words : List ℕ) → IsLayout L → words ≡ words_of L (memory.opening L)
    → Kept L (opening words [] (everybody L))
unfolding after_in trace_in
opens L words fits e = record {
  core = words;
  values = [];
  words_are = sym (append-nil words);
  long = refl;
  runs = runs;
  stores = [];
  valued = record {
    are = λ i below. absurd (omega (arith, below));
    held = tt;
    linked = inl refl;
    order =
        none_in_order;
    seen = no_stores_seen L;
  };
}
  where
    under : (w n : ℕ) → cond (ltb w 0) 0 (cond (ltb w (0 + n)) 1 0) ≡ once_below w n
    under w n = grind (arith, nat_tests)

    nothing_seen : (hs : List Held) → LagsBehind [] (viewing L hs)
    nothing_seen [] = record { past = goes_on_itself []; heard = goes_on_itself [] }
    nothing_seen (h ∷ hs) = record { past = goes_on_itself []; heard = goes_on_itself [] }

    first_behind : (i : ℕ) (v : View) → get_elem? (everybody L ∷ []) i ≡ some v → LagsBehind [] v
    first_behind zero v is = subst (LagsBehind []) (some-injective _ _ is) (nothing_seen (numbers_from 0 L.workers))
    first_behind (suc i) v is = absurd (some-ne-none v (sym is))

    all : IsShown L [] (everybody L)
    all = subst (LogsAre (everybody L).layout L []) (sym (held_by L (numbers_from 0 L.workers)))
        (subst (λ (l : Layout). LogsAre l L [] (numbers_from 0 L.workers))
        (sym (layout_of L (numbers_from 0 L.workers))) (fresh L 0 L.workers))

    first_here : (i : ℕ) (v : View) → get_elem? (everybody L ∷ []) i ≡ some v → v.resigned ≡ false
        → (knowledge v).gone ≡ false
    first_here zero v is alive = subst (λ (x : View). (knowledge x).gone ≡ false) (some-injective _ _ is)
        (fresh_here L 0 L.workers)
    first_here (suc i) v is alive = absurd (some-ne-none v (sym is))

    first : (i : ℕ) (v : View) → get_elem? (everybody L ∷ []) i ≡ some v → IsShown L [] v
    first zero v is = subst (IsShown L []) (some-injective _ _ is) all
    first (suc i) v is = absurd (some-ne-none v (sym is))

    runs : Runs L words (everybody L ∷ [])
    runs = record {
      fits = fits;
      turns = [];
      keys = λ i d below. absurd (omega arith);
      words_are = e;
      shown = first;
      here = first_here;
      once = λ w. sum_by-cons (stands w) (everybody L) [] ∙ add-zero (stands w (everybody L))
          ∙ (let a : times w (holdings (everybody L)) ≡ cond (ltb w 0) 0 (cond (ltb w (0 + L.workers)) 1 0) = ap
          (times w) (held_by L (numbers_from 0 L.workers)) ∙ once_between w 0 L.workers in a ∙ under w L.workers);
      lags = first_behind;
    }

-- the run has no turn yet
pub opens_with_none : (L : Layout) (tree : List ℕ) (fits : IsLayout L) (e : tree ≡ words_of L (memory.opening L))
    → (opens L tree fits e).runs.turns ≡ []
unfolding opens
opens_with_none L tree fits e = refl

-- ---- cutting

abbrev IsHere : View → Type 0
IsHere v = v.resigned ≡ false → (knowledge v).gone ≡ false

cuts : (L : Layout) (id : ℕ) (v left right : View)
    → ((t : List Turn) → IsShown L t v → IsShown L t left × IsShown L t right)
    → (IsHere v → IsHere left × IsHere right) → ((w : ℕ) → stands w left + stands w right ≡ stands w v)
    → ((ts : List Turn) → LagsBehind ts v → LagsBehind ts left × LagsBehind ts right)
    → ((turns : List (ℕ × Event)) (st : List Stored) → WereHeld L turns st
    → IsShown L (trace_in (ordered L) turns) left → LagsInStores st v
    → LagsInStores st left × LagsInStores st right) → Splits (Kept L) id v left right
cuts L id v left right keep stay count lag had s K at = rewrap L s.words (length s.homes) s.views
    (set s.views id left ++ right ∷ []) K
    (record {
      fits = K.runs.fits;
      turns = K.runs.turns;
      keys = K.runs.keys;
      words_are = K.runs.words_are;
      shown = each (IsShown L (trace_in (ordered L) K.runs.turns))
          (keep (trace_in (ordered L) K.runs.turns) (K.runs.shown id v at)) K.runs.shown;
      here = each IsHere (stay (K.runs.here id v at)) K.runs.here;
      once = λ w. sum_by-append (stands w) (set s.views id left) (right ∷ [])
          ∙ omega (
            arith,
            sum_by-cons (stands w) right [],
            sum_after (stands w) s.views id v left at,
            count w,
            K.runs.once w,
          );
      lags = each (LagsBehind (trace_in (ordered L) K.runs.turns))
          (lag (trace_in (ordered L) K.runs.turns) (K.runs.lags id v at)) K.runs.lags;
    })
    (grown_none L (length s.homes) K.stores K.runs.turns)
    (each (LagsInStores K.stores) (had K.runs.turns K.stores K.valued.held
    (keep (trace_in (ordered L) K.runs.turns) (K.runs.shown id v at)).0 (K.valued.seen id v at)) K.valued.seen)
  where
    each : (P : View → Type 0) → P left × P right → ((j : ℕ) (u : View) → get_elem? s.views j ≡ some u → P u)
        → (j : ℕ) (u : View) → get_elem? (set s.views id left ++ right ∷ []) j ≡ some u → P u
    each P both others j u is = ⊎_elim (each_set P s.views id left both.0 (λ j u _. others j u) j u)
        (λ (x : right ≡ u). subst P x both.1) (at_snoc (set s.views id left) right u j is)

logs_both : (l m L : Layout) (t : List Turn) (hs gs : List Held) → l ≡ m → LogsAre l L t hs → LogsAre m L t gs
    → LogsAre l L t (hs ++ gs)
logs_both l m L t [] gs e a b = subst (λ (x : Layout). LogsAre x L t gs) (sym e) b
logs_both l m L t (h ∷ hs) gs e a b = (a.0, a.1, logs_both l m L t hs gs e a.2 b)

-- ---- dealing

-- what is left when the numbers below k are dealt
abbrev pub left_from : Layout → ℕ → View
left_from L k = viewing L (numbers_from k (L.workers - k))

abbrev with_others : Layout → ℕ → List Held → View
with_others L k hs = record {
  layout = L;
  resigned = false;
  number = k;
  log = [];
  others = hs;
  past = [];
  heard = [];
  stores = [];
  heard_stores = [];
}

left_has : (L : Layout) (k m : ℕ) → m ≡ suc (L.workers - suc k)
    → viewing L (numbers_from k m) ≡ with_others L k (numbers_from (suc k) (L.workers - suc k))
left_has L k m e = ap (λ (n : ℕ). viewing L (numbers_from k n)) e

left_is : (L : Layout) (k : ℕ) → k < L.workers → left_from L k
    ≡ with_others L k (numbers_from (suc k) (L.workers - suc k))
left_is L k h = left_has L k (L.workers - k) (omega arith)

left_alive : (L : Layout) (k : ℕ) (v : View) → v ≡ left_from L k → k < L.workers → v.resigned ≡ false
left_alive L k v e h = ap (λ (x : View). x.resigned) (e ∙ left_is L k h)

pub left_others : (L : Layout) (k : ℕ) (v : View) → v ≡ left_from L k → k < L.workers
    → the_others v ≡ left_from L (k + 1)
left_others L k v e h = ap the_others (e ∙ left_is L k h) ∙ ap (left_from L) (let q : suc k ≡ k + 1 = omega arith in q)

pub left_own : (L : Layout) (k : ℕ) (v : View) → v ≡ left_from L k → k < L.workers → own_alone v ≡ fresh_view L k
left_own L k v e h = ap own_alone (e ∙ left_is L k h)

-- none of those that are left has stored a value
left_seen : (L : Layout) (k n : ℕ) (turns : List (ℕ × Event)) (st : List Stored) → (1 ≤ n → k < L.workers)
    → WereHeld L turns st → IsShown L (trace_in (ordered L) turns) (viewing L (numbers_from k n))
    → LagsInStores st (viewing L (numbers_from k n))
left_seen L k zero turns st below held shown = lags_for_nobody st (viewing L []) (stores_from_nothing st) refl refl
left_seen L k (suc n) turns st below held shown = record {
  seen = record { more = st; is = refl };
  own = λ alive. stored_nothing L turns k (below (omega arith)) (sym shown.1) st held;
  heard = stores_from_nothing st;
}

-- the own log goes to a seat of its own
pub deals : (L : Layout) (id k : ℕ) (v : View) → v ≡ left_from L k → k < L.workers
    → Splits (Kept L) id v (the_others v) (own_alone v)
deals L id k v is below =
    let alive = left_alive L k v is below in
    cuts L id v (the_others v) (own_alone v)
    (λ t a. let b = subst (LogsAre v.layout L t) (live v alive) a in (
      subst (LogsAre (the_others v).layout L t) (sym (held_by v.layout v.others))
          (subst (λ (l : Layout). LogsAre l L t v.others) (sym (layout_of v.layout v.others)) b.2),
      subst (LogsAre v.layout L t) (sym (live (own_alone v) alive)) (b.0, b.1, tt),
    ))
    (λ h. (
      (λ _. subst (λ (x : View). (knowledge x).gone ≡ false) (sym (left_others L k v is below))
          (fresh_here L (k + 1) (L.workers - (k + 1)))),
      h,
    ))
    (λ w. omega (
      arith,
      ap (times w) (held_by v.layout v.others),
      ap (times w) (live (own_alone v) alive),
      ap
          (times w) (live v alive),
      times-cons w (held_log v.number v.log) v.others,
      times-cons w
          (held_log v.number v.log) [],
    ))
    (λ ts b. (nothing_seen v.layout v.others ts, record { past = b.past; heard = b.heard }))
    (λ turns st held shown h. (
      subst (LagsInStores st) (sym (left_others L k v is below))
          (left_seen L (k + 1) (L.workers - (k + 1)) turns st (λ n. omega arith) held
          (subst (IsShown L (trace_in (ordered L) turns)) (left_others L k v is below) shown)),
      record { seen = h.seen; own = h.own; heard = h.heard },
    ))
  where
    nothing_seen : (l : Layout) (hs : List Held) (ts : List Turn) → LagsBehind ts (viewing l hs)
    nothing_seen l [] ts = record { past = goes_on_from_nothing ts; heard = goes_on_from_nothing ts }
    nothing_seen l (h ∷ hs) ts = record { past = goes_on_from_nothing ts; heard = goes_on_from_nothing ts }

-- ---- notes

-- a note stands for nobody, and has seen what the view has
pub writes_down : (L : Layout) (id : ℕ) (v : View) → Splits (Kept L) id v v (noted_down v)
writes_down L id v = cuts L id v v (noted_down v) (λ t a. (a, tt)) (λ h. (h, λ e. absurd (true≢false e)))
    (λ w. add-zero (stands w v)) (λ ts b. (b, record { past = b.past; heard = goes_on_from_nothing ts }))
    (λ turns st held shown h. (h, lags_for_nobody st (noted_down v) h.seen refl refl))

-- what holds of two views that are set, and of each other, holds of each
each_two : (P : View → Type 0) (views : List View) (id other : ℕ) (now then' : View) → P now → P then'
    → ((j : ℕ) (u : View) → j ≢ id → j ≢ other → get_elem? views j ≡ some u → P u)
    → (j : ℕ) (u : View) → get_elem? (set (set views id now) other then') j ≡ some u → P u
each_two P views id other now then' first second others j u is =
    ⊎_elim
    (λ (x : (j ≡ other) × (then' ≡ u)). subst P x.1 second)
    (λ (x : (j ≢ other) × (get_elem? (set views id now) j ≡ some u)).
    ⊎_elim (λ (y : (j ≡ id) × (now ≡ u)). subst P y.1 first)
    (λ (y : (j ≢ id) × (get_elem? views j ≡ some u)). others j u y.0 x.0 y.1) (at_set views id j now u x.1))
    (at_set (set views id now) other j then' u is)

-- a view may hear of what one has seen that stands for nobody
pub hears : (L : Layout) (id : ℕ) (v : View) (other : ℕ) (w : View) → w.resigned ≡ true
    → Joins (Kept L) id v other w (informed v w) nobody
hears L id v other w resigned s K at apart at' = rewrap L s.words (length s.homes) s.views
    (set (set s.views id (informed v w)) other nobody) K
    (record {
      fits = K.runs.fits;
      turns = K.runs.turns;
      keys = K.runs.keys;
      words_are = K.runs.words_are;
      shown = each_two (IsShown L (trace_in (ordered L) K.runs.turns)) s.views id other (informed v w) nobody
          (K.runs.shown id v at) tt (λ j u _ _. K.runs.shown j u);
      here = each_two IsHere s.views id other (informed v w) nobody (K.runs.here id v at)
          (λ e. absurd (true≢false e)) (λ j u _ _. K.runs.here j u);
      once = λ n. omega (
        arith,
        sum_after (stands n) (set s.views id (informed v w)) other w nobody at',
        sum_after
            (stands n) s.views id v (informed v w) at,
        no_log n,
        K.runs.once n,
      );
      lags = each_two (LagsBehind (trace_in (ordered L) K.runs.turns)) s.views id other (informed v w) nobody
          (record { past = (K.runs.lags id v at).past; heard = (K.runs.lags other w was).past })
          (record {
            past = goes_on_from_nothing (trace_in (ordered L) K.runs.turns);
            heard = goes_on_from_nothing
                (trace_in (ordered L) K.runs.turns);
          }) (λ j u _ _. K.runs.lags j u);
    })
    (grown_none L (length s.homes) K.stores K.runs.turns)
    (each_two (LagsInStores K.stores) s.views id other (informed v w) nobody
    (lags_informed K.stores v w (informed v w) (K.valued.seen id v at) (K.valued.seen other w was) refl refl refl
    refl) (lags_for_nobody K.stores nobody (stores_from_nothing K.stores) refl refl) (λ j u _ _. K.valued.seen j u))
  where
    was : get_elem? s.views other ≡ some w
    was = sym (set_else s.views id other (informed v w) apart) ∙ at'

    no_log : (n : ℕ) → stands n w ≡ 0
    no_log n = ap (λ (b : Bool). times n (cond b [] (held_log w.number w.log ∷ w.others))) resigned

-- ---- joining

module _ (L : Layout) (id : ℕ) (v : View) (other : ℕ) (w : View) (alive : v.resigned ≡ false)
    (alive' : w.resigned ≡ false) (hands : HasEmptyHands (knowledge w)) (s : State Unit View) (core : List ℕ)
    (k : Runs L core s.views)
    (at : get_elem? s.views id ≡ some v) (apart : ¬ (other ≡ id)) (at' : get_elem? s.views other ≡ some w) where
  abbrev before : List Turn
  before = trace_in (ordered L) k.turns

  first_log : LogsAre v.layout L before (held_log v.number v.log ∷ v.others)
  first_log = subst (LogsAre v.layout L before) (live v alive) (k.shown id v at)

  second_log : LogsAre w.layout L before (held_log w.number w.log ∷ w.others)
  second_log = subst (LogsAre w.layout L before) (live w alive') (k.shown other w at')

  -- how often a number stands in both together
  shares : (n : ℕ) → stands n v + stands n w ≤ once_below n L.workers
  shares n = omega (arith, both_at_most_sum (stands n) s.views id other v w (λ e. apart (sym e)) at at', k.once n)

  own_counts : (stands v.number v ≡ 1 + times v.number v.others) × (stands w.number w ≡ 1 + times w.number w.others)
  own_counts = (stands_live v alive, stands_live w alive')

  cross : (n : ℕ) → (stands n v ≡ cond (eqb n v.number) 1 0 + times n v.others)
      × (stands n w ≡ cond (eqb n w.number) 1 0 + times n w.others)
  cross n = (
    ap (times n) (live v alive) ∙ times-cons n (held_log v.number v.log) v.others,
    ap (times n)
        (live w alive') ∙ times-cons n (held_log w.number w.log) w.others,
  )

  ones : (once_below v.number L.workers ≤ 1) × (once_below w.number L.workers ≤ 1)
  ones = ((once_is v.number L.workers).0, (once_is w.number L.workers).0)

  differ : v.number ≢ w.number
  differ e =
      let a = shares v.number in
      let b : stands v.number w ≡ 1 + times w.number w.others = ap (λ (n : ℕ). stands n w) e ∙ own_counts.1 in
      absurd (omega (arith, own_counts.0, ones.0))

  numbers : (v.number < L.workers) × (w.number < L.workers)
  numbers = (
    (once_is v.number L.workers).1 (omega (arith, shares v.number, own_counts.0)),
    (once_is w.number L.workers).1 (omega (arith, shares w.number, own_counts.1)),
  )

  heir : IsPartOf L v.number v.log k.turns
  heir = record {
    fits = k.fits;
    keys = k.keys;
    worker = numbers.0;
    is_part = first_log.1;
    here = subst
        (λ (l : Layout). (known_by l v.number v.log).gone ≡ false) first_log.0 (k.here id v at alive);
  }

  leaver : IsPartOf L w.number w.log k.turns
  leaver = record {
    fits = k.fits;
    keys = k.keys;
    worker = numbers.1;
    is_part = second_log.1;
    here = subst
        (λ (l : Layout). (known_by l w.number w.log).gone ≡ false) second_log.0 (k.here other w at' alive');
  }

  empty : HasEmptyHands (known_by L w.number w.log)
  empty = subst (λ (l : Layout). HasEmptyHands (known_by l w.number w.log)) second_log.0 hands

  abbrev more : List (ℕ × Event)
  more = k.turns ++ (v.number, Join w.number) ∷ []

  abbrev reply : Reply
  reply = Joined (knowledge w).ledgers

  trace_is : trace_in (ordered L) more ≡ before ++ answered_turn v.number (Join w.number) reply ∷ []
  trace_is =
      trace_after_join L v.number w.number v.log w.log k.turns heir leaver differ empty
      ∙ ap (λ (l : Layout). before ++ answered_turn v.number (Join w.number)
      (Joined (known_by l w.number w.log).ledgers) ∷ []) (sym second_log.0)

  heirs_part : part_of v.number (trace_in (ordered L) more) ≡ part_of v.number before ++ passing w ∷ []
  heirs_part = ap (part_of v.number) trace_is ∙ part_grows v.number before v.number (Join w.number) reply
      (ap (λ (b : Bool). b || eqb w.number v.number) (eq-eqb v.number v.number refl))

  leavers_part : part_of w.number (trace_in (ordered L) more) ≡ part_of w.number before ++ passing w ∷ []
  leavers_part = ap (part_of w.number) trace_is ∙ part_grows w.number before v.number (Join w.number) reply
      (ap (λ (b : Bool). eqb v.number w.number || b) (eq-eqb w.number w.number refl)
      ∙ or_right (eqb v.number w.number) true refl)

  others_part : (u : ℕ) → eqb v.number u ≡ false → eqb w.number u ≡ false
      → part_of u (trace_in (ordered L) more) ≡ part_of u before
  others_part u p q = ap (part_of u) trace_is ∙ part_stays u before v.number (Join w.number) reply (λ i. p i || q i)

  kept_by : (l : Layout) (hs : List Held) → times v.number hs ≡ 0 → times w.number hs ≡ 0 → LogsAre l L before hs
      → LogsAre l L (trace_in (ordered L) more) hs
  kept_by l [] a b c = tt
  kept_by l (h ∷ hs) a b c = cases (eqb v.number h.number) refl (eqb w.number h.number) refl
      (λ p q. kept_by l hs p q c.2)
    where
      one : cond (eqb v.number h.number) 1 0 + times v.number hs ≡ 0
      one = sym (times-cons v.number h hs) ∙ a

      two : cond (eqb w.number h.number) 1 0 + times w.number hs ≡ 0
      two = sym (times-cons w.number h hs) ∙ b

      cases : (x : Bool) → eqb v.number h.number ≡ x → (y : Bool) → eqb w.number h.number ≡ y
          → (times v.number hs ≡ 0 → times w.number hs ≡ 0 → LogsAre l L (trace_in (ordered L) more) hs)
          → LogsAre l L (trace_in (ordered L) more) (h ∷ hs)
      cases true is y too rec = absurd (let q : 1 + times v.number hs ≡ 0 = rw is at one in omega arith)
      cases false is true too rec = absurd (let q : 1 + times w.number hs ≡ 0 = rw too at two in omega arith)
      cases false is false too rec = (
        c.0,
        c.1 ∙ sym (others_part h.number is too),
        rec (let q : 0 + times v.number hs ≡ 0 = rw is at one in omega arith)
            (let q : 0 + times w.number hs ≡ 0 = rw too at two in omega arith),
      )

  together : IsShown L (trace_in (ordered L) more) (joining_view v w)
  together =
      let x = shares v.number in let y = shares w.number in let p = cross v.number in let q = cross w.number in
      subst (LogsAre v.layout L (trace_in (ordered L) more)) (sym (live (joining_view v w) alive)) (
        first_log.0,
        ap (λ (l : List Entry). l ++ passing w ∷ []) first_log.1 ∙ sym heirs_part,
        logs_both v.layout w.layout L (trace_in (ordered L) more) v.others
            (held_log w.number (w.log ++ passing w ∷ []) ∷ w.others) (first_log.0 ∙ sym second_log.0)
            (kept_by v.layout v.others (omega (arith, own_counts, ones)) (omega (arith, own_counts, ones))
            first_log.2) (
              second_log.0,
              ap (λ (l : List Entry). l ++ passing w ∷ []) second_log.1 ∙ sym leavers_part,
              kept_by w.layout w.others (omega (arith, own_counts, ones)) (omega (arith, own_counts, ones))
                  second_log.2,
            ),
      )

  elsewhere : (j : ℕ) (u : View) → j ≢ id → j ≢ other → get_elem? s.views j ≡ some u
      → IsShown L (trace_in (ordered L) more) u
  elsewhere j u ne ne' is =
      kept_by u.layout (holdings u)
      (omega (
        arith,
        both_at_most_sum (stands v.number) s.views j id u v ne is at,
        k.once v.number,
        own_counts.0,
        ones.0,
      ))
      (omega (
        arith,
        both_at_most_sum (stands w.number) s.views j other u w ne' is at',
        k.once w.number,
        own_counts.1,
        ones.1,
      ))
      (k.shown j u is)

  counted : (n : ℕ) → stands n (joining_view v w) ≡ stands n v + stands n w
  counted n = omega (
    arith,
    cross n,
    ap (times n) (live (joining_view v w) alive),
    times-cons n (held_log v.number (v.log ++ passing w ∷ []))
        (v.others ++ held_log w.number (w.log ++ passing w ∷ []) ∷ w.others),
    sum_by-append (λ (h : Held). cond (eqb n h.number) 1 0) v.others
        (held_log w.number (w.log ++ passing w ∷ []) ∷ w.others),
    times-cons n (held_log w.number (w.log ++ passing w ∷ [])) w.others,
  )

  at'' : get_elem? (set s.views id (joining_view v w)) other ≡ some w
  at'' = set_else s.views id other (joining_view v w) apart ∙ at'

  here_joined : IsHere (joining_view v w)
  here_joined e =
      ap (λ x. x.gone) (known_push v.number v.layout v.log (passing w))
      ∙ (gone_kept v.number (knowledge v) (Join w.number) reply
      (ne_eqb w.number v.number (λ same. differ (sym same))) ∙ k.here id v at alive)

  abbrev turn : Turn
  turn = answered_turn v.number (Join w.number) reply

  longer : (u : View) → LagsBehind (before ++ turn ∷ []) u → LagsBehind (trace_in (ordered L) more) u
  longer u = subst (λ (ts : List Turn). LagsBehind ts u) (sym trace_is)

  behind_joined : LagsBehind (trace_in (ordered L) more) (joining_view v w)
  behind_joined = longer (joining_view v w) (record {
    past = goes_on_by before v.past turn (k.lags id v at).past;
    heard = goes_on_by before w.past turn
        (k.lags other w at').past;
  })

  abbrev joint : Runs L core (set (set s.views id (joining_view v w)) other nobody)
  joint = record {
    fits = k.fits;
    turns = more;
    keys = keys_more k.turns (v.number, Join w.number) k.keys tt;
    words_are = k.words_are ∙ sym (words_after_join L v.number w.number v.log w.log k.turns heir leaver differ empty);
    shown = each_two (IsShown L (trace_in (ordered L) more)) s.views id other (joining_view v w) nobody together tt
        elsewhere;
    here = each_two IsHere s.views id other (joining_view v w) nobody here_joined (λ e. absurd (true≢false e))
        (λ j u _ _. k.here j u);
    once = λ n. omega (
      arith,
      sum_after (stands n) (set s.views id (joining_view v w)) other w nobody at'',
      sum_after
          (stands n) s.views id v (joining_view v w) at,
      counted n,
      k.once n,
    );
    lags = each_two (LagsBehind (trace_in (ordered L) more)) s.views id other (joining_view v w) nobody behind_joined
        (record {
          past = goes_on_from_nothing (trace_in (ordered L) more);
          heard = goes_on_from_nothing
              (trace_in (ordered L) more);
        }) (λ j u _ _ is. longer u (behind_by before turn u (k.lags j u is)));
  }

-- the first stands for both, and the join is an event of both
pub joins : (L : Layout) (id : ℕ) (v : View) (other : ℕ) (w : View) → v.resigned ≡ false → w.resigned ≡ false
    → HasEmptyHands (knowledge w) → Joins (Kept L) id v other w (joining_view v w) nobody
joins L id v other w alive alive' hands s K at apart at' =
    let was = sym (set_else s.views id other (joining_view v w) apart) ∙ at' in
    rewrap L s.words (length s.homes) s.views (set (set s.views id (joining_view v w)) other nobody) K
    (joint L id v other w alive alive' hands s K.core K.runs at apart was) (record {
      rest = (v.number, Join w.number) ∷ [];
      is = refl;
      linked = joined_links L (length s.homes) K.stores K.runs.turns v.number w.number;
    })
    (each_two (LagsInStores K.stores) s.views id other (joining_view v w) nobody
    (lags_informed K.stores v w (joining_view v w) (K.valued.seen id v at) (K.valued.seen other w was) refl refl
    refl refl) (lags_for_nobody K.stores nobody (stores_from_nothing K.stores) refl refl)
    (λ j u _ _. K.valued.seen j u))

pub fresh_push : (b : TreeView) (k n : ℕ) (ps : List PassView) (p : PassView) → AreFresh b k ps → k + length ps ≡ n
    → p.table ≡ b.table → p.view ≡ fresh_view b.layout n → AreFresh b k (ps ++ p ∷ [])
fresh_push b k n [] p a e t v = (t, v ∙ ap (fresh_view b.layout) (omega arith), tt)
fresh_push b k n (q ∷ ps) p a e t v = (a.0, a.1, fresh_push b (suc k) n ps p a.2 (omega arith) t v)
