-- Each step keeps the rule.
use Rattle.std.proofs.Common.{◌≡◌, ◌≢◌, ℕ, ◌+◌, ◌<◌, ◌≤◌, Bool, true, false, cond, eqb, ltb, ◌||◌, List, [], ◌∷◌, ◌++◌, length, set, refl, sym, ap, ◌∙◌, subst, ⊎_elim, ◌⊎◌, inl, inr, eq-eqb, true≢false, arith}
use Rattle.std.specs.Prelude.{slice_index, slice_set}
use Rattle.std.specs.List.{sum_by, count_by}
use Rattle.std.proofs.lemmas.List.{append-nil}
use Rattle.std.proofs.lemmas.List.Sums.{sum_by-cons}
use Rattle.std.proofs.lemmas.Bool.Decides.{nat_tests}
use mathlib.Core.Option.{some, none}
use native.Mathlib.Decide.{ℕ_discrete}
use lib.ListN.{get_elem?}
use Rattle.atomic_table.specs.Table.{Me, Step, step, Allows, keeps}
use Rattle.atomic_table.specs.Seated.{TableId}
use Rattle.atomic_table.specs.declared.shared.Seat.{Seat}
use Rattle.atomic_table.proofs.Lists.{at_set}
use Rattle.nm_edge.specs.Layouts.{Layout, IsLayout}
use Rattle.nm_edge.specs.Words.{IsField, word, words as all_words}
use Rattle.nm_edge.proofs.Words.{fields_within}
use Rattle.nm_model.specs.declared.event.Event.{Event}
use Rattle.nm_model.specs.declared.event.Event.TheVariants.{Join}
use Rattle.nm_model.specs.declared.reply.Reply.{Reply}
use Rattle.nm_model.specs.declared.trace.Turn.{Turn}
use Rattle.nm_model.specs.Knowledge.{Knowledge}
use Rattle.nm_model.specs.Runs.{of}
use Rattle.nm_model.specs.Learning.{learn}
use Rattle.nm_model.specs.Walks.{Entry}
use Rattle.nm_model.specs.Ordered.{ordered, after_in, trace_in}
use Rattle.nm_order.specs.Logs.{takes_part, is_leaver, part_of, known_by}
use Rattle.nm_order.specs.OwnBirths.{births_by}
use Rattle.nm_order.proofs.AnswersSince.{part-append}
use Rattle.nm_order.proofs.PartsOfRuns.{logs_tell}
use Rattle.nm_steps.specs.Packing.{words_of, word_at, touched_field, left_word}
use Rattle.nm_steps.specs.Told.{told}
use Rattle.nm_steps.specs.declared.view.Held.{Held}
use Rattle.nm_steps.specs.declared.view.Stored.{Stored}
use Rattle.nm_steps.specs.declared.view.View.{View}
use Rattle.nm_steps.specs.Rules.{held_log, holdings, knowledge, known_births, stands, once_below, ExtendsStores, LogsAre, IsShown, LagsBehind, LagsInStores, Runs, Kept, answered_turn, logged, is_store, IsFound, Did, Extends, LinkHasValue, HasValueFor}
use Rattle.nm_steps.specs.Steps.{May, IsReadyFor, IsDone, Changes, IsBlind}
use Rattle.nm_steps.proofs.Counts.{at_most_sum, both_at_most_sum, sum_after}
use Rattle.nm_steps.proofs.Growing.{goes_on_itself, goes_on_by, behind_by}
use Rattle.nm_steps.proofs.Presence.{gone_kept, known_push}
use Rattle.nm_steps.proofs.Extending.{IsPartOf, words_after, trace_after}
use Rattle.nm_steps.proofs.StoreOrders.{SameStores, lags_kept}
use Rattle.nm_steps.proofs.Valuing.{value_still, value_there, AreStoresOf, Grows, IfValued, IsPair, held_longer, last_or_earlier, reworded, run_long}
use Rattle.std.proofs.lemmas.List.{get_or_append_left, set-append_left}
use Rattle.nm_laws.proofs.Configurations.{keys_more}

pub once_is : (w n : ℕ) → (once_below w n ≤ 1) × (1 ≤ once_below w n → w < n)
once_is w n = cases (ltb w n) refl
  where
    cases : (b : Bool) → ltb w n ≡ b → (cond b 1 0 ≤ 1) × (1 ≤ cond b 1 0 → w < n)
    cases true e = (omega arith, λ h. grind (arith, nat_tests))
    cases false e = (omega arith, λ h. absurd (omega arith))

pub live : (v : View) → v.resigned ≡ false → holdings v ≡ held_log v.number v.log ∷ v.others
live v h = ap (λ (b : Bool). cond b [] (held_log v.number v.log ∷ v.others)) h

pub stands_live : (v : View) → v.resigned ≡ false
    → stands v.number v ≡ 1 + count_by (λ h. eqb v.number h.number) v.others
stands_live v h =
    ap (count_by (λ (x : Held). eqb v.number x.number)) (live v h)
    ∙ sum_by-cons (λ (x : Held). cond (eqb v.number x.number) 1 0) (held_log v.number v.log) v.others
    ∙ ap (λ (b : Bool). cond b 1 0 + count_by (λ (x : Held). eqb v.number x.number) v.others)
    (eq-eqb v.number v.number refl)

-- ---- the part of a trace with one turn more

-- an event that is no join is in the log of its worker alone
pub no_leaver : (L : Layout) (w : ℕ) (log : List Entry) (e : Event) → May L w log e → (u : ℕ) → is_leaver u e ≡ false
no_leaver L w log (Join v) may u = absurd may.births
no_leaver L w log e may u = refl

pub part_grows : (u : ℕ) (ts : List Turn) (w : ℕ) (e : Event) (r : Reply) → takes_part u w e ≡ true
    → part_of u (ts ++ answered_turn w e r ∷ []) ≡ part_of u ts ++ (e, r) ∷ []
part_grows u ts w e r takes = part-append u ts (answered_turn w e r ∷ [])
    ∙ ap (λ (b : Bool). part_of u ts ++ (cond b ((e, r) ∷ []) [] ++ [])) takes

pub part_stays : (u : ℕ) (ts : List Turn) (w : ℕ) (e : Event) (r : Reply) → takes_part u w e ≡ false
    → part_of u (ts ++ answered_turn w e r ∷ []) ≡ part_of u ts
part_stays u ts w e r apart = part-append u ts (answered_turn w e r ∷ [])
    ∙ (ap (λ (b : Bool). part_of u ts ++ (cond b ((e, r) ∷ []) [] ++ [])) apart ∙ append-nil (part_of u ts))

-- the logs of other numbers are as they were
pub others_kept : (l L : Layout) (t t' : List Turn) (w : ℕ)
    → ((u : ℕ) → eqb w u ≡ false → part_of u t' ≡ part_of u t) → (hs : List Held)
    → count_by (λ h. eqb w h.number) hs ≡ 0 → LogsAre l L t hs → LogsAre l L t' hs
others_kept l L t t' w same [] c a = tt
others_kept l L t t' w same (h ∷ hs) c a = cases (eqb w h.number) refl (λ q. others_kept l L t t' w same hs q a.2)
  where
    sum : cond (eqb w h.number) 1 0 + count_by (λ h. eqb w h.number) hs ≡ 0
    sum = sym (sum_by-cons (λ (x : Held). cond (eqb w x.number) 1 0) h hs) ∙ c

    cases : (b : Bool) → eqb w h.number ≡ b → (count_by (λ h. eqb w h.number) hs ≡ 0 → LogsAre l L t' hs)
        → LogsAre l L t' (h ∷ hs)
    cases true is rec = absurd (let q : 1 + count_by (λ (x : Held). eqb w x.number) hs ≡ 0 = rw is at sum in
        omega arith)
    cases false is rec = (
      a.0,
      a.1 ∙ sym (same h.number is),
      rec
          (let q : 0 + count_by (λ (x : Held). eqb w x.number) hs ≡ 0 = rw is at sum in omega arith),
    )

-- ---- one step

left_same : (L : Layout) (w : ℕ) (log : List Entry) (e : Event) (r : Reply) → May L w log e
    → (learn w (known_by L w log) e r).gone ≡ (known_by L w log).gone
left_same L w log e r may = gone_kept w (known_by L w log) e r (no_leaver L w log e may w)

-- what holds of a view that is set, and of each other, holds of each
pub each_set : (P : View → Type 0) (views : List View) (id : ℕ) (now : View) → P now
    → ((j : ℕ) (u : View) → j ≢ id → get_elem? views j ≡ some u → P u) → (j : ℕ) (u : View)
    → get_elem? (set views id now) j ≡ some u → P u
each_set P views id now own others j u is =
    ⊎_elim (λ (x : (j ≡ id) × (now ≡ u)). subst P x.1 own)
    (λ (x : (j ≢ id) × (get_elem? views j ≡ some u)). others j u x.0 x.1) (at_set views id j now u is)

module _ (L : Layout) (words : List ℕ) (views : List View) (id : ℕ) (v : View) (e : Event) (i : ℕ)
    (k : Runs L words views) (at : get_elem? views id ≡ some v) (alive : v.resigned ≡ false) (layout : v.layout ≡ L)
    (index : i ≡ word L (touched_field v.number e)) (may : May L v.number v.log e) where
  abbrev trace : List Turn
  trace = trace_in (ordered L) k.turns

  mine : LogsAre v.layout L trace (held_log v.number v.log ∷ v.others)
  mine = subst (LogsAre v.layout L trace) (live v alive) (k.shown id v at)

  counted : (sum_by (stands v.number) views ≡ 1) × (v.number < L.workers)
  counted =
      let one = once_is v.number L.workers in
      let here = at_most_sum (stands v.number) views id v at in
      let all = k.once v.number in
      let self = stands_live v alive in
      (omega arith, one.1 (omega arith))

  part : IsPartOf L v.number v.log k.turns
  part = record {
    fits = k.fits;
    keys = k.keys;
    worker = counted.1;
    is_part = mine.1;
    here = subst
        (λ (l : Layout). (known_by l v.number v.log).gone ≡ false) layout (k.here id v at alive);
  }

  abbrev more : List (ℕ × Event)
  more = k.turns ++ (v.number, e) ∷ []

  abbrev found : ℕ
  found = slice_index words i

  found_is : found ≡ word_at L (after_in (ordered L) k.turns).state.memory (touched_field v.number e)
  found_is = λ j. slice_index (k.words_are j) (index j)

  pub is_found : IsFound L v.number v.log e found
  is_found = record {
    fits = k.fits;
    worker = counted.1;
    turns = k.turns;
    keys = k.keys;
    is_part = mine.1;
    here =
        part.here;
    word = λ _. found_is;
  }

  abbrev reply : Reply
  reply = told v.layout (knowledge v) (known_births v) e found

  abbrev now : View
  now = logged v e found trace

  reply_is : told L (known_by L v.number v.log) (births_by L v.number v.log) e
      (word_at L (after_in (ordered L) k.turns).state.memory (touched_field v.number e)) ≡ reply
  reply_is = ap (λ (l : Layout). told l (known_by l v.number v.log) (births_by l v.number v.log) e
      (word_at L (after_in (ordered L) k.turns).state.memory (touched_field v.number e))) (sym layout)
      ∙ ap (told v.layout (knowledge v) (known_births v) e) (sym found_is)

  trace_is : trace_in (ordered L) more ≡ trace ++ answered_turn v.number e reply ∷ []
  trace_is = trace_after L v.number v.log k.turns part e may
      ∙ ap (λ (r : Reply). trace ++ answered_turn v.number e r ∷ []) reply_is

  own_part : part_of v.number (trace_in (ordered L) more) ≡ part_of v.number trace ++ (e, reply) ∷ []
  own_part = ap (part_of v.number) trace_is ∙ part_grows v.number trace v.number e reply
      (ap (λ (b : Bool). b || is_leaver v.number e) (eq-eqb v.number v.number refl))

  other_part : (u : ℕ) → eqb v.number u ≡ false → part_of u (trace_in (ordered L) more) ≡ part_of u trace
  other_part u ne = ap (part_of u) trace_is ∙ part_stays u trace v.number e reply
      ((λ j. ne j || no_leaver L v.number v.log e may u j))

  shown_own : IsShown L (trace_in (ordered L) more) now
  shown_own =
      let self = stands_live v alive in
      let here = at_most_sum (stands v.number) views id v at in
      subst (LogsAre v.layout L (trace_in (ordered L) more)) (sym (live now alive)) (
        mine.0,
        ap (λ (l : List Entry). l ++ (e, reply) ∷ []) mine.1 ∙ sym own_part,
        others_kept v.layout L trace (trace_in (ordered L) more) v.number other_part v.others
            (omega (arith, counted.0)) mine.2,
      )

  shown_other : (j : ℕ) (u : View) → j ≢ id → get_elem? views j ≡ some u → IsShown L (trace_in (ordered L) more) u
  shown_other j u ne is =
      let both = both_at_most_sum (stands v.number) views j id u v ne is at in
      let self = stands_live v alive in
      others_kept u.layout L trace (trace_in (ordered L) more) v.number other_part (holdings u)
      (omega (arith, counted.0)) (k.shown j u is)

  here_now : (knowledge now).gone ≡ false
  here_now =
      ap (λ (l : Layout). (known_by l v.number now.log).gone) layout
      ∙ (ap (λ x. x.gone) (known_push v.number L v.log (e, reply))
      ∙ (left_same L v.number v.log e reply may ∙ part.here))

  longer : (P : List Turn → Type 0) → P (trace ++ answered_turn v.number e reply ∷ []) → P (trace_in (ordered L) more)
  longer P = subst P (sym trace_is)

  same_stands : (w : ℕ) → stands w now ≡ stands w v
  same_stands w =
      ap (count_by (λ (x : Held). eqb w x.number)) (live now alive)
      ∙ sum_by-cons (λ (x : Held). cond (eqb w x.number) 1 0) (held_log v.number now.log) v.others
      ∙ sym (sum_by-cons (λ (x : Held). cond (eqb w x.number) 1 0) (held_log v.number v.log) v.others)
      ∙ sym (ap (count_by (λ (x : Held). eqb w x.number)) (live v alive))

  words_now : slice_set words i (left_word v.layout (knowledge v) e found)
      ≡ words_of L (after_in (ordered L) more).state.memory
  words_now =
      ap (λ (l : Layout). slice_set words i (left_word l (known_by l v.number v.log) e found)) layout
      ∙ ((λ j. slice_set (k.words_are j) (index j) (left_word L (known_by L v.number v.log) e (found_is j)))
      ∙ sym (words_after L v.number v.log k.turns part e may))

  abbrev next : Runs L (slice_set words i (left_word v.layout (knowledge v) e found)) (set views id now)
  next = record {
    fits = k.fits;
    turns = more;
    keys = keys_more k.turns (v.number, e) k.keys may.key;
    words_are = words_now;
    shown = each_set (IsShown L (trace_in (ordered L) more)) views id now shown_own shown_other;
    here = each_set (λ (u : View). u.resigned ≡ false → (knowledge u).gone ≡ false) views id now (λ _. here_now)
        (λ j u _. k.here j u);
    once = λ w. omega (arith, sum_after (stands w) views id v now at, same_stands w, k.once w);
    lags = each_set (LagsBehind (trace_in (ordered L) more)) views id now
        (longer (λ ts. LagsBehind ts now) (record {
          past = goes_on_itself now.past;
          heard = goes_on_by trace v.heard
              (answered_turn v.number e reply) (k.lags id v at).heard;
        }))
        (λ j u _ is. longer (λ ts. LagsBehind ts u) (behind_by trace (answered_turn v.number e reply) u
        (k.lags j u is)));
  }

  -- ---- values

  known_is : knowledge v ≡ of (after_in (ordered L) k.turns).state v.number
  known_is =
      ap (λ (l : Layout). known_by l v.number v.log) layout
      ∙ (ap (known_by L v.number) mine.1 ∙ sym (logs_tell L k.turns v.number counted.1))

  -- each new leaf still has a store
  pub links_on : (slots : ℕ) (st : List Stored) → ExtendsStores st v.stores → LinkHasValue slots v e
      → IfValued L slots k.turns st → IfValued L slots more st
  links_on slots st had stored (inl plain) = inl plain
  links_on slots st had stored (inr links) = elim (ℕ_discrete slots 0) [
    | yes none' ↦ inl none'
    | no other ↦ inr (λ before since w f is. by other before w f
        (last_or_earlier k.turns before since (w, f) (v.number, e) is))
  ]
    where
      -- what the worker of the view has stored, of the run up to this event
      own : slots ≢ 0 → HasValueFor (of (after_in (ordered L) k.turns).state v.number) st v.number
          (length (part_of v.number trace)) e
      own other =
          subst (λ (x : Knowledge). HasValueFor x st v.number (length (part_of v.number trace)) e) known_is
          (subst (λ (n : ℕ). HasValueFor (knowledge v) st v.number n e) (ap (λ (l : List Entry). length l) mine.1)
          (value_still (knowledge v) st v.stores v.number (length v.log) e had (value_there slots v e other stored)))

      by : slots ≢ 0 → (before : List (ℕ × Event)) (w : ℕ) (f : Event)
          → ((rest : List (ℕ × Event)) × (k.turns ≡ before ++ (w, f) ∷ rest))
          ⊎ ((before ≡ k.turns) × IsPair v.number e w f)
          → HasValueFor (of (after_in (ordered L) before).state w) st w
          (length (part_of w (trace_in (ordered L) before))) f
      by other before w f (inl earlier) = links before earlier.0 w f earlier.1
      by other before w f (inr last) =
          subst (λ (t : ℕ × Event). HasValueFor (of (after_in (ordered L) before).state t.0) st t.0
          (length (part_of t.0 (trace_in (ordered L) before))) t.1) last.1
          (subst (λ (ts : List (ℕ × Event)). HasValueFor (of (after_in (ordered L) ts).state v.number) st v.number
          (length (part_of v.number (trace_in (ordered L) ts))) e)
          (sym last.0) (own other))

abbrev no_step : Step Unit
no_step = step 0 0 0 0 none

-- one event more, by a word that was found: the view behind it, with the rule, and what the step
-- tells; m is the word that it is told of
pub goes_on : (L : Layout) (words : List ℕ) (views : List View) (id : ℕ) (v : View) (e : Event) (i m : ℕ)
    (k : Runs L words views)
    → get_elem? views id ≡ some v → v.resigned ≡ false → v.layout ≡ L → i ≡ word L (touched_field v.number e)
    → May L v.number v.log e
    → told v.layout (knowledge v) (known_births v) e m
    ≡ told v.layout (knowledge v) (known_births v) e (slice_index words i)
    → (is_store e ≡ false → m ≡ slice_index words i)
    → (slots : ℕ) (st : List Stored) → ExtendsStores st v.stores → LinkHasValue slots v e
    → (w : View) × (r : Runs L (slice_set words i (left_word v.layout (knowledge v) e (slice_index words i)))
    (set views id w)) × Grows L slots st k.turns r.turns × SameStores v w × Did e no_step (v, []) m (w, [])
unfolding is_found
goes_on L words views id v e i m k at alive layout index may same is slots st had stored =
    let n : ℕ = slice_index words i in
    let was = is_found L words views id v e i k at alive layout index may in (
      logged v e n (trace_in (ordered L) k.turns),
      next L words views id v e i k at alive layout index may,
      record {
        rest = (v.number, e) ∷ [];
        is = refl;
        linked = links_on L words views id v e i k at alive layout index
            may slots st had stored;
      },
      record { stores = refl; heard = refl; number = refl; resigned = refl },
      (
        found_by v.layout (sym layout) (record {
          fits = was.fits;
          worker = was.worker;
          turns = was.turns;
          keys =
              was.keys;
          is_part = was.is_part;
          here = was.here;
          word = λ h. is h ∙ was.word h;
        }),
        (λ j. (
          record v {
            log = v.log ++ (e, sym same j) ∷ [];
            past = trace_in (ordered (sym layout j)) k.turns
                ++ answered_turn v.number e (sym same j) ∷ [];
          },
          [],
        )),
        subst (λ (l : Layout). Extends (trace_in (ordered l) k.turns) v.past) (sym layout) (k.lags id v at).past,
      ),
    )
  where
    -- of the view's own layout, with the same turns
    found_by : (l : Layout) → L ≡ l → (f : IsFound L v.number v.log e m) → IsFound l v.number v.log e m
    found_by l same f = record {
      fits = subst IsLayout same f.fits;
      worker = subst (λ (x : Layout). v.number < x.workers) same f.worker;
      turns = f.turns;
      keys = f.keys;
      is_part = subst (λ (x : Layout). v.log ≡ part_of v.number (trace_in (ordered x) f.turns)) same f.is_part;
      here = subst (λ (x : Layout). (known_by x v.number v.log).gone ≡ false) same f.here;
      word = subst (λ (x : Layout). is_store e ≡ false
          → m ≡ word_at x (after_in (ordered x) f.turns).state.memory (touched_field v.number e)) same f.word;
    }

-- where the core's words take a step, so do all
pub lifts : (L : Layout) (slots id : ℕ) (v : View) (i : ℕ) (f : ℕ → ℕ) (then' : ℕ → Me Unit View → Type 0)
    → i < all_words L
    → ((core : List ℕ) (views : List View) (k : Runs L core views) → get_elem? views id ≡ some v
    → slice_index core i < 18446744073709551616 → (st : List Stored) → AreStoresOf L slots k.turns st
    → LagsInStores st v
    → (w : View) × (r : Runs L (slice_set core i (f (slice_index core i))) (set views id w))
    × Grows L slots st k.turns r.turns × LagsInStores st w × then' (slice_index core i) (w, []))
    → Allows (Kept L) slots id (v, []) i f then'
lifts L slots id v i f then' below go s k homes at small =
    let long = run_long L k.core s.views k.runs in
    let inside : i < length k.core = omega (arith, long, below) in
    let same : slice_index s.words i ≡ slice_index k.core i = ap (λ (l : List ℕ). slice_index l i) k.words_are
    ∙ get_or_append_left k.core k.values 0 i inside in
    let linked : IfValued L slots k.runs.turns k.stores = subst (λ (n : ℕ). IfValued L n k.runs.turns k.stores)
    (k.long ∙ homes) k.valued.linked in
    let g = go k.core s.views k.runs at (subst (λ (n : ℕ). n < 18446744073709551616) same small) k.stores
    (record { held = k.valued.held; linked = linked; order = k.valued.order }) (k.valued.seen id v at) in (
      g.0,
      keeps,
      tt,
      record {
        core = slice_set k.core i (f (slice_index k.core i));
        values = k.values;
        words_are = (λ j. slice_set (k.words_are j) i (f (same j)))
            ∙ set-append_left k.core k.values i (f (slice_index k.core i)) inside;
        long = k.long;
        runs = g.1;
        stores = k.stores;
        valued = record {
          are = k.valued.are;
          held = held_longer L slots k.stores k.runs.turns g.1.turns g.2 k.stores k.valued.held;
          linked = subst (λ (n : ℕ). IfValued L n g.1.turns k.stores) (sym (k.long ∙ homes)) (g.2.linked linked);
          order = k.valued.order;
          seen = each_set (LagsInStores k.stores) s.views id g.0 g.3 (λ j u _. k.valued.seen j u);
        };
      },
      subst (λ (n : ℕ). then' n (g.0, [])) (sym same) g.4,
    )

-- THE STEP: an event that the own log allows may be made at its word, by any operation that leaves
-- the word that the event leaves
pub allows : (L : Layout) (slots id : ℕ) (v : View) (e : Event) (i : ℕ) (f said : ℕ → ℕ)
    → v.resigned ≡ false → v.layout ≡ L → i ≡ word L (touched_field v.number e) → May L v.number v.log e
    → ((n : ℕ) → f n ≡ left_word v.layout (knowledge v) e n)
    → ((n : ℕ) → (told v.layout (knowledge v) (known_births v) e (said n)
    ≡ told v.layout (knowledge v) (known_births v) e n) × (is_store e ≡ false → said n ≡ n))
    → i < all_words L → LinkHasValue slots v e
    → Allows (Kept L) slots id (v, []) i f (λ n. Did e no_step (v, []) (said n))
allows L slots id v e i f said alive layout index may change tell below stored = lifts L slots id v i f
    (λ n. Did e no_step (v, []) (said n)) below by
  where
    by : (core : List ℕ) (views : List View) (k : Runs L core views) → get_elem? views id ≡ some v
        → slice_index core i < 18446744073709551616 → (st : List Stored) → AreStoresOf L slots k.turns st
        → LagsInStores st v
        → (w : View) × (r : Runs L (slice_set core i (f (slice_index core i))) (set views id w))
        × Grows L slots st k.turns r.turns × LagsInStores st w
        × Did e no_step (v, []) (said (slice_index core i)) (w, [])
    by core views k at small st are lag =
        let n : ℕ = slice_index core i in
        let g = goes_on L core views id v e i (said n) k at alive layout index may (tell n).0 (tell n).1 slots st
        lag.seen stored in
        (g.0, reworded (ap (λ (m : ℕ). slice_set core i m) (sym (change n))) g.1, g.2, lags_kept st v g.0 lag g.3, g.4)

-- the word that an event touches is one of the core
pub field_below : (L : Layout) (w : ℕ) (e : Event) (i : ℕ) → i ≡ word L (touched_field w e)
    → IsField L (touched_field w e) → i < all_words L
field_below L w e i index within = subst (λ (k : ℕ). k < all_words L) (sym index)
    (fields_within L (touched_field w e) within)

-- what every operation asks of its caller, where the pass is ready; d is the event that the `Play`
-- names
asked : (L : Layout) (z : TableId) (it : Seat Unit View) (d e : Event) (i : ℕ) (f said : ℕ → ℕ)
    → d ≡ e → IsReadyFor (record { table = z; layout = L }) it e i → Changes e it.me.0 f
    → ((n : ℕ) → (told it.me.0.layout (knowledge it.me.0) (known_births it.me.0) e (said n)
    ≡ told it.me.0.layout (knowledge it.me.0) (known_births it.me.0) e n) × (is_store e ≡ false → said n ≡ n))
    → (it.table_id ≡ z) × (i < z.words) × Allows (Kept L) z.slots it.id it.me i f (λ n. Did d no_step it.me (said n))
asked L z it d e i f said pick r change tell = (
  r.table,
  (let below = field_below L it.me.0.number e i r.word r.within in let within = r.words in
      omega (arith, below, within)),
  subst (λ (x : Event). Allows (Kept L) z.slots it.id it.me i f (λ n. Did x no_step it.me (said n))) (sym pick)
      (subst (λ (c : List (ℕ × Unit)). Allows (Kept L) z.slots it.id (it.me.0, c) i f
      (λ n. Did e no_step (it.me.0, c) (said n))) (sym r.empty)
      (allows L z.slots it.id it.me.0 e i f said r.alive r.layout r.word r.may change tell
      (field_below L it.me.0.number e i r.word r.within) r.stored)),
)

-- what the `Play` tells, as clauses say it
pub is_done : (it after : Seat Unit View) (d e : Event) (n : ℕ) → d ≡ e → after.table_id ≡ it.table_id
    → after.id ≡ it.id → Did d no_step it.me n after.me → IsDone it after e n
is_done it after d e n pick table seat did = subst (λ (x : Event). IsDone it after x n) pick
    (record { table = table; seat = seat; found = did.0; me = did.1; past = did.2 })

-- the same where the `Play` is told the word that was found, and where it is told the one stored
pub asked_plainly : (L : Layout) (z : TableId) (it : Seat Unit View) (d e : Event) (i : ℕ) (f : ℕ → ℕ)
    → d ≡ e → IsReadyFor (record { table = z; layout = L }) it e i → Changes e it.me.0 f
    → (it.table_id ≡ z) × (i < z.words) × Allows (Kept L) z.slots it.id it.me i f (Did d no_step it.me)
asked_plainly L z it d e i f pick r change = asked L z it d e i f (λ n. n) pick r change (λ n. (refl, λ h. refl))

pub asked_blind : (L : Layout) (z : TableId) (it : Seat Unit View) (d e : Event) (i new : ℕ)
    → d ≡ e → IsReadyFor (record { table = z; layout = L }) it e i → Changes e it.me.0 (λ _. new) → IsBlind e it.me.0
    → (it.table_id ≡ z) × (i < z.words) × Allows (Kept L) z.slots it.id it.me i (λ _. new)
    (λ _. Did d no_step it.me new)
asked_blind L z it d e i new pick r change blind = asked L z it d e i (λ _. new) (λ _. new) pick r change
    (λ n. (blind.same new n, λ h. absurd (true≢false (sym blind.store ∙ h))))
