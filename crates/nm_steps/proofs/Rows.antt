-- A look at a row of the pool: many lost claims at one moment keep the rule, and what they leave.
use Rattle.std.proofs.Common.{◌≡◌, ◌≢◌, ◌⊎◌, inl, inr, min, eq-zero-or-pos, zero-mul, w64, ℕ, zero, suc, ◌+◌, ◌-◌, ◌*◌, ◌<◌, ◌≤◌, ◌^◌, ◌/◌, ◌%◌, ◌==◌, Bool, true, false, cond, List, [], ◌∷◌, ◌++◌, length, set, refl, sym, ap, ◌∙◌, subst, eq-eqb, arith}
use Rattle.std.specs.Prelude.{slice_index, slice_set, bit_and}
use Rattle.std.proofs.lemmas.Nat.{and-not, pow_below, pow_pos, shr-shr, shr_le}
use Rattle.std.proofs.lemmas.Nat.Bits.{and_pow, bit_at-zero, bit_at-trailing_zeros}
use lib.Count.{count_trailing_zeros, trailing_of_zero}
use Rattle.std.proofs.lemmas.List.{set-set, set-get_or}
use Rattle.std.proofs.lemmas.Bool.{cond-false, eqb-true, ne_eqb}
use lib.Bits.{and_comm, and_zero_r}
use lib.ListN.{get_elem?}
use mathlib.Core.Option.{some, some-ne-none}
use Rattle.atomic_table.specs.Table.{Me, Allows}
use Rattle.atomic_table.specs.Seated.{TableId}
use Rattle.atomic_table.specs.declared.shared.Seat.{Seat}
use Rattle.atomic_table.proofs.Lists.{set_here, set_again}
use Rattle.nm_edge.specs.Layouts.{Layout, IsLayout}
use Rattle.nm_edge.specs.Words.{pool_word, word, words, at_announcement, at_row}
use Rattle.nm_edge.proofs.Words.{fields_within, places_are_rows}
use Rattle.nm_model.specs.declared.event.Event.{Event}
use Rattle.nm_model.specs.declared.event.Event.TheVariants.{Claim}
use Rattle.nm_model.specs.declared.reply.Reply.{Reply}
use Rattle.nm_model.specs.declared.reply.Reply.TheVariants.{Claimed, Taken}
use Rattle.nm_model.specs.declared.reply.Refused.TheVariants.{NoSlot}
use Rattle.nm_model.specs.declared.knowledge.Brief.{Brief}
use Rattle.nm_model.specs.Knowledge.{Knowledge, is_private}
use Rattle.nm_model.specs.Step.{refusal, outside}
use Rattle.nm_model.specs.Walks.{Entry}
use Rattle.nm_model.specs.Ordered.{ordered, trace_in}
use Rattle.nm_laws.proofs.Learned.{learn_taken}
use Rattle.nm_order.specs.Hands.{IsPooled}
use Rattle.nm_steps.specs.Packing.{touched_field, left_word}
use Rattle.nm_steps.specs.Told.{told}
use Rattle.nm_steps.specs.declared.view.Stored.{Stored}
use Rattle.nm_steps.specs.declared.view.View.{View}
use Rattle.nm_steps.specs.Rules.{knowledge, known_births, Extends, Runs, Kept, answered_turn, logged, ExtendsStores, StoredBefore}
use Rattle.nm_steps.specs.Steps.{Laid, PassView, May, IsDone, HasSeen, Tied, Continues, Stepped, TakesStep}
use Rattle.nm_steps.specs.Rows.{DoneInTurn, FoundTaken, shown_taken, DidClaims, CanPass, HasPassed}
use Rattle.nm_steps.proofs.Growing.{goes_on_itself}
use Rattle.nm_steps.proofs.Presence.{known_push}
use Rattle.nm_steps.proofs.Keeping.{goes_on, lifts}
use Rattle.nm_steps.proofs.Valuing.{Grows, grown_none, grown_then, reviewed, reworded}
use Rattle.nm_steps.proofs.Noting.{standing, has_turned, has_turn, in_run_after, tied_after}
use Rattle.nm_steps.proofs.AfterSteps.{run_of_seen}
use Rattle.nm_steps.proofs.Seeing.{continues_then, continues_by, stores_same}
use Rattle.nm_steps.proofs.StoreOrders.{SameStores, lags_kept, same_stores_then}
use Rattle.std.proofs.lemmas.Bool.{le-ltb}
use Rattle.std.specs.Prelude.{Option, Some, None, nat_lt, ◌||◌}

-- ---- one slot that a word shows to be taken

abbrev pub IsShownTaken : ℕ → ℕ → Type 0
IsShownTaken n s = bit_and n (2 ^ ((s - 1) % 64)) ≡ 0

pub told_taken : (L : Layout) (k : Knowledge) (births : ℕ → Option ℕ) (s n : ℕ) → IsShownTaken n s
    → told L k births (Claim s) n ≡ Taken
told_taken L k births s n is = ap (λ (b : Bool). cond b Taken (Claimed s))
    (eq-eqb (bit_and n (2 ^ ((s - 1) % 64))) 0 is)

pub left_alone : (L : Layout) (k : Knowledge) (s n : ℕ) → n < 18446744073709551616 → IsShownTaken n s
    → left_word L k (Claim s) n ≡ n
left_alone L k s n small is =
    let m : ℕ = 2 ^ ((s - 1) % 64) in
    let below : m < 2 ^ 64 = pow_below ((s - 1) % 64) 64 (omega arith) in
    let sum = and-not 64 m n below small in
    let other : bit_and m n ≡ 0 = and_comm m n ∙ is in
    and_comm n (2 ^ 64 - 1 - m) ∙ (let q : bit_and (2 ^ 64 - 1 - m) n ≡ n = omega (arith, sum, other) in q)

-- of a row, each slot before the first that it shows to be there
pub each_shown : (n s k j : ℕ) → j < shown_taken n s k → IsShownTaken n (s + j)
each_shown n s zero j less = absurd (omega (arith, less))
each_shown n s (suc k) j less = by (bit_and n (2 ^ ((s - 1) % 64)) == 0) refl (λ i l. each_shown n (s + 1) k i l) j less
  where
    by : (b : Bool) → (bit_and n (2 ^ ((s - 1) % 64)) == 0) ≡ b
        → ((i : ℕ) → i < shown_taken n (s + 1) k → IsShownTaken n (s + 1 + i)) → (j : ℕ)
        → j < cond b (suc (shown_taken n (s + 1) k)) 0 → IsShownTaken n (s + j)
    by true is rest zero l = subst (IsShownTaken n) (let e : s ≡ s + 0 = omega arith in e)
        (eqb-true (bit_and n (2 ^ ((s - 1) % 64))) 0 is)
    by true is rest (suc j) l = subst (IsShownTaken n) (let e : s + 1 + j ≡ s + suc j = omega arith in e)
        (rest j (omega (arith, l)))
    by false is rest j l = absurd (omega (arith, l))

-- one slot that is taken, and the rest
pub next_shown : (n s k : ℕ) → IsShownTaken n s → shown_taken n s (suc k) ≡ suc (shown_taken n (s + 1) k)
next_shown n s k is = ap (λ (b : Bool). cond b (suc (shown_taken n (s + 1) k)) 0)
    (eq-eqb (bit_and n (2 ^ ((s - 1) % 64))) 0 is)

pub all_shown : (n s k : ℕ) → n ≡ 0 → shown_taken n s k ≡ k
all_shown n s zero is = refl
all_shown n s (suc k) is = next_shown n s k (ap (λ (x : ℕ). bit_and x (2 ^ ((s - 1) % 64))) is
    ∙ (and_comm 0 (2 ^ ((s - 1) % 64)) ∙ and_zero_r (2 ^ ((s - 1) % 64)))) ∙ ap suc (all_shown n (s + 1) k is)

-- what a row shows, by how many are taken from the first one on
pub shown_is : (n s k t : ℕ) → t ≤ k → ((j : ℕ) → j < t → IsShownTaken n (s + j))
    → (t < k → bit_and n (2 ^ ((s + t - 1) % 64)) ≢ 0) → shown_taken n s k ≡ t
shown_is n s zero t few taken ends = omega (arith, few)
shown_is n s (suc k) zero few taken ends =
    let at : s + 0 ≡ s = omega arith in
    ap (λ (b : Bool). cond b (suc (shown_taken n (s + 1) k)) 0)
    (ne_eqb (bit_and n (2 ^ ((s - 1) % 64))) 0 (λ e. ends (omega arith)
    (ap (λ (x : ℕ). bit_and n (2 ^ ((x - 1) % 64))) at ∙ e)))
shown_is n s (suc k) (suc t) few taken ends =
    let at : s + 0 ≡ s = omega arith in
    next_shown n s k (subst (IsShownTaken n) at (taken 0 (omega arith)))
    ∙ ap suc (shown_is n (s + 1) k t (omega (arith, few))
    (λ j less. subst (IsShownTaken n) (let e : s + suc j ≡ s + 1 + j = omega arith in e)
    (taken (suc j) (omega (arith, less))))
    (λ less e. ends (omega (arith, less)) (ap (λ (x : ℕ). bit_and n (2 ^ ((x - 1) % 64)))
    (let p : s + suc t ≡ s + 1 + t = omega arith in p) ∙ e)))

-- by the lowest bit of the word from the first slot on
pub shown_by_bits : (n s k : ℕ) → 1 ≤ s → (s - 1) % 64 + k ≤ 64 → n < 18446744073709551616
    → shown_taken n s k ≡ min (count_trailing_zeros 64 (n / 2 ^ ((s - 1) % 64))) k
shown_by_bits n s k low row small = by (eq-zero-or-pos m)
  where
    p : ℕ
    p = (s - 1) % 64

    m : ℕ
    m = n / 2 ^ p

    bit_is : (j : ℕ) → j < k → bit_and n (2 ^ ((s + j - 1) % 64)) ≡ m / 2 ^ j % 2 * 2 ^ (p + j)
    bit_is j less =
        let place : (s + j - 1) % 64 ≡ p + j = omega (arith, low, row, less) in
        ap (λ (x : ℕ). bit_and n (2 ^ x)) place ∙ (and_pow n (p + j)
        ∙ ap (λ (x : ℕ). x % 2 * 2 ^ (p + j)) (sym (shr-shr n p j)))

    cleared : (j : ℕ) → j < k → m / 2 ^ j % 2 ≡ 0 → IsShownTaken n (s + j)
    cleared j less is = bit_is j less ∙ (ap (λ (x : ℕ). x * 2 ^ (p + j)) is ∙ zero-mul (2 ^ (p + j)))

    by : (m ≡ 0) ⊎ (0 < m) → shown_taken n s k ≡ min (count_trailing_zeros 64 m) k
    by (inl none_set) =
        let all : count_trailing_zeros 64 m ≡ 64 = ap (count_trailing_zeros 64) none_set ∙ trailing_of_zero 64 in
        shown_is n s k (min (count_trailing_zeros 64 m) k) (omega arith)
        (λ j less. cleared j (omega (arith, less)) (ap (λ (x : ℕ). x / 2 ^ j % 2) none_set ∙ bit_at-zero j))
        (λ less. absurd (omega (arith, less, all, row)))
    by (inr some_set) =
        let h = bit_at-trailing_zeros w64 m some_set (let le = shr_le n p in omega (arith, le, small)) in
        shown_is n s k (min (count_trailing_zeros 64 m) k) (omega arith)
        (λ j less. cleared j (omega (arith, less)) (h.2 j (omega (arith, less))))
        (λ less e.
        let at : min (count_trailing_zeros 64 m) k ≡ count_trailing_zeros 64 m = omega (arith, less) in
        let one : m / 2 ^ min (count_trailing_zeros 64 m) k % 2 ≡ 1 = ap (λ (x : ℕ). m / 2 ^ x % 2) at ∙ h.1 in
        let is = bit_is (min (count_trailing_zeros 64 m) k) less in
        let worth : m / 2 ^ min (count_trailing_zeros 64 m) k % 2 * 2 ^ (p + min (count_trailing_zeros 64 m) k)
        ≡ 2 ^ (p + min (count_trailing_zeros 64 m) k) = ap
        (λ (x : ℕ). x * 2 ^ (p + min (count_trailing_zeros 64 m) k)) one
        ∙ (let q : 1 * 2 ^ (p + min (count_trailing_zeros 64 m) k)
        ≡ 2 ^ (p + min (count_trailing_zeros 64 m) k) = omega arith in q) in
        let some = pow_pos (p + min (count_trailing_zeros 64 m) k) in
        omega (arith, is, e, worth, some))

pub few_shown : (n s k : ℕ) → shown_taken n s k ≤ k
few_shown n s zero = omega arith
few_shown n s (suc k) = by (bit_and n (2 ^ ((s - 1) % 64)) == 0) (few_shown n (s + 1) k)
  where
    by : (b : Bool) → shown_taken n (s + 1) k ≤ k → cond b (suc (shown_taken n (s + 1) k)) 0 ≤ suc k
    by true less = omega (arith, less)
    by false less = omega arith

-- ---- a claim is allowed

inside : (low n s : ℕ) → low ≤ s → s ≤ n → outside low n s ≡ false
inside low n s least most = ap (λ (b : Bool). b || nat_lt n s) (le-ltb s low least) ∙ le-ltb n s most

pub allowed_claim : (L : Layout) (w : ℕ) (log : List Entry) (s : ℕ) → 6 ≤ s → s ≤ L.nodes → May L w log (Claim s)
unfolding refusal
allowed_claim L w log s least most = record {
  looked = tt;
  allowed = λ m h. cond-false (outside 6 L.nodes s) (Some NoSlot) None (inside 6 L.nodes s least most);
  ordered = refl;
  births = tt;
  key = tt;
}

-- ---- the rule

-- after so many claims some view keeps the rule, which is alive and of the same layout
record Reaches (L : Layout) (slots : ℕ) (st : List Stored) (core : List ℕ) (views : List View)
    (turns : List (ℕ × Event)) (id n from k : ℕ) (v : View) : Type 0 where
  view : View
  keeps_rule : Runs L core (set views id view)
  grows : Grows L slots st turns keeps_rule.turns
  same : SameStores v view
  at : get_elem? (set views id view) id ≡ some view
  alive : view.resigned ≡ false
  layout : view.layout ≡ L
  claims : DidClaims from k (v, []) n (view, [])

within_length : {A : Type 0} (l : List A) (i : ℕ) (a : A) → get_elem? l i ≡ some a → i < length l
within_length [] i a e = absurd (some-ne-none a (sym e))
within_length (x ∷ xs) zero a e = omega arith
within_length (x ∷ xs) (suc i) a e = let less = within_length xs i a e in omega (arith, less)

module _ (L : Layout) (id i from : ℕ) (v : View) (core : List ℕ) (views : List View) (rule : Runs L core views)
    (at : get_elem? views id ≡ some v) (alive : v.resigned ≡ false) (layout : v.layout ≡ L)
    (small : slice_index core i < 18446744073709551616) (low : 6 ≤ from) (slots : ℕ) (st : List Stored)
    (had : ExtendsStores st v.stores) where
  abbrev n : ℕ
  n = slice_index core i

  reaches : (k : ℕ) → from + k ≤ L.nodes + 1 → ((j : ℕ) → j < k
      → i ≡ word L (touched_field v.number (Claim (from + j)))) → ((j : ℕ) → j < k → IsShownTaken n (from + j))
      → Reaches L slots st core views rule.turns id n from k v
  reaches zero high rows taken = record {
    view = v;
    keeps_rule = reviewed (sym (set_again views id v at)) rule;
    grows = grown_none L slots st rule.turns;
    same =
        record { stores = refl; heard = refl; number = refl; resigned = refl };
    at = subst
        (λ (l : List View). get_elem? l id ≡ some v) (sym (set_again views id v at)) at;
    alive = alive;
    layout = layout;
    claims = refl;
  }
  reaches (suc k) high rows taken =
      let r = reaches k (omega (arith, high)) (λ j less. rows j (omega (arith, less)))
      (λ j less. taken j (omega (arith, less))) in
      let e : Event = Claim (from + k) in
      let step = goes_on L core (set views id r.view) id r.view e i n r.keeps_rule r.at r.alive r.layout
      (rows k (omega arith)) (allowed_claim L r.view.number r.view.log (from + k) (omega (arith, low))
      (omega (arith, high))) refl (λ h. refl) slots st (subst (ExtendsStores st) (sym r.same.stores) had) tt in
      let w : View = step.0 in
      let same : w ≡ logged r.view e n (trace_in (ordered r.view.layout) step.4.0.turns) = ap
      (λ (m : Me Unit View). m.0) step.4.1 in
      let words_same : slice_set core i (left_word r.view.layout (knowledge r.view) e n)
      ≡ core = ap (slice_set core i) (left_alone r.view.layout (knowledge r.view) (from + k) n small
      (taken k (omega arith))) ∙ set_read core i in
      record {
        view = w;
        keeps_rule = reviewed (set-set views id r.view w) (reworded words_same step.1);
        grows = grown_then L slots st rule.turns r.keeps_rule.turns step.1.turns r.grows step.2;
        same = same_stores_then v r.view w r.same step.3;
        at = set_here views id w (within_length views id v at);
        alive = ap (λ (x : View). x.resigned) same ∙ r.alive;
        layout = ap (λ (x : View). x.layout) same ∙ r.layout;
        claims = ((r.view, []), r.claims, step.4);
      }
    where
      set_read : (l : List ℕ) (i : ℕ) → slice_set l i (slice_index l i) ≡ l
      set_read l i = set-get_or l i _

-- what the load of a row asks; the first two are the numbers that the `Play` names
pub can_by_key : (z : TableId) (key L : Layout) (it : Seat Unit View) (from most i : ℕ) → Laid z key L
    → CanPass (record { table = z; layout = L }) it from most i
    → CanPass (record { table = z; layout = key }) it from most i
can_by_key z key L it from most i laid can = subst
    (λ (l : Layout). CanPass (record { table = z; layout = l }) it from most i) (sym laid.key_is) can

pub asked_to_pass : (L : Layout) (z : TableId) (slots : ℕ) (it : Seat Unit View) (first many from most i : ℕ)
    → first ≡ from → many ≡ most → CanPass (record { table = z; layout = L }) it from most i
    → (it.table_id ≡ z) × (i < z.words) × Allows (Kept L) slots it.id it.me i (λ n. n)
    (λ n after. DidClaims first (shown_taken n first many) it.me n after)
asked_to_pass L z slots it first many from most i pick pick_many can = (
  can.table,
  (let below = row_below in let many = can.words in omega (arith, below, many)),
  subst (λ (x : ℕ). Allows (Kept L) slots it.id it.me i (λ n. n)
      (λ n after. DidClaims x (shown_taken n x many) it.me n after)) (sym pick)
      (subst (λ (x : ℕ). Allows (Kept L) slots it.id it.me i (λ n. n)
      (λ n after. DidClaims from (shown_taken n from x) it.me n after)) (sym pick_many)
      (subst (λ (c : List (ℕ × Unit)). Allows (Kept L) slots it.id (it.me.0, c) i (λ n. n)
      (λ n after. DidClaims from (shown_taken n from most) (it.me.0, c) n after)) (sym can.empty) passes)),
)
  where
    row_below : i < words L
    row_below = subst (λ (k : ℕ). k < words L) (sym can.word)
        (fields_within L (at_row ((from - 1) / 64)) (places_are_rows L from (omega (arith, can.low), can.slot)))

    same_row : (j : ℕ) → j < most → (from - 1) / 64 ≡ (from + j - 1) / 64
    same_row j less = let low = can.low in let row = can.row in omega (arith, low, row, less)

    passes : Allows (Kept L) slots it.id (it.me.0, []) i (λ n. n)
        (λ n after. DidClaims from (shown_taken n from most) (it.me.0, []) n after)
    passes = lifts L slots it.id it.me.0 i (λ n. n)
        (λ n after. DidClaims from (shown_taken n from most) (it.me.0, []) n after) row_below
        (λ core views rule at small st are lag.
        let n : ℕ = slice_index core i in
        let k : ℕ = shown_taken n from most in
        let few : k ≤ most = few_shown n from most in
        let r = reaches L it.id i from it.me.0 core views rule at can.alive can.layout small can.low slots st
        lag.seen k (let high = can.high in omega (arith, high, few))
        (λ j less. can.word ∙ ap (λ (x : ℕ). pool_word L + x) (same_row j (omega (arith, less, few))))
        (λ j less. each_shown n from most j less) in (
          r.view,
          reworded (sym (set-get_or core i 0)) r.keeps_rule,
          r.grows,
          lags_kept st it.me.0 r.view lag r.same,
          r.claims,
        ))

-- ---- what a look leaves

tied_same : (it after : Seat Unit View) (number announcement : ℕ) (brief : Brief) → after.me ≡ it.me
    → Tied it number announcement brief → Tied after number announcement brief
tied_same it after number announcement brief same t =
    let e : it.me.0 ≡ after.me.0 = sym (ap (λ (m : Me Unit View). m.0) same) in
    record {
      empty = ap (λ (m : Me Unit View). m.1) same ∙ t.empty;
      alive = subst (λ (v : View). v.resigned ≡ false) e t.alive;
      number_is = subst (λ (v : View). number ≡ v.number) e t.number_is;
      announcement_is = subst (λ (v : View). announcement ≡ word v.layout (at_announcement number)) e t.announcement_is;
      brief_is = subst (λ (v : View). brief ≡ (knowledge v).brief) e t.brief_is;
      fits = subst (λ (v : View). IsLayout v.layout) e t.fits;
      worker = subst (λ (v : View). number < v.layout.workers) e t.worker;
      small = t.small;
      private = subst (λ (v : View). (x : ℕ) → is_private (knowledge v) x ≡ true → IsPooled v.layout x) e t.private;
      seen = subst HasSeen e t.seen;
      heard = subst (λ (v : View). v.heard ≡ []) e t.heard;
      heard_stores = subst (λ (v : View). v.heard_stores ≡ []) e t.heard_stores;
      stored = subst (λ (v : View). StoredBefore v.number (length v.log + 1) v.stores) e t.stored;
    }

pub record Leaves (it after : Seat Unit View) (number announcement : ℕ) (brief : Brief) (from k : ℕ) : Type 0 where
  pub tied : Tied after number announcement brief
  pub on : Continues (standing it) (standing after)
  pub passed : DoneInTurn FoundTaken from k it.me.0.log after.me.0.log
  pub learned : knowledge after.me.0 ≡ knowledge it.me.0

module _ (it : Seat Unit View) (number announcement : ℕ) (brief : Brief) (from n : ℕ)
    (tied : Tied it number announcement brief) (low : 6 ≤ from) where
  leaves : (k : ℕ) (after : Seat Unit View) → after.table_id ≡ it.table_id → after.id ≡ it.id
      → from + k ≤ it.me.0.layout.nodes + 1 → ((j : ℕ) → j < k → IsShownTaken n (from + j))
      → DidClaims from k it.me n after.me → Leaves it after number announcement brief from k
  leaves zero after table seat high taken same =
      let t : Tied after number announcement brief = tied_same it after number announcement brief same tied in
      record {
        tied = t;
        on = record {
          same = (λ j. record { table = table j; seat = seat j; view = (same j).0 })
              ∙ sym (λ j. record (standing it) {
                view = record it.me.0
                    { log = (same j).0.log; past = (same j).0.past; stores = (same j).0.stores };
              });
          past = record {
            goes_on = subst (λ (m : Me Unit View). Extends m.0.past it.me.0.past) (sym same)
                (goes_on_itself it.me.0.past);
          };
          run = record { fits = t.fits; run = run_of_seen after.me.0 t.seen };
          stores = stores_same after.me.0.stores it.me.0.stores (ap (λ (m : Me Unit View). m.0.stores) same);
        };
        passed = ap (λ (m : Me Unit View). m.0.log) same;
        learned = ap (λ (m : Me Unit View). knowledge m.0) same;
      }
  leaves (suc k) after table seat high taken did =
      let mid : View = did.0.0 in
      let m : Seat Unit View = record after { me = did.0 } in
      let r : Leaves it m number announcement brief from k = leaves k m table seat (omega (arith, high))
      (λ j less. taken j (omega (arith, less))) did.1 in
      let e : Event = Claim (from + k) in
      let done : IsDone m after e n = record {
        table = refl;
        seat = refl;
        found = did.2.0;
        me = did.2.1;
        past =
            did.2.2;
      } in
      let nodes : mid.layout.nodes ≡ it.me.0.layout.nodes = ap (λ (p : PassView). p.view.layout.nodes) r.on.same in
      let may : May mid.layout mid.number mid.log e = allowed_claim mid.layout mid.number mid.log (from + k)
      (omega (arith, low)) (omega (arith, high, nodes)) in
      let is : told mid.layout (knowledge mid) (known_births mid) e n
      ≡ Taken = told_taken mid.layout (knowledge mid) (known_births mid) (from + k) n (taken k (omega arith)) in
      let me : after.me.0 ≡ logged mid e n (trace_in (ordered mid.layout) did.2.0.turns) = ap
      (λ (x : Me Unit View). x.0) did.2.1 in
      let log : after.me.0.log ≡ mid.log ++ (e, Taken) ∷ [] = ap (λ (v : View). v.log) me
      ∙ ap (λ (x : Reply). mid.log ++ (e, x) ∷ []) is in
      let step : Stepped (standing m) (standing after) e Taken =
      (λ j. record { table = after.table_id; seat = after.id; view = me j })
      ∙ ((λ j. record (standing m) {
        view = record mid {
          log = mid.log ++ (e, is j) ∷ [];
          past = trace_in (ordered mid.layout) did.2.0.turns
              ++ answered_turn mid.number e (told mid.layout (knowledge mid) (known_births mid) e n) ∷ [];
        };
      })
      ∙ sym (λ j. record (standing m) {
        view = record mid
            { log = mid.log ++ (e, Taken) ∷ []; past = (me j).past; stores = (me j).stores };
      })) in
      let took : TakesStep (standing m) (standing after) e Taken =
      record {
        step = step;
        past = has_turn _ _ _ _ step (has_turned m after e n done);
        run = in_run_after m
            after number announcement brief e n r.tied may done;
        stores = ap (λ (v : View). v.stores) me;
      } in
      record {
        tied = tied_after m after number announcement brief brief e n r.tied may done refl;
        on = continues_then _ _ _ r.on (continues_by _ _ _ _ took);
        passed = (mid.log, r.passed, log);
        learned = ap (λ (p : PassView). knowledge p.view) step
            ∙ (known_push mid.number mid.layout mid.log (e, Taken)
            ∙ (learn_taken mid.number (knowledge mid) (from + k) ∙ r.learned));
      }

-- the same of a look that was had
pub left_by_look : (it after : Seat Unit View) (number announcement : ℕ) (brief : Brief) (from most n : ℕ)
    → Tied it number announcement brief → 6 ≤ from → from + most ≤ it.me.0.layout.nodes + 1
    → HasPassed it after from most n → Leaves it after number announcement brief from (shown_taken n from most)
left_by_look it after number announcement brief from most n tied low high h =
    let few = few_shown n from most in
    leaves it number announcement brief from n tied low (shown_taken n from most) after h.table h.seat
    (omega (arith, high, few)) (each_shown n from most) h.claims
