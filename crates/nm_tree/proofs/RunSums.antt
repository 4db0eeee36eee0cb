-- How many links, and flags, a run has won: by their keys, and by its workers.
use Rattle.std.proofs.Common.{◌≡◌, ◌≢◌, ◌∙◌, ◌⊎◌, inl, inr, ℕ, zero, suc, ◌+◌, ◌<◌, ◌≤◌, ◌==◌, Bool, true, false, true≢false, cond, ◌||◌, List, [], ◌∷◌, ◌++◌, length, length-append, refl, sym, ap, subst, arith, eq-eqb}
use Rattle.std.specs.Prelude.{All, AllPairs, filter, Option, Some, None, Result, Ok, Err, slice_index_or, unwrap_or}
use Rattle.std.proofs.lemmas.Bool.{cases_lt, eqb-true, eqb-false, ne_eqb}
use Rattle.std.proofs.lemmas.List.Elements.{filter-append}
use Rattle.std.proofs.lemmas.Option.{none-some}
use Rattle.nm_edge.specs.Keys.{IsKey}
use Rattle.nm_edge.specs.Layouts.{Layout}
use Rattle.nm_model.specs.declared.event.Op.{Op}
use Rattle.nm_model.specs.declared.event.Op.TheVariants.{Insert, Delete}
use Rattle.nm_model.specs.declared.event.Event.{Event}
use Rattle.nm_model.specs.declared.event.Event.TheVariants.{Join}
use Rattle.nm_model.specs.declared.reply.Reply.{Reply}
use Rattle.nm_model.specs.declared.reply.Refused.{Refused}
use Rattle.nm_model.specs.declared.trace.Turn.{Turn}
use Rattle.nm_model.specs.Knowledge.{knows}
use Rattle.nm_model.specs.Runs.{of}
use Rattle.nm_model.specs.Searches.{Search}
use Rattle.nm_model.specs.Ordered.{Configuration, HasKey, ordered, search_of, outcome_in, after_in, trace_in}
use Rattle.nm_model.specs.Walks.{Entry, logged_by}
use Rattle.nm_laws.proofs.ListOrders.{In, in_contained}
use Rattle.nm_order.specs.Exchanges.{is_won_link}
use Rattle.nm_order.specs.History.{pin_of}
use Rattle.nm_order.specs.Intervals.{IsCalled}
use Rattle.nm_order.specs.Logs.{is_leaver, part_of, takes_part}
use Rattle.nm_order.specs.LoggedTotals.{sum_of}
use Rattle.nm_order.specs.Totals.{NothingIsPending, is_so, call_of, once, how_often}
use Rattle.nm_order.specs.WalksToArrivals.{is_won_flag}
use Rattle.nm_order.proofs.FlagFates.{first, own_flagged}
use Rattle.nm_order.proofs.OrderedLaws.{each_link_inserts, each_ordered}
use Rattle.nm_order.proofs.OrderedMoments.{call_walks}
use Rattle.nm_order.proofs.OwnFlags.{each_flag_marks}
use Rattle.nm_order.proofs.OwnLinks.{flag_entry, link_entry}
use Rattle.nm_order.proofs.PendingLeaves.{flag_noted}
use Rattle.nm_order.proofs.RunExchanges.{is_own_call}
use Rattle.nm_order.proofs.TotalsOfRuns.{how_often-append, once_none}
use Rattle.nm_order.proofs.WalksOfRuns.{over_turns, trace_in-append}
use Rattle.nm_model.specs.Histories.{call_begun}
use Rattle.nm_theorem.proofs.HistoriesOfRuns.{call_is, with_pin}

-- ---- how often a number is in a list

abbrev pub one_if : Bool → ℕ
one_if b = cond b 1 0

abbrev pub times : ℕ → List ℕ → ℕ
times k [] = 0
times k (x ∷ xs) = one_if (x == k) + times k xs

-- one of them taken out
pub record TakenOut (x : ℕ) (xs : List ℕ) : Type 0 where
  pub rest : List ℕ
  pub each : (k : ℕ) → times k xs ≡ one_if (x == k) + times k rest
  pub size : length xs ≡ suc (length rest)

pub taken_out : (x : ℕ) (xs : List ℕ) → 1 ≤ times x xs → TakenOut x xs
taken_out x [] some = absurd (omega (arith, some))
taken_out x (y ∷ ys) some = by (y == x) refl (taken_out x ys)
  where
    by : (b : Bool) → (y == x) ≡ b → (1 ≤ times x ys → TakenOut x ys) → TakenOut x (y ∷ ys)
    by true is rest = record {
      rest = ys;
      each =
          λ k. ap (λ (n : ℕ). one_if (n == k) + times k ys) (eqb-true y x is);
      size = refl;
    }
    by false is rest =
        let none : one_if (y == x) ≡ 0 = ap (λ (b : Bool). one_if b) is in
        let t = rest (omega (arith, some, none)) in
        record {
          rest = y ∷ t.rest;
          each = λ k. let e = t.each k in omega (arith, e);
          size = let e =
              t.size in omega (arith, e);
        }

-- lists with the same numbers are of one length
pub same_length : (xs ys : List ℕ) → ((k : ℕ) → times k xs ≡ times k ys) → length xs ≡ length ys
same_length [] [] same = refl
same_length [] (y ∷ ys) same =
    absurd (let e = same y in let one : one_if (y == y) ≡ 1 =
    ap (λ (b : Bool). one_if b) (eq-eqb y y refl) in omega (arith, e, one))
same_length (x ∷ xs) ys same =
    let here = same x in
    let one : one_if (x == x) ≡ 1 = ap (λ (b : Bool). one_if b) (eq-eqb x x refl) in
    let t = taken_out x ys (omega (arith, here, one)) in
    let rest = same_length xs t.rest (λ k. let a = same k in let b = t.each k in omega (arith, a, b)) in
    let size = t.size in
    omega (arith, rest, size)

pub times-append : (k : ℕ) (xs ys : List ℕ) → times k (xs ++ ys) ≡ times k xs + times k ys
times-append k [] ys = omega arith
times-append k (x ∷ xs) ys = let rest = times-append k xs ys in omega (arith, rest)

pub times_none : (k : ℕ) (xs : List ℕ) → (In xs k → ⊥) → times k xs ≡ 0
times_none k [] none = refl
times_none k (x ∷ xs) none =
    let rest = times_none k xs (λ there. none (inr there)) in
    let here : one_if (x == k) ≡ 0 = ap (λ (b : Bool). one_if b) (ne_eqb x k (λ e. absurd (none (inl (sym e))))) in
    omega (arith, rest, here)

-- a number of a list that ascends is there once
pub times_once : (k : ℕ) (xs : List ℕ) → AllPairs (λ i j. i < j) xs → In xs k → times k xs ≡ 1
times_once k [] up there = absurd there
times_once k (x ∷ xs) up (inl is) =
    let here : one_if (x == k) ≡ 1 = ap (λ (b : Bool). one_if b) (eq-eqb x k (sym is)) in
    let rest = times_none k xs (λ there. let c = in_contained xs k there in let less : x < slice_index_or xs c.0 k =
    up 0 (suc c.0) k (omega arith) (let l = c.1 in omega (arith, l)) in let at =
    c.2 in absurd (omega (arith, less, at, is))) in
    omega (arith, here, rest)
times_once k (x ∷ xs) up (inr there) =
    let c = in_contained xs k there in
    let less : x < slice_index_or xs c.0 k = up 0 (suc c.0) k (omega arith) (let l = c.1 in omega (arith, l)) in
    let at = c.2 in
    let here : one_if (x == k) ≡ 0 =
    ap (λ (b : Bool). one_if b) (ne_eqb x k (λ e. absurd (omega (arith, less, at, e)))) in
    let rest = times_once k xs (λ i j d low high. up (suc i) (suc j) d (omega (arith, low)) (omega (arith, high)))
    there in
    omega (arith, here, rest)

-- ---- how many such turns there are

abbrev pub so_many : (Entry → Bool) → List Turn → ℕ
so_many is_such [] = 0
so_many is_such (t ∷ ts) = one_if (is_so is_such t.event t.outcome) + so_many is_such ts

so_many-append : (is_such : Entry → Bool) (ts us : List Turn)
    → so_many is_such (ts ++ us) ≡ so_many is_such ts + so_many is_such us
so_many-append is_such [] us = omega arith
so_many-append is_such (t ∷ ts) us = let rest = so_many-append is_such ts us in omega (arith, rest)

-- by their keys: each is of a call for one
pub record KeysOf (is_such : Entry → Bool) (L : Layout) (ts : List (ℕ × Event)) : Type 0 where
  pub keys : List ℕ
  pub each : (k : ℕ) → how_often is_such k (ordered L) ts ≡ times k keys
  pub are : (k : ℕ) → In keys k → IsKey k
  pub many : length keys ≡ so_many is_such (trace_in (ordered L) ts)

module _ (is_such : Entry → Bool) (L : Layout) (enough : 5 ≤ L.nodes)
    (called : (ts : List (ℕ × Event)) → All (λ t. HasKey t.1) ts → (w : ℕ) (e : Event) (r : Reply)
    → outcome_in (after_in (ordered L) ts) (w, e) ≡ Ok r → is_such (e, r) ≡ true
    → (op : Op) × (k : ℕ) × IsCalled (after_in (ordered L) ts) w op k) where
  one_turn : (ts : List (ℕ × Event)) (t : ℕ × Event)
      → so_many is_such (trace_in (ordered L) (ts ++ t ∷ [])) ≡ so_many is_such (trace_in (ordered L) ts) +
      (one_if (is_so is_such t.1 (outcome_in (after_in (ordered L) ts) t)) + 0)
  unfolding trace_in
  one_turn ts t = ap (so_many is_such) (trace_in-append (ordered L) ts (t ∷ []))
      ∙ so_many-append is_such (trace_in (ordered L) ts) (trace_in (after_in (ordered L) ts) (t ∷ []))

  next : (ts : List (ℕ × Event)) (t : ℕ × Event) → All (λ t. HasKey t.1) (ts ++ t ∷ []) → KeysOf is_such L ts
      → KeysOf is_such L (ts ++ t ∷ [])
  next ts t keys old = go (outcome_in c t) refl
    where
      c : Configuration
      c = after_in (ordered L) ts

      before : All (λ t. HasKey t.1) ts
      before = first L enough ts t keys 0 (record { slot = 0; birth = 0 })

      none : is_so is_such t.1 (outcome_in c t) ≡ false → KeysOf is_such L (ts ++ t ∷ [])
      none plain = record {
        keys = old.keys;
        each = λ k. let more = how_often-append is_such k (ordered L) ts t in let was = old.each k in let zero' =
            once_none is_such k c t plain in omega (arith, more, was, zero');
        are = old.are;
        many = let more = one_turn ts t in let was =
            old.many in let zero' : one_if (is_so is_such t.1 (outcome_in c t)) ≡ 0 =
            ap (λ (b : Bool). one_if b) plain in omega (arith, more, was, zero');
      }

      one : (r : Reply) → outcome_in c t ≡ Ok r → is_such (t.1, r) ≡ true → (op : Op) × (k : ℕ) × IsCalled c t.0 op k
          → KeysOf is_such L (ts ++ t ∷ [])
      one r won such (op, j, at) = record {
        keys = j ∷ old.keys;
        each = λ k. let more = how_often-append is_such k (ordered L) ts t in let was = old.each k in let here =
            for k in omega (arith, more, was, here);
        are = λ k there. by k there;
        many = let more = one_turn ts t in let was =
            old.many in let here : one_if (is_so is_such t.1 (outcome_in c t)) ≡ 1 =
            ap (λ (b : Bool). one_if b) so in omega (arith, more, was, here);
      }
        where
          so : is_so is_such t.1 (outcome_in c t) ≡ true
          so = ap (is_so is_such t.1) won ∙ such

          call : call_of c t.0 ≡ Some (record { op = op; key = j })
          call = is_own_call c t.0 op j at

          for : (k : ℕ) → once is_such k c t ≡ one_if (j == k)
          for k = rw (so, call) refl

          by : (k : ℕ) → (k ≡ j) ⊎ In old.keys k → IsKey k
          by k (inr there) = old.are k there
          by k (inl is) =
              let o = each_ordered L enough ts before in
              let is_call = sym (ap (λ (l : Option (List Search)). (search_of (unwrap_or l []) t.0).call) o.are)
              ∙ call in
              subst IsKey (sym is) (call_walks c.state.layout.radix c.state.memory (knows (of c.state t.0))
              (search_of o.searches t.0).call (search_of o.searches t.0).walks
              (record { op = op; key = j }) is_call (o.law.walks t.0)).0

      go : (o : Result Reply Refused) → outcome_in c t ≡ o → KeysOf is_such L (ts ++ t ∷ [])
      go (Err x) told = none (ap (is_so is_such t.1) told)
      go (Ok r) told = on (is_such (t.1, r)) refl
        where
          on : (b : Bool) → is_such (t.1, r) ≡ b → KeysOf is_such L (ts ++ t ∷ [])
          on false plain = none (ap (is_so is_such t.1) told ∙ plain)
          on true such = one r told such (called ts before t.0 t.1 r told such)

  pub keys_of : (ts : List (ℕ × Event)) → All (λ t. HasKey t.1) ts → KeysOf is_such L ts
  unfolding how_often trace_in
  keys_of = over_turns (KeysOf is_such L) (record {
    keys = [];
    each = λ k. refl;
    are = λ k there. absurd there;
    many =
        refl;
  }) next

-- the links, and the flags
link_called : (L : Layout) → 5 ≤ L.nodes → (ts : List (ℕ × Event)) → All (λ t. HasKey t.1) ts
    → (w : ℕ) (e : Event) (r : Reply) → outcome_in (after_in (ordered L) ts) (w, e) ≡ Ok r → is_won_link (e, r) ≡ true
    → (op : Op) × (k : ℕ) × IsCalled (after_in (ordered L) ts) w op k
link_called L enough ts keys w e r won such =
    let l = link_entry e r such in
    let told = ap (λ (x : Event). outcome_in (after_in (ordered L) ts) (w, x)) (sym l.is_event)
    ∙ (won ∙ ap (λ (x : Reply). Ok x) l.is_reply) in
    let made = each_link_inserts L enough ts keys w l.parent l.side l.leaf l.new l.node told in
    (Insert, made.0, made.1)

flag_called : (L : Layout) → 5 ≤ L.nodes → (ts : List (ℕ × Event)) → All (λ t. HasKey t.1) ts
    → (w : ℕ) (e : Event) (r : Reply) → outcome_in (after_in (ordered L) ts) (w, e) ≡ Ok r → is_won_flag (e, r) ≡ true
    → (op : Op) × (k : ℕ) × IsCalled (after_in (ordered L) ts) w op k
flag_called L enough ts keys w e r won such =
    let l = flag_entry e r such in
    let told = ap (λ (x : Event). outcome_in (after_in (ordered L) ts) (w, x)) (sym l.is_event)
    ∙ (won ∙ ap (λ (x : Reply). Ok x) l.is_reply) in
    let made = each_flag_marks L enough ts keys w l.parent l.side l.leaf l.node told in
    (Delete, made.0, made.1)

pub link_keys : (L : Layout) → 5 ≤ L.nodes → (ts : List (ℕ × Event)) → All (λ t. HasKey t.1) ts
    → KeysOf is_won_link L ts
link_keys L enough = keys_of is_won_link L enough (link_called L enough)

pub flag_keys : (L : Layout) → 5 ≤ L.nodes → (ts : List (ℕ × Event)) → All (λ t. HasKey t.1) ts
    → KeysOf is_won_flag L ts
flag_keys L enough = keys_of is_won_flag L enough (flag_called L enough)

-- ---- by their workers

sum_same : (f g : ℕ → ℕ) (n : ℕ) → ((v : ℕ) → v < n → f v ≡ g v) → sum_of f n ≡ sum_of g n
sum_same f g zero same = refl
sum_same f g (suc n) same = let rest = sum_same f g n (λ v less. same v (omega (arith, less))) in let last =
    same n (omega arith) in omega (arith, rest, last)

-- one of the parts has so many more
sum_more : (f g : ℕ → ℕ) (n u b : ℕ) → u < n → f u ≡ b + g u → ((v : ℕ) → v ≢ u → f v ≡ g v)
    → sum_of f n ≡ b + sum_of g n
sum_more f g zero u b below more same = absurd (omega (arith, below))
sum_more f g (suc n) u b below more same = by (n == u) refl (sum_more f g n u b)
  where
    by : (c : Bool) → (n == u) ≡ c
        → (u < n → f u ≡ b + g u → ((v : ℕ) → v ≢ u → f v ≡ g v) → sum_of f n ≡ b + sum_of g n)
        → sum_of f (suc n) ≡ b + sum_of g (suc n)
    by true is rest =
        let at : n ≡ u = eqb-true n u is in
        let few = sum_same f g n (λ v less. same v (λ e. absurd (omega (arith, less, e, at)))) in
        let last : f n ≡ b + g n = subst (λ (m : ℕ). f m ≡ b + g m) (sym at) more in
        omega (arith, few, last)
    by false is rest =
        let ne : n ≢ u = eqb-false n u is in
        let last = same n ne in
        let few = rest (less ne) more same in
        omega (arith, few, last)
      where
        less : n ≢ u → u < n
        less ne = by' (cases_lt u n)
          where
            by' : (u < n) ⊎ (n ≤ u) → u < n
            by' (inl low) = low
            by' (inr up) = absurd (ne (omega (arith, up, below)))

module _ (is_such : Entry → Bool) (no_join : (v : ℕ) (r : Reply) → is_such (Join v, r) ≡ false) where
  abbrev pub own_many : ℕ → List Turn → ℕ
  own_many v ts = length (filter is_such (part_of v ts))

  -- what a turn adds to the part of a worker
  abbrev added : ℕ → Turn → ℕ
  added v t = cond (t.worker == v) (one_if (is_so is_such t.event t.outcome)) 0

  one_added : (v u : ℕ) (e : Event) (o : Result Reply Refused) (own leaver : Bool) → is_leaver v e ≡ leaver
      → length (filter is_such (cond (own || leaver) (logged_by (record { worker = u; event = e; outcome = o })) [])) ≡
      cond own (one_if (is_so is_such e o)) 0
  one_added v u e (Err x) true leaver is = refl
  one_added v u e (Err x) false true is = refl
  one_added v u e o false false is = refl
  one_added v u e (Ok r) true leaver is = by (is_such (e, r))
    where
      x : Entry
      x = (e, r)

      by : (b : Bool) → length (cond b (x ∷ []) []) ≡ one_if b
      by true = refl
      by false = refl
  one_added v u (Join w) (Ok r) false true is = let e : Entry =
      (Join w, r) in ap (λ (b : Bool). length (cond b (e ∷ []) [])) (no_join w r)
  one_added v u e (Ok r) false true is = absurd (true≢false (sym is))

  pub turn_more : (v : ℕ) (t : Turn) (ts : List Turn) → own_many v (t ∷ ts) ≡ added v t + own_many v ts
  turn_more v t ts =
      ap length (filter-append is_such (cond (takes_part v t.worker t.event) (logged_by t) []) (part_of v ts))
      ∙ (length-append (filter is_such (cond (takes_part v t.worker t.event) (logged_by t) []))
      (filter is_such (part_of v ts))
      ∙ ap (λ (n : ℕ). n + own_many v ts)
      (one_added v t.worker t.event t.outcome (t.worker == v) (is_leaver v t.event) refl))

  -- the sum over all workers
  pub by_workers : (n : ℕ) (ts : List Turn) → ((t : Turn) (r : Reply) → In ts t → t.outcome ≡ Ok r → t.worker < n)
      → sum_of (λ v. own_many v ts) n ≡ so_many is_such ts
  by_workers n [] below = none n
    where
      none : (n : ℕ) → sum_of (λ v. 0) n ≡ 0
      none zero = refl
      none (suc n) = let rest = none n in omega (arith, rest)
  by_workers n (t ∷ ts) below =
      go (is_so is_such t.event t.outcome) refl t.outcome refl (by_workers n ts (λ u r there. below u r (inr there)))
    where
      f : ℕ → ℕ
      f v = own_many v (t ∷ ts)

      quiet : is_so is_such t.event t.outcome ≡ false → sum_of (λ v. own_many v ts) n ≡ so_many is_such ts
          → sum_of (λ v. own_many v (t ∷ ts)) n ≡ so_many is_such (t ∷ ts)
      quiet plain rest =
          let same = sum_same (λ v. own_many v (t ∷ ts)) (λ v. own_many v ts) n (λ v less. let more =
          turn_more v t ts in let plain' = nothing (t.worker == v) in omega (arith, more, plain')) in
          let here : one_if (is_so is_such t.event t.outcome) ≡ 0 = ap (λ (b : Bool). one_if b) plain in
          omega (arith, same, here, rest)
        where
          nothing : (b : Bool) → cond b (one_if (is_so is_such t.event t.outcome)) 0 ≡ 0
          nothing true = ap (λ (b : Bool). one_if b) plain
          nothing false = refl

      go : (b : Bool) → is_so is_such t.event t.outcome ≡ b → (o : Result Reply Refused) → t.outcome ≡ o
          → sum_of (λ v. own_many v ts) n ≡ so_many is_such ts
          → sum_of (λ v. own_many v (t ∷ ts)) n ≡ so_many is_such (t ∷ ts)
      go false plain o told rest = quiet plain rest
      go true such (Err x) told rest = absurd (true≢false (sym such ∙ ap (is_so is_such t.event) told))
      go true such (Ok r) told rest =
          let less = below t r (inl refl) told in
          let here : one_if (is_so is_such t.event t.outcome) ≡ 1 = ap (λ (b : Bool). one_if b) such in
          let own : own_many t.worker (t ∷ ts) ≡ 1 + own_many t.worker ts = turn_more t.worker t ts
          ∙ ap (λ (m : ℕ). m + own_many t.worker ts)
          (ap (λ (b : Bool). cond b (one_if (is_so is_such t.event t.outcome)) 0) (eq-eqb t.worker t.worker refl)
          ∙ here) in
          let others : (v : ℕ) → v ≢ t.worker → own_many v (t ∷ ts) ≡ own_many v ts = λ v ne. let more =
          turn_more v t ts in let plain =
          ap (λ (b : Bool). cond b (one_if (is_so is_such t.event t.outcome)) 0)
          (ne_eqb t.worker v (λ e. ne (sym e))) in omega (arith, more, plain) in
          let more = sum_more (λ v. own_many v (t ∷ ts)) (λ v. own_many v ts) n t.worker 1 less own others in
          omega (arith, more, here, rest)

  -- who makes joins alone wins none
  pub none_joined : (v : ℕ) (ts : List Turn)
      → ((t : Turn) (r : Reply) → In ts t → t.worker ≡ v → t.outcome ≡ Ok r → (u : ℕ) × (t.event ≡ Join u))
      → own_many v ts ≡ 0
  none_joined v [] joins = refl
  none_joined v (t ∷ ts) joins = turn_more v t ts
      ∙ go (t.worker == v) refl t.outcome refl (none_joined v ts (λ u r there. joins u r (inr there)))
    where
      go : (b : Bool) → (t.worker == v) ≡ b → (o : Result Reply Refused) → t.outcome ≡ o → own_many v ts ≡ 0
          → cond b (one_if (is_so is_such t.event t.outcome)) 0 + own_many v ts ≡ 0
      go false other o told rest = omega (arith, rest)
      go true own (Err x) told rest = let none : one_if (is_so is_such t.event t.outcome) ≡ 0 =
          ap (λ (o : Result Reply Refused). one_if (is_so is_such t.event o)) told in omega (arith, none, rest)
      go true own (Ok r) told rest =
          let j = joins t r (inl refl) (eqb-true t.worker v own) told in
          let none : one_if (is_so is_such t.event t.outcome) ≡ 0 =
          ap (λ (b : Bool). one_if b) ((λ i. is_so is_such (j.1 i) (told i)) ∙ no_join j.0 r) in
          omega (arith, none, rest)

-- ---- nothing is pending

-- where no worker has a call
pub none_pend : (L : Layout) → 5 ≤ L.nodes → (events : List (ℕ × Event)) → All (λ t. HasKey t.1) events
    → ((w : ℕ) → call_begun w (trace_in (ordered L) events) ≡ None) → NothingIsPending L events
none_pend L enough events keys rest w k f =
    let leaf = own_flagged L enough events keys w f.flagged (flag_noted L enough events keys w k f) in
    let call = call_is L enough w events keys ∙ ap (with_pin (pin_of L events w)) leaf.is_call in
    none-some (record { pin = pin_of L events w; op = leaf.call.op; key = leaf.call.key }) (sym (rest w) ∙ call)
