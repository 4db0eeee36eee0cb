-- The worked histories: what is computed of each schedule, and what the laws then say.
use Rattle.std.proofs.Common.{◌≡◌, ℕ, zero, suc, ◌+◌, ◌≤◌, ◌⊎◌, inl, inr, Bool, true, List, [], ◌∷◌, ◌++◌, length, take, drop, map, refl, sym, subst, ◌∙◌, ap, arith, true≢false, lit<, lit≤, not, ◌&&◌, ◌==◌}
use Rattle.std.specs.Prelude.{Some, All, Contains}
use Rattle.std.specs.List.{list_all}
use Rattle.std.proofs.lemmas.Bool.{and_parts, eq-eqb}
use Rattle.std.proofs.lemmas.Option.{none-some, same_Some}
use Rattle.std.proofs.Math.Seq.{take-append_seam}
use Rattle.nm_edge.specs.Layouts.{Layout}
use Rattle.nm_model.specs.declared.event.Op.{Op}
use Rattle.nm_model.specs.declared.arrivals.Call.{Call}
use Rattle.nm_model.specs.declared.event.Op.TheVariants.{Has, Insert, Delete}
use Rattle.nm_model.specs.declared.event.Event.{Event}
use Rattle.nm_model.specs.declared.event.Event.TheVariants.{LeaveWith}
use Rattle.nm_model.specs.Ordered.{HasKey, ordered, turn_of, after_in, trace_in, outcome_in, next_in, refused_in, applied_in}
use Rattle.nm_model.specs.Paths.{Reached}
use Rattle.nm_model.specs.Places.{EachSlotInOnePlace, OneSlotPlace}
use Rattle.nm_model.specs.Places.SlotPlace.{OnPath, InQueue}
use Rattle.nm_model.specs.Reports.{ordered_report}
use Rattle.nm_model.specs.Runs.{refused, applied}
use Rattle.nm_core.specs.Schedules.{IsAsWorkedInOrder, delete_in_order}
use Rattle.nm_model.specs.Searches.{searched}
use Rattle.nm_model.specs.Step.{refusal, reply, write}
use Rattle.nm_model.specs.Learning.{learn}
use Rattle.nm_laws.proofs.OnePlace.{each_slot_has_one_place}
use Rattle.nm_order.specs.Intervals.{IsCalled}
use Rattle.nm_order.specs.Exchanges.{MayAnswer}
use Rattle.nm_order.specs.Removals.{HasWonDelete}
use Rattle.nm_order.specs.Totals.{how_often, links_of, flags_of}
use Rattle.nm_model.specs.Acts.{Act, IsAmong}
use Rattle.nm_order.specs.History.{SameCall, EachOnce, IsActOfRun, HasActOfCall, IsRunHistory, RunHasHistory, pin_of}
use Rattle.nm_order.specs.History.IsActOfRun.{IsAnswered, IsPending}
use Rattle.nm_order.proofs.OrderedLaws.{each_ordered}
use Rattle.nm_order.proofs.KeyTests.{all_keys}
use Rattle.nm_order.proofs.HistoryLaws.{from_changed}
use Rattle.nm_order.proofs.OwnTurns.{own_search}
use Rattle.nm_order.proofs.RunExchanges.{is_own_call}
use Rattle.nm_core.specs.Histories.{events_of, IsAsTold, helped, stale}

-- ---- calls with pins of their own

apart_of : (a : Act) (rest : List Act) → list_all (λ b. not (a.pin == b.pin)) rest ≡ true → (b : Act)
    → IsAmong rest b → SameCall a b → ⊥
apart_of a [] far b there same = there
apart_of a (x ∷ rest) far b (inl is) same = true≢false
    (sym (and_parts (not (a.pin == x.pin)) (list_all (λ b. not (a.pin == b.pin)) rest) far).0
    ∙ ap not (eq-eqb a.pin x.pin (same.1 ∙ ap (λ (y : Act). y.pin) (sym is))))
apart_of a (x ∷ rest) far b (inr there) same = apart_of a rest
    (and_parts (not (a.pin == x.pin)) (list_all (λ b. not (a.pin == b.pin)) rest) far).1 b there same

pins_differ : List Act → Bool
pins_differ [] = true
pins_differ (a ∷ acts) = list_all (λ b. not (a.pin == b.pin)) acts && pins_differ acts

once_by : (acts : List Act) → pins_differ acts ≡ true → EachOnce acts
unfolding pins_differ
once_by [] differ = tt
once_by (a ∷ acts) differ =
    let parts = and_parts (list_all (λ b. not (a.pin == b.pin)) acts) (pins_differ acts) differ in
    (apart_of a acts parts.0, once_by acts parts.1)

-- ---- the calls that a run answers

-- a turn that leaves with an answer, by its number
record Leaving : Type 0 where
  number : ℕ
  worker : ℕ
  answer : Bool

leaving : ℕ → ℕ → Event → List Leaving
leaving n w (LeaveWith answer) = record { number = n; worker = w; answer = answer } ∷ []
leaving n w e = []

leavings : ℕ → List (ℕ × Event) → List Leaving
leavings n [] = []
leavings n (t ∷ ts) = leaving n t.0 t.1 ++ leavings (n + 1) ts

IsOne : List Leaving → Leaving → Type 0
IsOne [] x = ⊥
IsOne (y ∷ ys) x = (y ≡ x) ⊎ IsOne ys x

one_right : (xs ys : List Leaving) (x : Leaving) → IsOne ys x → IsOne (xs ++ ys) x
unfolding IsOne
one_right [] ys x there = there
one_right (z ∷ xs) ys x there = inr (one_right xs ys x there)

listed : (n : ℕ) (before since : List (ℕ × Event)) (w : ℕ) (answer : Bool)
    → IsOne (leavings n (before ++ (w, LeaveWith answer) ∷ since))
    (record { number = n + length before; worker = w; answer = answer })
unfolding leavings leaving IsOne
listed n [] since w answer = inl (let e : n ≡ n + 0 = omega arith in
    λ i. record { number = e i; worker = w; answer = answer })
listed n (t ∷ before) since w answer = one_right (leaving n t.0 t.1)
    (leavings (n + 1) (before ++ (w, LeaveWith answer) ∷ since)) _
    (subst (λ (m : ℕ). IsOne (leavings (n + 1) (before ++ (w, LeaveWith answer) ∷ since))
    (record { number = m; worker = w; answer = answer })) (omega arith) (listed (n + 1) before since w answer))

-- an act is of that call, with that answer
record IsOf (a : Act) (w p : ℕ) (op : Op) (k : ℕ) (answer : Bool) : Type 0 where
  worker : w ≡ a.worker
  pin : p ≡ a.pin
  is_op : op ≡ a.op
  key : k ≡ a.key
  is_answer : answer ≡ a.answer

same_call : (a : Act) (w p : ℕ) (op : Op) (k : ℕ) (answer : Bool) → w ≡ a.worker → p ≡ a.pin → answer ≡ a.answer
    → ◌≡◌ {A = Call} (record { op = op; key = k }) (record { op = a.op; key = a.key }) → IsOf a w p op k answer
same_call a w p op k answer worker pin is_answer call =
    record {
      worker = worker;
      pin = pin;
      is_op = ap (λ (c : Call). c.op) call;
      key = ap (λ (c : Call). c.key) call;
      is_answer = is_answer;
    }

told_as : (acts : List Act) (b a : Act) → IsAmong acts b → IsOf a b.worker b.pin b.op b.key b.answer
    → HasActOfCall acts a.worker a.pin a.op a.key a.answer
told_as acts b a there of = record {
  act = b;
  among = there;
  worker = of.worker;
  is_pin = of.pin;
  is_op = of.is_op;
  is_key = of.key;
  is_answer = of.is_answer;
}

-- the answer by turn n, where the call was worked out
module _ (L : Layout) (ts : List (ℕ × Event)) (n w p : ℕ) (op : Op) (k : ℕ)
    (may : MayAnswer (after_in (ordered L) (take n ts)) w op k true) (pin : pin_of L (take n ts) w ≡ p) where
  answered_as : (a : Act) (before since : List (ℕ × Event)) → ts ≡ before ++ (a.worker, LeaveWith a.answer) ∷ since
      → MayAnswer (after_in (ordered L) before) a.worker a.op a.key a.answer → a.pin ≡ pin_of L before a.worker
      → ◌≡◌ {A = Leaving} (record { number = n; worker = w; answer = true })
      (record { number = 0 + length before; worker = a.worker; answer = a.answer }) → IsOf a w p op k true
  answered_as a before since run may' pin' is = same_call a w p op k true mine
      (sym pin ∙ ((λ i. pin_of L (first i) (mine i)) ∙ sym pin')) (ap (λ (x : Leaving). x.answer) is)
      (same_Some (record { op = op; key = k }) (record { op = a.op; key = a.key })
      (sym (is_own_call (after_in (ordered L) (take n ts)) w op k may.called)
      ∙ ((λ i. (own_search (after_in (ordered L) (first i)) (mine i)).call)
      ∙ is_own_call (after_in (ordered L) before) a.worker a.op a.key may'.called)))
    where
      mine : w ≡ a.worker
      mine = ap (λ (x : Leaving). x.worker) is

      number : n ≡ length before
      number = ap (λ (x : Leaving). x.number) is ∙ omega arith

      first : take n ts ≡ before
      first = (λ i. take (number i) (run i)) ∙ take-append_seam before ((a.worker, LeaveWith a.answer) ∷ since)

  listed_in : (a : Act) (before since : List (ℕ × Event)) → ts ≡ before ++ (a.worker, LeaveWith a.answer) ∷ since
      → IsOne (leavings 0 ts) (record { number = 0 + length before; worker = a.worker; answer = a.answer })
  listed_in a before since run = subst (λ (l : List (ℕ × Event)). IsOne (leavings 0 l)
      (record { number = 0 + length before; worker = a.worker; answer = a.answer })) (sym run)
      (listed 0 before since a.worker a.answer)

-- ---- another worker's splice ends a delete

abbrev L : Layout
L = helped.schedule.layout

abbrev ts : List (ℕ × Event)
ts = events_of helped

enough : 5 ≤ L.nodes
enough = lit≤ tt

keys : All (λ t. HasKey t.1) ts
keys = all_keys ts refl

first_may : MayAnswer (after_in (ordered L) (take 17 ts)) 0 Insert 5 true
unfolding after_in trace_in outcome_in next_in refused_in applied_in searched refusal reply write learn refused applied
first_may = record { called = record { searches = _; are = refl; is_call = refl }; leaves = refl }

first_pin : pin_of L (take 17 ts) 0 ≡ 2
unfolding after_in trace_in outcome_in next_in refused_in applied_in searched refusal reply write learn refused applied
first_pin = refl

second_may : MayAnswer (after_in (ordered L) (take 51 ts)) 1 Insert 6 true
unfolding after_in trace_in outcome_in next_in refused_in applied_in searched refusal reply write learn refused applied
second_may = record { called = record { searches = _; are = refl; is_call = refl }; leaves = refl }

second_pin : pin_of L (take 51 ts) 1 ≡ 28
unfolding after_in trace_in outcome_in next_in refused_in applied_in searched refusal reply write learn refused applied
second_pin = refl

delete_called : IsCalled (after_in (ordered L) ts) 0 Delete 5
unfolding after_in trace_in outcome_in next_in refused_in applied_in searched refusal reply write learn refused applied
delete_called = record { searches = _; are = refl; is_call = refl }

delete_pin : pin_of L ts 0 ≡ 19
unfolding after_in trace_in outcome_in next_in refused_in applied_in searched refusal reply write learn refused applied
delete_pin = refl

-- the flagged leaf waits in a queue, so no path leads to it
leaf_waits : EachSlotInOnePlace (after_in (ordered L) ts).state → Reached (after_in (ordered L) ts).state.memory 7 → ⊥
unfolding after_in trace_in outcome_in next_in refused_in applied_in searched refusal reply write learn refused applied
leaf_waits places r = apart (one.only (OnPath r.path) r.ends ∙ sym (one.only (InQueue 1 1 1) refl))
  where
    one : OneSlotPlace (after_in (ordered L) ts).state 7
    one = places 7 (λ z. cc) (lit≤ tt)

    apart : OnPath r.path ≡ InQueue 1 1 1 → ⊥
    apart e = cc

places_now : EachSlotInOnePlace (after_in (ordered L) ts).state
places_now = let o = each_ordered L enough ts keys in
    subst EachSlotInOnePlace (sym o.leads) (each_slot_has_one_place L enough o.events)

delete_did : HasWonDelete L ts 0 5
unfolding after_in trace_in outcome_in next_in refused_in applied_in searched refusal reply write learn refused applied
delete_did = from_changed L enough ts keys 0 Delete 5 refl (record { slot = 7; birth = 1 }, refl, leaf_waits places_now)

each_helped : (a : Act) → IsAmong helped.acts a → IsActOfRun L ts a
each_helped a (inl is) = subst (IsActOfRun L ts) is
    (IsAnswered (take 17 ts) (drop 18 ts) refl first_may (sym first_pin) (lit< tt) (lit≤ tt))
each_helped a (inr (inl is)) = subst (IsActOfRun L ts) is
    (IsPending delete_called delete_did refl (sym delete_pin) (lit< tt) (lit≤ tt))
each_helped a (inr (inr (inl is))) = subst (IsActOfRun L ts) is
    (IsAnswered (take 51 ts) (drop 52 ts) refl second_may (sym second_pin) (lit< tt) (lit≤ tt))
each_helped a (inr (inr (inr none))) = absurd none

found_helped : (acts : List Act) → IsRunHistory L ts acts → (a : Act) → IsAmong helped.acts a
    → HasActOfCall acts a.worker a.pin a.op a.key a.answer
found_helped acts h a (inl is) = subst (λ (a : Act). HasActOfCall acts a.worker a.pin a.op a.key a.answer) is
    (subst (λ (p : ℕ). HasActOfCall acts 0 p Insert 5 true) first_pin
    (h.answered (take 17 ts) (drop 18 ts) 0 Insert 5 true refl first_may))
found_helped acts h a (inr (inl is)) = subst (λ (a : Act). HasActOfCall acts a.worker a.pin a.op a.key a.answer) is
    (subst (λ (p : ℕ). HasActOfCall acts 0 p Delete 5 true) delete_pin (h.pending 0 Delete 5 delete_called delete_did))
found_helped acts h a (inr (inr (inl is))) = subst
    (λ (a : Act). HasActOfCall acts a.worker a.pin a.op a.key a.answer) is
    (subst (λ (p : ℕ). HasActOfCall acts 1 p Insert 6 true) second_pin
    (h.answered (take 51 ts) (drop 52 ts) 1 Insert 6 true refl second_may))
found_helped acts h a (inr (inr (inr none))) = absurd none

six_alone : (j : ℕ) → (((⊥ ⊎ (j ≡ 5)) × (j ≡ 5 → ⊥)) ⊎ (j ≡ 6) → Contains (6 ∷ []) j)
    × (Contains (6 ∷ []) j → ((⊥ ⊎ (j ≡ 5)) × (j ≡ 5 → ⊥)) ⊎ (j ≡ 6))
six_alone j = (to, from)
  where
    to : ((⊥ ⊎ (j ≡ 5)) × (j ≡ 5 → ⊥)) ⊎ (j ≡ 6) → Contains (6 ∷ []) j
    to (inl (inl none, other)) = absurd none
    to (inl (inr five, other)) = absurd (other five)
    to (inr six) = (0, lit< tt, sym six)

    from : Contains (6 ∷ []) j → ((⊥ ⊎ (j ≡ 5)) × (j ≡ 5 → ⊥)) ⊎ (j ≡ 6)
    from (zero, below, is) = inr (sym is)
    from (suc i, below, is) = absurd (omega (arith, below))

-- at last worker 0 alone has a call
calls_left : (w : ℕ) (c : Call) → (own_search (after_in (ordered L) ts) w).call ≡ Some c
    → (0 ≡ w) × (record { op = Delete; key = 5 } ≡ c)
unfolding after_in trace_in outcome_in next_in refused_in applied_in searched refusal reply write learn refused applied
calls_left zero c is = (refl, same_Some (record { op = Delete; key = 5 }) c is)
calls_left (suc zero) c is = absurd (none-some c is)
calls_left (suc (suc w)) c is = absurd (none-some c is)

-- two calls were answered
two_answers : (x : Leaving) → IsOne (leavings 0 ts) x
    → (record { number = 17; worker = 0; answer = true } ≡ x) ⊎ (record { number = 51; worker = 1; answer = true } ≡ x)
unfolding leavings leaving IsOne
two_answers x (inl is) = inl is
two_answers x (inr (inl is)) = inr is
two_answers x (inr (inr none)) = absurd none

only_helped : (acts : List Act) → IsRunHistory L ts acts → (a : Act) → IsAmong acts a
    → HasActOfCall helped.acts a.worker a.pin a.op a.key a.answer
only_helped acts h a there = by (h.each a there)
  where
    by : IsActOfRun L ts a → HasActOfCall helped.acts a.worker a.pin a.op a.key a.answer
    by (IsAnswered before since run may pin later within) = elim
        (two_answers _ (listed_in L ts 17 0 2 Insert 5 first_may first_pin a before since run)) [
          | inl is ↦ told_as helped.acts (record {
            worker = 0;
            pin = 2;
            op = Insert;
            key = 5;
            answer = true;
            moment = 17;
          }) a (inl refl) (answered_as L ts 17 0 2 Insert 5 first_may first_pin a before since run may pin is)
          | inr is ↦ told_as helped.acts (record {
            worker = 1;
            pin = 28;
            op = Insert;
            key = 6;
            answer = true;
            moment = 51;
          }) a (inr (inr (inl refl))) (answered_as L ts 51 1 28 Insert 6 second_may second_pin a before since run may
              pin is)
        ]
    by (IsPending called did answer pin later within) =
        let c = calls_left a.worker (record { op = a.op; key = a.key })
        (is_own_call (after_in (ordered L) ts) a.worker a.op a.key called) in
        told_as helped.acts (record { worker = 0; pin = 19; op = Delete; key = 5; answer = true; moment = 36 }) a
        (inr (inl refl))
        (same_call a 0 19 Delete 5 true c.0 (sym delete_pin ∙ ((λ i. pin_of L ts (c.0 i)) ∙ sym pin)) (sym answer) c.1)

helped_schedule : IsAsWorkedInOrder helped.schedule helped.keys
unfolding ordered_report trace_in after_in outcome_in next_in refused_in applied_in searched refused applied refusal
    reply write learn
helped_schedule = refl

pub helped_is_as_told : IsAsTold helped
unfolding pins_differ
helped_is_as_told = record {
  schedule = helped_schedule;
  replays = (
    lit≤ tt,
    (λ none. none),
    (
      lit≤ tt,
      inr refl,
      (lit≤ tt, (λ six. elim six.0 [ inl none ↦ none | inr five ↦ six.1 five ]), λ j small. six_alone j),
    ),
  );
  in_order = (inl (lit< tt), (inl (lit< tt), (inl (lit< tt), tt)));
  once = once_by helped.acts refl;
  each = each_helped;
  found = found_helped;
  only = only_helped;
}

-- ---- a look-up that answers by a leaf which is cut

abbrev M : Layout
M = stale.schedule.layout

abbrev us : List (ℕ × Event)
us = events_of stale

insert_may : MayAnswer (after_in (ordered M) (take 17 us)) 0 Insert 5 true
unfolding after_in trace_in outcome_in next_in refused_in applied_in searched refusal reply write learn refused applied
insert_may = record { called = record { searches = _; are = refl; is_call = refl }; leaves = refl }

insert_pin : pin_of M (take 17 us) 0 ≡ 2
unfolding after_in trace_in outcome_in next_in refused_in applied_in searched refusal reply write learn refused applied
insert_pin = refl

look_may : MayAnswer (after_in (ordered M) (take 38 us)) 1 Has 5 true
unfolding after_in trace_in outcome_in next_in refused_in applied_in searched refusal reply write learn refused applied
look_may = record { called = record { searches = _; are = refl; is_call = refl }; leaves = refl }

look_pin : pin_of M (take 38 us) 1 ≡ 20
unfolding after_in trace_in outcome_in next_in refused_in applied_in searched refusal reply write learn refused applied
look_pin = refl

delete_5_may : MayAnswer (after_in (ordered M) (take 35 us)) 0 Delete 5 true
unfolding after_in trace_in outcome_in next_in refused_in applied_in searched refusal reply write learn refused applied
delete_5_may = record { called = record { searches = _; are = refl; is_call = refl }; leaves = refl }

delete_5_pin : pin_of M (take 35 us) 0 ≡ 25
unfolding after_in trace_in outcome_in next_in refused_in applied_in searched refusal reply write learn refused applied
delete_5_pin = refl

each_stale : (a : Act) → IsAmong stale.acts a → IsActOfRun M us a
each_stale a (inl is) = subst (IsActOfRun M us) is
    (IsAnswered (take 17 us) (drop 18 us) refl insert_may (sym insert_pin) (lit< tt) (lit≤ tt))
each_stale a (inr (inl is)) = subst (IsActOfRun M us) is
    (IsAnswered (take 38 us) (drop 39 us) refl look_may (sym look_pin) (lit< tt) (lit≤ tt))
each_stale a (inr (inr (inl is))) = subst (IsActOfRun M us) is
    (IsAnswered (take 35 us) (drop 36 us) refl delete_5_may (sym delete_5_pin) (lit< tt) (lit≤ tt))
each_stale a (inr (inr (inr none))) = absurd none

found_stale : (acts : List Act) → IsRunHistory M us acts → (a : Act) → IsAmong stale.acts a
    → HasActOfCall acts a.worker a.pin a.op a.key a.answer
found_stale acts h a (inl is) = subst (λ (a : Act). HasActOfCall acts a.worker a.pin a.op a.key a.answer) is
    (subst (λ (p : ℕ). HasActOfCall acts 0 p Insert 5 true) insert_pin
    (h.answered (take 17 us) (drop 18 us) 0 Insert 5 true refl insert_may))
found_stale acts h a (inr (inl is)) = subst (λ (a : Act). HasActOfCall acts a.worker a.pin a.op a.key a.answer) is
    (subst (λ (p : ℕ). HasActOfCall acts 1 p Has 5 true) look_pin
    (h.answered (take 38 us) (drop 39 us) 1 Has 5 true refl look_may))
found_stale acts h a (inr (inr (inl is))) = subst (λ (a : Act). HasActOfCall acts a.worker a.pin a.op a.key a.answer)
    is (subst (λ (p : ℕ). HasActOfCall acts 0 p Delete 5 true) delete_5_pin
    (h.answered (take 35 us) (drop 36 us) 0 Delete 5 true refl delete_5_may))
found_stale acts h a (inr (inr (inr none))) = absurd none

-- at last nobody has a call
no_call_left : (w : ℕ) (c : Call) → (own_search (after_in (ordered M) us) w).call ≡ Some c → ⊥
unfolding after_in trace_in outcome_in next_in refused_in applied_in searched refusal reply write learn refused applied
no_call_left zero c is = none-some c is
no_call_left (suc zero) c is = none-some c is
no_call_left (suc (suc w)) c is = none-some c is

three_answers : (x : Leaving) → IsOne (leavings 0 us) x
    → (record { number = 17; worker = 0; answer = true } ≡ x)
    ⊎ ((record { number = 35; worker = 0; answer = true } ≡ x)
    ⊎ (record { number = 38; worker = 1; answer = true } ≡ x))
unfolding leavings leaving IsOne
three_answers x (inl is) = inl is
three_answers x (inr (inl is)) = inr (inl is)
three_answers x (inr (inr (inl is))) = inr (inr is)
three_answers x (inr (inr (inr none))) = absurd none

only_stale : (acts : List Act) → IsRunHistory M us acts → (a : Act) → IsAmong acts a
    → HasActOfCall stale.acts a.worker a.pin a.op a.key a.answer
only_stale acts h a there = by (h.each a there)
  where
    by : IsActOfRun M us a → HasActOfCall stale.acts a.worker a.pin a.op a.key a.answer
    by (IsAnswered before since run may pin later within) = elim
        (three_answers _ (listed_in M us 17 0 2 Insert 5 insert_may insert_pin a before since run)) [
          | inl is ↦ told_as stale.acts (record {
            worker = 0;
            pin = 2;
            op = Insert;
            key = 5;
            answer = true;
            moment = 17;
          }) a (inl refl) (answered_as M us 17 0 2 Insert 5 insert_may insert_pin a before since run may pin is)
          | inr (inl is) ↦ told_as stale.acts (record {
            worker = 0;
            pin = 25;
            op = Delete;
            key = 5;
            answer = true;
            moment = 34;
          }) a (inr (inr (inl refl))) (answered_as M us 35 0 25 Delete 5 delete_5_may delete_5_pin a before
              since run may pin is)
          | inr (inr is) ↦ told_as stale.acts (record {
            worker = 1;
            pin = 20;
            op = Has;
            key = 5;
            answer = true;
            moment =
                21;
          }) a (inr (inl refl)) (answered_as M us 38 1 20 Has 5 look_may look_pin a before since run may pin is)
        ]
    by (IsPending called did answer pin later within) = absurd
        (no_call_left a.worker (record { op = a.op; key = a.key })
        (is_own_call (after_in (ordered M) us) a.worker a.op a.key called))

none_left : (j : ℕ) → ((⊥ ⊎ (j ≡ 5)) × (j ≡ 5 → ⊥) → Contains [] j) × (Contains [] j → (⊥ ⊎ (j ≡ 5)) × (j ≡ 5 → ⊥))
none_left j = (to, from)
  where
    to : (⊥ ⊎ (j ≡ 5)) × (j ≡ 5 → ⊥) → Contains [] j
    to (inl none, other) = absurd none
    to (inr five, other) = absurd (other five)

    from : Contains [] j → (⊥ ⊎ (j ≡ 5)) × (j ≡ 5 → ⊥)
    from (i, below, is) = absurd (omega (arith, below))

stale_schedule : IsAsWorkedInOrder stale.schedule stale.keys
unfolding ordered_report trace_in after_in outcome_in next_in refused_in applied_in searched refused applied refusal
    reply write learn
stale_schedule = refl

pub stale_is_as_told : IsAsTold stale
unfolding pins_differ
stale_is_as_told = record {
  schedule = stale_schedule;
  replays = (lit≤ tt, (λ none. none), (lit≤ tt, inr refl, (lit≤ tt, inr refl, λ j small. none_left j)));
  in_order = (inl (lit< tt), (inl (lit< tt), (inl (lit< tt), tt)));
  once = once_by stale.acts refl;
  each = each_stale;
  found = found_stale;
  only = only_stale;
}

-- ---- an insert and then a delete: its numbers, and what the laws say of it

abbrev N : Layout
N = delete_in_order.layout

abbrev vs : List (ℕ × Event)
vs = map turn_of delete_in_order.turns

-- one link of 5 and one flag of 5
one_link : links_of 5 N vs ≡ 1
unfolding how_often trace_in after_in outcome_in next_in refused_in applied_in searched refusal reply write learn
    refused applied
one_link = refl

one_flag : flags_of 5 N vs ≡ 1
unfolding how_often trace_in after_in outcome_in next_in refused_in applied_in searched refusal reply write learn
    refused applied
one_flag = refl

no_other : links_of 4 N vs ≡ 0
unfolding how_often trace_in after_in outcome_in next_in refused_in applied_in searched refusal reply write learn
    refused applied
no_other = refl

-- the insert's pin was confirmed by turn 2, the delete's by turn 20; the insert was answered by
-- turn 18, and the delete by the last
pin_of_insert : pin_of N (take 18 vs) 0 ≡ 2
unfolding trace_in after_in outcome_in next_in refused_in applied_in searched refusal reply write learn refused applied
pin_of_insert = refl

pin_of_delete : pin_of N (take 43 vs) 0 ≡ 20
unfolding trace_in after_in outcome_in next_in refused_in applied_in searched refusal reply write learn refused applied
pin_of_delete = refl

-- the answers of both are ones of which the laws speak
insert_answers : MayAnswer (after_in (ordered N) (take 18 vs)) 0 Insert 5 true
unfolding trace_in after_in outcome_in next_in refused_in applied_in searched refusal reply write learn refused applied
insert_answers = record { called = record { searches = _; are = refl; is_call = refl }; leaves = refl }

delete_answers : MayAnswer (after_in (ordered N) (take 43 vs)) 0 Delete 5 true
unfolding trace_in after_in outcome_in next_in refused_in applied_in searched refusal reply write learn refused applied
delete_answers = record { called = record { searches = _; are = refl; is_call = refl }; leaves = refl }

-- so a history of this schedule has both calls
both_told : (h : RunHasHistory N vs) → HasActOfCall h.0 0 2 Insert 5 true × HasActOfCall h.0 0 20 Delete 5 true
both_told h = (
  subst (λ (p : ℕ). HasActOfCall h.0 0 p Insert 5 true) pin_of_insert
      (h.1.answered (take 18 vs) (drop 19 vs) 0 Insert 5 true refl insert_answers),
  subst (λ (p : ℕ). HasActOfCall h.0 0 p Delete 5 true) pin_of_delete
      (h.1.answered (take 43 vs) [] 0 Delete 5 true refl delete_answers),
)
