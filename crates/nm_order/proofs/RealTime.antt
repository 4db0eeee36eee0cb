-- Calls that do not overlap stand in their order in each history, and so do each worker's.
use Rattle.std.proofs.Common.{◌≡◌, ℕ, ◌+◌, ◌<◌, ◌≤◌, inl, inr, ◌==◌, Bool, true, false, not, cond, List, [], ◌∷◌, ◌++◌, append_assoc, length, length-append, refl, sym, ap, subst, ◌∙◌, arith}
use Rattle.std.specs.Prelude.{All}
use Rattle.std.specs.List.{list_any}
use Rattle.std.proofs.lemmas.Bool.{cases_lt, eq-eqb, cond-true}
use Rattle.nm_edge.specs.Layouts.{Layout}
use Rattle.nm_model.specs.declared.event.Event.{Event}
use Rattle.nm_model.specs.declared.event.Event.TheVariants.{LeaveWith}
use Rattle.nm_model.specs.declared.reply.Reply.TheVariants.{Departed}
use Rattle.nm_model.specs.declared.trace.Turn.{Turn}
use Rattle.nm_model.specs.declared.event.Op.{Op}
use Rattle.nm_model.specs.Walks.{log_of, begins_anew}
use Rattle.nm_model.specs.Ordered.{ordered, after_in, trace_in, HasKey}
use Rattle.nm_order.specs.Moments.{OfEachOrderedRun}
use Rattle.nm_order.specs.Exchanges.{MayAnswer}
use Rattle.nm_order.specs.Legal.{changes}
use Rattle.nm_model.specs.Acts.{Act, IsAmong}
use Rattle.nm_order.specs.History.{SameCall, EachOnce, ComesNext, InOrderOfMoments, last_anew, pin_of, IsActOfRun, IsRunHistory}
use Rattle.nm_order.specs.History.IsActOfRun.{IsAnswered, IsPending}
use Rattle.nm_order.specs.RealTime.{Precedes, EndsBefore, KeepsRealTime, HistoriesKeepRealTime, HistoriesHaveOneActACall}
use Rattle.nm_order.proofs.RunMoments.{entries, allowed_entries}
use Rattle.nm_order.proofs.RunExchanges.{first_keys, is_own_call}
use Rattle.nm_order.proofs.WalksOfRuns.{trace_in-append}
use Rattle.nm_order.proofs.PinNumbers.{last-join, pin_more, pin_below}

-- ---- lists in the order of their moments

-- an act splits its list
record SplitsAt (acts : List Act) (b : Act) : Type 0 where
  front : List Act
  back : List Act
  are : acts ≡ front ++ b ∷ back

splits : (acts : List Act) (b : Act) → IsAmong acts b → SplitsAt acts b
splits [] b there = absurd there
splits (x ∷ acts) b (inl is) = record { front = []; back = acts; are = ap (λ (y : Act). y ∷ acts) is }
splits (x ∷ acts) b (inr there) = let s = splits acts b there in
    record { front = x ∷ s.front; back = s.back; are = ap (λ (l : List Act). x ∷ l) s.are }

pub none_sooner : (m : ℕ) (quiet : Bool) (x : Act) → ComesNext m quiet x → m ≤ x.moment
none_sooner m quiet x (inl later) = omega arith
none_sooner m quiet x (inr same) = let e = same.0 in omega arith

pub all_later : (m : ℕ) (quiet : Bool) (acts : List Act) → InOrderOfMoments m quiet acts → (a : Act) → IsAmong acts a
    → m ≤ a.moment
all_later m quiet [] o a there = absurd there
all_later m quiet (x ∷ acts) o a (inl is) = subst (λ (y : Act). m ≤ y.moment) is (none_sooner m quiet x o.0)
all_later m quiet (x ∷ acts) o a (inr there) = let first = none_sooner m quiet x o.0 in
    let rest = all_later x.moment (not (changes x.op x.answer)) acts o.1 a there in omega arith

by_moments : (m : ℕ) (quiet : Bool) (acts : List Act) → InOrderOfMoments m quiet acts → (a b : Act) → IsAmong acts a
    → IsAmong acts b → a.moment < b.moment → Precedes acts a b
by_moments m quiet [] o a b there then' less = absurd there
by_moments m quiet (x ∷ acts) o a b (inl is) (inl is') less = absurd
    (let e : a.moment ≡ b.moment = ap (λ (y : Act). y.moment) (sym is ∙ is') in omega arith)
by_moments m quiet (x ∷ acts) o a b (inl is) (inr there) less =
    let s = splits acts b there in
    record { front = []; between = s.front; back = s.back; are = (λ i. is i ∷ s.are i) }
by_moments m quiet (x ∷ acts) o a b (inr there) (inl is) less =
    absurd (let e : x.moment ≡ b.moment = ap (λ (y : Act). y.moment) is in
    let later = all_later x.moment (not (changes x.op x.answer)) acts o.1 a there in omega arith)
by_moments m quiet (x ∷ acts) o a b (inr there) (inr there') less =
    let p = by_moments x.moment (not (changes x.op x.answer)) acts o.1 a b there there' less in
    record { front = x ∷ p.front; between = p.between; back = p.back; are = ap (λ (l : List Act). x ∷ l) p.are }

-- ---- the numbers of pins grow

pub last_grows : (w p n : ℕ) (xs : List Turn) → p ≤ n → (p ≤ last_anew w p n xs) × (last_anew w p n xs ≤ n + length xs)
last_grows w p n [] le = (omega arith, omega arith)
last_grows w p n (x ∷ xs) le = by (list_any begins_anew (log_of w (x ∷ [])))
    (λ q small. last_grows w q (n + 1) xs small)
  where
    by : (b : Bool) → ((q : ℕ) → q ≤ n + 1 → (q ≤ last_anew w q (n + 1) xs)
        × (last_anew w q (n + 1) xs ≤ n + 1 + length xs))
        → (p ≤ last_anew w (cond b n p) (n + 1) xs) × (last_anew w (cond b n p) (n + 1) xs ≤ n + length (x ∷ xs))
    by true rest = let r = rest n (omega arith) in (let a = r.0 in omega arith, let b = r.1 in omega arith)
    by false rest = let r = rest p (omega arith) in (r.0, let b = r.1 in omega arith)

pin_grows : (L : Layout) (before since : List (ℕ × Event)) (w : ℕ) → pin_of L before w ≤ pin_of L (before ++ since) w
pin_grows L before since w = subst (λ (n : ℕ). pin_of L before w ≤ n) (sym joined)
    (last_grows w (pin_of L before w) (0 + length (trace_in (ordered L) before))
    (trace_in (after_in (ordered L) before) since) below).0
  where
    joined : pin_of L (before ++ since) w ≡ last_anew w (pin_of L before w)
        (0 + length (trace_in (ordered L) before)) (trace_in (after_in (ordered L) before) since)
    joined = ap (last_anew w 0 0) (trace_in-append (ordered L) before since)
        ∙ last-join w 0 0 (trace_in (ordered L) before) (trace_in (after_in (ordered L) before) since)

    below : pin_of L before w ≤ 0 + length (trace_in (ordered L) before)
    below = (last_grows w 0 0 (trace_in (ordered L) before) (omega arith)).1

-- of two ways to split a run the shorter first part begins the longer one
pub begins_with : {X : Type 0} (xs ys xs' ys' : List X) → xs ++ ys ≡ xs' ++ ys' → length xs ≤ length xs'
    → (mid : List X) × (xs' ≡ xs ++ mid)
begins_with [] ys xs' ys' e le = (xs', refl)
begins_with (x ∷ xs) ys [] ys' e le = absurd (omega (arith, le))
begins_with (x ∷ xs) ys (z ∷ xs') ys' e le = let r = begins_with xs ys xs' ys' (tail e) (omega (arith, le)) in
    (r.0, λ i. sym (head e) i ∷ r.1 i)
  where
    head : x ∷ (xs ++ ys) ≡ z ∷ (xs' ++ ys') → x ≡ z
    head e = cc

    tail : x ∷ (xs ++ ys) ≡ z ∷ (xs' ++ ys') → xs ++ ys ≡ xs' ++ ys'
    tail e = cc

module _ (L : Layout) (enough : 5 ≤ L.nodes) where
  -- behind an answer of a worker its pins are no earlier than that
  module _ (w : ℕ) (op : Op) (k : ℕ) (answer : Bool) (before : List (ℕ × Event))
      (may : MayAnswer (after_in (ordered L) before) w op k answer) where
    answered : pin_of L (before ++ (w, LeaveWith answer) ∷ []) w ≡ length before
    answered = pin_more L before (w, LeaveWith answer) w
        ∙ cond-true (list_any begins_anew (entries w (after_in (ordered L) before) (w, LeaveWith answer)))
        (length before) (pin_of L before w) anew
      where
        anew : list_any begins_anew (entries w (after_in (ordered L) before) (w, LeaveWith answer)) ≡ true
        anew = ap (list_any begins_anew) (allowed_entries w (after_in (ordered L) before) (w, LeaveWith answer)
            Departed may.leaves ∙ cond-true (w == w) ((LeaveWith answer, Departed) ∷ []) [] (eq-eqb w w refl))

    pin_past : (mid : List (ℕ × Event)) → length before ≤ pin_of L ((before ++ (w, LeaveWith answer) ∷ []) ++ mid) w
    pin_past mid = let e = answered in let g = pin_grows L (before ++ (w, LeaveWith answer) ∷ []) mid w in omega arith

    past_in : (since first rest : List (ℕ × Event)) → before ++ (w, LeaveWith answer) ∷ since ≡ first ++ rest
        → length before < length first → length before ≤ pin_of L first w
    past_in since first rest e less =
        let b = begins_with (before ++ (w, LeaveWith answer) ∷ []) since first rest
        (append_assoc before ((w, LeaveWith answer) ∷ []) since ∙ e)
        (let l = length-append before ((w, LeaveWith answer) ∷ []) in omega arith) in
        subst (λ (l : List (ℕ × Event)). length before ≤ pin_of L l w) (sym b.1) (pin_past b.0)

    past_all : (since : List (ℕ × Event)) → length before ≤ pin_of L (before ++ (w, LeaveWith answer) ∷ since) w
    past_all since = subst (λ (l : List (ℕ × Event)). length before ≤ pin_of L l w)
        (append_assoc before ((w, LeaveWith answer) ∷ []) since) (pin_past since)

    own_below : All (λ t. HasKey t.1) before → pin_of L before w < length before
    own_below keys = pin_below L enough before keys w (record { op = op; key = k })
        (is_own_call (after_in (ordered L) before) w op k may.called)

  module _ (turns : List (ℕ × Event)) (keys : All (λ t. HasKey t.1) turns) where
    -- an act of a call that was answered is no later than the answer
    within_answer : (a : Act) → IsActOfRun L turns a → (n : ℕ) → (e : EndsBefore L turns a n)
        → a.moment ≤ length e.before
    within_answer a act n e = by act
      where
        below : a.pin < length e.before
        below = let is = e.is_pin in
            let lt = own_below a.worker a.op a.key a.answer e.before e.may
            (first_keys e.before ((a.worker, LeaveWith a.answer) ∷ e.since)
            (subst (λ (l : List (ℕ × Event)). All (λ t. HasKey t.1) l) e.is_run keys)) in omega arith

        by : IsActOfRun L turns a → a.moment ≤ length e.before
        by (IsAnswered first rest is may pin later within) = elim (cases_lt (length e.before) (length first)) [
          | inl less ↦ absurd (let b = below in
              let p = past_in a.worker a.op a.key a.answer e.before e.may e.since first
              ((a.worker, LeaveWith a.answer) ∷ rest) (sym e.is_run ∙ is) less in omega arith)
          | inr le ↦ omega arith
        ]
        by (IsPending called did true' pin later within) =
            absurd (let b = below in
            let p = subst (λ (l : List (ℕ × Event)). length e.before ≤ pin_of L l a.worker) (sym e.is_run)
            (past_all a.worker a.op a.key a.answer e.before e.may e.since) in omega arith)

    begins_later : (b : Act) → IsActOfRun L turns b → b.pin < b.moment
    begins_later b (IsAnswered first rest is may pin later within) = later
    begins_later b (IsPending called did true' pin later within) = later

    -- a pin's number is no greater than the last of its worker
    pin_at_most : (b : Act) → IsActOfRun L turns b → b.pin ≤ pin_of L turns b.worker
    pin_at_most b (IsAnswered first rest is may pin later within) =
        let g = subst (λ (l : List (ℕ × Event)). pin_of L first b.worker ≤ pin_of L l b.worker) (sym is)
        (pin_grows L first ((b.worker, LeaveWith b.answer) ∷ rest) b.worker) in omega arith
    pin_at_most b (IsPending called did true' pin later within) = omega arith

    -- two acts of one worker
    own_later : (a b : Act) → IsActOfRun L turns a → IsActOfRun L turns b → a.worker ≡ b.worker → a.pin < b.pin
        → a.moment < b.moment
    own_later a b (IsPending called did true' pin later within) other same less = absurd
        (let m = subst (λ (w : ℕ). b.pin ≤ pin_of L turns w) (sym same) (pin_at_most b other) in omega arith)
    own_later a b (IsAnswered first rest is may pin later within) other same less = by other
      where
        enough' : length first ≤ b.pin → b.moment ≡ b.moment → b.pin < b.moment → a.moment < b.moment
        enough' le e lt = omega arith

        by : IsActOfRun L turns b → a.moment < b.moment
        by (IsPending called did true' pin' later' within') = enough'
            (let p = subst (λ (l : List (ℕ × Event)). length first ≤ pin_of L l a.worker) (sym is)
            (past_all a.worker a.op a.key a.answer first may rest) in let e = ap (pin_of L turns) same in omega arith)
            refl later'
        by (IsAnswered first' rest' is' may' pin' later' within') = elim (cases_lt (length first) (length first')) [
          | inl longer ↦ enough' (let p = past_in a.worker a.op a.key a.answer first may rest first'
              ((b.worker, LeaveWith b.answer) ∷ rest') (sym is ∙ is') longer in let e = ap (pin_of L first') same in
              omega arith) refl later'
          | inr shorter ↦ absurd (let m = begins_with first' ((b.worker, LeaveWith b.answer) ∷ rest') first
              ((a.worker, LeaveWith a.answer) ∷ rest) (sym is' ∙ is) shorter in
              let g = subst (λ (l : List (ℕ × Event)). pin_of L first' b.worker ≤ pin_of L l b.worker) (sym m.1)
              (pin_grows L first' m.0 b.worker) in let e = ap (pin_of L first) same in omega arith)
        ]

    keeps_real_time : (acts : List Act) → IsRunHistory L turns acts → KeepsRealTime L turns acts
    keeps_real_time acts h = record {
      apart = λ a b there there' ends. by_moments 0 false acts h.in_order a b there there'
          (let p = within_answer a (h.each a there) b.pin ends in let q = begins_later b (h.each b there') in
          let e = ends.early in omega arith);
      own = λ a b there there' same less. by_moments 0 false acts h.in_order a b there there'
          (own_later a b (h.each a there) (h.each b there') same less);
    }

-- ---- one act a call

one_act : (acts : List Act) → EachOnce acts → (a b : Act) → IsAmong acts a → IsAmong acts b → SameCall a b → a ≡ b
one_act [] once a b there there' same = absurd there
one_act (x ∷ acts) once a b (inl is) (inl is') same = sym is ∙ is'
one_act (x ∷ acts) once a b (inl is) (inr there) same = absurd
    (once.0 b there (subst (λ (y : Act). SameCall y b) (sym is) same))
one_act (x ∷ acts) once a b (inr there) (inl is) same = absurd
    (once.0 a there (subst (λ (y : Act). SameCall y a) (sym is) (sym same.0, sym same.1)))
one_act (x ∷ acts) once a b (inr there) (inr there') same = one_act acts once.1 a b there there' same

pub histories_have_one_act_a_call : OfEachOrderedRun HistoriesHaveOneActACall
histories_have_one_act_a_call L enough turns keys acts h = one_act acts h.once

pub histories_keep_real_time : OfEachOrderedRun HistoriesKeepRealTime
histories_keep_real_time L enough turns keys acts h = keeps_real_time L enough turns keys acts h
