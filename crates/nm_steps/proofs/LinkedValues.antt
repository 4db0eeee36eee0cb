-- The value of a linked leaf: the one that its worker stored last before the link, as long as nobody
-- has the slot in hands.
use Rattle.std.proofs.Common.{◌≡◌, ◌⊎◌, inl, inr, ℕ, zero, suc, ◌+◌, ◌<◌, ◌≤◌, ◌==◌, ltb, Bool, true, false, cond, List, [], ◌∷◌, ◌++◌, AllPairs, length, get_or, refl, sym, ap, ◌∙◌, subst, append-nil, append_assoc, eq-eqb, ne_eqb, true≢false, arith}
use Rattle.std.specs.Prelude.{filter}
use Rattle.std.proofs.lemmas.Bool.{cases_lt, cond-true, lt-ltb, le-ltb}
use Rattle.std.proofs.lemmas.List.{get_or_default, length-append}
use Rattle.nm_edge.specs.Layouts.{Layout}
use Rattle.nm_model.specs.declared.event.Event.{Event}
use Rattle.nm_model.specs.Knowledge.{Knowledge, is_private}
use Rattle.nm_model.specs.Runs.{of}
use Rattle.nm_model.specs.Walks.{Entry}
use Rattle.nm_model.specs.Ordered.{ordered, after_in, trace_in}
use Rattle.nm_order.specs.Logs.{known_by, part_of}
use Rattle.nm_order.proofs.PartsOfRuns.{logs_tell}
use Rattle.nm_order.proofs.RealTime.{begins_with}
use Rattle.nm_steps.specs.declared.view.Stored.{Stored}
use Rattle.nm_steps.specs.Rules.{ComesBefore, IsStored, WasHeld, WereHeld, value_from}
use Rattle.nm_steps.proofs.StoreOrders.{part_longer}
use Rattle.nm_steps.proofs.ValueStays.{value_before}

-- ---- lists

-- no store of the slot was made before so many turns
abbrev pub NoneBefore : ℕ → ℕ → List Stored → Type 0
NoneBefore n s xs = (j : ℕ) (d : Stored) → j < length xs → (get_or xs j d).slot ≡ s → (get_or xs j d).at < n → ⊥

left_as_it_was : (n s was : ℕ) (xs : List Stored) → NoneBefore n s xs
    → value_from was (filter (λ (x : Stored). ltb x.at n) xs) s ≡ was
left_as_it_was n s was [] none' = refl
left_as_it_was n s was (x ∷ xs) none' = by (left_as_it_was n s was xs
    (λ j d below. none' (suc j) d (omega (arith, below)))) (cases_lt x.at n)
  where
    by : value_from was (filter (λ (y : Stored). ltb y.at n) xs) s ≡ was → (x.at < n) ⊎ (n ≤ x.at)
        → value_from was (filter (λ (y : Stored). ltb y.at n) (x ∷ xs)) s ≡ was
    by rest (inl early) =
        ap (λ (b : Bool). value_from was (cond b (x ∷ filter (λ (y : Stored). ltb y.at n) xs)
        (filter (λ (y : Stored). ltb y.at n) xs)) s) (lt-ltb x.at n early)
        ∙ (ap (λ (b : Bool). value_from (cond b x.value was) (filter (λ (y : Stored). ltb y.at n) xs) s)
        (ne_eqb x.slot s (λ same. none' 0 x (omega arith) same early)) ∙ rest)
    by rest (inr late) =
        ap (λ (b : Bool). value_from was (cond b (x ∷ filter (λ (y : Stored). ltb y.at n) xs)
        (filter (λ (y : Stored). ltb y.at n) xs)) s) (le-ltb x.at n late)
        ∙ rest

-- the last store of the slot before so many turns is the one at this index
value_of_last : (n s was k : ℕ) (xs : List Stored) (x : Stored) → k < length xs → get_or xs k x ≡ x → x.at < n
    → x.slot ≡ s
    → ((j : ℕ) (d : Stored) → k < j → j < length xs → (get_or xs j d).slot ≡ s → (get_or xs j d).at < n → ⊥)
    → value_from was (filter (λ (y : Stored). ltb y.at n) xs) s ≡ x.value
value_of_last n s was k [] x below is early slot none' = absurd (omega (arith, below))
value_of_last n s was zero (y ∷ ys) x below is early slot none' =
    ap (λ (b : Bool). value_from was (cond b (y ∷ filter (λ (z : Stored). ltb z.at n) ys)
    (filter (λ (z : Stored). ltb z.at n) ys)) s) (lt-ltb y.at n (subst (λ (z : Stored). z.at < n) (sym is) early))
    ∙ (left_as_it_was n s (cond (y.slot == s) y.value was) ys
    (λ j d inside. none' (suc j) d (omega arith) (omega (arith, inside)))
    ∙ (cond-true (y.slot == s) y.value was (eq-eqb y.slot s (ap (λ (z : Stored). z.slot) is ∙ slot))
    ∙ ap (λ (z : Stored). z.value) is))
value_of_last n s was (suc k) (y ∷ ys) x below is early slot none' = by
    (λ v. value_of_last n s v k ys x (omega (arith, below)) is early slot
    (λ j d more inside. none' (suc j) d (omega (arith, more)) (omega (arith, inside)))) (cases_lt y.at n)
  where
    by : ((v : ℕ) → value_from v (filter (λ (z : Stored). ltb z.at n) ys) s ≡ x.value) → (y.at < n) ⊎ (n ≤ y.at)
        → value_from was (filter (λ (z : Stored). ltb z.at n) (y ∷ ys)) s ≡ x.value
    by rest (inl less) =
        ap (λ (b : Bool). value_from was (cond b (y ∷ filter (λ (z : Stored). ltb z.at n) ys)
        (filter (λ (z : Stored). ltb z.at n) ys)) s) (lt-ltb y.at n less)
        ∙ rest (cond (y.slot == s) y.value was)
    by rest (inr late) =
        ap (λ (b : Bool). value_from was (cond b (y ∷ filter (λ (z : Stored). ltb z.at n) ys)
        (filter (λ (z : Stored). ltb z.at n) ys)) s) (le-ltb y.at n late)
        ∙ rest was

-- the store at an index was held
pub held_at : (L : Layout) (turns : List (ℕ × Event)) (xs : List Stored) → WereHeld L turns xs → (k : ℕ) (d : Stored)
    → k < length xs → WasHeld L turns (get_or xs k d)
held_at L turns [] held k d below = absurd (omega (arith, below))
held_at L turns (x ∷ xs) held zero d below = held.0
held_at L turns (x ∷ xs) held (suc k) d below = held_at L turns xs held.1 k d (omega (arith, below))

no_more : (xs : List Entry) → length xs ≡ 0 → xs ≡ []
no_more [] none' = refl
no_more (x ∷ xs) none' = absurd (omega (arith, none'))

-- ---- hands

-- a slot is in nobody's hands at any moment of the run from m up to n
abbrev pub NobodyHoldsUntil : Layout → List (ℕ × Event) → ℕ → ℕ → ℕ → Type 0
NobodyHoldsUntil L turns m n s = (before since : List (ℕ × Event)) → turns ≡ before ++ since → m ≤ length before
    → length before < n → (w : ℕ) → is_private (of (after_in (ordered L) before).state w) s ≡ false

-- at no moment of the run two workers have the slot in hands
abbrev pub OneHolds : Layout → List (ℕ × Event) → ℕ → Type 0
OneHolds L turns s = (before since : List (ℕ × Event)) → turns ≡ before ++ since → (w u : ℕ)
    → is_private (of (after_in (ordered L) before).state w) s ≡ true
    → is_private (of (after_in (ordered L) before).state u) s ≡ true → w ≡ u

-- the number of entries of a worker's log after these turns
abbrev pub entries : Layout → ℕ → List (ℕ × Event) → ℕ
entries L w ts = length (part_of w (trace_in (ordered L) ts))

-- a later log is no shorter
pub entries_grow : (L : Layout) (w : ℕ) (now was mid : List (ℕ × Event)) → now ≡ was ++ mid
    → entries L w was ≤ entries L w now
entries_grow L w now was mid is =
    let long = ap (λ (ts : List (ℕ × Event)). entries L w ts) is
    ∙ (ap (λ (l : List Entry). length l) (part_longer L was mid w)
    ∙ length-append (part_of w (trace_in (ordered L) was))
    (part_of w (trace_in (after_in (ordered L) was) mid))) in
    omega (arith, long)

-- a log that has not grown is the same
same_log : (L : Layout) (w : ℕ) (now was mid : List (ℕ × Event)) → now ≡ was ++ mid
    → entries L w now ≤ entries L w was → part_of w (trace_in (ordered L) now) ≡ part_of w (trace_in (ordered L) was)
same_log L w now was mid is few =
    let whole = ap (λ (ts : List (ℕ × Event)). part_of w (trace_in (ordered L) ts)) is ∙ part_longer L was mid w in
    let long = ap (λ (l : List Entry). length l) whole
    ∙ length-append (part_of w (trace_in (ordered L) was))
    (part_of w (trace_in (after_in (ordered L) was) mid)) in
    whole
    ∙ (ap (λ (l : List Entry). part_of w (trace_in (ordered L) was) ++ l)
    (no_more (part_of w (trace_in (after_in (ordered L) was) mid)) (omega (arith, long, few)))
    ∙ append-nil (part_of w (trace_in (ordered L) was)))

-- ---- the law

module _ (L : Layout) (turns : List (ℕ × Event)) (stores : List Stored) (held : WereHeld L turns stores)
    (order : AllPairs ComesBefore stores)
    (before since : List (ℕ × Event)) (w s : ℕ) (link : Event) (is : turns ≡ before ++ (w, link) ∷ since)
    (worker : w < L.workers) (took : entries L w before < entries L w (before ++ (w, link) ∷ []))
    (one : OneHolds L turns s) (at : IsStored stores w (entries L w before) s) (n : ℕ) (later : length before < n)
    (free : NobodyHoldsUntil L turns (length before + 1) n s) where
  abbrev x : Stored
  x = at.stored

  abbrev k : ℕ
  k = at.there.0

  x_held : WasHeld L turns x
  x_held = subst (WasHeld L turns) at.there.2 (held_at L turns stores held k x at.there.1)

  own_is : entries L w x_held.before ≡ entries L w before
  own_is = ap (λ (u : ℕ). entries L u x_held.before) (sym at.by_worker) ∙ (x_held.own ∙ at.at_own)

  -- the store was made before the link
  no_later : x.at ≤ length before
  no_later = by (cases_lt (length before) x.at)
    where
      by : (length before < x.at) ⊎ (x.at ≤ length before) → x.at ≤ length before
      by (inr early) = early
      by (inl late) =
          let long = length-append before ((w, link) ∷ []) in
          let there = x_held.at in
          let mid = begins_with (before ++ (w, link) ∷ []) since x_held.before x_held.since
          (append_assoc before ((w, link) ∷ []) since ∙ (sym is ∙ x_held.is_run))
          (omega (arith, late, long, there)) in
          let more = entries_grow L w x_held.before (before ++ (w, link) ∷ []) mid.0 mid.1 in
          absurd (omega (arith, more, took, own_is))

  -- no other store of the slot came after it before that moment
  conflict : (y : Stored) → WasHeld L turns y → ComesBefore x y → y.slot ≡ s → y.at < n → ⊥
  conflict y h first slot early = by (cases_lt (length before) y.at)
    where
      there : is_private (of (after_in (ordered L) h.before).state y.worker) s ≡ true
      there = ap (λ (z : ℕ). is_private (of (after_in (ordered L) h.before).state y.worker) z) (sym slot) ∙ h.private

      by : (length before < y.at) ⊎ (y.at ≤ length before) → ⊥
      by (inl late) =
          let y_at = h.at in
          true≢false (sym there ∙ free h.before h.since h.is_run (omega (arith, y_at, late))
          (omega (arith, y_at, early)) y.worker)
      by (inr soon) =
          let y_at = h.at in
          let x_at = x_held.at in
          let start = first.0 in
          let up = begins_with x_held.before x_held.since h.before h.since (sym x_held.is_run ∙ h.is_run)
          (omega (arith, y_at, x_at, start)) in
          let down = begins_with h.before h.since before ((w, link) ∷ since) (sym h.is_run ∙ is)
          (omega (arith, y_at, soon)) in
          let most = entries_grow L w before h.before down.0 down.1 in
          let same = same_log L w h.before x_held.before up.0 up.1 (omega (arith, most, own_is)) in
          let mine : is_private (of (after_in (ordered L) h.before).state w) s ≡ true =
          ap (λ (z : Knowledge). is_private z s) (logs_tell L h.before w worker
          ∙ (ap (known_by L w) same ∙ sym (logs_tell L x_held.before w worker)))
          ∙ (ap (λ (u : ℕ). is_private (of (after_in (ordered L) x_held.before).state u) s) (sym at.by_worker)
          ∙ (ap (λ (z : ℕ). is_private (of (after_in (ordered L) x_held.before).state x.worker) z)
          (sym at.for_slot) ∙ x_held.private)) in
          let who = one h.before h.since h.is_run w y.worker mine there in
          let own : entries L w h.before ≡ y.own = ap (λ (u : ℕ). entries L u h.before) who ∙ h.own in
          let least = first.1 (at.by_worker ∙ who) in
          let x_own = at.at_own in
          omega (arith, least, own, most, x_own)

  none_after : (j : ℕ) (d : Stored) → k < j → j < length stores → (get_or stores j d).slot ≡ s
      → (get_or stores j d).at < n → ⊥
  none_after j d less inside slot early =
      conflict (get_or stores j d) (held_at L turns stores held j d inside)
      (subst (λ (z : Stored). ComesBefore z (get_or stores j d))
      (get_or_default stores k d x at.there.1 ∙ at.there.2) (order k j d less inside))
      slot early

  -- THE LAW: the value is the one that was stored for the link
  pub value_since_link : value_before n stores s ≡ x.value
  value_since_link = value_of_last n s 0 k stores x at.there.1 at.there.2
      (let early = no_later in omega (arith, early, later)) at.for_slot none_after
