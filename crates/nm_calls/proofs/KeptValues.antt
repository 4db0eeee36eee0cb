-- The value of a leaf stays the same until a turn cuts it off.
use Rattle.std.proofs.Common.{◌≡◌, ◌⊎◌, inl, inr, ℕ, suc, ◌<◌, ◌≤◌, ◌==◌, ltb, ◌||◌, Bool, true, false, cond, List, [], ◌∷◌, ◌++◌, append_assoc, length, get_or, refl, sym, ap, subst, ◌∙◌, eq-eqb, ne_eqb, true≢false, arith}
use Rattle.std.specs.Prelude.{All, AllPairs, Result, Ok, Err, filter}
use Rattle.std.proofs.lemmas.Bool.{cases_lt, lt-ltb, le-ltb}
use Rattle.std.proofs.lemmas.List.{length-append}
use Rattle.nm_edge.specs.Layouts.{Layout, IsLayout}
use Rattle.nm_model.specs.declared.event.Event.{Event}
use Rattle.nm_model.specs.declared.trace.Turn.{Turn}
use Rattle.nm_edge.specs.declared.node.NodeId.{NodeId}
use Rattle.nm_model.specs.declared.reply.Refused.{Refused}
use Rattle.nm_model.specs.declared.reply.Reply.{Reply}
use Rattle.nm_model.specs.declared.reply.Reply.TheVariants.{Linked}
use Rattle.nm_model.specs.Headline.{words_after}
use Rattle.nm_model.specs.Memory.{Memory, is_leaf, node}
use Rattle.nm_model.specs.Walks.{Entry, logged_by}
use Rattle.nm_laws.proofs.Configurations.{after_in-append}
use Rattle.nm_order.specs.Logs.{is_leaver, part_of, takes_part}
use Rattle.nm_order.proofs.AnswersSince.{later_keys, part-append}
use Rattle.nm_order.proofs.OrderedLaws.{IsOrdered, each_ordered, own_keys}
use Rattle.nm_order.proofs.OrderedMoments.{Lasting, lasting}
use Rattle.nm_order.proofs.PinNumbers.{length_trace}
use Rattle.nm_order.proofs.RunExchanges.{first_keys}
use Rattle.nm_order.proofs.WalksOfRuns.{trace_in-append}
use Rattle.nm_theorem.proofs.Runs.{Parts as PartsOf, parts_of}
use Rattle.nm_theorem.proofs.WrittenWords.{run_words}
use Rattle.nm_walks.proofs.Looks.{enough}
use Rattle.nm_model.specs.Ordered.{Configuration, HasKey, ordered, after_in, trace_in}
use Rattle.nm_steps.specs.declared.view.Stored.{Stored}
use Rattle.nm_model.specs.Knowledge.{is_private}
use Rattle.nm_model.specs.Paths.{Reached}
use Rattle.nm_model.specs.Runs.{of}
use Rattle.nm_steps.specs.Rules.{ComesBefore, IsStored, WasHeld, WereHeld, value_from}
use Rattle.nm_steps.proofs.LinkedValues.{entries, held_at, value_since_link}
use Rattle.nm_steps.proofs.StoreOrders.{order_of_first}
use Rattle.nm_steps.proofs.ValueStays.{value_before}
use Rattle.std.proofs.lemmas.List.Elements.{Contains-append_left}
use Rattle.nm_calls.specs.KeptValues.{LeavesKeepTheirValues, NoneCuts, PutValuesStay}
use Rattle.nm_calls.specs.Maps.{HoldsStores}
use Rattle.nm_calls.proofs.MadeLeaves.{LastEvent, last_event}
use Rattle.nm_calls.proofs.StoresInTurns.{were_held}
use Rattle.nm_calls.proofs.KeptLeaves.{one_holds, stays_reached, unheld_until}

-- ---- stores

-- the value is the same at two moments if no store of the slot was made between them
pub same_value : (m n s was : ℕ) (xs : List Stored) → m ≤ n
    → ((j : ℕ) (d : Stored) → j < length xs → (get_or xs j d).slot ≡ s → m ≤ (get_or xs j d).at
    → (get_or xs j d).at < n → ⊥)
    → value_from was (filter (λ (x : Stored). ltb x.at m) xs) s
    ≡ value_from was (filter (λ (x : Stored). ltb x.at n) xs) s
same_value m n s was [] le none' = refl
same_value m n s was (x ∷ xs) le none' = by (λ v. same_value m n s v xs le
    (λ j d below. none' (suc j) d (omega (arith, below)))) (cases_lt x.at m) (cases_lt x.at n)
  where
    both : (b c : Bool) → ltb x.at m ≡ b → ltb x.at n ≡ c
        → value_from was (cond b (x ∷ filter (λ (y : Stored). ltb y.at m) xs) (filter (λ (y : Stored). ltb y.at m) xs))
        s ≡ value_from was (cond c (x ∷ filter (λ (y : Stored). ltb y.at n) xs)
        (filter (λ (y : Stored). ltb y.at n) xs)) s
        → value_from was (filter (λ (y : Stored). ltb y.at m) (x ∷ xs)) s
        ≡ value_from was (filter (λ (y : Stored). ltb y.at n) (x ∷ xs)) s
    both b c is is' same =
        ap (λ (z : Bool). value_from was (cond z (x ∷ filter (λ (y : Stored). ltb y.at m) xs)
        (filter (λ (y : Stored). ltb y.at m) xs)) s) is
        ∙ (same ∙ sym (ap (λ (z : Bool). value_from was
        (cond z (x ∷ filter (λ (y : Stored). ltb y.at n) xs) (filter (λ (y : Stored). ltb y.at n) xs)) s) is'))

    by : ((v : ℕ) → value_from v (filter (λ (y : Stored). ltb y.at m) xs) s
        ≡ value_from v (filter (λ (y : Stored). ltb y.at n) xs) s) → (x.at < m) ⊎ (m ≤ x.at) → (x.at < n) ⊎ (n ≤ x.at)
        → value_from was (filter (λ (y : Stored). ltb y.at m) (x ∷ xs)) s
        ≡ value_from was (filter (λ (y : Stored). ltb y.at n) (x ∷ xs)) s
    by rest (inl early) (inl soon) = both true true (lt-ltb x.at m early) (lt-ltb x.at n soon)
        (rest (cond (x.slot == s) x.value was))
    by rest (inl early) (inr late) = absurd (omega (arith, early, late, le))
    by rest (inr not_yet) (inl soon) =
        both false true (le-ltb x.at m not_yet) (lt-ltb x.at n soon)
        (rest was ∙ sym (ap (λ (b : Bool). value_from (cond b x.value was) (filter (λ (y : Stored). ltb y.at n) xs)
        s) (ne_eqb x.slot s (λ same. none' 0 x (omega arith) same not_yet soon))))
    by rest (inr not_yet) (inr late) = both false false (le-ltb x.at m not_yet) (le-ltb x.at n late) (rest was)

-- ---- the first ones of some stores

held_first : (L : Layout) (turns : List (ℕ × Event)) (xs ys : List Stored) → WereHeld L turns (xs ++ ys)
    → WereHeld L turns xs
held_first L turns [] ys held = tt
held_first L turns (x ∷ xs) ys (h, hs) = (h, held_first L turns xs ys hs)

module _ (L : Layout) (enough : 5 ≤ L.nodes) (stores : List Stored) (s : ℕ) where
  -- the value stays from a moment at which the slot is reached, until a turn cuts the node off
  pub value_stays_until : (before mid since : List (ℕ × Event)) → All (λ t. HasKey t.1) (before ++ (mid ++ since))
      → WereHeld L (before ++ (mid ++ since)) stores → Reached (after_in (ordered L) before).state.memory s
      → NoneCuts (trace_in (after_in (ordered L) before) mid) s
      → value_before (length before) stores s ≡ value_before (length (before ++ mid)) stores s
  value_stays_until before mid since keys held reached uncut =
      let long = length-append before mid in
      same_value (length before) (length (before ++ mid)) s 0 stores (omega (arith, long)) none'
    where
      none' : (j : ℕ) (d : Stored) → j < length stores → (get_or stores j d).slot ≡ s
          → length before ≤ (get_or stores j d).at → (get_or stores j d).at < length (before ++ mid) → ⊥
      none' j d below same late early = clash (get_or stores j d)
          (held_at L (before ++ (mid ++ since)) stores held j d below) same late early
        where
          clash : (y : Stored) → WasHeld L (before ++ (mid ++ since)) y → y.slot ≡ s → length before ≤ y.at
              → y.at < length (before ++ mid) → ⊥
          clash y h is after soon =
              let at = h.at in
              true≢false (sym h.private ∙ (ap (λ (z : ℕ). is_private
              (of (after_in (ordered L) h.before).state y.worker) z) is
              ∙ unheld_until L enough before mid since keys s reached uncut h.before h.since h.is_run
              (omega (arith, at, after)) (omega (arith, at, soon)) y.worker))

  -- the value that a worker stored for a leaf right before its link stays, in all that is seen of
  -- stores later
  module _ (before mid since : List (ℕ × Event)) (w : ℕ) (link : Event) where
    abbrev linked : List (ℕ × Event)
    linked = before ++ (w, link) ∷ []

    abbrev events : List (ℕ × Event)
    events = linked ++ (mid ++ since)

    pub value_since_put : (more : List Stored) → All (λ t. HasKey t.1) events → WereHeld L events (stores ++ more)
        → AllPairs ComesBefore (stores ++ more) → w < L.workers → entries L w before < entries L w linked
        → IsStored stores w (entries L w before) s
        → Reached (after_in (ordered L) linked).state.memory s → NoneCuts (trace_in (after_in (ordered L) linked) mid) s
        → value_before (length linked) stores s ≡ value_before (length (linked ++ mid)) (stores ++ more) s
    value_since_put more keys held order worker took at reached uncut =
        let long = length-append before ((w, link) ∷ []) in
        let long' = length-append linked mid in
        let is : events ≡ before ++ (w, link) ∷ (mid ++ since) = append_assoc before ((w, link) ∷ []) (mid ++ since) in
        let one = one_holds L enough events keys s in
        let later : IsStored (stores ++ more) w (entries L w before) s =
        record {
          stored = at.stored;
          there = Contains-append_left stores more at.stored at.there;
          by_worker =
              at.by_worker;
          at_own = at.at_own;
          for_slot = at.for_slot;
        } in
        let free = unheld_until L enough linked mid since keys s reached uncut in
        value_since_link L events stores (held_first L events stores more held) (order_of_first stores more order)
        before (mid ++ since) w s link is worker took one at (length linked) (omega (arith, long))
        (λ now rest are least most v. absurd (omega (arith, least, most, long)))
        ∙ sym (value_since_link L events (stores ++ more) held order before (mid ++ since) w s link is worker took
        one later (length (linked ++ mid)) (omega (arith, long, long'))
        (λ now rest are least most v. free now rest are (omega (arith, least, long)) (omega (arith, most)) v))

-- ---- by turns

-- the link that a worker has won makes its log longer
pub won_grows : (L : Layout) (so_far : List Turn) (link : Turn) (w : ℕ) (node : NodeId) → link.worker ≡ w
    → link.outcome ≡ Ok (Linked node) → length (part_of w so_far) < length (part_of w (so_far ++ link ∷ []))
won_grows L so_far link w node own won =
    let whole = ap (λ (l : List Entry). length l) (part-append w so_far (link ∷ []))
    ∙ length-append (part_of w so_far) (part_of w (link ∷ [])) in
    let mine : length (part_of w (link ∷ [])) ≡ 1 = one link.outcome won (takes_part w link.worker link.event)
    (ap (λ (b : Bool). b || is_leaver w link.event) (eq-eqb link.worker w own)) in
    omega (arith, whole, mine)
  where
    one : (o : Result Reply Refused) → o ≡ Ok (Linked node) → (b : Bool) → b ≡ true
        → length (cond b (logged_by (record { worker = link.worker; event = link.event; outcome = o })) [] ++ []) ≡ 1
    one (Ok r) is true takes = refl
    one (Ok r) is false takes = absurd (true≢false (sym takes))
    one (Err r) is b takes = absurd (wrong r is)
      where
        wrong : (r : Refused) → ◌≡◌ {A = Result Reply Refused} (Err r) (Ok (Linked node)) → ⊥
        wrong r e = cc

module _ (L : Layout) (fits : IsLayout L) (events : List (ℕ × Event)) (keys : All (λ t. HasKey t.1) events)
    (so_far mid rest : List Turn) (are : trace_in (ordered L) events ≡ so_far ++ (mid ++ rest)) where
  -- the events of these parts of the run
  record Parts : Type 0 where
    before : List (ℕ × Event)
    middle : List (ℕ × Event)
    since : List (ℕ × Event)
    all : events ≡ before ++ (middle ++ since)
    firsts : trace_in (ordered L) before ≡ so_far
    middles : trace_in (after_in (ordered L) before) middle ≡ mid

  parts : Parts
  parts =
      let a : PartsOf (ordered L) events so_far (mid ++ rest) = parts_of (ordered L) events so_far (mid ++ rest) are in
      let b : PartsOf (after_in (ordered L) a.early) a.late mid rest = parts_of (after_in (ordered L) a.early) a.late
      mid rest (sym a.rest_is) in
      record {
        before = a.early;
        middle = b.early;
        since = b.late;
        all = a.all ∙ ap (λ (ts : List (ℕ × Event)). a.early ++ ts) b.all;
        firsts = sym a.first_is;
        middles = sym b.first_is;
      }

  abbrev p : Parts
  p = parts

  all_keys : All (λ t. HasKey t.1) (p.before ++ (p.middle ++ p.since))
  all_keys = subst (λ (ts : List (ℕ × Event)). All (λ t. HasKey t.1) ts) p.all keys

  words : words_after L so_far ≡ (after_in (ordered L) p.before).state.memory
  words = ap (words_after L) (sym p.firsts) ∙ run_words L fits true p.before

  turns_then : trace_in (ordered L) (p.before ++ p.middle) ≡ so_far ++ mid
  turns_then = trace_in-append (ordered L) p.before p.middle ∙ (λ i. p.firsts i ++ p.middles i)

  words_then : words_after L (so_far ++ mid) ≡ (after_in (after_in (ordered L) p.before) p.middle).state.memory
  words_then = ap (words_after L) (sym turns_then)
      ∙ (run_words L fits true (p.before ++ p.middle)
      ∙ ap (λ (d : Configuration). d.state.memory) (after_in-append (ordered L) p.before p.middle))

  ordered_here : IsOrdered L (after_in (ordered L) p.before)
  ordered_here = each_ordered L (enough L fits) p.before (first_keys p.before (p.middle ++ p.since) all_keys)

  middle_keys : All (λ t. HasKey t.1) p.middle
  middle_keys = first_keys p.middle p.since (later_keys p.before (p.middle ++ p.since) all_keys)

  module _ (s : ℕ) (reached : Reached (words_after L so_far) s) (uncut : NoneCuts mid s) where
    reached_here : Reached (after_in (ordered L) p.before).state.memory s
    reached_here = subst (λ (m : Memory). Reached m s) words reached

    uncut_here : NoneCuts (trace_in (after_in (ordered L) p.before) p.middle) s
    uncut_here = subst (λ (ts : List Turn). NoneCuts ts s) (sym p.middles) uncut

    stays : Reached (after_in (after_in (ordered L) p.before) p.middle).state.memory s
        × (lasting (after_in (after_in (ordered L) p.before) p.middle).state.memory s
        ≡ lasting (after_in (ordered L) p.before).state.memory s)
    stays = stays_reached L (enough L fits) p.middle (after_in (ordered L) p.before) middle_keys ordered_here s
        reached_here uncut_here

    pub reached_still : Reached (words_after L (so_far ++ mid)) s
    reached_still = subst (λ (m : Memory). Reached m s) (sym words_then) stays.0

    pub leaf_still : is_leaf (node (words_after L (so_far ++ mid)) s) ≡ is_leaf (node (words_after L so_far) s)
    leaf_still = ap (λ (m : Memory). is_leaf (node m s)) words_then
        ∙ (ap (λ (l : Lasting). l.leaf) stays.1 ∙ sym (ap (λ (m : Memory). is_leaf (node m s)) words))

    pub key_still : (node (words_after L (so_far ++ mid)) s).key ≡ (node (words_after L so_far) s).key
    key_still = ap (λ (m : Memory). (node m s).key) words_then
        ∙ (ap (λ (l : Lasting). l.key) stays.1 ∙ sym (ap (λ (m : Memory). (node m s).key) words))

    -- a leaf that is reached then with the same key is in the same slot
    pub same_slot : is_leaf (node (words_after L so_far) s) ≡ true → (x : ℕ)
        → Reached (words_after L (so_far ++ mid)) x → is_leaf (node (words_after L (so_far ++ mid)) x) ≡ true
        → (node (words_after L (so_far ++ mid)) x).key ≡ (node (words_after L so_far) s).key → x ≡ s
    same_slot leaf x there leaf' same =
        let ordered_there : IsOrdered L (after_in (after_in (ordered L) p.before) p.middle) = subst (IsOrdered L)
        (after_in-append (ordered L) p.before p.middle)
        (each_ordered L (enough L fits) (p.before ++ p.middle)
        (first_keys (p.before ++ p.middle) p.since (subst (λ (ts : List (ℕ × Event)). All (λ t. HasKey t.1) ts)
        (sym (append_assoc p.before p.middle p.since)) all_keys))) in
        own_keys L (enough L fits) (after_in (after_in (ordered L) p.before) p.middle) ordered_there x s
        (subst (λ (m : Memory). Reached m x) words_then there) stays.0
        (ap (λ (m : Memory). is_leaf (node m x)) (sym words_then) ∙ leaf')
        (ap (λ (m : Memory). is_leaf (node m s)) (sym words_then) ∙ (leaf_still ∙ leaf))
        (ap (λ (m : Memory). (node m x).key) (sym words_then)
        ∙ (same ∙ (sym key_still ∙ ap (λ (m : Memory). (node m s).key) words_then)))

    -- the value, by the same stores
    pub value_still : (stores : List Stored) → WereHeld L events stores
        → value_before (length so_far) stores s ≡ value_before (length (so_far ++ mid)) stores s
    value_still stores held =
        ap (λ (n : ℕ). value_before n stores s) (ap (λ (ts : List Turn). length ts) (sym p.firsts)
        ∙ length_trace (ordered L) p.before)
        ∙ (value_stays_until L (enough L fits) stores s p.before p.middle p.since all_keys
        (subst (λ (ts : List (ℕ × Event)). WereHeld L ts stores) p.all held) reached_here uncut_here
        ∙ ap (λ (n : ℕ). value_before n stores s) (sym (length_trace (ordered L) (p.before ++ p.middle))
        ∙ ap (λ (ts : List Turn). length ts) turns_then))

    -- a value that a worker stored right before the link, which was the last turn, by more stores
    pub put_still : (first : List Turn) (link : Turn) → so_far ≡ first ++ link ∷ [] → (w : ℕ) (n : NodeId)
        → w < L.workers → link.worker ≡ w → link.outcome ≡ Ok (Linked n) → (stores more : List Stored)
        → WereHeld L events (stores ++ more) → AllPairs ComesBefore (stores ++ more)
        → IsStored stores w (length (part_of w first)) s
        → value_before (length so_far) stores s ≡ value_before (length (so_far ++ mid)) (stores ++ more) s
    put_still first link is w n worker own won stores more held order at =
        ap (λ (m : ℕ). value_before m stores s) (ap (λ (ts : List Turn). length ts) (sym p.firsts)
        ∙ length_trace (ordered L) p.before)
        ∙ (by (last_event first p.before (ordered L) link (p.firsts ∙ is))
        ∙ ap (λ (m : ℕ). value_before m (stores ++ more) s)
        (sym (length_trace (ordered L) (p.before ++ p.middle)) ∙ ap (λ (ts : List Turn). length ts) turns_then))
      where
        with_event : (l : LastEvent (ordered L) p.before first link) (e : Event) → p.before ≡ l.first ++ (w, e) ∷ []
            → value_before (length p.before) stores s ≡ value_before (length (p.before ++ p.middle)) (stores ++ more) s
        with_event l e same =
            let grown : length (part_of w (trace_in (ordered L) l.first))
            < length (part_of w (trace_in (ordered L) p.before)) =
            subst (λ (ts : List Turn). length (part_of w ts) < length (part_of w (trace_in (ordered L) p.before)))
            (sym l.firsts) (subst (λ (ts : List Turn). length (part_of w first) < length (part_of w ts))
            (sym (p.firsts ∙ is)) (won_grows L first link w n own won)) in
            subst (λ (ts : List (ℕ × Event)). value_before (length ts) stores s
            ≡ value_before (length (ts ++ p.middle)) (stores ++ more) s) (sym same)
            (value_since_put L (enough L fits) stores s l.first p.middle p.since w e more
            (subst (λ (ts : List (ℕ × Event)). All (λ t. HasKey t.1) (ts ++ (p.middle ++ p.since))) same all_keys)
            (subst (λ (ts : List (ℕ × Event)). WereHeld L (ts ++ (p.middle ++ p.since)) (stores ++ more)) same
            (subst (λ (ts : List (ℕ × Event)). WereHeld L ts (stores ++ more)) p.all held))
            order worker
            (subst (λ (ts : List (ℕ × Event)). length (part_of w (trace_in (ordered L) l.first))
            < length (part_of w (trace_in (ordered L) ts))) same grown)
            (subst (λ (ts : List Turn). IsStored stores w (length (part_of w ts)) s) (sym l.firsts) at)
            (subst (λ (ts : List (ℕ × Event)). Reached (after_in (ordered L) ts).state.memory s) same reached_here)
            (subst (λ (ts : List (ℕ × Event)). NoneCuts (trace_in (after_in (ordered L) ts) p.middle) s) same
            uncut_here))

        by : LastEvent (ordered L) p.before first link
            → value_before (length p.before) stores s ≡ value_before (length (p.before ++ p.middle)) (stores ++ more) s
        by l = with_event l l.last.1 (l.are ∙ (λ i. l.first ++ ((ap (λ (t : Turn). t.worker) l.is ∙ own) i, l.last.1)
            ∷ []))

-- two leaves that are reached at one moment with one key are in one slot
pub one_slot : (L : Layout) → IsLayout L → (events : List (ℕ × Event)) → All (λ t. HasKey t.1) events
    → (so_far rest : List Turn) → trace_in (ordered L) events ≡ so_far ++ rest → (x y : ℕ)
    → Reached (words_after L so_far) x → Reached (words_after L so_far) y
    → is_leaf (node (words_after L so_far) x) ≡ true → is_leaf (node (words_after L so_far) y) ≡ true
    → (node (words_after L so_far) x).key ≡ (node (words_after L so_far) y).key → x ≡ y
one_slot L fits events keys so_far rest are x y rx ry lx ly same =
    let p : PartsOf (ordered L) events so_far rest = parts_of (ordered L) events so_far rest are in
    let words : words_after L so_far ≡ (after_in (ordered L) p.early).state.memory = ap (words_after L) p.first_is
    ∙ run_words L fits true p.early in
    own_keys L (enough L fits) (after_in (ordered L) p.early)
    (each_ordered L (enough L fits) p.early (first_keys p.early p.late
    (subst (λ (ts : List (ℕ × Event)). All (λ t. HasKey t.1) ts) p.all keys))) x y
    (subst (λ (m : Memory). Reached m x) words rx) (subst (λ (m : Memory). Reached m y) words ry)
    (ap (λ (m : Memory). is_leaf (node m x)) (sym words) ∙ lx)
    (ap (λ (m : Memory). is_leaf (node m y)) (sym words) ∙ ly)
    (ap (λ (m : Memory). (node m x).key) (sym words) ∙ (same ∙ ap (λ (m : Memory). (node m y).key) words))

-- ---- the laws

-- the stores of a run are held in all that goes on from it
pub held_in_all : (L : Layout) → IsLayout L → (from : List Turn) (events : List (ℕ × Event)) (stores : List Stored)
    → HoldsStores L from (trace_in (ordered L) events) stores → WereHeld L events stores
held_in_all L fits from events stores h = were_held L fits events h.until h.ends.more h.ends.is stores h.held

pub leaves_keep_their_values : LeavesKeepTheirValues
leaves_keep_their_values L fits events keys so_far mid rest are stores from h k v was uncut = record {
  now = record {
    slot = was.slot;
    reached = reached_still L fits events keys so_far mid rest are was.slot was.reached uncut;
    leaf = leaf_still L fits events keys so_far mid rest are was.slot was.reached uncut ∙ was.leaf;
    has_key = key_still L fits events keys so_far mid rest are was.slot was.reached uncut ∙ was.has_key;
    has_value = sym (value_still L fits events keys so_far mid rest are was.slot was.reached uncut stores
        (held_in_all L fits from events stores h)) ∙ was.has_value;
  };
  same = refl;
}

pub put_values_stay : PutValuesStay
put_values_stay L fits events keys was first seen stores w k v worker put on from h mid rest are uncut found there =
    sym there.has_value
    ∙ (ap (value_before (length (so_far ++ mid)) stores) same
    ∙ (ap (λ (st : List Stored). value_before (length (so_far ++ mid)) st put.is.slot) on.is
    ∙ (sym (put_still L fits events keys so_far mid rest are put.is.slot put.is.reached uncut put.so_far put.link
    refl w put.won.node worker (ap (λ (t : Turn). t.worker) put.won.is) (ap (λ (t : Turn). t.outcome) put.won.is)
    seen on.more
    (subst (WereHeld L events) on.is (held_in_all L fits from events stores h))
    (subst (λ (st : List Stored). AllPairs ComesBefore st) on.is h.order) put.stored)
    ∙ put.is.has_value)))
  where
    so_far : List Turn
    so_far = put.so_far ++ put.link ∷ []

    same : there.slot ≡ put.is.slot
    same = same_slot L fits events keys so_far mid rest are put.is.slot put.is.reached uncut put.is.leaf there.slot
        there.reached there.leaf (there.has_key ∙ sym put.is.has_key)
