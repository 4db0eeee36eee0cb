-- Over a whole ordered run, for any key and under any pin: each slot to which a walk came in a
-- worker's log since its pin was reached since the pin, with the walk's key in its interval, and
-- keeps it there while it is an internal node that is reached.
use Rattle.std.proofs.Common.{◌≡◌, ◌≢◌, ℕ, ◌<◌, ◌≤◌, ◌==◌, inl, inr, ◌⊎◌, Bool, true, false, cond, ◌||◌, List, [], ◌∷◌, ◌++◌, append_assoc, length, drop, refl, sym, ap, subst, ◌∙◌, arith}
use Rattle.std.specs.Prelude.{Option, Some, None, All, Contains}
use Rattle.std.specs.List.{list_any}
use Rattle.std.proofs.lemmas.List.{append-nil, drop_all, drop-append-le, length-append}
use Rattle.std.proofs.lemmas.List.Elements.{All-append}
use Rattle.std.proofs.lemmas.Bool.{eqb-true, eqb-false, and_parts}
use Rattle.nm_edge.specs.Layouts.{Layout}
use Rattle.nm_edge.specs.declared.edge.Side.{Side}
use Rattle.nm_model.specs.declared.event.Event.{Event}
use Rattle.nm_model.specs.declared.event.Event.TheVariants.{Look}
use Rattle.nm_model.specs.declared.event.Field.TheVariants.{Key}
use Rattle.nm_model.specs.declared.reply.Reply.TheVariants.{KeyIs}
use Rattle.nm_model.specs.declared.reply.Reply.{Reply}
use Rattle.nm_model.specs.declared.reply.Refused.{Refused}
use Rattle.nm_model.specs.Memory.{node, child, is_leaf, infinity_1}
use Rattle.nm_edge.specs.Ranges.{covers}
use Rattle.nm_edge.specs.declared.edge.Side.TheVariants.{Left, Right}
use Rattle.nm_model.specs.Knowledge.{knows, knows_leaf}
use Rattle.nm_model.specs.Paths.{follow, Reached}
use Rattle.nm_model.specs.Runs.{State, of, reply_of, refused, applied}
use Rattle.nm_model.specs.Lawful.{EachBirthStands}
use Rattle.nm_model.specs.declared.trace.Turn.{Turn}
use Rattle.nm_model.specs.Walks.{Entry, log_of, begins_anew, since_pin, WalkComes, WalkReads, WalkEnds}
use Rattle.nm_model.specs.Ordered.{Configuration, ordered, search_of, disorder, disorder_among, disorder_in, refused_in, applied_in, next_in, after_in, trace_in}
use Rattle.nm_order.specs.Intervals.{HasKey, InInterval, key}
use Rattle.nm_order.specs.Moments.{OfEachOrderedRun, PinStands}
use Rattle.nm_order.specs.Ranges.{StandsFor, WalkPasses, AnyWalkIsShort, AnyWalkPassesRouters}
use Rattle.nm_model.specs.Acts.{InSet}
use Rattle.nm_order.specs.WalkAnswers.{WasSoLater, WasSoUnderPin}
use Rattle.nm_order.specs.RadixPaths.{InRanges, AnyWalkWasInTree, WasInTreeSince, AnyWalkInRangeWasReached, AnyWalkOutOfRangeWasRight}
use Rattle.nm_order.specs.StalePaths.{HasPin, log_since, log_under_pin, WasReachedLater, WasReachedSince, AnyWalkWasReached, AnyWalkStaysInOrder, AnyWalkReadsKeys}
use Rattle.nm_laws.proofs.Steps.{Allowed, allowed}
use Rattle.nm_laws.proofs.TreeSteps.{Lawful}
use Rattle.nm_laws.proofs.Retired.{layout_after}
use Rattle.nm_laws.proofs.Configurations.{refused_next, refused_outcome, allowed_next, allowed_outcome, after_in-append}
use Rattle.nm_order.proofs.BelowSlots.{EachBelow}
use Rattle.nm_order.proofs.OnwardSlots.{EachNow}
use Rattle.nm_order.proofs.OrderedMoments.{Lasting, lasting}
use Rattle.nm_order.proofs.OrderedLaws.{IsOrdered, neither, ordered_next, each_ordered, law_of_state, has_child, lies_onward}
use Rattle.nm_order.proofs.RadixWays.{Rooted, none_has}
use Rattle.nm_order.proofs.RadixMoments.{rooted}
use Rattle.nm_order.proofs.OrderedInduction.{births_of}
use Rattle.nm_order.proofs.PinNumbers.{length_trace}
use Rattle.nm_order.proofs.RunMoments.{entries, stands_longer, refused_entries, allowed_entries}
use Rattle.nm_order.proofs.WalksOfRuns.{since_pin-append, log-append, trace_in-append, all_before, all_behind, over_turns}
use Rattle.nm_order.proofs.KnowledgeStays.{Stays, learned_stays, answers}
use Rattle.nm_order.proofs.CallWalks.{others_stay, own_knows}
use Rattle.nm_order.proofs.StaleWalks.{IsOnWay, HoldsOfWalks, passed, read_there, of_no_walks, weaker, walks_outlast, own_walks}

-- ---- the log of the turns after the first n

one_turn_more : (w : ℕ) (c : Configuration) (n : ℕ) (ts : List (ℕ × Event)) (t : ℕ × Event) → n ≤ length ts
    → log_of w (drop n (trace_in c (ts ++ t ∷ []))) ≡ log_of w (drop n (trace_in c ts)) ++
    (entries w (after_in c ts) t ++ [])
unfolding trace_in
one_turn_more w c n ts t first =
    ap (λ (l : List Turn). log_of w (drop n l)) (trace_in-append c ts (t ∷ []))
    ∙ (ap (log_of w) (drop-append-le n (trace_in c ts) (trace_in (after_in c ts) (t ∷ []))
    (let long = length_trace c ts in omega (arith, first, long)))
    ∙ log-append w (drop n (trace_in c ts)) (trace_in (after_in c ts) (t ∷ [])))

nothing_since : (c : Configuration) (past : List (ℕ × Event)) → drop (length past) (trace_in c past) ≡ []
nothing_since c past = let long = length_trace c past in drop_all (length past) (trace_in c past) (omega (arith, long))

module _ (L : Layout) (past : List (ℕ × Event)) (u k : ℕ) where
  -- at a moment of a run after its first turns `past`, under a pin that stands since, the slot was reached
  -- and in the interval,
  -- and that lasts of it
  record WasAt (ts : List (ℕ × Event)) (x : ℕ) (n : Lasting) : Type 0 where
    before : List (ℕ × Event)
    since : List (ℕ × Event)
    is_run : ts ≡ before ++ since
    later : length past < length before
    pinned : HasPin (after_in (ordered L) before) u
    stands : PinStands u (trace_in (after_in (ordered L) before) since)
    reached : Reached (after_in (ordered L) before).state.memory x
    lies : InInterval (after_in (ordered L) before).state.memory k x
    lasts : lasting (after_in (ordered L) before).state.memory x ≡ n
    is_ordered : IsOrdered L (after_in (ordered L) before)

  -- at such a moment the slot was reached, and that lasts of it
  record WasIn (ts : List (ℕ × Event)) (x : ℕ) (n : Lasting) : Type 0 where
    before : List (ℕ × Event)
    since : List (ℕ × Event)
    is_run : ts ≡ before ++ since
    later : length past < length before
    pinned : HasPin (after_in (ordered L) before) u
    stands : PinStands u (trace_in (after_in (ordered L) before) since)
    reached : Reached (after_in (ordered L) before).state.memory x
    lasts : lasting (after_in (ordered L) before).state.memory x ≡ n

  -- at such a moment no leaf had k
  abbrev NotThen : List (ℕ × Event) → Type 0
  NotThen ts = (was : WasSoUnderPin L ts u k false) × (length past < length was.before)

  -- the worker's log in the turns of a run after its first turns `past`
  abbrev log_after : List (ℕ × Event) → List Entry
  log_after ts = log_of u (drop (length past) (trace_in (ordered L) ts))

  -- what holds of the walks for k after a run
  abbrev Held : List (ℕ × Event) → Type 0
  Held ts = HoldsOfWalks (after_in (ordered L) ts).state u k (WasAt ts) (WasIn ts) (NotThen ts)
      (since_pin [] (log_after ts))

  was_longer : (ts : List (ℕ × Event)) (t : ℕ × Event)
      → list_any begins_anew (entries u (after_in (ordered L) ts) t) ≡ false → (x : ℕ) (n : Lasting) → WasAt ts x n
      → WasAt (ts ++ t ∷ []) x n
  was_longer ts t none x n was = record {
    before = was.before;
    since = was.since ++ t ∷ [];
    is_run = ap (λ (l : List (ℕ × Event)). l ++ t ∷ []) was.is_run ∙ append_assoc was.before was.since (t ∷ []);
    later = was.later;
    pinned = was.pinned;
    stands = stands_longer u (after_in (ordered L) was.before) (after_in (ordered L) ts) was.since t
        (sym (after_in-append (ordered L) was.before was.since) ∙ ap (after_in (ordered L)) (sym was.is_run))
        was.stands none;
    reached = was.reached;
    lies = was.lies;
    lasts = was.lasts;
    is_ordered = was.is_ordered;
  }

  in_longer : (ts : List (ℕ × Event)) (t : ℕ × Event)
      → list_any begins_anew (entries u (after_in (ordered L) ts) t) ≡ false → (x : ℕ) (n : Lasting) → WasIn ts x n
      → WasIn (ts ++ t ∷ []) x n
  in_longer ts t none x n was = record {
    before = was.before;
    since = was.since ++ t ∷ [];
    is_run = ap (λ (l : List (ℕ × Event)). l ++ t ∷ []) was.is_run ∙ append_assoc was.before was.since (t ∷ []);
    later = was.later;
    pinned = was.pinned;
    stands = stands_longer u (after_in (ordered L) was.before) (after_in (ordered L) ts) was.since t
        (sym (after_in-append (ordered L) was.before was.since) ∙ ap (after_in (ordered L)) (sym was.is_run))
        was.stands none;
    reached = was.reached;
    lasts = was.lasts;
  }

  not_longer : (ts : List (ℕ × Event)) (t : ℕ × Event)
      → list_any begins_anew (entries u (after_in (ordered L) ts) t) ≡ false → NotThen ts → NotThen (ts ++ t ∷ [])
  not_longer ts t none (was, later) = (
    record {
      before = was.before;
      since = was.since ++ t ∷ [];
      is_run = ap (λ (l : List (ℕ × Event)). l ++ t ∷ []) was.is_run ∙ append_assoc was.before was.since (t ∷ []);
      pinned = was.pinned;
      stands = stands_longer u (after_in (ordered L) was.before) (after_in (ordered L) ts) was.since t
          (sym (after_in-append (ordered L) was.before was.since)
          ∙ ap (after_in (ordered L)) (sym was.is_run)) was.stands none;
      gives = was.gives;
    },
    later,
  )

  module _ (enough : 5 ≤ L.nodes) where
    -- what the search comes to now it has come to
    so_now : (ts : List (ℕ × Event)) → length past < length ts → (d : Configuration) → after_in (ordered L) ts ≡ d
        → IsOrdered L d → (x : ℕ) → knows (of d.state u) x ≡ true
        → EachNow (child d.state.memory) (key d.state.memory) (lasting d.state.memory) k (WasAt ts)
    unfolding trace_in
    so_now ts later d is o x known q goes some = record {
      before = ts;
      since = [];
      is_run = sym (append-nil ts);
      later = later;
      pinned = subst (λ (c : Configuration). HasPin c u) (sym is) ((law_of_state L enough d o).1.known u x known);
      stands = refl;
      reached = subst (λ (c : Configuration). Reached c.state.memory (follow (child d.state.memory) 1 q)) (sym is)
          (record { path = q; ends = refl; is_slot = some });
      lies = subst (λ (c : Configuration). InInterval c.state.memory k (follow (child d.state.memory) 1 q)) (sym is)
          (record { path = q; ends = refl; goes = goes });
      lasts = ap (λ (c : Configuration). lasting c.state.memory (follow (child d.state.memory) 1 q)) is;
      is_ordered = subst (IsOrdered L) (sym is) o;
    }

    -- what a path comes to now was reached
    in_now : (ts : List (ℕ × Event)) → length past < length ts → (d : Configuration) → after_in (ordered L) ts ≡ d
        → IsOrdered L d → (x : ℕ) → knows (of d.state u) x ≡ true
        → EachBelow (child d.state.memory) (lasting d.state.memory) (WasIn ts) 1
    unfolding trace_in
    in_now ts later d is o x known q some = record {
      before = ts;
      since = [];
      is_run = sym (append-nil ts);
      later = later;
      pinned = subst (λ (c : Configuration). HasPin c u) (sym is) ((law_of_state L enough d o).1.known u x known);
      stands = refl;
      reached = subst (λ (c : Configuration). Reached c.state.memory (follow (child d.state.memory) 1 q)) (sym is)
          (record { path = q; ends = refl; is_slot = some });
      lasts = ap (λ (c : Configuration). lasting c.state.memory (follow (child d.state.memory) 1 q)) is;
    }

    -- in a radix tree: where k is not in the range of an internal node to which its search came, no
    -- leaf had it
    none_then : L.radix ≡ true → k < infinity_1 → (ts : List (ℕ × Event)) (x : ℕ) (n : Lasting) (was : WasAt ts x n)
        → n.leaf ≡ false → 6 ≤ x → covers n.key k ≡ false → InSet (after_in (ordered L) was.before).state.memory k → ⊥
    none_then radix small ts x n was inner up out s =
        none_has (child d.state.memory) (key d.state.memory) root k was.lies.path was.lies.goes
        (rw was.lies.ends was.reached.is_slot) (rw was.lies.ends up) under.0 (rw was.lies.ends under.1)
        (rw was.lies.ends (ap (λ (t : Lasting). covers t.key k) was.lasts ∙ out)) s.reached.path
        (rw s.reached.ends s.reached.is_slot) (rw s.reached.ends (null_of s.slot s.leaf))
        (ap (key d.state.memory) s.reached.ends ∙ s.has_key)
      where
        d : Configuration
        d = after_in (ordered L) was.before

        law : (h : ℕ → ℕ) × Lawful (after_in (ordered L) was.before).state h
        law = law_of_state L enough (after_in (ordered L) was.before) was.is_ordered

        shape : (after_in (ordered L) was.before).state.layout.radix ≡ true
        shape = ap (λ (s : State). s.layout.radix) was.is_ordered.leads
            ∙ (ap (λ (K : Layout). K.radix) (layout_after L was.is_ordered.events) ∙ radix)

        root : Rooted (child (after_in (ordered L) was.before).state.memory)
            (key (after_in (ordered L) was.before).state.memory)
        root = rooted (after_in (ordered L) was.before).state law.0 law.1 was.is_ordered.law.fixed
            was.is_ordered.law.order (was.is_ordered.law.nested shape)

        under : (f : Side) × (child (after_in (ordered L) was.before).state.memory x f ≢ 0)
        under = has_child L enough (after_in (ordered L) was.before) was.is_ordered x
            (ap (λ (t : Lasting). t.leaf) was.lasts ∙ inner)

        null_of : (y : ℕ) → is_leaf (node (after_in (ordered L) was.before).state.memory y) ≡ true → (f : Side)
            → child (after_in (ordered L) was.before).state.memory y f ≡ 0
        null_of y leaf f = by f (and_parts ((node (after_in (ordered L) was.before).state.memory y).left.slot == 0)
            ((node (after_in (ordered L) was.before).state.memory y).right.slot == 0) leaf)
          where
            by : (f : Side) → (((node (after_in (ordered L) was.before).state.memory y).left.slot == 0) ≡ true)
                × (((node (after_in (ordered L) was.before).state.memory y).right.slot == 0) ≡ true)
                → child (after_in (ordered L) was.before).state.memory y f ≡ 0
            by Left both = eqb-true (node (after_in (ordered L) was.before).state.memory y).left.slot 0 both.0
            by Right both = eqb-true (node (after_in (ordered L) was.before).state.memory y).right.slot 0 both.1

    out_of_range : L.radix ≡ true → k < infinity_1 → (ts : List (ℕ × Event)) (x : ℕ) (n : Lasting) → WasAt ts x n
        → n.leaf ≡ false → 6 ≤ x → covers n.key k ≡ false → NotThen ts
    out_of_range radix small ts x n was inner up out = (
      record {
        before = was.before;
        since = was.since;
        is_run = was.is_run;
        pinned = was.pinned;
        stands = was.stands;
        gives = none_then radix small ts x n was inner up out;
      },
      was.later,
    )

    module _ (ts : List (ℕ × Event)) (first : length past ≤ length ts) (t : ℕ × Event)
        (o : IsOrdered L (after_in (ordered L) ts)) (has : HasKey t.1) (held : Held ts) where
      abbrev c : Configuration
      c = after_in (ordered L) ts

      abbrev e : Entry
      e = (t.1, reply_of (after_in (ordered L) ts).state t.0 t.1)

      next_is : after_in (ordered L) (ts ++ t ∷ []) ≡ next_in (after_in (ordered L) ts) t
      unfolding after_in
      next_is = after_in-append (ordered L) ts (t ∷ [])

      later : length past < length (ts ++ t ∷ [])
      later = let long = length-append ts (t ∷ []) in omega (arith, first, long)

      one_more : log_after (ts ++ t ∷ []) ≡ log_after ts ++ (entries u (after_in (ordered L) ts) t ++ [])
      one_more = one_turn_more u (ordered L) (length past) ts t first

      -- the log is as it was
      quiet_log : entries u (after_in (ordered L) ts) t ≡ []
          → since_pin [] (log_after (ts ++ t ∷ [])) ≡ since_pin [] (log_after ts)
      quiet_log none = ap (since_pin []) (one_more
          ∙ (ap (λ (es : List Entry). log_after ts ++ (es ++ [])) none ∙ append-nil (log_after ts)))

      quiet : (x : ℕ) (n : Lasting) → entries u (after_in (ordered L) ts) t ≡ [] → WasAt ts x n
          → WasAt (ts ++ t ∷ []) x n
      quiet x n none was = was_longer ts t (ap (list_any begins_anew) none) x n was

      quiet_in : (x : ℕ) (n : Lasting) → entries u (after_in (ordered L) ts) t ≡ [] → WasIn ts x n
          → WasIn (ts ++ t ∷ []) x n
      quiet_in x n none was = in_longer ts t (ap (list_any begins_anew) none) x n was

      quiet_not : entries u (after_in (ordered L) ts) t ≡ [] → NotThen ts → NotThen (ts ++ t ∷ [])
      quiet_not none was = not_longer ts t (ap (list_any begins_anew) none) was

      -- the turn is refused
      at_refused : (r : Refused) → refused_in (after_in (ordered L) ts) t.0 t.1 ≡ Some r → Held (ts ++ t ∷ [])
      at_refused r why =
          let none : entries u (after_in (ordered L) ts) t ≡ [] = refused_entries u c t r (refused_outcome c t r why) in
          let same : after_in (ordered L) (ts ++ t ∷ []) ≡ after_in (ordered L) ts = next_is ∙ refused_next c t r why in
          subst (λ (d : Configuration). HoldsOfWalks d.state u k (WasAt (ts ++ t ∷ [])) (WasIn (ts ++ t ∷ []))
          (NotThen (ts ++ t ∷ [])) (since_pin [] (log_after (ts ++ t ∷ [])))) (sym same)
          (subst (HoldsOfWalks (after_in (ordered L) ts).state u k (WasAt (ts ++ t ∷ [])) (WasIn (ts ++ t ∷ []))
          (NotThen (ts ++ t ∷ []))) (sym (quiet_log none))
          (weaker (after_in (ordered L) ts).state u k (WasAt ts) (WasAt (ts ++ t ∷ [])) (WasIn ts)
          (WasIn (ts ++ t ∷ [])) (NotThen ts) (NotThen (ts ++ t ∷ [])) (λ x n. quiet x n none)
          (λ x n. quiet_in x n none) (quiet_not none) (since_pin [] (log_after ts)) held))

      -- the turn is allowed
      at_allowed : refused_in (after_in (ordered L) ts) t.0 t.1 ≡ None → Held (ts ++ t ∷ [])
      unfolding applied_in refused_in
      at_allowed why = subst (λ (d : Configuration). HoldsOfWalks d.state u k (WasAt (ts ++ t ∷ []))
          (WasIn (ts ++ t ∷ [])) (NotThen (ts ++ t ∷ [])) (since_pin [] (log_after (ts ++ t ∷ [])))) (sym same)
          (by (t.0 == u) refl)
        where
          same : after_in (ordered L) (ts ++ t ∷ []) ≡ applied_in (after_in (ordered L) ts) t.0 t.1
          same = next_is ∙ allowed_next c t why

          then : IsOrdered L (applied_in (after_in (ordered L) ts) t.0 t.1)
          then = subst (IsOrdered L) (allowed_next c t why) (ordered_next L enough c t has o)

          parts : (refused (after_in (ordered L) ts).state t.0 t.1 ≡ None)
              × (disorder_in (after_in (ordered L) ts) t.0 t.1 ≡ None)
          parts = neither (refused c.state t.0 t.1) (disorder_in c t.0 t.1) why

          ok : Allowed (after_in (ordered L) ts).state t.0 t.1
          ok = allowed c.state t.0 t.1 parts.0

          in_order : disorder (after_in (ordered L) ts).state.layout (of (after_in (ordered L) ts).state t.0)
              (search_of o.searches t.0) t.1 ≡ None
          in_order = ap (λ ss. disorder_among c.state.layout ss (of c.state t.0) t.0 t.1) (sym o.are) ∙ parts.1

          h : ℕ → ℕ
          h = (law_of_state L enough (after_in (ordered L) ts) o).0

          law : Lawful (after_in (ordered L) ts).state h
          law = (law_of_state L enough (after_in (ordered L) ts) o).1

          births : EachBirthStands (after_in (ordered L) ts).state
          births = births_of L enough (after_in (ordered L) ts) o

          g : ℕ → ℕ
          g = (law_of_state L enough (applied_in (after_in (ordered L) ts) t.0 t.1) then).0

          after : Lawful (applied (after_in (ordered L) ts).state t.0 t.1) g
          after = (law_of_state L enough (applied_in (after_in (ordered L) ts) t.0 t.1) then).1

          now : (x : ℕ) → knows (of (applied (after_in (ordered L) ts).state t.0 t.1) u) x ≡ true
              → EachNow (child (applied (after_in (ordered L) ts).state t.0 t.1).memory)
              (key (applied (after_in (ordered L) ts).state t.0 t.1).memory)
              (lasting (applied (after_in (ordered L) ts).state t.0 t.1).memory) k (WasAt (ts ++ t ∷ []))
          now = so_now (ts ++ t ∷ []) later (applied_in c t.0 t.1) same then

          below : (x : ℕ) → knows (of (applied (after_in (ordered L) ts).state t.0 t.1) u) x ≡ true
              → EachBelow (child (applied (after_in (ordered L) ts).state t.0 t.1).memory)
              (lasting (applied (after_in (ordered L) ts).state t.0 t.1).memory) (WasIn (ts ++ t ∷ [])) 1
          below = in_now (ts ++ t ∷ []) later (applied_in c t.0 t.1) same then

          shaped : (applied (after_in (ordered L) ts).state t.0 t.1).layout.radix ≡ true → L.radix ≡ true
          shaped radix = sym (ap (λ (s : State). s.layout.radix) then.leads
              ∙ ap (λ (K : Layout). K.radix) (layout_after L then.events)) ∙ radix

          r : Reply
          r = reply_of (after_in (ordered L) ts).state t.0 t.1

          told : (b : Bool) → (t.0 == u) ≡ b → entries u (after_in (ordered L) ts) t ≡ cond b (e ∷ []) []
          told b is = allowed_entries u c t (reply_of c.state t.0 t.1) (allowed_outcome c t why)
              ∙ ap (λ (b : Bool). cond b ((t.1, reply_of c.state t.0 t.1) ∷ []) []) is

          -- by another worker
          by_other : u ≢ t.0 → entries u (after_in (ordered L) ts) t ≡ []
              → HoldsOfWalks (applied (after_in (ordered L) ts).state t.0 t.1) u k (WasAt (ts ++ t ∷ []))
              (WasIn (ts ++ t ∷ [])) (NotThen (ts ++ t ∷ [])) (since_pin [] (log_after (ts ++ t ∷ [])))
          by_other ne none = subst (HoldsOfWalks (applied c.state t.0 t.1) u k (WasAt (ts ++ t ∷ []))
              (WasIn (ts ++ t ∷ [])) (NotThen (ts ++ t ∷ []))) (sym (quiet_log none))
              (walks_outlast c.state h law t.0 births o.searches o.law t.1 ok in_order u k
              (others_stay c.state h law t.0 t.1 ok u ne) (WasAt ts) (WasAt (ts ++ t ∷ [])) (WasIn ts)
              (WasIn (ts ++ t ∷ [])) (NotThen ts) (NotThen (ts ++ t ∷ [])) (λ x n. quiet x n none)
              (λ x n. quiet_in x n none) (quiet_not none) now below (since_pin [] (log_after ts)) held)

          -- by the worker itself
          by_itself : u ≡ t.0 → entries u (after_in (ordered L) ts) t ≡ e ∷ [] → (b : Bool) → begins_anew e ≡ b
              → HoldsOfWalks (applied (after_in (ordered L) ts).state t.0 t.1) u k (WasAt (ts ++ t ∷ []))
              (WasIn (ts ++ t ∷ [])) (NotThen (ts ++ t ∷ [])) (cond b [] (since_pin [] (log_after ts) ++ e ∷ []))
          by_itself own one true anew = of_no_walks (applied c.state t.0 t.1) u k (WasAt (ts ++ t ∷ []))
              (WasIn (ts ++ t ∷ [])) (NotThen (ts ++ t ∷ []))
          by_itself own one false stands =
              subst (λ (v : ℕ). HoldsOfWalks (applied c.state t.0 t.1) v k (WasAt (ts ++ t ∷ []))
              (WasIn (ts ++ t ∷ [])) (NotThen (ts ++ t ∷ [])) (since_pin [] (log_after ts) ++ e ∷ [])) (sym own)
              (own_walks c.state h law t.0 births o.searches o.law t.1 ok in_order g after then.law.fixed
              then.law.order then.law.nested k
              (subst (Stays c.state.memory (of c.state t.0)) (sym (own_knows c.state h law t.0 t.1 ok))
              (learned_stays c.state.memory (of c.state t.0) t.0 t.1 r (answers c.state h law t.0 t.1 ok) stands))
              (WasAt ts) (WasAt (ts ++ t ∷ [])) (WasIn ts) (WasIn (ts ++ t ∷ [])) (NotThen ts)
              (NotThen (ts ++ t ∷ [])) (λ x n. was_longer ts t
              (ap (list_any begins_anew) one ∙ ap (λ (b : Bool). b || false) stands) x n)
              (λ x n. in_longer ts t (ap (list_any begins_anew) one ∙ ap (λ (b : Bool). b || false) stands) x n)
              (not_longer ts t (ap (list_any begins_anew) one ∙ ap (λ (b : Bool). b || false) stands))
              (λ radix small. out_of_range (shaped radix) small (ts ++ t ∷ []))
              (subst (λ (v : ℕ). (x : ℕ) → knows (of (applied c.state t.0 t.1) v) x ≡ true
              → EachNow (child (applied c.state t.0 t.1).memory) (key (applied c.state t.0 t.1).memory)
              (lasting (applied c.state t.0 t.1).memory) k (WasAt (ts ++ t ∷ []))) own now)
              (subst (λ (v : ℕ). (x : ℕ) → knows (of (applied c.state t.0 t.1) v) x ≡ true
              → EachBelow (child (applied c.state t.0 t.1).memory) (lasting (applied c.state t.0 t.1).memory)
              (WasIn (ts ++ t ∷ [])) 1) own below)
              (since_pin [] (log_after ts)) (subst (λ (v : ℕ). HoldsOfWalks c.state v k (WasAt ts) (WasIn ts)
              (NotThen ts) (since_pin [] (log_after ts))) own held))

          own_log : entries u (after_in (ordered L) ts) t ≡ e ∷ []
              → since_pin [] (log_after (ts ++ t ∷ [])) ≡ cond (begins_anew e) []
              (since_pin [] (log_after ts) ++ e ∷ [])
          own_log one = ap (since_pin []) (one_more ∙ ap (λ (es : List Entry). log_after ts ++ (es ++ [])) one)
              ∙ since_pin-append [] (log_after ts) (e ∷ [])

          by : (b : Bool) → (t.0 == u) ≡ b → HoldsOfWalks (applied (after_in (ordered L) ts).state t.0 t.1) u k
              (WasAt (ts ++ t ∷ [])) (WasIn (ts ++ t ∷ [])) (NotThen (ts ++ t ∷ []))
              (since_pin [] (log_after (ts ++ t ∷ [])))
          by true here = subst (HoldsOfWalks (applied c.state t.0 t.1) u k (WasAt (ts ++ t ∷ []))
              (WasIn (ts ++ t ∷ [])) (NotThen (ts ++ t ∷ []))) (sym (own_log (told true here)))
              (by_itself (sym (eqb-true t.0 u here)) (told true here) (begins_anew e) refl)
          by false other = by_other (λ z. eqb-false t.0 u other (sym z)) (told false other)

      held_longer : Held (ts ++ t ∷ [])
      held_longer = go (refused_in (after_in (ordered L) ts) t.0 t.1) refl
        where
          go : (x : Option Refused) → refused_in (after_in (ordered L) ts) t.0 t.1 ≡ x → Held (ts ++ t ∷ [])
          go (Some r) why = at_refused r why
          go None why = at_allowed why

    -- what holds of the walks in the log since the first turns of a run
    held_since : (more : List (ℕ × Event)) → All (λ t. HasKey t.1) (past ++ more) → Held (past ++ more)
    held_since more keys =
        over_turns Q first one more (all_behind (λ t. HasKey t.1) past more keys)
        (all_before (λ t. HasKey t.1) past more keys)
      where
        Q : List (ℕ × Event) → Type 0
        Q ts = All (λ t. HasKey t.1) past → Held (past ++ ts)

        first : Q []
        first keys = subst (λ (l : List (ℕ × Event)). Held l) (sym (append-nil past))
            (subst (HoldsOfWalks (after_in (ordered L) past).state u k (WasAt past) (WasIn past) (NotThen past))
            (ap (λ (l : List Turn). since_pin [] (log_of u l)) (sym (nothing_since (ordered L) past)))
            (of_no_walks (after_in (ordered L) past).state u k (WasAt past) (WasIn past) (NotThen past)))

        one : (ts : List (ℕ × Event)) (t : ℕ × Event) → All (λ t. HasKey t.1) (ts ++ t ∷ []) → Q ts → Q (ts ++ t ∷ [])
        one ts t some held keys =
            subst (λ (l : List (ℕ × Event)). Held l) (append_assoc past ts (t ∷ []))
            (held_longer (past ++ ts) (let long = length-append past ts in omega (arith, long)) t
            (each_ordered L enough (past ++ ts)
            (All-append (λ t. HasKey t.1) past ts keys (all_before (λ t. HasKey t.1) ts (t ∷ []) some)))
            (all_behind (λ t. HasKey t.1) ts (t ∷ []) some 0 t (omega arith)) (held keys))
        -- in all of a run

held_after : (L : Layout) (u k : ℕ) → 5 ≤ L.nodes → (turns : List (ℕ × Event)) → All (λ t. HasKey t.1) turns
    → Held L [] u k turns
held_after L u k enough turns keys = held_since L [] u k enough turns keys

-- ---- the laws

-- the layout stays
pub layout_is : (L : Layout) → 5 ≤ L.nodes → (turns : List (ℕ × Event)) → All (λ t. HasKey t.1) turns
    → (after_in (ordered L) turns).state.layout ≡ L
layout_is L enough turns keys = let o = each_ordered L enough turns keys in
    ap (λ (s : State). s.layout) o.leads ∙ layout_after L o.events

-- a slot of which a worker knows is not null
never_null : (L : Layout) → 5 ≤ L.nodes → (turns : List (ℕ × Event)) → All (λ t. HasKey t.1) turns → (u slot : ℕ)
    → knows (of (after_in (ordered L) turns).state u) slot ≡ true → slot ≢ 0
never_null L enough turns keys u slot known z =
    let r = (law_of_state L enough (after_in (ordered L) turns) (each_ordered L enough turns keys)).1.tree.known u slot
    known in
    absurd (omega arith)

-- a slot that was at its place since the pin was reached there
abbrev reached_later : (L : Layout) (past : List (ℕ × Event)) (u k : ℕ) (turns : List (ℕ × Event)) (slot : ℕ)
    → WasAt L past u k turns slot (lasting (after_in (ordered L) turns).state.memory slot)
    → WasReachedLater L past turns u k slot
reached_later L past u k turns slot was = (
  record {
    before = was.before;
    since = was.since;
    is_run = was.is_run;
    pinned = was.pinned;
    stands = was.stands;
    reached = was.reached;
    lies = was.lies;
    same_birth = ap (λ (n : Lasting). n.birth) was.lasts;
    same_key = ap (λ (n : Lasting). n.key) was.lasts;
    same_kind = ap (λ (n : Lasting). n.leaf) was.lasts;
  },
  was.later,
)

abbrev reached_since : (L : Layout) (u k : ℕ) (turns : List (ℕ × Event)) (slot : ℕ)
    → WasAt L [] u k turns slot (lasting (after_in (ordered L) turns).state.memory slot)
    → WasReachedSince (ordered L) turns u k slot
reached_since L u k turns slot was = (reached_later L [] u k turns slot was).0

-- in the shape of Natarajan and Mittal, a walk whose looks came after the first turns of a run
pub walk_was_reached : (L : Layout) → 5 ≤ L.nodes → (past more : List (ℕ × Event))
    → All (λ t. HasKey t.1) (past ++ more)
    → L.radix ≡ false → (u k slot parent : ℕ) (side : Side) → k < infinity_1
    → WalkComes k (log_since L past (past ++ more) u) slot parent side → WasReachedLater L past (past ++ more) u k slot
walk_was_reached L enough past more keys search u k slot parent side small walk =
    by ((held_since L past u k enough more keys).comes slot parent side walk)
  where
    turns : List (ℕ × Event)
    turns = past ++ more

    by : IsOnWay (after_in (ordered L) turns).state u k (WasAt L past u k turns) (WasIn L past u k turns)
        (NotThen L past u k turns) slot
        → WasReachedLater L past turns u k slot
    by way = reached_later L past u k turns slot (way.each shape small [] tt some)
      where
        shape : (after_in (ordered L) turns).state.layout.radix ≡ false
        shape = ap (λ (K : Layout). K.radix) (layout_is L enough turns keys) ∙ search

        some : slot ≢ 0
        some = never_null L enough turns keys u slot way.known

pub any_walk_was_reached : OfEachOrderedRun AnyWalkWasReached
any_walk_was_reached L enough turns keys search u k slot parent side small walk =
    (walk_was_reached L enough [] turns keys search u k slot parent side small walk).0

-- in a radix tree: it was reached, or at such a moment no leaf had k, and it does not stand for k
pub radix_walk : (L : Layout) → 5 ≤ L.nodes → (past more : List (ℕ × Event)) → All (λ t. HasKey t.1) (past ++ more)
    → L.radix ≡ true → (u k slot parent : ℕ) (side : Side) → k < infinity_1
    → WalkComes k (log_since L past (past ++ more) u) slot parent side
    → WasReachedLater L past (past ++ more) u k slot ⊎ (WasSoLater L past (past ++ more) u k false
    × (StandsFor (child (after_in (ordered L) (past ++ more)).state.memory)
    (key (after_in (ordered L) (past ++ more)).state.memory) slot k → ⊥))
radix_walk L enough past more keys radix u k slot parent side small walk =
    by ((held_since L past u k enough more keys).comes slot parent side walk)
  where
    turns : List (ℕ × Event)
    turns = past ++ more

    by : IsOnWay (after_in (ordered L) turns).state u k (WasAt L past u k turns) (WasIn L past u k turns)
        (NotThen L past u k turns) slot
        → WasReachedLater L past turns u k slot ⊎ (WasSoLater L past turns u k false
        × (StandsFor (child (after_in (ordered L) turns).state.memory)
        (key (after_in (ordered L) turns).state.memory) slot k → ⊥))
    by way = elim (way.radix (ap (λ (K : Layout). K.radix) (layout_is L enough turns keys) ∙ radix) small).inside [
      | inl each ↦ inl (reached_later L past u k turns slot (each [] tt tt some))
      | inr out ↦ inr out
    ]
      where
        some : slot ≢ 0
        some = never_null L enough turns keys u slot way.known

-- no walk of a radix tree is long
pub any_walk_is_short : OfEachOrderedRun AnyWalkIsShort
any_walk_is_short L enough turns keys radix u k slot parent side small walk =
    ((held_after L u k enough turns keys).short (ap (λ (K : Layout). K.radix) (layout_is L enough turns keys)
    ∙ radix) small slot parent side walk).most

-- and each goes on from routers alone
pub any_walk_passes_routers : OfEachOrderedRun AnyWalkPassesRouters
any_walk_passes_routers L enough turns keys radix u k slot parent side v small walk =
    let passes = (held_after L u k enough turns keys).passes
    (ap (λ (K : Layout). K.radix) (layout_is L enough turns keys) ∙ radix) small slot parent side v walk in
    (passes.0, passes.1)

-- ---- the laws of a radix tree

-- in either shape, a slot to which a walk came was reached since the pin
pub any_walk_was_in_tree : OfEachOrderedRun AnyWalkWasInTree
any_walk_was_in_tree L enough turns keys u k slot parent side walk = in_since
    ((held_after L u k enough turns keys).comes slot parent side walk)
  where
    in_since : IsOnWay (after_in (ordered L) turns).state u k (WasAt L [] u k turns) (WasIn L [] u k turns)
        (NotThen L [] u k turns) slot → WasInTreeSince (ordered L) turns u slot
    in_since way = record {
      before = was.before;
      since = was.since;
      is_run = was.is_run;
      pinned = was.pinned;
      stands = was.stands;
      reached = was.reached;
      same_birth = ap (λ (n : Lasting). n.birth) was.lasts;
      same_key = ap (λ (n : Lasting). n.key) was.lasts;
      same_kind = ap (λ (n : Lasting). n.leaf) was.lasts;
    }
      where
        some : slot ≢ 0
        some = never_null L enough turns keys u slot way.known

        was : WasIn L [] u k turns slot (lasting (after_in (ordered L) turns).state.memory slot)
        was = way.below [] some

module _ (L : Layout) (enough : 5 ≤ L.nodes) (turns : List (ℕ × Event)) (keys : All (λ t. HasKey t.1) turns)
    (radix : L.radix ≡ true) (u k : ℕ) (small : k < infinity_1) where
  shape : (after_in (ordered L) turns).state.layout.radix ≡ true
  shape = ap (λ (K : Layout). K.radix) (layout_is L enough turns keys) ∙ radix

  -- by nodes in whose range the key is, its search came there
  in_range : (slot parent : ℕ) (side : Side) (walk : WalkComes k (log_under_pin L turns u) slot parent side)
      → InRanges k walk.looks → WasAt L [] u k turns slot (lasting (after_in (ordered L) turns).state.memory slot)
  in_range slot parent side walk has = (held_after L u k enough turns keys).ranges shape small slot parent side walk
      has [] tt tt some
    where
      some : slot ≢ 0
      some = never_null L enough turns keys u slot
          ((held_after L u k enough turns keys).comes slot parent side walk).known

pub any_walk_in_range : OfEachOrderedRun AnyWalkInRangeWasReached
any_walk_in_range L enough turns keys radix u k slot parent side small walk has = reached_since L u k turns slot
    (in_range L enough turns keys radix u k small slot parent side walk has)

-- where its search came to an internal node without the key in its range, no leaf had the key
was_right : (L : Layout) (u k : ℕ) → 5 ≤ L.nodes → L.radix ≡ true → k < infinity_1
    → (turns : List (ℕ × Event)) (slot : ℕ)
    → WasAt L [] u k turns slot (lasting (after_in (ordered L) turns).state.memory slot)
    → is_leaf (node (after_in (ordered L) turns).state.memory slot) ≡ false → 6 ≤ slot
    → covers (key (after_in (ordered L) turns).state.memory slot) k ≡ false
    → (was : WasReachedSince (ordered L) turns u k slot) × (InSet (after_in (ordered L) was.before).state.memory k → ⊥)
was_right L u k enough radix small turns slot was inner up out = (
  reached_since L u k turns slot was,
  none_then L [] u k enough radix small turns slot
      (lasting (after_in (ordered L) turns).state.memory slot) was inner up out,
)

-- as a walk has come there by nodes in whose range the key is, and went on
right_there : (L : Layout) (u k : ℕ) → 5 ≤ L.nodes
    → (turns : List (ℕ × Event)) (slot parent : ℕ) (side : Side) (v : ℕ) → L.radix ≡ true → k < infinity_1
    → (after_in (ordered L) turns).state.layout.radix ≡ true
    → HoldsOfWalks (after_in (ordered L) turns).state u k (WasAt L [] u k turns) (WasIn L [] u k turns)
    (NotThen L [] u k turns) (log_under_pin L turns u)
    → (walk : WalkPasses k (log_under_pin L turns u) slot parent side v) → slot ≢ 0
    → InRanges k walk.looks → covers v k ≡ false → (was : WasReachedSince (ordered L) turns u k slot)
    × (InSet (after_in (ordered L) was.before).state.memory k → ⊥)
right_there L u k enough turns slot parent side v radix small shape held walk some has out =
    let at = held.passes shape small slot parent side v walk in
    let is : key (after_in (ordered L) turns).state.memory slot
    ≡ v = held.reads slot parent side v (read_there k (log_under_pin L turns u) slot parent side v walk) in
    was_right L u k enough radix small turns slot (held.ranges shape small slot parent side
    (passed k (log_under_pin L turns u) slot parent side v walk) has [] tt tt some) at.2 at.0
    (ap (λ (n : ℕ). covers n k) is ∙ out)

pub any_walk_out_of_range : OfEachOrderedRun AnyWalkOutOfRangeWasRight
any_walk_out_of_range L enough turns keys radix u k slot parent side v small walk has out =
    right_there L u k enough turns slot parent side v radix small
    (ap (λ (K : Layout). K.radix) (layout_is L enough turns keys) ∙ radix) (held_after L u k enough turns keys)
    walk some has out
  where
    some : slot ≢ 0
    some = never_null L enough turns keys u slot
        ((held_after L u k enough turns keys).comes slot parent side
        (passed k (log_under_pin L turns u) slot parent side v walk)).known

-- where a walk for a key comes behind a node without the key in its range, the slot does not stand for it
pub any_walk_apart : (L : Layout) → 5 ≤ L.nodes → (turns : List (ℕ × Event)) → All (λ t. HasKey t.1) turns
    → L.radix ≡ true → (u k slot parent : ℕ) (side : Side) → k < infinity_1
    → (walk : WalkComes k (log_under_pin L turns u) slot parent side) → (x n : ℕ)
    → Contains walk.looks (Look x Key, KeyIs n) → covers n k ≡ false
    → StandsFor (child (after_in (ordered L) turns).state.memory) (key (after_in (ordered L) turns).state.memory)
    slot k → ⊥
any_walk_apart L enough turns keys radix u k slot parent side small walk = (held_after L u k enough turns keys).apart
    (shape L enough turns keys radix u k small) small slot parent side walk

pub any_walk_stays : OfEachOrderedRun AnyWalkStaysInOrder
any_walk_stays L enough turns keys search u k slot parent side small walk reached inner =
    lies_onward L enough (after_in (ordered L) turns) (each_ordered L enough turns keys) k slot
    (((held_after L u k enough turns keys).comes slot parent side walk).onward
    (ap (λ (K : Layout). K.radix) (layout_is L enough turns keys) ∙ search) small) reached inner

-- the keys that walks read are those of their slots now
pub walk_reads : (L : Layout) → 5 ≤ L.nodes → (past more : List (ℕ × Event)) → All (λ t. HasKey t.1) (past ++ more)
    → (u k slot parent : ℕ) (side : Side) (v : ℕ) → WalkReads k (log_since L past (past ++ more) u) slot parent side v
    → key (after_in (ordered L) (past ++ more)).state.memory slot ≡ v
walk_reads L enough past more keys u k = (held_since L past u k enough more keys).reads

pub any_walk_reads : OfEachOrderedRun AnyWalkReadsKeys
any_walk_reads L enough turns keys u k slot parent side v read =
    walk_reads L enough [] turns keys u k slot parent side v read

-- if a walk has ended, its worker knows a leaf
pub walk_knows_leaf : (L : Layout) → 5 ≤ L.nodes → (past more : List (ℕ × Event)) → All (λ t. HasKey t.1) (past ++ more)
    → (u k slot parent : ℕ) (side : Side) (v : ℕ) → WalkEnds k (log_since L past (past ++ more) u) slot parent side v
    → knows_leaf (of (after_in (ordered L) (past ++ more)).state u) slot ≡ true
walk_knows_leaf L enough past more keys u k = (held_since L past u k enough more keys).ends
