-- In every ordered run the keys that a worker's walks read since its pin are those of their slots
-- now, and so its arrivals are its walks.
use Rattle.std.proofs.Common.{◌≡◌, ℕ, zero, suc, ◌<◌, ◌≤◌, inl, inr, ◌==◌, Bool, true, false, cond, List, [], ◌∷◌, ◌++◌, append_assoc, refl, sym, ap, subst, ◌∙◌, arith, Result}
use Rattle.std.specs.Prelude.{Option, Some, None, IfSome, option_map, replicate, All, Contains, slice_get}
use Rattle.std.proofs.lemmas.List.{append-nil}
use Rattle.std.proofs.lemmas.Bool.{eqb-true}
use Rattle.std.proofs.lemmas.Option.{none-some, slice_get-get_or}
use Rattle.nm_edge.specs.Layouts.{Layout}
use Rattle.nm_edge.specs.declared.edge.Side.{Side}
use Rattle.nm_model.specs.declared.event.Field.TheVariants.{Key}
use Rattle.nm_model.specs.declared.event.Event.{Event}
use Rattle.nm_model.specs.declared.event.Event.TheVariants.{Look}
use Rattle.nm_model.specs.declared.reply.Reply.{Reply}
use Rattle.nm_model.specs.declared.reply.Reply.TheVariants.{KeyIs}
use Rattle.nm_model.specs.declared.reply.Refused.{Refused}
use Rattle.nm_model.specs.declared.trace.Turn.{Turn}
use Rattle.nm_model.specs.declared.arrivals.Call.{Call}
use Rattle.nm_model.specs.declared.arrivals.Arrival.{Arrival}
use Rattle.nm_model.specs.Memory.{node}
use Rattle.nm_model.specs.Step.{reply, write}
use Rattle.nm_model.specs.Runs.{reply_of, applied}
use Rattle.nm_model.specs.Searches.{Search, idle, searched}
use Rattle.nm_model.specs.Walks.{Entry, WalkReads, logged_by, log_of, search_after, begins_anew, since_pin, SearchGrows}
use Rattle.nm_model.specs.Ordered.{Configuration, ordered, search_of, learned_from, refused_in, applied_in, next_in, outcome_in, after_in, trace_in}
use Rattle.nm_laws.proofs.Configurations.{refused_next, refused_outcome, allowed_next, allowed_outcome, after_in-append}
use Rattle.nm_laws.proofs.LogsOfRuns.{searches_tell}
use Rattle.nm_laws.proofs.SearchesGrow.{only_grow}
use Rattle.nm_order.specs.Intervals.{key, HasKey}
use Rattle.nm_order.specs.WalksToArrivals.{HasArrival, OfEachCall}
use Rattle.nm_order.proofs.OrderedLaws.{each_walk_reads}
use Rattle.nm_order.proofs.LogParts.{part_ends}
use Rattle.nm_order.proofs.WalksAfter.{ReadingsAre, HasWalks, nothing_comes, walks_are_there}
use Rattle.nm_order.proofs.SearchesOfLogs.{Stays, stays_before, stays_since_pin, knows_log, sound}

-- ---- logs of runs that grow by a turn

pub trace_in-append : (c : Configuration) (ts us : List (ℕ × Event))
    → trace_in c (ts ++ us) ≡ trace_in c ts ++ trace_in (after_in c ts) us
unfolding after_in trace_in
trace_in-append c [] us = refl
trace_in-append c (t ∷ ts) us = ap (λ (rest : List Turn).
    record { worker = t.0; event = t.1; outcome = outcome_in c t } ∷ rest) (trace_in-append (next_in c t) ts us)

pub log-append : (w : ℕ) (ts us : List Turn) → log_of w (ts ++ us) ≡ log_of w ts ++ log_of w us
log-append w [] us = refl
log-append w (t ∷ ts) us = ap (λ (rest : List Entry). cond (t.worker == w) (logged_by t) [] ++ rest)
    (log-append w ts us) ∙ sym (append_assoc (cond (t.worker == w) (logged_by t) []) (log_of w ts) (log_of w us))

pub search-append : (s : Search) (es fs : List Entry) → search_after s (es ++ fs) ≡ search_after (search_after s es) fs
search-append s [] fs = refl
search-append s (e ∷ es) fs = search-append (searched s e.0 e.1) es fs

pub since_pin-append : (so_far es fs : List Entry) → since_pin so_far (es ++ fs) ≡ since_pin (since_pin so_far es) fs
since_pin-append so_far [] fs = refl
since_pin-append so_far (e ∷ es) fs = since_pin-append (cond (begins_anew e) [] (so_far ++ e ∷ [])) es fs

-- a worker's log after one more turn: as it was, or longer by that turn
pub data LogGrows (w : ℕ) (c : Configuration) (t : ℕ × Event) (before after : List Entry) : Type 0 where
  Same : after ≡ before → LogGrows w c t before after
  Longer : t.0 ≡ w → refused_in c t.0 t.1 ≡ None → after ≡ before ++ (t.1, reply_of c.state t.0 t.1) ∷ []
      → LogGrows w c t before after

module _ (w : ℕ) (c : Configuration) (ts : List (ℕ × Event)) (t : ℕ × Event) where
  abbrev new : Bool → Result Reply Refused → List Entry
  new b o = cond b (logged_by (record { worker = t.0; event = t.1; outcome = o })) []

  -- the log grows by what the turn adds
  pub one_turn : log_of w (trace_in c (ts ++ t ∷ []))
      ≡ log_of w (trace_in c ts) ++ (new (t.0 == w) (outcome_in (after_in c ts) t) ++ [])
  unfolding trace_in
  one_turn = ap (log_of w) (trace_in-append c ts (t ∷ []))
      ∙ log-append w (trace_in c ts) (trace_in (after_in c ts) (t ∷ []))

  pub log_grows : LogGrows w (after_in c ts) t (log_of w (trace_in c ts)) (log_of w (trace_in c (ts ++ t ∷ [])))
  log_grows = by (t.0 == w) (refused_in (after_in c ts) t.0 t.1) refl refl
    where
      by : (b : Bool) (o : Option Refused) → (t.0 == w) ≡ b → refused_in (after_in c ts) t.0 t.1 ≡ o
          → LogGrows w (after_in c ts) t (log_of w (trace_in c ts)) (log_of w (trace_in c (ts ++ t ∷ [])))
      by false o here is = Same (one_turn ∙ (ap (λ (b : Bool). log_of w (trace_in c ts)
          ++ (new b (outcome_in (after_in c ts) t) ++ [])) here ∙ append-nil (log_of w (trace_in c ts))))
      by true (Some r) here is = Same (one_turn ∙ ((λ i. log_of w (trace_in c ts)
          ++ (new (here i) (refused_outcome (after_in c ts) t r is i) ++ [])) ∙ append-nil (log_of w (trace_in c ts))))
      by true None here is = Longer (eqb-true t.0 w here) is
          (one_turn ∙ (λ i. log_of w (trace_in c ts) ++ (new (here i) (allowed_outcome (after_in c ts) t is i) ++ [])))

-- ---- a look at a key

key_is : (a b : ℕ) → KeyIs a ≡ KeyIs b → a ≡ b
key_is a b e = cc

-- it answers the key that the slot has then
look_tells : (c : Configuration) (t : ℕ × Event) (slot v : ℕ) → refused_in c t.0 t.1 ≡ None → Look slot Key ≡ t.1
    → KeyIs v ≡ reply_of c.state t.0 t.1 → key (next_in c t).state.memory slot ≡ v
unfolding applied_in applied write reply
look_tells c t slot v allowed is told = subst (λ (e : Event). refused_in c t.0 e ≡ None
    → KeyIs v ≡ reply_of c.state t.0 e → key (next_in c (t.0, e)).state.memory slot ≡ v) is at_look allowed told
  where
    at_look : refused_in c t.0 (Look slot Key) ≡ None → KeyIs v ≡ reply_of c.state t.0 (Look slot Key)
        → key (next_in c (t.0, Look slot Key)).state.memory slot ≡ v
    at_look allowed told = ap (λ (d : Configuration). key d.state.memory slot)
        (allowed_next c (t.0, Look slot Key) allowed) ∙ sym (key_is v (node c.state.memory slot).key told)

-- ---- runs

pub all_before : {X : Type 0} (P : X → Type 0) (xs ys : List X) → All P (xs ++ ys) → All P xs
all_before P [] ys all i d below = absurd (omega (arith, below))
all_before P (x ∷ xs) ys all zero d below = all 0 d (omega arith)
all_before P (x ∷ xs) ys all (suc i) d below = all_before P xs ys (λ j e lt. all (suc j) e (omega (arith, lt))) i d
    (omega (arith, below))

pub all_behind : {X : Type 0} (P : X → Type 0) (xs ys : List X) → All P (xs ++ ys) → All P ys
all_behind P [] ys all = all
all_behind P (x ∷ xs) ys all = all_behind P xs ys (λ i d below. all (suc i) d (omega (arith, below)))

pub has_searches : (ts : List (ℕ × Event)) (c : Configuration) (ss : List Search) → c.searches ≡ Some ss
    → (known : List Search) × ((after_in c ts).searches ≡ Some known)
unfolding after_in applied_in
has_searches [] c ss is = (ss, is)
has_searches (t ∷ ts) c ss is = let now = by (refused_in c t.0 t.1) refl in has_searches ts (next_in c t) now.0 now.1
  where
    by : (o : Option Refused) → refused_in c t.0 t.1 ≡ o → (now : List Search) × ((next_in c t).searches ≡ Some now)
    by (Some r) why = (ss, ap (λ (d : Configuration). d.searches) (refused_next c t r why) ∙ is)
    by None why = (
      learned_from ss t.0 t.1 (reply_of c.state t.0 t.1),
      ap (λ (d : Configuration). d.searches)
          (allowed_next c t why) ∙ ap (option_map (λ ss. learned_from ss t.0 t.1 (reply_of c.state t.0 t.1))) is,
    )

-- what a turn keeps holds after each run whose calls are for keys of the set
pub over_turns : (Q : List (ℕ × Event) → Type 0) → Q []
    → ((ts : List (ℕ × Event)) (t : ℕ × Event) → All (λ t. HasKey t.1) (ts ++ t ∷ []) → Q ts → Q (ts ++ t ∷ []))
    → (ts : List (ℕ × Event)) → All (λ t. HasKey t.1) ts → Q ts
over_turns Q first one ts keys = from ts [] keys first
  where
    from : (rest ts : List (ℕ × Event)) → All (λ t. HasKey t.1) (ts ++ rest) → Q ts → Q (ts ++ rest)
    from [] ts keys q = subst Q (sym (append-nil ts)) q
    from (t ∷ rest) ts keys q =
        let e : (ts ++ t ∷ []) ++ rest ≡ ts ++ t ∷ rest = append_assoc ts (t ∷ []) rest in
        let keys' : All (λ t. HasKey t.1) ((ts ++ t ∷ []) ++ rest) = subst (All (λ t. HasKey t.1)) (sym e) keys in
        subst Q e (from rest (ts ++ t ∷ []) keys' (one ts t (all_before (λ t. HasKey t.1) (ts ++ t ∷ []) rest keys') q))

module _ (L : Layout) (enough : 5 ≤ L.nodes) (w : ℕ) (inside : w < L.workers) where
  abbrev pub log_after : List (ℕ × Event) → List Entry
  log_after ts = log_of w (trace_in (ordered L) ts)

  abbrev pub known_after : List (ℕ × Event) → Search
  known_after ts = search_after idle (log_after ts)

  pub is_known : (ts : List (ℕ × Event)) (searches : List Search)
      → (after_in (ordered L) ts).searches ≡ Some searches → search_of searches w ≡ known_after ts
  is_known ts searches are = subst (λ o. IfSome o (λ ss. search_of ss w ≡ known_after ts)) are
      (searches_tell L ts w inside)

  -- the keys of arrivals are those of their slots now
  keys_now : (ts : List (ℕ × Event)) → All (λ t. HasKey t.1) ts → (call : Call) → (known_after ts).call ≡ Some call
      → (a : Arrival) → Contains (known_after ts).walks a → (v : ℕ) → a.key ≡ Some v
      → key (after_in (ordered L) ts).state.memory a.slot ≡ v
  keys_now ts keys call is a there v has =
      let s = has_searches ts (ordered L) (replicate L.workers idle) refl in
      let same : known_after ts ≡ search_of s.0 w = sym (is_known ts s.0 s.1) in
      each_walk_reads L enough ts keys w call.key v a (record {
        searches = s.0;
        are = s.1;
        call = call;
        is_call = ap (λ (x : Search). x.call) (sym same) ∙ is;
        is_key = refl;
        index = there.0;
        is = ap (λ (x : Search). slice_get x.walks there.0) (sym same)
            ∙ (slice_get-get_or (known_after ts).walks there.0 a there.1 ∙ ap (λ (x : Arrival). Some x) there.2);
      }) has

  -- and so are the keys that walks read since the pin
  abbrev KeysStand : List (ℕ × Event) → Type 0
  KeysStand ts = (call : Call) → (known_after ts).call ≡ Some call
      → ReadingsAre (key (after_in (ordered L) ts).state.memory) call.key (since_pin [] (log_after ts))

  pub has_all : (ts : List (ℕ × Event)) → KeysStand ts → (call : Call) → (known_after ts).call ≡ Some call
      → HasWalks call.key (since_pin [] (log_after ts)) (known_after ts).walks
  has_all ts stand call is =
      let stays : Stays (since_pin [] (log_after ts)) = stays_since_pin (log_after ts) [] tt in
      subst (HasWalks call.key (since_pin [] (log_after ts))) (sym (knows_log (log_after ts) call is).walks)
      (walks_are_there call.key (key (after_in (ordered L) ts).state.memory) (since_pin [] (log_after ts))
      (λ part more e. sound call.key part (stays_before part more (subst Stays (sym e) stays))) (stand call is))

  module _ (ts : List (ℕ × Event)) (t : ℕ × Event) (keys : All (λ t. HasKey t.1) (ts ++ t ∷ []))
      (stand : KeysStand ts) (call : Call) (is : (known_after (ts ++ t ∷ [])).call ≡ Some call) (slot parent : ℕ)
      (side : Side) (v : ℕ) where
    abbrev Reads : List Entry → Type 0
    Reads log = WalkReads call.key log slot parent side v

    abbrev Told : Search → Type 0
    Told s = HasArrival s.walks slot parent side (λ a. a.key ≡ Some v)

    abbrev StandsNow : Type 0
    StandsNow = key (after_in (ordered L) (ts ++ t ∷ [])).state.memory slot ≡ v

    abbrev entry : Entry
    entry = (t.1, reply_of (after_in (ordered L) ts).state t.0 t.1)

    -- an arrival with that key is there now
    by_arrival : Told (known_after (ts ++ t ∷ [])) → StandsNow
    by_arrival h = ap (key (after_in (ordered L) (ts ++ t ∷ [])).state.memory) (sym h.at_slot)
        ∙ keys_now (ts ++ t ∷ []) keys call is h.arrival h.there v h.holds

    -- the log is as it was
    as_it_was : log_after (ts ++ t ∷ []) ≡ log_after ts → Reads (since_pin [] (log_after (ts ++ t ∷ []))) → StandsNow
    as_it_was e r = by_arrival (subst (λ (es : List Entry). Told (search_after idle es)) (sym e)
        ((has_all ts stand call (ap (λ (es : List Entry). (search_after idle es).call) (sym e) ∙ is)).reads slot
        parent side v (subst (λ (es : List Entry). Reads (since_pin [] es)) e r)))

    -- it has one entry more: the key was read before it, or by it
    one_longer : refused_in (after_in (ordered L) ts) t.0 t.1 ≡ None
        → log_after (ts ++ t ∷ []) ≡ log_after ts ++ entry ∷ [] → (b : Bool) → begins_anew entry ≡ b
        → Reads (cond b [] (since_pin [] (log_after ts) ++ entry ∷ [])) → StandsNow
    unfolding after_in
    one_longer allowed e true anew r = let none = (nothing_comes call.key).reads slot parent side v r in
        let below = none.there.1 in absurd (omega (arith, below))
    one_longer allowed e false stands r = elim (part_ends r.looks (since_pin [] (log_after ts))
        (Look slot Key, KeyIs v) entry r.is_part) [
          | inl q ↦ before (record { looks = r.looks; leads = r.leads; is_part = q })
          | inr q ↦ ap (λ (c : Configuration). key c.state.memory slot) (after_in-append (ordered L) ts (t ∷ []))
              ∙ look_tells (after_in (ordered L) ts) t slot v allowed (ap (λ (x : Entry). x.0) q.0)
              (ap (λ (x : Entry). x.1) q.0)
        ]
      where
        next : known_after (ts ++ t ∷ []) ≡ searched (known_after ts) t.1
            (reply_of (after_in (ordered L) ts).state t.0 t.1)
        next = ap (search_after idle) e ∙ search-append idle (log_after ts) (entry ∷ [])

        grows : SearchGrows (known_after ts) (searched (known_after ts) t.1
            (reply_of (after_in (ordered L) ts).state t.0 t.1))
        grows = only_grow (known_after ts) t.1 (reply_of (after_in (ordered L) ts).state t.0 t.1) stands

        before : Reads (since_pin [] (log_after ts)) → StandsNow
        before r =
            let called = sym grows.call ∙ (ap (λ (s : Search). s.call) (sym next) ∙ is) in
            let h = (has_all ts stand call called).reads slot parent side v r in
            let grown = grows.walks h.arrival h.there in
            by_arrival (subst Told (sym next) (record {
              arrival = grown.0;
              there = grown.1;
              at_slot = grown.2.slot
                  ∙ h.at_slot;
              by_parent = grown.2.parent ∙ h.by_parent;
              on_side = grown.2.side
                  ∙ h.on_side;
              holds = grown.2.key v h.holds;
            }))

    stand_now : Reads (since_pin [] (log_after (ts ++ t ∷ []))) → StandsNow
    stand_now r = by (log_grows w (ordered L) ts t)
      where
        by : LogGrows w (after_in (ordered L) ts) t (log_after ts) (log_after (ts ++ t ∷ [])) → StandsNow
        by (Same e) = as_it_was e r
        by (Longer own allowed e) = one_longer allowed e (begins_anew entry) refl
            (subst Reads (ap (since_pin []) e ∙ since_pin-append [] (log_after ts) (entry ∷ [])) r)

  pub keys_stand : (ts : List (ℕ × Event)) → All (λ t. HasKey t.1) ts → KeysStand ts
  unfolding trace_in
  keys_stand = over_turns KeysStand (λ call is. absurd (none-some call is))
      (λ ts t keys stand call is slot parent side v r. stand_now ts t keys stand call is slot parent side v r)

-- ---- the laws

module _ (P : ℕ → List Entry → Search → Type 0) where
  -- what holds of what the log tells holds of what the core keeps
  pub of_each_call : ((L : Layout) (enough : 5 ≤ L.nodes) (turns : List (ℕ × Event)) → All (λ t. HasKey t.1) turns
      → (w : ℕ) (inside : w < L.workers) (call : Call) → (known_after L enough w inside turns).call ≡ Some call
      → P call.key (since_pin [] (log_after L enough w inside turns)) (known_after L enough w inside turns))
      → OfEachCall P
  of_each_call holds L enough turns keys w inside searches are call is =
      let same = is_known L enough w inside turns searches are in
      subst (P call.key (since_pin [] (log_of w (trace_in (ordered L) turns)))) (sym same)
      (holds L enough turns keys w inside call (ap (λ (s : Search). s.call) (sym same) ∙ is))
