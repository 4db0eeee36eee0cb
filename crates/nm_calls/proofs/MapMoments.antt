-- A look-up of a value: its walk, and the moment at which the map had the value that was read.
use Rattle.std.proofs.Common.{◌≡◌, ◌≢◌, ℕ, ◌<◌, ◌≤◌, ◌==◌, Bool, true, false, List, [], ◌∷◌, ◌++◌, append_assoc, drop, length, refl, sym, ap, subst, ◌∙◌, arith}
use Rattle.std.specs.Prelude.{All, IsSome, None, Some, Option, Result, Ok, Err, IfOk, IfErr, IfSome}
use Rattle.std.proofs.lemmas.List.{append_cancel_left, drop-append-le, drop_all, length-map}
use Rattle.std.proofs.lemmas.Result.{IfErr-weaker}
use Rattle.nm_edge.specs.Keys.{IsKey}
use Rattle.nm_edge.specs.Layouts.{Layout, IsLayout}
use Rattle.nm_edge.specs.declared.edge.Side.{Side}
use Rattle.nm_model.specs.declared.event.Event.{Event}
use Rattle.nm_model.specs.declared.event.Event.TheVariants.{Leave, Sight}
use Rattle.nm_model.specs.declared.event.Op.TheVariants.{Has}
use Rattle.nm_model.specs.declared.reply.Reply.{Reply}
use Rattle.nm_model.specs.declared.reply.Reply.TheVariants.{Departed}
use Rattle.nm_model.specs.declared.trace.Turn.{Turn}
use Rattle.nm_model.specs.Acts.{Gives, InSet}
use Rattle.nm_model.specs.Headline.{HasLeft, IsPinned, has_after, words_after}
use Rattle.nm_model.specs.Memory.{Memory, infinity_1, is_leaf, node, opening}
use Rattle.nm_model.specs.Ordered.{ordered, after_in, trace_in, turn_of, HasKey}
use Rattle.nm_model.specs.Paths.{Reached}
use Rattle.nm_model.specs.Walks.{Entry, WalkEnds, log_of, since_pin}
use Rattle.nm_order.specs.Logs.{part_of, known_by}
use Rattle.nm_order.specs.Moments.{PinStands}
use Rattle.nm_order.specs.StalePaths.{HasPin, WasReachedLater, log_since, log_under_pin}
use Rattle.nm_order.specs.WalkAnswers.{WasSoLater}
use Rattle.nm_order.proofs.AnswersSince.{part-append}
use Rattle.nm_order.proofs.PartWalks.{ends_in_log}
use Rattle.nm_order.proofs.PinNumbers.{length_trace}
use Rattle.nm_order.proofs.RealTime.{begins_with}
use Rattle.nm_order.proofs.WalkTells.{walk_tells}
use Rattle.nm_order.proofs.WalksOfRuns.{trace_in-append}
use Rattle.nm_theorem.proofs.GraceOfRuns.{pin_is}
use Rattle.nm_theorem.proofs.Hands.{run_hands}
use Rattle.nm_theorem.proofs.HeadlineOfRuns.{each_run_has_it}
use Rattle.nm_theorem.proofs.LooksBehind.{pinned_by_turns}
use Rattle.nm_theorem.proofs.WrittenWords.{run_words}
use Rattle.nm_steps.specs.declared.view.Stored.{Stored}
use Rattle.nm_steps.specs.Rules.{Extends}
use Rattle.nm_steps.specs.Steps.{Continues, HasSeen, HasSeenAllOf, IsSamePass, PassView, TakesStep}
use Rattle.nm_steps.proofs.Growing.{goes_on_through}
use Rattle.nm_steps.proofs.Seeing.{same_by_step, same_then, seen_by_turn, seen_through, stores_same, stores_through}
use Rattle.nm_steps.proofs.ValueStays.{NobodyHolds, value_stays}
use Rattle.nm_epoch.specs.Resting.{IsResting, KeepsHands, epochs}
use Rattle.nm_epoch.specs.Tries.{IsMoved, IsPinnedBy}
use Rattle.nm_epoch.proofs.KeptHands.{kept_on}
use Rattle.nm_model.specs.declared.knowledge.Brief.{Brief}
use Rattle.nm_walks.specs.declared.looking.Onward.{Onward}
use Rattle.nm_walks.specs.AddedLooks.{AddsLooks}
use Rattle.nm_walks.specs.Bounds.{reach}
use Rattle.nm_walks.specs.Telling.{GoesOn, OnlyLooks}
use Rattle.nm_walks.specs.Walks.{Reads}
use Rattle.nm_walks.proofs.Looks.{enough}
use Rattle.nm_walks.proofs.PlainLooks.{looks_longer}
use Rattle.nm_calls.specs.declared.fault.CallFault.{CallFault}
use Rattle.nm_calls.specs.declared.fault.CallFault.TheVariants as fault
use Rattle.nm_calls.specs.InTurns.{GiveUp}
use Rattle.nm_calls.specs.Maps.{AfterGet, HasLookedUp, HasReadValue, HoldsStores, IsInMap, WasMapped, WasMappedUnderPin}
use Rattle.nm_calls.specs.PlainWalks.{HasPassed, LooksUnderPin, WasSo, events_of, most_looks}
use Rattle.nm_calls.proofs.Adding.{cuts_none, has_won, plain_moved_adds}
use Rattle.nm_calls.proofs.NamedLeaves.{leaf_has_key, leaf_is_one, leaf_was, moment_is_later, pin_not_left}
use Rattle.nm_calls.proofs.PlainLooks.{as_events, call_adds, ended_in_all, events_go_on, events_of_trace, pin_missed, walks_missed, was_so}
use Rattle.nm_calls.proofs.StoresInTurns.{stores_in_turns}
use Rattle.nm_calls.proofs.Unheld.{unheld}

-- what follows a first list
drop-past : {A : Type 0} (xs ys : List A) → drop (length xs) (xs ++ ys) ≡ ys
drop-past {A = A} xs ys = drop-append-le (length xs) xs ys (omega arith)
    ∙ ap (λ (l : List A). l ++ ys) (drop_all (length xs) xs (omega arith))

-- a walk ends at the leaf that it has read
pub ends_at : (p q : PassView) (n k x : ℕ) (on : Onward) → Reads k x p.view.log q.view.log on
    → (c : HasPassed n p.view.log k x) → on.next.slot ≡ 0 → WalkEnds k (since_pin [] q.view.log) x c.0 c.1 on.found
ends_at p q n k x on r c null = record {
  looks = c.2.looks;
  leads = c.2.leads;
  null = on.next;
  is_null = null;
  is_part = looks_longer p.view.log q.view.log k x on r c.2.looks c.2.is_part;
}

-- ---- stores that are seen later

-- the same stores, after more turns
pub holds_longer : (L : Layout) (was now later : List Turn) (stores : List Stored) → Extends later now
    → HoldsStores L was now stores → HoldsStores L was later stores
holds_longer L was now later stores more s = record {
  until = s.until;
  from = s.from;
  ends = goes_on_through later now s.until more s.ends;
  held = s.held;
  linked = s.linked;
  swapped = s.swapped;
  order = s.order;
}

stored_longer : (answer : Option ℕ) (L : Layout) (was now later : List Turn) (stores : List Stored)
    → Extends later now → IfSome answer (λ v. HoldsStores L was now stores)
    → IfSome answer (λ v. HoldsStores L was later stores)
stored_longer None L was now later stores more s = tt
stored_longer (Some v) L was now later stores more s = holds_longer L was now later stores more s

-- ---- where nobody has had the leaf in hands, by events

module _ (L : Layout) (fits : IsLayout L) (turns : List (ℕ × Event)) (keys : All (λ t. HasKey t.1) turns)
    (w slot : ℕ) (high : 6 ≤ slot) (within : slot ≤ L.nodes)
    (before since : List (ℕ × Event)) (is_run : turns ≡ before ++ since)
    (pinned : IsPinned w (trace_in (ordered L) before))
    (stays : HasLeft w (trace_in (after_in (ordered L) before) since) → ⊥)
    (reached : Reached (words_after L (trace_in (ordered L) before)) slot) where
  abbrev first : List Turn
  first = trace_in (ordered L) before

  abbrev rest : List Turn
  rest = trace_in (after_in (ordered L) before) since

  whole : trace_in (ordered L) turns ≡ first ++ rest
  whole = ap (trace_in (ordered L)) is_run ∙ trace_in-append (ordered L) before since

  pub nobody_holds : NobodyHolds L turns (length first) slot
  nobody_holds now later is le v =
      let long = length_trace (ordered L) before in
      let mid = begins_with before since now later (sym is_run ∙ is) (omega (arith, le, long)) in
      let after : since ≡ mid.0 ++ later = append_cancel_left before since (mid.0 ++ later)
      (sym is_run ∙ (is ∙ (ap (λ (l : List (ℕ × Event)). l ++ later) mid.1 ∙ append_assoc before mid.0 later))) in
      let turns_mid : List Turn = trace_in (after_in (ordered L) before) mid.0 in
      let held = unheld L (trace_in (ordered L) turns) (each_run_has_it L fits true turns keys) w slot high within
      first rest whole pinned stays reached turns_mid
      (trace_in (after_in (after_in (ordered L) before) mid.0) later)
      (ap (trace_in (after_in (ordered L) before)) after ∙ trace_in-append (after_in (ordered L) before) mid.0 later)
      v in
      sym (run_hands v slot L fits true now)
      ∙ (ap (has_after (opening L) v slot false) (ap (trace_in (ordered L)) mid.1
      ∙ trace_in-append (ordered L) before mid.0) ∙ held)

-- ---- the moment of a value that was read, under the pin that the worker still has

-- after the first turns of a run, at a moment since which the worker is pinned, the map had the key
-- with the value at this slot
pub record ReadAt (m : PassView) (past events : List (ℕ × Event)) (k v x : ℕ) : Type 0 where
  pub before : List (ℕ × Event)
  pub since : List (ℕ × Event)
  pub is_run : events ≡ before ++ since
  pub later : length past < length before
  pub has_pin : HasPin (after_in (ordered m.view.layout) before) m.view.number
  pub stands : PinStands m.view.number (trace_in (after_in (ordered m.view.layout) before) since)
  pub are : m.view.past ≡ trace_in (ordered m.view.layout) before ++ trace_in
      (after_in (ordered m.view.layout) before) since
  pub pinned : IsPinned m.view.number (trace_in (ordered m.view.layout) before)
  pub stays : HasLeft m.view.number (trace_in (after_in (ordered m.view.layout) before) since) → ⊥
  pub in_map : IsInMap m.view.layout (trace_in (ordered m.view.layout) before) m.view.stores k v
  pub slot_is : in_map.slot ≡ x
  pub stored : HoldsStores m.view.layout (trace_in (ordered m.view.layout) before) m.view.past m.view.stores

module _ (m : PassView) (fits : IsLayout m.view.layout) (k : ℕ) (is_key : IsKey k) where
  abbrev L : Layout
  L = m.view.layout

  abbrev w : ℕ
  w = m.view.number

  abbrev small : k < infinity_1
  small = let le = is_key in omega (arith, le)

  -- a moment of the run that the pass has seen
  module _ (seen : HasSeen m.view) (before since : List (ℕ × Event)) (is_run : seen.events ≡ before ++ since) where
    pub parts_are : m.view.past ≡ trace_in (ordered L) before ++ trace_in (after_in (ordered L) before) since
    parts_are = seen.are ∙ (ap (trace_in (ordered L)) is_run ∙ trace_in-append (ordered L) before since)

    pub pinned_at : HasPin (after_in (ordered L) before) w → IsPinned w (trace_in (ordered L) before)
    pinned_at pinned = pinned_by_turns w (trace_in (ordered L) before)
        (subst (λ (p : Option ℕ). IsSome p) (sym pinned.1 ∙ pin_is L fits true before w) refl)

  -- a walk, in the run that the pass has seen: what it looked at after the turns that an earlier pass
  -- had seen
  module _ (seen : HasSeen m.view) (past more : List (ℕ × Event)) (grown : seen.events ≡ past ++ more) (n : ℕ)
      (first : length (part_of w (trace_in (ordered L) past)) ≡ n) (slot parent : ℕ) (side : Side) (v : ℕ) where
    pub walk_since : WalkEnds k (since_pin [] (drop n m.view.log)) slot parent side v
        → WalkEnds k (log_since L past (past ++ more) w) slot parent side v
    walk_since ends =
        subst (λ (l : List Turn). WalkEnds k (since_pin [] (log_of w l)) slot parent side v) (sym rest_is)
        (ends_in_log w (trace_in (after_in (ordered L) past) more) k slot parent side v
        (subst (λ (l : List Entry). WalkEnds k (since_pin [] l) slot parent side v) log_is ends))
      where
        first_turns : List Turn
        first_turns = trace_in (ordered L) past

        last_turns : List Turn
        last_turns = trace_in (after_in (ordered L) past) more

        rest_is : drop (length past) (trace_in (ordered L) (past ++ more)) ≡ last_turns
        rest_is = ap (drop (length past)) (trace_in-append (ordered L) past more)
            ∙ (ap (λ (j : ℕ). drop j (first_turns ++ last_turns)) (sym (length_trace (ordered L) past))
            ∙ drop-past first_turns last_turns)

        log_is : drop n m.view.log ≡ part_of w last_turns
        log_is = ap (drop n) (sym seen.is_part
            ∙ ap (part_of w) (seen.are ∙ (ap (trace_in (ordered L)) grown ∙ trace_in-append (ordered L) past more)))
            ∙ (ap (drop n) (part-append w first_turns last_turns)
            ∙ (ap (λ (j : ℕ). drop j (part_of w first_turns ++ part_of w last_turns)) (sym first)
            ∙ drop-past (part_of w first_turns) (part_of w last_turns)))

  -- the leaf with the value
  module _ (v : ℕ) (r : HasReadValue m k v) (past more : List (ℕ × Event)) (grown : r.seen.run.events ≡ past ++ more)
      (walk : WalkEnds k (log_since L past (past ++ more) w) r.slot r.parent r.side k) where
    keys : All (λ t. HasKey t.1) (past ++ more)
    keys = subst (λ (ts : List (ℕ × Event)). All (λ t. HasKey t.1) ts) grown r.seen.run.keys

    was : WasReachedLater L past (past ++ more) w k r.slot
    was = leaf_was L (enough L fits) past more keys w k r.slot r.parent r.side small walk

    pub read_at : ReadAt m past r.seen.run.events k v r.slot
    unfolding was
    read_at = record {
      before = was.0.before;
      since = was.0.since;
      is_run = is_run;
      later = was.1;
      has_pin = was.0.pinned;
      stands = was.0.stands;
      are = are;
      pinned = pinned;
      stays = stays;
      in_map = record {
        slot = r.slot;
        reached = reached;
        leaf = ap (λ (x : Memory). is_leaf (node x r.slot)) words
            ∙ leaf_is_one L (enough L fits) past more keys w k r.slot r.parent r.side small walk;
        has_key = ap (λ (x : Memory). (node x r.slot).key) words
            ∙ leaf_has_key L (enough L fits) past more keys w k r.slot r.parent r.side small walk;
        has_value = value_stays L r.seen.run.events m.view.stores (length so_far) r.slot r.seen.held
            (nobody_holds L fits r.seen.run.events r.seen.run.keys w r.slot r.high r.within was.0.before was.0.since
            is_run pinned stays reached)
            ∙ sym r.value;
      };
      slot_is = refl;
      stored = stores_in_turns m.view fits r.seen so_far (record { more = remaining; is = are });
    }
      where
        so_far : List Turn
        so_far = trace_in (ordered L) was.0.before

        remaining : List Turn
        remaining = trace_in (after_in (ordered L) was.0.before) was.0.since

        is_run : r.seen.run.events ≡ was.0.before ++ was.0.since
        is_run = grown ∙ was.0.is_run

        are : m.view.past ≡ so_far ++ remaining
        are = parts_are r.seen.run was.0.before was.0.since is_run

        pinned : IsPinned w so_far
        pinned = pinned_at r.seen.run was.0.before was.0.since is_run was.0.pinned

        stays : HasLeft w remaining → ⊥
        stays = pin_not_left w remaining was.0.stands

        words : words_after L so_far ≡ (after_in (ordered L) was.0.before).state.memory
        words = run_words L fits true was.0.before

        reached : Reached (words_after L so_far) r.slot
        reached = subst (λ (x : Memory). Reached x r.slot) (sym words) was.0.reached

  -- a walk, in the run that the pass has seen
  module _ (seen : HasSeen m.view) (slot parent : ℕ) (side : Side) (v : ℕ)
      (ends : WalkEnds k (since_pin [] m.view.log) slot parent side v) where
    pub walk_in_run : WalkEnds k (log_under_pin L seen.events w) slot parent side v
    walk_in_run = ends_in_log w (trace_in (ordered L) seen.events) k slot parent side v
        (subst (λ (l : List Entry). WalkEnds k (since_pin [] l) slot parent side v)
        (sym (ap (part_of w) (sym seen.are) ∙ seen.is_part)) ends)

  -- at some moment of the run
  abbrev pub read_in_run : (v : ℕ) (r : HasReadValue m k v) → ReadAt m [] r.seen.run.events k v r.slot
  read_in_run v r = read_at v r [] r.seen.run.events refl (walk_in_run r.seen.run r.slot r.parent r.side k r.walk)

-- ---- its moment is in the call, which an earlier pass has begun

module _ (o m : PassView) (first_seen : HasSeen o.view) (fits : IsLayout m.view.layout) (same : IsSamePass o m)
    (since : HasSeenAllOf m o) (k : ℕ) (is_key : IsKey k) where
  abbrev begun : List (ℕ × Event)
  begun = events_of o.view.past

  abbrev since_begun : List (ℕ × Event)
  since_begun = events_of since.goes_on.more

  module _ (seen : HasSeen m.view) where
    run_grown : seen.events ≡ begun ++ since_begun
    run_grown = sym (ap events_of seen.are ∙ events_of_trace (ordered m.view.layout) seen.events)
        ∙ events_go_on m.view.past o.view.past since.goes_on

    log_then : length (part_of m.view.number (trace_in (ordered m.view.layout) begun)) ≡ length o.view.log
    log_then = ap length (subst
        (λ (s : PassView). part_of s.view.number (trace_in (ordered s.view.layout) begun) ≡ o.view.log) (sym same)
        (as_events o.view first_seen).is_part)

  turns_then : length begun ≡ length o.view.past
  turns_then = length-map o.view.past turn_of

  -- what a walk and a look found was so
  pub mapped_under_pin : HasSeen m.view → (answer : Option ℕ) → HasLookedUp (length o.view.log) m k answer
      → WasMappedUnderPin m.view.layout o.view.past m.view.past m.view.stores m.view.number k answer
  mapped_under_pin seen (Some v) r =
      let run = r.read.seen.run in
      let at = read_at m fits k is_key v r.read begun since_begun (run_grown run)
      (walk_since m fits k is_key run begun since_begun (run_grown run) (length o.view.log)
      (log_then run) r.read.slot r.read.parent r.read.side k r.walk) in
      record {
        so_far = trace_in (ordered m.view.layout) at.before;
        rest = trace_in (after_in (ordered m.view.layout) at.before) at.since;
        are = at.are;
        later = (let less = at.later in let turns = length_trace (ordered m.view.layout) at.before in let earlier =
            turns_then in omega (arith, less, turns, earlier));
        pinned = at.pinned;
        stays = at.stays;
        gives = at.in_map;
        stored = at.stored;
      }
  mapped_under_pin seen None e =
      let L = m.view.layout in
      let w = m.view.number in
      let small : k < infinity_1 = (let le = is_key in omega (arith, le)) in
      let keys = subst (λ (ts : List (ℕ × Event)). All (λ t. HasKey t.1) ts) (run_grown seen) seen.keys in
      let t : WasSoLater L begun (begun ++ since_begun) w k (e.2 == k) =
      walk_tells L (enough L fits) begun since_begun keys w k e.0 e.1 e.3 e.2
      (walk_since m fits k is_key seen begun since_begun (run_grown seen) (length o.view.log)
      (log_then seen) e.0 e.1 e.3 e.2 e.4)
      small in
      let is_run = run_grown seen ∙ t.0.is_run in
      record {
        so_far = trace_in (ordered L) t.0.before;
        rest = trace_in (after_in (ordered L) t.0.before) t.0.since;
        are = parts_are m fits k is_key seen t.0.before t.0.since is_run;
        later = (let less = t.1 in let turns = length_trace (ordered L) t.0.before in let earlier =
            turns_then in omega (arith, less, turns, earlier));
        pinned = pinned_at m fits k is_key seen t.0.before t.0.since is_run t.0.pinned;
        stays = pin_not_left w (trace_in (after_in (ordered L) t.0.before) t.0.since) t.0.stands;
        gives = none_there (subst
            (λ (b : Bool). Gives (InSet (words_after L (trace_in (ordered L) t.0.before))) Has k b) (sym e.5)
            (subst (λ (x : Memory). Gives (InSet x) Has k (e.2 == k))
            (sym (run_words L fits true t.0.before)) t.0.gives));
        stored = tt;
      }
    where
      none_there : {turns : List Turn} → Gives (InSet (words_after m.view.layout turns)) Has k false → (v : ℕ)
          → IsInMap m.view.layout turns m.view.stores k v → ⊥
      none_there gives v in_map = gives (record {
        slot = in_map.slot;
        reached = in_map.reached;
        leaf = in_map.leaf;
        has_key = in_map.has_key;
      })

-- ---- it is later than an earlier moment at which the worker was not pinned

module _ (o m : PassView) (first_seen : HasSeen o.view) (first_fits : IsLayout o.view.layout)
    (unpinned : (epochs o).pin ≡ None) (same : IsSamePass o m) (past : HasSeenAllOf m o) (k : ℕ)
    (is_key : IsKey k) where
  pub fits_later : IsLayout m.view.layout
  fits_later = subst (λ (s : PassView). IsLayout s.view.layout) (sym same) first_fits

  abbrev earlier : List (ℕ × Event)
  earlier = events_of o.view.past

  abbrev more : List (ℕ × Event)
  more = events_of past.goes_on.more

  unpinned_then : (known_by m.view.layout m.view.number
      (part_of m.view.number (trace_in (ordered m.view.layout) earlier))).brief.pin ≡ None
  unpinned_then =
      subst (λ (s : PassView). (known_by s.view.layout s.view.number
      (part_of s.view.number (trace_in (ordered s.view.layout) earlier))).brief.pin ≡ None) (sym same)
      (subst (λ (l : List Entry). (known_by o.view.layout o.view.number l).brief.pin ≡ None)
      (sym (as_events o.view first_seen).is_part) unpinned)

  module _ (v : ℕ) (r : HasReadValue m k v) where
    grown : r.seen.run.events ≡ earlier ++ more
    grown = sym (ap events_of r.seen.run.are ∙ events_of_trace (ordered m.view.layout) r.seen.run.events)
        ∙ events_go_on m.view.past o.view.past past.goes_on

    abbrev at : ReadAt m [] r.seen.run.events k v r.slot
    at = read_in_run m fits_later k is_key v r

    pub later : length o.view.past < length
        (trace_in (ordered m.view.layout) (read_in_run m fits_later k is_key v r).before)
    later =
        let moment = moment_is_later m.view.layout
        (enough m.view.layout fits_later) m.view.number r.seen.run.worker earlier more
        (subst (λ (ts : List (ℕ × Event)). All (λ t. HasKey t.1) ts) grown r.seen.run.keys) unpinned_then at.before
        at.since (sym grown ∙ at.is_run) at.has_pin at.stands in
        let long = length_trace (ordered m.view.layout) at.before in
        let first = length-map o.view.past turn_of in
        omega (arith, moment, long, first)

-- ---- the moment of a value that was read, in its call

-- a moment of the map stays, by the same stores
pub mapped_later : (was : List Turn) (m q : PassView) → IsSamePass m q → Extends q.view.past m.view.past
    → (stores : List Stored) (k : ℕ) (answer : Option ℕ)
    → WasMapped m.view.layout was m.view.past stores m.view.number k answer
    → WasMapped q.view.layout was q.view.past stores q.view.number k answer
mapped_later was m q same more stores k answer so =
    subst (λ (s : PassView). WasMapped s.view.layout was q.view.past stores s.view.number k answer) (sym same) (record {
      so_far = so.so_far;
      rest = so.rest ++ more.more;
      are = more.is ∙ (ap (λ (l : List Turn). l ++ more.more) so.are ∙ append_assoc so.so_far so.rest more.more);
      later = so.later;
      pinned = so.pinned;
      gives = so.gives;
      stored = stored_longer answer m.view.layout so.so_far m.view.past q.view.past stores more so.stored;
    })

-- a step leaves it as it was
pub mapped_longer : (was : List Turn) (m q : PassView) (e : Event) (r : Reply) → TakesStep m q e r
    → (k : ℕ) (answer : Option ℕ) → WasMapped m.view.layout was m.view.past m.view.stores m.view.number k answer
    → WasMapped q.view.layout was q.view.past q.view.stores q.view.number k answer
mapped_longer was m q e r step k answer so =
    subst (λ (st : List Stored). WasMapped q.view.layout was q.view.past st q.view.number k answer) (sym step.stores)
    (mapped_later was m q (same_by_step m q e r step.step) (seen_by_turn m q e r step.past).goes_on m.view.stores k
    answer so)

module _ (o a m : PassView) (first_seen : HasSeen o.view) (first_fits : IsLayout o.view.layout)
    (unpinned : (epochs o).pin ≡ None) (pinning : Continues o a) (walked : GoesOn a m) (k : ℕ) (is_key : IsKey k) where
  same : IsSamePass o m
  same = same_then o a m pinning.same walked.same

  past : HasSeenAllOf m o
  past = seen_through o a m pinning.past walked.past

  abbrev fits : IsLayout m.view.layout
  fits = fits_later o m first_seen first_fits unpinned same past k is_key

  pub value_was : (v : ℕ) → HasReadValue m k v → WasMapped m.view.layout o.view.past m.view.past m.view.stores
      m.view.number k (Some v)
  value_was v r = record {
    so_far = trace_in (ordered m.view.layout) at.before;
    rest = trace_in (after_in (ordered m.view.layout) at.before) at.since;
    are = at.are;
    later = later o m first_seen first_fits unpinned same past k is_key v r;
    pinned = at.pinned;
    gives = at.in_map;
    stored = at.stored;
  }
    where
      at : ReadAt m [] r.seen.run.events k v r.slot
      at = read_in_run m fits k is_key v r

  -- what the call found was so
  pub was_mapped : (q : PassView) → TakesStep m q Leave Departed → HasSeen m.view → (n : ℕ) (answer : Option ℕ)
      → HasLookedUp n m k answer → WasMapped q.view.layout o.view.past q.view.past q.view.stores q.view.number k answer
  was_mapped q leaves seen n None e =
      none_of (was_so o a m q first_seen first_fits unpinned pinning walked seen leaves k false is_key
      (ended_in_all n m k false e))
    where
      none_of : WasSo o q k false → WasMapped q.view.layout o.view.past q.view.past q.view.stores q.view.number k None
      none_of so = record {
        so_far = so.so_far;
        rest = so.rest;
        are = so.are;
        later = so.later;
        pinned = so.pinned;
        gives = λ v in_map. so.gives (record {
          slot = in_map.slot;
          reached = in_map.reached;
          leaf = in_map.leaf;
          has_key = in_map.has_key;
        });
        stored = tt;
      }
  was_mapped q leaves seen n (Some v) r =
      mapped_longer o.view.past m q Leave Departed leaves k (Some v) (value_was v r.read)

-- ---- the whole call

-- each try of the pin was lost
pub get_without_pin : (L : Layout) (tries k : ℕ) (o a : PassView) → tries ≢ 0 → Continues o a
    → IsMoved Sight tries o.view.log a.view.log → IsResting a → KeepsHands o a → AfterGet L tries k o a (Err fault.Busy)
get_without_pin L tries k o a some pinning moved rests kept =
    let added = plain_moved_adds tries o.view.log a.view.log moved in
    record {
      same = pinning.same;
      past = pinning.past;
      stores = pinning.stores;
      did = tt;
      moment = tt;
      busy = refl;
      missed = pin_missed (GiveUp L (k ∷ [])) tries o.view.log a.view.log some moved;
      won = has_won _ _ added;
      steps = (let few = added.steps in omega (arith, few));
      uncut = cuts_none _ _ added;
      rests = rests;
      hands = kept;
    }

-- a pin, a walk and a leave
pub get_after_walk : (L : Layout) (tries k epoch : ℕ) (o a p q : PassView) (r : Result (Option ℕ) CallFault)
    → Continues o a → IsPinnedBy Sight tries o.view.log a.view.log epoch → KeepsHands o a
    → GoesOn a p → OnlyLooks a p → AddsLooks (most_looks (reach L) 1) a.view.log p.view.log
    → TakesStep p q Leave Departed → IsResting q → KeepsHands p q
    → IfOk r (WasMapped q.view.layout o.view.past q.view.past q.view.stores q.view.number k)
    → IfErr r (λ e. GiveUp L (k ∷ []) a.view.log p.view.log) → IfErr r (λ e. e ≡ fault.Busy)
    → AfterGet L tries k o q r
get_after_walk L tries k epoch o a p q r pinning pinned hands walked only looks leaves rests kept moment given_up busy =
    let did : LooksUnderPin tries (most_looks (reach L) 1) o.view.log q.view.log =
    record {
      pinned = a.view.log;
      epoch = epoch;
      pin = pinned;
      looked = p.view.log;
      looks = looks;
      leaves = ap
          (λ (s : PassView). s.view.log) leaves.step;
    } in
    let added = call_adds tries (most_looks (reach L) 1) o.view.log q.view.log did in
    record {
      same = same_then o p q (same_then o a p pinning.same walked.same) (same_by_step p q Leave Departed leaves.step);
      past = seen_through o p q (seen_through o a p pinning.past walked.past)
          (seen_by_turn p q Leave Departed leaves.past);
      stores = stores_through o.view.stores p.view.stores q.view.stores
          (stores_through o.view.stores a.view.stores p.view.stores pinning.stores walked.stores)
          (stores_same q.view.stores p.view.stores leaves.stores);
      did = any_ok r did;
      moment = moment;
      busy = busy;
      missed = IfErr-weaker r _ _ (λ e gives. walks_missed (GiveUp L (k ∷ [])) tries o.view.log a.view.log p.view.log
          q.view.log epoch pinned gives did.leaves) given_up;
      won = has_won _ _ added;
      steps = (let few = added.steps in omega (arith, few));
      uncut = cuts_none _ _ added;
      rests = rests;
      hands = kept_on o p q (kept_on o a p hands looks_keep) kept;
    }
  where
    any_ok : {P : Type 0} (x : Result (Option ℕ) CallFault) → P → IfOk x (λ found. P)
    any_ok (Ok found) did = did
    any_ok (Err e) did = tt

    looks_keep : KeepsHands a p
    looks_keep = record {
      private = only.private;
      labelled = λ was. ap (λ (b : Brief). b.unlabelled) only.epochs
          ∙ was;
      ledgers = λ was. only.ledgers;
    }
