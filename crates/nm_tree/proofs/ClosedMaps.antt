-- What the end of a map leaves of its values.
use Rattle.std.proofs.Common.{◌≡◌, ℕ, zero, suc, ◌+◌, ◌-◌, ◌<◌, ◌≤◌, ◌==◌, inl, inr, Bool, true, false, List, [], ◌∷◌, ◌++◌, append-nil, length, map, refl, sym, ap, subst, ◌∙◌, arith, true≢false}
use Rattle.std.specs.Prelude.{All, AllPairs, Contains, Some, ◌/◌, nat_lt, slice_get, slice_index}
use Rattle.std.proofs.lemmas.Bool.{cases_lt, eq-eqb, le-ltb, lt-ltb, ne_eqb}
use Rattle.std.proofs.lemmas.List.{length-append, length-map, map-append, nil_from_length}
use Rattle.std.proofs.lemmas.List.Elements.{All-cons, All-nil, Contains-append_right}
use Rattle.std.proofs.lemmas.Option.{none-some, same_Some, slice_get-get_or}
use Rattle.nm_edge.specs.Layouts.{Layout, IsLayout}
use Rattle.nm_edge.specs.Edges.{Edge}
use Rattle.nm_edge.specs.Words.{IsSlot, at_edge, word, words as all_words}
use Rattle.nm_edge.specs.declared.edge.Side.TheVariants.{Left}
use Rattle.nm_edge.specs.declared.node.NodeId.{NodeId}
use Rattle.nm_model.specs.declared.event.Event.{Event}
use Rattle.nm_model.specs.declared.ledger.Queued.{Queued}
use Rattle.nm_model.specs.declared.trace.Turn.{Turn}
use Rattle.nm_model.specs.Headline.{has_after, waits_of, words_after}
use Rattle.nm_model.specs.Knowledge.{Knowledge}
use Rattle.nm_model.specs.Ledgers.{held}
use Rattle.nm_model.specs.Memory.{Memory, child, is_leaf, node, opening}
use Rattle.nm_model.specs.Ordered.{HasKey, after_in, ordered, trace_in}
use Rattle.nm_model.specs.Reports.{counts, keys}
use Rattle.nm_order.specs.Hands.{IsPooled}
use Rattle.nm_order.proofs.PinNumbers.{length_trace}
use Rattle.nm_theorem.proofs.Hands.{run_hands}
use Rattle.nm_theorem.proofs.WrittenWords.{run_words}
use Rattle.nm_steps.specs.declared.view.Stored.{Stored}
use Rattle.nm_steps.specs.Packing.{words_of}
use Rattle.nm_steps.specs.Rules.{ComesBefore, Extends, ExtendsStores, LinksHaveValues, WereHeld, knowledge, value_of}
use Rattle.nm_steps.specs.Steps.{EndedWords, HasSeen, IsInRun, TreeView}
use Rattle.nm_steps.specs.Values.{EndsWithValues}
use Rattle.nm_steps.proofs.AfterSteps.{apart_in_run}
use Rattle.nm_steps.proofs.Growing.{goes_on_itself}
use Rattle.nm_steps.proofs.ValueStays.{NobodyHolds, value_stays}
use Rattle.nm_epoch.specs.declared.collecting.Entry.{Entry}
use Rattle.nm_epoch.specs.declared.collecting.HeldQueue.{HeldQueue}
use Rattle.nm_epoch.specs.Collecting.{AreHeld, IsQueueOf, queued}
use Rattle.nm_epoch.proofs.Fronts.{shown_queue}
use Rattle.nm_calls.specs.HandedBack.{WasCutWith}
use Rattle.nm_calls.specs.Maps.{HoldsStores, IsInMap, LinkedLeavesHaveValues, SwappedLeavesHaveValues, WasInHands, value_at}
use Rattle.nm_calls.proofs.HandedBack.{CutBy, cut_by, kind_at_end, kind_by_left, waiting_passes, waits_with_its_value}
use Rattle.nm_calls.proofs.MoreStores.{same_by_more}
use Rattle.nm_calls.proofs.StoresInTurns.{linked_leaves, swapped_leaves, were_in_hands}
use Rattle.nm_tree.specs.declared.closing.Ended.{Ended}
use Rattle.nm_tree.specs.declared.closing.Report.{Report}
use Rattle.nm_tree.specs.declared.map_closing.MapReport.{MapReport}
use Rattle.nm_tree.specs.Closing.{AreFrom, IsClosed, StandsForAll, all_merged, given_in}
use Rattle.nm_tree.specs.Ended.{IsEndOf, end_of}
use Rattle.nm_tree.specs.MapReports.{AreLeavesOf, EndsMap, IsLeafOf, SaysMapClosed, Waits, bare_in, is_bare_in, value_in}
use Rattle.nm_tree.specs.Workers.{IsWorker, WorkerView}
use Rattle.nm_tree.proofs.BareSlots.{bare_there}
use Rattle.nm_tree.proofs.Closed.{GoesOnFromAll, StoresGoOnFromAll, closed, in_order, stores_from_earlier, turns_are}
use Rattle.nm_tree.proofs.EndWorkers.{are as logs_shown}
use Rattle.nm_tree.proofs.Ends.{edge_told}

-- ---- lists

-- what holds of each entry holds of all
all_entries : (P : Entry → Type 0) (items : List Entry)
    → ((early later : List Entry) (e : Entry) → items ≡ early ++ e ∷ later → P e) → All P items
all_entries P [] each = All-nil P
all_entries P (e ∷ es) each = All-cons P e es (each [] es e refl)
    (all_entries P es (λ early later x is. each (e ∷ early) later x (ap (λ (l : List Entry). e ∷ l) is)))

all_waiting : (P : Entry → Type 0) (hs : List HeldQueue)
    → ((u : ℕ) (h : HeldQueue) → slice_get hs u ≡ Some h → All P h.queue.items)
    → All (λ (h : HeldQueue). All P h.queue.items) hs
all_waiting P [] each = All-nil (λ (h : HeldQueue). All P h.queue.items)
all_waiting P (h ∷ hs) each = All-cons (λ (g : HeldQueue). All P g.queue.items) h hs (each 0 h refl)
    (all_waiting P hs (λ u g at. each (suc u) g at))

-- a number is below 4 if its fourth is 0
below_four : (n : ℕ) → nat_lt n 4 ≡ (n / 4 == 0)
below_four n = elim (cases_lt n 4) [
  | inl less ↦ lt-ltb n 4 less ∙ sym (eq-eqb (n / 4) 0 (omega (arith, less)))
  | inr more ↦ le-ltb n 4 more ∙ sym (ne_eqb (n / 4) 0 (λ e. omega (arith, more, e)))
]

held_there : (k : Knowledge) (hs : List HeldQueue) (u : ℕ) (h : HeldQueue) → AreHeld k hs → slice_get hs u ≡ Some h
    → IsQueueOf k h.origin h.queue.items
held_there k [] u h are at = absurd (none-some h at)
held_there k (g ∷ hs) zero h are at = subst (λ (x : HeldQueue). IsQueueOf k x.origin x.queue.items)
    (same_Some g h at) are.0
held_there k (g ∷ hs) (suc u) h are at = held_there k hs u h are.2 at

-- the entry after these
get_after : (xs : List Entry) (e : Entry) (ys : List Entry)
    → slice_get (map queued (xs ++ e ∷ ys)) (length xs) ≡ Some (queued e)
get_after [] e ys = refl
get_after (x ∷ xs) e ys = get_after xs e ys

leaves_within : (L : Layout) (m : Memory) (n : ℕ) (ks xs : List ℕ) → n ≡ L.nodes → AreLeavesOf L m ks xs
    → All (λ (x : ℕ). (1 ≤ x) × (x ≤ n)) xs
leaves_within L m n [] [] long are = All-nil (λ (x : ℕ). (1 ≤ x) × (x ≤ n))
leaves_within L m n [] (x ∷ xs) long are = absurd are
leaves_within L m n (k ∷ ks) [] long are = absurd are
leaves_within L m n (k ∷ ks) (x ∷ xs) long are =
    let low = are.0.slot.0 in
    let high = are.0.slot.1 in
    All-cons (λ (y : ℕ). (1 ≤ y) × (y ≤ n)) x xs (omega (arith, low), omega (arith, high, long))
    (leaves_within L m n ks xs long are.1)

none_at : (i k : ℕ) → slice_get [] i ≡ Some k → ⊥
none_at i k at = cc

as_many_leaves : (L : Layout) (m : Memory) (ks xs : List ℕ) → AreLeavesOf L m ks xs → length xs ≡ length ks
as_many_leaves L m [] [] are = refl
as_many_leaves L m [] (x ∷ xs) are = absurd are
as_many_leaves L m (k ∷ ks) [] are = absurd are
as_many_leaves L m (k ∷ ks) (x ∷ xs) are = ap suc (as_many_leaves L m ks xs are.1)

-- ---- the stores at the end of a run, at which nobody has a slot in hands

module _ (L : Layout) (fits : IsLayout L) (events : List (ℕ × Event)) (all_keys : All (λ t. HasKey t.1) events)
    (stores : List Stored) (were : WereHeld L events stores) (linked : LinksHaveValues L events stores)
    (order : AllPairs ComesBefore stores) (slots core : List ℕ) (long : length slots ≡ L.nodes)
    (core_is : core ≡ words_of L (after_in (ordered L) events).state.memory)
    (each : (i : ℕ) → i < L.nodes → slice_index slots i ≡ value_of stores (i + 1))
    (no_hands : (u x : ℕ) → has_after (opening L) u x false (trace_in (ordered L) events) ≡ false) where
  abbrev turns : List Turn
  turns = trace_in (ordered L) events

  pub all_stores : (was : List Turn) → Extends turns was → HoldsStores L was turns stores
  all_stores was from = record {
    until = turns;
    from = from;
    ends = goes_on_itself turns;
    held = were_in_hands L fits events stores were;
    linked = linked_leaves L fits events all_keys stores linked;
    swapped = swapped_leaves L events all_keys stores linked;
    order = order;
  }

  value_is : (x : ℕ) → IsSlot L x → value_in slots x ≡ value_of stores x
  value_is x is =
      let low = is.0 in
      let high = is.1 in
      let back : (x - 1) + 1 ≡ x = omega (arith, low) in
      each (x - 1) (omega (arith, low, high)) ∙ ap (value_of stores) back

  nobody : (x : ℕ) → NobodyHolds L events (length turns) x
  nobody x before since is le v = sym (run_hands v x L fits true before)
      ∙ (ap (λ (es : List (ℕ × Event)). has_after (opening L) v x false (trace_in (ordered L) es)) all ∙ no_hands v x)
    where
      none' : since ≡ []
      none' =
          let long = length_trace (ordered L) events in
          let size : length events ≡ length (before ++ since) = ap (λ (es : List (ℕ × Event)). length es) is in
          let sum = length-append before since in
          nil_from_length since (omega (arith, long, size, sum, le))

      all : before ≡ events
      all = sym (is ∙ (ap (λ (es : List (ℕ × Event)). before ++ es) none' ∙ append-nil before))

  -- a reached leaf is in the map with its value
  in_map : (k x : ℕ) → IsLeafOf L (words_after L turns) k x → IsInMap L turns stores k (value_in slots x)
  in_map k x l = record {
    slot = x;
    reached = l.reached;
    leaf = l.leaf;
    has_key = l.has_key;
    has_value = value_stays L events stores (length turns) x were (nobody x) ∙ sym (value_is x l.slot);
  }

  pub each_in_map : (ks xs : List ℕ) → AreLeavesOf L (words_after L turns) ks xs → (i k v : ℕ)
      → slice_get ks i ≡ Some k → slice_get (map (value_in slots) xs) i ≡ Some v → IsInMap L turns stores k v
  each_in_map [] xs are i k v at there = absurd (none_at i k at)
  each_in_map (k' ∷ ks) [] are i k v at there = absurd are
  each_in_map (k' ∷ ks) (x ∷ xs) are zero k v at there =
      subst (λ (j : ℕ). IsInMap L turns stores j v) (same_Some k' k at)
      (subst (IsInMap L turns stores k') (same_Some (value_in slots x) v there) (in_map k' x are.0))
  each_in_map (k' ∷ ks) (x ∷ xs) are (suc i) k v at there = each_in_map ks xs are.1 i k v at there

  -- a bare slot is one whose left edge leads to no node
  bare_is : (x : ℕ) → IsSlot L x → is_bare_in L core x ≡ (child (after_in (ordered L) events).state.memory x Left == 0)
  bare_is x is =
      let e : IsEndOf L core = record { fits = fits; turns = events; keys = all_keys; words_are = core_is } in
      below_four (slice_index core (word L (at_edge x Left)))
      ∙ ap (λ (y : Edge). y.slot == 0) (edge_told L core e x Left is)

  -- a node that was cut off with its value waits with it
  waits_as_leaf : (e : Entry) (v : ℕ) → IsPooled L e.node.slot → is_bare_in L core e.node.slot ≡ true
      → value_of stores e.node.slot ≡ v → WasCutWith L turns stores e.node v
      → Waits L turns stores slots (bare_in L core) e
  waits_as_leaf e v pooled bare is w =
      let low = pooled.0 in
      let high = pooled.1 in
      let x : ℕ = e.node.slot in
      let all : HoldsStores L turns turns stores = all_stores turns (goes_on_itself turns) in
      let more : value_at (length w.before) stores x ≡ value_at (length w.before) w.first x = same_by_more L fits
      events all_keys w.before (w.cut ∷ w.since) w.are x w.reached w.leaf (inl w.high) w.first stores w.stored
      w.extends turns all in
      record {
        before = w.before;
        cut = w.cut;
        since = w.since;
        are = w.are;
        cuts = w.cuts;
        slot = pooled;
        leaf = bare_there L core x (omega (arith, low)) high ∙ ap Some (bare ∙ sym w.leaf);
        value = λ yes'. slice_get-get_or slots (x - 1) 0 (omega (arith, low, high, long))
            ∙ ap Some (value_is x (omega (arith, low), omega (arith, high)) ∙ (is ∙ sym (more ∙ w.has_value)));
      }

  pub waits : (u : ℕ) (items early later : List Entry) (e : Entry)
      → map (λ (n : Entry). n.node) items ≡ waits_of u turns → items ≡ early ++ e ∷ later → IsPooled L e.node.slot
      → Waits L turns stores slots (bare_in L core) e
  waits u items early later e waiting are pooled = by (is_bare_in L core e.node.slot) refl
    where
      there : Contains (waits_of u turns) e.node
      there =
          subst (λ (ns : List NodeId). Contains ns e.node)
          (sym (map-append (λ (n : Entry). n.node) early (e ∷ later))
          ∙ (ap (map (λ (n : Entry). n.node)) (sym are) ∙ waiting))
          (Contains-append_right (map (λ (n : Entry). n.node) early)
          (e.node ∷ map (λ (n : Entry). n.node) later) e.node (0, omega arith, refl))

      c : CutBy u turns e.node
      c = cut_by u turns e.node (waiting_passes u turns e.node there).0

      kind : is_bare_in L core e.node.slot ≡ is_leaf (node (words_after L c.before) e.node.slot)
      kind =
          let low = pooled.0 in
          let high = pooled.1 in
          bare_is e.node.slot (omega (arith, low), omega (arith, high))
          ∙ (kind_by_left L fits events all_keys u e.node c there pooled
          ∙ kind_at_end L fits events all_keys u e.node c there pooled)

      by : (b : Bool) → is_bare_in L core e.node.slot ≡ b → Waits L turns stores slots (bare_in L core) e
      by true bare = waits_as_leaf e (value_of stores e.node.slot) pooled bare refl
          (waits_with_its_value L fits events all_keys u e.node c there pooled (sym kind ∙ bare) stores were all_stores)
      by false not_bare = record {
        before = c.before;
        cut = c.cut;
        since = c.since;
        are = c.are;
        cuts = c.there;
        slot = pooled;
        leaf = (let low = pooled.0 in bare_there L core e.node.slot (omega (arith, low)) pooled.1) ∙ ap Some kind;
        value = λ yes'. absurd (true≢false (sym yes' ∙ (sym kind ∙ not_bare)));
      }

-- ---- the whole

-- the values of a map that is closed after these turns, as `SaysMapClosed` has them
record LeavesValues (L : Layout) (ws : List WorkerView) (turns : List Turn) (queues : List HeldQueue)
    (kept keyed slots : List ℕ) (bare : List Bool) (stores : List Stored) : Type 0 where
  go_on : All (λ (w : WorkerView). ExtendsStores stores w.pass.view.stores) ws
  held : All (WasInHands L turns) stores
  linked : LinkedLeavesHaveValues L turns stores
  swapped : SwappedLeavesHaveValues turns stores
  each : (i k v : ℕ) → slice_get kept i ≡ Some k → slice_get keyed i ≡ Some v → IsInMap L turns stores k v
  waiting : All (λ h. All (Waits L turns stores slots bare) h.queue.items) queues

module _ (b : TreeView) (w : WorkerView) (home : ℕ) (ws : List WorkerView) (kept leaves : List ℕ) (free reached : ℕ)
    (left : EndedWords) (is : IsWorker w home)
    (view : StandsForAll ws w.pass.view) (seen : GoesOnFromAll w.pass.view.past ws)
    (stores_seen : StoresGoOnFromAll w.pass.view.stores ws) (queues : w.queues ≡ all_merged ws)
    (enough : b.layout.workers ≤ given_in ws)
    (of_runs : All (λ (u : WorkerView). HasSeen u.pass.view) ws) (v : EndsWithValues b.layout left w.pass.view)
    (run : IsInRun w.pass) (keys_are : (e' : IsEndOf b.layout left.core) → kept ≡ keys (end_of b.layout left.core e'))
    (free_are : (e' : IsEndOf b.layout left.core) → free ≡ (counts (end_of b.layout left.core e')).pool)
    (reached_are : (e' : IsEndOf b.layout left.core) → reached ≡ (counts (end_of b.layout left.core e')).reached)
    (leaves_are : (e' : IsEndOf b.layout left.core)
    → AreLeavesOf b.layout (end_of b.layout left.core e').memory kept leaves) (layout : Layout)
    (same_layout_as : layout ≡ b.layout)
    (laid : length left.core ≡ all_words b.layout) where
  abbrev L : Layout
  L = b.layout

  abbrev T : List Turn
  T = trace_in (ordered L) v.ends.turns

  c : IsClosed b ws w.queues kept free reached
  c = closed b w home ws kept free reached left.core is view seen queues enough of_runs v.ends run keys_are free_are
      reached_are

  same : c.says.turns ≡ T
  unfolding c
  same = turns_are b w home ws kept free reached left.core is view seen queues enough of_runs v.ends run keys_are
      free_are reached_are

  the_end : IsEndOf L left.core
  the_end = record { fits = v.ends.fits; turns = v.ends.turns; keys = v.ends.keys; words_are = v.ends.words_are }

  no_hands : (u x : ℕ) → has_after (opening L) u x false T ≡ false
  no_hands u x = ap (has_after (opening L) u x false) (sym same) ∙ c.says.headline.no_hands u x

  waiting : (u : ℕ) (h : HeldQueue) → slice_get w.queues u ≡ Some h
      → map (λ (n : Entry). n.node) h.queue.items ≡ waits_of u T
  waiting u h at = c.says.headline.waiting u h at ∙ ap (waits_of u) same

  leaves_now : AreLeavesOf L (words_after L T) kept leaves
  unfolding the_end
  leaves_now = subst (λ (m : Memory). AreLeavesOf L m kept leaves) (sym (run_words L v.ends.fits true v.ends.turns))
      (leaves_are the_end)

  same_layout : w.pass.view.layout ≡ L
  unfolding the_end
  same_layout = (logs_shown L left.core the_end w home is v.ends.shown all_there.0 all_there.1).0
    where
      all_there : AreFrom 0 w.queues × (length w.queues ≡ b.layout.workers)
      all_there = in_order b w home ws kept free reached left.core is view seen queues enough of_runs v.ends run
          keys_are free_are reached_are

  pooled : (u : ℕ) (h : HeldQueue) (early later : List Entry) (e : Entry) → slice_get w.queues u ≡ Some h
      → h.queue.items ≡ early ++ e ∷ later → IsPooled L e.node.slot
  pooled u h early later e at are =
      subst (λ (l : Layout). IsPooled l e.node.slot) same_layout
      ((apart_in_run w.pass run).waiting h.origin (length early) (queued e)
      (ap (λ (q : List Queued). slice_get q (length early))
      (shown_queue (held (knowledge w.pass.view).ledgers h.origin) (map queued h.queue.items)
      (held_there (knowledge w.pass.view) w.queues u h is.between.queues at)
      ∙ ap (λ (l : List Entry). map queued l) are) ∙ get_after early e later))

  abbrev keyed : List ℕ
  keyed = map (value_in left.values) leaves

  values : LeavesValues L ws T w.queues kept keyed left.values (bare_in L left.core) v.stores
  values = record {
    go_on = stores_from_earlier v.stores w.pass.view.stores ws v.extends stores_seen;
    held = were_in_hands L v.ends.fits v.ends.turns v.stores v.held;
    linked = linked_leaves L v.ends.fits v.ends.turns v.ends.keys v.stores v.linked;
    swapped = swapped_leaves L v.ends.turns v.ends.keys v.stores v.linked;
    each = each_in_map L v.ends.fits v.ends.turns v.ends.keys v.stores v.held v.linked v.order left.values left.core
        v.long v.ends.words_are v.are no_hands kept leaves leaves_now;
    waiting = all_waiting (Waits L T v.stores left.values (bare_in L left.core)) w.queues
        (λ u h at. all_entries (Waits L T v.stores left.values (bare_in L left.core)) h.queue.items
        (λ early later e are.
        waits L v.ends.fits v.ends.turns v.ends.keys v.stores v.held v.linked v.order left.values left.core
        v.long v.ends.words_are v.are no_hands u h.queue.items early later e (waiting u h at) are
        (pooled u h early later e at are)));
  }

  says_closed : SaysMapClosed b ws w.queues kept keyed left.values (bare_in L left.core) free reached
  says_closed =
      let now = subst (λ (ts : List Turn). LeavesValues L ws ts w.queues kept keyed left.values (bare_in L left.core)
      v.stores) (sym same) values in
      record {
        says = c.says;
        stores = v.stores;
        go_on = now.go_on;
        held = now.held;
        linked = now.linked;
        swapped = now.swapped;
        order = v.order;
        long = v.long;
        as_many = length-map leaves (value_in left.values) ∙ as_many_leaves L (words_after L T) kept leaves leaves_now;
        each = now.each;
        waiting = now.waiting;
      }

  pub ends_map : EndsMap b ws w.queues kept leaves left layout free reached
  ends_map = subst (λ (l : Layout). EndsMap b ws w.queues kept leaves left l free reached) (sym same_layout_as)
      (record {
        all = sym v.long;
        laid = laid;
        within = leaves_within L (words_after L T) (length left.values) kept leaves v.long leaves_now;
        closed = says_closed;
      })

-- ---- the report of a map

-- the report that is made of what the end of a map has left
module _ (b : TreeView) (ws : List WorkerView) (e : Ended) (r : MapReport) (report : r.report ≡ e.report)
    (keyed : r.values.keyed ≡ map (value_in e.words.values) e.leaves.items) (slots : r.values.slots ≡ e.words.values)
    (bare : r.values.bare ≡ bare_in e.layout e.words.core) where
  pub map_said : EndsMap b ws e.report.queues.items e.report.keys.items e.leaves.items e.words e.layout e.report.free
      e.report.reached
      → SaysMapClosed b ws r.report.queues.items r.report.keys.items r.values.keyed r.values.slots
      r.values.bare r.report.free r.report.reached
  map_said ends =
      let P : Report → Type 0 = λ x. SaysMapClosed b ws x.queues.items x.keys.items r.values.keyed r.values.slots
      r.values.bare x.free x.reached in
      let Q : List ℕ → Type 0 = λ vs. SaysMapClosed b ws e.report.queues.items e.report.keys.items vs r.values.slots
      r.values.bare e.report.free e.report.reached in
      let R : List ℕ → Type 0 = λ vs. SaysMapClosed b ws e.report.queues.items e.report.keys.items
      (map (value_in e.words.values) e.leaves.items) vs r.values.bare e.report.free e.report.reached in
      let S : List Bool → Type 0 = λ f. SaysMapClosed b ws e.report.queues.items e.report.keys.items
      (map (value_in e.words.values) e.leaves.items) e.words.values f e.report.free e.report.reached in
      subst P (sym report) (subst Q (sym keyed) (subst R (sym slots)
      (subst S (sym bare) ends.closed)))
