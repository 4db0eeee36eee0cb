-- What follows of each closed tree: its queues are the rest of the cuts, each slot stands once, its
-- report is as a core tells, and its run is as every run.
use Rattle.std.proofs.Common.{◌≡◌, ℕ, zero, suc, ◌<◌, ◌≤◌, inl, inr, ◌==◌, Bool, true, not, List, [], ◌∷◌, ◌++◌, map, length, append-nil, refl, sym, ap, ◌∙◌, subst, arith, true≢false}
use Rattle.std.specs.Prelude.{◌↔◌, ◌-◌, Contains, Result, Ok, Err, Some, false, filter, flat_map, if◌then◌else◌, option_map, slice_get}
use Rattle.std.proofs.lemmas.Bool.{cases_lt, eqb-true}
use Rattle.std.proofs.lemmas.List.Concat.{length-flat_map}
use Rattle.std.proofs.lemmas.List.Sorted.{length_permutation}
use Rattle.std.proofs.lemmas.Option.{none-some, same_Some}
use Rattle.nm_edge.specs.declared.node.NodeId.{NodeId}
use Rattle.nm_edge.specs.Layouts.{Layout}
use Rattle.nm_model.specs.declared.reply.Reply.{Reply}
use Rattle.nm_model.specs.declared.reply.Refused.{Refused}
use Rattle.nm_model.specs.declared.trace.Turn.{Turn}
use Rattle.nm_model.specs.Headline.{StandsAt, Place, cuts_of, freed_by, has_after, is_among, nodes_cut_of, waits_of, freed_of, words_after}
use Rattle.nm_model.specs.Headline.Place.{InPool, InHands, OnPath as ByPath, Waits}
use Rattle.nm_order.specs.History.{RunHasHistory}
use Rattle.nm_model.specs.Acts.{InSet}
use Rattle.nm_order.specs.LoggedTotals.{TotalsAreInTheLogs}
use Rattle.nm_order.specs.Totals.{TotalsAgree}
use Rattle.nm_order.proofs.HistoryLaws.{each_run_has_a_history}
use Rattle.nm_order.proofs.TotalsOfRuns.{each_total_agrees}
use Rattle.nm_order.proofs.TotalsOfLogs.{totals_are_in_the_logs}
use Rattle.nm_model.specs.Memory.{Memory, infinity_0, opening}
use Rattle.nm_model.specs.Ordered.{ordered, after_in, trace_in}
use Rattle.nm_model.specs.Reports.{counts, keys, tree_slots}
use Rattle.nm_theorem.proofs.WrittenWords.{run_words}
use Rattle.nm_tree.specs.Ended.{IsEndOf, end_of}
use Rattle.nm_tree.proofs.Ends.{layout_is}
use Rattle.nm_epoch.specs.declared.collecting.Entry.{Entry}
use Rattle.nm_epoch.specs.declared.collecting.HeldQueue.{HeldQueue}
use Rattle.nm_steps.specs.Steps.{TreeView}
use Rattle.nm_tree.specs.Running.{AreOfWorkers}
use Rattle.nm_tree.specs.Workers.{WorkerView, waiting_in}
use Rattle.nm_tree.specs.Closing.{AllWereGiven, EachReportIsACores, EachSlotEndsOnce, EndPlace, EndsAt, EndsOnce, IsClosed, OfEachClosed, OfEachClosedRun, QueuesAreTheRest, SaysClosed}
use Rattle.nm_tree.specs.Closing.EndPlace.{Free, OnPath, Waiting}
use Rattle.nm_tree.proofs.Closed.{as_many_queues}
use Rattle.nm_tree.proofs.EndCounts.{counts_are}
use Rattle.nm_tree.proofs.EndLaws.{enough_nodes, keys_of}

-- ---- entries of a queue, and its nodes

-- an entry that waits, by the nodes of its queue
record WaitsHere (es : List Entry) (i x : ℕ) : Type 0 where
  entry : Entry
  is : slice_get es i ≡ Some entry
  slot : entry.node.slot ≡ x

entry_of : (es : List Entry) (i x : ℕ) → option_map (λ (n : NodeId). n.slot)
    (slice_get (map (λ (e : Entry). e.node) es) i) ≡ Some x → WaitsHere es i x
entry_of [] zero x at = absurd (none-some x at)
entry_of [] (suc i) x at = absurd (none-some x at)
entry_of (e ∷ es) zero x at = record { entry = e; is = refl; slot = same_Some e.node.slot x at }
entry_of (e ∷ es) (suc i) x at = let rest = entry_of es i x at in
    record { entry = rest.entry; is = rest.is; slot = rest.slot }

stands_of : (es : List Entry) (i x : ℕ) (e : Entry) → slice_get es i ≡ Some e → e.node.slot ≡ x
    → option_map (λ (n : NodeId). n.slot) (slice_get (map (λ (e : Entry). e.node) es) i) ≡ Some x
stands_of [] i x e is slot = absurd (none-some e is)
stands_of (y ∷ es) zero x e is slot = ap Some (ap (λ (z : Entry). z.node.slot) (same_Some y e is) ∙ slot)
stands_of (y ∷ es) (suc i) x e is slot = stands_of es i x e is slot

pub queue_at : (hs : List HeldQueue) (w : ℕ) → w < length hs → (h : HeldQueue) × (slice_get hs w ≡ Some h)
queue_at [] w below = absurd (omega (arith, below))
queue_at (h ∷ hs) zero below = (h, refl)
queue_at (h ∷ hs) (suc w) below = queue_at hs w (omega (arith, below))

-- ---- places of the page, and places at the end

forth : Place → EndPlace
forth InPool = Free
forth (InHands w) = Free
forth (ByPath path) = OnPath path
forth (Waits w i) = Waiting w i

back : EndPlace → Place
back Free = InPool
back (OnPath path) = ByPath path
back (Waiting w i) = Waits w i

there_and_back : (p : EndPlace) → forth (back p) ≡ p
unfolding forth back
there_and_back Free = refl
there_and_back (OnPath path) = refl
there_and_back (Waiting w i) = refl

-- by turns of the tree's workers nothing is cut by any other
cuts_nothing : (L : Layout) (w : ℕ) → L.workers ≤ w → (ts : List Turn) → AreOfWorkers L ts → cuts_of w ts ≡ []
cuts_nothing L w past [] staffed = refl
cuts_nothing L w past (t ∷ ts) staffed = ap (λ (ns : List NodeId).
    (if t.worker == w then nodes_cut_of t.outcome else []) ++ ns)
    (cuts_nothing L w past ts (λ u r there is. staffed u r
    (suc there.0, (let less = there.1 in omega (arith, less)), there.2) is))
    ∙ (append-nil _ ∙ own (t.worker == w) refl t.outcome refl)
  where
    own : (c : Bool) → (t.worker == w) ≡ c → (o : Result Reply Refused) → t.outcome ≡ o
        → (if c then nodes_cut_of o else []) ≡ []
    own false other o is = refl
    own true same (Err x) is = refl
    own true same (Ok r) is = absurd (let less = staffed t r (zero, omega arith, refl) is in
        let at = eqb-true t.worker w same in omega (arith, past, less, at))

module _ (b : TreeView) (ws : List WorkerView) (queues : List HeldQueue) (kept : List ℕ) (free reached : ℕ)
    (is : SaysClosed b ws queues kept free reached) where
  pub no_waits : (w : ℕ) → length queues ≤ w → waits_of w is.turns ≡ []
  no_waits w past = ap (λ (ns : List NodeId). filter (λ n. not (is_among (freed_by is.turns) n)) ns)
      (cuts_nothing b.layout w (let all = as_many_queues b.layout.workers queues is.each in omega (arith, all, past))
      is.turns is.headline.workers)

  ends : (x : ℕ) (p : Place) → StandsAt b.layout is.turns x p
      → EndsAt (words_after b.layout is.turns) queues x (forth p)
  unfolding forth
  ends x InPool st = st
  ends x (InHands w) st = absurd (true≢false (sym st ∙ is.headline.no_hands w x))
  ends x (ByPath path) st = st
  ends x (Waits w i) st = elim (cases_lt w (length queues)) [
    | inl below ↦ let q = queue_at queues w below in
        let e = entry_of q.0.queue.items i x (ap (λ (ns : List NodeId). option_map (λ (n : NodeId). n.slot)
        (slice_get ns i)) (is.headline.waiting w q.0 q.1) ∙ st) in
        (q.0, e.entry, q.1, e.is, e.slot)
    | inr past ↦ absurd (none_at i (sym (ap (λ (ns : List NodeId). option_map (λ (n : NodeId). n.slot)
        (slice_get ns i)) (no_waits w past)) ∙ st))
  ]
    where
      none_at : (i : ℕ) → option_map (λ (n : NodeId). n.slot) (slice_get [] i) ≡ Some x → ⊥
      none_at zero at = none-some x at
      none_at (suc i) at = none-some x at

  stands : (x : ℕ) (p : EndPlace) → EndsAt (words_after b.layout is.turns) queues x p
      → StandsAt b.layout is.turns x (back p)
  unfolding back
  stands x Free at = at
  stands x (OnPath path) at = at
  stands x (Waiting w i) (h, e, is_queue, is_entry, slot) =
      ap (λ (ns : List NodeId). option_map (λ (n : NodeId). n.slot) (slice_get ns i))
      (sym (is.headline.waiting w h is_queue)) ∙ stands_of h.queue.items i x e is_entry slot

  once : (x : ℕ) → 6 ≤ x → x ≤ b.layout.nodes → EndsOnce (words_after b.layout is.turns) queues x
  once x low high =
      let one = is.headline.headline.places is.turns [] (sym (append-nil is.turns)) x low high in
      record {
        place = forth one.place;
        here = ends x one.place one.here;
        only = λ other at. sym (there_and_back other) ∙ ap forth (one.only (back other) (stands x other at));
      }

pub each_slot_ends_once : OfEachClosed EachSlotEndsOnce
each_slot_ends_once b ws queues kept free reached is = once b ws queues kept free reached is

pub queues_are_the_rest : OfEachClosed QueuesAreTheRest
queues_are_the_rest b ws queues kept free reached is w h at =
    ap (λ (ns : List NodeId). freed_of w is.turns ++ ns) (is.headline.waiting w h at)
    ∙ (is.headline.headline.queues is.turns [] (sym (append-nil is.turns))).queues w

pub all_were_given : AllWereGiven
all_were_given b ws queues kept free reached is =
    sym (length-flat_map (λ (w : WorkerView). w.queues) ws)
    ∙ (sym (length_permutation (flat_map (λ (w : WorkerView). w.queues) ws) queues is.unchanged)
    ∙ as_many_queues b.layout.workers queues is.each)

-- ---- of its run

pub each_closed_run_has_a_history : OfEachClosedRun RunHasHistory
each_closed_run_has_a_history b ws queues kept free reached is = each_run_has_a_history b.layout
    (enough_nodes b.layout is.ends.fits) is.ends.turns is.ends.keys

pub each_closed_total_agrees : OfEachClosedRun TotalsAgree
each_closed_total_agrees b ws queues kept free reached is = each_total_agrees b.layout
    (enough_nodes b.layout is.ends.fits) is.ends.turns is.ends.keys

pub each_closed_log : OfEachClosedRun TotalsAreInTheLogs
each_closed_log b ws queues kept free reached is = totals_are_in_the_logs b.layout
    (enough_nodes b.layout is.ends.fits) is.ends.turns is.ends.keys

-- ---- what the report tells

module _ (b : TreeView) (ws : List WorkerView) (queues : List HeldQueue) (kept : List ℕ) (free reached : ℕ)
    (is : IsClosed b ws queues kept free reached) where
  abbrev the_end : IsEndOf b.layout is.words
  the_end = record { fits = is.ends.fits; turns = is.ends.turns; keys = is.ends.keys; words_are = is.ends.words_are }

  abbrev run_turns : List Turn
  run_turns = trace_in (ordered b.layout) is.ends.turns

  -- the words that the turns have written are those at the run's end
  now : words_after b.layout is.says.turns ≡ (end_of b.layout is.words the_end).memory
  now = ap (words_after b.layout) is.same_turns ∙ run_words b.layout is.ends.fits true is.ends.turns

  set : (k : ℕ) → Contains kept k ↔ InSet (end_of b.layout is.words the_end).memory k × (k < infinity_0)
  set k = subst (λ (m : Memory). Contains kept k ↔ InSet m k × (k < infinity_0)) now (is.says.headline.set k)

  no_hands : (w x : ℕ) → has_after (opening b.layout) w x false run_turns ≡ false
  no_hands w x = ap (has_after (opening b.layout) w x false) (sym is.same_turns) ∙ is.says.headline.no_hands w x

  waiting : (w : ℕ) (h : HeldQueue) → slice_get queues w ≡ Some h
      → map (λ (e : Entry). e.node) h.queue.items ≡ waits_of w run_turns
  waiting w h at = is.says.headline.waiting w h at ∙ ap (waits_of w) is.same_turns

  pool : free ≡ (counts (end_of b.layout is.words the_end)).pool
  pool = is.says.free_are ∙ ap (λ (m : Memory). length (filter (λ mark. mark) m.pool)) now

  tree : reached ≡ (counts (end_of b.layout is.words the_end)).reached
  tree = is.says.reached_are ∙ (ap (λ (m : Memory). length (tree_slots b.layout.nodes m 1) - 5) now
      ∙ ap (λ (n : ℕ). length (tree_slots n (end_of b.layout is.words the_end).memory 1) - 5)
      (sym (ap (λ (l : Layout). l.nodes) (layout_is b.layout is.words the_end))))

  as_a_core : (kept ≡ keys (after_in (ordered b.layout) is.ends.turns).state)
      × (counts (after_in (ordered b.layout) is.ends.turns).state
      ≡ record { pool = free; private = 0; reached = reached; queued = waiting_in queues })
  as_a_core = (
    keys_of b.layout is.ends.fits is.ends.turns is.ends.keys kept set is.says.ascend,
    counts_are b.layout
        is.words the_end queues (as_many_queues b.layout.workers queues is.says.each) no_hands waiting free reached pool
        tree,
  )

pub each_report_is_a_cores : EachReportIsACores
each_report_is_a_cores b ws queues kept free reached is = as_a_core b ws queues kept free reached is
