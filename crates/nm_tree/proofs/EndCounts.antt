-- The counts at a tree's end, by its turns and its report: nothing is private, what waits is in the
-- queues, and all slots are told.
use Rattle.std.proofs.Common.{◌≡◌, ◌≢◌, ℕ, zero, suc, ◌+◌, ◌-◌, ◌<◌, true, false, List, [], ◌∷◌, map, length, refl, sym, ap, ◌∙◌, arith, true≢false}
use Rattle.std.specs.Prelude.{Option, Some, None, is_some, slice_get, slice_index_or}
use Rattle.std.proofs.lemmas.List.{length-map}
use Rattle.std.proofs.lemmas.List.Sums.{sum_by-cons}
use Rattle.std.proofs.lemmas.Option.{none-some, same_Some, get_or_from_slice_get, slice_get-get_or}
use Rattle.nm_edge.specs.Layouts.{Layout}
use Rattle.nm_edge.specs.declared.node.NodeId.{NodeId}
use Rattle.nm_model.specs.declared.ledger.Ledger.{Ledger}
use Rattle.nm_model.specs.declared.trace.Turn.{Turn}
use Rattle.nm_model.specs.Headline.{waits_of, has_after}
use Rattle.nm_model.specs.Knowledge.{Knowledge, newcomer, is_private}
use Rattle.nm_model.specs.Laws.{node_in}
use Rattle.nm_model.specs.Lawful.{CountsAddUp}
use Rattle.nm_model.specs.Ledgers.{held, queue_of}
use Rattle.nm_model.specs.Maps.{get}
use Rattle.nm_model.specs.Memory.{opening}
use Rattle.nm_model.specs.Ordered.{ordered, trace_in}
use Rattle.nm_model.specs.Reports.{counts, in_queues}
use Rattle.nm_model.specs.Runs.{State, of}
use Rattle.nm_model.proofs.Counting.{sum_is_weight, total, total_same, total_weight, weight, weight_none, weight_same}
use Rattle.nm_laws.proofs.Counts.{each_state_adds_up}
use Rattle.nm_laws.proofs.Lawful.{IsLawful, lawful}
use Rattle.nm_theorem.proofs.FreedOfRuns.{waits_is}
use Rattle.nm_theorem.proofs.Hands.{run_hands}
use Rattle.nm_tree.specs.Ended.{IsEndOf, end_of}
use Rattle.nm_tree.proofs.Ends.{holds, layout_is}
use Rattle.nm_epoch.specs.declared.collecting.Entry.{Entry}
use Rattle.nm_epoch.specs.declared.collecting.HeldQueue.{HeldQueue}
use Rattle.nm_tree.specs.Workers.{waiting_in}
use Rattle.nm_tree.proofs.United.{no_drafts}

-- ---- lists

-- of a list of which all else weighs nothing
weight_only : {X : Type 0} (g : X → ℕ) (xs : List X) (u : ℕ) (y : X) → slice_get xs u ≡ Some y
    → ((v : ℕ) (z : X) → slice_get xs v ≡ Some z → v ≢ u → g z ≡ 0) → weight g xs ≡ g y
weight_only g [] u y at none' = absurd (none-some y at)
weight_only g (x ∷ xs) zero y at none' =
    let a : g x ≡ g y = ap g (same_Some x y at) in
    let b = weight_none g xs (λ v z is. none' (suc v) z is (λ e. absurd (omega arith))) in omega (arith, a, b)
weight_only g (x ∷ xs) (suc u) y at none' =
    let a = none' 0 x refl (λ e. absurd (omega arith)) in
    let b = weight_only g xs u y at (λ v z is ne. none' (suc v) z is (λ e. ne (omega (arith, e)))) in
    omega (arith, a, b)

-- a list's weight, place by place
by_places : {X : Type 0} (f : X → ℕ) (d : X) (xs : List X)
    → weight f xs ≡ total (length xs) (λ i. f (slice_index_or xs i d))
by_places f d [] = refl
by_places f d (x ∷ xs) = ap (λ (n : ℕ). f x + n) (by_places f d xs)

none_of : {X : Type 0} (o : Option X) → is_some o ≡ false → o ≡ None
none_of None is = refl
none_of (Some x) is = absurd (true≢false is)

-- all that waits, worker by worker
waiting_by : (hs : List HeldQueue) (f : ℕ → ℕ) → ((o : ℕ) (h : HeldQueue) → slice_get hs o ≡ Some h
    → length h.queue.items ≡ f o) → waiting_in hs ≡ total (length hs) f
waiting_by [] f each = refl
waiting_by (h ∷ hs) f each =
    let first = each 0 h refl in
    let rest = waiting_by hs (λ o. f (suc o)) (λ o g at. each (suc o) g at) in
    let sum = sum_by-cons (λ (x : HeldQueue). length x.queue.items) h hs in
    omega (arith, first, rest, sum)

-- ---- the end

module _ (L : Layout) (words : List ℕ) (e : IsEndOf L words) (queues : List HeldQueue) (all : length queues ≡ L.workers)
    (no_hands : (w x : ℕ) → has_after (opening L) w x false (trace_in (ordered L) e.turns) ≡ false)
    (waiting : (w : ℕ) (h : HeldQueue) → slice_get queues w ≡ Some h
    → map (λ (n : Entry). n.node) h.queue.items ≡ waits_of w (trace_in (ordered L) e.turns)) where
  abbrev s : State
  s = end_of L words e

  abbrev turns : List Turn
  turns = trace_in (ordered L) e.turns

  m : IsLawful s
  m = holds L words e IsLawful lawful

  workers : s.layout.workers ≡ L.workers
  workers = ap (λ (l : Layout). l.workers) (layout_is L words e)

  worker_at : (u : ℕ) (k : Knowledge) → slice_get s.workers u ≡ Some k → of s u ≡ k
  worker_at u k at = get_or_from_slice_get s.workers u k (newcomer s.layout u) at

  none_private : (counts s).private ≡ 0
  none_private = sum_is_weight (λ (k : Knowledge). length k.drafts) s.workers
      ∙ weight_none (λ (k : Knowledge). length k.drafts) s.workers
      (λ u k at. no_drafts k.drafts (λ x. none_of (get k.drafts x)
      (ap (λ (y : Knowledge). is_private y x) (sym (worker_at u k at))
      ∙ (sym (run_hands u x L e.fits true e.turns) ∙ no_hands u x))))

  -- how many wait of an origin in the queue that a worker holds of it
  abbrev waits : Knowledge → ℕ → ℕ
  waits k o = length (queue_of (held k.ledgers o))

  by_origin : (u : ℕ) (k : Knowledge) → slice_get s.workers u ≡ Some k → in_queues k.ledgers ≡ total L.workers (waits k)
  by_origin u k at =
      let long : length k.ledgers ≡ L.workers = ap (λ (y : Knowledge). length y.ledgers) (sym (worker_at u k at))
      ∙ (m.law.holders.sizes u ∙ workers) in
      sum_is_weight (λ (l : Option Ledger). length (queue_of l)) k.ledgers
      ∙ (by_places (λ (l : Option Ledger). length (queue_of l)) None k.ledgers ∙ ap (λ (n : ℕ). total n (waits k)) long)

  -- just its holder has them, and they are what waits of the cuts
  of_origin : (o : ℕ) → o < L.workers → weight (λ (k : Knowledge). waits k o) s.workers ≡ length (waits_of o turns)
  of_origin o less = weight_only (λ (k : Knowledge). waits k o) s.workers h (of s h) here none
      ∙ mine (held (of s h).ledgers o) refl
    where
      h : ℕ
      h = m.holder o

      inside : o < s.layout.workers
      inside = let n = workers in omega (arith, n, less)

      here : slice_get s.workers h ≡ Some (of s h)
      here = slice_get-get_or s.workers h (newcomer s.layout h)
          (let lt = m.law.holders.staff o inside in let n = m.law.staffed.workers in omega (arith, lt, n))

      none : (v : ℕ) (k : Knowledge) → slice_get s.workers v ≡ Some k → v ≢ h → waits k o ≡ 0
      none v k at ne = ap (λ (y : Knowledge). waits y o) (sym (worker_at v k at)) ∙ go (held (of s v).ledgers o) refl
        where
          go : (l : Option Ledger) → held (of s v).ledgers o ≡ l → length (queue_of (held (of s v).ledgers o)) ≡ 0
          go None is = ap (λ (l : Option Ledger). length (queue_of l)) is
          go (Some l) is = absurd (ne (m.law.holders.only v o (ap is_some is)))

      mine : (l : Option Ledger) → held (of s h).ledgers o ≡ l → waits (of s h) o ≡ length (waits_of o turns)
      mine None is = absurd (true≢false (sym (m.law.holders.some o inside) ∙ ap is_some is))
      mine (Some l) is = ap (λ (x : Option Ledger). length (queue_of x)) is
          ∙ (sym (length-map l.queue node_in) ∙ ap (λ (ns : List NodeId). length ns)
          (sym (waits_is L e.fits true e.turns h o l is)))

  waiting_is : (counts s).queued ≡ waiting_in queues
  waiting_is = sum_is_weight (λ (k : Knowledge). in_queues k.ledgers) s.workers
      ∙ (weight_same (λ (k : Knowledge). in_queues k.ledgers) (λ (k : Knowledge). total L.workers (waits k))
      s.workers by_origin
      ∙ (sym (total_weight L.workers waits s.workers)
      ∙ (total_same L.workers (λ o. weight (λ (k : Knowledge). waits k o) s.workers) (λ o. length (waits_of o turns))
      of_origin
      ∙ (ap (λ (n : ℕ). total n (λ o. length (waits_of o turns))) (sym all)
      ∙ sym (waiting_by queues (λ o. length (waits_of o turns))
      (λ o h at. sym (length-map h.queue.items (λ (n : Entry). n.node))
      ∙ ap (λ (ns : List NodeId). length ns) (waiting o h at)))))))

  module _ (free reached : ℕ) (free_are : free ≡ (counts s).pool) (reached_are : reached ≡ (counts s).reached) where
    pub counts_are : counts s ≡ record { pool = free; private = 0; reached = reached; queued = waiting_in queues }
    counts_are = λ i. record {
      pool = sym free_are i;
      private = none_private i;
      reached = sym reached_are i;
      queued =
          waiting_is i;
    }

    pub sum_is : free + reached + waiting_in queues ≡ L.nodes - 5
    sum_is =
        let sum = holds L words e CountsAddUp each_state_adds_up in
        let nodes : s.layout.nodes ≡ L.nodes = ap (λ (l : Layout). l.nodes) (layout_is L words e) in
        let none = none_private in
        let waits' = waiting_is in
        omega (arith, sum, nodes, none, waits', free_are, reached_are)
