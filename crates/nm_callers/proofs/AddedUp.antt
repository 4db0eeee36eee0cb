-- What the members of a closed set have put in is what they have taken away and what is left.
use Rattle.std.proofs.Common.{◌≡◌, ◌∙◌, ◌⊎◌, inl, inr, ℕ, suc, ◌+◌, ◌<◌, ◌≤◌, Bool, true, false, List, [], ◌∷◌, ◌++◌, length, length-append, refl, sym, ap, subst, arith}
use Rattle.std.specs.Prelude.{All, Option, Some, None, Ok, filter, sum_by}
use Rattle.std.proofs.lemmas.Bool.{cases_lt}
use Rattle.std.proofs.lemmas.List.Elements.{All-head, All-tail, filter-append}
use Rattle.std.proofs.lemmas.List.Sums.{sum_by-cons}
use Rattle.nm_edge.specs.Layouts.{Layout}
use Rattle.nm_laws.proofs.ListOrders.{In, in_contained}
use Rattle.nm_model.specs.declared.event.Event.TheVariants.{Join}
use Rattle.nm_model.specs.declared.reply.Reply.{Reply}
use Rattle.nm_model.specs.declared.trace.Turn.{Turn}
use Rattle.nm_model.specs.Walks.{Entry}
use Rattle.nm_order.specs.Exchanges.{is_won_link}
use Rattle.nm_order.specs.Logs.{part_of}
use Rattle.nm_order.specs.LoggedTotals.{sum_of}
use Rattle.nm_order.specs.WalksToArrivals.{is_won_flag}
use Rattle.nm_order.proofs.AnswersSince.{part-append}
use Rattle.nm_model.specs.Histories.{Called, call_begun}
use Rattle.nm_steps.specs.Rules.{Extends}
use Rattle.nm_tree.specs.declared.closing.Report.{Report}
use Rattle.nm_tree.specs.Closing.{HasJoinedAlone}
use Rattle.nm_tree.specs.Running.{HasSeenTurns}
use Rattle.nm_tree.specs.Workers.{WorkerView, IsIdle}
use Rattle.nm_set.specs.Seats.{SetView}
use Rattle.nm_set.specs.Ends.{SaysEnded}
use Rattle.nm_callers.specs.Queues.{AddUp}
use Rattle.nm_tree.proofs.AddedUp.{flags_won, links_won}
use Rattle.nm_tree.proofs.RunSums.{by_workers, none_joined, own_many, so_many}
use Rattle.nm_callers.proofs.Unmade.{no_call_then, who_calls}

-- each worker of the tree from number k on, in their order, has nothing pending
abbrev pub Settled : Layout → ℕ → List WorkerView → Type 0
Settled L k [] = k ≡ L.workers
Settled L k (w ∷ ws) = (w.pass.view.number ≡ k) × (w.pending ≡ None) × IsIdle w × HasSeenTurns w.pass.view
    × Settled L (suc k) ws

not_below : (L : Layout) (k : ℕ) (ws : List WorkerView) → Settled L k ws → k ≤ L.workers
not_below L k [] is = omega (arith, is)
not_below L k (w ∷ ws) is = let rest = not_below L (suc k) ws is.4 in omega (arith, rest)

-- ---- what each worker has won

module _ (is_such : Entry → Bool) (no_join : (v : ℕ) (r : Reply) → is_such (Join v, r) ≡ false) (L : Layout)
    (turns : List Turn) where
  -- is counted in the turns
  won_in_all : (w : WorkerView) → HasSeenTurns w.pass.view → Extends turns w.pass.view.past
      → HasJoinedAlone turns w.pass.view.past w.pass.view.number
      → own_many is_such no_join w.pass.view.number turns ≡ length (filter is_such w.pass.view.log)
  won_in_all w seen on joins =
      let v = w.pass.view.number in
      let parts = ap (part_of v) on.is ∙ part-append v w.pass.view.past on.more in
      let counts = ap (λ (es : List Entry). length (filter is_such es)) parts
      ∙ (ap (λ (es : List Entry). length es) (filter-append is_such (part_of v w.pass.view.past) (part_of v on.more))
      ∙ length-append (filter is_such (part_of v w.pass.view.past)) (filter is_such (part_of v on.more))) in
      let own = ap (λ (es : List Entry). length (filter is_such es)) seen.own in
      let none = none_joined is_such no_join v on.more
      (λ t r there mine told. joins on.more t r on.is (in_contained on.more t there) mine told) in
      omega (arith, counts, own, none)

  -- the sum
  sum_is : (k : ℕ) (ws rest : List WorkerView) → Settled L k ws
      → All (λ (w : WorkerView). Extends turns w.pass.view.past) (ws ++ rest)
      → All (λ (w : WorkerView). HasJoinedAlone turns w.pass.view.past w.pass.view.number) (ws ++ rest)
      → sum_of (λ v. own_many is_such no_join v turns) k
      + sum_by (λ (w : WorkerView). length (filter is_such w.pass.view.log)) ws
      ≡ sum_of (λ v. own_many is_such no_join v turns) L.workers
  sum_is k [] rest is on joins = let same = ap (λ (n : ℕ). sum_of (λ v. own_many is_such no_join v turns) n) is in
      omega (arith, same)
  sum_is k (w ∷ ws) rest is on joins =
      let here = won_in_all w is.3 (All-head (λ (w : WorkerView). Extends turns w.pass.view.past) w (ws ++ rest) on)
      (All-head (λ (w : WorkerView). HasJoinedAlone turns w.pass.view.past w.pass.view.number) w (ws ++ rest)
      joins) in
      let at : own_many is_such no_join k turns ≡ length (filter is_such w.pass.view.log) = subst
      (λ (v : ℕ). own_many is_such no_join v turns ≡ length (filter is_such w.pass.view.log)) is.0 here in
      let more = sum_is (suc k) ws rest is.4 (All-tail (λ (w : WorkerView). Extends turns w.pass.view.past) w
      (ws ++ rest) on) (All-tail (λ (w : WorkerView). HasJoinedAlone turns w.pass.view.past w.pass.view.number)
      w (ws ++ rest) joins) in
      let first = sum_by-cons (λ (w : WorkerView). length (filter is_such w.pass.view.log)) w ws in
      omega (arith, at, more, first)

-- ---- who has no call

rests : (L : Layout) (turns : List Turn) (k : ℕ) (ws rest : List WorkerView) → Settled L k ws
    → All (λ (w : WorkerView). Extends turns w.pass.view.past) (ws ++ rest)
    → All (λ (w : WorkerView). HasJoinedAlone turns w.pass.view.past w.pass.view.number) (ws ++ rest)
    → (v : ℕ) → k ≤ v → v < L.workers → call_begun v turns ≡ None
rests L turns k [] rest is on joins v low high = absurd (omega (arith, is, low, high))
rests L turns k (w ∷ ws) rest is on joins v low high = by (cases_lt k v)
    (rests L turns (suc k) ws rest is.4 (All-tail (λ (w : WorkerView). Extends turns w.pass.view.past) w (ws ++ rest)
    on) (All-tail (λ (w : WorkerView). HasJoinedAlone turns w.pass.view.past w.pass.view.number) w (ws ++ rest)
    joins) v)
  where
    g : Extends turns w.pass.view.past
    g = All-head (λ (w : WorkerView). Extends turns w.pass.view.past) w (ws ++ rest) on

    j : HasJoinedAlone turns w.pass.view.past w.pass.view.number
    j = All-head (λ (w : WorkerView). HasJoinedAlone turns w.pass.view.past w.pass.view.number) w (ws ++ rest) joins

    here : call_begun w.pass.view.number turns ≡ None
    here = ap (call_begun w.pass.view.number) g.is ∙ no_call_then w.pass.view.number w.pass.view.past g.more
        (is.2 is.1) (λ t r there mine told. j g.more t r g.is (in_contained g.more t there) mine told)

    by : (k < v) ⊎ (v ≤ k) → (suc k ≤ v → v < L.workers → call_begun v turns ≡ None) → call_begun v turns ≡ None
    by (inl less) later = later (omega (arith, less)) high
    by (inr up) later = subst (λ (n : ℕ). call_begun n turns ≡ None) (is.0 ∙ omega (arith, low, up)) here

-- ---- a closed set

module _ (s : SetView) (r : Report) (settled : Settled s.tree.layout 0 s.kept) (e : SaysEnded s r) where
  abbrev L : Layout
  L = s.tree.layout

  abbrev turns : List Turn
  turns = e.says.turns

  all_rest : (v : ℕ) → call_begun v turns ≡ None
  all_rest v = by (cases_lt v L.workers)
    where
      by : (v < L.workers) ⊎ (L.workers ≤ v) → call_begun v turns ≡ None
      by (inl less) = rests L turns 0 s.kept e.home settled e.says.goes_on e.says.own v (omega arith) less
      by (inr past) = go (call_begun v turns) refl
        where
          go : (o : Option Called) → call_begun v turns ≡ o → call_begun v turns ≡ None
          go None is = is
          go (Some c) is =
              let m = who_calls v turns c is in
              let less = e.says.headline.workers m.turn m.reply (in_contained turns m.turn m.among) m.accepted in
              let own = m.own in
              absurd (omega (arith, past, less, own))

  below : (t : Turn) (q : Reply) → In turns t → t.outcome ≡ Ok q → t.worker < L.workers
  below t q there told = e.says.headline.workers t q (in_contained turns t there) told

  sums : (is_such : Entry → Bool) (no_join : (v : ℕ) (q : Reply) → is_such (Join v, q) ≡ false)
      → sum_by (λ (w : WorkerView). length (filter is_such w.pass.view.log)) s.kept ≡ so_many is_such turns
  sums is_such no_join =
      let all = sum_is is_such no_join L turns 0 s.kept e.home settled e.says.goes_on e.says.own in
      let many = by_workers is_such no_join L.workers turns below in
      omega (arith, all, many)

  pub added_up : AddUp s.kept r.keys.items
  added_up =
      let one = e.says.add_up all_rest in
      let l = links_won turns in
      let f = flags_won turns in
      let a = sums is_won_link (λ v q. refl) in
      let b = sums is_won_flag (λ v q. refl) in
      omega (arith, one, l, f, a, b)
