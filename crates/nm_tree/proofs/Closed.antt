-- What the end of a tree leaves.
use Rattle.std.proofs.Common.{◌≡◌, ℕ, suc, ◌+◌, ◌-◌, ◌<◌, ◌≤◌, inl, inr, true, List, [], ◌∷◌, ◌++◌, append-nil, length, map, refl, sym, ap, ◌∙◌, subst, arith}
use Rattle.std.proofs.lemmas.List.Elements.{All-cons, All-head, All-nil, All-tail}
use Rattle.std.proofs.lemmas.List.{length-map}
use Rattle.std.proofs.lemmas.List.Concat.{length-flat_map}
use Rattle.std.proofs.lemmas.List.FromFn.{length-range_with_len}
use Rattle.std.proofs.lemmas.List.Sorted.{IsPermutation-append_right, IsPermutation-cons, IsPermutation-insert, IsPermutation-refl, IsPermutation-trans, length_permutation}
use Rattle.std.specs.List.{range_with_len}
use Rattle.std.specs.Prelude.{All, IsPermutation, filter, flat_map, slice_index_or}
use Rattle.nm_edge.specs.Layouts.{Layout}
use Rattle.nm_model.specs.declared.trace.Turn.{Turn}
use Rattle.nm_model.specs.Ordered.{ordered, trace_in}
use Rattle.nm_model.specs.Headline.{words_after}
use Rattle.nm_model.specs.Memory.{Memory}
use Rattle.nm_model.specs.Reports.{counts, keys, tree_slots}
use Rattle.nm_theorem.proofs.WrittenWords.{run_words}
use Rattle.nm_tree.specs.Ended.{IsEndOf, end_of}
use Rattle.nm_tree.proofs.Ends.{layout_is}
use Rattle.nm_steps.specs.declared.view.Stored.{Stored}
use Rattle.nm_steps.specs.declared.view.View.{View}
use Rattle.nm_steps.specs.Rules.{Extends, ExtendsStores, IsShown, LogsAre, joined, knowledge, stands, once_below}
use Rattle.nm_steps.specs.Steps.{TreeView, PassView, IsOf, IsInRun, Ends, HasJoined, HasSeen, HasSeenAllOf}
use Rattle.nm_steps.proofs.Growing.{goes_on_itself, goes_on_from_nothing, goes_on_through}
use Rattle.nm_steps.proofs.Keeping.{live, once_is}
use Rattle.nm_steps.proofs.Cutting.{times}
use Rattle.nm_steps.proofs.Seeing.{stores_same, stores_through}
use Rattle.nm_epoch.specs.declared.collecting.HeldQueue.{HeldQueue}
use Rattle.nm_epoch.specs.Collecting.{AreHeld}
use Rattle.nm_tree.specs.Workers.{WorkerView, IsWorker, TellLedgers, HasOrigin, AreAbove, Ascend}
use Rattle.nm_tree.specs.Closing.{AreAllOf, AreFrom, IsClosed, IsOfTurns, StandsForAll, all_joined, all_merged, given_in}
use Rattle.nm_tree.specs.Resigning.{inserted, merged, place_in}
use Rattle.nm_tree.proofs.AddedUp.{add_up}
use Rattle.nm_tree.proofs.EndCounts.{sum_is}
use Rattle.nm_tree.proofs.EndLaws.{ascend_of, set_of, totals_of}
use Rattle.nm_tree.proofs.EndTheorem.{of_turns_at_end}
use Rattle.nm_tree.proofs.EndWorkers.{are as logs_shown}
use Rattle.nm_tree.proofs.JoinsAlone.{all_joined_alone}
use Rattle.nm_tree.proofs.Settling.{settles}
use Rattle.nm_tree.proofs.Heirs.{logs, has_times}
use Rattle.nm_tree.proofs.Ledgers.{all_told, told_alike}
use Rattle.nm_tree.proofs.Merging.{inserted_there}

-- ---- the workers one by one

pub all_before : (b : TreeView) (ws : List WorkerView) (w : WorkerView) → AreAllOf b (ws ++ w ∷ [])
    → AreAllOf b ws × IsOf b w.pass
all_before b [] w are = (tt, are.0)
all_before b (u ∷ ws) w are = let rest = all_before b ws w are.1 in ((are.0, rest.0), rest.1)

-- and one more at the end
pub all_and : (b : TreeView) (ws : List WorkerView) (w : WorkerView) → AreAllOf b ws → IsOf b w.pass
    → AreAllOf b (ws ++ w ∷ [])
all_and b [] w are own = (own, tt)
all_and b (u ∷ ws) w are own = (are.0, all_and b ws w are.1 own)

-- the pass of both is of that tree
pub still_of : (b : TreeView) (p o q : PassView) → HasJoined p o q → IsOf b p → IsOf b q
still_of b p o q is own = record {
  table = ap (λ (x : PassView). x.table) is
      ∙ own.table;
  layout = ap (λ (x : PassView). x.view.layout) is ∙ own.layout;
}

-- ---- what the one that stands for all has seen

-- these turns, and these stores, extend what each of the workers had seen
abbrev pub GoesOnFromAll : List Turn → List WorkerView → Type 0
GoesOnFromAll turns ws = All (λ (w : WorkerView). Extends turns w.pass.view.past) ws

abbrev pub StoresGoOnFromAll : List Stored → List WorkerView → Type 0
StoresGoOnFromAll stores ws = All (λ (w : WorkerView). ExtendsStores stores w.pass.view.stores) ws

pub alone : (w : WorkerView) → GoesOnFromAll w.pass.view.past (w ∷ [])
alone w = All-cons (λ (u : WorkerView). Extends w.pass.view.past u.pass.view.past) w []
    (goes_on_itself w.pass.view.past) (All-nil (λ (u : WorkerView). Extends w.pass.view.past u.pass.view.past))

-- and each has seen a run
pub one_seen : (w : WorkerView) → HasSeen w.pass.view → All (λ (u : WorkerView). HasSeen u.pass.view) (w ∷ [])
one_seen w seen = All-cons (λ (u : WorkerView). HasSeen u.pass.view) w [] seen
    (All-nil (λ (u : WorkerView). HasSeen u.pass.view))

pub one_more_seen : (w : WorkerView) (us : List WorkerView) → HasSeen w.pass.view
    → All (λ (u : WorkerView). HasSeen u.pass.view) us → All (λ (u : WorkerView). HasSeen u.pass.view) (w ∷ us)
one_more_seen w us seen all = All-cons (λ (u : WorkerView). HasSeen u.pass.view) w us seen all

pub stands_for_one_more : (w u : WorkerView) (us : List WorkerView) (p q : PassView) → HasJoined p w.pass q
    → StandsForAll (u ∷ us) p.view → StandsForAll (w ∷ u ∷ us) q.view
stands_for_one_more w u us p q joins stands = ap (λ (x : PassView). x.view) joins
    ∙ ap (λ (v : View). record (joined v w.pass.view) { past = q.view.past; stores = q.view.stores }) stands

-- a run goes on from what one saw from which it goes on
pub goes_on_from_earlier : (run earlier : List Turn) (ws : List WorkerView) → Extends run earlier
    → GoesOnFromAll earlier ws → GoesOnFromAll run ws
goes_on_from_earlier run earlier ws more all i w less = goes_on_through run earlier
    (slice_index_or ws i w).pass.view.past more (all i w less)

pub goes_on_from_one_more : (w : WorkerView) (us : List WorkerView) (p q : PassView) → HasSeenAllOf q p
    → HasSeenAllOf q w.pass → GoesOnFromAll p.view.past us → GoesOnFromAll q.view.past (w ∷ us)
goes_on_from_one_more w us p q seen told all = All-cons (λ (u : WorkerView). Extends q.view.past u.pass.view.past) w
    us told.goes_on (goes_on_from_earlier q.view.past p.view.past us seen.goes_on all)

-- so from what the last one saw, whose own log the joined view has
goes_on_from_last : (run : List Turn) (ws : List WorkerView) → GoesOnFromAll run ws → Extends run (all_joined ws).past
goes_on_from_last run [] all = goes_on_from_nothing run
goes_on_from_last run (w ∷ []) all = All-head (λ (u : WorkerView). Extends run u.pass.view.past) w [] all
goes_on_from_last run (w ∷ u ∷ ws) all = goes_on_from_last run (u ∷ ws)
    (All-tail (λ (v : WorkerView). Extends run v.pass.view.past) w (u ∷ ws) all)

-- the same of stores
pub stores_alone : (w : WorkerView) → StoresGoOnFromAll w.pass.view.stores (w ∷ [])
stores_alone w = All-cons (λ (u : WorkerView). ExtendsStores w.pass.view.stores u.pass.view.stores) w []
    (stores_same w.pass.view.stores w.pass.view.stores refl)
    (All-nil (λ (u : WorkerView). ExtendsStores w.pass.view.stores u.pass.view.stores))

pub stores_from_earlier : (stores earlier : List Stored) (ws : List WorkerView) → ExtendsStores stores earlier
    → StoresGoOnFromAll earlier ws → StoresGoOnFromAll stores ws
stores_from_earlier stores earlier ws more all i w less = stores_through (slice_index_or ws i w).pass.view.stores
    earlier stores (all i w less) more

pub stores_from_one_more : (w : WorkerView) (us : List WorkerView) (p q : PassView)
    → ExtendsStores q.view.stores p.view.stores → ExtendsStores q.view.stores w.pass.view.stores
    → StoresGoOnFromAll p.view.stores us → StoresGoOnFromAll q.view.stores (w ∷ us)
stores_from_one_more w us p q seen told all = All-cons
    (λ (u : WorkerView). ExtendsStores q.view.stores u.pass.view.stores) w us told
    (stores_from_earlier q.view.stores p.view.stores us seen all)

-- the queues that come together are those of all workers
inserted_permutes : (g : HeldQueue) (hs : List HeldQueue) → IsPermutation (g ∷ hs) (inserted g hs)
inserted_permutes g hs =
    subst (IsPermutation (g ∷ hs)) (inserted_there g hs) (IsPermutation-insert hs (place_in g.origin hs) g)

merged_permutes : (hs gs : List HeldQueue) → IsPermutation (gs ++ hs) (merged hs gs)
merged_permutes hs [] = IsPermutation-refl hs
merged_permutes hs (g ∷ gs) =
    IsPermutation-trans (g ∷ (gs ++ hs)) (g ∷ merged hs gs) (inserted g (merged hs gs))
    (IsPermutation-cons g (gs ++ hs) (merged hs gs) (merged_permutes hs gs)) (inserted_permutes g (merged hs gs))

all_permute : (ws : List WorkerView) → IsPermutation (flat_map (λ (w : WorkerView). w.queues) ws) (all_merged ws)
all_permute [] = IsPermutation-refl []
all_permute (w ∷ []) =
    subst (λ (hs : List HeldQueue). IsPermutation hs w.queues) (sym (append-nil w.queues)) (IsPermutation-refl w.queues)
all_permute (w ∷ u ∷ ws) =
    let rest : List HeldQueue = flat_map (λ (x : WorkerView). x.queues) (u ∷ ws) in
    IsPermutation-trans (w.queues ++ rest) (w.queues ++ all_merged (u ∷ ws)) (all_merged (w ∷ u ∷ ws))
    (IsPermutation-append_right w.queues rest (all_merged (u ∷ ws)) (all_permute (u ∷ ws)))
    (merged_permutes (all_merged (u ∷ ws)) w.queues)

-- as many queues as workers were given
all_given : (ws : List WorkerView) → length (all_merged ws) ≡ given_in ws
all_given ws =
    length_permutation (flat_map (λ (w : WorkerView). w.queues) ws) (all_merged ws) (all_permute ws)
    ∙ length-flat_map (λ (w : WorkerView). w.queues) ws

-- the origins of queues that are from i on
origins_are : (i : ℕ) (hs : List HeldQueue) → AreFrom i hs
    → map (λ (h : HeldQueue). h.origin) hs ≡ range_with_len i (length hs)
origins_are i [] from = refl
origins_are i (h ∷ hs) from =
    let next : suc i ≡ i + 1 = omega arith in
    let rest = origins_are (suc i) hs from.1 ∙ ap (λ (k : ℕ). range_with_len k (length hs)) next in
    (λ j. from.0 j ∷ rest j)

pub as_many_queues : (n : ℕ) (hs : List HeldQueue) → map (λ (h : HeldQueue). h.origin) hs ≡ range_with_len 0 n
    → length hs ≡ n
as_many_queues n hs is =
    sym (length-map hs (λ (h : HeldQueue). h.origin))
    ∙ (ap (λ (os : List ℕ). length os) is ∙ length-range_with_len 0 n)

at_least_one : (ws : List WorkerView) → 1 ≤ given_in ws → 1 ≤ length ws
at_least_one [] some' = absurd (omega (arith, some'))
at_least_one (w ∷ ws) some' = omega arith

-- ---- ascending numbers below n, as many as n

few_above : (n o : ℕ) (hs : List HeldQueue) → o < n → AreAbove o hs → ((x : ℕ) → HasOrigin x hs → x < n)
    → length hs + suc o ≤ n
few_above n o [] less above below = omega (arith, less)
few_above n o (h ∷ hs) less above below =
    let rest = few_above n h.origin hs (below h.origin (inl refl)) above.1 (λ x has. below x (inr has)) in
    let up = above.0 in
    omega (arith, rest, up)

none_left : (n i : ℕ) (hs : List HeldQueue) → AreAbove i hs → ((x : ℕ) → HasOrigin x hs → x < n)
    → n ≤ length hs + suc i → AreFrom (suc i) hs
none_left n i [] above below many = tt
none_left n i (h ∷ hs) above below many =
    let rest = few_above n h.origin hs (below h.origin (inl refl)) above.1 (λ x has. below x (inr has)) in
    let up = above.0 in
    let at : h.origin ≡ suc i = omega (arith, rest, up, many) in
    let P : ℕ → Type 0 = λ k. AreFrom (suc k) hs in
    (at, subst P at (none_left n h.origin hs above.1 (λ x has. below x (inr has)) (omega (arith, at, many))))

pub all_in_order : (n : ℕ) (hs : List HeldQueue) → Ascend hs → ((x : ℕ) → HasOrigin x hs → x < n) → n ≤ length hs
    → AreFrom 0 hs × (length hs ≡ n)
all_in_order n [] up below many = (tt, omega (arith, many))
all_in_order n (h ∷ hs) up below many =
    let rest = few_above n h.origin hs (below h.origin (inl refl)) up (λ x has. below x (inr has)) in
    let at : h.origin ≡ 0 = omega (arith, rest, many) in
    let P : ℕ → Type 0 = λ k. AreFrom (suc k) hs in (
      (at, subst P at (none_left n h.origin hs up (λ x has. below x (inr has)) (omega (arith, at, many)))),
      omega
          (arith, rest, many),
    )

-- ---- the whole

module _ (b : TreeView) (w : WorkerView) (home : ℕ) (ws : List WorkerView) (kept : List ℕ) (free reached : ℕ)
    (words : List ℕ) (is : IsWorker w home)
    (view : StandsForAll ws w.pass.view) (seen : GoesOnFromAll w.pass.view.past ws)
    (queues : w.queues ≡ all_merged ws) (enough : b.layout.workers ≤ given_in ws)
    (of_runs : All (λ (u : WorkerView). HasSeen u.pass.view) ws) (end : Ends b.layout words w.pass.view)
    (run : IsInRun w.pass)
    (keys_are : (e' : IsEndOf b.layout words) → kept ≡ keys (end_of b.layout words e'))
    (free_are : (e' : IsEndOf b.layout words) → free ≡ (counts (end_of b.layout words e')).pool)
    (reached_are : (e' : IsEndOf b.layout words) → reached ≡ (counts (end_of b.layout words e')).reached) where
  below : (o : ℕ) → HasOrigin o w.queues → o < b.layout.workers
  below o has =
      let once = end.once o in
      let all : stands o w.pass.view ≡ times o (logs w.pass.view) = ap (times o) (live w.pass.view is.alive) in
      let some' = has_times o (logs w.pass.view) (is.numbers.each o has) in
      (once_is o b.layout.workers).1 (omega (arith, once, all, some'))

  pub in_order : AreFrom 0 w.queues × (length w.queues ≡ b.layout.workers)
  in_order =
      let many : length w.queues ≡ given_in ws = ap (λ (l : List HeldQueue). length l) queues ∙ all_given ws in
      all_in_order b.layout.workers w.queues is.between.ascend below (omega (arith, many, enough))

  the_end : IsEndOf b.layout words
  the_end = record { fits = end.fits; turns = end.turns; keys = end.keys; words_are = end.words_are }

  some_given : 1 ≤ length ws
  some_given = at_least_one ws (let some' = end.fits.some in omega (arith, enough, some'))

  goes_on : GoesOnFromAll (trace_in (ordered b.layout) end.turns) ws
  goes_on = goes_on_from_earlier (trace_in (ordered b.layout) end.turns) w.pass.view.past ws end.past seen

  ends : Ends b.layout words (all_joined ws)
  ends = record {
    fits = end.fits;
    turns = end.turns;
    keys = end.keys;
    words_are = end.words_are;
    shown = subst (λ (v : View). IsShown b.layout (trace_in (ordered b.layout) end.turns) v) view end.shown;
    once = subst (λ (v : View). (o : ℕ) → stands o v ≤ once_below o b.layout.workers) view end.once;
    past = goes_on_from_last (trace_in (ordered b.layout) end.turns) ws goes_on;
  }

  of_turns : IsOfTurns b.layout (trace_in (ordered b.layout) end.turns) w.queues kept
  unfolding the_end
  of_turns = of_turns_at_end b.layout words the_end w home is end.shown in_order.0 in_order.1 kept (keys_are the_end)

  words_are : words_after b.layout (trace_in (ordered b.layout) end.turns) ≡ (end_of b.layout words the_end).memory
  unfolding the_end
  words_are = run_words b.layout end.fits true end.turns

  nodes : (end_of b.layout words the_end).layout.nodes ≡ b.layout.nodes
  nodes = ap (λ (l : Layout). l.nodes) (layout_is b.layout words the_end)

  logs_are : LogsAre (all_joined ws).layout b.layout (trace_in (ordered b.layout) end.turns) (logs (all_joined ws))
  unfolding the_end
  logs_are = subst (λ (v : View). LogsAre v.layout b.layout (trace_in (ordered b.layout) end.turns) (logs v)) view
      (logs_shown b.layout words the_end w home is end.shown in_order.0 in_order.1)

  pub closed : IsClosed b ws w.queues kept free reached
  unfolding ends the_end
  closed = record {
    says = record {
      turns = trace_in (ordered b.layout) end.turns;
      headline = of_turns;
      goes_on = goes_on;
      own = all_joined_alone (all_joined ws).layout b.layout (trace_in (ordered b.layout) end.turns) ws logs_are
          of_runs;
      unchanged = subst (IsPermutation (flat_map (λ (u : WorkerView). u.queues) ws)) (sym queues) (all_permute ws);
      each = origins_are 0 w.queues in_order.0 ∙ ap (range_with_len 0) in_order.1;
      ascend = ascend_of b.layout end.fits end.turns end.keys kept (keys_are the_end);
      free_are = free_are the_end ∙ ap (λ (m : Memory). length (filter (λ mark. mark) m.pool)) (sym words_are);
      reached_are = reached_are the_end ∙ (ap (λ (n : ℕ). length
          (tree_slots n (end_of b.layout words the_end).memory 1) - 5) nodes
          ∙ ap (λ (m : Memory). length (tree_slots b.layout.nodes m 1) - 5) (sym words_are));
      sum = sum_is b.layout words the_end w.queues in_order.1 of_turns.no_hands of_turns.waiting free reached
          (free_are the_end) (reached_are the_end);
      rested = settles b.layout words the_end w home is end.shown in_order.0 in_order.1 ws view some_given;
      totals = totals_of b.layout end.fits end.turns end.keys kept
          (set_of b.layout end.fits end.turns end.keys kept (keys_are the_end));
      add_up = add_up b.layout end.fits end.turns end.keys kept
          (set_of b.layout end.fits end.turns end.keys kept (keys_are the_end))
          (ascend_of b.layout end.fits end.turns end.keys kept (keys_are the_end));
    };
    words = words;
    same_turns = refl;
    ends = ends;
    held = subst (λ (v : View). AreHeld (knowledge v) w.queues) view is.between.queues;
    told = told_alike (all_joined ws) w.pass.view w.queues
        (subst (λ (v : View). TellLedgers v w.queues) view (all_told w.pass run w.queues is.counted is.between.queues));
  }

  pub turns_are : closed.says.turns ≡ trace_in (ordered b.layout) end.turns
  unfolding closed
  turns_are = refl
