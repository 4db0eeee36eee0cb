-- What each worker knows at a tree's end, by the logs of the one that stands for all.
use Rattle.std.proofs.Common.{◌≡◌, ℕ, suc, ◌+◌, ◌<◌, ◌≤◌, inl, inr, List, [], ◌∷◌, length, refl, sym, ap, ◌∙◌, subst, arith}
use Rattle.std.specs.Prelude.{Some, slice_get}
use Rattle.std.proofs.lemmas.Bool.{cases_lt}
use Rattle.std.proofs.lemmas.Option.{get_or_from_slice_get, slice_get_within}
use Rattle.nm_edge.specs.Layouts.{Layout}
use Rattle.nm_model.specs.declared.trace.Turn.{Turn}
use Rattle.nm_model.specs.Knowledge.{Knowledge, newcomer}
use Rattle.nm_model.specs.Ordered.{ordered, trace_in}
use Rattle.nm_model.specs.Runs.{State}
use Rattle.nm_model.specs.Walks.{Entry as LogEntry}
use Rattle.nm_laws.proofs.Lawful.{lawful}
use Rattle.nm_order.specs.Logs.{part_of, known_by}
use Rattle.nm_order.proofs.PartsOfRuns.{logs_tell}
use Rattle.nm_tree.specs.Ended.{IsEndOf, end_of}
use Rattle.nm_tree.proofs.Ends.{holds, layout_is}
use Rattle.nm_steps.specs.declared.view.Held.{Held}
use Rattle.nm_steps.specs.declared.view.View.{View}
use Rattle.nm_steps.specs.Rules.{knowledge, LogsAre, IsShown}
use Rattle.nm_steps.proofs.Keeping.{live}
use Rattle.nm_epoch.specs.declared.collecting.HeldQueue.{HeldQueue}
use Rattle.nm_tree.specs.Closing.{AreFrom}
use Rattle.nm_tree.specs.Workers.{WorkerView, IsWorker, HasNumber, HasOrigin, HoldNoSlot}
use Rattle.nm_tree.proofs.Heirs.{logs}
use Rattle.nm_tree.proofs.United.{empty_hands}

-- ---- numbers of queues

-- there is a queue of each
pub from_has : (i : ℕ) (hs : List HeldQueue) → AreFrom i hs → (u : ℕ) → i ≤ u → u < i + length hs → HasOrigin u hs
from_has i [] from u low high = absurd (omega (arith, low, high))
from_has i (h ∷ hs) from u low high = elim (cases_lt i u) [
  | inl above ↦ inr (from_has (suc i) hs from.1 u (omega (arith, above)) (omega (arith, high)))
  | inr here ↦ inl (let at = from.0 in omega (arith, at, here, low))
]

from_below : (i : ℕ) (hs : List HeldQueue) → AreFrom i hs → (u : ℕ) → HasOrigin u hs → u < i + length hs
from_below i [] from u has = absurd has
from_below i (h ∷ hs) from u (inl is) = let at = from.0 in omega (arith, at, is)
from_below i (h ∷ hs) from u (inr has) = let rest = from_below (suc i) hs from.1 u has in omega (arith, rest)

-- ---- what each worker knows

known_is : (l L : Layout) (t : List Turn) (n u : ℕ) (log : List LogEntry) → l ≡ L → log ≡ part_of n t → n ≡ u
    → known_by l n log ≡ known_by L u (part_of u t)
known_is l L t n u log layout part is =
    ap (λ (x : Layout). known_by x n log) layout ∙ (ap (λ (x : List LogEntry). known_by L n x) part
    ∙ ap (λ (x : ℕ). known_by L x (part_of x t)) is)

-- to one that resigned no slot is private
nothing_of : (l L : Layout) (t : List Turn) (hs : List Held) → LogsAre l L t hs → HoldNoSlot l hs → (u : ℕ)
    → HasNumber u hs → length (known_by L u (part_of u t)).drafts ≡ 0
nothing_of l L t [] are none' u has = absurd has
nothing_of l L t (h ∷ hs) are none' u (inl is) = ap (λ (x : Knowledge). length x.drafts)
    (sym (known_is l L t h.number u h.log are.0 are.1 is)) ∙ none'.0
nothing_of l L t (h ∷ hs) are none' u (inr has) = nothing_of l L t hs are.2 none'.1 u has

-- ---- the whole

module _ (L : Layout) (words : List ℕ) (e : IsEndOf L words) (w : WorkerView) (home : ℕ) (is : IsWorker w home)
    (is_shown : IsShown L (trace_in (ordered L) e.turns) w.pass.view)
    (each : AreFrom 0 w.queues) (all : length w.queues ≡ L.workers) where
  abbrev s : State
  s = end_of L words e

  abbrev v : View
  v = w.pass.view

  abbrev t : List Turn
  t = trace_in (ordered L) e.turns

  pub are : LogsAre v.layout L t (logs v)
  are = subst (λ (hs : List Held). LogsAre v.layout L t hs) (live v is.alive) is_shown

  pub as_many_workers : length s.workers ≡ L.workers
  as_many_workers = holds L words e (λ x. length x.workers ≡ x.layout.workers)
      (λ l room turns. (lawful l room turns).law.staffed.workers) ∙ ap (λ (l : Layout). l.workers) (layout_is L words e)

  pub inside : (u : ℕ) (k : Knowledge) → slice_get s.workers u ≡ Some k → u < L.workers
  inside u k at = let below = slice_get_within s.workers u k at in let size = as_many_workers in
      omega (arith, below, size)

  pub worker_at : (u : ℕ) (k : Knowledge) → slice_get s.workers u ≡ Some k → known_by L u (part_of u t) ≡ k
  worker_at u k at = sym (logs_tell L e.turns u (inside u k at))
      ∙ get_or_from_slice_get s.workers u k (newcomer s.layout u) at

  pub there : (u : ℕ) → u < L.workers → HasNumber u (logs v)
  there u less = is.numbers.each u (from_has 0 w.queues each u (omega arith) (omega (arith, less, all)))

  pub own : known_by L v.number (part_of v.number t) ≡ knowledge v
  own = sym (known_is v.layout L t v.number v.number v.log are.0 are.1 refl)

  pub no_drafts : (u : ℕ) → HasNumber u (logs v) → length (known_by L u (part_of u t)).drafts ≡ 0
  no_drafts u (inl at) = ap (λ (k : Knowledge). length k.drafts)
      (sym (known_is v.layout L t v.number u v.log are.0 are.1 at)) ∙ (empty_hands w is.between).drafts
  no_drafts u (inr has) = nothing_of v.layout L t v.others are.2 is.resigned u has

  pub here : v.number < length s.workers
  here = let below = from_below 0 w.queues each v.number (is.numbers.all v.number (inl refl)) in
      let size = as_many_workers in omega (arith, below, all, size)
