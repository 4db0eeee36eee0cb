-- The theorem, of a tree's end: of the turns of the run that ends with its words.
use Rattle.std.proofs.Common.{◌≡◌, ℕ, zero, suc, ◌+◌, ◌<◌, true, false, List, [], ◌∷◌, length, map, refl, sym, ap, ◌∙◌, subst, arith}
use Rattle.std.specs.Prelude.{◌↔◌, Contains, Option, Some, None, option_map, slice_get}
use Rattle.std.proofs.lemmas.Bool.{false_from_ne_true}
use Rattle.std.proofs.lemmas.Option.{none-some, same_Some}
use Rattle.nm_edge.specs.Layouts.{Layout, IsLayout}
use Rattle.nm_edge.specs.declared.node.NodeId.{NodeId}
use Rattle.nm_model.specs.declared.event.Event.{Event}
use Rattle.nm_model.specs.declared.ledger.Ledger.{Ledger}
use Rattle.nm_model.specs.declared.ledger.Queued.{Queued}
use Rattle.nm_model.specs.declared.trace.Turn.{Turn}
use Rattle.nm_model.specs.Knowledge.{Knowledge, is_private}
use Rattle.nm_model.specs.Laws.{node_in}
use Rattle.nm_model.specs.Ledgers.{held}
use Rattle.nm_model.specs.Memory.{Memory, infinity_0, opening}
use Rattle.nm_model.specs.Ordered.{ordered, after_in, trace_in}
use Rattle.nm_model.specs.Reports.{keys}
use Rattle.nm_model.specs.Runs.{of}
use Rattle.nm_model.specs.Acts.{InSet}
use Rattle.nm_model.specs.Headline.{waits_of, has_after}
use Rattle.nm_theorem.proofs.WrittenWords.{run_words}
use Rattle.nm_theorem.proofs.FreedOfRuns.{waits_is}
use Rattle.nm_theorem.proofs.Hands.{run_hands}
use Rattle.nm_theorem.proofs.HeadlineOfRuns.{headline}
use Rattle.nm_theorem.proofs.HistoriesOfRuns.{history_of_run}
use Rattle.nm_tree.specs.Ended.{IsEndOf, end_of}
use Rattle.nm_steps.specs.Rules.{IsShown, knowledge}
use Rattle.nm_epoch.specs.declared.collecting.Entry.{Entry}
use Rattle.nm_epoch.specs.declared.collecting.HeldQueue.{HeldQueue}
use Rattle.nm_epoch.specs.Collecting.{AreHeld, IsQueueOf, queued}
use Rattle.nm_tree.specs.Closing.{AreFrom, IsOfTurns}
use Rattle.nm_tree.specs.Workers.{WorkerView, IsWorker}
use Rattle.nm_tree.proofs.EndLaws.{set_of}
use Rattle.nm_tree.proofs.WonAnswers.{turns_are_of_workers}
use Rattle.nm_tree.proofs.EndPlaces.{known, none_private}

-- ---- the queues of a report

held_at : (k : Knowledge) (hs : List HeldQueue) → AreHeld k hs → (i : ℕ) (h : HeldQueue) → slice_get hs i ≡ Some h
    → IsQueueOf k h.origin h.queue.items
held_at k [] are i h at = absurd (none-some h at)
held_at k (x ∷ hs) are zero h at = subst (λ (y : HeldQueue). IsQueueOf k y.origin y.queue.items) (same_Some x h at)
    are.0
held_at k (x ∷ hs) are (suc i) h at = held_at k hs are.2 i h at

origin_at : (j : ℕ) (hs : List HeldQueue) → AreFrom j hs → (i : ℕ) (h : HeldQueue) → slice_get hs i ≡ Some h
    → h.origin ≡ j + i
origin_at j [] from i h at = absurd (none-some h at)
origin_at j (x ∷ hs) from zero h at = let e = ap (λ (y : HeldQueue). y.origin) (same_Some x h at) in
    let o = from.0 in omega (arith, e, o)
origin_at j (x ∷ hs) from (suc i) h at = let rest = origin_at (suc j) hs from.1 i h at in omega (arith, rest)

nodes_of : (es : List Entry) → map (λ (e : Entry). e.node) es ≡ map node_in (map queued es)
nodes_of [] = refl
nodes_of (e ∷ es) = ap (λ (ns : List NodeId). e.node ∷ ns) (nodes_of es)

-- what waits in a held queue is what waits by the turns
pub queue_waits : (L : Layout) (fits : IsLayout L) (ts : List (ℕ × Event)) (u : ℕ) (k : Knowledge) (h : HeldQueue)
    → of (after_in (ordered L) ts).state u ≡ k → IsQueueOf k h.origin h.queue.items
    → map (λ (e : Entry). e.node) h.queue.items ≡ waits_of h.origin (trace_in (ordered L) ts)
queue_waits L fits ts u k h knows has = go (held k.ledgers h.origin) refl has
  where
    go : (x : Option Ledger) → held k.ledgers h.origin ≡ x
        → option_map (λ (l : Ledger). l.queue) x ≡ Some (map queued h.queue.items)
        → map (λ (e : Entry). e.node) h.queue.items ≡ waits_of h.origin (trace_in (ordered L) ts)
    go None there none = absurd (none-some (map queued h.queue.items) none)
    go (Some l) there queue =
        nodes_of h.queue.items ∙ (ap (λ (q : List Queued). map node_in q)
        (sym (same_Some l.queue (map queued h.queue.items) queue))
        ∙ sym (waits_is L fits true ts u h.origin l (ap (λ (x : Knowledge). held x.ledgers h.origin) knows ∙ there)))

module _ (L : Layout) (words : List ℕ) (e : IsEndOf L words) (w : WorkerView) (home : ℕ) (is : IsWorker w home)
    (is_shown : IsShown L (trace_in (ordered L) e.turns) w.pass.view)
    (each : AreFrom 0 w.queues) (all : length w.queues ≡ L.workers) where
  abbrev turns : List Turn
  turns = trace_in (ordered L) e.turns

  waiting : (o : ℕ) (h : HeldQueue) → slice_get w.queues o ≡ Some h
      → map (λ (e : Entry). e.node) h.queue.items ≡ waits_of o turns
  waiting o h at =
      let from = origin_at 0 w.queues each o h at in
      let own : h.origin ≡ o = omega (arith, from) in
      queue_waits L e.fits e.turns w.pass.view.number (knowledge w.pass.view) h
      (known L words e w home is is_shown each all)
      (held_at (knowledge w.pass.view) w.queues is.between.queues o h at) ∙ ap (λ (n : ℕ). waits_of n turns) own

  no_hands : (u x : ℕ) → has_after (opening L) u x false turns ≡ false
  no_hands u x = run_hands u x L e.fits true e.turns
      ∙ false_from_ne_true (is_private (of (end_of L words e) u) x)
      (none_private L words e w home is is_shown each all u x)

  module _ (kept : List ℕ) (keys_are : kept ≡ keys (end_of L words e)) where
    pub of_turns_at_end : IsOfTurns L turns w.queues kept
    of_turns_at_end = record {
      workers = turns_are_of_workers L e.turns;
      headline = headline L e.fits true e.turns e.keys;
      plain_set = history_of_run L e.fits e.turns e.keys;
      waiting = waiting;
      no_hands = no_hands;
      set = λ k. subst (λ (m : Memory). Contains kept k ↔ InSet m k × (k < infinity_0))
          (sym (run_words L e.fits true e.turns)) (set_of L e.fits e.turns e.keys kept keys_are k);
    }
