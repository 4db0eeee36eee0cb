-- Nodes that waited at an earlier moment of a worker: each still waits, or it was freed.
use Rattle.std.proofs.Common.{◌≡◌, inl, inr, ℕ, zero, suc, Bool, true, false, cond, not, List, [], ◌∷◌, ◌++◌, append_assoc, map, refl, sym, ap, subst, ◌∙◌, arith}
use Rattle.std.specs.Prelude.{filter, Contains}
use Rattle.std.specs.List.{AllZip}
use Rattle.std.proofs.lemmas.List.Elements.{Contains-append_left}
use Rattle.std.proofs.lemmas.Option.{get_or_from_slice_get, slice_get_within}
use Rattle.nm_edge.specs.declared.node.NodeId.{NodeId}
use Rattle.nm_model.specs.Headline.{cuts_of, freed_by, is_among, nodes_freed_of, waits_of}
use Rattle.nm_model.specs.Knowledge.{Knowledge}
use Rattle.nm_model.specs.Runs.{of}
use Rattle.nm_model.specs.Ordered.{ordered, after_in}
use Rattle.nm_model.specs.declared.trace.Turn.{Turn}
use Rattle.nm_laws.proofs.FreedNodes.{in_among}
use Rattle.nm_laws.proofs.ListOrders.{In, contained_in, in_contained, in_left, in_map, in_mapped}
use Rattle.nm_order.specs.Logs.{part_of, known_by}
use Rattle.nm_order.proofs.PartsOfRuns.{logs_tell}
use Rattle.nm_theorem.proofs.FreedOfRuns.{cuts-append}
use Rattle.nm_steps.specs.Rules.{Extends, knowledge}
use Rattle.nm_steps.specs.Steps.{PassView, HasSeenAllOf}
use Rattle.nm_epoch.specs.declared.collecting.Entry.{Entry}
use Rattle.nm_epoch.specs.declared.collecting.HeldQueue.{HeldQueue}
use Rattle.nm_epoch.specs.Collecting.{AreHeld, IsQueueOf}
use Rattle.nm_tree.specs.Workers.{WorkerView}
use Rattle.nm_tree.proofs.EndTheorem.{queue_waits}
use Rattle.nm_set.specs.Managed.{GoesOn, OnlyLoses}
use Rattle.nm_set.specs.Rounds.{IsKnown}

-- ---- lists

-- what a filter keeps is of the list
kept_in : {X : Type 0} (p : X → Bool) (xs : List X) (x : X) → In (filter p xs) x → In xs x
kept_in p [] x there = there
kept_in {X = X} p (y ∷ xs) x there = go (p y) there (kept_in p xs x)
  where
    go : (b : Bool) → In (cond b (y ∷ filter p xs) (filter p xs)) x → (In (filter p xs) x → In xs x) → In (y ∷ xs) x
    go true (inl is) later = inl is
    go true (inr more) later = inr (later more)
    go false more later = inr (later more)

-- and what of the list passes is kept
is_kept : {X : Type 0} (p : X → Bool) (xs : List X) (x : X) → In xs x → p x ≡ true → In (filter p xs) x
is_kept p [] x there passes = there
is_kept p (y ∷ xs) x (inl at) passes = subst (λ (b : Bool). In (cond b (y ∷ filter p xs) (filter p xs)) x)
    (sym (ap p (sym at) ∙ passes)) (inl at)
is_kept p (y ∷ xs) x (inr more) passes = go (p y) (is_kept p xs x more passes)
  where
    go : (b : Bool) → In (filter p xs) x → In (cond b (y ∷ filter p xs) (filter p xs)) x
    go true k = inr k
    go false k = k

among_contained : (ns : List NodeId) (n : NodeId) → is_among ns n ≡ true → Contains ns n
among_contained ns n is = let at = in_among ns n is in
    (at.0, slice_get_within ns at.0 n at.1, get_or_from_slice_get ns at.0 n n at.1)

freed-append : (ts us : List Turn) → freed_by (ts ++ us) ≡ freed_by ts ++ freed_by us
freed-append [] us = refl
freed-append (t ∷ ts) us = ap (λ (ns : List NodeId). nodes_freed_of t.outcome ++ ns) (freed-append ts us)
    ∙ sym (append_assoc (nodes_freed_of t.outcome) (freed_by ts) (freed_by us))

-- what was freed was freed by all that was seen later
pub freed_longer : (run earlier : List Turn) (n : NodeId) → Extends run earlier → Contains (freed_by earlier) n
    → Contains (freed_by run) n
freed_longer run earlier n e there = subst (λ (ns : List NodeId). Contains ns n)
    (sym (ap freed_by e.is ∙ freed-append earlier e.more))
    (Contains-append_left (freed_by earlier) (freed_by e.more) n there)

-- ---- queues

queue_there : (k : Knowledge) (hs : List HeldQueue) (h : HeldQueue) → AreHeld k hs → Contains hs h
    → IsQueueOf k h.origin h.queue.items
queue_there k [] h are (i, below, at) = absurd (omega (arith, below))
queue_there k (g ∷ hs) h are (zero, below, at) = subst (λ (y : HeldQueue). IsQueueOf k y.origin y.queue.items) at are.0
queue_there k (g ∷ hs) h are (suc i, below, at) = queue_there k hs h are.2 (i, omega (arith, below), at)

-- the queue of the same origin
same_origin : (o : ℕ) (hs gs : List HeldQueue) (h : HeldQueue) → AllZip (OnlyLoses o) hs gs → Contains hs h
    → (g : HeldQueue) × Contains gs g × (g.origin ≡ h.origin)
same_origin o [] gs h lose (i, below, at) = absurd (omega (arith, below))
same_origin o (x ∷ hs) [] h lose there = absurd lose
same_origin o (x ∷ hs) (g ∷ gs) h lose (zero, below, at) =
    (g, (0, omega arith, refl), lose.0.0 ∙ ap (λ (y : HeldQueue). y.origin) at)
same_origin o (x ∷ hs) (g ∷ gs) h lose (suc i, below, at) =
    let rest = same_origin o hs gs h lose.1 (i, omega (arith, below), at) in
    let less = rest.1.1 in
    (rest.0, (suc rest.1.0, omega (arith, less), rest.1.2), rest.2)

-- what waits in a queue waits by what the worker has seen
module _ (v : WorkerView) (known : IsKnown v) (h : HeldQueue) (there : Contains v.queues h) where
  knows : of (after_in (ordered v.pass.view.layout) known.seen.events).state v.pass.view.number ≡ knowledge v.pass.view
  knows = logs_tell v.pass.view.layout known.seen.events v.pass.view.number known.seen.worker
      ∙ ap (known_by v.pass.view.layout v.pass.view.number)
      (ap (part_of v.pass.view.number) (sym known.seen.are) ∙ known.seen.is_part)

  waits : map (λ (e : Entry). e.node) h.queue.items ≡ waits_of h.origin v.pass.view.past
  waits = queue_waits v.pass.view.layout known.fits known.seen.events v.pass.view.number (knowledge v.pass.view) h
      knows (queue_there (knowledge v.pass.view) v.queues h known.between.queues there)
      ∙ ap (waits_of h.origin) (sym known.seen.are)

-- ---- what waited when a call began

module _ (w x : WorkerView) (q : PassView) (m : ℕ) (known : IsKnown w) (later : IsKnown x) (on : GoesOn m w x)
    (past : HasSeenAllOf q x.pass) where
  -- it was freed, if all that waited later was
  pub freed_now : ((g : HeldQueue) → Contains x.queues g → (e : Entry) → Contains g.queue.items e
      → Contains (freed_by q.view.past) e.node) → (h : HeldQueue) → Contains w.queues h → (e : Entry)
      → Contains h.queue.items e → Contains (freed_by q.view.past) e.node
  freed_now frees h there e waited = by (is_among (freed_by x.pass.view.past) e.node) refl
    where
      cut : In (cuts_of h.origin x.pass.view.past) e.node
      cut = subst (λ (ns : List NodeId). In ns e.node)
          (sym (ap (cuts_of h.origin) on.past.goes_on.is ∙ cuts-append h.origin w.pass.view.past on.past.goes_on.more))
          (in_left (cuts_of h.origin w.pass.view.past) (cuts_of h.origin on.past.goes_on.more) e.node
          (kept_in (λ n. not (is_among (freed_by w.pass.view.past) n)) (cuts_of h.origin w.pass.view.past) e.node
          (subst (λ (ns : List NodeId). In ns e.node) (waits w known h there)
          (in_map (λ (y : Entry). y.node) h.queue.items e (contained_in h.queue.items e waited)))))

      by : (b : Bool) → is_among (freed_by x.pass.view.past) e.node ≡ b → Contains (freed_by q.view.past) e.node
      by true freed = freed_longer q.view.past x.pass.view.past e.node past.goes_on
          (among_contained (freed_by x.pass.view.past) e.node freed)
      by false unfreed =
          let g = same_origin w.pass.view.number w.queues x.queues h on.queues there in
          let still = is_kept (λ n. not (is_among (freed_by x.pass.view.past) n)) (cuts_of h.origin x.pass.view.past)
          e.node cut (ap not unfreed) in
          let here = subst (λ (ns : List NodeId). In ns e.node)
          (ap (λ (o : ℕ). waits_of o x.pass.view.past) (sym g.2) ∙ sym (waits x later g.0 g.1)) still in
          let entry = in_mapped (λ (y : Entry). y.node) g.0.queue.items e.node here in
          subst (λ (n : NodeId). Contains (freed_by q.view.past) n) (sym entry.2)
          (frees g.0 g.1 entry.0 (in_contained g.0.queue.items entry.0 entry.1))
