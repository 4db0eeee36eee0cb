-- The ledger is the cuts: one holder each, retired is freed and then the queue, and what was
-- retired are the nodes of the replies.
use Rattle.std.proofs.Common.{◌≡◌, ℕ, ◌<◌, inl, inr, List, [], ◌∷◌, ◌++◌, map, replicate, append-nil, append_assoc, refl, sym, ap, ap₂, ◌∙◌, arith, get_or-set_same}
use Rattle.std.proofs.lemmas.List.{length-replicate, set_past}
use Rattle.std.specs.Prelude.{Option, Some, None, is_none, option_map, drop}
use Rattle.std.proofs.lemmas.Bool.{cond_both, cases_lt}
use Rattle.std.proofs.lemmas.Option.{none-some, same_Some}
use Rattle.nm_edge.specs.Layouts.{Layout}
use Rattle.nm_edge.specs.declared.node.NodeId.{NodeId}
use Rattle.nm_model.specs.declared.event.Event.{Event}
use Rattle.nm_model.specs.declared.ledger.Queued.{Queued}
use Rattle.nm_model.specs.declared.ledger.Ledger.{Ledger}
use Rattle.nm_model.specs.Ledgers.{held, unlabelled, with_label, labelled, fresh_ledger}
use Rattle.nm_model.specs.Runs.{State, of, start, after, trace, applied}
use Rattle.nm_model.specs.Knowledge.{newcomer}
use Rattle.nm_laws.proofs.Steps.{by_steps}
use Rattle.nm_laws.proofs.Pins.{all_new}
use Rattle.nm_laws.proofs.Holders.{none_held}
use Rattle.nm_model.specs.Laws.{EachLedgerHasOneHolder, OfEachLedger, node_in, IsFreedThenQueue, IsTheCuts, cuts_of}
use Rattle.nm_laws.proofs.Origins.{OriginStep, cut_at, ledger_at, Manned, manned_start, the_ledger, over_runs}
use Rattle.nm_laws.proofs.Origins.OriginStep.{Unchanged, Relabelled, Extended, Shortened}

pub same_layout : (s : State) (w : ℕ) (e : Event) → (applied s w e).layout ≡ s.layout
unfolding applied
same_layout s w e = refl

-- a run keeps its layout
pub layout_after : (L : Layout) (turns : List (ℕ × Event)) → (after (start L) turns).layout ≡ L
layout_after L turns = by_steps (λ s. s.layout ≡ L) (λ s w e is _. kept s w e is) turns (start L) refl
  where
    kept : (s : State) (w : ℕ) (e : Event) → s.layout ≡ L → (applied s w e).layout ≡ L
    kept s w e is = same_layout s w e ∙ is

-- what an origin's ledger retired; nothing, where there is none
abbrev pub retired_in : Option Ledger → List NodeId
retired_in None = []
retired_in (Some l) = l.retired

-- of a ledger that there is
abbrev pub Balanced : Option Ledger → Type 0
Balanced None = Unit {0}
Balanced (Some l) = l.retired ≡ l.freed ++ map node_in l.queue

-- the ledger of an origin is balanced, and what it retired was told
record Told (o : ℕ) (x : Option Ledger) (told : List NodeId) : Type 0 where
  balanced : Balanced x
  retired : retired_in x ≡ told

nodes_labelled : (e : ℕ) (q : List Queued) → map node_in (map (with_label e) q) ≡ map node_in q
nodes_labelled e [] = refl
nodes_labelled e (x ∷ q) = ap₂ (λ (n : NodeId) (ns : List NodeId). n ∷ ns)
    (cond_both (is_none x.label) (record { node = x.node; label = Some e }) x (λ y. y.node ≡ x.node) (λ _. refl)
    (λ _. refl)) (nodes_labelled e q)

nodes_cut_too : (q : List Queued) (ns : List NodeId) → map node_in (q ++ map unlabelled ns) ≡ map node_in q ++ ns
nodes_cut_too [] [] = refl
nodes_cut_too [] (n ∷ ns) = ap (λ (ms : List NodeId). n ∷ ms) (nodes_cut_too [] ns)
nodes_cut_too (e ∷ q) ns = ap (λ (ms : List NodeId). e.node ∷ ms) (nodes_cut_too q ns)

pub balanced_step : (s : State) (t : ℕ × Event) (o : ℕ) (before after : Option Ledger)
    → OriginStep s t o before after → Balanced before → Balanced after
balanced_step s t o before after (Unchanged is none) b = rw is b
balanced_step s t o before after (Relabelled is none) b = rw is (go before b)
  where
    go : (x : Option Ledger) → Balanced x → Balanced (option_map (labelled s.memory.epoch) x)
    go None b = tt
    go (Some l) b = b ∙ ap (λ (ns : List NodeId). l.freed ++ ns) (sym (nodes_labelled s.memory.epoch l.queue))
balanced_step s t o before after (Extended l ns was is _ cut _ _) b =
    let c = rw was at b in
    rw is (ap (λ (ms : List NodeId). ms ++ ns) c ∙ (append_assoc l.freed (map node_in l.queue) ns
    ∙ ap (λ (ms : List NodeId). l.freed ++ ms) (sym (nodes_cut_too l.queue ns))))
balanced_step s t o before after (Shortened l q rest was queue is _ none _ _) b =
    let c = rw was at b in
    rw is (c ∙ (ap (λ (es : List Queued). l.freed ++ map node_in es) queue
    ∙ (sym (append_assoc l.freed (q.node ∷ []) (map node_in rest))
    ∙ ap (λ (es : List Queued). (l.freed ++ q.node ∷ []) ++ map node_in es)
    (ap (λ (es : List Queued). drop 1 es) (sym queue)))))

pub retired_step : (s : State) (t : ℕ × Event) (o : ℕ) (before after : Option Ledger) → OriginStep s t o before after
    → retired_in after ≡ retired_in before ++ cut_at s t o
retired_step s t o before after (Unchanged is none) = rw (is, none) (sym (append-nil (retired_in before)))
retired_step s t o before after (Relabelled is none) = rw (is, none) (go before ∙ sym (append-nil (retired_in before)))
  where
    go : (x : Option Ledger) → retired_in (option_map (labelled s.memory.epoch) x) ≡ retired_in x
    go None = refl
    go (Some l) = refl
retired_step s t o before after (Extended l ns was is _ cut _ _) = rw (is, was, cut) refl
retired_step s t o before after (Shortened l q rest was queue is _ none _ _) = rw (is, was, none)
    (sym (append-nil l.retired))

keeps_told : (s : State) (t : ℕ × Event) (o : ℕ) (before after : Option Ledger) (told : List NodeId)
    → OriginStep s t o before after → Told o before told → Told o after (told ++ cut_at s t o)
keeps_told s t o before after told step p = record {
  balanced = balanced_step s t o before after step p.balanced;
  retired = retired_step s t o before after step ∙ ap (λ (ns : List NodeId). ns ++ cut_at s t o) p.retired;
}

-- at first each ledger is fresh
pub fresh_at_start : (L : Layout) (o : ℕ) (l : Ledger) → held (of (start L) o).ledgers o ≡ Some l → l ≡ fresh_ledger
fresh_at_start L o l is = elim (cases_lt o L.workers) [
  | inl below ↦ same_Some l fresh_ledger (sym new ∙ get_or-set_same (replicate L.workers None) o (Some fresh_ledger)
      None (let e = length-replicate {A = Option Ledger} L.workers None in omega arith))
  | inr past ↦ absurd (none-some l (sym (ap (λ ls. held ls o)
      (set_past (replicate L.workers None) o (Some fresh_ledger)
      (let e = length-replicate {A = Option Ledger} L.workers None in omega arith)) ∙ none_held L.workers o) ∙ new))
]
  where
    new : held (newcomer L o).ledgers o ≡ Some l
    new = ap (λ k. held k.ledgers o) (sym (all_new L o)) ∙ is

told_start : (L : Layout) (o : ℕ) → Told o (ledger_at (start L) (λ o. o) o) []
told_start L o = go (ledger_at (start L) (λ o. o) o) refl
  where
    go : (x : Option Ledger) → ledger_at (start L) (λ o. o) o ≡ x → Told o x []
    go None is = record { balanced = tt; retired = refl }
    go (Some l) is = let e = fresh_at_start L o l is in rw e (record { balanced = refl; retired = refl })

told : (L : Layout) (turns : List (ℕ × Event)) → (last : Manned (after (start L) turns))
    × ((o : ℕ) → Told o (ledger_at (after (start L) turns) last.holder o) (cuts_of o (trace (start L) turns)))
told L turns = over_runs Told keeps_told (start L) (manned_start L) turns (λ o. []) (told_start L)

of_ledger : (L : Layout) (turns : List (ℕ × Event)) (w o : ℕ) (l : Ledger)
    → held (of (after (start L) turns) w).ledgers o ≡ Some l → Told o (Some l) (cuts_of o (trace (start L) turns))
of_ledger L turns w o l is = let k = told L turns in rw (← the_ledger (after (start L) turns) k.0 w o l is) (k.1 o)

pub freed_then_queue : OfEachLedger (λ origin turns. IsFreedThenQueue)
freed_then_queue L turns w o l is = (of_ledger L turns w o l is).balanced

pub is_the_cuts : OfEachLedger IsTheCuts
is_the_cuts L turns w o l is = (of_ledger L turns w o l is).retired

pub each_ledger_has_one_holder : EachLedgerHasOneHolder
each_ledger_has_one_holder L turns o lt = record {
  holder = m.holder o;
  is_worker = m.holders.staff o inside;
  holds = m.holders.some o inside;
  only = λ w h. m.holders.only w o h;
}
  where
    m : Manned (after (start L) turns)
    m = (told L turns).0

    inside : o < (after (start L) turns).layout.workers
    inside = rw (layout_after L turns) lt
